-- One destination more among the registers of a call.
use Rattle.zl_abs.proofs.Common.{AbsVal, Bool, List, [], ap, append_assoc, arith, drop, false, field_of, get_or, is_written, length, length-append, refl, sym}
use Rattle.zl_abs.proofs.Common.{true, zip, ℕ, ◌++◌, ◌+◌, ◌<◌, ◌∙◌, ◌∷◌, ◌≡◌, ◌≤◌}
use Rattle.zl_code.specs.declared.layout.Field.{Field}
use Rattle.zl_abs.proofs.StateSteps.{Stands, drop_here}
use Rattle.zl_abs.proofs.CallSteps.{register_at, those_from, those_step}

-- what comes from a field and a value on
abbrev pub written_from : List Field → List ℕ → List AbsVal → ℕ → ℕ → List (ℕ × AbsVal)
written_from fs rs values i n = zip (those_from is_written fs rs i) (drop n values)

-- these stand in front of what is to come
abbrev pub IsBegun : List Field → List ℕ → List AbsVal → List (ℕ × AbsVal) → ℕ → List (ℕ × AbsVal) → Type 0
IsBegun fs rs values all i done = (length done ≤ i) × (done ++ written_from fs rs values i (length done) ≡ all)

module _ (fs : List Field) (rs : List ℕ) (values : List AbsVal) (all done : List (ℕ × AbsVal)) (i : ℕ) (d : Field) (b : Bool)
    (begun : IsBegun fs rs values all i done) (h : i < length fs) (few : length fs ≤ 7) (long : length rs ≡ 7)
    (is : b ≡ is_written (field_of (get_or fs i d))) where
  pub written_skip : b ≡ false → IsBegun fs rs values all (i + 1) done
  written_skip e =
      let same : written_from fs rs values (i + 1) (length done) ≡ written_from fs rs values i (length done) =
      rw (those_step is_written fs rs i d h, sym is, e) refl in
      (omega (arith, begun.0), ap (λ (more : List (ℕ × AbsVal)). done ++ more) same ∙ begun.1)

  pub written_more : (r : ℕ) (v : AbsVal) (next : List (ℕ × AbsVal)) → b ≡ true → Stands rs i r → length values ≡ 7 → Stands values (length done) v
      → next ≡ done ++ (r, v) ∷ [] → IsBegun fs rs values all (i + 1) next
  written_more r v next e q wide p pushed =
      let size : length next ≡ length done + 1 = rw pushed (length-append done ((r, v) ∷ [])) in
      let less : length done < length values = omega (arith, h, few, wide, begun.0) in
      let here : (r, v) ∷ written_from fs rs values (i + 1) (length done + 1) ≡ written_from fs rs values i (length done) =
      rw (those_step is_written fs rs i d h, register_at rs i r (omega (arith, h, few, long)) q, sym is, e, drop_here values (length done) v less p) refl in
      let more = ap (λ (l : List (ℕ × AbsVal)). done ++ l) here ∙ begun.1 in
      (omega (arith, size, begun.0), rw (size, pushed) (append_assoc done ((r, v) ∷ []) (written_from fs rs values (i + 1) (length done + 1)) ∙ more))
