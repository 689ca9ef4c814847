use Rattle.zl_trace.proofs.Common.{Err, List, Ok, OnOk, Result, [], ap, append_assoc, arith, decimal, decimal_digit, if◌then◌else◌, string_bytes, sym, ℕ, ◌++◌}
use Rattle.zl_trace.proofs.Common.{◌∙◌, ◌∷◌, ◌≡◌}
use Rattle.std.specs.Result.{is_ok}
use Rattle.zl_trace.proofs.lines.push_run.Goals as goal

abbrev behind : List ℕ → List ℕ
behind digits = 32 ∷ 114 ∷ 117 ∷ 110 ∷ 32 ∷ (digits ++ (10 ∷ []))

one_piece : (old digits : List ℕ) (count : ℕ) → count ≡ 1 → (old ++ digits) ++ behind (49 ∷ []) ≡ old ++ (digits ++ behind (decimal count))
one_piece old digits count is = rw is (append_assoc old digits (behind (49 ∷ []))
    ∙ ap (λ (one : List ℕ). old ++ (digits ++ behind one)) (sym (decimal_digit 1 (omega arith))))

when_ok : {A E : Type 0} (r : Result A E) (new done left wanted : List ℕ) → new ≡ (if is_ok r then done else left) → done ≡ wanted → OnOk r (new ≡ wanted)
when_ok (Ok v) new done left wanted is same = is ∙ same
when_ok (Err e) new done left wanted is same = tt

pub returns-then-count-eq1 : goal.returns-then-count-eq1
returns-then-count-eq1 c = when_ok c.push_str.result _ _ _ _ c.push_str.ensures.bytes
    (ap (λ (start : List ℕ). start ++ behind (49 ∷ [])) c.in_ok-push_number.ensures
    ∙ one_piece (string_bytes c.args.text.now) (decimal c.args.pid) c.args.count c.if-count-eq1.true)
