-- A register gives its handle away, or gets a new one, or what is told of one.
use Rattle.zl_verify.proofs.Common.{ANY, Bool, Describes, Entry, Has, Holds, IsAs, IsState, Kind, KindOf, List, None, Option, Rights, RightsOf, SlotArray, Some}
use Rattle.zl_verify.proofs.Common.{State, Table, Word, ap, arith, cases_eq, cond, eq-eqb, eqb-true, false, get_or-set_other, if◌then◌else◌, inl, inr, is_has}
use Rattle.zl_verify.proofs.Common.{is_some, kind_in, length, nat_tests, one_if, owns, refl, rights_in, slice_index, slice_set, subst, sym, true, value_at}
use Rattle.zl_verify.proofs.Common.{with_value, ℕ, ◌+◌, ◌<◌, ◌==◌, ◌∙◌, ◌≡◌, ◌≢◌, ◌≤◌, ◌⊎◌}
use Rattle.zl_verify.proofs.Owners.{owns_it, owns_apart, owns_free, owns_0, one_at_most, owners-set, owners-zero, keepers-zero}
use Rattle.zl_verify.proofs.Writing.{nothing_at_0, others, write, write_plain}
use Rattle.zl_verify.proofs.Tagging.{test_apart}

-- the table without the handle h, and with one more at v
abbrev pub removed : ℕ → Table → Table
removed h f k = if h == k then None else f k

abbrev pub added : ℕ → Entry → Table → Table
added v e f k = if v == k then Some e else f k

none_and_some : (n : ℕ) → n ≡ 0 → 1 ≤ n → ⊥
none_and_some n z m = omega arith

module _ {f : Table} {s : State} {xs : List ℕ} {arrays : List SlotArray} {slots : List (List ℕ)} (h : Holds f s xs arrays slots) (states : IsState s) (r : ℕ)
    (lt : r < length s) where
  others_and : (v : ℕ) → others r s xs slots v + one_if (owns v (value_at s r) (slice_index xs r)) ≡ one_if (is_some (f v))
  others_and v =
      let none = owners-set v r s xs (Word 0) 0 h.width lt in
      let not = owns_0 v (Word 0) in
      let once = h.once v in
      omega arith

  -- the handle of register r leaves the table, if it is one, and the register becomes 0
  consume_by : ((y : ℕ) → y ≢ 0 → slice_index xs r ≡ y → owns y (value_at s r) (slice_index xs r) ≡ true)
      → Holds (removed (slice_index xs r) f) (with_value s r (Word 0)) (slice_set xs r 0) arrays slots
  consume_by its_own = write h states (removed (slice_index xs r) f) r lt (by_0 (slice_index xs r == 0)) same (Word 0) 0 (omega arith) (omega arith) counts
    where
      by_0 : (b : Bool) → cond b None (f 0) ≡ None
      by_0 true = refl
      by_0 false = nothing_at_0 h

      none_left : (y : ℕ) → slice_index xs r ≡ y → (y ≡ 0) ⊎ (y ≢ 0) → others r s xs slots y ≡ 0
      none_left y e (inl z) = rw (z, owners-zero (slice_set s r (Word 0)) (slice_set xs r 0), keepers-zero slots) refl
      none_left y e (inr some) =
          let owned : one_if (owns y (value_at s r) (slice_index xs r)) ≡ 1 = ap one_if (its_own y some e) in
          let both = others_and y in
          let most = one_at_most (is_some (f y)) in
          omega arith

      gone : (y : ℕ) → (slice_index xs r == y) ≡ true → others r s xs slots y ≡ 0
      gone y e = none_left y (eqb-true (slice_index xs r) y e) (cases_eq y 0)

      same_by : (y : ℕ) (b : Bool) → (slice_index xs r == y) ≡ b → 1 ≤ others r s xs slots y → cond b None (f y) ≡ f y
      same_by y true e many = absurd (none_and_some (others r s xs slots y) (gone y e) many)
      same_by y false e many = refl

      same : (y : ℕ) → 1 ≤ others r s xs slots y → removed (slice_index xs r) f y ≡ f y
      same y many = same_by y (slice_index xs r == y) refl many

      counts_by : (v : ℕ) (b : Bool) → (slice_index xs r == v) ≡ b → others r s xs slots v + one_if (owns v (Word 0) 0) ≡ one_if (is_some (cond b None (f v)))
      counts_by v true e = let none = gone v e in let not = owns_0 v (Word 0) in omega arith
      counts_by v false e =
          let both = others_and v in let other = owns_apart v (value_at s r) (slice_index xs r) e in let not = owns_0 v (Word 0) in omega arith

      counts : (v : ℕ) → others r s xs slots v + one_if (owns v (Word 0) 0) ≡ one_if (is_some (removed (slice_index xs r) f v))
      counts v = counts_by v (slice_index xs r == v) refl

  pub consume : (maybe : Bool) (kind : Option Kind) (rights : Rights) → value_at s r ≡ Has maybe kind rights
      → Holds (removed (slice_index xs r) f) (with_value s r (Word 0)) (slice_set xs r 0) arrays slots
  consume maybe kind rights is = consume_by (λ y some e. rw (is, e) (owns_it maybe kind rights y some))

  pub consume_0 : slice_index xs r ≡ 0 → Holds (removed (slice_index xs r) f) (with_value s r (Word 0)) (slice_set xs r 0) arrays slots
  consume_0 z = consume_by (λ y some e. absurd (some (sym e ∙ z)))

  -- ---- a register that has no handle

  module _ (free : is_has (value_at s r) ≡ false) where
    free_count : (v : ℕ) → others r s xs slots v ≡ one_if (is_some (f v))
    free_count v = let both = others_and v in let loose = owns_free v (value_at s r) (slice_index xs r) free in omega arith

    pub write_none : (kind : Option Kind) (rights : Rights) → Holds f (with_value s r (Has true kind rights)) (slice_set xs r 0) arrays slots
    write_none kind rights = write_plain h states r lt free (Has true kind rights) 0 (omega arith) (inl (refl, refl)) (λ v. owns_0 v (Has true kind rights))

    -- a new handle
    pub write_handle : (maybe : Bool) (kind : Option Kind) (rights : Rights) (x : ℕ) (e : Entry) → x ≤ ANY → 0 < x → f x ≡ None → IsAs kind rights (Some e)
        → Holds (added x e f) (with_value s r (Has maybe kind rights)) (slice_set xs r x) arrays slots
    write_handle maybe kind rights x e few some unused fits = write h states (added x e f) r lt zero same (Has maybe kind rights) x few here counts
      where
        apart : (x == 0) ≡ false
        apart = grind (arith, nat_tests)

        zero : added x e f 0 ≡ None
        zero = rw apart (nothing_at_0 h)

        none : (y : ℕ) → (x == y) ≡ true → others r s xs slots y ≡ 0
        none y t = free_count y ∙ ap (λ k. one_if (is_some (f k))) (sym (eqb-true x y t)) ∙ ap (λ o. one_if (is_some o)) unused

        same_by : (y : ℕ) (b : Bool) → (x == y) ≡ b → 1 ≤ others r s xs slots y → cond b (Some e) (f y) ≡ f y
        same_by y true t many = absurd (none_and_some (others r s xs slots y) (none y t) many)
        same_by y false t many = refl

        same : (y : ℕ) → 1 ≤ others r s xs slots y → added x e f y ≡ f y
        same y many = same_by y (x == y) refl many

        here : Describes (added x e f) (slice_set xs r x) (Has maybe kind rights) x
        here = inr (rw (eq-eqb x x refl) fits)

        not_0 : x ≡ 0 → ⊥
        not_0 z = omega arith

        counts_by : (v : ℕ) (b : Bool) → (x == v) ≡ b
            → others r s xs slots v + one_if (owns v (Has maybe kind rights) x) ≡ one_if (is_some (cond b (Some e) (f v)))
        counts_by v true t =
            let owned : one_if (owns v (Has maybe kind rights) x) ≡ 1 =
            subst (λ k. one_if (owns k (Has maybe kind rights) x) ≡ 1) (eqb-true x v t) (rw (owns_it maybe kind rights x (λ z. not_0 z)) refl) in
            let unowned = none v t in
            omega arith
        counts_by v false t = let both = free_count v in let other = owns_apart v (Has maybe kind rights) x t in omega arith

        counts : (v : ℕ) → others r s xs slots v + one_if (owns v (Has maybe kind rights) x) ≡ one_if (is_some (added x e f v))
        counts v = counts_by v (x == v) refl

    -- the kind or the rights of the handle in another register
    pub write_kind : (t x : ℕ) → t ≢ r → x ≤ ANY → x ≡ kind_in (f (slice_index xs t)) → Holds f (with_value s r (KindOf t)) (slice_set xs r x) arrays slots
    write_kind t x apart few e =
        write_plain h states r lt free (KindOf t) x few (rw (test_apart t r apart) (e ∙ ap (λ k. kind_in (f k)) (sym (get_or-set_other xs r t x 0 apart))))
        (λ v. owns_free v (KindOf t) x refl)

    pub write_rights : (t x : ℕ) → t ≢ r → x ≤ ANY → x ≡ rights_in (f (slice_index xs t))
        → Holds f (with_value s r (RightsOf t)) (slice_set xs r x) arrays slots
    write_rights t x apart few e =
        write_plain h states r lt free (RightsOf t) x few (rw (test_apart t r apart) (e ∙ ap (λ k. rights_in (f k)) (sym (get_or-set_other xs r t x 0 apart))))
        (λ v. owns_free v (RightsOf t) x refl)
