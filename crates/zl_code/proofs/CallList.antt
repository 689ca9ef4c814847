-- The list of all calls: each stands at its opcode, and the rows from 64 on are theirs.
use Rattle.zl_code.proofs.Common.{Bool, CallName, HoldsAt, IfNone, IfSome, List, MatchOption, None, Option, Row, Some, [], and_parts, ap, arith, call_row}
use Rattle.zl_code.proofs.Common.{calls, eq-eqb, eqb-true, length, list_all, ltb-true, map, nat_lt, ne_eqb, option_copied, option_map, refl, row_among, row_of}
use Rattle.zl_code.proofs.Common.{rows, slice_get, subst, suc, sym, take, true, zero, ℕ, ◌&&◌, ◌++◌, ◌+◌, ◌-◌, ◌<◌, ◌==◌, ◌∙◌, ◌∷◌, ◌≡◌, ◌≤◌}
use Rattle.std.specs.Borrow.{Bor}
use Rattle.std.specs.Slice.{IsItemAt}
use Rattle.zl_code.specs.declared.history.CallName.TheVariants as call

-- the opcodes of the calls ascend by one, from this one on
abbrev ascend : ℕ → List CallName → Bool
ascend n [] = true
ascend n (c ∷ cs) = ((call_row c).opcode == n) && ascend (n + 1) cs

-- such a call has the opcode of its place
opcode_at : (n : ℕ) (cs : List CallName) (i : ℕ) (c : CallName) → ascend n cs ≡ true → slice_get cs i ≡ Some c → (call_row c).opcode ≡ n + i
opcode_at n [] i c up at = absurd cc
opcode_at n (x ∷ cs) zero c up at =
    let p = and_parts ((call_row x).opcode == n) (ascend (n + 1) cs) up in
    let same : x ≡ c = cc in
    subst (λ (y : CallName). (call_row y).opcode ≡ n + 0) same (omega (arith, eqb-true (call_row x).opcode n p.0))
opcode_at n (x ∷ cs) (suc i) c up at =
    let p = and_parts ((call_row x).opcode == n) (ascend (n + 1) cs) up in
    omega (arith, opcode_at (n + 1) cs i c p.1 at)

-- among their rows that of the opcode stands at its place
row_at : (n : ℕ) (cs : List CallName) (i opcode : ℕ) → ascend n cs ≡ true → n + i ≡ opcode
    → row_among (map call_row cs) opcode ≡ option_map call_row (slice_get cs i)
row_at n [] i opcode up at = refl
row_at n (c ∷ cs) zero opcode up at =
    let p = and_parts ((call_row c).opcode == n) (ascend (n + 1) cs) up in
    let same : (call_row c).opcode ≡ opcode = omega (arith, eqb-true (call_row c).opcode n p.0, at) in
    rw (eq-eqb (call_row c).opcode opcode same) refl
row_at n (c ∷ cs) (suc i) opcode up at =
    let p = and_parts ((call_row c).opcode == n) (ascend (n + 1) cs) up in
    let is : (call_row c).opcode ≡ n = eqb-true (call_row c).opcode n p.0 in
    rw (ne_eqb (call_row c).opcode opcode (λ e. omega (arith, is, at, e))) (row_at (n + 1) cs i opcode p.1 (omega (arith, at)))

-- no row of a lower opcode is found
row_behind : (rs us : List Row) (opcode : ℕ) → list_all (λ r. nat_lt r.opcode 64) rs ≡ true → 64 ≤ opcode → row_among (rs ++ us) opcode ≡ row_among us opcode
row_behind [] us opcode low from = refl
row_behind (r ∷ rs) us opcode low from =
    let p = and_parts (nat_lt r.opcode 64) (list_all (λ r. nat_lt r.opcode 64) rs) low in
    let below : r.opcode < 64 = ltb-true r.opcode 64 p.0 in
    rw (ne_eqb r.opcode opcode (λ e. omega (arith, below, from, e))) (row_behind rs us opcode p.1 from)

row_listed : (opcode : ℕ) → 64 ≤ opcode → row_of opcode ≡ option_map call_row (slice_get calls (opcode - 64))
unfolding row_of
row_listed opcode from = row_behind (take 27 rows) (map call_row calls) opcode refl from ∙ row_at 64 calls (opcode - 64) opcode refl (omega (arith, from))

-- ---- the call of an opcode

-- what get lends of a list is the element at the place
pub copied_at : {X : Type 0} (xs : List X) (i : ℕ) (r : Option (Bor X)) → IsItemAt xs i r → option_copied r ≡ slice_get xs i
copied_at {X} xs i r item = by xs i r item.3
  where
    by : (xs : List X) (i : ℕ) (r : Option (Bor X)) → MatchOption r (length xs ≤ i) (λ x. (i < length xs) × HoldsAt (λ y. x.now ≡ y) xs i)
        → option_copied r ≡ slice_get xs i
    by [] i None past = refl
    by [] i (Some x) there = absurd (omega (arith, there.0))
    by (y ∷ xs) zero None past = absurd (omega (arith, past))
    by (y ∷ xs) zero (Some x) there = ap Some (there.1 y)
    by (y ∷ xs) (suc i) None past = by xs i None (omega (arith, past))
    by (y ∷ xs) (suc i) (Some x) there = by xs i (Some x) (omega (arith, there.0), there.1)

pub call_found : (opcode : ℕ) (o : Option CallName) → 64 ≤ opcode → o ≡ slice_get calls (opcode - 64) → IfSome o (λ c. row_of opcode ≡ Some (call_row c))
call_found opcode None from is = tt
call_found opcode (Some c) from is = row_listed opcode from ∙ ap (option_map call_row) (sym is)

pub call_numbered : (opcode : ℕ) (o : Option CallName) → 64 ≤ opcode → o ≡ slice_get calls (opcode - 64) → IfSome o (λ c. (call_row c).opcode ≡ opcode)
call_numbered opcode None from is = tt
call_numbered opcode (Some c) from is = omega (arith, from, opcode_at 64 calls (opcode - 64) c refl (sym is))

pub no_call : (opcode : ℕ) (o : Option CallName) → 64 ≤ opcode → o ≡ slice_get calls (opcode - 64) → IfNone o (row_of opcode ≡ None)
no_call opcode None from is = row_listed opcode from ∙ ap (option_map call_row) (sym is)
no_call opcode (Some c) from is = tt

-- ---- each call stands in it

call_at : (c : CallName) → slice_get calls ((call_row c).opcode - 64) ≡ Some c
call_at call.Close = refl
call_at _ = refl

pub call_among : (c : CallName) → (i : ℕ) × (slice_get calls i ≡ Some c)
call_among c = ((call_row c).opcode - 64, call_at c)
