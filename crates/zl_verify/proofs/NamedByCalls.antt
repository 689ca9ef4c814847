-- A call neither takes nor gets a register that none of its fields, its list or its triples name.
use Rattle.zl_verify.proofs.Common.{AbsVal, Bool, CallInstr, Ending, List, None, Operand, Option, Some, State, [], arith, call_row, eqb, false, filter, goes_on}
use Rattle.zl_verify.proofs.Common.{if◌then◌else◌, is_result, leb, length, ltb, nat_tests, number_at, operands_at, operands_listed, received_in, refl}
use Rattle.zl_verify.proofs.Common.{slice_index, suc, sym, take, triple_results, true, uses_of, zero, zip, ℕ, ◌&&◌, ◌*◌, ◌++◌, ◌+◌, ◌<◌, ◌||◌, ◌∙◌, ◌∷◌, ◌≡◌}
use Rattle.zl_verify.proofs.Common.{◌≢◌, ◌≤◌}
use Rattle.zl_code.specs.Asked.{those, is_written, listed_in, triples_in, triples_from}
use Rattle.zl_code.specs.Instructions.{Field, reads, writes, changes, names, consumes, closes, triples}
use Rattle.zl_code.specs.Refusals.{operand_by}
use Rattle.zl_code.specs.declared.layout.Ending.TheVariants as ending
use Rattle.zl_verify.specs.Handing.{CallKeeps, call_hands_on, is_in_triples, is_listed, is_named_by, is_one, is_received, is_taken_at}

-- the registers of the fields, where the first field is that of the n-th register
abbrev pub all_of : List Field → ℕ → List ℕ → List ℕ
all_of [] n rs = []
all_of (f ∷ fs) n rs = slice_index rs n ∷ all_of fs (suc n) rs

or_parts : (a b : Bool) → (a || b) ≡ false → (a ≡ false) × (b ≡ false)
or_parts true b e = let z : true ≡ false = e in cc
or_parts false b e = (refl, e)

or_both : (a b : Bool) → a ≡ false → b ≡ false → (a || b) ≡ false
or_both a b e f = rw (e, f) refl

those_less : (test : Field → Bool) (r : ℕ) (fs : List Field) (n : ℕ) (rs : List ℕ) → is_one r (all_of fs n rs) ≡ false → is_one r (those test fs n rs) ≡ false
those_less test r [] n rs e = refl
those_less test r (f ∷ fs) n rs e =
    let p = or_parts (eqb (slice_index rs n) r) (is_one r (all_of fs (suc n) rs)) e in by (test f) p.0 (those_less test r fs (suc n) rs p.1)
  where
    by : (b : Bool) → eqb (slice_index rs n) r ≡ false → is_one r (those test fs (suc n) rs) ≡ false
        → is_one r (if b then slice_index rs n ∷ those test fs (suc n) rs else those test fs (suc n) rs) ≡ false
    by true e k = or_both (eqb (slice_index rs n) r) (is_one r (those test fs (suc n) rs)) e k
    by false e k = k

zip_less : (r : ℕ) (xs : List ℕ) (vs : List AbsVal) → is_one r xs ≡ false → is_result (zip xs vs) r ≡ false
zip_less r [] vs e = refl
zip_less r (x ∷ xs) [] e = refl
zip_less r (x ∷ xs) (v ∷ vs) e =
    let p = or_parts (eqb x r) (is_one r xs) e in or_both (eqb x r) (is_result (zip xs vs) r) p.0 (zip_less r xs vs p.1)

both_less : (r : ℕ) (xs ys : List (ℕ × AbsVal)) → is_result xs r ≡ false → is_result ys r ≡ false → is_result (xs ++ ys) r ≡ false
both_less r [] ys e k = k
both_less r (x ∷ xs) ys e k =
    let p = or_parts (eqb x.0 r) (is_result xs r) e in or_both (eqb x.0 r) (is_result (xs ++ ys) r) p.0 (both_less r xs ys p.1 k)

triples_less : (r g n : ℕ) → is_one r (triples_from g n) ≡ false → is_result (triple_results g n) r ≡ false
triples_less r g zero e = refl
triples_less r g (suc n) e =
    let p = or_parts (eqb g r) _ e in
    let q = or_parts (eqb (g + 1) r) _ p.1 in
    let s = or_parts (eqb (g + 2) r) _ q.1 in
    or_both (eqb g r) _ p.0 (or_both (eqb (g + 1) r) _ q.0 (or_both (eqb (g + 2) r) _ s.0 (triples_less r (g + 3) n s.1)))

received_less : (r : ℕ) (x : CallInstr) (end : Ending) → is_one r (triples_in end x) ≡ false → is_result (received_in end x) r ≡ false
received_less r x ending.Room e = triples_less r (slice_index x.registers 6) (number_at x.last 0 4) e
received_less r x _ e = refl

taken_both : (r : ℕ) (os ps : List Operand) → is_taken_at os r ≡ false → is_taken_at ps r ≡ false → is_taken_at (os ++ ps) r ≡ false
unfolding is_taken_at
taken_both r [] ps e k = k
taken_both r (o ∷ os) ps e k =
    let p = or_parts (o.is_taken && eqb o.value r) (is_taken_at os r) e in
    or_both (o.is_taken && eqb o.value r) (is_taken_at (os ++ ps) r) p.0 (taken_both r os ps p.1 k)

field_less : (r h : ℕ) (f : Field) → eqb h r ≡ false → is_taken_at (operand_by f h) r ≡ false
unfolding is_taken_at
field_less r h reads e = refl
field_less r h writes e = refl
field_less r h changes e = refl
field_less r h (names kinds rights) e = refl
field_less r h (consumes kinds rights) e = rw e refl
field_less r h closes e = rw e refl
field_less r h triples e = refl

operands_less : (r : ℕ) (fs : List Field) (n : ℕ) (rs : List ℕ) → is_one r (all_of fs n rs) ≡ false → is_taken_at (operands_at fs n rs) r ≡ false
unfolding is_taken_at
operands_less r [] n rs e = refl
operands_less r (f ∷ fs) n rs e =
    let p = or_parts (eqb (slice_index rs n) r) (is_one r (all_of fs (suc n) rs)) e in
    taken_both r (operand_by f (slice_index rs n)) (operands_at fs (suc n) rs) (field_less r (slice_index rs n) f p.0) (operands_less r fs (suc n) rs p.1)

listed_less : (r : ℕ) (o : Option Field) (hs : List ℕ) → is_one r hs ≡ false → is_taken_at (operands_listed o hs) r ≡ false
unfolding is_taken_at
listed_less r None hs e = refl
listed_less r (Some f) [] e = refl
listed_less r (Some f) (h ∷ hs) e =
    let p = or_parts (eqb h r) (is_one r hs) e in
    taken_both r (operand_by f h) (operands_listed (Some f) hs) (field_less r h f p.0) (listed_less r (Some f) hs p.1)

-- the registers that the call names, by the code alone
abbrev pub named_by : CallInstr → List ℕ
named_by x = all_of (call_row x.name).fields 0 x.registers ++ (listed_in (call_row x.name).ending x ++ triples_in (call_row x.name).ending x)

one_parts : (r : ℕ) (xs ys : List ℕ) → is_one r (xs ++ ys) ≡ false → (is_one r xs ≡ false) × (is_one r ys ≡ false)
one_parts r [] ys e = (refl, e)
one_parts r (x ∷ xs) ys e =
    let p = or_parts (eqb x r) (is_one r (xs ++ ys)) e in
    let q = one_parts r xs ys p.1 in
    (or_both (eqb x r) (is_one r xs) p.0 q.0, q.1)

-- such a call that goes on hands the register on, whatever is known
not_named : (bounds : List ℕ) (s : State) (x : CallInstr) (r : ℕ) → goes_on x.name ≡ true → is_one r (named_by x) ≡ false
    → call_hands_on (goes_on x.name) (uses_of bounds s x) r ≡ true
unfolding uses_of
not_named bounds s x r g e =
    let p = one_parts r (all_of (call_row x.name).fields 0 x.registers) _ e in
    let q = one_parts r (listed_in (call_row x.name).ending x) (triples_in (call_row x.name).ending x) p.1 in
    let t : is_taken_at (uses_of bounds s x).operands r ≡ false =
    taken_both r (operands_at (call_row x.name).fields 0 x.registers) _ (operands_less r (call_row x.name).fields 0 x.registers p.0)
    (listed_less r (call_row x.name).in_list (listed_in (call_row x.name).ending x) q.0) in
    let u : is_result (uses_of bounds s x).results r ≡ false =
    both_less r _ (received_in (call_row x.name).ending x)
    (zip_less r (those is_written (call_row x.name).fields 0 x.registers) _ (those_less is_written r (call_row x.name).fields 0 x.registers p.0))
    (received_less r x (call_row x.name).ending q.1) in
    rw (g, t, u) refl

-- ---- by what the code looks at

not_at : (r : ℕ) (rs : List ℕ) (c k : ℕ) → is_one r (take c rs) ≡ false → k < c → k < length rs → eqb (slice_index rs k) r ≡ false
not_at r [] c k e h l = absurd (omega arith)
not_at r (x ∷ rs) zero k e h l = absurd (omega arith)
not_at r (x ∷ rs) (suc c) zero e h l = (or_parts (eqb x r) (is_one r (take c rs)) e).0
not_at r (x ∷ rs) (suc c) (suc k) e h l = not_at r rs c k (or_parts (eqb x r) (is_one r (take c rs)) e).1 (omega arith) (omega arith)

all_less : (r : ℕ) (fs : List Field) (n : ℕ) (rs : List ℕ) → ((k : ℕ) → n ≤ k → k < n + length fs → eqb (slice_index rs k) r ≡ false)
    → is_one r (all_of fs n rs) ≡ false
all_less r [] n rs f = refl
all_less r (f ∷ fs) n rs g =
    or_both (eqb (slice_index rs n) r) (is_one r (all_of fs (suc n) rs)) (g n (omega arith) (omega arith))
    (all_less r fs (suc n) rs (λ k a b. g k (omega arith) (omega arith)))

filter_less : (r : ℕ) (test : ℕ → Bool) (xs : List ℕ) → is_one r xs ≡ false → is_one r (filter test xs) ≡ false
filter_less r test [] e = refl
filter_less r test (x ∷ xs) e = let p = or_parts (eqb x r) (is_one r xs) e in by (test x) p.0 (filter_less r test xs p.1)
  where
    by : (b : Bool) → eqb x r ≡ false → is_one r (filter test xs) ≡ false → is_one r (if b then x ∷ filter test xs else filter test xs) ≡ false
    by true e k = or_both (eqb x r) (is_one r (filter test xs)) e k
    by false e k = k

list_less : (end : Ending) (x : CallInstr) (r : ℕ) → is_listed end x r ≡ false → is_one r (listed_in end x) ≡ false
list_less ending.Handles x r e = filter_less r _ x.last e
list_less _ x r e = refl

apart : (a r : ℕ) → a ≢ r → eqb a r ≡ false
apart a r d = grind (arith, nat_tests)

triples_apart : (r g n : ℕ) → (g ≤ r → r < g + 3 * n → ⊥) → is_one r (triples_from g n) ≡ false
triples_apart r g zero f = refl
triples_apart r g (suc n) f =
    or_both (eqb g r) _ (apart g r (λ e. f (omega arith) (omega arith))) (or_both (eqb (g + 1) r) _ (apart (g + 1) r (λ e. f (omega arith) (omega arith)))
    (or_both (eqb (g + 2) r) _ (apart (g + 2) r (λ e. f (omega arith) (omega arith)))
    (triples_apart r (g + 3) n (λ a b. f (omega arith) (omega arith)))))

outside : (g n r : ℕ) → is_in_triples g n r ≡ false → g ≤ r → r < g + 3 * n → ⊥
outside g n r e a b = let t : (leb g r && ltb r (g + 3 * n)) ≡ true = grind (arith, nat_tests) in let z : false ≡ true = sym e ∙ t in cc

triple_less : (end : Ending) (x : CallInstr) (r : ℕ) → is_received end x r ≡ false → is_one r (triples_in end x) ≡ false
triple_less ending.Room x r e =
    triples_apart r (slice_index x.registers 6) (number_at x.last 0 4) (outside (slice_index x.registers 6) (number_at x.last 0 4) r e)
triple_less _ x r e = refl

one_both : (r : ℕ) (xs ys : List ℕ) → is_one r xs ≡ false → is_one r ys ≡ false → is_one r (xs ++ ys) ≡ false
one_both r [] ys e k = k
one_both r (x ∷ xs) ys e k =
    let p = or_parts (eqb x r) (is_one r xs) e in or_both (eqb x r) (is_one r (xs ++ ys)) p.0 (one_both r xs ys p.1 k)

-- a call that goes on keeps each register that isn't one of these
pub unnamed : (x : CallInstr) (r : ℕ) (fs : List Field) (end : Ending) (count : ℕ) → (call_row x.name).fields ≡ fs → (call_row x.name).ending ≡ end
    → length fs ≡ count → goes_on x.name ≡ true → count ≤ length x.registers → is_named_by count end x r ≡ false → CallKeeps x r
unnamed x r fs end count e k l g h n =
    let p = or_parts (is_one r (take count x.registers)) (is_listed end x r || is_received end x r) n in
    let q = or_parts (is_listed end x r) (is_received end x r) p.1 in
    λ bounds s. not_named bounds s x r g
    (rw (e, k) (one_both r (all_of fs 0 x.registers) (listed_in end x ++ triples_in end x)
    (all_less r fs 0 x.registers (λ j a b. not_at r x.registers count j p.0 (omega arith) (omega arith)))
    (one_both r (listed_in end x) (triples_in end x) (list_less end x r q.0) (triple_less end x r q.1))))
