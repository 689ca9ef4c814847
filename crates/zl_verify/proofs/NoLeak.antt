-- The table of a process that conforms has just its handles, each in one place, and so it is in every run.
use Rattle.zl_verify.proofs.Common.{AllByRecursion, Bool, Conforms, Contains, HasEnded, HoldsJustItsHandles, Image, IsDistinct, IsTyping, IsUnderWay, List}
use Rattle.zl_verify.proofs.Common.{Option, Process, State, World, [], ap, arith, concat, eq-eqb, false, filter, filter-append, get, handle_values, has_ended}
use Rattle.zl_verify.proofs.Common.{if◌then◌else◌, inl, inr, is_has, is_in_range, is_it, is_some, keepers, length, nat_lt, nat_tests, one_if, owners, owns}
use Rattle.zl_verify.proofs.Common.{refl, same_Some, slice_index_or, subst, suc, sum_by-cons, sym, true, values_in_registers, values_in_slots, zero, ℕ, ◌&&◌}
use Rattle.zl_verify.proofs.Common.{◌++◌, ◌+◌, ◌<◌, ◌==◌, ◌↔◌, ◌∙◌, ◌∷◌, ◌≡◌, ◌≤◌, ◌⊎◌}
use Rattle.zl_verify.specs.NoLeak.{NeverLeaks}
use Rattle.zl_verify.proofs.CheckedRuns.{stays_so}
use Rattle.zl_verify.proofs.Headline.{in_range, started_under_way}
use Rattle.zl_verify.proofs.Owners.{one_at_most, places_with}
use Rattle.zl_verify.proofs.Woken.{not_over}

-- ---- how often a number stands in a list

abbrev times : ℕ → List ℕ → ℕ
times v [] = 0
times v (x ∷ xs) = one_if (x == v) + times v xs

times-append : (v : ℕ) (xs ys : List ℕ) → times v (xs ++ ys) ≡ times v xs + times v ys
times-append v [] ys = omega arith
times-append v (x ∷ xs) ys = let k = times-append v xs ys in omega arith

-- a number that is taken where a test passes counts where it does
one_taken : (v x : ℕ) (b c : Bool) (xs : List ℕ) → times v (if b && c then x ∷ xs else xs) ≡ one_if (b && ((x == v) && c)) + times v xs
one_taken v x true true xs = by (x == v)
  where
    by : (e : Bool) → one_if e + times v xs ≡ one_if (e && true) + times v xs
    by true = refl
    by false = refl
one_taken v x true false xs = by (x == v)
  where
    by : (e : Bool) → times v xs ≡ one_if (e && false) + times v xs
    by true = omega arith
    by false = omega arith
one_taken v x false c xs = omega arith

owners_counted : (v : ℕ) (s : State) (xs : List ℕ) → owners v s xs ≡ times v (values_in_registers s xs)
unfolding owners owns values_in_registers
owners_counted v [] xs = refl
owners_counted v (a ∷ s) [] = refl
owners_counted v (a ∷ s) (x ∷ xs) =
    ap (λ n. one_if (owns v a x) + n) (owners_counted v s xs) ∙ sym (one_taken v x (is_has a) (nat_lt 0 x) (values_in_registers s xs))

array_counted : (v : ℕ) (places : List ℕ) → places_with v places ≡ times v (filter (nat_lt 0) places)
array_counted v [] = refl
array_counted v (x ∷ places) =
    sum_by-cons (λ y. one_if (is_it v y)) x places ∙ ap (λ n. one_if (is_it v x) + n) (array_counted v places)
    ∙ sym (one_taken v x true (nat_lt 0 x) (filter (nat_lt 0) places))

keepers_counted : (v : ℕ) (slots : List (List ℕ)) → keepers v slots ≡ times v (values_in_slots slots)
unfolding keepers values_in_slots
keepers_counted v [] = refl
keepers_counted v (places ∷ slots) =
    let all = sum_by-cons (places_with v) places slots in
    let one = array_counted v places in
    let rest = keepers_counted v slots in
    let both = ap (times v) (filter-append (nat_lt 0) places (concat slots)) ∙ times-append v (filter (nat_lt 0) places) (filter (nat_lt 0) (concat slots)) in
    omega arith

-- ---- what stands in it

contained : (v : ℕ) (xs : List ℕ) → 1 ≤ times v xs → Contains xs v
contained v [] h = absurd (omega arith)
contained v (x ∷ xs) h = by (x == v) refl (contained v xs)
  where
    by : (e : Bool) → (x == v) ≡ e → (1 ≤ times v xs → Contains xs v) → Contains (x ∷ xs) v
    by true e more = (0, omega arith, grind (arith, nat_tests))
    by false e more =
        let none : one_if (x == v) ≡ 0 = rw e refl in
        let (k, inside, is) = more (omega arith) in
        (suc k, omega arith, is)

counted_at : (v : ℕ) (xs : List ℕ) (k : ℕ) → k < length xs → slice_index_or xs k v ≡ v → 1 ≤ times v xs
counted_at v [] k inside is = absurd (omega arith)
counted_at v (x ∷ xs) zero inside is =
    let here : one_if (x == v) ≡ 1 = rw is (ap one_if (eq-eqb v v refl)) in
    omega arith
counted_at v (x ∷ xs) (suc k) inside is = let n = counted_at v xs k (omega arith) is in omega arith

apart_from : (v : ℕ) (xs : List ℕ) → times v xs ≡ 0 → AllByRecursion (λ x. (v == x) ≡ false) xs
apart_from v [] e = tt
apart_from v (x ∷ xs) e = (by (x == v) refl (omega arith), apart_from v xs (omega arith))
  where
    by : (b : Bool) → (x == v) ≡ b → one_if (x == v) ≡ 0 → (v == x) ≡ false
    by true is none = absurd (apart (sym (ap one_if is) ∙ none))
      where
        apart : one_if true ≡ 0 → ⊥
        apart e = omega arith
    by false is none = grind (arith, nat_tests)

distinct : (xs : List ℕ) → ((v : ℕ) → times v xs ≤ 1) → IsDistinct ◌==◌ xs
unfolding IsDistinct
distinct [] few = tt
distinct (x ∷ xs) few =
    let here : one_if (x == x) ≡ 1 = grind (arith, nat_tests) in
    (apart_from x xs (let h = few x in omega arith), distinct xs (λ v. let h = few v in omega arith))

-- ---- a process

-- what conforming counts is what is listed
pub holds_just_its_handles : (i : Image) (t : ℕ → Option State) (w : World) (p : ℕ) (q : Process) → Conforms i t w p q → HoldsJustItsHandles t q
holds_just_its_handles i t w p q k = record { state = k.state; stands = k.stands; exactly = exactly; once = distinct values few }
  where
    values : List ℕ
    values = handle_values k.state q.cpu

    counted : (v : ℕ) → times v values ≡ one_if (is_some (get q.handles v))
    counted v =
        times-append v (values_in_registers k.state q.cpu.registers) (values_in_slots q.cpu.slots)
        ∙ (λ i. sym (owners_counted v k.state q.cpu.registers) i + sym (keepers_counted v q.cpu.slots) i) ∙ k.holds.once v

    few : (v : ℕ) → times v values ≤ 1
    few v = let n = counted v in let h = one_at_most (is_some (get q.handles v)) in omega arith

    exactly : (v : ℕ) → ((is_some (get q.handles v) ≡ true) ↔ Contains values v)
    exactly v = (
      λ h. contained v values (let n = counted v ∙ ap one_if h in omega arith),
      λ (n, inside, is). by (is_some (get q.handles v)) (counted v) (counted_at v values n inside is),
    )
      where
        by : (b : Bool) → times v values ≡ one_if b → 1 ≤ times v values → b ≡ true
        by true n h = refl
        by false n h = absurd (omega arith)

-- ---- every run

pub no_leak : (i : Image) (t : ℕ → Option State) → IsTyping i t → NeverLeaks i t
no_leak i t typing lib statements boot w after items more p begins run started rest q there living =
    by (stays_so lib i t range typing statements boot begins p items more w after run (started_under_way lib i t range typing w p started) rest)
  where
    range : is_in_range i ≡ true
    range = in_range lib i w p begins.images started

    by : IsUnderWay lib i t after p ⊎ HasEnded after p → HoldsJustItsHandles t q
    by (inl u) = subst (HoldsJustItsHandles t) (same_Some u.process q (sym u.there ∙ there)) (holds_just_its_handles i t after p u.process u.conforms)
    by (inr o) = absurd (not_over q.state living (subst (λ (y : Process). has_ended y.state ≡ true) (same_Some o.process q (sym o.there ∙ there)) o.over))
