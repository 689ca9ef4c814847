-- What answers give fits: a status, handles at free values, and handles with their kinds and rights.
use Rattle.zl_verify.proofs.Common.{ANY, AbsVal, AllByRecursion, Bool, Entry, Has, IsAs, IsTrue, Kind, KindOf, List, None, Option, Process, Rights, RightsOf}
use Rattle.zl_verify.proofs.Common.{Some, State, Status, Table, Word, [], and_comm, and_le_l, ap, arith, bit_and, bits, both, can_be_named, eq-eqb, eqb-true}
use Rattle.zl_verify.proofs.Common.{false, get, get-put, get_or-set_other, get_or-set_same, has_key, inl, inr, is_some, is_value, kind_in, kind_number, length}
use Rattle.zl_verify.proofs.Common.{list_all, may_get, may_get_after, may_get_all, nat_lt, nat_tests, not, process_with, refl, rights_in, rights_of}
use Rattle.zl_verify.proofs.Common.{slice_index, slice_set, status_magnitude, subst, suc, sym, told_of, triple_results, true, value_at, with_long, with_value}
use Rattle.zl_verify.proofs.Common.{within, within_is, zero, ℕ, ◌&&◌, ◌*◌, ◌+◌, ◌<◌, ◌==◌, ◌∙◌, ◌∷◌, ◌≡◌, ◌≤◌}
use Rattle.std.proofs.lemmas.List.{length-set}
use Rattle.zl_rights.specs.declared.kind.Kind.TheVariants as kind
use Rattle.zl_rights.specs.declared.status.Status.TheVariants as status
use Rattle.zl_verify.proofs.Owners.{value_at-with, value_at-here}
use Rattle.zl_verify.proofs.Consuming.{added}
use Rattle.zl_verify.proofs.Fitting.{Fits}

pub status_few : (s : Status) → status_magnitude s ≤ 30
status_few status.Ok = omega arith
status_few _ = omega arith

-- the status first
pub status_fits : (f : Table) (s : State) (xs : List ℕ) (a : ℕ) (ds : List (ℕ × AbsVal)) (n : ℕ) (vs : List ℕ) (g : Table) → n ≤ 30
    → Fits f (with_value s a (Word 30)) (slice_set xs a n) ds vs g → Fits f s xs ((a, Word 30) ∷ ds) (n ∷ vs) g
status_fits f s xs a ds n vs g few later = (f, (few, omega arith, refl), later)

-- 0 fits, where there is no value
abbrev is_zeroable : AbsVal → Bool
is_zeroable (Word n) = true
is_zeroable (Has maybe kind rights) = maybe
is_zeroable _ = false

abbrev pub are_zeroable : List (ℕ × AbsVal) → Bool
are_zeroable ds = list_all (λ d. is_zeroable d.1) ds

pub zeros_fit : (f : Table) (s : State) (xs : List ℕ) (ds : List (ℕ × AbsVal)) → are_zeroable ds ≡ true → Fits f s xs ds [] f
zeros_fit f s xs [] z = refl
zeros_fit f s xs ((r, Word n) ∷ ds) z = (f, (omega arith, omega arith, refl), zeros_fit f (with_value s r (Word n)) (slice_set xs r 0) ds z)
zeros_fit f s xs ((r, Has maybe kind rights) ∷ ds) z =
    let two = both maybe (are_zeroable ds) z in (f, inl (two.0, refl, refl), zeros_fit f (with_value s r (Has maybe kind rights)) (slice_set xs r 0) ds two.1)
zeros_fit f s xs ((r, _) ∷ ds) z = cc

-- ---- new handles

-- the value that was removed last from a table is free
abbrev pub IsFreeLast : Process → Type 0
IsFreeLast q = (v : ℕ) → q.last ≡ Some v → IsTrue (is_value v) × (has_key q.handles v ≡ false)

-- a free value that a handle may have
abbrev pub IsFresh : Process → ℕ → Type 0
IsFresh q v = (0 < v) × (v < 65536) × (get q.handles v ≡ None)

pub none_at : (o : Option Entry) → is_some o ≡ false → o ≡ None
none_at None t = refl
none_at (Some y) t = cc

not_some : (o : Option Entry) → not (is_some o) ≡ true → o ≡ None
not_some None t = refl
not_some (Some y) t = cc

value_there : (v : ℕ) → is_value v ≡ true → (0 < v) × (v < 65536)
value_there v e =
    let two = both (nat_lt 0 v) (nat_lt v 65536) e in
    let some : nat_lt 0 v ≡ true = two.0 in
    let most : nat_lt v 65536 ≡ true = two.1 in
    (grind (arith, nat_tests), grind (arith, nat_tests))

pub fresh_value : (q : Process) (v : ℕ) → IsFreeLast q → may_get q v ≡ true → IsFresh q v
fresh_value q v sound = by q.last refl
  where
    by : (o : Option ℕ) → q.last ≡ o → may_get_after o q v ≡ true → IsFresh q v
    by None is e =
        let first = both (nat_lt 0 v) (nat_lt v 65536 && not (has_key q.handles v)) e in
        let second = both (nat_lt v 65536) (not (has_key q.handles v)) first.1 in
        let some : nat_lt 0 v ≡ true = first.0 in
        let most : nat_lt v 65536 ≡ true = second.0 in
        (grind (arith, nat_tests), grind (arith, nat_tests), not_some (get q.handles v) second.1)
    by (Some l) is e =
        let free = sound l is in
        let there = value_there l free.0 in
        subst (IsFresh q) (sym (eqb-true v l e)) (there.0, there.1, none_at (get q.handles l) free.1)

pub free_with : (q : Process) (v : ℕ) (e : Entry) → IsFreeLast (process_with v e q)
free_with q v e l is = cc

-- the process with the handles at these values
abbrev pub getting_all : List Entry → List ℕ → Process → Process
getting_all [] vs q = q
getting_all (e ∷ es) [] q = q
getting_all (e ∷ es) (v ∷ vs) q = getting_all es vs (process_with v e q)

pub getting : (v : ℕ) (e : Entry) (q : Process) → get (process_with v e q).handles ≡ added v e (get q.handles)
getting v e q = λ i k. get-put q.handles v e k i

-- each handle is as its destination says
abbrev pub AllAs : List (ℕ × AbsVal) → List Entry → Type 0
AllAs [] [] = Unit {0}
AllAs ((r, Has maybe kind rights) ∷ ds) (e ∷ es) = IsAs kind rights (Some e) × AllAs ds es
AllAs _ _ = ⊥

pub handles_fit : (ds : List (ℕ × AbsVal)) (es : List Entry) (vs : List ℕ) (q : Process) (s : State) (xs : List ℕ) → IsFreeLast q
    → may_get_all q es vs ≡ true → AllAs ds es → Fits (get q.handles) s xs ds vs (get (getting_all es vs q).handles)
handles_fit [] [] [] q s xs sound may a = refl
handles_fit [] [] (v ∷ vs) q s xs sound may a = cc
handles_fit ((r, Has maybe kind rights) ∷ ds) (e ∷ es) [] q s xs sound may a = cc
handles_fit ((r, Has maybe kind rights) ∷ ds) (e ∷ es) (v ∷ vs) q s xs sound may (fits, more) =
    let two = both (may_get q v) (may_get_all (process_with v e q) es vs) may in
    let (some, most, unused) = fresh_value q v sound two.0 in (
      get (process_with v e q).handles,
      inr (e, omega arith, some, unused, fits, getting v e q),
      handles_fit ds es vs (process_with v e q) _ _ (free_with q v e) two.1 more,
    )
handles_fit _ _ vs q s xs sound may a = absurd a

-- ---- handles with their kinds and rights

pub within_none : (n : ℕ) → within 0 n ≡ true
within_none n =
    let le : bit_and 0 n ≤ 0 = and_le_l 0 n in
    let same : bit_and n 0 ≡ bit_and 0 n = and_comm n 0 in
    within_is 0 n (omega arith)

pub kind_few : (k : Kind) → kind_number k ≤ ANY
kind_few kind.Process = omega arith
kind_few _ = omega arith

added_itself : (v : ℕ) (e : Entry) (f : Table) → added v e f v ≡ Some e
added_itself v e f = rw (eq-eqb v v refl) refl

-- the state and the registers behind a triple
abbrev after_triple : ℕ → State → AbsVal → State
after_triple a s h = with_value (with_value (with_value s a h) (a + 1) (KindOf a)) (a + 2) (RightsOf a)

abbrev written_triple : ℕ → List ℕ → ℕ → ℕ → ℕ → List ℕ
written_triple a xs v k r = slice_set (slice_set (slice_set xs a v) (a + 1) k) (a + 2) r

-- the kind and the rights of the handle that has just been written to a
module _ (f : Table) (a : ℕ) (s : State) (xs : List ℕ) (inside : a < length s) (wide : length xs ≡ length s) (g : Table) (ds : List (ℕ × AbsVal))
    (vs : List ℕ) where
  reports : (maybe : Bool) (kind : Option Kind) (rights : Rights) (v k r : ℕ) → k ≤ ANY → r ≤ ANY → k ≡ kind_in (f v) → r ≡ rights_in (f v)
      → Fits f (after_triple a s (Has maybe kind rights)) (written_triple a xs v k r) ds vs g
      → Fits f (with_value s a (Has maybe kind rights)) (slice_set xs a v) ((a + 1, KindOf a) ∷ (a + 2, RightsOf a) ∷ ds) (k ∷ r ∷ vs) g
  reports maybe kind rights v k r few few2 is is2 later =
      (f, (λ e. apart1 e, named, few, rw here is, refl), (f, (λ e. apart2 e, named2, few2, rw (there, here) is2, refl), later))
    where
      apart1 : a ≡ a + 1 → ⊥
      apart1 e = omega arith

      apart2 : a ≡ a + 2 → ⊥
      apart2 e = omega arith

      here : slice_index (slice_set xs a v) a ≡ v
      here = get_or-set_same xs a v 0 (subst (λ n. a < n) (sym wide) inside)

      there : slice_index (slice_set (slice_set xs a v) (a + 1) k) a ≡ slice_index (slice_set xs a v) a
      there = get_or-set_other (slice_set xs a v) (a + 1) a k 0 apart1

      named : can_be_named (value_at (with_value s a (Has maybe kind rights)) a) ≡ true
      named = rw (value_at-here s a (Has maybe kind rights) inside) refl

      named2 : can_be_named (value_at (with_value (with_value s a (Has maybe kind rights)) (a + 1) (KindOf a)) a) ≡ true
      named2 = rw (value_at-with (with_value s a (Has maybe kind rights)) (a + 1) a (KindOf a) apart1, value_at-here s a (Has maybe kind rights) inside) refl

-- three writes keep the lengths
pub long_thrice : (s : State) (a d e : ℕ) (x y z : AbsVal) → length (with_value (with_value (with_value s a x) d y) e z) ≡ length s
long_thrice s a d e x y z = with_long (with_value (with_value s a x) d y) e z ∙ (with_long (with_value s a x) d y ∙ with_long s a x)

pub wide_thrice : (xs : List ℕ) (a d e x y z : ℕ) → length (slice_set (slice_set (slice_set xs a x) d y) e z) ≡ length xs
wide_thrice xs a d e x y z = length-set (slice_set (slice_set xs a x) d y) e z ∙ (length-set (slice_set xs a x) d y ∙ length-set xs a x)

long_after : (a : ℕ) (s : State) (h : AbsVal) → length (after_triple a s h) ≡ length s
long_after a s h = long_thrice s a (a + 1) (a + 2) h (KindOf a) (RightsOf a)

wide_after : (a : ℕ) (xs : List ℕ) (v k r : ℕ) → length (written_triple a xs v k r) ≡ length xs
wide_after a xs v k r = wide_thrice xs a (a + 1) (a + 2) v k r

-- a handle's rights fit a register
abbrev pub HasFewRights : Entry → Type 0
HasFewRights e = bits e.rights ≤ ANY

abbrev any_handle : AbsVal
any_handle = Has true None (rights_of 0)

pub no_triples_fit : (n a : ℕ) (f : Table) (s : State) (xs : List ℕ) → a + 3 * n ≤ length s → length xs ≡ length s → f 0 ≡ None
    → Fits f s xs (triple_results a n) [] f
no_triples_fit zero a f s xs room wide none = refl
no_triples_fit (suc n) a f s xs room wide none =
    let long = long_after a s any_handle in (
      f,
      inl (refl, refl, refl),
      reports f a s xs (omega arith) wide f (triple_results (a + 3) n) [] true None (rights_of 0) 0 0 0 (omega arith) (omega arith) (rw none refl)
          (rw none refl)
          (no_triples_fit n (a + 3) f (after_triple a s any_handle) (written_triple a xs 0 0 0) (omega arith) (wide_after a xs 0 0 0 ∙ (wide ∙ sym long)) none),
    )

pub triples_fit : (n a : ℕ) (es : List Entry) (vs : List ℕ) (q : Process) (s : State) (xs : List ℕ) → a + 3 * n ≤ length s → length xs ≡ length s
    → length es ≤ n → get q.handles 0 ≡ None → IsFreeLast q → may_get_all q es vs ≡ true → AllByRecursion HasFewRights es
    → Fits (get q.handles) s xs (triple_results a n) (told_of es vs) (get (getting_all es vs q).handles)
triples_fit n a [] [] q s xs room wide few none sound may fewer = no_triples_fit n a (get q.handles) s xs room wide none
triples_fit n a [] (v ∷ vs) q s xs room wide few none sound may fewer = cc
triples_fit zero a (e ∷ es) vs q s xs room wide few none sound may fewer = absurd (omega arith)
triples_fit (suc n) a (e ∷ es) [] q s xs room wide few none sound may fewer = cc
triples_fit (suc n) a (e ∷ es) (v ∷ vs) q s xs room wide few none sound may (rights, fewer) =
    let two = both (may_get q v) (may_get_all (process_with v e q) es vs) may in
    let (some, most, unused) = fresh_value q v sound two.0 in
    let long = long_after a s any_handle in (
      get (process_with v e q).handles,
      inr (e, omega arith, some, unused, (refl, within_none (bits e.rights)), getting v e q),
      reports (get (process_with v e q).handles) a s xs (omega arith) wide (get (getting_all es vs (process_with v e q)).handles) (triple_results (a + 3) n)
          (told_of es vs) true None (rights_of 0) v (kind_number e.kind) (bits e.rights) (kind_few e.kind) rights
          (rw there refl) (rw there refl)
          (triples_fit n (a + 3) es vs (process_with v e q) (after_triple a s any_handle) (written_triple a xs v (kind_number e.kind) (bits e.rights))
          (omega arith) (wide_after a xs v (kind_number e.kind) (bits e.rights) ∙ (wide ∙ sym long)) (omega arith)
          (zero_with some) (free_with q v e) two.1 fewer),
    )
  where
    there : get (process_with v e q).handles v ≡ Some e
    there = ap (λ f. f v) (getting v e q) ∙ added_itself v e (get q.handles)

    zero_with : 0 < v → get (process_with v e q).handles 0 ≡ None
    zero_with some = ap (λ f. f 0) (getting v e q) ∙ rw (apart some) none
      where
        apart : 0 < v → (v == 0) ≡ false
        apart some = grind (arith, nat_tests)
