-- New handles go into the first places of a slot array, which were empty, and what a state describes is still so beside the table with them.
use Rattle.zl_verify.proofs.Common.{ANY, Bool, Entry, Holds, IsAs, IsHandle, IsState, Kind, List, None, Option, Process, Rights, SlotArray, Some, State, Table}
use Rattle.zl_verify.proofs.Common.{[], ap, arith, bits, both, cases_eq, cond, drop, eqb-true, false, filled_in, get, get_or-set_other, get_or-set_same, inl}
use Rattle.zl_verify.proofs.Common.{inr, is_it, is_some, keepers, length, map, may_get, may_get_all, nat_lt, nat_tests, one_if, owners, place_at, process_with}
use Rattle.zl_verify.proofs.Common.{refl, same_Some, slice_get, slice_get-get_or, slice_index, slice_index_or, slice_set, slots_filled, subst, suc, sum_by-cons}
use Rattle.zl_verify.proofs.Common.{sum_by-set, sym, true, zero, zeros_in_front, ℕ, ◌&&◌, ◌++◌, ◌+◌, ◌<◌, ◌==◌, ◌∙◌, ◌∷◌, ◌≡◌, ◌≢◌, ◌≤◌, ◌⊎◌}
use Rattle.std.proofs.lemmas.List.{get_or-map, map-set, set-get_or}
use Rattle.zl_verify.proofs.Consuming.{added}
use Rattle.zl_verify.proofs.Emptying.{beside}
use Rattle.zl_verify.proofs.Giving.{IsFreeLast, fresh_value, free_with, getting, getting_all, within_none}
use Rattle.zl_verify.proofs.Moving.{array_there}
use Rattle.zl_verify.proofs.Owners.{not_0, one_of, places_with, zero_nowhere}
use Rattle.zl_verify.proofs.Writing.{nothing_at_0}

-- ---- the first places

-- what the places hold once these values are in the first of them
abbrev pub in_front : List ℕ → List ℕ → List ℕ
in_front vs places = vs ++ drop (length vs) places

-- the test of the first place, and how many are 0 from there on
front_parts : (b : Bool) (n m : ℕ) → suc n ≤ cond b (suc m) 0 → (b ≡ true) × (n ≤ m)
front_parts true n m le = (refl, omega arith)
front_parts false n m le = absurd (omega arith)

-- as many places as before
pub front_long : (vs places : List ℕ) → length vs ≤ zeros_in_front places → length (in_front vs places) ≡ length places
front_long [] places room = refl
front_long (v ∷ vs) [] room = absurd (omega arith)
front_long (v ∷ vs) (x ∷ places) room = ap suc (front_long vs places (front_parts (x == 0) (length vs) (zeros_in_front places) room).1)

-- each place holds a value that was put there, or what it held
pub front_at : (vs places : List ℕ) (k : ℕ) → length vs ≤ zeros_in_front places
    → (slice_index (in_front vs places) k ≡ slice_index vs k) ⊎ (slice_index (in_front vs places) k ≡ slice_index places k)
front_at [] places k room = inr refl
front_at (v ∷ vs) [] k room = absurd (omega arith)
front_at (v ∷ vs) (x ∷ places) zero room = inl refl
front_at (v ∷ vs) (x ∷ places) (suc k) room = front_at vs places k (front_parts (x == 0) (length vs) (zeros_in_front places) room).1

-- nothing was there before, so each handle is kept as often in both
pub front_kept : (w : ℕ) (vs places : List ℕ) → length vs ≤ zeros_in_front places
    → places_with w (in_front vs places) ≡ places_with w places + places_with w vs
front_kept w [] places room = omega arith
front_kept w (v ∷ vs) [] room = absurd (omega arith)
front_kept w (v ∷ vs) (x ∷ places) room =
    let two = front_parts (x == 0) (length vs) (zeros_in_front places) room in
    let first = sum_by-cons (λ y. one_if (is_it w y)) v (in_front vs places) in
    let new = sum_by-cons (λ y. one_if (is_it w y)) v vs in
    let old = sum_by-cons (λ y. one_if (is_it w y)) x places in
    let none : one_if (is_it w x) ≡ 0 = ap (λ y. one_if (is_it w y)) (eqb-true x 0 two.0) ∙ not_0 w in
    let rest = front_kept w vs places two.1 in
    omega arith

-- ---- more handles in the table

-- The table g has what f has, and a handle at each of these values, which have none in f.
pub record HasMore (f g : Table) (vs : List ℕ) : Type 0 where
  pub as_before : (v : ℕ) → is_some (f v) ≡ true → g v ≡ f v
  pub counted : (v : ℕ) → one_if (is_some (g v)) ≡ one_if (is_some (f v)) + places_with v vs
  pub narrow : (k : ℕ) → slice_index vs k ≤ ANY

-- the table with one more has it there
one_more : (f : Table) (v : ℕ) (e : Entry) → f v ≡ None → 0 < v → (w : ℕ)
    → one_if (is_some (added v e f w)) ≡ one_if (is_some (f w)) + one_if (is_it w v)
one_more f v e none some w = by (v == w) refl
  where
    there : (v == w) ≡ true → one_if (is_some (f w)) ≡ 0
    there same = ap (λ k. one_if (is_some (f k))) (sym (eqb-true v w same)) ∙ ap (λ o. one_if (is_some o)) none

    by : (b : Bool) → (v == w) ≡ b → one_if (is_some (cond b (Some e) (f w))) ≡ one_if (is_some (f w)) + one_if (b && nat_lt 0 v)
    by true same = let z = there same in let live : nat_lt 0 v ≡ true = grind (arith, nat_tests) in rw live (omega arith)
    by false other = omega arith

pub getting_more : (es : List Entry) (vs : List ℕ) (q : Process) → IsFreeLast q → may_get_all q es vs ≡ true
    → HasMore (get q.handles) (get (getting_all es vs q).handles) vs
getting_more [] [] q free may = record { as_before = λ v live. refl; counted = λ v. omega arith; narrow = λ k. omega arith }
getting_more [] (v ∷ vs) q free may = cc
getting_more (e ∷ es) [] q free may = cc
getting_more (e ∷ es) (v ∷ vs) q free may =
    let two = both (may_get q v) (may_get_all (process_with v e q) es vs) may in
    let (some, most, unused) = fresh_value q v free two.0 in
    let rest = getting_more es vs (process_with v e q) (free_with q v e) two.1 in
    record {
      as_before = λ w live. rest.as_before w (ap (λ o. is_some o) (still w live unused) ∙ live) ∙ still w live unused;
      counted = λ w.
          let one = ap (λ f. one_if (is_some (f w))) (getting v e q) ∙ one_more (get q.handles) v e unused some w in
          let more = sum_by-cons (λ y. one_if (is_it w y)) v vs in
          let all = rest.counted w in
          omega arith;
      narrow = λ k. small k most (rest.narrow);
    }
  where
    apart : (w : ℕ) (b : Bool) → (v == w) ≡ b → is_some (get q.handles w) ≡ true → get q.handles v ≡ None
        → cond b (Some e) (get q.handles w) ≡ get q.handles w
    apart w true same live unused = let gone : get q.handles w ≡ None = ap (get q.handles) (sym (eqb-true v w same)) ∙ unused in cc
    apart w false other live unused = refl

    still : (w : ℕ) → is_some (get q.handles w) ≡ true → get q.handles v ≡ None → get (process_with v e q).handles w ≡ get q.handles w
    still w live unused = ap (λ f. f w) (getting v e q) ∙ apart w (v == w) refl live unused

    small : (k : ℕ) → v < 65536 → ((j : ℕ) → slice_index vs j ≤ ANY) → slice_index (v ∷ vs) k ≤ ANY
    small zero most more = omega arith
    small (suc k) most more = more k

-- as many handles as values
pub as_many : (es : List Entry) (vs : List ℕ) (q : Process) → may_get_all q es vs ≡ true → length vs ≡ length es
as_many [] [] q may = refl
as_many [] (v ∷ vs) q may = cc
as_many (e ∷ es) [] q may = cc
as_many (e ∷ es) (v ∷ vs) q may = ap suc (as_many es vs (process_with v e q) (both (may_get q v) (may_get_all (process_with v e q) es vs) may).1)

-- ---- what holds beside it

module _ {f : Table} {s : State} {xs : List ℕ} {arrays : List SlotArray} {slots : List (List ℕ)} (h : Holds f s xs arrays slots) (states : IsState s)
    (g : Table) (vs : List ℕ) (more : HasMore f g vs) where
  nothing_more : g 0 ≡ None
  nothing_more = by (g 0) (more.counted 0)
    where
      by : (o : Option Entry) → one_if (is_some o) ≡ one_if (is_some (f 0)) + places_with 0 vs → o ≡ None
      by None e = refl
      by (Some y) e =
          let old : one_if (is_some (f 0)) ≡ 0 = ap (λ (o : Option Entry). one_if (is_some o)) (nothing_at_0 h) in
          let new = zero_nowhere vs in
          absurd (omega arith)

  -- what a register owns is as before
  same_owned : (y : ℕ) → 1 ≤ owners y s xs → g y ≡ f y
  same_owned y many = more.as_before y (by (is_some (f y)) (let all = h.once y in omega arith))
    where
      by : (b : Bool) → 1 ≤ one_if b → b ≡ true
      by true some = refl
      by false some = absurd (omega arith)

  handle_still : (kind : Option Kind) (rights : Rights) (x : ℕ) → IsHandle f true kind rights x → IsHandle g true kind rights x
  handle_still kind rights x (inl z) = inl z
  handle_still kind rights x (inr l) = inr (subst (IsAs kind rights) (sym (more.as_before x (by (f x) l))) l)
    where
      by : (o : Option Entry) → IsAs kind rights o → is_some o ≡ true
      by None k = absurd k
      by (Some e) k = refl

  -- each of the values is that of a handle of which nothing is said
  kept_handle : (rights : Rights) → bits rights ≡ 0 → (x k : ℕ) → slice_index vs k ≡ x → IsHandle g true None rights x
  kept_handle rights none x k e = by (cases_eq x 0)
    where
      live : (o : Option Entry) → 1 ≤ one_if (is_some o) → IsAs None rights o
      live None some = absurd (omega arith)
      live (Some y) some = (refl, rw none (within_none (bits y.rights)))

      by : (x ≡ 0) ⊎ (x ≢ 0) → IsHandle g true None rights x
      by (inl z) = inl (refl, z)
      by (inr some) = inr (live (g x) (let one = one_of x k vs some e in let all = more.counted x in omega arith))

  module _ (n : ℕ) (t : SlotArray) (is : slice_get arrays n ≡ Some t) (any_kind : t.kind ≡ None) (no_rights : bits t.rights ≡ 0) where
    abbrev places : List ℕ
    places = slice_index_or slots n []

    abbrev filled : List (List ℕ)
    filled = slice_set slots n (in_front vs places)

    n_there : n < length slots
    n_there = (array_there slots arrays n t h.lengths is).0

    filled_here : slice_index_or filled n [] ≡ in_front vs places
    filled_here = get_or-set_same slots n (in_front vs places) [] n_there

    place_else : (m k : ℕ) → m ≢ n → place_at filled m k ≡ place_at slots m k
    place_else m k apart = ap (λ l. slice_index l k) (get_or-set_other slots n m (in_front vs places) [] apart)

    place_here : (k : ℕ) → place_at filled n k ≡ slice_index (in_front vs places) k
    place_here k = ap (λ l. slice_index l k) filled_here

    pub keeping_holds : length vs ≤ zeros_in_front places → Holds g s xs arrays filled
    unfolding keepers
    keeping_holds room =
        beside h states g nothing_more same_owned filled long (λ m k. narrow_at m k (cases_eq m n))
        (λ m k u here less. stored_at m k u here less (cases_eq m n)) once_at
      where
        long : map length filled ≡ map length slots
        long =
            map-set length slots n (in_front vs places)
            ∙ (ap (slice_set (map length slots) n) (front_long vs places room ∙ sym (get_or-map length slots n [] 0 n_there))
            ∙ set-get_or (map length slots) n 0)

        narrow_at : (m k : ℕ) → (m ≡ n) ⊎ (m ≢ n) → place_at filled m k ≤ ANY
        narrow_at m k (inr apart) = rw (place_else m k apart) (h.narrow m k)
        narrow_at m k (inl same) = rw (same, place_here k) (by (front_at vs places k room))
          where
            by : (slice_index (in_front vs places) k ≡ slice_index vs k) ⊎ (slice_index (in_front vs places) k ≡ slice_index places k)
                → slice_index (in_front vs places) k ≤ ANY
            by (inl e) = rw e (more.narrow k)
            by (inr e) = rw e (h.narrow n k)

        stored_at : (m k : ℕ) (u : SlotArray) → slice_get arrays m ≡ Some u → k < u.length → (m ≡ n) ⊎ (m ≢ n)
            → IsHandle g true u.kind u.rights (place_at filled m k)
        stored_at m k u here less (inr apart) = rw (place_else m k apart) (handle_still u.kind u.rights (place_at slots m k) (h.stored m k u here less))
        stored_at m k u here less (inl same) = rw (same, place_here k) (by (front_at vs places k room))
          where
            one : t ≡ u
            one = same_Some t u (sym is ∙ (ap (slice_get arrays) (sym same) ∙ here))

            by : (slice_index (in_front vs places) k ≡ slice_index vs k) ⊎ (slice_index (in_front vs places) k ≡ slice_index places k)
                → IsHandle g true u.kind u.rights (slice_index (in_front vs places) k)
            by (inl e) =
                subst (λ kind. IsHandle g true kind u.rights (slice_index (in_front vs places) k)) (sym any_kind ∙ ap (λ a. a.kind) one)
                (kept_handle u.rights (ap (λ a. bits a.rights) (sym one) ∙ no_rights) (slice_index (in_front vs places) k) k (sym e))
            by (inr e) =
                handle_still u.kind u.rights (slice_index (in_front vs places) k)
                (subst (IsHandle f true u.kind u.rights) (sym e) (h.stored n k u (ap (slice_get arrays) (sym same) ∙ here) less))

        once_at : (v : ℕ) → owners v s xs + keepers v filled ≡ one_if (is_some (g v))
        once_at v =
            let all = sum_by-set (places_with v) slots n (in_front vs places) [] n_there in
            let front = front_kept v vs places room in
            let before = h.once v in
            let now = more.counted v in
            omega arith

    -- it is what the definitions put there
    pub filled_is : slots_filled slots (Some (n, vs)) ≡ filled
    filled_is =
        let none : 0 + length vs ≡ length vs = omega arith in
        ap (filled_in slots n vs) (slice_get-get_or slots n [] n_there) ∙ ap (λ k. slice_set slots n (vs ++ drop k places)) none
