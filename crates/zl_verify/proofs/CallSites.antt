-- Where the rule of a call holds, what the call asks for can be read.
use Rattle.zl_verify.proofs.Common.{ANY, AbsVal, Bool, CallInstr, Cause, Cpu, Ending, Err, Has, Holds, Image, IsMemory, List, None, Ok, Option, Result}
use Rattle.zl_verify.proofs.Common.{SlotArray, Some, State, TRANSFER, Table, Uses, Word, [], and_then, answers, are_words, arith, array_fault, bits, bound_at}
use Rattle.zl_verify.proofs.Common.{call_row, call_rule, cannot_keep, count_fits, examined_all, false, finished_unless, goes_on, has_its_memory, if◌then◌else◌}
use Rattle.zl_verify.proofs.Common.{is_declared, is_in_memory, length, nat_le, nat_tests, not, number_at, passes, range_fits, range_in, refl, reg, same_Some}
use Rattle.zl_verify.proofs.Common.{slice_get, slice_get-get_or, slice_index, slice_index_or, state_after, stops, subst, sum_fits, true, uses_of, value_at}
use Rattle.zl_verify.proofs.Common.{within, ℕ, ◌&&◌, ◌+◌, ◌≡◌, ◌≤◌}
use Rattle.zl_abs.specs.CallRules.{ArrayUse, array_in, cannot_send, is_as_long, sends}
use Rattle.zl_abs.specs.Values.{bound_of}
use Rattle.zl_code.specs.Asked.{has_places}
use Rattle.zl_code.specs.declared.layout.Ending.TheVariants as ending
use Rattle.zl_abs.specs.declared.cause.Cause.TheVariants as cause
use Rattle.zl_verify.proofs.Moving.{array_there}
use Rattle.zl_verify.proofs.Emptying.{MaySend, emptied_by}
use Rattle.std.proofs.lemmas.Bool.{and_from, le-leb}

-- the rule holds
abbrev pub IsGiven : {A : Type 0} → Result A Cause → Type 0
IsGiven (Err c) = ⊥
IsGiven (Ok x) = Unit {0}

given_then : {A B : Type 0} (x : Result A Cause) (f : A → Result B Cause) → IsGiven (and_then x f) → (a : A) × IsGiven (f a)
given_then (Err c) f k = absurd k
given_then (Ok a) f k = (a, k)

given_first : {A B : Type 0} (x : Result A Cause) (f : A → Result B Cause) → IsGiven (and_then x f) → IsGiven x
given_first (Err c) f k = absurd k
given_first (Ok a) f k = tt

-- the tests hold of the memory and the slot array that a call has
record IsThere (i : Image) (s : State) (u : Uses) : Type 0 where
  array : array_fault i u.array ≡ None
  range : range_fits i s u.range ≡ true
  count : count_fits i s u.array ≡ true

is_there : (i : Image) (s t : State) (u : Uses) → IsGiven (finished_unless (array_fault i u.array) i s t u) → IsThere i s u
is_there i s t u = by_array (array_fault i u.array) refl
  where
    by : (x y z : Bool) → array_fault i u.array ≡ None → range_fits i s u.range ≡ y → count_fits i s u.array ≡ z
        → IsGiven (if not x then Err cause.NotWord else if not (y && z) then Err cause.MemoryRange else if not (is_declared i u.condition)
        then Err cause.UndeclaredNeed else answers t u.results) → IsThere i s u
    by true true true array range count k = record { array = array; range = range; count = count }
    by true true false array range count k = absurd k
    by true false z array range count k = absurd k
    by false y z array range count k = absurd k

    by_array : (o : Option Cause) → array_fault i u.array ≡ o → IsGiven (finished_unless o i s t u) → IsThere i s u
    by_array (Some c) is k = absurd k
    by_array None is k = by (are_words s u.words) (range_fits i s u.range) (count_fits i s u.array) is refl refl k

-- an array in which handles may be kept is there
kept_there : (o : Option SlotArray) → cannot_keep o ≡ None → (t : SlotArray) × (o ≡ Some t)
kept_there None e = cc
kept_there (Some t) e = (t, refl)

module _ {f : Table} {i : Image} {s : State} (c : Cpu) (h : Holds f s c.registers i.slots c.slots) (memory : IsMemory i c.memory) where
  bound_le : (r m : ℕ) → bound_at s r ≡ Some m → reg c r ≤ m
  bound_le r m = by (value_at s r) refl
    where
      by : (v : AbsVal) → value_at s r ≡ v → bound_of v ≡ Some m → reg c r ≤ m
      by (Word n) is e = let le : reg c r ≤ n = rw is at (h.described r) in subst (λ k. reg c r ≤ k) (same_Some n m e) le
      by (Has maybe k q) is e = cc
      by _ is e = subst (λ k. reg c r ≤ k) (same_Some ANY m e) (h.small r)

  sum_there : (a b : ℕ) → sum_fits i.memory (bound_at s a) (bound_at s b) ≡ true → is_in_memory c (reg c a) (reg c b) ≡ true
  sum_there a b = by (bound_at s a) refl (bound_at s b) refl
    where
      by : (x : Option ℕ) → bound_at s a ≡ x → (y : Option ℕ) → bound_at s b ≡ y → sum_fits i.memory x y ≡ true → is_in_memory c (reg c a) (reg c b) ≡ true
      by (Some m) is (Some n) is2 e =
          let first = bound_le a m is in
          let second = bound_le b n is2 in
          let size = memory.long in
          fits (reg c a) (reg c b) m n i.memory (length c.memory) first second size e
        where
          fits : (x y m n top long : ℕ) → x ≤ m → y ≤ n → long ≡ top → nat_le (m + n) top ≡ true → nat_le (x + y) long ≡ true
          fits x y m n top long p q z e = grind (arith, nat_tests)
      by _ is _ is2 e = cc

  -- the slot array of the image has its places
  places_there : (n : ℕ) (t : SlotArray) → slice_get i.slots n ≡ Some t → (places : List ℕ) × (slice_get c.slots n ≡ Some places) × (length places ≡ t.length)
  places_there n t is =
      let there = array_there c.slots i.slots n t h.lengths is in
      (slice_index_or c.slots n [], slice_get-get_or c.slots n [] there.0, there.1)

  kept_places : (n : ℕ) → cannot_keep (slice_get i.slots n) ≡ None → has_places 0 (slice_get c.slots n) ≡ true
  kept_places n fault =
      let (t, is) = kept_there (slice_get i.slots n) fault in
      let (places, there, long) = places_there n t is in
      rw there (le-leb 0 (length places) (omega arith))

  -- places of which the rule says that handles are sent from there are there, and their handles may be sent
  pub may_send : (a : ArrayUse) → array_fault i a ≡ None → count_fits i s a ≡ true → MaySend i.slots (emptied_by c.registers a)
  may_send (sends n r) fault count = by (slice_get i.slots n) refl (bound_at s r) refl fault count
    where
      rights : (b : Bool) → ◌≡◌ {A = Option Cause} (if b then None else Some cause.LacksRight) None → b ≡ true
      rights true e = refl
      rights false e = cc

      by : (o : Option SlotArray) → slice_get i.slots n ≡ o → (m : Option ℕ) → bound_at s r ≡ m → cannot_send o ≡ None → is_as_long o m ≡ true
          → MaySend i.slots (Some (n, reg c r))
      by (Some t) is (Some m) bound fault count =
          let few = bound_le r m bound in
          let long : nat_le m t.length ≡ true = count in
          let le : m ≤ t.length = grind (arith, nat_tests) in
          (t, is, omega arith, rights (within TRANSFER (bits t.rights)) fault)
      by None is m bound fault count = cc
      by (Some t) is None bound fault count = cc
  may_send _ fault count = tt

  sent_places : (n m : ℕ) → MaySend i.slots (Some (n, m)) → has_places m (slice_get c.slots n) ≡ true
  sent_places n m (t, is, le, may) =
      let (places, there, long) = places_there n t is in
      rw there (le-leb m (length places) (omega arith))

  range_there : (x : CallInstr) (e : Ending) → array_fault i (array_in e x) ≡ None → range_fits i s (range_in e x.registers) ≡ true
      → count_fits i s (array_in e x) ≡ true → has_its_memory e x c ≡ true
  range_there x ending.Room fault k count = sum_there (slice_index x.registers 2) (slice_index x.registers 3) k
  range_there x ending.Handles fault k count = sum_there (slice_index x.registers 2) (slice_index x.registers 3) k
  range_there x ending.FromSlots fault k count =
      and_from _ _ (sum_there (slice_index x.registers 2) (slice_index x.registers 3) k)
      (sent_places (number_at x.last 0 4) (reg c (slice_index x.registers 4)) (may_send (array_in ending.FromSlots x) fault count))
  range_there x ending.IntoSlots fault k count =
      and_from _ _ (sum_there (slice_index x.registers 2) (slice_index x.registers 3) k) (kept_places (number_at x.last 0 4) fault)
  range_there x _ fault k count = refl

  -- the memory of the call is there
  pub memory_there : (bounds : List ℕ) (x : CallInstr) → IsGiven (call_rule bounds i x s) → has_its_memory (call_row x.name).ending x c ≡ true
  unfolding call_rule uses_of
  memory_there bounds x k =
      let u = uses_of bounds s x in
      let whole : IsGiven (state_after i s u) = given_first (state_after i s u) (λ t. Ok (if goes_on x.name then passes t else stops)) k in
      let last = given_then (examined_all s u.operands) (λ t. finished_unless (array_fault i u.array) i s t u) whole in
      let is = is_there i s last.0 u last.1 in
      range_there x (call_row x.name).ending is.array is.range is.count
