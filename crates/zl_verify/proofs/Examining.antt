-- Handle operands that pass by the rule aren't refused by the call, and those that are consumed leave the table.
use Rattle.zl_verify.proofs.Common.{AbsVal, AllByRecursion, Bool, Cause, Describes, Entry, Has, Holds, IsAs, IsHandle, IsState, Kind, List, None, Ok, Operand}
use Rattle.zl_verify.proofs.Common.{Option, Outcome, Rights, SlotArray, Some, State, Table, Word, World, [], and_then, ap, arith, bits, cases_eq, cond}
use Rattle.zl_verify.proofs.Common.{cond_both, contains, drop, entry_at, eqb-true, examined_all, examined_by, false, fault_of, filter, first_some}
use Rattle.zl_verify.proofs.Common.{get_or-set_other, if◌then◌else◌, inl, inr, kind_below, kind_number, length, list_all, list_any, map, nat_tests, not}
use Rattle.zl_verify.proofs.Common.{operand, operand_after, refl, register_count, seen_after, slice_index, slice_set, subst, sym, taken_from, takes, takes_any}
use Rattle.zl_verify.proofs.Common.{true, untagged, value_at, with_value, within, within_trans, written, ℕ, ⊎_elim, ◌&&◌, ◌<◌, ◌==◌, ◌||◌, ◌∙◌, ◌∷◌, ◌≡◌, ◌≢◌}
use Rattle.zl_verify.proofs.Common.{◌≤◌, ◌⊎◌}
use Rattle.zl_code.specs.Operands.{examined as examined_at}
use Rattle.zl_abs.specs.declared.cause.Cause.TheVariants as cause
use Rattle.zl_verify.proofs.Owners.{value_at-with, value_at-here}
use Rattle.zl_verify.proofs.Tagging.{states_with}
use Rattle.zl_verify.proofs.Consuming.{removed, consume, consume_0}
use Rattle.zl_verify.proofs.Fitting.{apart_then}
use Rattle.std.proofs.lemmas.Bool.{and_parts}

-- ---- one operand

-- what an operand that passes names: nothing, where it may, or a handle that will do
abbrev pub IsLive : Table → Operand → ℕ → Type 0
IsLive f o x = ((o.may_be_zero && (x == 0)) ≡ true) ⊎ ((e : Entry) × (f x ≡ Some e) × (takes o.kinds e.kind ≡ true) × (within o.needed (bits e.rights) ≡ true))

takes_below : (kinds : List Kind) (kind : Option Kind) (k : Kind) → takes_any kinds kind ≡ true → kind_below (Some k) kind ≡ true → takes kinds k ≡ true
takes_below [] kind k e b = refl
takes_below (x ∷ xs) None k e b = cc
takes_below (x ∷ xs) (Some j) k e b =
    subst (λ n. ((length (x ∷ xs) == 0) || list_any (λ y. n == kind_number y) (x ∷ xs)) ≡ true) (sym (eqb-true (kind_number k) (kind_number j) b)) e

zero_word : (z : Bool) (m x : ℕ) → (z && (m == 0)) ≡ true → x ≤ m → ((z && (x == 0)) ≡ true) × (x ≡ 0)
zero_word true m x e le = let z : x ≡ 0 = grind (arith, nat_tests) in (rw z refl, z)
zero_word false m x e le = cc

-- a word passes as 0 alone
word_passes : (o : Operand) (m : ℕ) → fault_of o (Word m) ≡ None → (o.may_be_zero && (m == 0)) ≡ true
word_passes o m e =
    cond_both (o.may_be_zero && (m == 0)) None (Some cause.NotLive) (λ c. c ≡ None → (o.may_be_zero && (m == 0)) ≡ true) (λ is _. is) (λ _ bad. cc) e

-- the tests of a handle
record HasPasses (o : Operand) (maybe : Bool) (kind : Option Kind) (rights : Rights) : Type 0 where
  zero : maybe ≡ true → o.may_be_zero ≡ true
  kinds : takes_any o.kinds kind ≡ true
  needed : within o.needed (bits rights) ≡ true

has_passes : (o : Operand) (maybe : Bool) (kind : Option Kind) (rights : Rights) → fault_of o (Has maybe kind rights) ≡ None → HasPasses o maybe kind rights
has_passes o maybe kind rights = by maybe o.may_be_zero (takes_any o.kinds kind) refl (within o.needed (bits rights)) refl refl
  where
    by : (m z t : Bool) → takes_any o.kinds kind ≡ t → (n : Bool) → within o.needed (bits rights) ≡ n → o.may_be_zero ≡ z
        → (if m && not z then Some cause.NotLive else if not t then Some cause.WrongKind else if not n then Some cause.LacksRight else None) ≡ None
        → HasPasses o m kind rights
    by true true true t true n z e = record { zero = λ m. z; kinds = t; needed = n }
    by false z true t true n is e = record { zero = λ m. cc; kinds = t; needed = n }
    by _ _ _ t _ n z e = cc

pub passes_live : (f : Table) (xs : List ℕ) (o : Operand) (a : AbsVal) (x : ℕ) → fault_of o a ≡ None → Describes f xs a x → IsLive f o x
passes_live f xs o (Word m) x e d = inl (zero_word o.may_be_zero m x (word_passes o m e) d).0
passes_live f xs o (Has maybe kind rights) x e d = by (has_passes o maybe kind rights e) d
  where
    live : HasPasses o maybe kind rights → (t : Option Entry) → f x ≡ t → IsAs kind rights t → IsLive f o x
    live k None same l = absurd l
    live k (Some y) same l = inr (y, same, takes_below o.kinds kind y.kind k.kinds l.0, within_trans (bits y.rights) (bits rights) o.needed l.1 k.needed)

    by : HasPasses o maybe kind rights → IsHandle f maybe kind rights x → IsLive f o x
    by k (inl (m, z)) = inl (rw (k.zero m, z) refl)
    by k (inr l) = live k (f x) refl l
passes_live f xs o _ x e d = cc

-- ---- one operand after another

-- the table of p in w
abbrev pub Reads : World → ℕ → Table
Reads w p k = entry_at w p k

-- the table without the values that were seen
abbrev pub unseen : Table → List ℕ → Table
unseen f seen k = if contains seen k then None else f k

pub unseen_more : (f : Table) (seen : List ℕ) (h : ℕ) → removed h (unseen f seen) ≡ unseen f (h ∷ seen)
unseen_more f seen h = λ i k. at k i
  where
    at : (k : ℕ) → removed h (unseen f seen) k ≡ unseen f (h ∷ seen) k
    at k = by (h == k) (contains seen k)
      where
        by : (a b : Bool) → cond a None (cond b None (f k)) ≡ cond (a || b) None (f k)
        by true b = refl
        by false b = refl

-- the operand with the value of its register
abbrev pub valued : List ℕ → Operand → Operand
valued xs o = record o { value = slice_index xs o.value }

-- the values that were taken, after these operands
abbrev pub seen_all : List ℕ → List ℕ → List Operand → List ℕ
seen_all xs seen [] = seen
seen_all xs seen (o ∷ os) = seen_all xs (seen_after seen (valued xs o)) os

abbrev pub taken_registers : List Operand → List ℕ
taken_registers os = map (λ o. o.value) (filter (λ o. o.is_taken) os)

pub first_two : (a b : Option Outcome) → a ≡ None → b ≡ None → first_some (a ∷ b ∷ []) ≡ None
first_two None None e g = refl
first_two _ _ e g = cc

operand_passes : (w : World) (p : ℕ) (kinds : List Kind) (needed x : ℕ) (e : Entry) → entry_at w p x ≡ Some e → takes kinds e.kind ≡ true
    → within needed (bits e.rights) ≡ true → operand w p kinds needed x ≡ None
unfolding operand
operand_passes w p kinds needed x e there kind rights = rw (there, kind, rights) refl

-- what is there without the seen ones is there, and wasn't seen
behind_seen : (b : Bool) (f : Option Entry) (e : Entry) → cond b None f ≡ Some e → (b ≡ false) × (f ≡ Some e)
behind_seen true f e h = cc
behind_seen false f e h = (refl, h)

pub one_examined : (w : World) (p : ℕ) (seen : List ℕ) (o : Operand) → IsLive (unseen (Reads w p) seen) o o.value → operand_after w p seen o ≡ None
one_examined w p seen o (inl z) = rw z refl
one_examined w p seen o (inr (y, there, kind, rights)) =
    let both = behind_seen (contains seen o.value) (entry_at w p o.value) y there in
    by (o.may_be_zero && (o.value == 0)) o.is_taken (contains seen o.value) _ _ both.0 (operand_passes w p o.kinds o.needed o.value y both.1 kind rights)
  where
    by : (a t c : Bool) (bad rest : Option Outcome) → c ≡ false → rest ≡ None → cond a None (cond (t && c) bad rest) ≡ None
    by true t c bad rest h k = refl
    by false true true bad rest h k = cc
    by false true false bad rest h k = k
    by false false c bad rest h k = k

-- what holds after the operands, which leave the state s of the rule
pub record Passed (w : World) (p : ℕ) (read : List ℕ) (arrays : List SlotArray) (slots : List (List ℕ)) (s : State) (xs seen : List ℕ)
    (os : List Operand) : Type 0 where
  pub none : examined_at w p seen (map (valued read) os) ≡ None
  pub holds : Holds (unseen (Reads w p) (seen_all read seen os)) s (written xs (taken_registers os) []) arrays slots
  pub states : IsState s

-- a register that isn't the word 0 is as it was read
abbrev IsUnread : State → List ℕ → List ℕ → Type 0
IsUnread s xs read = (r : ℕ) → (slice_index xs r ≡ slice_index read r) ⊎ (value_at s r ≡ Word 0)

-- each operand is one of the registers
abbrev pub AreOperands : List Operand → Type 0
AreOperands os = AllByRecursion (λ (o : Operand). o.value < register_count) os

-- 0 doesn't pass
abbrev pub bars_zero : Operand → Bool
bars_zero o = not o.may_be_zero

not_zero : (o : Operand) → o.may_be_zero ≡ false → fault_of o (Word 0) ≡ None → ⊥
not_zero o none e = let z : o.may_be_zero ≡ true = (and_parts o.may_be_zero (0 == 0) (word_passes o 0 e)).0 in cc

-- the first passes, and the others do behind it
pub parts : (s t : State) (o : Operand) (os : List Operand) → examined_all s (o ∷ os) ≡ Ok t
    → (fault_of o (value_at s o.value) ≡ None) × (examined_all (taken_from s o) os ≡ Ok t)
unfolding examined_all
parts s t o os = by (fault_of o (value_at s o.value))
  where
    by : (c : Option Cause) → and_then (examined_by s o c) (λ u. examined_all u os) ≡ Ok t → (c ≡ None) × (examined_all (taken_from s o) os ≡ Ok t)
    by None e = (refl, e)
    by (Some c) e = cc

module _ (w : World) (p : ℕ) (read : List ℕ) (arrays : List SlotArray) (slots : List (List ℕ)) where
  takes_it : (f : Table) (s : State) (xs : List ℕ) (o : Operand) → Holds f s xs arrays slots → IsState s → o.value < length s → (a : AbsVal)
      → value_at s o.value ≡ a → fault_of o a ≡ None
      → Holds (removed (slice_index xs o.value) f) (with_value s o.value (Word 0)) (slice_set xs o.value 0) arrays slots
  takes_it f s xs o h states lt (Word m) is e =
      consume_0 h states o.value lt (zero_word o.may_be_zero m (slice_index xs o.value) (word_passes o m e)
      (subst (λ a. Describes f xs a (slice_index xs o.value)) is (h.described o.value))).1
  takes_it f s xs o h states lt (Has maybe kind rights) is e = consume h states o.value lt maybe kind rights is
  takes_it f s xs o h states lt _ is e = cc

  live_at : (seen : List ℕ) (s : State) (xs : List ℕ) (o : Operand) → Holds (unseen (Reads w p) seen) s xs arrays slots
      → slice_index xs o.value ≡ slice_index read o.value → fault_of o (value_at s o.value) ≡ None
      → IsLive (unseen (Reads w p) seen) o (slice_index read o.value)
  live_at seen s xs o h same e =
      subst (IsLive (unseen (Reads w p) seen) o) same
      (passes_live (unseen (Reads w p) seen) xs o (value_at s o.value) (slice_index xs o.value) e (h.described o.value))

  named_step : (o : Operand) (os : List Operand) (s : State) (xs seen : List ℕ) → o.is_taken ≡ false
      → IsLive (unseen (Reads w p) seen) o (slice_index read o.value)
      → Passed w p read arrays slots s xs seen os → Passed w p read arrays slots s xs seen (o ∷ os)
  unfolding examined_at
  named_step o os s xs seen is live rest = record {
    none = first_two _ _ (one_examined w p seen (valued read o) live) (rw is rest.none);
    holds = rw is rest.holds;
    states = rest.states;
  }

  taken_step : (o : Operand) (os : List Operand) (s : State) (xs seen : List ℕ) → o.is_taken ≡ true
      → IsLive (unseen (Reads w p) seen) o (slice_index read o.value)
      → Passed w p read arrays slots s (slice_set xs o.value 0) (slice_index read o.value ∷ seen) os → Passed w p read arrays slots s xs seen (o ∷ os)
  unfolding examined_at
  taken_step o os s xs seen is live rest = record {
    none = first_two _ _ (one_examined w p seen (valued read o) live) (rw is rest.none);
    holds = rw is rest.holds;
    states = rest.states;
  }

  -- after a consumption the registers are as they were read, or the word 0
  still_unread : (s : State) (xs : List ℕ) (r : ℕ) → r < length s → IsUnread s xs read → IsUnread (with_value s r (Word 0)) (slice_set xs r 0) read
  still_unread s xs r lt unread q = by (cases_eq q r)
    where
      by : (q ≡ r) ⊎ (q ≢ r) → (slice_index (slice_set xs r 0) q ≡ slice_index read q) ⊎ (value_at (with_value s r (Word 0)) q ≡ Word 0)
      by (inl e) = inr (rw e (value_at-here s r (Word 0) lt))
      by (inr apart) =
          ⊎_elim (λ same. inl (get_or-set_other xs r q 0 0 apart ∙ same)) (λ word. inr (value_at-with s r q (Word 0) apart ∙ ap (untagged r) word)) (unread q)

  same_read : (s : State) (xs : List ℕ) (o : Operand) → o.may_be_zero ≡ false → fault_of o (value_at s o.value) ≡ None → IsUnread s xs read
      → slice_index xs o.value ≡ slice_index read o.value
  same_read s xs o some e unread = ⊎_elim (λ same. same) (λ word. absurd (not_zero o some (subst (λ a. fault_of o a ≡ None) word e))) (unread o.value)

  -- one operand, and then those behind it
  step_by : (o : Operand) (os : List Operand) (s t : State) (xs seen : List ℕ) → Holds (unseen (Reads w p) seen) s xs arrays slots → IsState s
      → IsUnread s xs read → o.value < register_count
      → slice_index xs o.value ≡ slice_index read o.value → fault_of o (value_at s o.value) ≡ None → examined_all (taken_from s o) os ≡ Ok t
      → ((u : State) (ys more : List ℕ) → Holds (unseen (Reads w p) more) u ys arrays slots → IsState u → IsUnread u ys read → examined_all u os ≡ Ok t
      → Passed w p read arrays slots t ys more os) → Passed w p read arrays slots t xs seen (o ∷ os)
  step_by o os s t xs seen h states unread inside same passed later rest = by o.is_taken refl
    where
      lt : o.value < length s
      lt = subst (λ n. o.value < n) (sym states.long) inside

      live : IsLive (unseen (Reads w p) seen) o (slice_index read o.value)
      live = live_at seen s xs o h same passed

      by : (b : Bool) → o.is_taken ≡ b → Passed w p read arrays slots t xs seen (o ∷ os)
      by true is = taken_step o os t xs seen is live
          (rest (with_value s o.value (Word 0)) (slice_set xs o.value 0) (slice_index read o.value ∷ seen)
          (subst (λ f. Holds f (with_value s o.value (Word 0)) (slice_set xs o.value 0) arrays slots) (unseen_more (Reads w p) seen (slice_index read o.value))
          (subst (λ x. Holds (removed x (unseen (Reads w p) seen)) (with_value s o.value (Word 0)) (slice_set xs o.value 0) arrays slots) same
          (takes_it (unseen (Reads w p) seen) s xs o h states lt (value_at s o.value) refl passed)))
          (states_with s states o.value lt (Word 0) refl) (still_unread s xs o.value lt unread) (rw is at later))
      by false is = named_step o os t xs seen is live (rest s xs seen h states unread (rw is at later))

  operands : (os : List Operand) (s t : State) (xs seen : List ℕ) → Holds (unseen (Reads w p) seen) s xs arrays slots → IsState s → IsUnread s xs read
      → AreOperands os → list_all bars_zero os ≡ true → examined_all s os ≡ Ok t → Passed w p read arrays slots t xs seen os
  unfolding examined_at examined_all
  operands [] s t xs seen h states unread inside live e = let is : s ≡ t = cc in record { none = refl; holds = rw (← is) h; states = rw (← is) states }
  operands (o ∷ os) s t xs seen h states unread (lt, inside) live e =
      let p2 = parts s t o os e in
      let bars = apart_then o.may_be_zero (list_all bars_zero os) live in
      step_by o os s t xs seen h states unread lt (same_read s xs o bars.0 p2.0 unread) p2.0 p2.1
      (λ u ys more holds are unread2 later. operands os u t ys more holds are unread2 inside bars.1 later)

  -- from the registers as they are read; at the first operand 0 may pass
  pub operands_from : (os : List Operand) (s t : State) → Holds (Reads w p) s read arrays slots → IsState s → AreOperands os
      → list_all bars_zero (drop 1 os) ≡ true → examined_all s os ≡ Ok t → Passed w p read arrays slots t read [] os
  unfolding examined_at examined_all
  operands_from [] s t h states inside live e = let is : s ≡ t = cc in record { none = refl; holds = rw (← is) h; states = rw (← is) states }
  operands_from (o ∷ os) s t h states (lt, inside) live e =
      let p2 = parts s t o os e in
      step_by o os s t read [] h states (λ r. inl refl) lt refl p2.0 p2.1
      (λ u ys more holds are unread later. operands os u t ys more holds are unread inside live later)
