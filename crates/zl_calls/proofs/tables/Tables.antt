-- Tables that handles enter and leave, and empty ones.
use Rattle.zl_calls.proofs.Common.{Drained, Entry, Err, Handles, Inserts, IsTable, Kind, List, Map, None, Objects, Releases, Removes, Result, Some, Status, []}
use Rattle.zl_calls.proofs.Common.{and_le_l, ap, arith, bit_and, cases_Bool, eqb-true, false, get, get-put, if◌then◌else◌, inl, inr, length, length-put_new}
use Rattle.zl_calls.proofs.Common.{looked_up, put_key, refl, same_Some, settable_at, sorted_put, sym, within, without, without_handle, ℕ, ◌<◌, ◌==◌, ◌^◌, ◌∙◌}
use Rattle.zl_calls.proofs.Common.{◌∷◌, ◌≡◌, ◌≤◌}
use Rattle.zl_rights.specs.declared.kind.Kind.TheVariants as kind
use Rattle.zl_rights.specs.declared.status.Status.TheVariants as status
use Rattle.zl_calls.specs.calls.Process.{none_left, one_more}
use Rattle.zl_objects.proofs.Sums.{length_left}

shorter : {X : Type 0} (m : Map X) (k : ℕ) (v : X) → get m k ≡ Some v → length (without m k) < length m
unfolding get without
shorter [] k v h = absurd cc
shorter (e ∷ m) k v h = elim (cases_Bool (e.0 == k)) as (λ _. length (without (e ∷ m) k) < length (e ∷ m)) [
  | inl here ↦ rw here (omega (arith, length_left m k))
  | inr apart ↦ rw apart (omega (arith, shorter m k v (rw apart at h)))
]

pub drained_is_shorter : (old : Handles) (value : ℕ) (entry : Entry) (new : Handles) → Removes old value entry new → length new.entries < length old.entries
drained_is_shorter old value entry new removes = rw removes.entries (shorter old.entries value entry removes.was)

pub empty_refuses : (m : Map Entry) (value needed n : ℕ) (kinds : List Kind) → n ≡ length m → n ≡ 0
    → ◌≡◌ {A = Result Entry Status} (Err status.BadHandle) (looked_up m value kinds needed)
unfolding get
empty_refuses [] value needed n kinds count empty = refl
empty_refuses (e ∷ m) value needed n kinds count empty = absurd (omega (arith, count, empty))

by_entries : (t : Handles) (value : ℕ) (m : Map Entry) → t.entries ≡ m → length m ≡ 0 → (None ≡ get t.entries value) × (t ≡ without_handle t value)
unfolding get
by_entries t value [] is none = (rw is refl, rw is refl)
by_entries t value (e ∷ m) is none = absurd (omega (arith, none))

pub empty_has_none : (t : Handles) (value n : ℕ) → n ≡ length t.entries → n ≡ 0 → (None ≡ get t.entries value) × (t ≡ without_handle t value)
empty_has_none t value n count empty = by_entries t value t.entries refl (omega (arith, count, empty))

-- ---- a table with one handle more

pub inserted_table : (t : Handles) (e : Entry) (v : ℕ) (t2 : Handles) → IsTable t.entries → length t.entries < 1024 → Inserts t e v t2 → IsTable t2.entries
inserted_table t e v t2 table room inserts = record {
  sorted = rw inserts.entries (sorted_put t.entries v e table.sorted);
  few = rw (inserts.entries, length-put_new t.entries v e inserts.unused) (omega (arith, room));
  values = λ value there. elim (put_key t.entries v e value (rw inserts.entries at there)) as (λ _. (0 < value) × (value ≤ 65535)) [
    | inl same ↦ rw same (inserts.above, inserts.below)
    | inr old ↦ table.values value old
  ];
}

-- what is in the new table is the new entry, or was there before
pub found_inserted : (A : Type 0) (t : Handles) (e : Entry) (v : ℕ) (t2 : Handles) → Inserts t e v t2 → (value : ℕ) (q : Entry) → get t2.entries value ≡ Some q
    → (e ≡ q → A) → (get t.entries value ≡ Some q → A) → A
found_inserted A t e v t2 inserts value q at new old =
    let read : (if v == value then Some e else get t.entries value) ≡ Some q =
    sym (get-put t.entries v e value) ∙ (ap (λ (m : Map Entry). get m value) (sym inserts.entries) ∙ at) in
    elim (cases_Bool (v == value)) as (λ _. A) [ inl here ↦ new (same_Some e q (rw here at read)) | inr apart ↦ old (rw apart at read) ]

-- ---- the handles of a table close

pub drained_closes : (old : Handles) (value : ℕ) (e : Entry) (new : Handles) (r mid r2 : Objects) → Removes old value e new → Releases (e.koid ∷ []) [] r mid
    → Drained new.entries mid r2 → Drained old.entries r r2
drained_closes old value e new r mid r2 removes first rest = one_more old.entries value e r mid r2 removes.was first (rw removes.entries at rest)

pub all_closed : (t : Handles) (r : Objects) → t.entries ≡ [] → Drained t.entries r r
all_closed t r none = rw none (none_left r)

-- ---- sets of bits

settable_small : (k : Kind) → settable_at k < 2 ^ 32
settable_small kind.Event = omega arith
settable_small _ = omega arith

-- a number that is too large has a bit outside the set
pub too_large : (bits : ℕ) (k : Kind) → (bits < 2 ^ 32 → ⊥) → within bits (settable_at k) ≡ false
too_large bits k large = elim (cases_Bool (within bits (settable_at k))) as (λ _. within bits (settable_at k) ≡ false) [
  | inl inside ↦ absurd (large (omega (arith, eqb-true (bit_and (settable_at k) bits) bits inside, and_le_l (settable_at k) bits, settable_small k)))
  | inr outside ↦ outside
]
