-- The handles in a slab as a map, and what changes of the slab make of it.
use Rattle.zl_rights.proofs.Common.{◌≡◌, ◌≢◌, ℕ, zero, suc, ◌+◌, ◌-◌, ◌<◌, ◌≤◌, List, [], ◌∷◌, length, refl, sym, subst, ap, ◌∙◌, Option, Some, None, inl, inr}
use Rattle.zl_rights.proofs.Common.{arith, IsTrue, IfSome, is_some, nat_cmp, Bool, ◌==◌, is_sorted, below_all, and_from, ne_eqb, eq-eqb, nat_tests}
use Rattle.zl_rights.proofs.Common.{Map, get, put, without, update, has_key}
use Rattle.std.specs.Prelude.{IsSome, slice_index_or, ◌↔◌, reverse, count_by, is_err, Result, Ok, Err, OnOk, false}
use Rattle.std.proofs.lemmas.List.{length-reverse}
use Rattle.std.specs.Bool.{passes}
use Rattle.std.proofs.lemmas.Bool.{cases_eq, cases_lt, eqb-true, false≢true}
use Rattle.slab.specs.Slab.{Slab, entries, entries_from, slab_len, Updates, get as slot_at}
use Rattle.slab.proofs.SlabLemmas.{length-entries_from, length-entries, Contains-entries}
use Rattle.zl_rights.specs.declared.entry.Entry.{Entry}
use Rattle.zl_rights.proofs.MapLaws.{get-put, get-update}
use Rattle.zl_rights.proofs.Canonical.{same_map}
use Rattle.zl_rights.proofs.MapEdits.{sorted_put, sorted_without, get-without, is_sorted-update, length-update, length-without}
use Rattle.zl_rights.proofs.Values.{comes_again, free_inserted, free_new, free_removed, free_updated, live_made, made_given, made_taken, next_small}
use Rattle.zl_table.specs.Table.{MOST_VALUE, IsFull, IsTable, Inserts, Removes}
use Rattle.zl_rights.specs.Values.{CAPACITY, Free, IsFree, given_back, offered, taken}
use Rattle.zl_table.specs.Stored.{IsStored, free_stored, handles_stored, table_in}

module _ {X : Type 0} where
  -- ---- the entries of slots, by keys from the first one on

  get_lower : (first : ℕ) (slots : List (Option X)) (v : ℕ) → v < first → get (entries_from first slots) v ≡ None
  unfolding get
  get_lower first [] v lower = refl
  get_lower first (None ∷ rest) v lower = get_lower (first + 1) rest v (omega (arith, lower))
  get_lower first (Some x ∷ rest) v lower = grind (arith, nat_tests, get_lower (first + 1) rest v (omega (arith, lower)))

  get_slot : (first : ℕ) (slots : List (Option X)) (key : ℕ) → get (entries_from first slots) (first + key) ≡ slice_index_or slots key None
  unfolding get
  get_slot first [] key = refl
  get_slot first (None ∷ rest) zero = get_lower (first + 1) rest (first + 0) (omega arith)
  get_slot first (None ∷ rest) (suc key) =
      let shift : first + suc key ≡ first + 1 + key = omega arith in
      ap (get (entries_from (first + 1) rest)) shift ∙ get_slot (first + 1) rest key
  get_slot first (Some x ∷ rest) zero = grind (arith, nat_tests)
  get_slot first (Some x ∷ rest) (suc key) =
      let shift : first + suc key ≡ first + 1 + key = omega arith in
      let later = ap (get (entries_from (first + 1) rest)) shift ∙ get_slot (first + 1) rest key in
      grind (arith, nat_tests, later)

  below_stored : (v first : ℕ) (slots : List (Option X)) → v < first → IsTrue (below_all nat_cmp v (entries_from first slots))
  below_stored v first [] lower = refl
  below_stored v first (None ∷ rest) lower = below_stored v (first + 1) rest (omega (arith, lower))
  below_stored v first (Some x ∷ rest) lower = and_from _ _ (grind (arith, nat_tests, lower)) (below_stored v (first + 1) rest (omega (arith, lower)))

  sorted_stored : (first : ℕ) (slots : List (Option X)) → IsTrue (is_sorted nat_cmp (entries_from first slots))
  sorted_stored first [] = refl
  sorted_stored first (None ∷ rest) = sorted_stored (first + 1) rest
  sorted_stored first (Some x ∷ rest) = and_from _ _ (below_stored first (first + 1) rest (omega arith)) (sorted_stored (first + 1) rest)

  -- ---- the handles in a slab

  abbrev handles : Slab X → Map X
  handles s = entries_from 1 s.slots

  pub sorted_handles : (s : Slab X) → IsTrue (is_sorted nat_cmp (handles s))
  sorted_handles s = sorted_stored 1 s.slots

  pub length_handles : (s : Slab X) → length (handles s) ≡ slab_len s
  length_handles s = length-entries_from 1 s.slots

  pub none_at_zero : (s : Slab X) → get (handles s) 0 ≡ None
  none_at_zero s = get_lower 1 s.slots 0 (omega arith)

  pub get_key : (s : Slab X) (key : ℕ) → get (handles s) (key + 1) ≡ slot_at s key
  get_key s key = let shift : key + 1 ≡ 1 + key = omega arith in ap (get (handles s)) shift ∙ get_slot 1 s.slots key

  pub get_value : (s : Slab X) (v : ℕ) → 0 < v → get (handles s) v ≡ slot_at s (v - 1)
  get_value s v above = let shift : v ≡ v - 1 + 1 = omega (arith, above) in ap (get (handles s)) shift ∙ get_key s (v - 1)

  -- a change of one slot is that of one value
  module _ (old new : Slab X) (key : ℕ) (slot : Option X) (updates : Updates old new key slot) where
    changed : (m : Map X) → IsTrue (is_sorted nat_cmp m) → get m (key + 1) ≡ slot → ((v : ℕ) → v ≢ key + 1 → get m v ≡ get (handles old) v) → handles new ≡ m
    changed m sorted here others = same_map (handles new) m (passes _ (sorted_handles new)) (passes _ sorted) alike
      where
        apart : (v : ℕ) → v ≢ key + 1 → get (handles new) v ≡ get (handles old) v
        apart v differs = elim (cases_lt 0 v) [
          | inl above ↦ get_value new v above ∙ (updates.others (v - 1) (λ same. differs (omega (arith, same, above))) ∙ sym (get_value old v above))
          | inr low ↦ let is : v ≡ 0 = omega (arith, low) in rw is (none_at_zero new ∙ sym (none_at_zero old))
        ]

        alike : (v : ℕ) → get (handles new) v ≡ get m v
        alike v = elim (cases_eq v (key + 1)) [
          | inl same ↦ rw same (get_key new key ∙ (updates.changed ∙ sym here))
          | inr differs ↦ apart v differs ∙ sym (others v differs)
        ]

  pub put_slot : (old new : Slab X) (key : ℕ) (x : X) → Updates old new key (Some x) → handles new ≡ put (handles old) (key + 1) x
  put_slot old new key x updates = changed old new key (Some x) updates _ (sorted_put _ _ x (sorted_handles old))
      (get-put _ (key + 1) x (key + 1) ∙ rw (eq-eqb (key + 1) (key + 1) refl) refl)
      (λ v differs. get-put _ (key + 1) x v ∙ rw (ne_eqb (key + 1) v (λ same. differs (sym same))) refl)

  pub clear_slot : (old new : Slab X) (key : ℕ) → Updates old new key None → handles new ≡ without (handles old) (key + 1)
  clear_slot old new key updates = changed old new key None updates _ (sorted_without _ _ (sorted_handles old))
      (get-without _ (key + 1) (key + 1) ∙ rw (eq-eqb (key + 1) (key + 1) refl) refl)
      (λ v differs. get-without _ (key + 1) v ∙ rw (ne_eqb (key + 1) v (λ same. differs (sym same))) refl)

  pub write_slot : (old new : Slab X) (key : ℕ) (x : X) (f : X → X) → slot_at old key ≡ Some x → Updates old new key (Some (f x))
      → handles new ≡ update (handles old) (key + 1) f
  write_slot old new key x f there updates = changed old new key (Some (f x)) updates _ (is_sorted-update _ _ f ∙ sorted_handles old)
      (get-update _ (key + 1) f (key + 1) ∙ rw (eq-eqb (key + 1) (key + 1) refl, get_key old key, there) refl)
      (λ v differs. get-update _ (key + 1) f v ∙ rw (ne_eqb (key + 1) v (λ same. differs (sym same))) refl)

-- ---- a table in a slab

-- what is stored, by what is true of its values
stored_by : (s : Slab Entry) (values : List ℕ) (made room : ℕ) (last : Option ℕ) → slab_len s ≤ CAPACITY → IsFree (handles_stored s) (free_stored values made)
    → made ≤ room → IfSome last (λ v. v ≡ offered (free_stored values made)) → IsStored s values made room last
stored_by s values made room last few free roomy again = record {
  few = few;
  keys = λ key there.
      let live = live_made (handles_stored s) (free_stored values made) free (key + 1) (ap is_some (get_key s key) ∙ there) in
      omega (arith, live.1, free.few);
  free = free;
  roomy = roomy;
  again = again;
}

module _ (s : Slab Entry) (values : List ℕ) (made room : ℕ) (last : Option ℕ) (stored : IsStored s values made room last) where
  -- what stands at a value
  pub at_key : (v key : ℕ) → (0 < v → key + 1 ≡ v) → (v ≡ 0 → MOST_VALUE ≤ key) → get (handles_stored s) v ≡ slot_at s key
  at_key v key above zero_above = elim (cases_lt 0 v) [
    | inl some ↦ ap (get (handles_stored s)) (sym (above some)) ∙ get_key s key
    | inr low ↦
        let is : v ≡ 0 = omega (arith, low) in
        rw is (none_at_zero s ∙ sym (dead (slot_at s key) (λ there. absurd (omega (arith, stored.keys key there, zero_above is)))))
  ]
    where
      dead : (o : Option Entry) → (IsSome o → ⊥) → o ≡ None
      dead None never = refl
      dead (Some e) never = absurd (never refl)

  -- a value at whose key an entry stands is one above the key
  pub key_above : (v key : ℕ) (e : Entry) → (0 < v → key + 1 ≡ v) → (v ≡ 0 → MOST_VALUE ≤ key) → slot_at s key ≡ Some e → (key + 1 ≡ v) × (key < MOST_VALUE)
  key_above v key e above zero_above there =
      let within = stored.keys key (rw there refl) in
      elim (cases_lt 0 v) [ inl some ↦ (above some, within) | inr low ↦ absurd (omega (arith, zero_above (omega (arith, low)), within)) ]

  pub is_table : IsTable (handles_stored s)
  is_table = record {
    sorted = sorted_handles s;
    few = omega (arith, length_handles s, stored.few);
    values = λ v there. elim (cases_lt 0 v) [
      | inl some ↦ (some, let within = stored.keys (v - 1) (rw (get_value s v some) at there) in omega (arith, within))
      | inr low ↦ let is : v ≡ 0 = omega (arith, low) in absurd (false≢true (rw (is, none_at_zero s) at there))
    ];
  }

  -- a key at which an entry stands
  pub live_key : (key : ℕ) → IsSome (slot_at s key) → IsTrue (has_key (handles_stored s) (key + 1)) × (key < MOST_VALUE)
  live_key key there = (ap is_some (get_key s key) ∙ there, stored.keys key there)

  pub full_by : (len : ℕ) → len ≡ slab_len s → len ≡ 1024 → IsFull (table_in s values made last)
  full_by len counted all = length_handles s ∙ (sym counted ∙ all)

  pub not_full : (len : ℕ) → len ≡ slab_len s → (len ≡ 1024 → ⊥) → IsFull (table_in s values made last) → ⊥
  not_full len counted few all = few (counted ∙ (sym (length_handles s) ∙ all))

  -- the value that comes next
  pub next_fits : (len : ℕ) → len ≡ slab_len s → (len ≡ 1024 → ⊥) → (0 < offered (free_stored values made)) × (offered (free_stored values made) ≤ CAPACITY)
  next_fits len counted few = next_small (handles_stored s) (free_stored values made) stored.free (omega (arith, counted, few, stored.few, length_handles s))

  module _ (new : Slab Entry) (new_values : List ℕ) (new_made new_room : ℕ) where
    module _ (e : Entry) (value key len : ℕ) (is : value ≡ offered (free_stored values made)) (at : key + 1 ≡ value) (vacant : slot_at s key ≡ None)
        (updates : Updates s new key (Some e)) (left : free_stored new_values new_made ≡ taken (free_stored values made)) (counted : len ≡ slab_len s)
        (few : len ≡ 1024 → ⊥) where
      fewer : length (handles_stored s) < CAPACITY
      fewer = omega (arith, counted, few, stored.few, length_handles s)

      small : (0 < offered (free_stored values made)) × (offered (free_stored values made) ≤ CAPACITY)
      small = next_small (handles_stored s) (free_stored values made) stored.free fewer

      with_it : handles_stored new ≡ put (handles_stored s) value e
      with_it = rw (← at) (put_slot s new key e updates)

      pub inserts : Inserts (table_in s values made last) e value (table_in new new_values new_made None)
      inserts = record {
        offered = is;
        normal = stored.free.normal;
        unused = rw (← at) (get_key s key ∙ vacant);
        above = rw is small.0;
        below = rw is (omega (arith, small.1));
        again = again_at last stored.again;
        entries = with_it;
        free = left;
        last = refl;
      }
        where
          again_at : (l : Option ℕ) → IfSome l (λ v. v ≡ offered (free_stored values made)) → IfSome l (λ v. value ≡ v)
          again_at None a = tt
          again_at (Some v) a = is ∙ sym a

      pub inserted : (new_made ≤ new_room) → slab_len new ≡ slab_len s + 1 → IsStored new new_values new_made new_room None
      inserted roomy longer = stored_by new new_values new_made new_room None
          (omega (arith, counted, few, stored.few, longer))
          (rw (with_it, is, left) (free_inserted (handles_stored s) (free_stored values made) e stored.free fewer))
          roomy tt

    module _ (v key : ℕ) (e : Entry) (above : 0 < v → key + 1 ≡ v) (zero_above : v ≡ 0 → MOST_VALUE ≤ key) (there : slot_at s key ≡ Some e)
        (updates : Updates s new key None) (left : free_stored new_values new_made ≡ given_back v (free_stored values made)) where
      is : key + 1 ≡ v
      is = (key_above v key e above zero_above there).0

      without_it : handles_stored new ≡ without (handles_stored s) v
      without_it = rw (← is) (clear_slot s new key updates)

      pub removes : Removes (table_in s values made last) v e (table_in new new_values new_made (Some v))
      removes = record { was = at_key v key above zero_above ∙ there; entries = without_it; last = refl; free = left }

      pub removed : new_made ≤ new_room → slab_len new + 1 ≡ slab_len s → IsStored new new_values new_made new_room (Some v)
      removed roomy shorter = stored_by new new_values new_made new_room (Some v)
          (omega (arith, stored.few, shorter))
          (rw (without_it, left) (free_removed (handles_stored s) (free_stored values made) v stored.free (sorted_handles s)
          (ap is_some (at_key v key above zero_above ∙ there))))
          roomy
          (sym (ap offered left ∙ comes_again v (free_stored values made) (omega (arith, is))))

  pub rewrites : (new : Slab Entry) (v key : ℕ) (e : Entry) (f : Entry → Entry) → (0 < v → key + 1 ≡ v) → (v ≡ 0 → MOST_VALUE ≤ key)
      → slot_at s key ≡ Some e → Updates s new key (Some (f e)) → handles_stored new ≡ update (handles_stored s) v f
  rewrites new v key e f above zero_above there updates = rw (← (key_above v key e above zero_above there).0) (write_slot s new key e f there updates)

  pub rewritten : (new : Slab Entry) (v key : ℕ) (e : Entry) (f : Entry → Entry) → (0 < v → key + 1 ≡ v) → (v ≡ 0 → MOST_VALUE ≤ key)
      → slot_at s key ≡ Some e → Updates s new key (Some (f e)) → IsStored new values made room None
  rewritten new v key e f above zero_above there updates = stored_by new values made room None
      (omega (
        arith,
        stored.few,
        length_handles new,
        length_handles s,
        ap length (rewrites new v key e f above zero_above there updates),
        length-update (handles_stored s) v f,
      ))
      (rw (rewrites new v key e f above zero_above there updates) (free_updated (handles_stored s) (free_stored values made) v f stored.free))
      stored.roomy
      tt

  -- an entry that is taken out leaves room for its value
  pub room_left : (key : ℕ) (e : Entry) → slot_at s key ≡ Some e → length values < room
  room_left key e there =
      let live = length-without (handles_stored s) (key + 1) (sorted_handles s) (ap is_some (get_key s key ∙ there)) in
      omega (arith, live, stored.free.counted, stored.roomy, length-reverse values)

  -- room for the values that were made, when the next insertion has its value
  pub room_taken : (new_values : List ℕ) (new_made more : ℕ) → free_stored new_values new_made ≡ taken (free_stored values made)
      → (length values ≡ 0 → made + 1 ≤ more) → room ≤ more → new_made ≤ more
  room_taken new_values new_made more left enough grown =
      let least = made_taken (reverse values) made more (λ none. enough (sym (length-reverse values) ∙ none)) (omega (arith, stored.roomy, grown)) in
      subst (λ (n : ℕ). n ≤ more) (sym (ap (λ (f : Free). f.made) left)) least

  pub room_given : (new_values : List ℕ) (new_made v : ℕ) → free_stored new_values new_made ≡ given_back v (free_stored values made) → new_made ≤ room
  room_given new_values new_made v left =
      subst (λ (n : ℕ). n ≤ room) (sym (ap (λ (f : Free). f.made) left)) (made_given v (reverse values) made room stored.roomy)

pub when_ok : {A E : Type 0} {P : Type 0} (r : Result A E) → is_err r ≡ false → OnOk r P → P
when_ok (Ok a) ok p = p
when_ok (Err e) wrong p = absurd (false≢true (sym wrong))

pub stored_new : (s : Slab Entry) (values : List ℕ) (room : ℕ) → s.slots ≡ [] → values ≡ [] → IsStored s values 0 room None
stored_new s values room empty none = stored_by s values 0 room None (few_in s.slots empty) (rw (empty, none) free_new) (omega arith) tt
  where
    few_in : (slots : List (Option Entry)) → slots ≡ [] → count_by is_some slots ≤ CAPACITY
    few_in slots empty = rw empty (omega arith)

-- ---- whether it is empty

no_length : {A : Type 0} (xs : List A) → length xs ≡ 0 → xs ≡ []
no_length [] e = refl
no_length (x ∷ xs) e = absurd (omega (arith, e))

pub none_counted : (s : Slab Entry) → slab_len s ≡ 0 → handles_stored s ≡ []
none_counted s none = no_length (handles_stored s) (length_handles s ∙ none)

pub empty_by : (s : Slab Entry) (result : Bool) → result ≡ (slab_len s == 0) → IsTrue result ↔ (handles_stored s ≡ [])
empty_by s result is = (
  λ yes_. none_counted s (eqb-true (slab_len s) 0 (sym is ∙ yes_)),
  λ none. is ∙ eq-eqb (slab_len s) 0 (sym (length_handles s) ∙ ap length none),
)

-- no entry comes first where there is none
pub none_first : (s : Slab Entry) → entries s ≡ [] → handles_stored s ≡ []
none_first s none = none_counted s (sym (length-entries s) ∙ ap length none)

-- the first entry stands at its key
pub first_there : (s : Slab Entry) (key : ℕ) (e : Entry) (rest : List (ℕ × Entry)) → entries s ≡ (key, e) ∷ rest → slot_at s key ≡ Some e
first_there s key e rest is = (Contains-entries s key e).0 (rw is (0, omega arith, refl))
