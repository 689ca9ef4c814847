-- The destinations of an answer get their values one after another, and are then as the rule says.
use Rattle.zl_verify.proofs.Common.{ANY, AbsVal, AllByRecursion, Bool, Entry, Has, Holds, IsAs, IsState, KindOf, List, None, RightsOf, SlotArray, Some, State}
use Rattle.zl_verify.proofs.Common.{Table, Word, [], are_distinct, can_be_named, eqb-false, false, has_one, inl, inr, is_has, is_result, kind_in, length, map}
use Rattle.zl_verify.proofs.Common.{not, refl, register_count, rights_in, slice_index, slice_set, subst, sym, true, value_at, with_all, with_value, written, ℕ}
use Rattle.zl_verify.proofs.Common.{◌&&◌, ◌<◌, ◌==◌, ◌∷◌, ◌≡◌, ◌≤◌, ◌⊎◌}
use Rattle.zl_verify.proofs.Owners.{value_at-with, is_has-untagged}
use Rattle.zl_verify.proofs.Writing.{write_word}
use Rattle.zl_verify.proofs.Tagging.{test_apart, named_with, states_with}
use Rattle.zl_verify.proofs.Consuming.{added, write_none, write_handle, write_kind, write_rights}
use Rattle.std.proofs.lemmas.Bool.{or_from, or_parts}

-- ---- which values an answer may give

-- the value of the next destination, 0 where there is none, and those behind it
abbrev pub first_value : List ℕ → ℕ
first_value [] = 0
first_value (v ∷ vs) = v

abbrev pub more_values : List ℕ → List ℕ
more_values [] = []
more_values (v ∷ vs) = vs

-- register r may get x for the value a, and then the table is g
abbrev pub Enters : Table → State → List ℕ → ℕ → AbsVal → ℕ → Table → Type 0
Enters f s xs r (Word n) x g = (x ≤ n) × (x ≤ ANY) × (g ≡ f)
Enters f s xs r (Has maybe kind rights) x g =
    ((maybe ≡ true) × (x ≡ 0) × (g ≡ f)) ⊎ ((e : Entry) × (x ≤ ANY) × (0 < x) × (f x ≡ None) × IsAs kind rights (Some e) × (g ≡ added x e f))
Enters f s xs r (KindOf t) x g = (t ≡ r → ⊥) × (can_be_named (value_at s t) ≡ true) × (x ≤ ANY) × (x ≡ kind_in (f (slice_index xs t))) × (g ≡ f)
Enters f s xs r (RightsOf t) x g = (t ≡ r → ⊥) × (can_be_named (value_at s t) ≡ true) × (x ≤ ANY) × (x ≡ rights_in (f (slice_index xs t))) × (g ≡ f)

-- the destinations may get these values one after another, and then the table is g
abbrev pub Fits : Table → State → List ℕ → List (ℕ × AbsVal) → List ℕ → Table → Type 0
Fits f s xs [] vs g = g ≡ f
Fits f s xs (d ∷ ds) vs g =
    (mid : Table) × Enters f s xs d.0 d.1 (first_value vs) mid × Fits mid (with_value s d.0 d.1) (slice_set xs d.0 (first_value vs)) ds (more_values vs) g

-- ---- one destination

module _ {f : Table} {s : State} {xs : List ℕ} {arrays : List SlotArray} {slots : List (List ℕ)} (h : Holds f s xs arrays slots) (states : IsState s) (r : ℕ)
    (lt : r < length s) (free : is_has (value_at s r) ≡ false) where
  enters : (a : AbsVal) (x : ℕ) (g : Table) → Enters f s xs r a x g → Holds g (with_value s r a) (slice_set xs r x) arrays slots
  enters (Word n) x g (le, few, same) = rw same (write_word h states r lt free n x few le)
  enters (Has maybe kind rights) x g (inl (m, z, same)) = rw (same, m, z) (write_none h states r lt free kind rights)
  enters (Has maybe kind rights) x g (inr (e, few, some, unused, fits, same)) =
      rw same (write_handle h states r lt free maybe kind rights x e few some unused fits)
  enters (KindOf t) x g (apart, named, few, is, same) = rw same (write_kind h states r lt free t x apart few is)
  enters (RightsOf t) x g (apart, named, few, is, same) = rw same (write_rights h states r lt free t x apart few is)

  still_states : (a : AbsVal) (x : ℕ) (g : Table) → Enters f s xs r a x g → IsState (with_value s r a)
  still_states (Word n) x g e = states_with s states r lt (Word n) refl
  still_states (Has maybe kind rights) x g e = states_with s states r lt (Has maybe kind rights) refl
  still_states (KindOf t) x g (apart, named, few, is, same) =
      states_with s states r lt (KindOf t) (rw (test_apart t r apart) (named_with s states r lt (KindOf t) t apart named))
  still_states (RightsOf t) x g (apart, named, few, is, same) =
      states_with s states r lt (RightsOf t) (rw (test_apart t r apart) (named_with s states r lt (RightsOf t) t apart named))

-- ---- all destinations

pub apart_then : (a b : Bool) → (not a && b) ≡ true → (a ≡ false) × (b ≡ true)
apart_then true b e = cc
apart_then false b e = (refl, e)

written_next : (xs : List ℕ) (r : ℕ) (ds vs : List ℕ) → written xs (r ∷ ds) vs ≡ written (slice_set xs r (first_value vs)) ds (more_values vs)
written_next xs r ds [] = refl
written_next xs r ds (v ∷ vs) = refl

-- a register that gets nothing now is as free as it was
still_free : (s : State) (r : ℕ) (a : AbsVal) (ds : List (ℕ × AbsVal)) → is_result ds r ≡ false → has_one s ds ≡ false → has_one (with_value s r a) ds ≡ false
still_free s r a [] other e = refl
still_free s r a (d ∷ ds) other e =
    let apart = or_parts (d.0 == r) (is_result ds r) other in
    let free = or_parts (is_has (value_at s d.0)) (has_one s ds) e in
    or_from (is_has (value_at (with_value s r a) d.0)) (has_one (with_value s r a) ds)
    (rw (value_at-with s r d.0 a (eqb-false d.0 r apart.0), is_has-untagged r (value_at s d.0)) free.0)
    (still_free s r a ds apart.1 free.1)

-- each destination is a register
abbrev pub AreInside : List (ℕ × AbsVal) → Type 0
AreInside ds = AllByRecursion (λ (d : ℕ × AbsVal). d.0 < register_count) ds

-- registers that hold no handle before get what fits, and hold it then
pub results : (ds : List (ℕ × AbsVal)) (vs : List ℕ) (f : Table) (s : State) (xs : List ℕ) (arrays : List SlotArray) (slots : List (List ℕ)) (g : Table)
    → Holds f s xs arrays slots → IsState s → AreInside ds
    → are_distinct ds ≡ true → has_one s ds ≡ false → Fits f s xs ds vs g → Holds g (with_all s ds) (written xs (map (λ x. x.0) ds) vs) arrays slots
unfolding are_distinct with_all
results [] vs f s xs arrays slots g h states inside distinct free fits = rw fits h
results (d ∷ ds) vs f s xs arrays slots g h states (inside, more) distinct free (mid, here, later) =
    let apart = apart_then (is_result ds d.0) (are_distinct ds) distinct in
    let unheld = or_parts (is_has (value_at s d.0)) (has_one s ds) free in
    let lt : d.0 < length s = subst (λ n. d.0 < n) (sym states.long) inside in
    rw (written_next xs d.0 (map (λ x. x.0) ds) vs)
    (results ds (more_values vs) mid (with_value s d.0 d.1) (slice_set xs d.0 (first_value vs)) arrays slots g
    (enters h states d.0 lt unheld.0 d.1 (first_value vs) mid here)
    (still_states h states d.0 lt unheld.0 d.1 (first_value vs) mid here)
    more apart.1 (still_free s d.0 d.1 ds apart.0 unheld.1) later)
