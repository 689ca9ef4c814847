-- The values that insertions get.
use Rattle.zl_rights.proofs.Common.{◌≡◌, ◌≢◌, ℕ, ◌+◌, ◌-◌, ◌<◌, ◌≤◌, List, [], ◌∷◌, length, refl, ap, Option, Some, None, inl, inr}
use Rattle.zl_rights.proofs.Common.{arith, IsTrue, is_some, nat_cmp, is_sorted, ne_eqb, eq-eqb, nat_tests, if◌then◌else◌, nat_lt, nat_le, ◌&&◌}
use Rattle.zl_rights.proofs.Common.{Map, get, put, without, update, has_key}
use Rattle.std.proofs.lemmas.Bool.{cases_eq}
use Rattle.zl_rights.specs.declared.entry.Entry.{Entry}
use Rattle.zl_rights.proofs.MapLaws.{get-put}
use Rattle.zl_rights.proofs.MapEdits.{get-without, has_key-update, length-put_new, length-update, length-without}
use Rattle.zl_rights.specs.Values.{CAPACITY, Free, IsFree, IsNormal, given_back, offered, taken, given_of, taken_of, new_free, next_of, deepest, times}

-- ---- of the values alone

-- what is freed last comes next
pub comes_again : (v : ℕ) (f : Free) → 0 < v → offered (given_back v f) ≡ v
comes_again v f some = by_list f.freed f.made
  where
    by_list : (vs : List ℕ) (made : ℕ) → offered (given_of v vs made) ≡ v
    by_list [] made = grind (arith, nat_tests, some)
    by_list (w ∷ ws) made = refl

-- a value that is taken and given back changes nothing
pub taken_given : (f : Free) → IsNormal f → given_back (offered f) (taken f) ≡ f
unfolding deepest
taken_given f normal = by_list f.freed f.made normal
  where
    by_list : (vs : List ℕ) (made : ℕ) → deepest (made + 1) vs ≢ made → given_back (next_of vs made) (taken_of vs made) ≡ record { freed = vs; made = made }
    by_list [] made normal = grind (arith, nat_tests)
    by_list (v ∷ []) made normal = rw (ne_eqb v made normal) refl
    by_list (v ∷ w ∷ ws) made normal = refl

-- a value that is given back and taken changes nothing
pub given_taken : (v : ℕ) (f : Free) → 0 < v → taken (given_back v f) ≡ f
given_taken v f some = by_list f.freed f.made
  where
    by_list : (vs : List ℕ) (made : ℕ) → taken (given_of v vs made) ≡ record { freed = vs; made = made }
    by_list [] made = elim (cases_eq v made) [
      | inl same ↦ let more : made - 1 + 1 ≡ made = omega (arith, same, some) in rw (eq-eqb v made same) (ap (λ n. record { freed = []; made = n }) more)
      | inr other ↦ rw (ne_eqb v made other) refl
    ]
    by_list (w ∷ ws) made = refl

normal_taken : (vs : List ℕ) (made : ℕ) → deepest (made + 1) vs ≢ made → IsNormal (taken_of vs made)
unfolding deepest
normal_taken [] made normal = λ same. omega (arith, same)
normal_taken (v ∷ []) made normal = λ same. omega (arith, same)
normal_taken (v ∷ w ∷ ws) made normal = normal

normal_given : (v : ℕ) (vs : List ℕ) (made : ℕ) → 0 < v → deepest (made + 1) vs ≢ made → IsNormal (given_of v vs made)
unfolding deepest
normal_given v [] made some normal = elim (cases_eq v made) [
  | inl same ↦ rw (eq-eqb v made same) (λ wrong. omega (arith, wrong, some, same))
  | inr other ↦ rw (ne_eqb v made other) other
]
normal_given v (w ∷ ws) made some normal = normal

-- only where none is free one more is made
pub made_taken : (vs : List ℕ) (made room : ℕ) → (length vs ≡ 0 → made + 1 ≤ room) → made ≤ room → (taken_of vs made).made ≤ room
made_taken [] made room more roomy = more refl
made_taken (v ∷ vs) made room more roomy = roomy

pub made_given : (v : ℕ) (vs : List ℕ) (made room : ℕ) → made ≤ room → (given_of v vs made).made ≤ room
made_given v [] made room roomy = grind (arith, nat_tests, roomy)
made_given v (w ∷ ws) made room roomy = roomy

-- ---- of the values of a table

module _ (entries : Map Entry) where
  -- the value that comes next is unused
  pub next_unused : (f : Free) → IsFree entries f → get entries (offered f) ≡ None
  unfolding times
  next_unused f is_free = by_list f.freed f.made (get entries (offered f)) (is_free.each (offered f))
    where
      by_list : (vs : List ℕ) (made : ℕ) (there : Option Entry)
          → (if is_some there then 1 else 0) + times (next_of vs made) vs ≡ (if nat_lt 0 (next_of vs made) && nat_le (next_of vs made) made then 1 else 0)
          → there ≡ None
      by_list vs made None each = refl
      by_list [] made (Some e) each = grind (arith, nat_tests, each)
      by_list (v ∷ vs) made (Some e) each = grind (arith, nat_tests, each)

  -- where there are few entries, it is small
  pub next_small : (f : Free) → IsFree entries f → length entries < CAPACITY → (0 < offered f) × (offered f ≤ CAPACITY)
  unfolding times
  next_small f is_free few = by_list f.freed f.made is_free.counted (is_free.each (offered f)) is_free.few
    where
      by_list : (vs : List ℕ) (made : ℕ) → made ≡ length entries + length vs
          → (if has_key entries (next_of vs made) then 1 else 0) + times (next_of vs made) vs
          ≡ (if nat_lt 0 (next_of vs made) && nat_le (next_of vs made) made then 1 else 0)
          → made ≤ CAPACITY → (0 < next_of vs made) × (next_of vs made ≤ CAPACITY)
      by_list [] made counted each low = (omega arith, omega (arith, counted, few))
      by_list (v ∷ vs) made counted each low = grind (arith, nat_tests, each, low)

  -- a live value was made
  pub live_made : (f : Free) → IsFree entries f → (v : ℕ) → IsTrue (has_key entries v) → (0 < v) × (v ≤ f.made)
  live_made f is_free v there = let each = is_free.each v in grind (arith, nat_tests, each, there)

  pub free_inserted : (f : Free) (e : Entry) → IsFree entries f → length entries < CAPACITY → IsFree (put entries (offered f) e) (taken f)
  unfolding times
  free_inserted f e is_free few = record {
    counted = counted_at f.freed f.made is_free.counted;
    each = λ v. each_at f.freed f.made v (is_free.each v) unused;
    normal = normal_taken f.freed f.made is_free.normal;
    few = few_at f.freed f.made is_free.counted is_free.few;
  }
    where
      unused : get entries (offered f) ≡ None
      unused = next_unused f is_free

      longer : length (put entries (offered f) e) ≡ length entries + 1
      longer = length-put_new entries (offered f) e unused

      counted_at : (vs : List ℕ) (made : ℕ) → made ≡ length entries + length vs
          → (taken_of vs made).made ≡ length (put entries (offered f) e) + length (taken_of vs made).freed
      counted_at [] made counted = omega (arith, counted, longer)
      counted_at (v ∷ vs) made counted = omega (arith, counted, longer)

      few_at : (vs : List ℕ) (made : ℕ) → made ≡ length entries + length vs → made ≤ CAPACITY → (taken_of vs made).made ≤ CAPACITY
      few_at [] made counted low = omega (arith, counted, few)
      few_at (v ∷ vs) made counted low = low

      each_at : (vs : List ℕ) (made v : ℕ) → (if has_key entries v then 1 else 0) + times v vs ≡ (if nat_lt 0 v && nat_le v made then 1 else 0)
          → get entries (next_of vs made) ≡ None → (if has_key (put entries (next_of vs made) e) v then 1 else 0) + times v (taken_of vs made).freed
          ≡ (if nat_lt 0 v && nat_le v (taken_of vs made).made then 1 else 0)
      each_at [] made v each unused = rw (get-put entries (made + 1) e v) (grind (arith, nat_tests, each, unused))
      each_at (w ∷ ws) made v each unused = rw (get-put entries w e v) (grind (arith, nat_tests, each, unused))

  pub free_removed : (f : Free) (v : ℕ) → IsFree entries f → IsTrue (is_sorted nat_cmp entries) → IsTrue (has_key entries v)
      → IsFree (without entries v) (given_back v f)
  unfolding times
  free_removed f v is_free sorted there = record {
    counted = counted_at f.freed f.made is_free.counted;
    each = λ u. each_at f.freed f.made u (is_free.each u);
    normal = normal_given v f.freed f.made made.0 is_free.normal;
    few = few_at f.freed f.made is_free.few;
  }
    where
      made : (0 < v) × (v ≤ f.made)
      made = live_made f is_free v there

      shorter : length (without entries v) + 1 ≡ length entries
      shorter = length-without entries v sorted there

      counted_at : (vs : List ℕ) (made : ℕ) → made ≡ length entries + length vs
          → (given_of v vs made).made ≡ length (without entries v) + length (given_of v vs made).freed
      counted_at [] made counted = grind (arith, nat_tests, counted, shorter)
      counted_at (w ∷ ws) made counted = omega (arith, counted, shorter)

      few_at : (vs : List ℕ) (made : ℕ) → made ≤ CAPACITY → (given_of v vs made).made ≤ CAPACITY
      few_at [] made low = grind (arith, nat_tests, low)
      few_at (w ∷ ws) made low = low

      each_at : (vs : List ℕ) (made u : ℕ) → (if has_key entries u then 1 else 0) + times u vs ≡ (if nat_lt 0 u && nat_le u made then 1 else 0)
          → (if has_key (without entries v) u then 1 else 0) + times u (given_of v vs made).freed
          ≡ (if nat_lt 0 u && nat_le u (given_of v vs made).made then 1 else 0)
      each_at [] made u each = rw (get-without entries v u) (grind (arith, nat_tests, each, there))
      each_at (w ∷ ws) made u each = rw (get-without entries v u) (grind (arith, nat_tests, each, there))

  pub free_updated : (f : Free) (v : ℕ) (g : Entry → Entry) → IsFree entries f → IsFree (update entries v g) f
  free_updated f v g is_free = record {
    counted = omega (arith, is_free.counted, length-update entries v g);
    each = λ u. rw (has_key-update entries v g u) (is_free.each u);
    normal = is_free.normal;
    few = is_free.few;
  }

-- where nothing was made, nothing is live or free
pub free_new : IsFree [] new_free
unfolding times deepest get
free_new = record { counted = refl; each = λ v. none v; normal = λ same. omega (arith, same); few = omega arith }
  where
    none : (v : ℕ) → ◌≡◌ {A = ℕ} 0 (if nat_lt 0 v && nat_le v 0 then 1 else 0)
    none v = grind (arith, nat_tests)
