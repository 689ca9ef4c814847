-- A handle moves from one register to another, or is exchanged with one in a slot array.
use Rattle.zl_verify.proofs.Common.{ANY, AbsVal, Bool, Describes, Entry, Has, Holds, IsHandle, IsState, KindOf, List, Option, RightsOf, SlotArray, Some, State}
use Rattle.zl_verify.proofs.Common.{Table, Word, [], ap, arith, cases_Bool, cases_eq, eqb-false, eqb-true, false, get_or-set_other, get_or-set_same}
use Rattle.zl_verify.proofs.Common.{if◌then◌else◌, inl, inr, is_has, is_it, is_some, keepers, kind_in, length, length-map, map, may_move, moved, one_if, owners}
use Rattle.zl_verify.proofs.Common.{owns, place_at, refl, rights_in, same_Some, slice_get, slice_index, slice_index_or, slice_set, slot_value, subst, suc, sym}
use Rattle.zl_verify.proofs.Common.{true, untagged, value_at, with_long, with_value, zero, ℕ, ◌+◌, ◌<◌, ◌==◌, ◌∙◌, ◌∷◌, ◌≡◌, ◌≢◌, ◌≤◌, ◌⊎◌}
use Rattle.std.proofs.lemmas.List.{length-set, map-set, set-get_or, get_or-map}
use Rattle.zl_abs.specs.Values.{retagged}
use Rattle.zl_verify.proofs.Owners.{by_register, owns_free, owners-map, owners-set, owners-with, value_at-map, value_at-with, value_at-here, set_same}
use Rattle.zl_verify.proofs.Owners.{set_apart, keepers-set}
use Rattle.zl_verify.proofs.Writing.{nothing_at_0, other_described}

-- ---- take

is_has-retagged : (b a : ℕ) (c : AbsVal) → is_has (retagged b a c) ≡ is_has c
is_has-retagged b a (Word m) = refl
is_has-retagged b a (Has maybe kind rights) = refl
is_has-retagged b a (KindOf t) = by_register (λ c. is_has c ≡ false) t b (KindOf a) (KindOf t) refl (λ apart. refl)
is_has-retagged b a (RightsOf t) = by_register (λ c. is_has c ≡ false) t b (RightsOf a) (RightsOf t) refl (λ apart. refl)

-- what moves is no tag
stays : (a b : ℕ) (c : AbsVal) → may_move c ≡ true → retagged b a (untagged a c) ≡ c
stays a b (KindOf t) e = cc
stays a b (RightsOf t) e = cc
stays a b _ e = refl

described_anywhere : (f : Table) (xs ys : List ℕ) (c : AbsVal) (x : ℕ) → may_move c ≡ true → Describes f xs c x → Describes f ys c x
described_anywhere f xs ys (Word m) x e d = d
described_anywhere f xs ys (Has maybe kind rights) x e d = d
described_anywhere f xs ys _ x e d = cc

abbrev pub moved_to : List ℕ → ℕ → ℕ → List ℕ
moved_to xs a b = slice_set (slice_set xs a (slice_index xs b)) b 0

module _ {f : Table} {s : State} {xs : List ℕ} {arrays : List SlotArray} {slots : List (List ℕ)} (h : Holds f s xs arrays slots) (a b : ℕ) (apart : b ≢ a)
    (in_a : a < length s) (in_b : b < length s)
    (free : is_has (value_at s a) ≡ false) (v : AbsVal) (is : value_at s b ≡ v) (moves : may_move v ≡ true) where
  long_between : length (map (retagged b a) (with_value s a v)) ≡ length s
  long_between = length-map (with_value s a v) (retagged b a) ∙ with_long s a v

  value_between : (q : ℕ) → q ≢ a → value_at (map (retagged b a) (with_value s a v)) q ≡ retagged b a (untagged a (value_at s q))
  value_between q na = value_at-map (retagged b a) refl (with_value s a v) q ∙ ap (retagged b a) (value_at-with s a q v na)

  value_at_a : value_at (map (retagged b a) (with_value s a v)) a ≡ v
  value_at_a = value_at-map (retagged b a) refl (with_value s a v) a ∙ (ap (retagged b a) (value_at-here s a v in_a) ∙ stays a b v moves)

  -- as many registers own y
  owned_alike : (y : ℕ) → owners y (moved s a b v) (moved_to xs a b) ≡ owners y s xs
  owned_alike y =
      let first = owners-with y a s xs v (slice_index xs b) h.width in_a in
      let mapped = owners-map (retagged b a) (is_has-retagged b a) y (with_value s a v) (slice_set xs a (slice_index xs b)) in
      let second = owners-set y b (map (retagged b a) (with_value s a v)) (slice_set xs a (slice_index xs b)) (Word 0) 0
      (length-set xs a (slice_index xs b) ∙ (h.width ∙ sym long_between)) (subst (λ n. b < n) (sym long_between) in_b) in
      let there : one_if (owns y (value_at (map (retagged b a) (with_value s a v)) b) (slice_index (slice_set xs a (slice_index xs b)) b))
      ≡ one_if (owns y v (slice_index xs b)) =
      rw (value_between b apart, is, stays a b v moves, get_or-set_other xs a b (slice_index xs b) 0 apart) refl in
      let loose = owns_free y (value_at s a) (slice_index xs a) free in
      let none = owns_free y (Word 0) 0 refl in
      omega arith

  moved_a : slice_index (moved_to xs a b) a ≡ slice_index xs b
  moved_a =
      get_or-set_other (slice_set xs a (slice_index xs b)) b a 0 0 (λ e. apart (sym e))
      ∙ get_or-set_same xs a (slice_index xs b) 0 (subst (λ n. a < n) (sym h.width) in_a)

  moved_b : slice_index (moved_to xs a b) b ≡ 0
  moved_b = get_or-set_same (slice_set xs a (slice_index xs b)) b 0 0 (subst (λ n. b < n) (sym (length-set xs a (slice_index xs b) ∙ h.width)) in_b)

  moved_other : (t : ℕ) → t ≢ a → t ≢ b → slice_index (moved_to xs a b) t ≡ slice_index xs t
  moved_other t na nb = get_or-set_other (slice_set xs a (slice_index xs b)) b t 0 0 nb ∙ get_or-set_other xs a t (slice_index xs b) 0 na

  -- a tag goes on, follows the handle, or is lost
  tag_moved : (tag : ℕ → AbsVal) (number : Option Entry → ℕ) → ((t x : ℕ) (g : List ℕ) → x ≡ number (f (slice_index g t)) → Describes f g (tag t) x) → (t x : ℕ)
      → x ≤ ANY → x ≡ number (f (slice_index xs t)) → Describes f (moved_to xs a b) (if t == a then Word ANY else (if t == b then tag a else tag t)) x
  tag_moved tag number tells t x small d = by (cases_Bool (t == a)) (cases_Bool (t == b))
    where
      by : ((t == a) ≡ true) ⊎ ((t == a) ≡ false) → ((t == b) ≡ true) ⊎ ((t == b) ≡ false)
          → Describes f (moved_to xs a b) (if t == a then Word ANY else (if t == b then tag a else tag t)) x
      by (inl e) k = rw e small
      by (inr e) (inl k) = rw (e, k) (tells a x (moved_to xs a b) (d ∙ ap (λ n. number (f n)) (ap (slice_index xs) (eqb-true t b k) ∙ sym moved_a)))
      by (inr e) (inr k) = rw (e, k) (tells t x (moved_to xs a b) (d ∙ ap (λ n. number (f n)) (sym (moved_other t (eqb-false t a e) (eqb-false t b k)))))

  retag : (y : Bool) (v : AbsVal) (x : ℕ) → Describes f (moved_to xs a b) (if y then Word ANY else retagged b a v) x
      → Describes f (moved_to xs a b) (retagged b a (if y then Word ANY else v)) x
  retag true v x k = k
  retag false v x k = k

  described_other : (c : AbsVal) (x : ℕ) → x ≤ ANY → Describes f xs c x → Describes f (moved_to xs a b) (retagged b a (untagged a c)) x
  described_other (Word m) x small d = d
  described_other (Has maybe kind rights) x small d = d
  described_other (KindOf t) x small d = retag (t == a) (KindOf t) x (tag_moved KindOf kind_in (λ t x g e. e) t x small d)
  described_other (RightsOf t) x small d = retag (t == a) (RightsOf t) x (tag_moved RightsOf rights_in (λ t x g e. e) t x small d)

  pub take_holds : Holds f (moved s a b v) (moved_to xs a b) arrays slots
  take_holds = record {
    width = length-set (slice_set xs a (slice_index xs b)) b 0
        ∙ (length-set xs a (slice_index xs b) ∙ (h.width ∙ sym (length-set (map (retagged b a) (with_value s a v)) b (Word 0) ∙ long_between)));
    small = λ q. few q (cases_eq q a) (cases_eq q b);
    described = λ q. by q (cases_eq q a) (cases_eq q b);
    lengths = h.lengths;
    narrow = h.narrow;
    stored = h.stored;
    once = λ y. ap (λ n. n + keepers y slots) (owned_alike y) ∙ h.once y;
  }
    where
      few : (q : ℕ) → (q ≡ a) ⊎ (q ≢ a) → (q ≡ b) ⊎ (q ≢ b) → slice_index (moved_to xs a b) q ≤ ANY
      few q x (inl e) = rw (e, moved_b) (omega arith)
      few q (inl e) (inr nb) = rw (e, moved_a) (h.small b)
      few q (inr na) (inr nb) = rw (moved_other q na nb) (h.small q)

      value_b : value_at (moved s a b v) b ≡ Word 0
      value_b = set_same (map (retagged b a) (with_value s a v)) b (Word 0) (subst (λ n. b < n) (sym long_between) in_b)

      value_else : (q : ℕ) → q ≢ b → value_at (moved s a b v) q ≡ value_at (map (retagged b a) (with_value s a v)) q
      value_else q nb = set_apart (map (retagged b a) (with_value s a v)) b q (Word 0) nb

      by : (q : ℕ) → (q ≡ a) ⊎ (q ≢ a) → (q ≡ b) ⊎ (q ≢ b) → Describes f (moved_to xs a b) (value_at (moved s a b v) q) (slice_index (moved_to xs a b) q)
      by q x (inl e) = rw (e, value_b, moved_b) (omega arith)
      by q (inl e) (inr nb) =
          rw (value_else q nb, e, value_at_a, moved_a) (described_anywhere f xs (moved_to xs a b) v (slice_index xs b) moves (rw is at (h.described b)))
      by q (inr na) (inr nb) =
          rw (value_else q nb, value_between q na, moved_other q na nb) (described_other (value_at s q) (slice_index xs q) (h.small q) (h.described q))

-- ---- swap

-- the value that stands there, for any default
there_for : {X : Type 0} (xs : List X) (n : ℕ) (x d : X) → slice_get xs n ≡ Some x → (n < length xs) × (slice_index_or xs n d ≡ x)
there_for [] n x d e = cc
there_for (y ∷ xs) zero x d e = (omega arith, same_Some y x e)
there_for (y ∷ xs) (suc n) x d e = let k = there_for xs n x d e in (omega arith, k.1)

owned_kept : (v : ℕ) (t : SlotArray) (x : ℕ) → one_if (owns v (slot_value t) x) ≡ one_if (is_it v x)
unfolding owns
owned_kept v t x = refl

-- the slot array is there, with its length
pub array_there : (slots : List (List ℕ)) (arrays : List SlotArray) (n : ℕ) (t : SlotArray) → map length slots ≡ map (λ a. a.length) arrays
    → slice_get arrays n ≡ Some t → (n < length slots) × (length (slice_index_or slots n []) ≡ t.length)
array_there slots arrays n t e is =
    let there = there_for arrays n t t is in
    let long : length slots ≡ length arrays = sym (length-map slots length) ∙ (ap length e ∙ length-map arrays (λ a. a.length)) in
    let less : n < length slots = subst (λ k. n < k) (sym long) there.0 in (
      less,
      sym (get_or-map length slots n [] 0 less)
          ∙ (ap (λ l. slice_index l n) e ∙ (get_or-map (λ a. a.length) arrays n t 0 there.0 ∙ ap (λ a. a.length) there.1)),
    )

module _ {f : Table} {s : State} {xs : List ℕ} {arrays : List SlotArray} {slots : List (List ℕ)} (h : Holds f s xs arrays slots) (states : IsState s)
    (a n k : ℕ) (t : SlotArray) (in_a : a < length s)
    (is : slice_get arrays n ≡ Some t) (in_k : k < t.length) (goes : IsHandle f true t.kind t.rights (slice_index xs a))
    (alike : (v : ℕ) → one_if (owns v (value_at s a) (slice_index xs a)) ≡ one_if (is_it v (slice_index xs a))) where
  abbrev array : List ℕ
  array = slice_index_or slots n []

  abbrev exchanged : List (List ℕ)
  exchanged = slice_set slots n (slice_set array k (slice_index xs a))

  n_there : n < length slots
  n_there = (array_there slots arrays n t h.lengths is).0

  k_there : k < length array
  k_there = subst (λ m. k < m) (sym (array_there slots arrays n t h.lengths is).1) in_k

  array_here : slice_index_or exchanged n [] ≡ slice_set array k (slice_index xs a)
  array_here = get_or-set_same slots n (slice_set array k (slice_index xs a)) [] n_there

  place_here : place_at exchanged n k ≡ slice_index xs a
  place_here = ap (λ l. slice_index l k) array_here ∙ get_or-set_same array k (slice_index xs a) 0 k_there

  place_beside : (j : ℕ) → j ≢ k → place_at exchanged n j ≡ place_at slots n j
  place_beside j apart = ap (λ l. slice_index l j) array_here ∙ get_or-set_other array k j (slice_index xs a) 0 apart

  place_else : (m j : ℕ) → m ≢ n → place_at exchanged m j ≡ place_at slots m j
  place_else m j apart = ap (λ l. slice_index l j) (get_or-set_other slots n m (slice_set array k (slice_index xs a)) [] apart)

  pub swap_holds : Holds f (with_value s a (slot_value t)) (slice_set xs a (place_at slots n k)) arrays
      (slice_set slots n (slice_set (slice_index_or slots n []) k (slice_index xs a)))
  swap_holds = record {
    width = length-set xs a (place_at slots n k) ∙ (h.width ∙ sym (with_long s a (slot_value t)));
    small = λ q. small_at q (cases_eq q a);
    described = λ q. by q (cases_eq q a);
    lengths = map-set length slots n (slice_set array k (slice_index xs a))
        ∙ (ap (slice_set (map length slots) n) (length-set array k (slice_index xs a) ∙ sym (get_or-map length slots n [] 0 n_there))
        ∙ (set-get_or (map length slots) n 0 ∙ h.lengths));
    narrow = λ m j. narrow_at m j (cases_eq m n) (cases_eq j k);
    stored = λ m j u here less. stored_at m j u here less (cases_eq m n) (cases_eq j k);
    once = once_at;
  }
    where
      wide_a : a < length xs
      wide_a = subst (λ m. a < m) (sym h.width) in_a

      small_at : (q : ℕ) → (q ≡ a) ⊎ (q ≢ a) → slice_index (slice_set xs a (place_at slots n k)) q ≤ ANY
      small_at q (inl e) = rw (e, get_or-set_same xs a (place_at slots n k) 0 wide_a) (h.narrow n k)
      small_at q (inr apart) = rw (get_or-set_other xs a q (place_at slots n k) 0 apart) (h.small q)

      by : (q : ℕ) → (q ≡ a) ⊎ (q ≢ a)
          → Describes f (slice_set xs a (place_at slots n k)) (value_at (with_value s a (slot_value t)) q) (slice_index (slice_set xs a (place_at slots n k)) q)
      by q (inl e) = rw (e, value_at-here s a (slot_value t) in_a, get_or-set_same xs a (place_at slots n k) 0 wide_a) (h.stored n k t is in_k)
      by q (inr apart) = rw (value_at-with s a q (slot_value t) apart, get_or-set_other xs a q (place_at slots n k) 0 apart)
          (other_described h states f a in_a (nothing_at_0 h) (λ y m. refl) q (place_at slots n k) apart (value_at s q) refl (states.tags q) (h.described q))

      narrow_at : (m j : ℕ) → (m ≡ n) ⊎ (m ≢ n) → (j ≡ k) ⊎ (j ≢ k) → place_at exchanged m j ≤ ANY
      narrow_at m j (inl e) (inl g) = rw (e, g, place_here) (h.small a)
      narrow_at m j (inl e) (inr g) = rw (e, place_beside j g) (h.narrow n j)
      narrow_at m j (inr e) g = rw (place_else m j e) (h.narrow m j)

      stored_at : (m j : ℕ) (u : SlotArray) → slice_get arrays m ≡ Some u → j < u.length → (m ≡ n) ⊎ (m ≢ n) → (j ≡ k) ⊎ (j ≢ k)
          → IsHandle f true u.kind u.rights (place_at exchanged m j)
      stored_at m j u here less (inl e) (inl g) =
          let one : t ≡ u = same_Some t u (sym is ∙ (ap (slice_get arrays) (sym e) ∙ here)) in
          rw (e, g, place_here) (subst (λ r. IsHandle f true r.kind r.rights (slice_index xs a)) one goes)
      stored_at m j u here less (inl e) (inr g) = rw (e, place_beside j g) (h.stored n j u (ap (slice_get arrays) (sym e) ∙ here) less)
      stored_at m j u here less (inr e) g = rw (place_else m j e) (h.stored m j u here less)

      once_at : (v : ℕ) → owners v (with_value s a (slot_value t)) (slice_set xs a (place_at slots n k)) + keepers v exchanged ≡ one_if (is_some (f v))
      once_at v =
          let first = owners-with v a s xs (slot_value t) (place_at slots n k) h.width in_a in
          let second = keepers-set v n k (slice_index xs a) slots n_there k_there in
          let out = owned_kept v t (place_at slots n k) in
          let into = alike v in
          let before = h.once v in
          omega arith
