-- The handles in the first places of a slot array leave the table, and these places become 0.
use Rattle.zl_verify.proofs.Common.{ANY, AbsVal, Bool, Describes, Entry, Has, Holds, IsAs, IsHandle, IsState, IsTrue, Kind, KindOf, List, None, Operand, Option}
use Rattle.zl_verify.proofs.Common.{Outcome, Rights, RightsOf, SlotArray, Some, State, TRANSFER, Table, Word, World, [], any, ap, arith, bits, can_be_named}
use Rattle.zl_verify.proofs.Common.{cases_eq, cond, consumes, drop, eqb-true, false, filter, filter-append, first_some, get_or-set_other, get_or-set_same, inl}
use Rattle.zl_verify.proofs.Common.{inr, is_it, is_named_well, is_some, keepers, kind_in, length, length-replicate, map, nat_tests, not, one_if}
use Rattle.zl_verify.proofs.Common.{operands_listed, option_map, overwritten, owners, owns, place_at, refl, replicate, rights_in, seen_after, slice_get}
use Rattle.zl_verify.proofs.Common.{slice_get-get_or, slice_index, slice_index_or, slice_set, slots_filled, subst, suc, sum_by-cons, sum_by-set, sym, take}
use Rattle.zl_verify.proofs.Common.{taking, true, value_at, within, within_trans, zero, zeros_for, ℕ, ◌++◌, ◌+◌, ◌<◌, ◌==◌, ◌∙◌, ◌∷◌, ◌≡◌, ◌≢◌, ◌≤◌, ◌⊎◌}
use Rattle.std.proofs.lemmas.List.{append_assoc, get_or_at, length-append, map-append, map-set, set-get_or}
use Rattle.std.proofs.lemmas.List.Sums.{sum_by-append}
use Rattle.zl_abs.specs.CallRules.{ArrayUse, sends}
use Rattle.zl_code.specs.Asked.{filled_among}
use Rattle.zl_verify.proofs.Owners.{it_is_itself, keepers-at, keepers-zero, not_0, one_at_most, owners-at, owners-zero, owns_it, places_with}
use Rattle.zl_verify.proofs.Writing.{live_apart, nothing_at_0}
use Rattle.zl_verify.proofs.Consuming.{removed}
use Rattle.zl_verify.proofs.Moving.{array_there}
use Rattle.zl_verify.proofs.Examining.{Reads, first_two, one_examined, seen_all, unseen, unseen_more, valued}
use Rattle.zl_code.specs.Operands.{examined as examined_at}

-- ---- other slots beside the same registers

module _ {f : Table} {s : State} {xs : List ℕ} {arrays : List SlotArray} {slots : List (List ℕ)} (h : Holds f s xs arrays slots) (states : IsState s)
    (g : Table) (none : g 0 ≡ None) (same : (y : ℕ) → 1 ≤ owners y s xs → g y ≡ f y) where
  has_same : (q : ℕ) (maybe : Bool) (kind : Option Kind) (rights : Rights) → value_at s q ≡ Has maybe kind rights
      → IsHandle f maybe kind rights (slice_index xs q) → g (slice_index xs q) ≡ f (slice_index xs q)
  has_same q maybe kind rights is (inl (m, z)) = rw z (none ∙ sym (nothing_at_0 h))
  has_same q maybe kind rights is (inr l) =
      let y : ℕ = slice_index xs q in
      let counted = owners-at y q s xs h.width in
      let here : one_if (owns y (value_at s q) (slice_index xs q)) ≡ 1 =
      rw (is, owns_it maybe kind rights y (live_apart f (nothing_at_0 h) kind rights y l)) refl in
      same y (omega arith)

  named_same : (t : ℕ) (a : AbsVal) → value_at s t ≡ a → can_be_named a ≡ true → Describes f xs a (slice_index xs t)
      → g (slice_index xs t) ≡ f (slice_index xs t)
  named_same t (Word m) is fine d = let z : slice_index xs t ≡ 0 = grind (arith, nat_tests) in rw z (none ∙ sym (nothing_at_0 h))
  named_same t (Has maybe kind rights) is fine d = has_same t maybe kind rights is d
  named_same t _ is fine d = cc

  described_beside : (q : ℕ) (a : AbsVal) → value_at s q ≡ a → IsTrue (is_named_well s a) → Describes f xs a (slice_index xs q)
      → Describes g xs a (slice_index xs q)
  described_beside q (Word m) is fine d = d
  described_beside q (Has maybe kind rights) is fine (inl z) = inl z
  described_beside q (Has maybe kind rights) is fine (inr l) = inr (subst (IsAs kind rights) (sym (has_same q maybe kind rights is (inr l))) l)
  described_beside q (KindOf t) is fine d = d ∙ ap kind_in (sym (named_same t (value_at s t) refl fine (h.described t)))
  described_beside q (RightsOf t) is fine d = d ∙ ap rights_in (sym (named_same t (value_at s t) refl fine (h.described t)))

  pub beside : (others : List (List ℕ)) → map length others ≡ map length slots → ((n k : ℕ) → place_at others n k ≤ ANY)
      → ((n k : ℕ) (a : SlotArray) → slice_get arrays n ≡ Some a → k < a.length → IsHandle g true a.kind a.rights (place_at others n k))
      → ((v : ℕ) → owners v s xs + keepers v others ≡ one_if (is_some (g v))) → Holds g s xs arrays others
  beside others long narrow stored once = record {
    width = h.width;
    small = h.small;
    described = λ q. described_beside q (value_at s q) refl (states.tags q) (h.described q);
    lengths = long ∙ h.lengths;
    narrow = narrow;
    stored = stored;
    once = once;
  }

-- ---- one place

-- x behind these places, or 0 in its place
zero_or_same : (front : List ℕ) (x : ℕ) (rest : List ℕ) (k : ℕ)
    → (slice_index (front ++ 0 ∷ rest) k ≡ 0) ⊎ (slice_index (front ++ 0 ∷ rest) k ≡ slice_index (front ++ x ∷ rest) k)
zero_or_same [] x rest zero = inl refl
zero_or_same [] x rest (suc k) = inr refl
zero_or_same (y ∷ front) x rest zero = inr refl
zero_or_same (y ∷ front) x rest (suc k) = zero_or_same front x rest k

same_long : (front : List ℕ) (x : ℕ) (rest : List ℕ) → length (front ++ 0 ∷ rest) ≡ length (front ++ x ∷ rest)
same_long front x rest = length-append front (0 ∷ rest) ∙ sym (length-append front (x ∷ rest))

-- nothing stands at 0, so nothing leaves there
pub removed_0 : (f : Table) → f 0 ≡ None → removed 0 f ≡ f
removed_0 f none = λ i k. at k i
  where
    at : (k : ℕ) → removed 0 f k ≡ f k
    at k = by (0 == k) refl
      where
        by : (b : Bool) → (0 == k) ≡ b → cond b None (f k) ≡ f k
        by true e = subst (λ m. None ≡ f m) (eqb-true 0 k e) (sym none)
        by false e = refl

module _ (slots : List (List ℕ)) (n : ℕ) (less : n < length slots) (front : List ℕ) (x : ℕ) (rest : List ℕ) where
  abbrev filled : List (List ℕ)
  filled = slice_set slots n (front ++ x ∷ rest)

  abbrev emptied : List (List ℕ)
  emptied = slice_set slots n (front ++ 0 ∷ rest)

  emptied_long : map length emptied ≡ map length filled
  emptied_long =
      map-set length slots n (front ++ 0 ∷ rest)
      ∙ (ap (slice_set (map length slots) n) (same_long front x rest) ∙ sym (map-set length slots n (front ++ x ∷ rest)))

  places_beside : (v y : ℕ) → places_with v (front ++ y ∷ rest) ≡ places_with v front + (one_if (is_it v y) + places_with v rest)
  places_beside v y =
      sum_by-append (λ z. one_if (is_it v z)) front (y ∷ rest)
      ∙ ap (λ m. places_with v front + m) (sum_by-cons (λ z. one_if (is_it v z)) y rest)

  keepers_emptied : (v : ℕ) → keepers v emptied + one_if (is_it v x) ≡ keepers v filled
  unfolding keepers
  keepers_emptied v =
      let before = sum_by-set (places_with v) slots n (front ++ x ∷ rest) [] less in
      let after = sum_by-set (places_with v) slots n (front ++ 0 ∷ rest) [] less in
      let one = places_beside v x in
      let none = places_beside v 0 in
      let not = not_0 v in
      omega arith

  place_by : (m k : ℕ) → (m ≡ n) ⊎ (m ≢ n) → (place_at emptied m k ≡ 0) ⊎ (place_at emptied m k ≡ place_at filled m k)
  place_by m k (inl e) =
      rw (e, get_or-set_same slots n (front ++ 0 ∷ rest) [] less, get_or-set_same slots n (front ++ x ∷ rest) [] less) (zero_or_same front x rest k)
  place_by m k (inr apart) = inr (ap (λ l. slice_index l k) (get_or-set_other slots n m (front ++ 0 ∷ rest) [] apart
      ∙ sym (get_or-set_other slots n m (front ++ x ∷ rest) [] apart)))

  place : (m k : ℕ) → (place_at emptied m k ≡ 0) ⊎ (place_at emptied m k ≡ place_at filled m k)
  place m k = place_by m k (cases_eq m n)

  module _ {f : Table} {s : State} {xs : List ℕ} {arrays : List SlotArray} (h : Holds f s xs arrays filled) (states : IsState s) where
    -- nothing else owns the value that leaves
    gone : (v : ℕ) → (x == v) ≡ true → owners v s xs + keepers v emptied ≡ 0
    gone v e = by (cases_eq v 0)
      where
        by : (v ≡ 0) ⊎ (v ≢ 0) → owners v s xs + keepers v emptied ≡ 0
        by (inl z) = rw (z, owners-zero s xs, keepers-zero emptied) refl
        by (inr some) =
            let here : one_if (is_it v x) ≡ 1 = rw (eqb-true x v e, it_is_itself v some) refl in
            let before = h.once v in
            let most = one_at_most (is_some (f v)) in
            let less = keepers_emptied v in
            omega arith

    apart : (v : ℕ) → (x == v) ≡ false → owners v s xs + keepers v emptied ≡ one_if (is_some (f v))
    apart v e =
        let none : one_if (is_it v x) ≡ 0 = rw e refl in
        let less = keepers_emptied v in
        let before = h.once v in
        omega arith

    same_by : (y : ℕ) (b : Bool) → (x == y) ≡ b → 1 ≤ owners y s xs + keepers y emptied → cond b None (f y) ≡ f y
    same_by y true e many = absurd (let none = gone y e in bad _ none many)
      where
        bad : (m : ℕ) → m ≡ 0 → 1 ≤ m → ⊥
        bad m z some = omega arith
    same_by y false e many = refl

    same : (y : ℕ) → 1 ≤ owners y s xs + keepers y emptied → removed x f y ≡ f y
    same y many = same_by y (x == y) refl many

    zero_too : (b : Bool) → cond b None (f 0) ≡ None
    zero_too true = refl
    zero_too false = nothing_at_0 h

    still_there : (m k : ℕ) (kind : Option Kind) (rights : Rights) → IsHandle f true kind rights (place_at emptied m k)
        → IsHandle (removed x f) true kind rights (place_at emptied m k)
    still_there m k kind rights (inl z) = inl z
    still_there m k kind rights (inr l) =
        let y : ℕ = place_at emptied m k in
        let counted = keepers-at y m k emptied (live_apart f (nothing_at_0 h) kind rights y l) refl in
        inr (subst (IsAs kind rights) (sym (same y (omega arith))) l)

    -- the place gives its handle away
    pub one_emptied : Holds (removed x f) s xs arrays emptied
    one_emptied =
        beside h states (removed x f) (zero_too (x == 0)) (λ y many. same y (omega arith)) emptied emptied_long
        (λ m k. narrow_at m k (place m k)) (λ m k a is in_k. still_there m k a.kind a.rights (stored_at m k a is in_k (place m k)))
        (λ v. once_at v (x == v) refl)
      where
        narrow_at : (m k : ℕ) → (place_at emptied m k ≡ 0) ⊎ (place_at emptied m k ≡ place_at filled m k) → place_at emptied m k ≤ ANY
        narrow_at m k (inl z) = rw z (omega arith)
        narrow_at m k (inr e) = rw e (h.narrow m k)

        stored_at : (m k : ℕ) (a : SlotArray) → slice_get arrays m ≡ Some a → k < a.length
            → (place_at emptied m k ≡ 0) ⊎ (place_at emptied m k ≡ place_at filled m k) → IsHandle f true a.kind a.rights (place_at emptied m k)
        stored_at m k a is in_k (inl z) = inl (refl, z)
        stored_at m k a is in_k (inr e) = rw e (h.stored m k a is in_k)

        once_at : (v : ℕ) (b : Bool) → (x == v) ≡ b → owners v s xs + keepers v emptied ≡ one_if (is_some (cond b None (f v)))
        once_at v true e = gone v e
        once_at v false e = apart v e

    -- it is live, with the rights of its array
    live_in : (t : SlotArray) (y : ℕ) (o : Option Entry) → f y ≡ o → IsAs t.kind t.rights o → within TRANSFER (bits t.rights) ≡ true
        → (e : Entry) × (f y ≡ Some e) × (within TRANSFER (bits e.rights) ≡ true)
    live_in t y None is l may = absurd l
    live_in t y (Some e) is l may = (e, is, within_trans (bits e.rights) (bits t.rights) TRANSFER l.1 may)

    pub one_live : (t : SlotArray) → slice_get arrays n ≡ Some t → within TRANSFER (bits t.rights) ≡ true → x ≢ 0
        → (e : Entry) × (f x ≡ Some e) × (within TRANSFER (bits e.rights) ≡ true)
    one_live t is may some = by (subst (IsHandle f true t.kind t.rights) at_x (h.stored n (length front) t is inside))
      where
        array_here : slice_index_or filled n [] ≡ front ++ x ∷ rest
        array_here = get_or-set_same slots n (front ++ x ∷ rest) [] less

        inside : length front < t.length
        inside =
            let there = (array_there filled arrays n t h.lengths is).1 in
            let long : length (slice_index_or filled n []) ≡ length (front ++ x ∷ rest) = ap length array_here in
            let parts = length-append front (x ∷ rest) in
            omega arith

        at_x : place_at filled n (length front) ≡ x
        at_x = ap (λ l. slice_index l (length front)) array_here ∙ get_or_at front x rest 0 (length front) refl

        by : IsHandle f true t.kind t.rights x → (e : Entry) × (f x ≡ Some e) × (within TRANSFER (bits e.rights) ≡ true)
        by (inl (m, z)) = absurd (some z)
        by (inr l) = live_in t x (f x) refl l may

-- ---- the first places

-- the table without the values, from left to right
abbrev pub without_all : Table → List ℕ → Table
without_all f [] = f
without_all f (v ∷ vs) = without_all (removed v f) vs

-- each value is that of a handle that may be sent, once those before it have left
abbrev pub AreSendable : Table → List ℕ → Type 0
AreSendable f [] = Unit {0}
AreSendable f (v ∷ vs) = ((e : Entry) × (f v ≡ Some e) × (within TRANSFER (bits e.rights) ≡ true)) × AreSendable (removed v f) vs

-- those that aren't 0
abbrev nonzero : List ℕ → List ℕ
nonzero places = filter (λ v. not (v == 0)) places

module _ (slots : List (List ℕ)) (n : ℕ) (less : n < length slots) (s : State) (states : IsState s) (xs : List ℕ) (arrays : List SlotArray) (t : SlotArray)
    (is : slice_get arrays n ≡ Some t) (may : within TRANSFER (bits t.rights) ≡ true) where
  -- it holds beside an array that begins so
  abbrev HoldsWith : Table → List ℕ → Type 0
  HoldsWith f places = Holds f s xs arrays (slice_set slots n places)

  -- the handles leave, and then the array is so
  abbrev Gives : Table → List ℕ → List ℕ → Type 0
  Gives f vs places = AreSendable f vs × HoldsWith (without_all f vs) places

  -- one place more, in front
  one_more : (f : Table) (front : List ℕ) (x : ℕ) (rest vs places : List ℕ) → HoldsWith f (front ++ x ∷ rest) → Gives (removed x f) vs places
      → Gives f (cond (not (x == 0)) (x ∷ vs) vs) places
  one_more f front x rest vs places h (live, holds) = by (x == 0) refl
    where
      by : (b : Bool) → (x == 0) ≡ b → Gives f (cond (not b) (x ∷ vs) vs) places
      by true e =
          let same : removed x f ≡ f = ap (λ y. removed y f) (eqb-true x 0 e) ∙ removed_0 f (nothing_at_0 h) in
          subst (λ g. Gives g vs places) same (live, holds)
      by false e = ((one_live slots n less front x rest h states t is may (some e), live), holds)
        where
          some : (x == 0) ≡ false → x ≡ 0 → ⊥
          some e z = cc

  zeros_go : (f : Table) (front : List ℕ) (m : ℕ) (rest vs : List ℕ) → Gives f vs ((front ++ 0 ∷ []) ++ (replicate m 0 ++ drop m rest))
      → Gives f vs (front ++ (replicate (suc m) 0 ++ drop m rest))
  zeros_go f front m rest vs = subst (Gives f vs) (append_assoc front (0 ∷ []) (replicate m 0 ++ drop m rest))

  all_emptied : (m : ℕ) (front rest : List ℕ) (f : Table) → HoldsWith f (front ++ rest) → m ≤ length rest
      → Gives f (nonzero (take m rest)) (front ++ (replicate m 0 ++ drop m rest))
  all_emptied zero front rest f h le = (tt, h)
  all_emptied (suc m) front [] f h le = absurd (omega arith)
  all_emptied (suc m) front (x ∷ rest) f h le =
      one_more f front x rest (nonzero (take m rest)) (front ++ (replicate (suc m) 0 ++ drop m rest)) h
      (zeros_go (removed x f) front m rest (nonzero (take m rest))
      (all_emptied m (front ++ 0 ∷ []) rest (removed x f)
      (subst (HoldsWith (removed x f)) (sym (append_assoc front (0 ∷ []) rest)) (one_emptied slots n less front x rest h states)) (omega arith)))

-- ---- what a call gives away of its slots

-- the values there
abbrev pub sent_from : List (List ℕ) → Option (ℕ × ℕ) → List ℕ
sent_from slots None = []
sent_from slots (Some x) = filled_among x.1 (slice_get slots x.0)

-- the slots once these places are 0
abbrev pub left_slots : List (List ℕ) → Option (ℕ × ℕ) → List (List ℕ)
left_slots slots o = slots_filled slots (option_map zeros_for o)

-- the places that are emptied, by what the rule says of the array
abbrev pub emptied_by : List ℕ → ArrayUse → Option (ℕ × ℕ)
emptied_by xs (sends array count) = Some (array, slice_index xs count)
emptied_by xs _ = None

-- the array is there, with so many places, and its handles may be sent
abbrev pub MaySend : List SlotArray → Option (ℕ × ℕ) → Type 0
MaySend arrays None = Unit {0}
MaySend arrays (Some x) = (t : SlotArray) × (slice_get arrays x.0 ≡ Some t) × (x.1 ≤ t.length) × (within TRANSFER (bits t.rights) ≡ true)

front_zeroed : (places : List ℕ) (m : ℕ) → replicate m 0 ++ drop m places ≡ overwritten places 0 (replicate m 0)
front_zeroed places m = ap (λ k. replicate m 0 ++ drop k places) (subst (λ k. m ≡ 0 + k) (sym (length-replicate m 0)) (omega arith))

module _ {f : Table} {s : State} {xs : List ℕ} {arrays : List SlotArray} {slots : List (List ℕ)} (h : Holds f s xs arrays slots) (states : IsState s) where
  pub sent : (o : Option (ℕ × ℕ)) → MaySend arrays o
      → AreSendable f (sent_from slots o) × Holds (without_all f (sent_from slots o)) s xs arrays (left_slots slots o)
  sent None may = (tt, h)
  sent (Some (n, m)) (t, is, le, may) =
      let array : List ℕ = slice_index_or slots n [] in
      let there = array_there slots arrays n t h.lengths is in
      let here : slice_get slots n ≡ Some array = slice_get-get_or slots n [] there.0 in
      let before : Holds f s xs arrays (slice_set slots n array) = subst (Holds f s xs arrays) (sym (set-get_or slots n [])) h in
      let fits : m ≤ length array = omega arith in
      rw (here, ← (front_zeroed array m)) (all_emptied slots n there.0 s states xs arrays t is may m [] array f before fits)

-- ---- how a call examines them

-- handles that are given away, where the values of their registers are these
abbrev pub given : List ℕ → List Operand
given hs = operands_listed (Some (consumes any TRANSFER)) hs

-- they pass
pub sent_pass : (w : World) (p : ℕ) (vs seen : List ℕ) → AreSendable (unseen (Reads w p) seen) vs → examined_at w p seen (given vs) ≡ None
unfolding examined_at
sent_pass w p [] seen live = refl
sent_pass w p (v ∷ vs) seen ((e, there, rights), live) =
    first_two _ _ (one_examined w p seen (taking v any TRANSFER) (inr (e, there, refl, rights)))
    (sent_pass w p vs (v ∷ seen) (subst (λ f. AreSendable f vs) (unseen_more (Reads w p) seen v) live))

-- operands of registers pass, and then others
pub both_pass : (w : World) (p : ℕ) (read : List ℕ) (os : List Operand) (seen : List ℕ) (more : List Operand)
    → examined_at w p seen (map (valued read) os) ≡ None → examined_at w p (seen_all read seen os) more ≡ None
    → examined_at w p seen (map (valued read) os ++ more) ≡ None
unfolding examined_at
both_pass w p read [] seen more none later = later
both_pass w p read (o ∷ os) seen more none later =
    let two = two_first _ _ none in first_two _ _ two.0 (both_pass w p read os (seen_after seen (valued read o)) more two.1 later)
  where
    two_first : (a b : Option Outcome) → first_some (a ∷ b ∷ []) ≡ None → (a ≡ None) × (b ≡ None)
    two_first None None e = (refl, refl)
    two_first _ _ e = cc

-- ---- the process without them

abbrev pub only_taken : List Operand → List Operand
only_taken os = filter (λ o. o.is_taken) os

abbrev pub their_values : List Operand → List ℕ
their_values os = map (λ o. o.value) os

given_taken : (vs : List ℕ) → their_values (only_taken (given vs)) ≡ vs
given_taken [] = refl
given_taken (v ∷ vs) = ap (λ l. v ∷ l) (given_taken vs)

-- what leaves is what was taken from registers, and then these
pub taken_and : (os : List Operand) (vs : List ℕ) → their_values (only_taken (os ++ given vs)) ≡ their_values (only_taken os) ++ vs
taken_and os vs =
    ap their_values (filter-append (λ o. o.is_taken) os (given vs))
    ∙ (map-append (λ o. o.value) (only_taken os) (only_taken (given vs)) ∙ ap (λ l. their_values (only_taken os) ++ l) (given_taken vs))
