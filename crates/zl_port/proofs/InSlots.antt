-- Which packets lie in slots.
use Rattle.zl_rights.proofs.Common.{◌≡◌, ℕ, zero, suc, ◌+◌, ◌<◌, ◌≤◌, Bool, true, false, not, List, [], ◌∷◌, ◌++◌, Option, Some, None}
use Rattle.zl_rights.proofs.Common.{length, filter, get_or, set, cond, refl, arith, nat_tests, map-append, length-map, ap, sym, ◌∙◌}
use Rattle.std.proofs.lemmas.List.{get_or_read}
use Rattle.std.proofs.lemmas.List.Elements.{filter-append}
use Rattle.std.proofs.lemmas.List.Filters.{length-filter_both}
use Rattle.zl_rights.specs.World.{Packet, Source}
use Rattle.zl_port.specs.Packets.{is_from}
use Rattle.zl_port.specs.Chains.{emptied, is_other, linked, no_slot, packets_in, slot_at, slots_above}
use Rattle.zl_port.specs.declared.slots.Slot.{Slot}

-- an empty place has none
pub none_first : (x : Slot) (rest : List Slot) → x.there ≡ false → packets_in (x ∷ rest) ≡ packets_in rest
none_first x rest gone = rw gone refl

-- one more
pub packets_more : (slots : List Slot) (x : Slot) → x.there ≡ true → packets_in (slots ++ x ∷ []) ≡ packets_in slots ++ x.packet ∷ []
packets_more slots x there =
    rw (filter-append (λ s. s.there) slots (x ∷ []), map-append (λ s. s.packet) (filter (λ s. s.there) slots) (filter (λ s. s.there) (x ∷ []))) (rw there refl)

-- there are at most as many as slots
pub few_packets : (slots : List Slot) → length (packets_in slots) ≤ length slots
few_packets slots =
    omega (arith, length-map (filter (λ s. s.there) slots) (λ s. s.packet), length-filter_both (λ s. s.there) (λ s. not s.there) (λ s. refl) slots)

-- without empty places they are the same
pub packets_stay : (slots : List Slot) → packets_in (filter (λ s. s.there) slots) ≡ packets_in slots
packets_stay [] = refl
packets_stay (x ∷ slots) = grind (arith, nat_tests, packets_stay slots)

-- without empty places there are as many as slots
pub as_many : (slots : List Slot) → length (filter (λ s. s.there) slots) ≡ length (packets_in slots)
as_many slots = sym (length-map (filter (λ s. s.there) slots) (λ s. s.packet))

-- another link leaves them as they are
pub packets_set : (slots : List Slot) (j : ℕ) (y : Slot) → y.there ≡ (slot_at slots j).there → y.packet ≡ (slot_at slots j).packet
    → packets_in (set slots j y) ≡ packets_in slots
packets_set [] j y there packet = refl
packets_set (x ∷ slots) zero y there packet = grind (arith, nat_tests, there, packet)
packets_set (x ∷ slots) (suc j) y there packet = grind (arith, nat_tests, packets_set slots j y there packet)

-- so does one that is linked
pub packets_linked : (slots : List Slot) (j link : ℕ) (x y : Slot) → j < length slots → x ≡ get_or slots j x → y ≡ linked link x
    → packets_in (set slots j y) ≡ packets_in slots
packets_linked slots j link x y within read is =
    let same : x ≡ slot_at slots j = get_or_read slots j x within read no_slot in
    packets_set slots j y (ap (λ s. s.there) is ∙ ap (λ s. s.there) same) (ap (λ s. s.packet) is ∙ ap (λ s. s.packet) same)

-- and one above
pub packets_above : (above : Option ℕ) (slots : List Slot) (link : ℕ) → packets_in (slots_above slots above link) ≡ packets_in slots
packets_above None slots link = refl
packets_above (Some j) slots link = packets_set slots j (linked link (slot_at slots j)) refl refl

-- where those from a wait of the source with the key go
module _ (source : Source) (key : ℕ) where
  -- the others, in order
  abbrev others_in : List Slot → List Packet
  others_in slots = filter (λ x. not (is_from source key x)) (packets_in slots)

  -- how many go
  abbrev count_in : List Slot → ℕ
  count_in slots = length (filter (is_from source key) (packets_in slots))

  -- where a slot becomes empty that isn't another's, the others stay
  pub others_stay : (slots : List Slot) (j : ℕ) → is_other source key (slot_at slots j) ≡ false
      → others_in (set slots j (emptied (slot_at slots j))) ≡ others_in slots
  others_stay [] j own = refl
  others_stay (x ∷ slots) zero own = grind (arith, nat_tests, own)
  others_stay (x ∷ slots) (suc j) own = grind (arith, nat_tests, others_stay slots j own)

  -- and those that go are one less, if the slot had a packet
  pub one_less : (slots : List Slot) (j : ℕ) → is_other source key (slot_at slots j) ≡ false
      → cond (slot_at slots j).there 1 0 + count_in (set slots j (emptied (slot_at slots j))) ≡ count_in slots
  one_less [] j own = refl
  one_less (x ∷ slots) zero own = grind (arith, nat_tests, own)
  one_less (x ∷ slots) (suc j) own = grind (arith, nat_tests, one_less slots j own)

  module _ (slots new : List Slot) (j on : ℕ) (above : Option ℕ) (y : Slot) (is : y ≡ emptied (slot_at slots j))
      (are : new ≡ slots_above (set slots j y) above on) (own : is_other source key (slot_at slots j) ≡ false) where
    -- the others stay, where another slot gets a link besides
    pub past_rest : others_in new ≡ others_in slots
    past_rest = rw (are, packets_above above (set slots j y) on, is) (others_stay slots j own)

    -- and they are one less, if the slot had a packet
    pub past_count : cond (slot_at slots j).there 1 0 + count_in new ≡ count_in slots
    past_count = rw (are, packets_above above (set slots j y) on, is) (one_less slots j own)

  -- none is left
  pub none_left : (slots : List Slot) → ((i : ℕ) → (slot_at slots i).there ≡ true → is_from source key (slot_at slots i).packet ≡ false)
      → length (filter (is_from source key) (packets_in slots)) ≡ 0
  none_left [] none = refl
  none_left (x ∷ slots) none = grind (arith, nat_tests, none 0, none_left slots (λ i. none (suc i)))

-- where nothing passes all stays
pub all_stay : {X : Type 0} (p : X → Bool) (xs : List X) → length (filter p xs) ≡ 0 → filter (λ x. not (p x)) xs ≡ xs
all_stay p [] none = refl
all_stay p (x ∷ xs) none = grind (arith, nat_tests, all_stay p xs)
