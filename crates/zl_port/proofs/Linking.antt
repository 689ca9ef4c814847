-- How slots stay linked by buckets.
use Rattle.zl_rights.proofs.Common.{◌≡◌, ℕ, suc, ◌+◌, ◌<◌, ◌≤◌, Bool, true, false, List, [], ◌∷◌, ◌++◌, Option, Some, None, IfSome, length, set, slice_index}
use Rattle.zl_rights.proofs.Common.{cond, inl, inr, refl, arith, eqb, eq-eqb, sym, ap, subst, ◌∙◌, length-append, length-take, take}
use Rattle.std.proofs.lemmas.Bool.{cases_eq, ne_eqb}
use Rattle.std.proofs.lemmas.List.{get_or-set_same, get_or-set_other, length-set, get_or_append_left, get_or_push, take_more_set}
use Rattle.zl_port.specs.Buckets.{bucket_of, is_bucket, lies_in}
use Rattle.zl_port.specs.Chains.{AreLinked, LinkedIn, Leads, linked, link_of, no_slot, slot_at, with_last}
use Rattle.zl_port.specs.declared.slots.Slot.{Slot}
use Rattle.zl_port.proofs.InBucket.{bucket_is, is_within}

-- what lies in slots stays or goes, and nothing comes
pub record NoneCome (slots new : List Slot) : Type 0 where
  pub packet : (i : ℕ) → (slot_at new i).packet ≡ (slot_at slots i).packet
  pub there : (i : ℕ) → (slot_at new i).there ≡ true → (slot_at slots i).there ≡ true

-- a link still leads to the last
pub leads_kept : {n own front link number : ℕ} {slots new : List Slot} → NoneCome slots new
    → Leads n own slots front link number → Leads n own new front link number
leads_kept {n} {own} kept leads = record {
  below = leads.below;
  none_between = λ i low high there.
      subst (λ x. lies_in n own x ≡ false) (sym (kept.packet i)) (leads.none_between i low high (kept.there i there));
  in_bucket = λ i is. subst (λ x. lies_in n own x ≡ true) (sym (kept.packet i)) (leads.in_bucket i is);
}

-- ---- one slot has changed

module _ (slots : List Slot) (j : ℕ) (y : Slot) (within : j < length slots) where
  -- the slot is there
  pub here : slot_at (set slots j y) j ≡ y
  here = get_or-set_same slots j y no_slot within

  -- the others are as before
  pub apart : (i : ℕ) → (i ≡ j → ⊥) → slot_at (set slots j y) i ≡ slot_at slots i
  apart i other = get_or-set_other slots j i y no_slot other

  -- what holds of it, and of the others, holds of all
  pub each_of : (P : ℕ → Slot → Type 0) → P j y → ((i : ℕ) → (i ≡ j → ⊥) → P i (slot_at slots i)) → (i : ℕ) → P i (slot_at (set slots j y) i)
  each_of P at_j others i =
      elim (cases_eq i j) as (λ _. P i (slot_at (set slots j y) i)) [
        | inl same ↦ subst (λ k. P k (slot_at (set slots j y) k)) (sym same) (subst (P j) (sym here) at_j)
        | inr other ↦ subst (P i) (sym (apart i other)) (others i other)
      ]

  module _ (packet : y.packet ≡ (slot_at slots j).packet) (there : y.there ≡ true → (slot_at slots j).there ≡ true) where
    -- nothing comes
    pub none_come : NoneCome slots (set slots j y)
    none_come = record {
      packet = each_of (λ i s. s.packet ≡ (slot_at slots i).packet) packet (λ i other. refl);
      there = each_of (λ i s. s.there ≡ true → (slot_at slots i).there ≡ true) there (λ i other h. h);
    }

    -- slots are linked yet, if this one is
    pub linked_set : {n front : ℕ} {last : List ℕ} → LinkedIn n slots front last
        → ((own : ℕ) → lies_in n own y.packet ≡ true → Leads n own slots front y.before (front + j)) → LinkedIn n (set slots j y) front last
    linked_set {n} {front} {last} are leads = record {
      befores = λ own i inside.
          each_of (λ i s. i < length slots → lies_in n own s.packet ≡ true → Leads n own (set slots j y) front s.before (front + i))
          (λ _ lies. leads_kept none_come (leads own lies))
          (λ i other low lies. leads_kept none_come (are.befores own i low lies))
          i (omega (arith, inside, length-set slots j y));
      lasts = λ own inside. rw (length-set slots j y) (leads_kept none_come (are.lasts own inside));
    }

-- ---- the last of one bucket has changed

-- the links of the others are as before
pub changed_at : (last : List ℕ) (o : Option ℕ) (link own : ℕ) → IfSome o (λ p. p < length last)
    → slice_index (with_last last o link) own ≡ cond (is_bucket own o) link (slice_index last own)
changed_at last None link own within = refl
changed_at last (Some p) link own within =
    elim (cases_eq own p) as (λ _. slice_index (with_last last (Some p) link) own ≡ cond (eqb own p) link (slice_index last own)) [
      | inl here ↦ rw (here, eq-eqb p p refl) (get_or-set_same last p link 0 within)
      | inr apart ↦ rw (ne_eqb own p apart) (get_or-set_other last p own link 0 apart)
    ]

-- there are as many buckets
pub same_buckets : (last : List ℕ) (o : Option ℕ) (link : ℕ) → length (with_last last o link) ≡ length last
same_buckets last None link = refl
same_buckets last (Some place) link = length-set last place link

-- slots are linked yet, if the bucket leads to its last
pub linked_last : {n front : ℕ} {slots : List Slot} {last : List ℕ} (own link : ℕ) → own < length last → LinkedIn n slots front last
    → Leads n own slots front link (front + length slots) → LinkedIn n slots front (set last own link)
linked_last {n} {front} {slots} {last} own link within are leads = record {
  befores = are.befores;
  lasts = λ p inside.
      elim (cases_eq p own) as (λ _. Leads n p slots front (slice_index (set last own link) p) (front + length slots)) [
        | inl same ↦ rw (same, get_or-set_same last own link 0 within) leads
        | inr other ↦ rw (get_or-set_other last own p link 0 other) (are.lasts p inside)
      ];
}

-- ---- the first slot has gone

-- a link leads to the last behind it
leads_behind : {n own front link number : ℕ} (x : Slot) (rest : List Slot) (number' : ℕ) → number ≡ number'
    → Leads n own (x ∷ rest) front link number → Leads n own rest (front + 1) link number'
leads_behind x rest number' same leads = record {
  below = omega (arith, same, leads.below);
  none_between = λ i low high there. leads.none_between (suc i) (omega (arith, low)) (omega (arith, high, same)) there;
  in_bucket = λ i is. leads.in_bucket (suc i) (omega (arith, is));
}

-- those behind it are linked
pub linked_behind : {n front : ℕ} {last : List ℕ} (x : Slot) (rest : List Slot) → LinkedIn n (x ∷ rest) front last → LinkedIn n rest (front + 1) last
linked_behind {n} {front} x rest are = record {
  befores = λ own i inside lies. leads_behind x rest (front + 1 + i) (omega arith) (are.befores own (suc i) (omega (arith, inside)) lies);
  lasts = λ own inside. leads_behind x rest (front + 1 + length rest) (omega arith) (are.lasts own inside);
}

-- ---- one slot more

module _ (slots : List Slot) (x : Slot) where
  -- a link to the slots before it still leads to the last
  leads_before : {n own front link number : ℕ} → number ≤ front + length slots → Leads n own slots front link number
      → Leads n own (slots ++ x ∷ []) front link number
  leads_before {n} {own} {front} {link} {number} low leads = record {
    below = leads.below;
    none_between = λ i above high.
        let same : slot_at (slots ++ x ∷ []) i ≡ slot_at slots i = get_or_append_left slots (x ∷ []) no_slot i (omega (arith, low, high)) in
        subst (λ s. s.there ≡ true → lies_in n own s.packet ≡ false) (sym same) (leads.none_between i above high);
    in_bucket = λ i is.
        let same : slot_at (slots ++ x ∷ []) i ≡ slot_at slots i = get_or_append_left slots (x ∷ []) no_slot i (omega (arith, low, is, leads.below)) in
        subst (λ s. lies_in n own s.packet ≡ true) (sym same) (leads.in_bucket i is);
  }

  -- what holds of the slots before it and of it holds of all
  each_before : (P : ℕ → Slot → Type 0) → ((i : ℕ) → i < length slots → P i (slot_at slots i)) → P (length slots) x
      → (i : ℕ) → i < length slots + 1 → P i (slot_at (slots ++ x ∷ []) i)
  each_before P before at_x i high =
      elim (cases_eq i (length slots)) as (λ _. P i (slot_at (slots ++ x ∷ []) i)) [
        | inl same ↦
            let at_end : slot_at (slots ++ x ∷ []) (length slots) ≡ x = get_or_push slots x no_slot (length slots) refl in
            subst (λ k. P k (slot_at (slots ++ x ∷ []) k)) (sym same) (subst (P (length slots)) (sym at_end) at_x)
        | inr other ↦
            let low : i < length slots = omega (arith, high, other) in
            subst (P i) (sym (get_or_append_left slots (x ∷ []) no_slot i low)) (before i low)
      ]

  -- it is the last of its bucket
  leads_to_it : {n own front : ℕ} → lies_in n own x.packet ≡ true
      → Leads n own (slots ++ x ∷ []) front (front + length slots + 1) (front + (length slots + 1))
  leads_to_it {n} {own} {front} lies = record {
    below = omega arith;
    none_between = λ i low high. absurd (omega (arith, low, high));
    in_bucket = λ i is.
        let same : length slots ≡ i = omega (arith, is) in
        subst (λ s. lies_in n own s.packet ≡ true) (sym (get_or_push slots x no_slot i same)) lies;
  }

  -- in another bucket the last is as before
  leads_past : {n own front link : ℕ} → lies_in n own x.packet ≡ false → Leads n own slots front link (front + length slots)
      → Leads n own (slots ++ x ∷ []) front link (front + (length slots + 1))
  leads_past {n} {own} {front} {link} apart leads =
      let before = leads_before (omega arith) leads in
      record {
        below = omega (arith, leads.below);
        none_between = λ i low high.
            each_before (λ i s. link ≤ front + i → s.there ≡ true → lies_in n own s.packet ≡ false)
            (λ i inside low. leads.none_between i low (omega (arith, inside))) (λ low there. apart) i (omega (arith, high)) low;
        in_bucket = before.in_bucket;
      }

  -- all are linked
  pub linked_more : {n front : ℕ} {last : List ℕ} → 0 < n → n ≡ length last → LinkedIn n slots front last
      → x.before ≡ link_of last (bucket_of n x.packet)
      → LinkedIn n (slots ++ x ∷ []) front (with_last last (bucket_of n x.packet) (front + length slots + 1))
  linked_more {n} {front} {last} some many are before =
      let o = bucket_of n x.packet in
      let within : IfSome o (λ p. p < length last) = rw (← many) (is_within n x.packet some) in
      record {
        befores = λ own i inside.
            each_before (λ i s. lies_in n own s.packet ≡ true → Leads n own (slots ++ x ∷ []) front s.before (front + i))
            (λ i low lies. leads_before (omega (arith, low)) (are.befores own i low lies))
            (λ lies.
            let is = bucket_is own o lies in
            let link : x.before ≡ slice_index last own = before ∙ ap (link_of last) is in
            let inside : own < n = subst (λ o. IfSome o (λ p. p < n)) is (is_within n x.packet some) in
            subst (λ l. Leads n own (slots ++ x ∷ []) front l (front + length slots)) (sym link) (leads_before (omega arith) (are.lasts own inside)))
            i (omega (arith, inside, length-append slots (x ∷ [])));
        lasts = λ own inside.
            let by : (t : Bool) → lies_in n own x.packet ≡ t
            → Leads n own (slots ++ x ∷ []) front (cond t (front + length slots + 1) (slice_index last own)) (front + (length slots + 1)) =
            λ t is. elim t as (λ t. lies_in n own x.packet ≡ t
            → Leads n own (slots ++ x ∷ []) front (cond t (front + length slots + 1) (slice_index last own)) (front + (length slots + 1))) [
              | true ↦ λ is. leads_to_it is
              | false ↦ λ is. leads_past is (are.lasts own inside)
            ] is in
            rw (changed_at last o (front + length slots + 1) own within, length-append slots (x ∷ [])) (by (lies_in n own x.packet) refl);
      }

-- the slot that was linked lies behind those before it
pub linked_behind_all : {slots new : List Slot} {last left : List ℕ} {front number : ℕ} (x y : Slot) → 0 < length last
    → number ≡ front + length slots → y ≡ linked (link_of last (bucket_of (length last) x.packet)) x
    → left ≡ with_last last (bucket_of (length last) x.packet) (number + 1) → new ≡ slots ++ y ∷ []
    → AreLinked slots front last → AreLinked new front left
linked_behind_all {slots} {new} {last} {left} {front} {number} x y some is_number is is_left are_new are =
    let o = bucket_of (length last) x.packet in
    let z = linked (link_of last o) x in
    rw (are_new, is_left, same_buckets last o (number + 1), is, is_number) (linked_more slots z some refl are refl)

-- so does the slot at a place, in front of others
pub linked_here : (slots : List Slot) {last left : List ℕ} {place : ℕ} (x y : Slot) → 0 < length last → place < length slots
    → y ≡ linked (link_of last (bucket_of (length last) x.packet)) x → left ≡ with_last last (bucket_of (length last) x.packet) (place + 1)
    → AreLinked (take place slots) 0 last → AreLinked (take (place + 1) (set slots place y)) 0 left
linked_here slots {place = place} x y some within is is_left =
    linked_behind_all x y some (omega (arith, length-take place slots, within)) is is_left (take_more_set slots place y within)
