-- How a cancellation goes from slot to slot of a bucket.
use Rattle.zl_rights.proofs.Common.{◌≡◌, ℕ, ◌+◌, ◌-◌, ◌<◌, ◌≤◌, Bool, true, false, not, ◌&&◌, List, Option, Some, None, IfSome}
use Rattle.zl_rights.proofs.Common.{filter, get_or, length, set, slice_index}
use Rattle.zl_rights.proofs.Common.{inl, inr, refl, arith, sym, ap, subst, ◌∙◌, false≢true, cases_lt, ◌⊎◌}
use Rattle.std.proofs.lemmas.Bool.{cases_eq}
use Rattle.std.proofs.lemmas.List.{get_or-set_same, get_or_past, get_or_read, length-set}
use Rattle.zl_rights.specs.World.{Source}
use Rattle.zl_port.specs.Packets.{is_from}
use Rattle.zl_port.specs.Buckets.{bucket, bucket_of, lies_in}
use Rattle.zl_port.specs.Chains.{LinkedIn, Leads, emptied, is_other, last_above, linked, no_slot, packets_in, slot_at, slots_above}
use Rattle.zl_port.specs.declared.slots.Slot.{Slot}
use Rattle.zl_port.proofs.InBucket.{not_from, one_bucket}
use Rattle.zl_port.proofs.InSlots.{none_left}
use Rattle.zl_port.proofs.Linking.{each_of, here, leads_kept, linked_last, linked_set, none_come, NoneCome}

-- the link of the slot above, or of the bucket where there is none
abbrev pub link_above : List Slot → List ℕ → ℕ → Option ℕ → ℕ
link_above slots last own None = slice_index last own
link_above slots last own (Some place) = (slot_at slots place).before

-- the number of the slot above, or of the next one to come
abbrev pub number_above : List Slot → ℕ → Option ℕ → ℕ
number_above slots front None = front + length slots
number_above slots front (Some place) = front + place

-- it is a slot of the bucket, if there is one
abbrev pub IsAbove : ℕ → ℕ → List Slot → Option ℕ → Type 0
IsAbove n own slots above = IfSome above (λ place. (place < length slots) × (lies_in n own (slot_at slots place).packet ≡ true))

-- the slots from the next one on are done: none of them has a packet from a wait of the source with the key
pub record Walks (n own : ℕ) (source : Source) (key front : ℕ) (slots : List Slot) (last : List ℕ) (above : Option ℕ) (next : ℕ) : Type 0 where
  pub linked : LinkedIn n slots front last
  pub done : (i : ℕ) → next ≤ front + i → (slot_at slots i).there ≡ true → is_from source key (slot_at slots i).packet ≡ false
  pub above_is : IsAbove n own slots above
  pub next_is : next ≡ link_above slots last own above

-- there are as many slots
pub long_above : (above : Option ℕ) (slots : List Slot) (link : ℕ) → length (slots_above slots above link) ≡ length slots
long_above None slots link = refl
long_above (Some j) slots link = length-set slots j (linked link (slot_at slots j))

-- and as many buckets
pub last_long : (above : Option ℕ) (last : List ℕ) (own link : ℕ) → length (last_above last own above link) ≡ length last
last_long None last own link = length-set last own link
last_long (Some j) last own link = refl

-- what isn't another packet, but is there, is from the wait
other_not : (there from : Bool) → there && not from ≡ true → from ≡ false
other_not true false is = refl
other_not true true is = absurd (false≢true is)
other_not false from is = absurd (false≢true is)

module _ {n own key front : ℕ} {source : Source} (own_is : own ≡ bucket n source key) (within : own < n) where
  -- at the beginning none is done
  pub walk_begins : (slots : List Slot) (last : List ℕ) (next : ℕ) → LinkedIn n slots front last
      → own < length last → next ≡ get_or last own next
      → Walks n own source key front slots last None next
  walk_begins slots last next are inside read =
      let is = get_or_read last own next inside read 0 in
      let leads = subst (λ l. Leads n own slots front l (front + length slots)) (sym is) (are.lasts own within) in
      record {
        linked = are;
        done = λ i low there.
            not_from n own source key (slot_at slots i).packet own_is (leads.none_between i low (by i there (cases_lt i (length slots))) there);
        above_is = tt;
        next_is = is;
      }
    where
      by : (i : ℕ) → (slot_at slots i).there ≡ true → (i < length slots) ⊎ (length slots ≤ i) → front + i < front + length slots
      by i there (inl low) = omega (arith, low)
      by i there (inr high) = absurd (false≢true (sym (ap (λ s. s.there) (get_or_past slots i no_slot high)) ∙ there))

  module _ {slots : List Slot} {last : List ℕ} {above : Option ℕ} {next : ℕ} (walks : Walks n own source key front slots last above next)
      (ahead : front < next) where
    -- the place of the next slot
    abbrev place : ℕ
    place = next - 1 - front

    -- the slot above leads here
    leads_here : (above : Option ℕ) → IsAbove n own slots above
        → Leads n own slots front (link_above slots last own above) (number_above slots front above)
    leads_here None is = walks.linked.lasts own within
    leads_here (Some j) is = walks.linked.befores own j is.0 is.1

    -- so does its link
    leads : Leads n own slots front next (number_above slots front above)
    leads = subst (λ l. Leads n own slots front l (number_above slots front above)) (sym walks.next_is) (leads_here above walks.above_is)

    -- no number above is too high
    not_high : (above : Option ℕ) → IsAbove n own slots above
        → number_above slots front above ≤ front + length slots
    not_high None is = omega arith
    not_high (Some j) is = omega (arith, is.0)

    -- it is one of the slots
    pub inside : place < length slots
    inside = omega (arith, leads.below, not_high above walks.above_is, ahead)

    -- what is read there is the slot
    pub read_here : (x : Slot) → x ≡ get_or slots place x → x ≡ slot_at slots place
    read_here x read = get_or_read slots place x inside read no_slot

    -- it lies in the bucket
    pub lies_here : lies_in n own (slot_at slots place).packet ≡ true
    lies_here = leads.in_bucket place (omega (arith, ahead))

    -- it leads to the last before it
    leads_on : Leads n own slots front (slot_at slots place).before (front + place)
    leads_on = walks.linked.befores own place inside lies_here

    -- those behind its link are done, but for itself
    done_on : (i : ℕ) → (slot_at slots place).before ≤ front + i → (i ≡ place → ⊥) → (slot_at slots i).there ≡ true
        → is_from source key (slot_at slots i).packet ≡ false
    done_on i low other there =
        elim (cases_lt i place) as (λ _. is_from source key (slot_at slots i).packet ≡ false) [
          | inl less ↦ not_from n own source key (slot_at slots i).packet own_is (leads_on.none_between i low (omega (arith, less)) there)
          | inr more ↦ walks.done i (omega (arith, more, other, ahead)) there
        ]

    -- where its packet stays it is above what comes next
    pub walk_stays : (on : ℕ) → on ≡ (slot_at slots place).before → is_other source key (slot_at slots place) ≡ true
        → Walks n own source key front slots last (Some place) on
    walk_stays on is_on other = rw is_on (record {
      linked = walks.linked;
      done = λ i low there.
          elim (cases_eq i place) as (λ _. is_from source key (slot_at slots i).packet ≡ false) [
            | inl same ↦
                rw same (other_not (slot_at slots place).there (is_from source key (slot_at slots place).packet) other)
            | inr apart ↦ done_on i low apart there
          ];
      above_is = (inside, lies_here);
      next_is = refl;
    })

    -- ---- it becomes an empty place

    -- the slots, where it is empty
    abbrev pub without : List Slot
    without = set slots place (emptied (slot_at slots place))

    -- nothing has come
    kept : NoneCome slots without
    kept = none_come slots place (emptied (slot_at slots place)) inside refl (λ there. absurd (false≢true there))

    -- they are linked yet
    linked_without : LinkedIn n without front last
    linked_without =
        linked_set slots place (emptied (slot_at slots place)) inside refl (λ there. absurd (false≢true there)) walks.linked
        (λ own lies. walks.linked.befores own place inside lies)

    -- its link leads to the last below the slot above
    leads_without : Leads n own without front (slot_at slots place).before (number_above slots front above)
    leads_without =
        let on = leads_kept kept leads_on in
        record {
          below = omega (arith, leads_on.below, leads.below, ahead);
          none_between = λ i low high.
              each_of slots place (emptied (slot_at slots place)) inside
              (λ i s. (slot_at slots place).before ≤ front + i → front + i < number_above slots front above → s.there ≡ true → lies_in n own s.packet ≡ false)
              (λ low high there. absurd (false≢true there))
              (λ i other low high there.
              elim (cases_lt i place) as (λ _. lies_in n own (slot_at slots i).packet ≡ false) [
                | inl less ↦ leads_on.none_between i low (omega (arith, less)) there
                | inr more ↦ leads.none_between i (omega (arith, more, other, ahead)) high there
              ])
              i low high;
          in_bucket = on.in_bucket;
        }

    -- those behind its link are done
    done_without : (i : ℕ) → (slot_at slots place).before ≤ front + i → (slot_at without i).there ≡ true
        → is_from source key (slot_at without i).packet ≡ false
    done_without =
        each_of slots place (emptied (slot_at slots place)) inside
        (λ i s. (slot_at slots place).before ≤ front + i → s.there ≡ true → is_from source key s.packet ≡ false)
        (λ low there. absurd (false≢true there)) (λ i other low there. done_on i low other there)

    -- where the slot above gets its link
    by_above : (above : Option ℕ) → IsAbove n own slots above
        → Leads n own without front (slot_at slots place).before (number_above slots front above)
        → (length last ≡ n)
        → Walks n own source key front (slots_above without above (slot_at slots place).before)
        (last_above last own above (slot_at slots place).before) above (slot_at slots place).before
    by_above None is leads many =
        let next = (slot_at slots place).before in
        record {
          linked = linked_last own next (omega (arith, many, within)) linked_without (rw (length-set slots place (emptied (slot_at slots place))) leads);
          done = done_without;
          above_is = tt;
          next_is = sym (get_or-set_same last own next 0 (omega (arith, many, within)));
        }
    by_above (Some j) is leads many =
        let next = (slot_at slots place).before in
        let low : j < length without = omega (arith, is.0, length-set slots place (emptied (slot_at slots place))) in
        let y = linked next (slot_at without j) in
        let lies : lies_in n own (slot_at without j).packet ≡ true = subst (λ x. lies_in n own x ≡ true) (sym (kept.packet j)) is.1 in
        let come : NoneCome without (set without j y) = none_come without j y low refl (λ there. there) in
        record {
          linked = linked_set without j y low refl (λ there. there) linked_without
              (λ other also.
              subst (λ p. Leads n p without front next (front + j))
              (sym (one_bucket own other (bucket_of n (slot_at without j).packet) lies also)) leads);
          done = λ i low there.
              subst (λ x. is_from source key x ≡ false) (sym (come.packet i)) (done_without i low (come.there i there));
          above_is = (omega (arith, low, length-set without j y), subst (λ x. lies_in n own x ≡ true) (sym (come.packet j)) lies);
          next_is = sym (ap (λ s. s.before) (here without j y low));
        }

    -- where it becomes an empty place the one above leads past it
    pub walk_empties : (y : Slot) (new : List Slot) (left : List ℕ) (on : ℕ) → length last ≡ n
        → y ≡ emptied (slot_at slots place) → on ≡ (slot_at slots place).before
        → new ≡ slots_above (set slots place y) above on → left ≡ last_above last own above on
        → Walks n own source key front new left above on
    walk_empties y new left on many is_y is_on are_new is_left =
        rw (are_new, is_left, is_on, is_y) (by_above above walks.above_is leads_without many)

  -- at the end none is left
  pub walk_ends : {slots : List Slot} {last : List ℕ} {above : Option ℕ} {next : ℕ} → Walks n own source key front slots last above next
      → next ≤ front → length (filter (is_from source key) (packets_in slots)) ≡ 0
  walk_ends {slots} walks low = none_left source key slots (λ i. walks.done i (omega (arith, low)))
