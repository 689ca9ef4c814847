-- How a queue stays as it is stored.
use Rattle.zl_rights.proofs.Common.{◌≡◌, ℕ, ◌+◌, ◌<◌, ◌^◌, true, not, List, [], ◌∷◌, ◌++◌, length, filter, arith, refl, ap, length-append, ◌∙◌}
use Rattle.std.specs.Prelude.{◌-◌}
use Rattle.std.proofs.lemmas.List.Filters.{length-filter_both}
use Rattle.zl_rights.specs.World.{Source}
use Rattle.zl_port.specs.Packets.{is_from}
use Rattle.zl_port.specs.Buckets.{bucket_of}
use Rattle.zl_port.specs.Chains.{AreLinked, link_of, linked, packets_in, with_last}
use Rattle.zl_port.specs.Room.{IsQueue, room_in}
use Rattle.zl_port.specs.declared.slots.Slot.{Slot}
use Rattle.zl_port.proofs.InSlots.{packets_more}
use Rattle.zl_port.proofs.Linking.{linked_behind_all, same_buckets}

-- one packet more, for which a place was made behind all slots
pub pushed : {slots made new : List Slot} {places places' front front' count number : ℕ} {last made_last left : List ℕ} (x y : Slot)
    → IsQueue slots places front count last → length (packets_in slots) < room_in places
    → packets_in made ≡ packets_in slots → front' + length made < 2 ^ 63 → AreLinked made front' made_last → length made_last ≡ length last
    → x.there ≡ true → number ≡ front' + length made → y ≡ linked (link_of made_last (bucket_of (length made_last) x.packet)) x
    → left ≡ with_last made_last (bucket_of (length made_last) x.packet) (number + 1)
    → new ≡ made ++ y ∷ [] → places' ≡ places → IsQueue new places' front' (count + 1) left
pushed {slots = slots} {made = made} {new = new} {number = number} {made_last = made_last}
    x y is below packets numbers are buckets there is_number is_y is_left are_new same_places =
    let one : length (packets_in new) ≡ length (packets_in slots) + 1 =
    rw (are_new, packets_more made y (ap (λ s. s.there) is_y ∙ there), packets) (length-append (packets_in slots) (y.packet ∷ [])) in
    let some : 0 < length made_last = omega (arith, below, buckets, is.some) in
    record {
      counted = omega (arith, is.counted, one);
      enough = rw same_places (omega (arith, is.counted, below));
      small = rw same_places is.small;
      numbers = omega (arith, numbers, ap length are_new, length-append made (y ∷ []));
      some = λ h. omega (arith, some, ap length is_left, same_buckets made_last (bucket_of (length made_last) x.packet) (number + 1));
      linked = linked_behind_all x y some is_number is_y is_left are_new are;
    }

-- the packets of waits with the source and the key have left
pub cancelled : {slots left : List Slot} {places places' front count taken : ℕ} {last new_last : List ℕ} (source : Source) (key : ℕ)
    → IsQueue slots places front count last → packets_in left ≡ filter (λ x. not (is_from source key x)) (packets_in slots)
    → taken ≡ length (filter (is_from source key) (packets_in slots)) → AreLinked left front new_last
    → length left ≡ length slots → length new_last ≡ length last → places' ≡ places → IsQueue left places' front (count - taken) new_last
cancelled {slots} {left} source key is rest are_taken are long buckets same_places =
    let both = length-filter_both (is_from source key) (λ x. not (is_from source key x)) (λ x. refl) (packets_in slots) in
    record {
      counted = omega (arith, is.counted, are_taken, ap length rest, both);
      enough = rw same_places (omega (arith, is.enough));
      small = rw same_places is.small;
      numbers = omega (arith, is.numbers, long);
      some = λ h. omega (arith, is.some (omega (arith, h, same_places)), buckets);
      linked = are;
    }
