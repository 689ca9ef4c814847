-- What a cancellation leaves of the packets.
use Rattle.zl_rights.proofs.Common.{◌≡◌, ℕ, ◌≤◌, true, false, not, List, [], ◌∷◌, length, filter, refl, arith, nat_tests, eqb-true}
use Rattle.std.proofs.lemmas.List.Filters.{length-filter_both}
use Rattle.zl_rights.specs.World.{Packet, Source}
use Rattle.zl_port.specs.Packets.{is_from, is_user, user_count}
use Rattle.zl_port.specs.Room.{HasRoom}

-- there are at most as many packets of calls as packets
pub few_users : (packets : List Packet) → user_count packets ≤ length packets
few_users packets = omega (arith, length-filter_both is_user (λ x. not (is_user x)) (λ x. refl) packets)

-- no wait gave the packet of a call
not_from : (source : Source) (key : ℕ) (x : Packet) → is_user x ≡ true → is_from source key x ≡ false
not_from source key x user = rw (eqb-true x.kind 0 user) refl

-- the packets of calls stay
users_stay : (source : Source) (key : ℕ) (packets : List Packet) → user_count (filter (λ x. not (is_from source key x)) packets) ≡ user_count packets
users_stay source key [] = refl
users_stay source key (x ∷ packets) = grind (arith, nat_tests, not_from source key x, users_stay source key packets)

-- where the packets that a wait of the source gave with the key have left
module _ (source : Source) (key : ℕ) (packets left : List Packet) (is : left ≡ filter (λ x. not (is_from source key x)) packets) where
  -- there is still room, and the packets of calls are counted
  pub still_room : (room reserved count : ℕ) → HasRoom packets room reserved count → HasRoom left room reserved count
  still_room room reserved count has = rw is (record {
    enough = omega (arith, has.enough, length-filter_both (is_from source key) (λ x. not (is_from source key x)) (λ x. refl) packets);
    small = has.small;
    counted = rw (users_stay source key packets) has.counted;
  })
