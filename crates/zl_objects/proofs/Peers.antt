-- The peer of an end is of the kind of the end, and the reader of a channel end is a channel end.
use Rattle.zl_objects.proofs.Common.{Body, Bool, HasPeerHere, IfSome, IsPeerHere, IsTrue, Kind, Map, None, Object, Option, Some, ap, false, false≢true, get}
use Rattle.zl_objects.proofs.Common.{has_key, if_there, if◌then◌else◌, is_channel_at, is_channel_body, is_channel_in, kind_here, kind_in, none-some, option_map}
use Rattle.zl_objects.proofs.Common.{peer_found, peer_here, peer_of, reader_at, reader_in, reader_of, refl, same_Some, subst, true, ℕ, ◌≡◌}
use Rattle.zl_rights.specs.declared.kind.Kind.TheVariants as kind
use Rattle.zl_objects.specs.declared.object.Body.TheVariants as body

-- a peer stays one, where any koid does
pub peer_stays : (m n : Map Object) (next next2 : ℕ) (b : Body) → ((p : ℕ) → IsPeerHere (kind_in b) m next p → IsPeerHere (kind_in b) n next2 p)
    → HasPeerHere m next b → HasPeerHere n next2 b
peer_stays m n next next2 b to has = by_peer (peer_of b) has
  where
    by_peer : (q : Option ℕ) → IfSome q (IsPeerHere (kind_in b) m next) → IfSome q (IsPeerHere (kind_in b) n next2)
    by_peer None has = has
    by_peer (Some p) has = to p has

-- where each object has its peer
module _ (m : Map Object) (next : ℕ) (peers : (k : ℕ) (o : Object) → get m k ≡ Some o → HasPeerHere m next o.body) where
  -- a koid at which an object is, and that is some peer's, is of the peer's kind
  there_of_kind : (kind : Kind) (j p : ℕ) → IsPeerHere kind m next j → if_there m (Some j) ≡ Some p → kind_here m p ≡ Some kind
  there_of_kind kind j p has is = by_key (has_key m j) refl is
    where
      by_key : (b : Bool) → has_key m j ≡ b → (if b then Some j else None) ≡ Some p → kind_here m p ≡ Some kind
      by_key true at same = subst (λ (i : ℕ). kind_here m i ≡ Some kind) (same_Some j p same) (has.1 at)
      by_key false at same = absurd (none-some p same)

  pub peer_of_kind : (k p : ℕ) → peer_here m k ≡ Some p → kind_here m p ≡ kind_here m k
  peer_of_kind k p is = by_object (get m k) refl is
    where
      by_peer : (kind : Kind) (q : Option ℕ) → IfSome q (IsPeerHere kind m next) → if_there m q ≡ Some p → kind_here m p ≡ Some kind
      by_peer kind None has same = absurd (none-some p same)
      by_peer kind (Some j) has same = there_of_kind kind j p has same

      by_object : (o : Option Object) → get m k ≡ o → if_there m (peer_found o) ≡ Some p → kind_here m p ≡ option_map (λ (x : Object). kind_in x.body) o
      by_object None at same = absurd (none-some p same)
      by_object (Some o) at same = by_peer (kind_in o.body) (peer_of o.body) (peers k o at) same

  pub reader_of_channel : (k p : ℕ) → reader_at m k ≡ Some p → IsTrue (is_channel_at m p)
  reader_of_channel k p is = by_object (get m k) refl is
    where
      is_channel : (o : Option Object) → option_map (λ (x : Object). kind_in x.body) o ≡ Some kind.Channel → IsTrue (is_channel_in o)
      is_channel None same = absurd (none-some kind.Channel same)
      is_channel (Some o) same = by_body o.body (same_Some (kind_in o.body) kind.Channel same)
        where
          by_body : (b : Body) → kind_in b ≡ kind.Channel → IsTrue (is_channel_body b)
          by_body (body.ChannelEnd peer queue) same = refl
          by_body _ same = absurd (false≢true (ap is_it same))
            where
              is_it : Kind → Bool
              is_it kind.Channel = true
              is_it _ = false

      by_body : (b : Body) → HasPeerHere m next b → if_there m (reader_of b) ≡ Some p → IsTrue (is_channel_at m p)
      by_body (body.ChannelEnd peer queue) has same = is_channel (get m p) (there_of_kind kind.Channel peer p has same)
      by_body _ has same = absurd (none-some p same)

      by_object : (o : Option Object) → get m k ≡ o → if_there m (reader_in o) ≡ Some p → IsTrue (is_channel_at m p)
      by_object None at same = absurd (none-some p same)
      by_object (Some o) at same = by_body o.body (peers k o at) same
