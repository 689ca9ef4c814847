-- The invariant of the objects, after each change.
use Rattle.zl_objects.proofs.Common.{Body, Bool, Err, HasPeerHere, HavePlaces, HavePlacesWith, IsPeerHere, IsTrue, IsWhole, Map, Message, None, Object}
use Rattle.zl_objects.proofs.Common.{Ok, OnErr, OnOk, Option, Pair, Port, Result, SignalState, Some, Watch, [], above_of, ap, arith, at_port, cases_Bool}
use Rattle.zl_objects.proofs.Common.{changed_port, count_by, end_to, eq-eqb, false, false≢true, find, get, get-put, get-update, has_key, has_key-update}
use Rattle.zl_objects.proofs.Common.{held_once_less, held_once_more, if◌then◌else◌, inl, inr, insert_entry, is_at, is_at_port, is_end_body, is_err, is_port_at}
use Rattle.zl_objects.proofs.Common.{kind_here, kind_in, kind_of_pair, length, length-append, length-update, lookup, nat_cmp, nat_lt, nat_tests, new_object}
use Rattle.zl_objects.proofs.Common.{none-some, option_map, peer_of, put, put_key, raised_changed, received, received_body, refl, remove_entry, reserved_of}
use Rattle.zl_objects.proofs.Common.{same_Some, sent, sent_body, set_value, slept, stopped, stopped_body, subst, sym, true, unsigned_tied, unwatched, update}
use Rattle.zl_objects.proofs.Common.{waits_for, waits_in, watched, with_place, ℕ, ◌++◌, ◌+◌, ◌-◌, ◌<◌, ◌==◌, ◌^◌, ◌∙◌, ◌∷◌, ◌≡◌, ◌≤◌, ◌⊎◌}
use Rattle.zl_objects.specs.declared.object.Body.TheVariants as body
use Rattle.zl_objects.specs.declared.object.Pair.TheVariants as pair
use Rattle.zl_objects.proofs.Peers.{peer_stays}
use Rattle.zl_objects.proofs.Places.{places_made, places_put, places_taken, places_unwatched, places_updated, places_used, seen_updated}
use Rattle.zl_objects.proofs.ByKoid.{inserted, entry_inserted, written, written_back}
use Rattle.zl_rights.proofs.MapEdits.{has_key-behind}

pub none_whole : (m : Map Object) (next room : ℕ) → m ≡ [] → IsWhole None m next room
unfolding get
none_whole m next room none =
    rw none record { below = λ k there. cc; peers = λ k o at. absurd (none-some o at); places = λ k. omega arith; enough = omega arith }

-- ---- one of the objects is written

module _ (f : Object → Object) (kinds : (o : Object) → kind_in (f o).body ≡ kind_in o.body) (peers : (o : Object) → peer_of (f o).body ≡ peer_of o.body) where
  kind_updated : (m : Map Object) (k j : ℕ) → kind_here (update m k f) j ≡ kind_here m j
  kind_updated = seen_updated (option_map (λ (o : Object). kind_in o.body)) f (λ o. ap Some (kinds o))

  still : (m : Map Object) (k next : ℕ) (b : Body) → HasPeerHere m next b → HasPeerHere (update m k f) next b
  still m k next b = peer_stays m (update m k f) next next b (λ p has. (has.0, λ there. kind_updated m k p ∙ has.1 (sym (has_key-update m k f p) ∙ there)))

  -- the places are those that the wait needs
  pub placed_whole : (x y : Option Watch) (m n : Map Object) (next room k : ℕ) → IsWhole x m next room → n ≡ update m k f
      → HavePlacesWith y (update m k f) → IsWhole y n next room
  placed_whole x y m n next room k whole is places = rw is record {
    below = λ j there. whole.below j (sym (has_key-update m k f j) ∙ there);
    peers = λ j o at. by_object j o (get m j) refl (sym (get-update m k f j) ∙ at);
    places = places;
    enough = omega (arith, length-update m k f, whole.enough);
  }
    where
      by_object : (j : ℕ) (o : Object) (q : Option Object) → get m j ≡ q → (if k == j then option_map f (get m j) else get m j) ≡ Some o
          → HasPeerHere (update m k f) next o.body
      by_object j o None is read = elim (cases_Bool (k == j)) as (λ _. HasPeerHere (update m k f) next o.body) [
        | inl here ↦ absurd (none-some o (rw (here, is) at read))
        | inr apart ↦ absurd (none-some o (rw (apart, is) at read))
      ]
      by_object j o (Some q) is read = elim (cases_Bool (k == j)) as (λ _. HasPeerHere (update m k f) next o.body) [
        | inl here ↦ subst (λ (x : Object). HasPeerHere (update m k f) next x.body) (same_Some (f q) o (rw (here, is) at read))
            (still m k next (f q).body (rw (kinds q, peers q) (whole.peers j q is)))
        | inr apart ↦
            subst (λ (x : Object). HasPeerHere (update m k f) next x.body) (same_Some q o (rw (apart, is) at read)) (still m k next q.body (whole.peers j q is))
      ]

  module _ (quiet : (o : Object) → (f o).signals ≡ o.signals) (same : (o : Object) → reserved_of (f o).body ≡ reserved_of o.body) where
    same_waits : (j : ℕ) (o : Object) → waits_for j (f o) ≡ waits_for j o
    same_waits j o = ap (λ (s : SignalState). count_by (is_at_port j) s.waits) (quiet o)

    pub updated_whole : (m n : Map Object) (next room k : ℕ) → IsWhole None m next room → n ≡ update m k f → IsWhole None n next room
    updated_whole m n next room k whole is = placed_whole None None m n next room k whole is (places_updated f same_waits same None m k whole.places)

pub more_same : (o : Object) → (held_once_more o).body ≡ o.body
more_same o = elim (nat_lt o.handles (2 ^ 62)) as (λ b. (if b then record o { handles = o.handles + 1 } else o).body ≡ o.body) [ true ↦ refl | false ↦ refl ]

pub more_quiet : (o : Object) → (held_once_more o).signals ≡ o.signals
more_quiet o =
    elim (nat_lt o.handles (2 ^ 62)) as (λ b. (if b then record o { handles = o.handles + 1 } else o).signals ≡ o.signals) [ true ↦ refl | false ↦ refl ]

-- one handle more
pub more_whole : (m n : Map Object) (next room k : ℕ) → IsWhole None m next room → n ≡ update m k held_once_more → IsWhole None n next room
more_whole = updated_whole held_once_more (λ o. ap kind_in (more_same o)) (λ o. ap peer_of (more_same o)) more_quiet (λ o. ap reserved_of (more_same o))

-- one handle less
pub less_whole : (m n : Map Object) (next room k : ℕ) → IsWhole None m next room → n ≡ update m k held_once_less → IsWhole None n next room
less_whole = updated_whole held_once_less (λ o. refl) (λ o. refl) (λ o. refl) (λ o. refl)

-- a process may be blocked at it
pub slept_whole : (m n : Map Object) (next room k : ℕ) → IsWhole None m next room → n ≡ update m k slept → IsWhole None n next room
slept_whole = updated_whole slept (λ o. refl) (λ o. refl) (λ o. refl) (λ o. refl)

-- other signals
pub changed_whole : (m n : Map Object) (next room k clear set : ℕ) → IsWhole None m next room → n ≡ update m k (raised_changed clear set)
    → IsWhole None n next room
changed_whole m n next room k clear set whole is =
    placed_whole f (λ o. refl) (λ o. refl) None None m n next room k whole is (places_updated f (λ j o. refl) (λ o. refl) None m k whole.places)
  where
    f : Object → Object
    f = raised_changed clear set

same_kind : (g : Port → Port) (b : Body) → kind_in (changed_port g b) ≡ kind_in b
same_kind g (body.Job own) = refl
same_kind g _ = refl

pub same_peer : (g : Port → Port) (b : Body) → peer_of (changed_port g b) ≡ peer_of b
same_peer g (body.Job own) = refl
same_peer g _ = refl

pub same_above : (g : Port → Port) (b : Body) → above_of (changed_port g b) ≡ above_of b
same_above g (body.Job own) = refl
same_above g _ = refl

at_port_whole : (g : Port → Port) (x y : Option Watch) (m n : Map Object) (next room k : ℕ) → IsWhole x m next room → n ≡ update m k (at_port g)
    → HavePlacesWith y (update m k (at_port g)) → IsWhole y n next room
at_port_whole g = placed_whole (at_port g) (λ o. same_kind g o.body) (λ o. same_peer g o.body)

-- other packets at a port
pub port_whole : (g : Port → Port) → ((p : Port) → (g p).reserved ≡ p.reserved) → (m n : Map Object) (next room k : ℕ) → IsWhole None m next room
    → n ≡ update m k (at_port g) → IsWhole None n next room
port_whole g same m n next room k whole is =
    at_port_whole g None None m n next room k whole is (places_updated (at_port g) (λ j o. refl) (λ o. by_body o.body) None m k whole.places)
  where
    by_body : (b : Body) → reserved_of (changed_port g b) ≡ reserved_of b
    by_body (body.Port port) = same port
    by_body (body.ChannelEnd p queue) = refl
    by_body _ = refl

-- a place is reserved for the wait
pub made_whole : (x : Watch) (m n : Map Object) (next room : ℕ) → IsTrue (is_port_at m x.port) → IsWhole None m next room
    → n ≡ update m x.port (at_port with_place) → IsWhole (Some x) n next room
made_whole x m n next room port whole is = at_port_whole with_place None (Some x) m n next room x.port whole is (places_made x m port whole.places)

-- the wait is registered
pub watched_whole : (x : Watch) (m n : Map Object) (next room k : ℕ) → IsTrue (has_key m k) → IsWhole (Some x) m next room
    → n ≡ update m k (watched x) → IsWhole None n next room
watched_whole x m n next room k there whole is =
    placed_whole (watched x) (λ o. refl) (λ o. refl) (Some x) None m n next room k whole is (places_taken x m k there whole.places)

-- the wait has gone, and its place is left
pub unwatched_whole : (test : Watch → Bool) (m n : Map Object) (next room k : ℕ) → IsWhole None m next room → n ≡ update m k (unwatched test)
    → IsWhole (find test (waits_in (get m k))) n next room
unwatched_whole test m n next room k whole is =
    placed_whole (unwatched test) (λ o. refl) (λ o. refl) None (find test (waits_in (get m k))) m n next room k whole is
    (places_unwatched test m k whole.places)

-- its place is given back, or holds its packet
pub used_whole : (g : Port → Port) → ((p : Port) → (g p).reserved ≡ p.reserved - 1) → (x : Watch) (m n : Map Object) (next room : ℕ)
    → IsWhole (Some x) m next room → n ≡ update m x.port (at_port g) → IsWhole None n next room
used_whole g less x m n next room whole is = at_port_whole g (Some x) None m n next room x.port whole is (places_used g less x m whole.places)

-- ---- what an object is changes

-- a body of the same kind, with the same peer, below the same job, and at which as many places are reserved
pub record Stays (b c : Body) : Type 0 where
  pub kind : kind_in c ≡ kind_in b
  pub reserved : reserved_of c ≡ reserved_of b
  pub peer : peer_of c ≡ peer_of b
  pub above : above_of c ≡ above_of b

pub stays_same : (b : Body) → Stays b b
stays_same b = record { kind = refl; reserved = refl; peer = refl; above = refl }

pub rebodied_whole : (g : Body → Body) → ((b : Body) → Stays b (g b)) → (m n : Map Object) (next room k : ℕ) → IsWhole None m next room
    → n ≡ update m k (λ o. record o { body = g o.body }) → IsWhole None n next room
rebodied_whole g same =
    updated_whole (λ o. record o { body = g o.body }) (λ o. (same o.body).kind) (λ o. (same o.body).peer) (λ o. refl) (λ o. (same o.body).reserved)

-- the end of a process
pub stopped_same : (b : Body) → Stays b (stopped_body b)
stopped_same (body.Process job l) = record { kind = refl; reserved = refl; peer = refl; above = refl }
stopped_same b = stays_same b

pub stopped_whole : (m n : Map Object) (next room k : ℕ) → IsWhole None m next room → n ≡ update m k stopped → IsWhole None n next room
stopped_whole = rebodied_whole stopped_body stopped_same

-- one message more
pub sent_same : (message : Message) (b : Body) → Stays b (sent_body message b)
sent_same message (body.ChannelEnd peer queue) = record { kind = refl; reserved = refl; peer = refl; above = refl }
sent_same message b = stays_same b

pub sent_whole : (m n : Map Object) (next room k : ℕ) (message : Message) → IsWhole None m next room → n ≡ update m k (sent message)
    → IsWhole None n next room
sent_whole m n next room k message = rebodied_whole (sent_body message) (sent_same message) m n next room k

-- one message less
pub received_same : (b : Body) → Stays b (received_body b)
received_same (body.ChannelEnd peer queue) = record { kind = refl; reserved = refl; peer = refl; above = refl }
received_same b = stays_same b

pub received_whole : (m n : Map Object) (next room k : ℕ) → IsWhole None m next room → n ≡ update m k received → IsWhole None n next room
received_whole = rebodied_whole received_body received_same

-- ---- one object more

later_peer : (m : Map Object) (next : ℕ) (o : Object) (b : Body) → ((j : ℕ) → IsTrue (has_key m j) → j < next) → HasPeerHere m next b
    → HasPeerHere (put m next o) (next + 1) b
later_peer m next o b below = peer_stays m (put m next o) next (next + 1) b later
  where
    later : (p : ℕ) → IsPeerHere (kind_in b) m next p → IsPeerHere (kind_in b) (put m next o) (next + 1) p
    later p has = (omega (arith, has.0), λ there. rw (get-put m next o p, apart) (has.1 (rw (get-put m next o p, apart) at there)))
      where
        apart : (next == p) ≡ false
        apart = grind (arith, nat_tests, has.0)

-- the new object has the next koid, and is no end; no place is reserved at it
pub inserted_whole : (m n : Map Object) (next room room2 : ℕ) (o : Object) → IsWhole None m next room → is_end_body o.body ≡ false
    → reserved_of o.body ≡ 0 → o.signals.waits ≡ [] → length m + 1 ≤ room2 → n ≡ insert_entry nat_cmp m next o → IsWhole None n (next + 1) room2
inserted_whole m n next room room2 o whole alone empty fresh more into = rw (into, inserted m next o) record {
  below = λ k there. elim (put_key m next o k there) as (λ _. k < next + 1) [ inl here ↦ omega (arith, here) | inr old ↦ omega (arith, whole.below k old) ];
  peers = λ k q at. by_key k q (cases_Bool (next == k)) (sym (get-put m next o k) ∙ at);
  places = places_put m next o whole.below fresh empty whole.places;
  enough =
      omega (arith, more, ap (λ (x : Map Object). length x) (sym (inserted m next o) ∙ entry_inserted m next o whole.below), length-append m ((next, o) ∷ []));
}
  where
    no_end : (b : Body) → is_end_body b ≡ false → HasPeerHere (put m next o) (next + 1) b
    no_end (body.ChannelEnd p queue) h = absurd (false≢true (sym h))
    no_end (body.PairEnd p) h = absurd (false≢true (sym h))
    no_end _ h = tt

    by_key : (k : ℕ) (q : Object) → IsTrue (next == k) ⊎ ((next == k) ≡ false) → (if next == k then Some o else get m k) ≡ Some q
        → HasPeerHere (put m next o) (next + 1) q.body
    by_key k q (inl here) read = subst (λ (x : Object). HasPeerHere (put m next o) (next + 1) x.body) (same_Some o q (rw here at read)) (no_end o.body alone)
    by_key k q (inr apart) read = later_peer m next o q.body whole.below (whole.peers k q (rw apart at read))

-- ---- both ends of a channel or of an event pair more

-- a new end of the pair that has this peer
abbrev pub end_of : Pair → ℕ → ℕ → Object
end_of pair peer handles = new_object (end_to pair peer) handles

end_kind : (pair : Pair) (peer : ℕ) → kind_in (end_to pair peer) ≡ kind_of_pair pair
end_kind pair.Channel peer = refl
end_kind pair.Eventpair peer = refl

end_reserved : (pair : Pair) (peer : ℕ) → reserved_of (end_to pair peer) ≡ 0
end_reserved pair.Channel peer = refl
end_reserved pair.Eventpair peer = refl

pub end_peer : (pair : Pair) (peer : ℕ) → peer_of (end_to pair peer) ≡ Some peer
end_peer pair.Channel peer = refl
end_peer pair.Eventpair peer = refl

-- all koids lie below the one after the new object's
pub below_first : (m n : Map Object) (next : ℕ) (o : Object) → ((j : ℕ) → IsTrue (has_key m j) → j < next) → n ≡ insert_entry nat_cmp m next o → (j : ℕ)
    → IsTrue (has_key n j) → j < next + 1
below_first m n next o below into j there = elim (put_key m next o j (rw (into, inserted m next o) at there)) as (λ _. j < next + 1) [
  | inl here ↦ omega (arith, here)
  | inr old ↦ omega (arith, below j old)
]

-- the second end goes behind the first
pub pair_created : (m n n2 : Map Object) (next : ℕ) (o o2 : Object) → ((j : ℕ) → IsTrue (has_key m j) → j < next) → n ≡ insert_entry nat_cmp m next o
    → n2 ≡ insert_entry nat_cmp n (next + 1) o2 → n2 ≡ (m ++ (next, o) ∷ []) ++ (next + 1, o2) ∷ []
pair_created m n n2 next o o2 below into into2 =
    into2 ∙ (entry_inserted n (next + 1) o2 (below_first m n next o below into)
    ∙ ap (λ (x : Map Object). x ++ (next + 1, o2) ∷ []) (into ∙ entry_inserted m next o below))

pub pair_whole : (pair : Pair) (m n n2 : Map Object) (next room room2 handles : ℕ) (o o2 : Object) → IsWhole None m next room
    → o ≡ end_of pair (next + 1) handles → o2 ≡ end_of pair next handles → length m + 2 ≤ room2
    → n ≡ insert_entry nat_cmp m next o → n2 ≡ insert_entry nat_cmp n (next + 1) o2 → IsWhole None n2 (next + 1 + 1) room2
pair_whole pair m n n2 next room room2 handles o o2 whole first second more into into2 = record {
  below = λ k there. below_second k (rw is_put2 at there);
  peers = λ k q at. by_key k q (cases_Bool (next + 1 == k)) (cases_Bool (next == k)) (sym (get_second k) ∙ at);
  places = rw is_put2 (places_put n (next + 1) o2 below (rw second refl) (rw second (end_reserved pair next)) first_places);
  enough = rw (pair_created m n n2 next o o2 whole.below into into2)
      (omega (arith, more, length-append (m ++ (next, o) ∷ []) ((next + 1, o2) ∷ []), length-append m ((next, o) ∷ [])));
}
  where
    is_put : n ≡ put m next o
    is_put = into ∙ inserted m next o

    first_places : HavePlaces n
    first_places = rw is_put (places_put m next o whole.below (rw first refl) (rw first (end_reserved pair (next + 1))) whole.places)

    is_put2 : n2 ≡ put n (next + 1) o2
    is_put2 = into2 ∙ inserted n (next + 1) o2

    below : (j : ℕ) → IsTrue (has_key n j) → j < next + 1
    below = below_first m n next o whole.below into

    below_second : (j : ℕ) → IsTrue (has_key (put n (next + 1) o2) j) → j < next + 1 + 1
    below_second j there = elim (put_key n (next + 1) o2 j there) as (λ _. j < next + 1 + 1) [
      | inl here ↦ omega (arith, here)
      | inr old ↦ omega (arith, below j old)
    ]

    get_second : (k : ℕ) → get n2 k ≡ (if next + 1 == k then Some o2 else (if next == k then Some o else get m k))
    get_second k = rw (is_put2, get-put n (next + 1) o2 k, is_put, get-put m next o k) refl

    first_there : kind_here n2 next ≡ Some (kind_of_pair pair)
    first_there = rw (get_second next, apart, here, first) (ap Some (end_kind pair (next + 1)))
      where
        apart : (next + 1 == next) ≡ false
        apart = grind (arith, nat_tests)

        here : (next == next) ≡ true
        here = eq-eqb next next refl

    second_there : kind_here n2 (next + 1) ≡ Some (kind_of_pair pair)
    second_there = rw (get_second (next + 1), here, second) (ap Some (end_kind pair next))
      where
        here : (next + 1 == next + 1) ≡ true
        here = eq-eqb (next + 1) (next + 1) refl

    -- an end has its peer
    has_peer : (p : ℕ) → IsPeerHere (kind_of_pair pair) n2 (next + 1 + 1) p → HasPeerHere n2 (next + 1 + 1) (end_to pair p)
    has_peer p has = rw (end_peer pair p, end_kind pair p) has

    by_key : (k : ℕ) (q : Object) → IsTrue (next + 1 == k) ⊎ ((next + 1 == k) ≡ false) → IsTrue (next == k) ⊎ ((next == k) ≡ false)
        → (if next + 1 == k then Some o2 else (if next == k then Some o else get m k)) ≡ Some q → HasPeerHere n2 (next + 1 + 1) q.body
    by_key k q (inl last) other read =
        subst (λ (x : Object). HasPeerHere n2 (next + 1 + 1) x.body) (sym second ∙ same_Some o2 q (rw last at read))
        (has_peer next (omega arith, λ there. first_there))
    by_key k q (inr apart) (inl here) read =
        subst (λ (x : Object). HasPeerHere n2 (next + 1 + 1) x.body) (sym first ∙ same_Some o q (rw (apart, here) at read))
        (has_peer (next + 1) (omega arith, λ there. second_there))
    by_key k q (inr apart) (inr old) read =
        rw is_put2 (later_peer n (next + 1) o2 q.body below (rw is_put (later_peer m next o q.body whole.below (whole.peers k q (rw (apart, old) at read)))))

-- the first end is taken back where there is no memory for the second
pub end_taken : (m n n2 n3 : Map Object) (next : ℕ) (o : Object) → ((j : ℕ) → IsTrue (has_key m j) → j < next) → n ≡ insert_entry nat_cmp m next o → n2 ≡ n
    → n3 ≡ remove_entry (is_at (nat_cmp next)) n2 → n3 ≡ m
unfolding get
end_taken m n n2 n3 next o below into still out =
    out ∙ (ap (remove_entry (is_at (nat_cmp next))) (still ∙ (into ∙ entry_inserted m next o below)) ∙ last_removed m below)
  where
    last_removed : (m : Map Object) → ((j : ℕ) → IsTrue (has_key m j) → j < next) → remove_entry (is_at (nat_cmp next)) (m ++ (next, o) ∷ []) ≡ m
    last_removed [] below = grind (arith, nat_tests, unsigned_tied next next)
    last_removed (e ∷ m) below =
        let first : e.0 < next = below e.0 (rw (eq-eqb e.0 e.0 refl) refl) in
        let rest : remove_entry (is_at (nat_cmp next)) (m ++ (next, o) ∷ []) ≡ m = last_removed m (λ j there. below j (has_key-behind e m j there)) in
        grind (arith, nat_tests, unsigned_tied next e.0)

-- a result that is no fault
pub unless_err : {A B : Type 0} (r : Result A B) (P : Type 0) → OnOk r P → is_err r ≡ false → P
unless_err (Ok x) P h out = h
unless_err (Err e) P h out = absurd (false≢true (sym out))

-- a result that is a fault
pub if_err : {A B : Type 0} (r : Result A B) (P : Type 0) → OnErr r P → is_err r ≡ true → P
if_err (Ok x) P h out = absurd (false≢true out)
if_err (Err e) P h out = h

-- other room
pub roomy_whole : (m n : Map Object) (next room room2 : ℕ) → IsWhole None m next room → n ≡ m → room ≤ room2
    → IsWhole None n next room2
roomy_whole m n next room room2 whole is more =
    rw is record { below = whole.below; peers = whole.peers; places = whole.places; enough = omega (arith, whole.enough, more) }

-- one message more, or the end as it was
pub sent_or_same_whole : {A B : Type 0} (m n : Map Object) (next room k : ℕ) (message : Message) (v w : Object) (r : Result A B)
    → IsWhole None m next room → OnOk r (w ≡ sent message v) → OnErr r (w ≡ v)
    → Some v ≡ lookup (is_at (nat_cmp k)) m → n ≡ set_value (is_at (nat_cmp k)) m w → IsWhole None n next room
sent_or_same_whole m n next room k message v w (Ok x) whole is other there set =
    sent_whole m n next room k message whole (written m n k (sent message) v w there is set)
sent_or_same_whole m n next room k message v w (Err e) whole other is there set =
    roomy_whole m n next room room whole (written_back m n k v w there is set) (omega arith)

-- other packets at a port, or the port as it was
pub port_or_same_whole : {A B : Type 0} (g : Port → Port) → ((p : Port) → (g p).reserved ≡ p.reserved)
    → (m n : Map Object) (next room k : ℕ) (v w : Object) (r : Result A B) → IsWhole None m next room → OnOk r (w ≡ at_port g v)
    → OnErr r (w ≡ v) → Some v ≡ lookup (is_at (nat_cmp k)) m → n ≡ set_value (is_at (nat_cmp k)) m w → IsWhole None n next room
port_or_same_whole g same m n next room k v w (Ok y) whole is other there set =
    port_whole g same m n next room k whole (written m n k (at_port g) v w there is set)
port_or_same_whole g same m n next room k v w (Err e) whole other is there set =
    roomy_whole m n next room room whole (written_back m n k v w there is set) (omega arith)

-- ---- a wait that is taken out

module _ (test : Watch → Bool) (m n : Map Object) (next room k : ℕ) (whole : IsWhole None m next room)
    (out : n ≡ update m k (unwatched test)) where
  -- none was found
  pub none_out_whole : find test (waits_in (get m k)) ≡ None → IsWhole None n next room
  none_out_whole none = subst (λ (q : Option Watch). IsWhole q n next room) none (unwatched_whole test m n next room k whole out)

  module _ (x : Watch) (found : find test (waits_in (get m k)) ≡ Some x) where
    -- its place is left
    pub one_out_whole : IsWhole (Some x) n next room
    one_out_whole = subst (λ (q : Option Watch). IsWhole q n next room) found (unwatched_whole test m n next room k whole out)

    -- its place was given back, or holds its packet
    pub gone_whole : (g : Port → Port) → ((p : Port) → (g p).reserved ≡ p.reserved - 1) → (n2 : Map Object) → n2 ≡ update n x.port (at_port g)
        → IsWhole None n2 next room
    gone_whole g less n2 is = used_whole g less x n n2 next room one_out_whole is
