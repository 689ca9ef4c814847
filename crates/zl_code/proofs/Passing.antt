-- What is known of a call that isn't refused: that none of its causes is there, and what its look-ups granted.
use Rattle.zl_code.proofs.Common.{Body, Bool, ChannelEnd, Entry, Err, HandlesAreNamed, HandlesAreSound, HasPeer, IsSound, IsSoundWait, IsTrue, Kind, Library}
use Rattle.zl_code.proofs.Common.{List, None, Object, Ok, Option, Outcome, Packet, PairEnd, PortBody, Process, Request, SIGNAL, SIGNALED, SIGNAL_PEER, Some}
use Rattle.zl_code.proofs.Common.{Status, USER_SIGNALS, Wait, World, [], and_parts, answer_if, ap, bits, body_in, body_of, by_look_up, by_policy, cases_Bool}
use Rattle.zl_code.proofs.Common.{condition_of, default_rights_of, ends, entry_at, eqb-true, examined, false, false≢true, first_some, get, granted}
use Rattle.zl_code.proofs.Common.{handle_operands, handles_in, has_key, has_room, if◌then◌else◌, inl, inr, is_by_handle, is_kind_if_there, is_some, kind_of}
use Rattle.zl_code.proofs.Common.{listed, may_change, narrowed_within, none-some, not, not-false, object_at, operand, or_parts, peer_at, peer_in, raisable}
use Rattle.zl_code.proofs.Common.{refl, refusal, replace, rights_of, row_of, same_Some, settable_of, signal, signal_peer, slice_index_or, subst, sym, takes}
use Rattle.zl_code.proofs.Common.{true, true≢false, within, ℕ, ⊤, ◌&&◌, ◌+◌, ◌==◌, ◌||◌, ◌∙◌, ◌∷◌, ◌≡◌}
use Rattle.zl_code.proofs.Changes.{AreUnmade}
use Rattle.zl_rights.specs.declared.kind.Kind.TheVariants as kind
use Rattle.zl_rights.specs.declared.status.Status.TheVariants as status
use Rattle.zl_code.proofs.Entering.{entry_is_fine}

-- ---- what holds where a call isn't refused

-- the first of these answers isn't given, nor is any behind it
pub first_is_none : {X : Type 0} (o : Option X) (os : List (Option X)) → first_some (o ∷ os) ≡ None → o ≡ None
first_is_none None os h = refl
first_is_none (Some x) os h = h

pub first_none : (o : Option Outcome) (os : List (Option Outcome)) → first_some (o ∷ os) ≡ None → first_some os ≡ None
first_none None os h = h
first_none (Some o) os h = cc

-- none of the answers is given
abbrev pub AreNone : List (Option Outcome) → Type 0
AreNone [] = ⊤
AreNone (o ∷ os) = (o ≡ None) × AreNone os

pub are_none : (os : List (Option Outcome)) → first_some os ≡ None → AreNone os
are_none [] h = tt
are_none (o ∷ os) h = (first_is_none o os h, are_none os (first_none o os h))

pub listed_none : (lib : Library) (w : World) (p : ℕ) (r : Request) → refusal lib w p r ≡ None → AreNone (listed lib w p r)
unfolding refusal
listed_none lib w p r h = are_none (listed lib w p r) (first_none (by_policy w p (condition_of r)) _ (first_none (examined w p [] (handle_operands r)) _ h))

pub test_fails : (b : Bool) (s : Status) → answer_if b s ≡ None → b ≡ false
test_fails true s h = cc
test_fails false s h = refl

pub test_passes : (b : Bool) (s : Status) → answer_if (not b) s ≡ None → b ≡ true
test_passes b s h = not-false b (test_fails (not b) s h)

-- there is room for n handles, where its want or b would refuse the call
pub room_or : (w : World) (p n : ℕ) (b : Bool) → answer_if (not (has_room w p n) || b) status.NoResources ≡ None → has_room w p n ≡ true
room_or w p n b h = not-false _ (or_parts (not (has_room w p n)) b (test_fails _ status.NoResources h)).0

-- the same where anything but room and b would
pub room_and : (w : World) (p n : ℕ) (b : Bool) → answer_if (not (has_room w p n && b)) status.NoResources ≡ None → has_room w p n ≡ true
room_and w p n b h = (and_parts (has_room w p n) b (not-false _ (test_fails _ status.NoResources h))).0

-- ---- what a look-up granted

-- there is a handle, of a kind that is taken, and it has the rights
abbrev pub IsGranted : List Kind → ℕ → Option Entry → Type 0
IsGranted kinds needed o = (x : Entry) × (o ≡ Some x) × IsTrue (takes kinds x.kind) × IsTrue (within needed (bits x.rights))

pub is_granted : (w : World) (p : ℕ) (kinds : List Kind) (needed : ℕ) (o : Option Entry) → by_look_up w p (granted o kinds needed) ≡ None
    → IsGranted kinds needed o
is_granted w p kinds needed None fails = absurd (none-some _ (sym fails))
is_granted w p kinds needed (Some x) fits = by_tests (takes kinds x.kind) (within needed (bits x.rights)) refl refl fits
  where
    by_tests : (kind right : Bool) → takes kinds x.kind ≡ kind → within needed (bits x.rights) ≡ right
        → by_look_up w p (if kind then (if right then Ok x else Err status.AccessDenied) else Err status.WrongType) ≡ None → IsGranted kinds needed (Some x)
    by_tests true true kind right h = (x, refl, kind, right)
    by_tests true false kind right h = absurd (none-some _ (sym h))
    by_tests false right kind is h = absurd (none-some _ (sym h))

-- the handle names an object of a kind that is taken
pub named_object : (w : World) (p h : ℕ) (kinds : List Kind) (needed : ℕ) → IsGranted kinds needed (entry_at w p h) → HandlesAreNamed w
    → (o : Object) × (get w.objects (object_at w p h) ≡ Some o) × IsTrue (takes kinds (kind_of o.body))
named_object w p h kinds needed (e, at, fits, right) named =
    let (o, there, same) = (entry_is_fine w p h e at).names named in
    (o, rw at there, subst (λ k. IsTrue (takes kinds k)) same fits)

-- the handle that is replaced is live
pub is_live : (w : World) (p h rights : ℕ) (q : Process) (lib : Library) → get w.processes p ≡ Some q → refusal lib w p (replace h rights) ≡ None
    → has_key q.handles h ≡ true
unfolding row_of refusal handle_operands examined operand
is_live w p h rights q lib there passes =
    let found = is_granted w p [] 0 (entry_at w p h) (first_is_none _ _ (first_is_none _ _ passes)) in
    ap is_some (sym (ap (λ o. get (handles_in o) h) there) ∙ found.1)

-- ---- signals

-- the handle that a signal is sent by has the right to it
pub has_right : (w : World) (p h clear set : ℕ) (lib : Library) → refusal lib w p (signal h clear set) ≡ None → IsGranted [] SIGNAL (entry_at w p h)
unfolding row_of refusal handle_operands examined operand
has_right w p h clear set lib passes = is_granted w p [] SIGNAL (entry_at w p h) (first_is_none _ _ (first_is_none _ _ passes))

-- no handle to a port has it
pub no_port : (w : World) (p h : ℕ) (e : Entry) (o : Object) (packets : List Packet) → entry_at w p h ≡ Some e → IsTrue (within SIGNAL (bits e.rights))
    → get w.objects e.koid ≡ Some o → o.body ≡ PortBody packets → HandlesAreSound w → HandlesAreNamed w → ⊥
no_port w p h e o packets at right there port sound named =
    let fine = entry_is_fine w p h e at in
    let (x, is, same) = fine.names named in
    let is_port : e.kind ≡ kind.Port = same ∙ ap kind_of (ap (λ (y : Object). y.body) (same_Some x o (sym is ∙ there)) ∙ port) in
    let inside : IsTrue (within SIGNAL (default_rights_of e.kind)) =
    narrowed_within e.rights SIGNAL (rights_of SIGNAL) (default_rights_of e.kind) (rw right refl) (fine.rights sound) in
    true≢false (sym (rw is_port at inside))

pub may_signal : (w : World) (p h clear set : ℕ) (lib : Library) → refusal lib w p (signal h clear set) ≡ None → (o : Object)
    → get w.objects (object_at w p h) ≡ Some o → IsSound w → IsTrue (within set (raisable o.body))
unfolding listed
may_signal w p h clear set lib passes o there sound =
    by_body o.body refl (and_parts _ _ (rw there at (not-false _ (test_fails _ status.InvalidArgs (listed_none lib w p (signal h clear set) passes).0)))).1
  where
    by_body : (b : Body) → o.body ≡ b → IsTrue (within set (settable_of (Some b))) → IsTrue (within set (raisable b))
    by_body (PortBody packets) is h2 =
        let (e, at, kind, right) = has_right w p h clear set lib passes in
        absurd (no_port w p h e o packets at right (rw at at there) is sound.handles sound.named)
    by_body _ is h2 = h2

-- the handle by which the peer is signaled names an end
pub has_end : (w : World) (p h clear set : ℕ) (lib : Library) → refusal lib w p (signal_peer h clear set) ≡ None → IsGranted ends SIGNAL_PEER (entry_at w p h)
unfolding row_of refusal handle_operands examined operand
has_end w p h clear set lib passes = is_granted w p ends SIGNAL_PEER (entry_at w p h) (first_is_none _ _ (first_is_none _ _ passes))

pub may_signal_peer : (w : World) (p h clear set : ℕ) (lib : Library) → refusal lib w p (signal_peer h clear set) ≡ None → (o : Object)
    → get w.objects (peer_at w p h) ≡ Some o → IsSound w → IsTrue (within set (raisable o.body))
unfolding listed
may_signal_peer w p h clear set lib passes o there sound =
    let (x, at, fits) = named_object w p h ends SIGNAL_PEER (has_end w p h clear set lib passes) sound.named in
    by_body x x.body at refl fits
  where
    at_channel : (b : Body) → IsTrue (is_kind_if_there kind.Channel (Some b)) → IsTrue (within set USER_SIGNALS) → IsTrue (within set (raisable b))
    at_channel (ChannelEnd peer queue) is h2 = h2
    at_channel _ is h2 = absurd (false≢true is)

    at_pair : (b : Body) → IsTrue (is_kind_if_there kind.Eventpair (Some b)) → IsTrue (within set (SIGNALED + USER_SIGNALS)) → IsTrue (within set (raisable b))
    at_pair (PairEnd peer) is h2 = h2
    at_pair _ is h2 = absurd (false≢true is)

    masked : (b : Body) → body_of w (object_at w p h) ≡ Some b → IsTrue (within set (settable_of (Some b)))
    masked b body =
        (and_parts (within clear (settable_of (Some b))) (within set (settable_of (Some b)))
        (rw body at (not-false (may_change (body_of w (object_at w p h)) clear set)
        (test_fails (not (may_change (body_of w (object_at w p h)) clear set)) status.InvalidArgs (listed_none lib w p (signal_peer h clear set) passes).0)))).1

    has : (x : Object) (b : Body) → get w.objects (object_at w p h) ≡ Some x → x.body ≡ b → HasPeer w.objects w.next_koid b
    has x b at is = subst (HasPeer w.objects w.next_koid) is (sound.peers (object_at w p h) x at)

    found : (b : Body) → body_of w (object_at w p h) ≡ Some b → get w.objects (peer_in (Some b)) ≡ Some o
    found b body = ap (get w.objects) (sym (ap peer_in body)) ∙ there

    by_body : (x : Object) (b : Body) → get w.objects (object_at w p h) ≡ Some x → x.body ≡ b → IsTrue (takes ends (kind_of b))
        → IsTrue (within set (raisable o.body))
    by_body x (ChannelEnd peer queue) at is fits =
        let body : body_of w (object_at w p h) ≡ Some (ChannelEnd peer queue) = ap body_in at ∙ ap Some is in
        at_channel o.body (rw (found (ChannelEnd peer queue) body) at (has x (ChannelEnd peer queue) at is).1) (masked (ChannelEnd peer queue) body)
    by_body x (PairEnd peer) at is fits =
        let body : body_of w (object_at w p h) ≡ Some (PairEnd peer) = ap body_in at ∙ ap Some is in
        at_pair o.body (rw (found (PairEnd peer) body) at (has x (PairEnd peer) at is).1) (masked (PairEnd peer) body)
    by_body x _ at is fits = absurd (false≢true fits)

-- by a value that no handle of p has no wait was made
pub unmade : (w : World) (p : ℕ) (q : Process) → get w.processes p ≡ Some q → IsSound w → (v : ℕ) → has_key q.handles v ≡ false → AreUnmade w.waits p v
unmade w p q there s v free i d inside = by_wait (slice_index_or w.waits i d) (s.waits i d inside)
  where
    by_wait : (x : Wait) → IsSoundWait w x → is_by_handle p v x ≡ false
    by_wait x t = elim (cases_Bool (is_by_handle p v x)) as (λ _. is_by_handle p v x ≡ false) [
      | inl made ↦
          let both = and_parts (x.pid == p) (x.value == v) made in
          let at : get (handles_in (get w.processes p)) v ≡ Some t.handle.0 = rw (eqb-true x.pid p both.0, eqb-true x.value v both.1) at t.handle.1 in
          absurd (false≢true (sym free ∙ ap is_some (rw there at at)))
      | inr other ↦ other
    ]
