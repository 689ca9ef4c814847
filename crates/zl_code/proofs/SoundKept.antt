-- Every world of a run from a boot world is sound.
use Rattle.zl_code.proofs.Common.{Action, All, Blocked, Body, Bool, ChannelEnd, Created, Entry, Gone, HandlesAreNamed, HandlesAreSound, HasGivenKoids}
use Rattle.zl_code.proofs.Common.{HasItsObject, HasPeer, HasPeerOf, IsBelow, IsLargestHeld, IsSound, IsSoundTable, IsTrue, JobBody, Kind, Koids, LivesAt, Map}
use Rattle.zl_code.proofs.Common.{Message, None, Object, Option, PairEnd, Process, ProcessBody, Ready, Setting, Settles, Some, StandsBelow, State, World, []}
use Rattle.zl_code.proofs.Common.{and_from, and_parts, ap, arith, bit_and, bit_xor, body_after_read, body_in, body_killed, body_with_message, body_with_policy}
use Rattle.zl_code.proofs.Common.{cases_Bool, each, eq-eqb, eqb-true, false, false≢true, filter, get, get-each, get-put, get-where_key-in, get-where_key-out}
use Rattle.zl_code.proofs.Common.{has_key, has_living_child, if◌then◌else◌, in_queue, in_table, inl, inr, is_blocked, is_held, is_job_below, is_kind_if_there}
use Rattle.zl_code.proofs.Common.{is_process, is_some, is_value, length, lives, max, may_get, may_get_after, min, nat_lt, none-some, not, option_map, or_left}
use Rattle.zl_code.proofs.Common.{or_right, process_settled, put, raisable, refl, runs, same_Some, state_passes, state_without, subst, suc, sym, true}
use Rattle.zl_code.proofs.Common.{true≢false, where_key, within, without, without_others, ℕ, ◌<◌, ◌==◌, ◌||◌, ◌∙◌, ◌≡◌, ◌≤◌}
use Rattle.std.specs.Int.{bit_at}
use Rattle.std.proofs.lemmas.Nat.Bits.{same_from_bits, bit_at_and, bit_at_or}
use Rattle.std.proofs.lemmas.Nat.{and_le_r}
use Rattle.zl_rights.specs.Numbers.{changed as signals_changed}
use Rattle.zl_rights.specs.declared.kind.Kind.TheVariants as kind
use Rattle.zl_code.proofs.MapKept.{each_where_key, EachChanged, same, changed, new, changed_each, each_changed}
use Rattle.zl_code.proofs.Changes.{IsWait, MayEnter, ProcessChange, handle_enters, handle_leaves, computes, ends, wakes, starts, blocks, ObjectChange}
use Rattle.zl_code.proofs.Changes.{signals_change, packets_change, message_comes, message_goes, policy_changes, dies, still, awake, asleep, Change}
use Rattle.zl_code.proofs.Entering.{length_put}
use Rattle.zl_code.proofs.HandlesKept.{sound_change, sound_settled}
use Rattle.zl_code.proofs.NamesKept.{named_change, named_settled, held_is_kept}
use Rattle.zl_code.proofs.NotReused.{given_change, given_settled, same_kind}
use Rattle.zl_code.proofs.WaitsKept.{AreLive, are_waits, sound_waits, waits_kept, waits_settled}
use Rattle.zl_code.proofs.TreeKept.{changed_stands, has_body, lives_before, object_stays, stands_on}
use Rattle.zl_rights.proofs.Settling.{filter-length}
use Rattle.zl_rights.proofs.MapTests.{any_at}

-- ---- a table

no_key : (v : ℕ) → has_key {X = Entry} [] v ≡ false
unfolding get
no_key v = refl

empty_table : (running : Bool) → IsSoundTable running [] None
unfolding get
empty_table running = record { few = omega arith; values = λ v h. absurd (true≢false (sym h)); free = λ v e. absurd (none-some v e); idle = λ h. (refl, refl) }

-- a value that a handle may get is one, and none has it
pub value_given : (x : Process) (v : ℕ) → IsSoundTable (runs x.state) x.handles x.last → IsTrue (may_get x v)
    → IsTrue (is_value v) × (has_key x.handles v ≡ false)
value_given x v t = by_last x.last refl
  where
    by_last : (last : Option ℕ) → x.last ≡ last → IsTrue (may_get_after last x v) → IsTrue (is_value v) × (has_key x.handles v ≡ false)
    by_last (Some l) is gets = rw (eqb-true v l gets) (t.free l is)
    by_last None is gets =
        let above = and_parts (nat_lt 0 v) _ gets in
        let below = and_parts (nat_lt v 65536) _ above.1 in (
          and_from _ _ above.0 below.0,
          elim (cases_Bool (has_key x.handles v))
              as (λ _. has_key x.handles v ≡ false) [ inl there ↦ absurd (false≢true (rw there at below.1)) | inr free ↦ free ],
        )

handle_in : (start after : World) (p : ℕ) (x : Process) (v : ℕ) (e : Entry) → IsSound start → MayEnter start after p x v e
    → IsSoundTable (runs x.state) x.handles x.last → IsSoundTable (runs x.state) (put x.handles v e) None
handle_in start after p x v e s may t = record {
  few = let longer : length (put x.handles v e) ≤ suc (length x.handles) = length_put x.handles v e in omega (arith, may.room s);
  values = λ j h. elim (cases_Bool (v == j)) as (λ _. IsTrue (is_value j)) [
    | inl here ↦ rw (← eqb-true v j here) (value_given x v t (may.value s)).0
    | inr other ↦ t.values j (rw (get-put x.handles v e j, other) at h)
  ];
  free = λ j h. absurd (none-some j h);
  idle = λ h. absurd (true≢false (sym (may.running s) ∙ h));
}

handle_out : (x : Process) (v : ℕ) → has_key x.handles v ≡ true → IsSoundTable (runs x.state) x.handles x.last
    → IsSoundTable (runs x.state) (without x.handles v) (Some v)
unfolding without where_key
handle_out x v there t = record {
  few = let shorter : length (without x.handles v) ≤ length x.handles = filter-length _ x.handles in omega (arith, t.few);
  values = λ j h. elim (cases_Bool (j == v)) as (λ _. IsTrue (is_value j)) [
    | inl here ↦ absurd (true≢false (sym h ∙ ap is_some (get-where_key-out x.handles (λ i. not (i == v)) j (ap not here))))
    | inr other ↦ t.values j (sym (ap is_some (get-where_key-in x.handles (λ i. not (i == v)) j (ap not other))) ∙ h)
  ];
  free = λ j e. rw (← same_Some v j e) (t.values v there, ap is_some (get-where_key-out x.handles (λ i. not (i == v)) v (ap not (eq-eqb v v refl))));
  idle = λ h. absurd (true≢false (sym (rw (t.idle h).0 at there) ∙ no_key v));
}

by_process : (start after : World) (p : ℕ) (x y : Process) → IsSound start → ProcessChange start after p x y → IsSoundTable (runs x.state) x.handles x.last
    → IsSoundTable (runs y.state) y.handles y.last
by_process start after p x y s (handle_enters v e is may) t = rw is (handle_in start after p x v e s may t)
by_process start after p x y s (handle_leaves v is there) t = rw is (handle_out x v there t)
by_process start after p x y s (computes c is) t = rw is t
by_process start after p x y s (ends code is) t = rw is (empty_table false)
by_process start after p x y s (wakes c is running) t = rw is (rw running at t)
by_process start after p x y s (starts c is created) t = rw (is, (t.idle (ap runs created)).0, (t.idle (ap runs created)).1) (empty_table true)
by_process start after p x y s (blocks awaited ds is running) t = rw is (rw running at t)

-- ---- raised signals

inside : (w r s x : ℕ) → min w r ≡ r → min w s ≡ s → min w (max (min r x) s) ≡ max (min r x) s
inside w r s x a b = omega arith

within_changed : (raised clear set whole : ℕ) → IsTrue (within raised whole) → IsTrue (within set whole)
    → IsTrue (within (signals_changed raised clear set) whole)
within_changed raised clear set whole old fresh = eq-eqb _ _ (same_from_bits _ _ by_bit)
  where
    bit_of : (n : ℕ) → IsTrue (within n whole) → (i : ℕ) → min (bit_at whole i) (bit_at n i) ≡ bit_at n i
    bit_of n h i = sym (bit_at_and whole n i) ∙ ap (λ (m : ℕ). bit_at m i) (eqb-true (bit_and whole n) n h)

    bits : (i : ℕ) → bit_at (signals_changed raised clear set) i ≡ max (min (bit_at raised i) (bit_at (bit_xor clear 0xffff_ffff) i)) (bit_at set i)
    bits i =
        bit_at_or (bit_and raised (bit_xor clear 0xffff_ffff)) set i ∙ ap (λ (m : ℕ). max m (bit_at set i)) (bit_at_and raised (bit_xor clear 0xffff_ffff) i)

    by_bit : (i : ℕ) → bit_at (bit_and whole (signals_changed raised clear set)) i ≡ bit_at (signals_changed raised clear set) i
    by_bit i =
        bit_at_and whole (signals_changed raised clear set) i ∙ (ap (λ (m : ℕ). min (bit_at whole i) m) (bits i)
        ∙ (inside (bit_at whole i) (bit_at raised i) (bit_at set i) (bit_at (bit_xor clear 0xffff_ffff) i) (bit_of raised old i) (bit_of set fresh i)
        ∙ sym (bits i)))

sent_raisable : (m : Message) (b : Body) → raisable (body_with_message m b) ≡ raisable b
sent_raisable m (ChannelEnd peer queue) = refl
sent_raisable m _ = refl

read_raisable : (b : Body) → raisable (body_after_read b) ≡ raisable b
read_raisable (ChannelEnd peer queue) = refl
read_raisable _ = refl

set_raisable : (s : Option Setting) (b : Body) → raisable (body_with_policy s b) ≡ raisable b
set_raisable s (JobBody parent depth policy killed) = refl
set_raisable s _ = refl

killed_raisable : (b : Body) → raisable (body_killed b) ≡ raisable b
killed_raisable (JobBody parent depth policy killed) = refl
killed_raisable _ = refl

by_object : (start after : World) (k : ℕ) (x y : Object) → IsSound start → ObjectChange start after k x y → IsTrue (within x.raised (raisable x.body))
    → IsTrue (within y.raised (raisable y.body))
by_object start after k x y s (signals_change clear set is may) t = rw is (within_changed x.raised clear set (raisable x.body) t (may s))
by_object start after k x y s (packets_change old packets port is) t = rw is (rw port at t)
by_object start after k x y s (message_comes m is may) t = rw (is, sent_raisable m x.body) t
by_object start after k x y s (message_goes is) t = rw (is, read_raisable x.body) t
by_object start after k x y s (policy_changes setting is may) t = rw (is, set_raisable setting x.body) t
by_object start after k x y s (dies is may) t = rw (is, killed_raisable x.body) t

pub none_raised : (whole : ℕ) → IsTrue (within 0 whole)
none_raised whole = eq-eqb (bit_and whole 0) 0 (omega (arith, and_le_r whole 0))

-- ---- the peers of ends

-- a change of an end leaves it its peer
peer_kept : (start after : World) (m : Map Object) (n k : ℕ) (x y : Object) → ObjectChange start after k x y → HasPeer m n x.body → HasPeer m n y.body
peer_kept start after m n k x y (signals_change clear set is may) t = rw is t
peer_kept start after m n k x y (packets_change old packets port is) t = rw is tt
peer_kept start after m n k x y (message_comes message is may) t = rw is (sent x.body t)
  where
    sent : (b : Body) → HasPeer m n b → HasPeer m n (body_with_message message b)
    sent (ChannelEnd peer queue) h = h
    sent _ h = h
peer_kept start after m n k x y (policy_changes s is may) t = rw is (set x.body t)
  where
    set : (b : Body) → HasPeer m n b → HasPeer m n (body_with_policy s b)
    set (JobBody parent depth policy killed) h = tt
    set _ h = h
peer_kept start after m n k x y (dies is may) t = rw is (died x.body t)
  where
    died : (b : Body) → HasPeer m n b → HasPeer m n (body_killed b)
    died (JobBody parent depth policy killed) h = tt
    died _ h = h
peer_kept start after m n k x y (message_goes is) t = rw is (read x.body t)
  where
    read : (b : Body) → HasPeer m n b → HasPeer m n (body_after_read b)
    read (ChannelEnd peer queue) h = h
    read _ h = h

-- no change takes a peer away, or puts anything else at its koid
peer_stays : (start u v : World) → Change start u v → (b : Body) → HasPeer u.objects u.next_koid b → HasPeer v.objects v.next_koid b
peer_stays start u v c b has = by_body b has
  where
    stays : (k : Kind) (peer : ℕ) → HasPeerOf k u.objects u.next_koid peer → HasPeerOf k v.objects v.next_koid peer
    stays k peer (below, is_end) = (
      omega (arith, below, c.next_koid),
      elim (c.objects peer) as (λ _. IsTrue (is_kind_if_there k (body_in (get v.objects peer)))) [
        | same e ↦ rw e is_end
        | changed x y was is r ↦ rw (is, same_kind start v peer x y r) (rw was at is_end)
        | new y is n ↦ absurd (omega (arith, n.next, below))
      ],
    )

    by_body : (b : Body) → HasPeer u.objects u.next_koid b → HasPeer v.objects v.next_koid b
    by_body (ChannelEnd peer queue) has = stays kind.Channel peer has
    by_body (PairEnd peer) has = stays kind.Eventpair peer has
    by_body _ has = tt

-- nor does settling
peer_settles : (m : Map Object) (n : ℕ) (K : Koids) (b : Body) → HasPeer m n b → HasPeer (where_key K m) n b
peer_settles m n K b has = by_body b has
  where
    settles : (k : Kind) (peer : ℕ) → HasPeerOf k m n peer → HasPeerOf k (where_key K m) n peer
    settles k peer (below, is_end) = (
      below,
      elim (cases_Bool (K peer)) as (λ _. IsTrue (is_kind_if_there k (body_in (get (where_key K m) peer)))) [
        | inl kept ↦ rw (get-where_key-in m K peer kept) is_end
        | inr gone ↦ rw (get-where_key-out m K peer gone) refl
      ],
    )

    by_body : (b : Body) → HasPeer m n b → HasPeer (where_key K m) n b
    by_body (ChannelEnd peer queue) has = settles kind.Channel peer has
    by_body (PairEnd peer) has = settles kind.Eventpair peer has
    by_body _ has = tt

-- ---- a change

-- What is true within a step too: all that is true of a sound world, but that waits may have lost their handles.
pub record IsNearlySound (w : World) : Type 0 where
  pub handles : HandlesAreSound w
  pub named : HandlesAreNamed w
  pub objects : HasGivenKoids w
  pub processes : (p : ℕ) → IsTrue (has_key w.processes p) → p < w.next_koid
  pub tables : (p : ℕ) (q : Process) → get w.processes p ≡ Some q → IsSoundTable (runs q.state) q.handles q.last
  pub living : (p : ℕ) (q : Process) → get w.processes p ≡ Some q → IsTrue (lives q.state) → HasItsObject w.objects p
  pub tree : (k : ℕ) (o : Object) → get w.objects k ≡ Some o → StandsBelow w.objects k o.body
  pub blocked : (p : ℕ) → length (filter (λ q. q == p) w.blocked) ≡ (if is_process w is_blocked p then 1 else 0)
  pub peers : (k : ℕ) (o : Object) → get w.objects k ≡ Some o → HasPeer w.objects w.next_koid o.body
  pub raised : (k : ℕ) (o : Object) → get w.objects k ≡ Some o → IsTrue (within o.raised (raisable o.body))
  pub waits : All (IsWait w) w.waits

pub nearly_sound : (w : World) → IsSound w → IsNearlySound w
nearly_sound w s = record {
  handles = s.handles;
  named = s.named;
  objects = s.objects;
  processes = s.processes;
  tables = s.tables;
  living = s.living;
  tree = s.tree;
  blocked = s.blocked;
  peers = s.peers;
  raised = s.raised;
  waits = are_waits w s.waits;
}

pub wholly_sound : (w : World) → AreLive w → IsNearlySound w → IsSound w
wholly_sound w live s = record {
  handles = s.handles;
  named = s.named;
  objects = s.objects;
  processes = s.processes;
  tables = s.tables;
  living = s.living;
  tree = s.tree;
  blocked = s.blocked;
  peers = s.peers;
  raised = s.raised;
  waits = sound_waits w live s.waits;
}

pub kept_by_change : (start u v : World) → IsSound start → Change start u v → IsNearlySound u → IsNearlySound v
kept_by_change start u v before c s = record {
  handles = sound_change start u v before.handles c s.handles;
  named = named_change start u v before.named s.objects c s.named;
  objects = given_change start u v c s.objects;
  processes = λ p h. elim (c.processes p) as (λ _. p < v.next_koid) [
    | same e ↦ let below : p < u.next_koid = s.processes p (rw e at h) in omega (arith, c.next_koid)
    | changed x y was is r ↦ let below : p < u.next_koid = s.processes p (ap is_some was) in omega (arith, c.next_koid)
    | new y is n ↦ n.given
  ];
  tables = each_changed _ _ (λ k q. IsSoundTable (runs q.state) q.handles q.last) u.processes v.processes c.processes (λ k x y. by_process start v k x y before)
      (λ k y n. rw (n.empty, n.nothing_last) (empty_table (runs y.state))) s.tables;
  living = λ p q there alive. elim (c.processes p) as (λ _. HasItsObject v.objects p) [
    | same e ↦ object_stays start u v before s.objects c p q there alive (s.living p q (sym e ∙ there) alive)
    | changed x y was is r ↦
        object_stays start u v before s.objects c p q there alive (s.living p x was (lives_before start v p x y r (rw (same_Some y q (sym is ∙ there)) alive)))
    | new y is n ↦ n.object before
  ];
  tree = λ k o at. elim (c.objects k) as (λ _. StandsBelow v.objects k o.body) [
    | same e ↦ stands_on start u v before s.objects c k o at o.body refl (s.tree k o (sym e ∙ at))
    | changed x y was is r ↦ stands_on start u v before s.objects c k o at o.body refl
        (subst (λ (z : Object). StandsBelow u.objects k z.body) (same_Some y o (sym is ∙ at)) (changed_stands start v u.objects k x y r (s.tree k x was)))
    | new y is n ↦ subst (λ (z : Object). StandsBelow v.objects k z.body) (same_Some y o (sym is ∙ at)) (n.tree before)
  ];
  blocked = λ p. elim (c.blocked before p) as (λ _. length (filter (λ q. q == p) v.blocked) ≡ (if is_process v is_blocked p then 1 else 0)) [
    | still count state ↦ count ∙ (s.blocked p ∙ ap (λ (b : Bool). if b then 1 else 0) (sym state))
    | awake count state ↦ count ∙ rw state refl
    | asleep count state ↦ count ∙ rw state refl
  ];
  peers = each_changed _ _ (λ k o. HasPeer v.objects v.next_koid o.body) u.objects v.objects c.objects (λ k. peer_kept start v v.objects v.next_koid k)
      (λ k y n. n.peer) (λ k o there. peer_stays start u v c o.body (s.peers k o there));
  waits = waits_kept start u v before s.objects c s.waits;
  raised = each_changed _ _ (λ k o. IsTrue (within o.raised (raisable o.body))) u.objects v.objects c.objects (λ k x y. by_object start v k x y before)
      (λ k y n. rw n.unraised (none_raised (raisable y.body))) s.raised;
}

-- ---- settling

settled_state : (b : Bool) (s : State) → (runs (state_without b s) ≡ runs s) × (is_blocked (state_without b s) ≡ is_blocked s)
settled_state true Created = (refl, refl)
settled_state false Created = (refl, refl)
settled_state b _ = (refl, refl)

-- what lives after settling did so before, and its object is kept
module _ (u : World) (K : Koids) (largest : IsLargestHeld u K) (p : ℕ) (x : Process) (there : get u.processes p ≡ Some x) where
  lives_kept : (IsTrue (lives x.state) → IsTrue (has_key u.objects p)) → IsTrue (lives (state_without (K p) x.state)) → IsTrue (lives x.state) × IsTrue (K p)
  unfolding is_held is_process
  lives_kept here = by_state x.state refl
    where
      held : (s : State) → x.state ≡ s → IsTrue (lives s) → IsTrue (runs s) → IsTrue (K p)
      held s is living running =
          let runs_there : IsTrue (is_process u runs p) = rw (there, is) running in
          held_is_kept u K largest p
          (and_from (has_key u.objects p) _ (here (rw is living)) (or_left _ (has_living_child u K p) (or_right (in_table u p || in_queue u K p) _ runs_there)))

      if_kept : (b : Bool) → IsTrue (lives (if b then Created else Gone)) → IsTrue b
      if_kept true h = refl
      if_kept false h = h

      by_state : (s : State) → x.state ≡ s → IsTrue (lives (state_without (K p) s)) → IsTrue (lives s) × IsTrue (K p)
      by_state Created is h = (refl, if_kept (K p) h)
      by_state Ready is h = (refl, held Ready is refl refl)
      by_state (Blocked a b) is h = (refl, held (Blocked a b) is refl refl)
      by_state _ is h = absurd (false≢true h)

  -- so is the job of a kept process that lives
  job_kept : (job : ℕ) (o : Object) → get u.objects p ≡ Some o → o.body ≡ ProcessBody job → IsTrue (has_key u.objects job) → IsTrue (lives x.state)
      → IsTrue (K p) → IsTrue (K job)
  unfolding is_held has_living_child is_process
  job_kept job o at is job_there alive kept_p =
      held_is_kept u K largest job (and_from _ _ job_there (or_right _ _ (any_at _ u.objects p o at
      (and_from (K p) _ kept_p (rw (is, there, eq-eqb job job refl) alive)))))

-- a job that lives is there still, at its depth
lives_settled : (m : Map Object) (K : Koids) (k depth : ℕ) → IsTrue (K k) → LivesAt m k depth → LivesAt (where_key K m) k depth
lives_settled m K k depth kept l = record { parent = l.parent; policy = l.policy; there = ap body_in (get-where_key-in m K k kept) ∙ l.there }

object_kept : (u : World) (K : Koids) → IsLargestHeld u K → IsNearlySound u → (p : ℕ) (x : Process) → get u.processes p ≡ Some x
    → IsTrue (lives (state_without (K p) x.state)) → HasItsObject (where_key K u.objects) p
object_kept u K largest s p x there alive =
    let both = lives_kept u K largest p x there (λ h. let has = s.living p x there h in has_body (get u.objects p) (ProcessBody has.job) has.there) alive in
    let has = s.living p x there both.0 in
    let kept_job : IsTrue (K has.job) = by_object has (get u.objects p) refl has.there both in
    record {
      job = has.job;
      there = ap body_in (get-where_key-in u.objects K p both.1) ∙ has.there;
      depth = has.depth;
      lives = lives_settled u.objects K has.job has.depth kept_job has.lives;
    }
  where
    by_object : (has : HasItsObject u.objects p) (o : Option Object) → get u.objects p ≡ o → body_in o ≡ Some (ProcessBody has.job)
        → IsTrue (lives x.state) × IsTrue (K p) → IsTrue (K has.job)
    by_object has None at is both = absurd (none-some _ is)
    by_object has (Some o) at is both =
        job_kept u K largest p x there has.job o at (same_Some o.body (ProcessBody has.job) is)
        (has_body (get u.objects has.job) _ has.lives.there) both.0 both.1

-- the job above a living one that is kept is kept
parent_kept : (u : World) (K : Koids) → IsLargestHeld u K → (k parent depth above : ℕ) (policy : Map Action) (o : Object) → get u.objects k ≡ Some o
    → o.body ≡ JobBody parent depth policy false → IsTrue (K k) → LivesAt u.objects parent above → IsTrue (K parent)
unfolding is_held has_living_child
parent_kept u K largest k parent depth above policy o at is kept l =
    held_is_kept u K largest parent (and_from _ _ (has_body (get u.objects parent) _ l.there) (or_right _ _ (any_at _ u.objects k o at
    (and_from (K k) _ kept (or_left (is_job_below parent o.body) _ (below o.body is))))))
  where
    below : (b : Body) → b ≡ JobBody parent depth policy false → is_job_below parent b ≡ true
    below b here = rw (here, eq-eqb parent parent refl) refl

stands_settled : (u : World) (K : Koids) → IsLargestHeld u K → (k : ℕ) (o : Object) → get u.objects k ≡ Some o → IsTrue (K k) → (b : Body) → o.body ≡ b
    → StandsBelow u.objects k b → StandsBelow (where_key K u.objects) k b
stands_settled u K largest k o at kept (JobBody parent depth policy true) is h =
    record { later = h.later; shallow = h.shallow; policy_known = h.policy_known; above = λ e. absurd (true≢false e) }
stands_settled u K largest k o at kept (JobBody parent depth policy false) is h = record {
  later = h.later;
  shallow = h.shallow;
  policy_known = h.policy_known;
  above = λ e. elim (h.above refl) as (λ _. IsBelow (where_key K u.objects) parent depth) [
    | inl root ↦ inl root
    | inr below ↦
        inr (below.0, below.1, lives_settled u.objects K parent below.0 (parent_kept u K largest k parent depth below.0 policy o at is kept below.2) below.2)
  ];
}
stands_settled u K largest k o at kept (ProcessBody job) is h = h
stands_settled u K largest k o at kept _ is h = tt

pub kept_by_settling : (u v : World) → Settles u v → IsNearlySound u → IsNearlySound v
unfolding without_others is_process
kept_by_settling u v (K, largest, e) s = rw e (record {
  handles = sound_settled u (without_others u K) (K, largest, refl) s.handles;
  named = named_settled u (without_others u K) (K, largest, refl) s.named;
  objects = given_settled u (without_others u K) (K, largest, refl) s.objects;
  processes = λ p h. s.processes p (some_before p (get u.processes p) (sym (ap is_some (get-each u.processes (process_settled K) p)) ∙ h));
  tables = each_changed _ _ (λ k q. IsSoundTable (runs q.state) q.handles q.last) u.processes _ all (λ k x y is t. rw (is, (settled_state (K k) x.state).0) t)
      (λ k y none. absurd none) s.tables;
  living = λ p q there. by_process p q (get u.processes p) refl (sym (get-each u.processes (process_settled K) p) ∙ there);
  tree = λ k o there. elim (cases_Bool (K k)) as (λ _. StandsBelow (where_key K u.objects) k o.body) [
    | inl kept ↦ stands_settled u K largest k o (sym (get-where_key-in u.objects K k kept) ∙ there) kept o.body refl
        (s.tree k o (sym (get-where_key-in u.objects K k kept) ∙ there))
    | inr gone ↦ absurd (none-some o (sym (get-where_key-out u.objects K k gone) ∙ there))
  ];
  blocked = λ p. s.blocked p ∙ ap (λ (b : Bool). if b then 1 else 0)
      (sym (ap (state_passes is_blocked) (get-each u.processes (process_settled K) p) ∙ blocked_before p (get u.processes p)));
  peers = each_where_key (λ o. HasPeer (where_key K u.objects) u.next_koid o.body) u.objects
      (λ k o there. peer_settles u.objects u.next_koid K o.body (s.peers k o there)) K;
  waits = waits_settled u K s.waits;
  raised = each_where_key (λ o. IsTrue (within o.raised (raisable o.body))) u.objects s.raised K;
})
  where
    all : EachChanged (λ k x y. y ≡ process_settled K k x) (λ k y. ⊥) u.processes (each (process_settled K) u.processes)
    all = changed_each _ _ u.processes (process_settled K) (λ k x. changed x _ refl refl refl)

    some_before : (p : ℕ) (o : Option Process) → IsTrue (is_some (option_map (process_settled K p) o)) → IsTrue (is_some o)
    some_before p None h = h
    some_before p (Some x) h = refl

    blocked_before : (p : ℕ) (o : Option Process) → state_passes is_blocked (option_map (process_settled K p) o) ≡ state_passes is_blocked o
    blocked_before p None = refl
    blocked_before p (Some x) = (settled_state (K p) x.state).1

    by_process : (p : ℕ) (q : Process) (o : Option Process) → get u.processes p ≡ o → option_map (process_settled K p) o ≡ Some q → IsTrue (lives q.state)
        → HasItsObject (where_key K u.objects) p
    by_process p q None was is alive = absurd (none-some q is)
    by_process p q (Some x) was is alive = object_kept u K largest s p x was (rw (← same_Some (process_settled K p x) q is) at alive)
