-- What calls tell their callers fits registers: active signals, sizes of messages, and packets.
use Rattle.zl_verify.proofs.Common.{ANY, AllByRecursion, Body, Bool, ChannelEnd, Entry, EventBody, IsSizedMessage, IsSizedPacket, IsSound, JobBody, Kind, List}
use Rattle.zl_verify.proofs.Common.{Message, NO_JOBS, NO_PROCESSES, None, Object, Option, PEER_CLOSED, PairEnd, PortBody, Process, ProcessBody, QueuesAreSized}
use Rattle.zl_verify.proofs.Common.{READABLE, Some, TERMINATED, WRITABLE, World, [], active, and_le_l, arith, bit_and, bit_or, bits, body_in, body_of, both}
use Rattle.zl_verify.proofs.Common.{default_rights_of, entry_at, false, first_bytes, first_handles, get, handles_in, has_child_job, has_child_process}
use Rattle.zl_verify.proofs.Common.{has_default_rights, has_ended, has_key, if◌then◌else◌, is_empty, is_process, length, list_all, not, object_at, or_lt}
use Rattle.zl_verify.proofs.Common.{packets_at, packets_in, queue_at, queue_in, queue_of, raisable, refl, slice_index, true, within, ℕ, ◌<◌, ◌∷◌, ◌≡◌, ◌≤◌}
use Rattle.zl_rights.specs.Signals.{active_of, implied, signal_if}
use Rattle.zl_abs.proofs.Order.{is_within}
use Rattle.zl_rights.specs.declared.kind.Kind.TheVariants as kind
use Rattle.zl_verify.proofs.Giving.{HasFewRights}

-- ---- signals

pub both_few : (a b : ℕ) → a ≤ 0xffff_ffff → b ≤ 0xffff_ffff → bit_or a b ≤ 0xffff_ffff
both_few a b h k = let e : bit_or a b < 0x1_0000_0000 = or_lt 32 a b (omega arith) (omega arith) in omega arith

pub within_few : (part whole most : ℕ) → within part whole ≡ true → whole ≤ most → part ≤ most
within_few part whole most h le =
    let same : bit_and whole part ≡ part = is_within part whole h in
    let less : bit_and whole part ≤ whole = and_le_l whole part in
    omega arith

raisable_few : (b : Body) → raisable b ≤ 0xffff_ffff
raisable_few (ChannelEnd peer queue) = omega arith
raisable_few _ = omega arith

one_few : (s : ℕ) (b : Bool) → s ≤ 0xffff_ffff → signal_if s b ≤ 0xffff_ffff
one_few s true h = h
one_few s false h = omega arith

implied_few : (w : World) (k : ℕ) (b : Body) → implied w k b ≤ 0xffff_ffff
implied_few w k (ChannelEnd peer queue) =
    both_few (signal_if READABLE (not (is_empty queue))) _ (one_few READABLE (not (is_empty queue)) (omega arith)) (by (has_key w.objects peer))
  where
    by : (b : Bool) → (if b then WRITABLE else PEER_CLOSED) ≤ 0xffff_ffff
    by true = omega arith
    by false = omega arith
implied_few w k EventBody = omega arith
implied_few w k (PairEnd peer) = one_few PEER_CLOSED (not (has_key w.objects peer)) (omega arith)
implied_few w k (PortBody packets) = omega arith
implied_few w k (JobBody parent depth policy killed) =
    both_few (signal_if TERMINATED killed) _ (one_few TERMINATED killed (omega arith))
    (both_few (signal_if NO_JOBS (not (has_child_job w k))) (signal_if NO_PROCESSES (not (has_child_process w k)))
    (one_few NO_JOBS (not (has_child_job w k)) (omega arith)) (one_few NO_PROCESSES (not (has_child_process w k)) (omega arith)))
implied_few w k (ProcessBody job) = one_few TERMINATED (is_process w has_ended k) (omega arith)

-- so many at most are active, where no more are raised
pub active_few : (w : World) (k : ℕ) → ((o : Object) → get w.objects k ≡ Some o → o.raised ≤ 0xffff_ffff) → active w k ≤ 0xffff_ffff
unfolding active
active_few w k raised = by (get w.objects k) refl
  where
    by : (o : Option Object) → get w.objects k ≡ o → active_of w k o ≤ 0xffff_ffff
    by None is = omega arith
    by (Some o) is = both_few o.raised (implied w k o.body) (raised o is) (implied_few w k o.body)

pub signals_few : (w : World) → IsSound w → (k : ℕ) → active w k ≤ 0xffff_ffff
signals_few w sound k = active_few w k (λ o is. within_few o.raised (raisable o.body) 0xffff_ffff (sound.raised k o is) (raisable_few o.body))

-- ---- messages and packets

module _ (w : World) (sized : QueuesAreSized w) where
  queued_sized : (k : ℕ) → AllByRecursion IsSizedMessage (queue_in (body_of w k))
  queued_sized k = by (get w.objects k) refl
    where
      by : (o : Option Object) → get w.objects k ≡ o → AllByRecursion IsSizedMessage (queue_in (body_in o))
      by None is = tt
      by (Some o) is = sized.messages k o is

  packets_sized : (k : ℕ) → AllByRecursion IsSizedPacket (packets_in (body_of w k))
  packets_sized k = by (get w.objects k) refl
    where
      by : (o : Option Object) → get w.objects k ≡ o → AllByRecursion IsSizedPacket (packets_in (body_in o))
      by None is = tt
      by (Some o) is = sized.packets k o is

  pub packets_at_sized : (p h : ℕ) → AllByRecursion IsSizedPacket (packets_at w p h)
  packets_at_sized p h = packets_sized (object_at w p h)

  -- how many bytes and handles the first message has
  pub first_sizes : (p h : ℕ) → (length (first_bytes (queue_at w p h)) ≤ 65536) × (length (first_handles (queue_at w p h)) ≤ 64)
  first_sizes p h = by (queue_at w p h) (queued_sized (object_at w p h))
    where
      by : (ms : List Message) → AllByRecursion IsSizedMessage ms → (length (first_bytes ms) ≤ 65536) × (length (first_handles ms) ≤ 64)
      by [] k = (omega arith, omega arith)
      by (m ∷ ms) (k, more) = (k.few_bytes, k.few_handles)

  -- and bytes they are
  pub first_are_bytes : (p h : ℕ) (k : ℕ) → slice_index (first_bytes (queue_at w p h)) k < 256
  first_are_bytes p h = by (queue_at w p h) (queued_sized (object_at w p h))
    where
      by : (ms : List Message) → AllByRecursion IsSizedMessage ms → (k : ℕ) → slice_index (first_bytes ms) k < 256
      by [] k n = omega arith
      by (m ∷ ms) (k, more) n = k.bytes n

-- ---- the rights of handles

default_few : (k : Kind) → default_rights_of k ≤ ANY
default_few kind.Process = omega arith
default_few _ = omega arith

one_entry_few : (e : Entry) → has_default_rights e ≡ true → HasFewRights e
one_entry_few e h = within_few (bits e.rights) (default_rights_of e.kind) ANY h (default_few e.kind)

entries_few : (es : List Entry) → list_all has_default_rights es ≡ true → AllByRecursion HasFewRights es
entries_few [] h = tt
entries_few (e ∷ es) h =
    let two = both (has_default_rights e) (list_all has_default_rights es) h in
    (one_entry_few e two.0, entries_few es two.1)

-- of a handle in a table
pub entry_rights : (w : World) → IsSound w → (p h : ℕ) (e : Entry) → entry_at w p h ≡ Some e → HasFewRights e
unfolding get
entry_rights w sound p h e = by (get w.processes p) refl
  where
    by : (o : Option Process) → get w.processes p ≡ o → get (handles_in o) h ≡ Some e → HasFewRights e
    by None is there = cc
    by (Some q) is there = one_entry_few e (sound.handles.rights p h q e is there)

-- of those that are received
pub first_rights : (w : World) → IsSound w → (p h : ℕ) → AllByRecursion HasFewRights (first_handles (queue_at w p h))
first_rights w sound p h = by (get w.objects (object_at w p h)) refl
  where
    of_queue : (ms : List Message) → list_all (λ m. list_all has_default_rights m.handles) ms ≡ true → AllByRecursion HasFewRights (first_handles ms)
    of_queue [] e = tt
    of_queue (m ∷ ms) e =
        entries_few m.handles (both (list_all has_default_rights m.handles) (list_all (λ (x : Message). list_all has_default_rights x.handles) ms) e).0

    by : (o : Option Object) → get w.objects (object_at w p h) ≡ o → AllByRecursion HasFewRights (first_handles (queue_in (body_in o)))
    by None is = tt
    by (Some o) is = of_queue (queue_of o.body) (sound.handles.queued (object_at w p h) o is)
