-- Whatever a call does, and however it is answered, its world stays sized.
use Rattle.zl_verify.proofs.Common.{ANY, AllByRecursion, Body, Bool, CallInstr, CallName, Calls, ChannelEnd, Cpu, Each, Ended, Entry, EventBody, IsSized}
use Rattle.zl_verify.proofs.Common.{IsSizedCpu, IsSizedMessage, IsSizedObject, IsSizedPacket, IsSound, IsSoundTable, JobBody, KILLED, Library, List, Message}
use Rattle.zl_verify.proofs.Common.{None, Object, Option, Outcome, Packet, PairEnd, PortBody, Process, ProcessBody, Request, Setting, Site, Some, Status, World}
use Rattle.zl_verify.proofs.Common.{[], after_ok, after_refusal, and_le_l, ap, arith, awaited_by, bit_and, bit_xor, body_after_read, body_killed, body_of}
use Rattle.zl_verify.proofs.Common.{body_packed, body_with_message, body_with_policy, both, cases_Bool, chan_create, chan_read_etc, chan_read_slots, chan_write}
use Rattle.zl_verify.proofs.Common.{chan_write_slots, changed, choosing, cpu_answered, created_process, drop, effect, entering_at, entries_at, entry_at}
use Rattle.zl_verify.proofs.Common.{eqb-true, event_create, eventpair_create, false, filter, first_bytes, first_handles, first_values, get, get_without}
use Rattle.zl_verify.proofs.Common.{gets_all, gives_ok, gives_refused, gone_without, handle_info, has_key, if◌then◌else◌, info_of, inl, inr, insert_all}
use Rattle.zl_verify.proofs.Common.{is_by_handle, is_keyed, is_some, is_too_large, is_value, is_within, job_create, job_set_policy, job_within, kept_by, length}
use Rattle.zl_verify.proofs.Common.{listed, listed_none, lives, may_change, may_choose, may_get_after, may_get_all, nat_lt, nat_tests, new_handles, not}
use Rattle.zl_verify.proofs.Common.{object_at, object_killed, ok_outcome, on_process, option_map, option_to_list, packets_at, packets_in, peer_at, port_cancel}
use Rattle.zl_verify.proofs.Common.{port_create, port_poll, port_queue, port_wait, process_create, process_killed, process_start, process_with, process_without}
use Rattle.zl_verify.proofs.Common.{queue_at, queue_of, receiver_of, refl, refusal, reg, remove_all, replace, replicate, replied, runs, same_Some, settable_of}
use Rattle.zl_verify.proofs.Common.{setting_of, signal, signal_peer, site_of, slice_get, slice_index, source_at, started_with, status_magnitude, stored_by}
use Rattle.zl_verify.proofs.Common.{subst, suc, sym, take, taken, taken_handles, task_kill, test_fails, test_passes, told_of, true, wait_async, wait_of}
use Rattle.zl_verify.proofs.Common.{wait_one, wait_poll, with_effect, with_killed, with_object, within, without, written, zero, zeros_for, ℕ, ⊤, ◌++◌, ◌+◌}
use Rattle.zl_verify.proofs.Common.{◌==◌, ◌||◌, ◌∙◌, ◌∷◌, ◌≡◌, ◌≤◌, ◌⊎◌}
use Rattle.zl_rights.specs.Packets.{user_packet, is_from}
use Rattle.zl_rights.specs.declared.status.Status.TheVariants as status
use Rattle.zl_code.specs.declared.history.Outcome.TheVariants as outcome
use Rattle.zl_code.specs.declared.history.CallName.TheVariants as name
use Rattle.zl_verify.proofs.CallEnds.{call_ends}
use Rattle.zl_verify.proofs.Emptying.{left_slots}
use Rattle.zl_verify.proofs.Memories.{AreBytes, all_taken, all_dropped}
use Rattle.zl_verify.proofs.Calm.{both_few, within_few, first_sizes, first_are_bytes, entry_rights, first_rights, packets_at_sized}
use Rattle.zl_verify.proofs.Giving.{status_few, kind_few, HasFewRights}
use Rattle.zl_verify.proofs.Sites.{call, AtSite, of_site}
use Rattle.zl_verify.proofs.SizedCpus.{AreSmall, AreSmallIn, registers_written, answered_sized, blank_sized, slots_narrow, started_sized}
use Rattle.zl_verify.proofs.SizedWorlds.{pair_sized, IsSizedProcess, IsSizedAt, all_filtered, all_behind, each_update, each_each, queues_sized, active_sized}
use Rattle.zl_verify.proofs.SizedWorlds.{process_sized, one_sized, new_process_sized, removed_sized, inserted_sized, kept_sized, stored_sized, ended_sized}
use Rattle.zl_verify.proofs.SizedWorlds.{waiting_sized, object_sized, new_object_sized, fewer_waits, wait_sized}

-- ---- what is asked for

-- the numbers that a request brings into a queue, a wait or a register have their sizes
abbrev pub IsSizedRequest : Request → Type 0
IsSizedRequest (replace h rights) = h ≤ ANY
IsSizedRequest (chan_write c bytes hs) = AreBytes bytes
IsSizedRequest (chan_write_slots c bytes hs) = AreBytes bytes
IsSizedRequest (wait_async h port key mask) = (key ≤ ANY) × (mask ≤ ANY)
IsSizedRequest (port_queue port key value) = (key ≤ ANY) × (value ≤ ANY)
IsSizedRequest (process_start process h word) = word ≤ ANY
IsSizedRequest _ = ⊤

-- bytes that are read from the memory
range_sized : (c : Cpu) → IsSizedCpu c → (rs : List ℕ) → AreBytes (take (reg c (slice_index rs 3)) (drop (reg c (slice_index rs 2)) c.memory))
range_sized c h rs =
    let at = reg c (slice_index rs 2) in all_taken (reg c (slice_index rs 3)) (drop at c.memory) (all_dropped at c.memory h.bytes)

sized_by : (c : Cpu) → IsSizedCpu c → (n : CallName) (rs last : List ℕ) → AtSite c (call n rs last) (λ t. IsSizedRequest t.request)
sized_by c h name.Replace rs last = h.small (slice_index rs 1)
sized_by c h name.ChanWrite rs last = range_sized c h rs
sized_by c h name.ChanWriteSlots rs last = range_sized c h rs
sized_by c h name.WaitAsync rs last = (h.small (slice_index rs 3), h.small (slice_index rs 4))
sized_by c h name.PortQueue rs last = (h.small (slice_index rs 2), h.small (slice_index rs 3))
sized_by c h name.ProcessStart rs last = h.small (slice_index rs 3)
sized_by c h _ rs last = tt

pub request_sized : (c : Cpu) → IsSizedCpu c → (x : CallInstr) (t : Site) → site_of x c ≡ Some t → IsSizedRequest t.request
request_sized c h x t site = of_site c x t site (λ t. IsSizedRequest t.request) (sized_by c h x.name x.registers x.last)

-- ---- what is told

-- the value that was removed last has 64 bits
abbrev pub HasSmallLast : Process → Type 0
HasSmallLast q = (v : ℕ) → q.last ≡ Some v → v ≤ ANY

-- so have the values of its handles
record HasSmallValues (q : Process) : Type 0 where
  live : (v : ℕ) → has_key q.handles v ≡ true → v ≤ ANY
  gone : HasSmallLast q

lost_small : (h : ℕ) (q : Process) → HasSmallValues q → HasSmallValues (process_without h q)
lost_small h q k = by (has_key q.handles h) refl
  where
    still : (v : ℕ) → has_key (without q.handles h) v ≡ true → has_key q.handles v ≡ true
    still v there = either (cases_Bool (v == h))
      where
        either : ((v == h) ≡ true) ⊎ ((v == h) ≡ false) → has_key q.handles v ≡ true
        either (inl same) =
            let left : has_key (without q.handles h) h ≡ true = subst (λ (j : ℕ). has_key (without q.handles h) j ≡ true) (eqb-true v h same) there in
            let none = gone_without q.handles h in cc
        either (inr other) = ap (λ (o : Option Entry). is_some o) (sym (get_without q.handles h v other)) ∙ there

    by : (b : Bool) → has_key q.handles h ≡ b → HasSmallValues (if b then record q { handles = without q.handles h; last = Some h } else q)
    by true is = record { live = λ v there. k.live v (still v there); gone = λ v e. subst (λ n. n ≤ ANY) (same_Some h v e) (k.live h is) }
    by false is = k

-- so have those of each process where handles leave a table
all_lost_small : (hs : List ℕ) (w : World) (p : ℕ) → Each HasSmallValues w.processes → Each HasSmallValues (remove_all w p hs).processes
unfolding remove_all on_process
all_lost_small [] w p all = all
all_lost_small (h ∷ hs) w p all =
    all_lost_small hs (on_process w p (process_without h)) p (each_update HasSmallValues w.processes all p (process_without h) (lost_small h))

pub chosen_small : (q : Process) (es : List Entry) (vs : List ℕ) → HasSmallLast q → may_get_all q es vs ≡ true → AreSmall vs
chosen_small q [] [] k may = tt
chosen_small q [] (v ∷ vs) k may = cc
chosen_small q (e ∷ es) [] k may = cc
chosen_small q (e ∷ es) (v ∷ vs) k may =
    let two = both (may_get_after q.last q v) (may_get_all (process_with v e q) es vs) may in
    (by q.last refl two.0, chosen_small (process_with v e q) es vs (λ x is. cc) two.1)
  where
    below : nat_lt v 65536 ≡ true → v ≤ ANY
    below less = grind (arith, nat_tests)

    by : (o : Option ℕ) → q.last ≡ o → may_get_after o q v ≡ true → v ≤ ANY
    by None is e = below (both (nat_lt v 65536) _ (both (nat_lt 0 v) _ e).1).0
    by (Some l) is e = subst (λ n. n ≤ ANY) (sym (eqb-true v l e)) (k l is)

told_small : (es : List Entry) (vs : List ℕ) → AllByRecursion HasFewRights es → AreSmall vs → AreSmall (told_of es vs)
told_small [] vs rights few = tt
told_small (e ∷ es) [] rights few = tt
told_small (e ∷ es) (v ∷ vs) (right, rights) (one, more) = (one, (kind_few e.kind, (right, told_small es vs rights more)))

packet_small : (packets : List Packet) → AllByRecursion IsSizedPacket packets → AreSmall (first_values packets)
packet_small [] k = tt
packet_small (x ∷ rest) (k, more) = (k.key, (omega (arith, k.kind), (k.trigger, (k.observed, tt))))

module _ (w : World) (p : ℕ) (s : IsSized w) where
  sizes_small : (h : ℕ) → (length (first_bytes (queue_at w p h)) ≤ ANY) × (length (first_handles (queue_at w p h)) ≤ ANY)
  sizes_small h = let few = first_sizes w (queues_sized w s) p h in let bytes = few.0 in let handles = few.1 in (omega arith, omega arith)

  refused_small : (r : Request) (st : Status) → AreSmall (gives_refused w p r st)
  unfolding gives_refused
  refused_small (chan_read_etc c address room places) status.BufferTooSmall = let few = sizes_small c in (few.0, (few.1, tt))
  refused_small (chan_read_slots c address room array places) status.BufferTooSmall = let few = sizes_small c in (few.0, (few.1, tt))
  refused_small (wait_poll h mask) status.TimedOut = (active_sized w s (object_at w p h), tt)
  refused_small _ _ = tt

  given_small : IsSound w → (r : Request) → IsSizedRequest r → (vs : List ℕ) → AreSmall vs → AreSmall (gives_ok w p r vs)
  unfolding gives_ok
  given_small sound (replace h rights) fits vs few = (fits, tt)
  given_small sound (chan_read_etc c address room places) fits vs few =
      let sizes = sizes_small c in (sizes.0, (sizes.1, told_small (first_handles (queue_at w p c)) vs (first_rights w sound p c) few))
  given_small sound (chan_read_slots c address room array places) fits vs few = let sizes = sizes_small c in (sizes.0, (sizes.1, tt))
  given_small sound (handle_info h) fits vs few = by (entry_at w p h) refl
    where
      by : (o : Option Entry) → entry_at w p h ≡ o → AreSmall (info_of o)
      by None is = tt
      by (Some e) is = (kind_few e.kind, (entry_rights w sound p h e is, tt))
  given_small sound (wait_one h mask) fits vs few = (active_sized w s (object_at w p h), tt)
  given_small sound (wait_poll h mask) fits vs few = (active_sized w s (object_at w p h), tt)
  given_small sound (port_wait port) fits vs few = packet_small (packets_at w p port) (packets_at_sized w (queues_sized w s) p port)
  given_small sound (port_poll port) fits vs few = packet_small (packets_at w p port) (packets_at_sized w (queues_sized w s) p port)
  given_small sound (process_start process h word) fits vs few = tt
  given_small sound _ fits vs few = few

  stored_are_bytes : (r : Request) → AreBytes (stored_by w p r).1
  stored_are_bytes (chan_read_etc c address room places) = first_are_bytes w (queues_sized w s) p c
  stored_are_bytes (chan_read_slots c address room array places) = first_are_bytes w (queues_sized w s) p c
  stored_are_bytes _ = λ k. omega arith

-- what is kept in slots
kept_small : (r : Request) (vs : List ℕ) → AreSmall vs → AreSmallIn (kept_by r vs)
kept_small (chan_read_slots c address room array places) vs few = few
kept_small _ vs few = tt

-- ---- what is done

-- the signals that a call sets have 32 bits
settable_few : (b : Option Body) → settable_of b ≤ 0xffff_ffff
settable_few None = omega arith
settable_few (Some EventBody) = omega arith
settable_few (Some _) = omega arith

signals_changed : (b : Option Body) (clear set : ℕ) → may_change b clear set ≡ true → (body : Body) (raised : ℕ) → IsSizedObject body raised
    → IsSizedObject body (changed raised clear set)
signals_changed b clear set may body raised o = record {
  messages = o.messages;
  packets = o.packets;
  signals =
      let less = and_le_l raised (bit_xor clear 0xffff_ffff) in
      let few = o.signals in
      both_few (bit_and raised (bit_xor clear 0xffff_ffff)) set (omega arith)
      (within_few set (settable_of b) 0xffff_ffff (both (within clear (settable_of b)) (within set (settable_of b)) may).1 (settable_few b));
}

message_comes : (m : Message) → IsSizedMessage m → (b : Body) (raised : ℕ) → IsSizedObject b raised → IsSizedObject (body_with_message m b) raised
message_comes m new (ChannelEnd peer queue) raised o =
    record { messages = all_behind IsSizedMessage queue (m ∷ []) o.messages (new, tt); packets = tt; signals = o.signals }
message_comes m new _ raised o = o

message_goes : (b : Body) (raised : ℕ) → IsSizedObject b raised → IsSizedObject (body_after_read b) raised
message_goes (ChannelEnd peer []) raised o = o
message_goes (ChannelEnd peer (m ∷ ms)) raised o = record { messages = o.messages.1; packets = tt; signals = o.signals }
message_goes _ raised o = o

packets_become : (f : List Packet → List Packet) → ((xs : List Packet) → AllByRecursion IsSizedPacket xs → AllByRecursion IsSizedPacket (f xs))
    → (b : Body) (raised : ℕ) → IsSizedObject b raised → IsSizedObject (body_packed f b) raised
packets_become f keeps (PortBody packets) raised o = record { messages = tt; packets = keeps packets o.packets; signals = o.signals }
packets_become f keeps _ raised o = o

first_goes : (xs : List Packet) → AllByRecursion IsSizedPacket xs → AllByRecursion IsSizedPacket (drop 1 xs)
first_goes [] k = tt
first_goes (x ∷ xs) k = k.1

-- no more handles go into a message than it lists
entries_few : (w : World) (p : ℕ) (hs : List ℕ) → length (entries_at w p hs) ≤ length hs
entries_few w p [] = omega arith
entries_few w p (h ∷ hs) = by (entry_at w p h) (entries_few w p hs)
  where
    by : (o : Option Entry) → length (entries_at w p hs) ≤ length hs → length (option_to_list o ++ entries_at w p hs) ≤ suc (length hs)
    by None le = omega arith
    by (Some e) le = omega arith

-- what is not too large has its sizes
message_sized : (w : World) (p : ℕ) (bytes hs : List ℕ) → AreBytes bytes → is_too_large bytes hs ≡ false
    → IsSizedMessage (record { bytes = bytes; handles = entries_at w p hs })
message_sized w p bytes hs are fits = by (nat_lt 65536 (length bytes)) refl (nat_lt 64 (length hs)) refl fits
  where
    by : (b : Bool) → nat_lt 65536 (length bytes) ≡ b → (c : Bool) → nat_lt 64 (length hs) ≡ c → b || c ≡ false
        → IsSizedMessage (record { bytes = bytes; handles = entries_at w p hs })
    by true is c at e = cc
    by false is true at e = cc
    by false is false at e = record {
      few_bytes = grind (arith, nat_tests);
      bytes = are;
      few_handles = let le = entries_few w p hs in let most : length hs ≤ 64 = grind (arith, nat_tests) in omega arith;
    }

pub empty_sized : (b : Body) → queue_of b ≡ [] → packets_in (Some b) ≡ [] → IsSizedObject b 0
empty_sized b queue packets = record { messages = rw queue tt; packets = rw packets tt; signals = omega arith }

killed_process : (b : Bool) (q : Process) → IsSizedCpu q.cpu → IsSizedCpu (process_killed b q).cpu
killed_process false q s = s
killed_process true q s = one_sized (lives q.state) (record q { state = Ended KILLED; handles = []; last = None }) q s s

killed_object : (b : Bool) (o : Object) → IsSizedObject o.body o.raised → IsSizedObject (object_killed b o).body (object_killed b o).raised
killed_object false o s = s
killed_object true o s = by o.body s
  where
    by : (b : Body) → IsSizedObject b o.raised → IsSizedObject (body_killed b) o.raised
    by (JobBody parent depth policy killed) k = record { messages = tt; packets = tt; signals = k.signals }
    by _ k = k

kill_sized : (u : World) (t : ℕ) → IsSized u → IsSized (with_killed u t)
unfolding with_killed
kill_sized u t s = record {
  cpus = each_each IsSizedProcess u.processes s.cpus (λ k q. process_killed (is_within u.objects t k) q)
      (λ k q fits. killed_process (is_within u.objects t k) q fits);
  kept = each_each IsSizedAt u.objects s.kept (λ k o. object_killed (is_within u.objects t k) o) (λ k o fits. killed_object (is_within u.objects t k) o fits);
  waits = s.waits;
}

pub policy_set_sized : (x : Option Setting) (b : Body) (raised : ℕ) → IsSizedObject b raised → IsSizedObject (body_with_policy x b) raised
policy_set_sized x (JobBody parent depth policy killed) raised k = record { messages = tt; packets = tt; signals = k.signals }
policy_set_sized x _ raised k = k

module _ (lib : Library) (w : World) (p : ℕ) (u : World) (s : IsSized u) (vs : List ℕ) (few : AreSmall vs) where
  effect_sized : (r : Request) → IsSizedRequest r → refusal lib w p r ≡ None → IsSized (effect lib w u p r vs)
  unfolding effect listed
  effect_sized (replace h rights) fits passes = fewer_waits u (λ x. not (is_by_handle p h x)) s
  effect_sized chan_create fits passes =
      pair_sized u (ChannelEnd (w.next_koid + 1) []) (ChannelEnd w.next_koid []) (empty_sized _ refl refl) (empty_sized _ refl refl) s
  effect_sized (chan_write c bytes hs) fits passes =
      object_sized u (peer_at w p c) _
      (λ o k. message_comes _ (message_sized w p bytes hs fits (test_fails _ status.OutOfRange (listed_none lib w p (chan_write c bytes hs) passes).1.0))
      o.body o.raised k) s
  effect_sized (chan_read_etc c address room places) fits passes = object_sized u (object_at w p c) _ (λ o k. message_goes o.body o.raised k) s
  effect_sized (chan_write_slots c bytes hs) fits passes =
      object_sized u (peer_at w p c) _
      (λ o k. message_comes _ (message_sized w p bytes hs fits (test_fails _ status.OutOfRange (listed_none lib w p (chan_write_slots c bytes hs) passes).1.0))
      o.body o.raised k) s
  effect_sized (chan_read_slots c address room array places) fits passes =
      object_sized u (object_at w p c) _ (λ o k. message_goes o.body o.raised k) s
  effect_sized event_create fits passes = new_object_sized u EventBody (empty_sized _ refl refl) s
  effect_sized eventpair_create fits passes =
      pair_sized u (PairEnd (w.next_koid + 1)) (PairEnd w.next_koid) (empty_sized _ refl refl) (empty_sized _ refl refl) s
  effect_sized (signal h clear set) fits passes =
      object_sized u (object_at w p h) _
      (λ o k. signals_changed (body_of w (object_at w p h)) clear set (test_passes _ status.InvalidArgs (listed_none lib w p (signal h clear set) passes).0)
      o.body o.raised k) s
  effect_sized (signal_peer h clear set) fits passes =
      object_sized u (peer_at w p h) _ (λ o k. signals_changed (body_of w (object_at w p h)) clear set
      (test_passes _ status.InvalidArgs (listed_none lib w p (signal_peer h clear set) passes).0) o.body o.raised k) s
  effect_sized (wait_async h port key mask) fits passes = wait_sized u (wait_of w p h port key mask) (record { key = fits.0; mask = fits.1 }) s
  effect_sized port_create fits passes = new_object_sized u (PortBody []) (empty_sized _ refl refl) s
  effect_sized (port_queue port key value) fits passes =
      object_sized u (object_at w p port) _ (λ o k. packets_become (λ xs. xs ++ (user_packet key value ∷ []))
      (λ xs h. all_behind IsSizedPacket xs _ h (record { kind = omega arith; key = fits.0; trigger = fits.1; observed = omega arith }, tt)) o.body o.raised k) s
  effect_sized (port_wait port) fits passes = object_sized u (object_at w p port) _ (λ o k. packets_become (drop 1) first_goes o.body o.raised k) s
  effect_sized (port_poll port) fits passes = object_sized u (object_at w p port) _ (λ o k. packets_become (drop 1) first_goes o.body o.raised k) s
  effect_sized (port_cancel port source key) fits passes =
      object_sized _ (object_at w p port) _
      (λ o k. packets_become (filter (λ x. not (is_from (source_at w p source) key x))) (λ xs h. all_filtered IsSizedPacket _ xs h) o.body o.raised k)
      (fewer_waits u (λ x. not (is_keyed p source (object_at w p port) key x)) s)
  effect_sized (process_create job program) fits passes =
      new_process_sized (with_object u (ProcessBody (object_at w p job))) w.next_koid (created_process lib program) (blank_sized (slice_get lib program))
      (new_object_sized u (ProcessBody (object_at w p job)) (empty_sized _ refl refl) s)
  effect_sized (process_start process h word) fits passes =
      process_sized u (object_at w p process) (started_with vs word) (λ q k. started_sized vs word q.cpu few fits k) s
  effect_sized (task_kill task) fits passes = kill_sized u (object_at w p task) s
  effect_sized (job_create j) fits passes = new_object_sized u (job_within (object_at w p j) (body_of w (object_at w p j))) (empty_sized _ refl refl) s
  effect_sized (job_set_policy j mode condition action) fits passes =
      object_sized u (object_at w p j) _ (λ o k. policy_set_sized (setting_of mode condition action) o.body o.raised k) s
  effect_sized _ fits passes = s

-- ---- how it ends

-- 0 is small, where places are emptied too
zeros_small : (n : ℕ) → AreSmall (replicate n 0)
zeros_small zero = tt
zeros_small (suc n) = (omega arith, zeros_small n)

emptied_small : (emptied : Option (ℕ × ℕ)) → AreSmallIn (option_map zeros_for emptied)
emptied_small None = tt
emptied_small (Some x) = zeros_small x.1

replied_sized : (w : World) (p : ℕ) (t : Site) (answer : Status) (values : List ℕ) → AreSmall values → IsSized w → IsSized (replied w p t answer values)
unfolding replied
replied_sized w p t answer values few s =
    process_sized w p (λ q. record q { cpu = cpu_answered t answer values q.cpu })
    (λ q k. answered_sized
    (record q.cpu { registers = written q.cpu.registers t.consumed []; slots = left_slots q.cpu.slots t.emptied })
    t.destinations (status_magnitude answer ∷ values)
    (record {
      small = registers_written t.consumed [] q.cpu.registers tt k.small;
      bytes = k.bytes;
      narrow = slots_narrow q.cpu.slots (option_map zeros_for t.emptied) (emptied_small t.emptied) k.narrow;
    })
    (let le = status_few answer in omega arith, few)) s

module _ (lib : Library) (w : World) (p : ℕ) (sound : IsSound w) (s : IsSized w) (t : Site) (fits : IsSizedRequest t.request) where
  taken_sized : IsSized (taken w p t)
  taken_sized = removed_sized w p (taken_handles t.request) s

  all_small : Each HasSmallValues w.processes
  all_small k y at = record { live = λ v live. of_value v (tables.values v live); gone = λ v is. of_value v (tables.free v is).0 }
    where
      tables : IsSoundTable (runs y.state) y.handles y.last
      tables = sound.tables k y at

      of_value : (v : ℕ) → is_value v ≡ true → v ≤ ANY
      of_value v e = let less : nat_lt v 65536 ≡ true = (both (nat_lt 0 v) (nat_lt v 65536) e).1 in grind (arith, nat_tests)

  values_small : (vs : List ℕ) → may_choose w (taken w p t) p t.request vs ≡ true → AreSmall vs
  unfolding may_choose
  values_small vs may = by (get (taken w p t).processes (receiver_of w p t.request)) refl may
    where
      by : (o : Option Process) → get (taken w p t).processes (receiver_of w p t.request) ≡ o → gets_all o (choosing w p t.request) vs ≡ true → AreSmall vs
      by None is e = cc
      by (Some y) is e =
          chosen_small y (choosing w p t.request) vs (all_lost_small (taken_handles t.request) w p all_small (receiver_of w p t.request) y is).gone e

  refused_sized : (o : Outcome) → IsSized (after_refusal w p t o)
  refused_sized (outcome.Answered answer) =
      replied_sized (taken w p t) p t answer (gives_refused w p t.request answer) (refused_small w p s t.request answer) taken_sized
  refused_sized (outcome.Ended code) = ended_sized w p code s
  refused_sized outcome.Blocked = s

  done_sized : refusal lib w p t.request ≡ None → (vs : List ℕ) → AreSmall vs → IsSized (with_effect lib w (taken w p t) p t.request vs)
  done_sized passes vs few =
      kept_sized _ p (kept_by t.request vs) (kept_small t.request vs few)
      (stored_sized (insert_all (effect lib w (taken w p t) p t.request vs) (receiver_of w p t.request) (new_handles w p t.request) (entering_at t.request vs))
      p (stored_by w p t.request) (stored_are_bytes w p s t.request)
      (inserted_sized (effect lib w (taken w p t) p t.request vs) (receiver_of w p t.request) (new_handles w p t.request) (entering_at t.request vs)
      (effect_sized lib w p (taken w p t) taken_sized vs few t.request fits passes)))

  ok_sized : refusal lib w p t.request ≡ None → (vs : List ℕ) → may_choose w (taken w p t) p t.request vs ≡ true → (o : Outcome)
      → IsSized (after_ok lib w p t vs o)
  ok_sized passes vs may (outcome.Answered answer) =
      replied_sized _ p t status.Ok (gives_ok w p t.request vs) (given_small w p s sound t.request fits vs (values_small vs may))
      (done_sized passes vs (values_small vs may))
  ok_sized passes vs may (outcome.Ended code) = ended_sized _ p code (done_sized passes vs (values_small vs may))
  ok_sized passes vs may outcome.Blocked = waiting_sized w p t.destinations (awaited_by w p t.request) s

  pub call_sized : (answer : Outcome) (w2 : World) → Calls lib w p t answer w2 → IsSized w2
  call_sized =
      call_ends lib w p t (λ o v. IsSized v) (λ o is. refused_sized o) (λ want may. refused_sized (outcome.Answered want))
      (λ passes vs may. ok_sized passes vs may (ok_outcome w p t.request))
