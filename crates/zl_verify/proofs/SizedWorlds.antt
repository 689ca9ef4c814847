-- Worlds in which registers, memories and what is queued are sized; what changes a world leaves it so, and so do settling and waking.
use Rattle.zl_code.proofs.Common.{Wait, each, holds, is_made_by_handle}
use Rattle.zl_verify.proofs.Common.{ANY, AllByRecursion, Awaited, Blocked, Body, Bool, Ended, Entry, IsSized, IsSizedCpu, IsSizedObject, IsSizedPacket}
use Rattle.zl_verify.proofs.Common.{IsSizedWait, List, None, Object, Option, Packet, PortBody, Process, QueuesAreSized, Settles, Some, World, [], active, arith}
use Rattle.zl_verify.proofs.Common.{body_with_packets, cond, ended, false, filter, fired, has_key, if◌then◌else◌, insert_all, keeping, lives, made_ready, map}
use Rattle.zl_verify.proofs.Common.{not, on_object, on_process, overwritten, packet_values, packets_for, process_ended, process_settled, process_with}
use Rattle.zl_verify.proofs.Common.{process_without, registered, remove_all, slots_filled, storing, subst, true, waiting, wakes, with_body, with_object}
use Rattle.zl_verify.proofs.Common.{with_process, without, without_others, woken, ℕ, ℤ, ◌&&◌, ◌++◌, ◌==◌, ◌∷◌, ◌≤◌}
use Rattle.zl_rights.specs.Wakes.{packet_of}
use Rattle.zl_code.proofs.MapKept.{each_put, each_where_key}
use Rattle.zl_verify.proofs.Waking.{turn_by, wakes_by}
use Rattle.zl_verify.proofs.Memories.{AreBytes, bytes_over}
use Rattle.zl_verify.proofs.Calm.{active_few}
use Rattle.zl_verify.proofs.SizedCpus.{AreSmall, AreSmallIn, answered_sized, slots_narrow}
pub use Rattle.zl_code.proofs.ProgramsKept.{each_each, each_update}

-- ---- lists

module _ {X : Type 0} (P : X → Type 0) where
  pub all_filtered : (test : X → Bool) (xs : List X) → AllByRecursion P xs → AllByRecursion P (filter test xs)
  all_filtered test [] h = tt
  all_filtered test (x ∷ xs) (one, more) = by (test x) (all_filtered test xs more)
    where
      by : (b : Bool) → AllByRecursion P (filter test xs) → AllByRecursion P (cond b (x ∷ filter test xs) (filter test xs))
      by true rest = (one, rest)
      by false rest = rest

  pub all_behind : (xs ys : List X) → AllByRecursion P xs → AllByRecursion P ys → AllByRecursion P (xs ++ ys)
  all_behind [] ys h more = more
  all_behind (x ∷ xs) ys (one, h) more = (one, all_behind xs ys h more)

all_made : {X Y : Type 0} (P : X → Type 0) (Q : Y → Type 0) (f : X → Y) → ((x : X) → P x → Q (f x)) → (xs : List X) → AllByRecursion P xs
    → AllByRecursion Q (map f xs)
all_made P Q f each [] h = tt
all_made P Q f each (x ∷ xs) (one, more) = (each x one, all_made P Q f each xs more)

-- ---- sized worlds

abbrev pub IsSizedProcess : Process → Type 0
IsSizedProcess q = IsSizedCpu q.cpu

abbrev pub IsSizedAt : Object → Type 0
IsSizedAt o = IsSizedObject o.body o.raised

pub queues_sized : (w : World) → IsSized w → QueuesAreSized w
queues_sized w s = record { messages = λ k o there. (s.kept k o there).messages; packets = λ k o there. (s.kept k o there).packets }

pub active_sized : (w : World) → IsSized w → (k : ℕ) → active w k ≤ ANY
active_sized w s k = let few : active w k ≤ 0xffff_ffff = active_few w k (λ o is. (s.kept k o is).signals) in omega arith

-- ---- changes of a process

pub process_sized : (w : World) (p : ℕ) (f : Process → Process) → ((q : Process) → IsSizedCpu q.cpu → IsSizedCpu (f q).cpu) → IsSized w
    → IsSized (on_process w p f)
unfolding on_process
process_sized w p f keeps s = record { cpus = each_update IsSizedProcess w.processes s.cpus p f keeps; kept = s.kept; waits = s.waits }

pub new_process_sized : (w : World) (k : ℕ) (q : Process) → IsSizedCpu q.cpu → IsSized w → IsSized (with_process w k q)
new_process_sized w k q new s = record { cpus = each_put IsSizedProcess w.processes s.cpus k q new; kept = s.kept; waits = s.waits }

-- one of two processes, each of which is sized
pub one_sized : (b : Bool) (x y : Process) → IsSizedCpu x.cpu → IsSizedCpu y.cpu → IsSizedCpu (if b then x else y).cpu
one_sized true x y s k = s
one_sized false x y s k = k

without_sized : (h : ℕ) (q : Process) → IsSizedCpu q.cpu → IsSizedCpu (process_without h q).cpu
without_sized h q s = one_sized (has_key q.handles h) (record q { handles = without q.handles h; last = Some h }) q s s

pub removed_sized : (w : World) (p : ℕ) (hs : List ℕ) → IsSized w → IsSized (remove_all w p hs)
unfolding remove_all
removed_sized w p [] s = s
removed_sized w p (h ∷ hs) s = removed_sized (on_process w p (process_without h)) p hs (process_sized w p (process_without h) (without_sized h) s)

pub inserted_sized : (w : World) (p : ℕ) (es : List Entry) (vs : List ℕ) → IsSized w → IsSized (insert_all w p es vs)
unfolding insert_all
inserted_sized w p [] vs s = s
inserted_sized w p (e ∷ es) [] s = s
inserted_sized w p (e ∷ es) (v ∷ vs) s = inserted_sized (on_process w p (process_with v e)) p es vs (process_sized w p (process_with v e) (λ q k. k) s)

pub stored_sized : (w : World) (p : ℕ) (at : ℕ × List ℕ) → AreBytes at.1 → IsSized w → IsSized (storing w p at)
stored_sized w p (address, []) are s = s
stored_sized w p (address, b ∷ bytes) are s =
    process_sized w p (λ q. record q { cpu = record q.cpu { memory = overwritten q.cpu.memory address (b ∷ bytes) } })
    (λ q k. record { small = k.small; bytes = bytes_over q.cpu.memory (b ∷ bytes) address k.bytes are; narrow = k.narrow }) s

pub kept_sized : (w : World) (p : ℕ) (kept : Option (ℕ × List ℕ)) → AreSmallIn kept → IsSized w → IsSized (keeping w p kept)
kept_sized w p None few s = s
kept_sized w p (Some x) few s =
    process_sized w p (λ q. record q { cpu = record q.cpu { slots = slots_filled q.cpu.slots (Some x) } })
    (λ q k. record { small = k.small; bytes = k.bytes; narrow = slots_narrow q.cpu.slots (Some x) few k.narrow }) s

pub ended_sized : (w : World) (p : ℕ) (code : ℤ) → IsSized w → IsSized (ended w p code)
unfolding ended
ended_sized w p code s =
    process_sized w p (process_ended code) (λ q k. one_sized (lives q.state) (record q { state = Ended code; handles = []; last = None }) q k k) s

pub waiting_sized : (w : World) (p : ℕ) (ds : List ℕ) (awaited : Option Awaited) → IsSized w → IsSized (waiting w p ds awaited)
waiting_sized w p ds None s = s
waiting_sized w p ds (Some awaited) s = process_sized w p (λ q. record q { state = Blocked awaited ds }) (λ q k. k) s

-- ---- changes of an object, and of waits

pub object_sized : (w : World) (k : ℕ) (f : Object → Object) → ((o : Object) → IsSizedObject o.body o.raised → IsSizedObject (f o).body (f o).raised)
    → IsSized w → IsSized (on_object w k f)
unfolding on_object
object_sized w k f keeps s = record { cpus = s.cpus; kept = each_update IsSizedAt w.objects s.kept k f keeps; waits = s.waits }

pub new_object_sized : (w : World) (b : Body) → IsSizedObject b 0 → IsSized w → IsSized (with_object w b)
unfolding with_object
new_object_sized w b new s =
    record { cpus = s.cpus; kept = each_put IsSizedAt w.objects s.kept w.next_koid (record { body = b; raised = 0 }) new; waits = s.waits }

pub pair_sized : (w : World) (a b : Body) → IsSizedObject a 0 → IsSizedObject b 0 → IsSized w → IsSized (with_object (with_object w a) b)
pair_sized w a b first second s = new_object_sized (with_object w a) b second (new_object_sized w a first s)

pub fewer_waits : (w : World) (test : Wait → Bool) → IsSized w → IsSized (record w { waits = filter test w.waits })
fewer_waits w test s = record { cpus = s.cpus; kept = s.kept; waits = all_filtered IsSizedWait test w.waits s.waits }

pub wait_sized : (w : World) (x : Wait) → IsSizedWait x → IsSized w → IsSized (registered w x)
wait_sized w x new s = record { cpus = s.cpus; kept = s.kept; waits = all_behind IsSizedWait w.waits (x ∷ []) s.waits (new, tt) }

-- ---- settling

pub settled_sized : (u v : World) → Settles u v → IsSized u → IsSized v
unfolding without_others
settled_sized u v (K, largest, e) s = rw e (record {
  cpus = each_each IsSizedProcess u.processes s.cpus (process_settled K) (λ k q fits. fits);
  kept = each_where_key IsSizedAt u.objects s.kept K;
  waits = all_filtered IsSizedWait (λ x. is_made_by_handle u x && K x.port) u.waits s.waits;
})

-- ---- waking

module _ (w : World) (s : IsSized w) where
  packet_sized : (x : Wait) → IsSizedWait x → IsSizedPacket (packet_of w x)
  packet_sized x fits = record { kind = omega arith; key = fits.key; trigger = fits.mask; observed = active_sized w s x.object }

  packets_sized : (k : ℕ) → AllByRecursion IsSizedPacket (packets_for w k)
  packets_sized k =
      all_made IsSizedWait IsSizedPacket (packet_of w) packet_sized (filter (λ x. x.port == k && holds w x) w.waits)
      (all_filtered IsSizedWait (λ x. x.port == k && holds w x) w.waits s.waits)

  more_packets : (more : List Packet) → AllByRecursion IsSizedPacket more → (b : Body) (raised : ℕ) → IsSizedObject b raised
      → IsSizedObject (body_with_packets more b) raised
  more_packets more fit (PortBody packets) raised o =
      record { messages = tt; packets = all_behind IsSizedPacket packets more o.packets fit; signals = o.signals }
  more_packets more fit _ raised o = o

  pub fired_sized : IsSized (fired w)
  unfolding fired
  fired_sized = record {
    cpus = s.cpus;
    kept = each_each IsSizedAt w.objects s.kept (λ k o. record o { body = body_with_packets (packets_for w k) o.body })
        (λ k o fits. more_packets (packets_for w k) (packets_sized k) o.body o.raised fits);
    waits = all_filtered IsSizedWait (λ x. not (holds w x)) w.waits s.waits;
  }

ready_sized : (w : World) (p : ℕ) (q : Process) (ds vs : List ℕ) → IsSizedCpu q.cpu → AreSmall vs → IsSized w → IsSized (made_ready w p q ds vs)
unfolding made_ready
ready_sized w p q ds vs fits few s =
    record { cpus = each_put IsSizedProcess w.processes s.cpus p _ (answered_sized q.cpu ds vs fits few); kept = s.kept; waits = s.waits }

module _ (w : World) (s : IsSized w) (p : ℕ) where
  by_packet : (q : Process) → IsSizedCpu q.cpu → (k : ℕ) (ds : List ℕ) (o : Object) (x : Packet) (rest : List Packet)
      → IsSizedObject (PortBody (x ∷ rest)) o.raised → IsSized (made_ready (with_body w k o (PortBody rest)) p q ds (0 ∷ packet_values x))
  by_packet q fits k ds o x rest held =
      let (first, others) = held.packets in
      ready_sized (with_body w k o (PortBody rest)) p q ds (0 ∷ packet_values x) fits
      (omega arith, (first.key, (omega (arith, first.kind), (first.trigger, (first.observed, tt)))))
      (record {
        cpus = s.cpus;
        kept = each_put IsSizedAt w.objects s.kept k (record o { body = PortBody rest }) (record { messages = tt; packets = others; signals = held.signals });
        waits = s.waits;
      })

  pub woken_sized : IsSized (woken w p)
  woken_sized =
      turn_by IsSized w p s (λ q at k mask ds blocked. ready_sized w p q ds (0 ∷ active w k ∷ []) (s.cpus p q at) (omega arith, (active_sized w s k, tt)) s)
      (λ q at k ds blocked o there x rest port. by_packet q (s.cpus p q at) k ds o x rest (subst (λ b. IsSizedObject b o.raised) port (s.kept k o there)))

pub wakes_sized : (w : World) → IsSized w → IsSized (wakes w)
wakes_sized w s = wakes_by IsSized (λ u p s. woken_sized u s p) w (fired_sized w s)
