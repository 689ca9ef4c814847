-- Packets and wakes change no signal.
use Rattle.std.proofs.Common.{◌≡◌, ℕ, Bool, true, false, ◌&&◌, ◌==◌, List, refl, sym, ap, ◌∙◌, Option, Some, None, inl, inr}
use Rattle.std.specs.Prelude.{if◌then◌else◌, bit_or}
use Rattle.std.specs.List.{list_any}
use Rattle.std.specs.Option.{option_map, is_some}
use Rattle.std.proofs.lemmas.Bool.{cases_Bool, eqb-true}
use Rattle.zl_rights.specs.Map.{get, has_key}
use Rattle.zl_rights.specs.World.{World, answered, Process, State, Ready, Object, Body, ChannelEnd, EventBody, PairEnd, PortBody, JobBody, ProcessBody, Packet}
use Rattle.zl_rights.specs.Signals.{active, active_of, implied, is_process, state_passes, lives, has_ended, has_child_job, has_child_process, is_job_below}
use Rattle.zl_rights.specs.Signals.{is_process_of}
use Rattle.zl_rights.specs.Wakes.{fired, body_with_packets, packets_for, made_ready, with_body}
use Rattle.zl_rights.proofs.MapLaws.{get-put, get-each}
use Rattle.zl_rights.proofs.MapTests.{list_any-each, list_any-put}

-- ---- what signals follow from, apart from each object's own

-- in v as in u: which objects are there, which jobs have living children, and which processes have ended
pub record IsAlike (u v : World) : Type 0 where
  pub keys : (k : ℕ) → has_key v.objects k ≡ has_key u.objects k
  pub jobs : (k : ℕ) → has_child_job v k ≡ has_child_job u k
  pub processes : (k : ℕ) → has_child_process v k ≡ has_child_process u k
  pub ended : (k : ℕ) → is_process v has_ended k ≡ is_process u has_ended k

implied-same : (u v : World) → IsAlike u v → (k : ℕ) (b : Body) → implied v k b ≡ implied u k b
implied-same u v alike k (ChannelEnd peer queue) = rw (alike.keys peer)
implied-same u v alike k EventBody = refl
implied-same u v alike k (PairEnd peer) = rw (alike.keys peer)
implied-same u v alike k (PortBody packets) = refl
implied-same u v alike k (JobBody parent depth policy killed) = rw (alike.jobs k, alike.processes k)
implied-same u v alike k (ProcessBody job) = rw (alike.ended k)

pub active_of-same : (u v : World) → IsAlike u v → (k : ℕ) (o : Option Object) → active_of v k o ≡ active_of u k o
active_of-same u v alike k None = refl
active_of-same u v alike k (Some o) = ap (bit_or o.raised) (implied-same u v alike k o.body)

-- ---- packets change no signal

implied-with_packets : (w : World) (k : ℕ) (more : List Packet) (b : Body) → implied w k (body_with_packets more b) ≡ implied w k b
implied-with_packets w k more (PortBody packets) = refl
implied-with_packets w k more _ = refl

is_job_below-with_packets : (job : ℕ) (more : List Packet) (b : Body) → is_job_below job (body_with_packets more b) ≡ is_job_below job b
is_job_below-with_packets job more (PortBody packets) = refl
is_job_below-with_packets job more _ = refl

is_process_of-with_packets : (job : ℕ) (more : List Packet) (b : Body) → is_process_of job (body_with_packets more b) ≡ is_process_of job b
is_process_of-with_packets job more (PortBody packets) = refl
is_process_of-with_packets job more _ = refl

fired-alike : (w : World) → IsAlike w (fired w)
unfolding fired has_child_job has_child_process is_process
fired-alike w = record {
  keys = λ k. rw get-each (kept (get w.objects k) _);
  jobs = λ k. list_any-each (λ e. is_job_below k e.1.body) _ (λ j o. is_job_below-with_packets k (packets_for w j) o.body) w.objects;
  processes = λ k. list_any-each (λ e. is_process_of k e.1.body && is_process w lives e.0) _
      (λ j o. ap (λ b. b && is_process w lives j) (is_process_of-with_packets k (packets_for w j) o.body)) w.objects;
  ended = λ k. refl;
}
  where
    kept : (o : Option Object) (f : Object → Object) → is_some (option_map f o) ≡ is_some o
    kept None f = refl
    kept (Some o) f = refl

pub fired-active : (w : World) (k : ℕ) → active (fired w) k ≡ active w k
unfolding active fired
fired-active w k = rw get-each (by_object (get w.objects k))
  where
    by_object : (o : Option Object)
        → active_of (fired w) k (option_map {T = Object} (λ x. record x { body = body_with_packets (packets_for w k) x.body }) o) ≡ active_of w k o
    by_object None = refl
    by_object (Some o) =
        ap (bit_or o.raised) (implied-with_packets (fired w) k (packets_for w k) o.body) ∙ active_of-same w (fired w) (fired-alike w) k (Some o)

-- ---- a process that becomes ready changes no signal

module _ (w : World) (p : ℕ) (process : Process) (destinations values : List ℕ) (there : get w.processes p ≡ Some process) where
  is_process-made_ready : (test : State → Bool) → test Ready ≡ test process.state → (k : ℕ)
      → is_process (made_ready w p process destinations values) test k ≡ is_process w test k
  unfolding is_process made_ready
  is_process-made_ready test same k =
      rw get-put (elim (cases_Bool (p == k))
      as (λ _. state_passes test (if p == k then Some (record process { state = Ready; cpu = answered process.cpu destinations values }) else get w.processes k)
      ≡ state_passes test (get w.processes k)) [ inl here ↦ rw (here, ← eqb-true p k here, there, same) refl | inr apart ↦ rw apart refl ])

  made_ready-alike : lives process.state ≡ true → has_ended process.state ≡ false → IsAlike w (made_ready w p process destinations values)
  unfolding made_ready has_child_job has_child_process
  made_ready-alike alive unended = record {
    keys = λ k. refl;
    jobs = λ k. refl;
    processes = λ k. λ i. list_any (λ e. is_process_of k e.1.body && is_process-made_ready lives (sym alive) e.0 i) w.objects;
    ended = is_process-made_ready has_ended (sym unended);
  }

  pub made_ready-active : lives process.state ≡ true → has_ended process.state ≡ false → (k : ℕ)
      → active (made_ready w p process destinations values) k ≡ active w k
  unfolding made_ready active
  made_ready-active alive unended k = active_of-same w (made_ready w p process destinations values) (made_ready-alike alive unended) k (get w.objects k)

-- ---- a packet that is taken changes no signal

module _ (w : World) (k : ℕ) (o : Object) (packets rest : List Packet) (there : get w.objects k ≡ Some o) (port : o.body ≡ PortBody packets) where
  get-with_rest : (j : ℕ) → get (with_body w k o (PortBody rest)).objects j ≡ (if k == j then Some (record o { body = PortBody rest }) else get w.objects j)
  get-with_rest j = get-put w.objects k _ j

  with_rest-alike : IsAlike w (with_body w k o (PortBody rest))
  unfolding has_child_job has_child_process is_process
  with_rest-alike = record {
    keys =
        λ j. rw get-with_rest (elim (cases_Bool (k == j))
        as (λ _. is_some (if k == j then Some (record o { body = PortBody rest }) else get w.objects j) ≡ is_some (get w.objects j)) [
          | inl here ↦ rw (here, ← eqb-true k j here, there) refl
          | inr apart ↦ rw apart refl
        ]);
    jobs = λ j. list_any-put (λ e. is_job_below j e.1.body) w.objects k o _ there (rw port refl) refl;
    processes = λ j. list_any-put (λ e. is_process_of j e.1.body && is_process w lives e.0) w.objects k o _ there (rw port refl) refl;
    ended = λ j. refl;
  }

  pub with_rest-active : (j : ℕ) → active (with_body w k o (PortBody rest)) j ≡ active w j
  unfolding active
  with_rest-active j =
      rw get-with_rest (elim (cases_Bool (k == j)) as (λ _. active_of (with_body w k o (PortBody rest)) j
      (if k == j then Some (record o { body = PortBody rest }) else get w.objects j) ≡ active_of w j (get w.objects j)) [
        | inl here ↦ rw (here, ← eqb-true k j here, there, port) refl
        | inr apart ↦ rw apart (active_of-same w (with_body w k o (PortBody rest)) with_rest-alike j (get w.objects j))
      ])
