-- Any call: it blocks, or what it does is a step up to where processes wake; and it leaves its process its pid.
use Rattle.zl_calls.proofs.Common.{Acted, Action, ActsHere, AtCall, Awaited, Blocks, CallName, Err, Handles, IsConsistent, KeepSleepers, Library, List, None}
use Rattle.zl_calls.proofs.Common.{Objects, Ok, Option, Outcome, PortCancelDoes, Process, Ready, Request, Result, Site, Some, Status, WaitAsyncDoes}
use Rattle.zl_calls.proofs.Common.{action_asked, answers, ap, awaited_by, calls_at, chan_create, chan_read_etc, chan_read_slots, chan_write, chan_write_slots}
use Rattle.zl_calls.proofs.Common.{close, dup, event_create, eventpair_create, exits, false, false≢true, handle_info, inl, inr, is_blocked, is_blocking}
use Rattle.zl_calls.proofs.Common.{job_create, job_set_policy, looks_at_waits, next_for, next_looks, plain_refusal, port_cancel, port_create, port_poll}
use Rattle.zl_calls.proofs.Common.{port_queue, port_wait, process_exit, process_value, reaches, refl, replace, signal, signal_peer, state_value, subst, sym}
use Rattle.zl_calls.proofs.Common.{task_kill, true, true≢false, wait_async, wait_one, wait_poll, waits, world_value, ⊤, ◌∙◌, ◌≡◌, ◌⊎◌}
use Rattle.zl_calls.proofs.calls.Answered.{IsWrite, asking}
use Rattle.zl_calls.proofs.calls.DoneCalls.{IsCalledAmong, IsDone}
use Rattle.zl_calls.proofs.calls.PairCalls.{chan_create_done, eventpair_done}
use Rattle.zl_calls.proofs.calls.EventCalls.{event_done, signal_done, peer_done}
use Rattle.zl_calls.proofs.calls.AsyncCalls.{async_called}
use Rattle.zl_calls.proofs.calls.CancelCalls.{cancel_called}
use Rattle.zl_calls.proofs.calls.JobCalls.{job_done, job_set_policy_done}
use Rattle.zl_calls.proofs.calls.HandleCalls.{close_done, dup_done, info_done, replace_done}
use Rattle.zl_calls.proofs.calls.PortCalls.{port_create_done, port_passes, port_poll_done, port_queue_done, port_wait_done, port_waits}
use Rattle.zl_calls.proofs.calls.ProcessCalls.{exit_done}
use Rattle.zl_calls.proofs.calls.ReadCalls.{read_done, read_slots_done}
use Rattle.zl_calls.proofs.calls.WaitCalls.{one_done, one_passes, one_waits, poll_done}
use Rattle.zl_calls.proofs.waking.Sleeping.{IsAsleep}
use Rattle.zl_calls.proofs.calls.WriteCalls.{slots_done, write_done}

-- ---- whether it blocks

-- the action never blocks
abbrev NeverBlocks : Action → Type 0
NeverBlocks (waits A told Does Awaits) = ⊥
NeverBlocks _ = ⊤

module _ (p p2 : Process) (r r2 : Objects) (o : Outcome) where
  answered_on : (action : Action) (s : Site) → NeverBlocks action → ActsHere action s p r o p2 r2 → is_blocking o ≡ false
  answered_on (answers A told Does) s never acts = ap is_blocking acts.ends
  answered_on (waits A told Does Awaits) s never acts = absurd never
  answered_on (exits code) s never acts = ap is_blocking acts.ends
  answered_on reaches s never acts = absurd acts

  -- a call that blocks, from what the definitions say of it
  asleep : (lib : Library) (before : List Process) (call : CallName) {Awaits : Handles → Objects → Awaited → Type 0} (s : Site)
      → next_for lib (process_value p) ≡ AtCall call s → (blocks : Blocks Awaits s p r o p2 r2)
      → plain_refusal lib (world_value before r) p.pid s.request ≡ None → awaited_by (world_value before r) p.pid s.request ≡ Some blocks.awaited
      → IsAsleep lib before r r2 p p2 call o
  asleep lib before call s next blocks passes is_awaited = record {
    at = s;
    next = next;
    awaited = blocks.awaited;
    passes = passes;
    is_awaited = is_awaited;
    ends = blocks.ends;
    process = blocks.process;
    state = blocks.state;
    counter = blocks.counter;
    objects = blocks.objects;
  }

-- ---- a step

-- a ready process of the world, at the call
module _ {before after : List Process} {r : Objects} {p p2 : Process} (lib : Library) (r2 : Objects) (consistent : IsConsistent before r)
    (write : IsWrite before after p p2)
    (ready : state_value p.state ≡ Ready) (call : CallName) (o : Outcome) where
  -- it is answered, or ends its caller
  module _ (goes : is_blocking o ≡ false) where
    by_request : (request : Request) (s : Site) → looks_at_waits request ≡ false
        → next_for lib (process_value p) ≡ AtCall call (asking request s)
        → ActsHere (action_asked p.pid request) (asking request s) p r o p2 r2 → IsDone lib before after r r2 p.pid call o
    by_request (close h) s plain next acts = close_done lib r2 consistent write h s ready call next o acts
    by_request (dup h asked) s plain next acts = dup_done lib r2 consistent write h asked s ready call next o acts
    by_request (replace h asked) s plain next acts = replace_done lib r2 consistent write h asked s ready call next o acts
    by_request chan_create s plain next acts = chan_create_done lib r2 consistent write s ready call next o acts
    by_request (chan_write end bytes hs) s plain next acts = write_done lib r2 consistent write end bytes hs s ready call next o acts
    by_request (chan_read_etc h address room places) s plain next acts = read_done lib r2 consistent write h address room places s ready call next o acts
    by_request event_create s plain next acts = event_done lib r2 consistent write s ready call next o acts
    by_request (signal h clear set) s plain next acts = signal_done lib r2 consistent write h clear set s ready call next o acts
    by_request (signal_peer h clear set) s plain next acts = peer_done lib r2 consistent write h clear set s ready call next o acts
    by_request (wait_one h mask) s plain next (inl answered) = one_done lib r2 consistent write h mask s ready call next o answered
    by_request (wait_one h mask) s plain next (inr blocks) = absurd (false≢true (sym goes ∙ ap is_blocking blocks.ends))
    by_request (wait_poll h mask) s plain next acts = poll_done lib r2 consistent write h mask s ready call next o acts
    by_request port_create s plain next acts = port_create_done lib r2 consistent write s ready call next o acts
    by_request (port_queue port key value) s plain next acts = port_queue_done lib r2 consistent write port key value s ready call next o acts
    by_request (port_wait port) s plain next (inl answered) = port_wait_done lib r2 consistent write port s ready call next o answered
    by_request (port_wait port) s plain next (inr blocks) = absurd (false≢true (sym goes ∙ ap is_blocking blocks.ends))
    by_request (port_poll port) s plain next acts = port_poll_done lib r2 consistent write port s ready call next o acts
    by_request (process_exit code) s plain next acts = rw acts.ends
        (exit_done lib r2 consistent write _ acts.over ready code refl s call next)
    by_request (job_create j) s plain next acts = job_done lib r2 consistent write j s ready call next o acts
    by_request (job_set_policy j mode condition action) s plain next acts =
        job_set_policy_done lib r2 consistent write j mode condition action s ready call next o acts
    by_request eventpair_create s plain next acts = eventpair_done lib r2 consistent write s ready call next o acts
    by_request (chan_write_slots end bytes hs) s plain next acts = slots_done lib r2 consistent write end bytes hs s ready call next o acts
    by_request (chan_read_slots h address room array places) s plain next acts =
        read_slots_done lib r2 consistent write h address room places array s ready call next o acts
    by_request (handle_info h) s plain next acts = info_done lib r2 consistent write h s ready call next o acts
    by_request (wait_async h port key mask) s plain next acts = absurd (true≢false plain)
    by_request (port_cancel port source key) s plain next acts = absurd (true≢false plain)
    by_request _ s plain next acts = absurd acts

    pub acted_done : (at : Option Site) → next_looks (calls_at call at) ≡ false → next_for lib (process_value p) ≡ calls_at call at → Acted at p r o p2 r2
        → IsDone lib before after r r2 p.pid call o
    acted_done None plain next acts = absurd acts
    acted_done (Some s) plain next acts = by_request s.request s plain next acts

  -- it blocks, or else it doesn't
  asleep_by : (request : Request) (s : Site) → next_for lib (process_value p) ≡ AtCall call (asking request s)
      → ActsHere (action_asked p.pid request) (asking request s) p r o p2 r2 → (is_blocking o ≡ false) ⊎ IsAsleep lib before r r2 p p2 call o
  asleep_by (wait_one h mask) s next (inl answered) = inl (ap is_blocking answered.ends)
  asleep_by (wait_one h mask) s next (inr blocks) =
      let x = blocks.awaits.watched in
      inr (asleep p p2 r r2 o lib before call (asking (wait_one h mask) s) next blocks
      (one_passes lib r2 consistent write h mask s x blocks.awaits.seen)
      (one_waits lib r2 consistent write h mask s x blocks.awaits.seen blocks.awaits.inactive
      ∙ ap (λ (a : Awaited). Some a) (sym blocks.awaits.is_awaited)))
  asleep_by (port_wait port) s next (inl answered) = inl (ap is_blocking answered.ends)
  asleep_by (port_wait port) s next (inr blocks) =
      let x = blocks.awaits.port in
      inr (asleep p p2 r r2 o lib before call (asking (port_wait port) s) next blocks
      (port_passes lib r2 consistent write port s x blocks.awaits.is_port)
      (port_waits lib r2 consistent write port s x blocks.awaits.is_port blocks.awaits.none
      ∙ ap (λ (a : Awaited). Some a) (sym blocks.awaits.is_awaited)))
  asleep_by request s next acts = inl (answered_on p p2 r r2 o (action_asked p.pid request) (asking request s) tt acts)

  pub acted_asleep : (at : Option Site) → next_for lib (process_value p) ≡ calls_at call at → Acted at p r o p2 r2
      → (is_blocking o ≡ false) ⊎ IsAsleep lib before r r2 p p2 call o
  acted_asleep None next acts = absurd acts
  acted_asleep (Some s) next acts = asleep_by s.request s next acts

-- ---- a call that looks at waits

-- it is done beside them, and answered
pub record Looks (lib : Library) (before after : List Process) (r r2 : Objects) (p : Process) (call : CallName) (o : Outcome) : Type 0 where
  pub at : Site
  pub next : next_for lib (process_value p) ≡ AtCall call at
  pub called : IsCalledAmong lib before after r r2 p.pid at o
  pub goes : is_blocking o ≡ false
  pub asleep : KeepSleepers r r2

module _ {before after : List Process} {r : Objects} {p p2 : Process} (lib : Library) (r2 : Objects) (consistent : IsConsistent before r)
    (write : IsWrite before after p p2)
    (ready : state_value p.state ≡ Ready) (call : CallName) (o : Outcome) where
  looks_by : (request : Request) (s : Site) → looks_at_waits request ≡ true
      → next_for lib (process_value p) ≡ AtCall call (asking request s)
      → ActsHere (action_asked p.pid request) (asking request s) p r o p2 r2 → Looks lib before after r r2 p call o
  looks_by (wait_async h port key mask) s looks next acts = record {
    at = asking (wait_async h port key mask) s;
    next = next;
    called = async_called lib r2 consistent write h port key mask s ready call next o acts;
    goes = ap is_blocking acts.ends;
    asleep = keeps acts.answer acts.acts;
  }
    where
      keeps : (answer : Result ⊤ Status) → WaitAsyncDoes p.pid h port key mask p.table r answer p2.table r2 → KeepSleepers r r2
      keeps (Ok x) does = subst (KeepSleepers r) (sym does.ok.objects) (refl, refl)
      keeps (Err s) does = subst (KeepSleepers r) (sym does.same_objects) (refl, refl)
  looks_by (port_cancel port source key) s looks next acts = record {
    at = asking (port_cancel port source key) s;
    next = next;
    called = cancel_called lib r2 consistent write port source key s ready call next o acts;
    goes = ap is_blocking acts.ends;
    asleep = keeps acts.answer acts.acts;
  }
    where
      keeps : (answer : Result ⊤ Status) → PortCancelDoes p.pid port source key p.table r answer p2.table r2 → KeepSleepers r r2
      keeps (Ok x) does = does.ok.ends.asleep
      keeps (Err s) does = subst (KeepSleepers r) (sym does.same_objects) (refl, refl)
  looks_by (task_kill task) s looks next acts = absurd acts
  looks_by _ s looks next acts = absurd (false≢true looks)

  pub acted_looks : (at : Option Site) → next_looks (calls_at call at) ≡ true → next_for lib (process_value p) ≡ calls_at call at → Acted at p r o p2 r2
      → Looks lib before after r r2 p call o
  acted_looks None looks next acts = absurd acts
  acted_looks (Some s) looks next acts = looks_by s.request s looks next acts

-- ---- the process

module _ (p p2 : Process) (r r2 : Objects) (o : Outcome) where
  by_action : (action : Action) (s : Site) → ActsHere action s p r o p2 r2 → p2.pid ≡ p.pid
  by_action (answers A told Does) s acts = ap (λ (q : Process). q.pid) acts.replied
  by_action (waits A told Does Awaits) s (inl answered) = ap (λ (q : Process). q.pid) answered.replied
  by_action (waits A told Does Awaits) s (inr blocks) = ap (λ (q : Process). q.pid) blocks.process
  by_action (exits code) s acts = ap (λ (q : Process). q.pid) acts.over.process
  by_action reaches s acts = absurd acts

  pub same_pid : (at : Option Site) → Acted at p r o p2 r2 → p2.pid ≡ p.pid
  same_pid None acts = absurd acts
  same_pid (Some s) acts = by_action (action_asked p.pid s.request) s acts

  -- a process that was ready still is, or has ended, unless the call blocks
  state_by : (action : Action) (s : Site) → ActsHere action s p r o p2 r2 → is_blocking o ≡ false → is_blocked (state_value p.state) ≡ false
      → is_blocked (state_value p2.state) ≡ false
  state_by (answers A told Does) s acts goes unblocked = ap (λ (q : Process). is_blocked (state_value q.state)) acts.replied ∙ unblocked
  state_by (waits A told Does Awaits) s (inl answered) goes unblocked = ap (λ (q : Process). is_blocked (state_value q.state)) answered.replied ∙ unblocked
  state_by (waits A told Does Awaits) s (inr blocks) goes unblocked = absurd (false≢true (sym goes ∙ ap is_blocking blocks.ends))
  state_by (exits code) s acts goes unblocked = ap (λ (q : Process). is_blocked (state_value q.state)) acts.over.process
  state_by reaches s acts goes unblocked = absurd acts

  pub still_unblocked : (at : Option Site) → Acted at p r o p2 r2 → is_blocking o ≡ false → is_blocked (state_value p.state) ≡ false
      → is_blocked (state_value p2.state) ≡ false
  still_unblocked None acts goes unblocked = absurd acts
  still_unblocked (Some s) acts goes unblocked = state_by (action_asked p.pid s.request) s acts goes unblocked
