use Rattle.zl_calls.proofs.Common.{Process, ap, inl, is_created, is_ready, parts, set, state_value, sym, true, ◌∙◌, ◌≡◌}
use Rattle.zl_calls.proofs.processes.Idle.{are_closed}
use Rattle.zl_calls.proofs.processes.InOrder.{set_in_order}
use Rattle.zl_calls.proofs.processes.Started.{set_started}
use Rattle.zl_calls.proofs.waking.BlockedLists.{no_more}
use Rattle.zl_calls.proofs.step.CallSteps.{called_so, caller_ready, goes_from, moves_from, over_from, stays_from, stops_from}
use Rattle.zl_calls.proofs.step.Performing.{HasActed, HasLeft, here, turn_at, within}
use Rattle.zl_calls.proofs.step.StepTells.{call_notes, kill_notes}
use Rattle.zl_calls.proofs.step.TakenKnown.{ended_acts, ended_own, own_waits}
use Rattle.zl_calls.proofs.step.AllKnown.{known_behind}
use Rattle.zl_calls.proofs.waits.TakenEnds.{ended_again}
use Rattle.zl_calls.proofs.step.SureCalls.{sure_calls}
use Rattle.zl_code.specs.declared.history.TraceItem.TheVariants as item
use Rattle.zl_calls.proofs.parts.Unchanged.{same_blocked, same_objects, same_processes}
use Rattle.zl_calls.proofs.parts.Parts.act.Goals as goal

pub call_next-requires : goal.call_next-requires
call_next-requires c =
    let ready : is_ready (state_value c.index.result.now.state) ≡ true = sym c.is_ready.ensures ∙ c.if-not-is_ready.false in
    record {
      may = record {
        calling = record {
          within = within c.args.self.now.processes.list.items c.args.pid c.in_ok-place.place c.index.result.now c.in_ok-place.ensures.first c.index.ensures;
          ready = caller_ready c.args.self.now.processes.list.items c.args.pid c.in_ok-place.place c.index.result.now c.in_ok-place.ensures.first
              c.index.ensures
              ready;
        };
        few = no_more c.args.self.now.processes.list.items c.args.self.now.blocked.items c.requires.list;
        given = c.requires.consistent.given_processes;
        kept = c.requires.consistent.kept;
        list = c.requires.list;
        closed = are_closed c.args.self.now.processes.list.items c.args.self.now.objects c.args.self.now.blocked.items c.requires.consistent.processes_in_order
            c.requires.sound;
      };
      own = own_waits (turn_at c.args.self.now.processes.list.items c.args.self.now.objects c.args.self.now.blocked.items c.args.pid c.in_ok-place.place
          c.index.result.now c.requires.consistent c.requires.list c.requires.sound c.in_ok-place.ensures.first c.index.ensures ready);
      sure = sure_calls (turn_at c.args.self.now.processes.list.items c.args.self.now.objects c.args.self.now.blocked.items c.args.pid c.in_ok-place.place
          c.index.result.now c.requires.consistent c.requires.list c.requires.sound c.in_ok-place.ensures.first c.index.ensures ready)
          c.args.library.now c.requires.verified c.requires.covered;
    }

left_called : (c : goal.After-end_behind-arg-in-Some-2-1) → HasLeft c.args.library.now c.args.self.now.processes.list.items
    c.call_next.new.self.processes.list.items
    c.args.self.now.objects c.call_next.new.self.objects c.args.self.now.blocked.items c.call_next.new.self.blocked.items
    c.args.pid (item.Call c.args.pid c.in-Some.call c.in-Some.outcome)
left_called c =
    called_so (turn_at c.args.self.now.processes.list.items c.args.self.now.objects c.args.self.now.blocked.items c.args.pid c.in_ok-place.place
    c.index.result.now
    c.requires.consistent c.requires.list c.requires.sound c.in_ok-place.ensures.first c.index.ensures (sym c.is_ready.ensures ∙ c.if-not-is_ready.false))
    c.args.library.now (parts c.call_next.new.self.processes.list.items c.call_next.new.self.objects c.call_next.new.self.blocked.items) c.in-Some.outcome
    c.in-Some.call
    ((c.in-Some.ensures {u = tt}).calls c.index.result.now (here c.args.self.now.processes.list.items c.args.pid c.in_ok-place.place c.index.result.now
    c.in_ok-place.ensures.first c.index.ensures))

called : (c : goal.After-end_behind-arg-in-Some-2-1) → HasActed c.args.library.now c.args.self.now.processes.list.items c.leave.new.processes.list.items
    c.args.self.now.objects
    c.call_next.new.self.objects c.args.self.now.blocked.items c.call_next.new.self.blocked.items
    c.args.pid (item.Call c.args.pid c.in-Some.call c.in-Some.outcome)
called c = rw c.leave.ensures (left_called c)

moved : (c : goal.After-self-in-Some-run_next-1) → HasActed c.args.library.now c.args.self.now.processes.list.items
    (set c.call_next.new.self.processes.list.items c.in_ok-place.place c.run_next.new.process) c.args.self.now.objects c.call_next.new.self.objects
    c.args.self.now.blocked.items c.call_next.new.self.blocked.items c.args.pid (item.Run c.args.pid 1)
moved c =
    moves_from (turn_at c.args.self.now.processes.list.items c.args.self.now.objects c.args.self.now.blocked.items c.args.pid c.in_ok-place.place
    c.index.result.now
    c.requires.consistent c.requires.list c.requires.sound c.in_ok-place.ensures.first c.index.ensures (sym c.is_ready.ensures ∙ c.if-not-is_ready.false))
    c.args.library.now c.call_next.new.self.processes.list.items c.call_next.new.self.objects c.call_next.new.self.blocked.items (same_processes
    (c.in_default.ensures {u = tt}).unchanged)
    (same_objects (c.in_default.ensures {u = tt}).unchanged) (same_blocked (c.in_default.ensures {u = tt}).unchanged) c.index_mut-process.result.now
    c.index_mut-process.ensures.value
    c.run_next.new.process (c.in-Some-run_next.ensures {u = tt}).runs (c.in-Some-run_next.ensures {u = tt}).cpu

stopped : (c : goal.After-end_behind-arg-4-1)
    → HasActed c.args.library.now c.args.self.now.processes.list.items c.leave-2.new.processes.list.items c.args.self.now.objects
    c.end.new.objects
    c.args.self.now.blocked.items c.call_next.new.self.blocked.items c.args.pid (item.Stuck c.args.pid)
stopped c = rw c.leave-2.ensures
    (stops_from (turn_at c.args.self.now.processes.list.items c.args.self.now.objects c.args.self.now.blocked.items c.args.pid c.in_ok-place.place
    c.index.result.now
    c.requires.consistent c.requires.list c.requires.sound c.in_ok-place.ensures.first c.index.ensures (sym c.is_ready.ensures ∙ c.if-not-is_ready.false))
    c.args.library.now
    c.call_next.new.self.processes.list.items c.call_next.new.self.objects c.call_next.new.self.blocked.items (same_processes (c.in_default.ensures {u =
    tt}).unchanged)
    (same_objects (c.in_default.ensures {u = tt}).unchanged) (same_blocked (c.in_default.ensures {u = tt}).unchanged) c.index_mut-process.result.now
    c.index_mut-process.ensures.value
    c.end.new.process c.end.new.objects (c.in_default-run_next.ensures {u = tt}).stuck (rw (c.in_default-run_next.ensures {u = tt}).unchanged at c.end.ensures))

pub end_behind-requires-clause-consistent : goal.end_behind-requires-clause-consistent
end_behind-requires-clause-consistent c = (called c).consistent

pub end_behind-requires-clause-known : goal.end_behind-requires-clause-known
end_behind-requires-clause-known c present =
    rw c.leave.ensures
    (known_behind (turn_at c.args.self.now.processes.list.items c.args.self.now.objects c.args.self.now.blocked.items c.args.pid c.in_ok-place.place
    c.index.result.now
    c.requires.consistent c.requires.list c.requires.sound c.in_ok-place.ensures.first c.index.ensures (sym c.is_ready.ensures ∙ c.if-not-is_ready.false))
    c.args.library.now (parts c.call_next.new.self.processes.list.items c.call_next.new.self.objects c.call_next.new.self.blocked.items)
    c.in-Some.outcome present c.in-Some.call
    ((c.in-Some.ensures {u = tt}).calls c.index.result.now (here c.args.self.now.processes.list.items c.args.pid c.in_ok-place.place c.index.result.now
    c.in_ok-place.ensures.first c.index.ensures)) c.call_next.new.self.taken
    ((c.in-Some.ensures {u = tt}).taken c.index.result.now (here c.args.self.now.processes.list.items c.args.pid c.in_ok-place.place c.index.result.now
    c.in_ok-place.ensures.first c.index.ensures)) (left_called c))

pub end_behind-requires-2-clause-consistent : goal.end_behind-requires-2-clause-consistent
end_behind-requires-2-clause-consistent c = (stopped c).consistent

pub end_behind-requires-2-clause-known : goal.end_behind-requires-2-clause-known
end_behind-requires-2-clause-known c present i d inside =
    inl (rw c.leave-2.ensures (over_from (turn_at c.args.self.now.processes.list.items c.args.self.now.objects c.args.self.now.blocked.items c.args.pid
    c.in_ok-place.place
    c.index.result.now
    c.requires.consistent c.requires.list c.requires.sound c.in_ok-place.ensures.first c.index.ensures (sym c.is_ready.ensures ∙ c.if-not-is_ready.false))
    c.args.library.now c.call_next.new.self.processes.list.items c.call_next.new.self.objects c.call_next.new.self.blocked.items (same_processes
    (c.in_default.ensures {u = tt}).unchanged)
    (same_objects (c.in_default.ensures {u = tt}).unchanged) (same_blocked (c.in_default.ensures {u = tt}).unchanged) c.index_mut-process.result.now
    c.index_mut-process.ensures.value
    c.end.new.process c.end.new.objects (rw (c.in_default-run_next.ensures {u = tt}).unchanged at c.end.ensures) present i d inside))

pub invariant_of-self : goal.invariant_of-self
invariant_of-self c = record {
  in_order = set_in_order c.index_mut-process.result.now c.run_next.new.process (ap (λ (p : Process). p.pid) c.run_next.ensures.cpu)
      c.call_next.new.self.processes.list.items c.in_ok-place.place c.index_mut-process.ensures.value c.call_next.new.self.processes.in_order;
  started = set_started c.index_mut-process.result.now c.run_next.new.process
      (λ h. ap (λ (p : Process). is_created (state_value p.state)) c.run_next.ensures.cpu ∙ h)
      c.call_next.new.self.processes.list.items c.in_ok-place.place c.index_mut-process.ensures.value _ c.call_next.new.self.processes.started;
}

pub invariant_of-self-2 : goal.invariant_of-self-2
invariant_of-self-2 c = record {
  in_order = set_in_order c.index_mut-process.result.now c.end.new.process
      (ap (λ (p : Process). p.pid) c.end.ensures.process ∙ ap (λ (p : Process). p.pid) c.run_next.ensures.cpu)
      c.call_next.new.self.processes.list.items c.in_ok-place.place c.index_mut-process.ensures.value c.call_next.new.self.processes.in_order;
  started = set_started c.index_mut-process.result.now c.end.new.process
      (λ h. ap (λ (p : Process). is_created (state_value p.state)) c.end.ensures.process)
      c.call_next.new.self.processes.list.items c.in_ok-place.place c.index_mut-process.ensures.value _ c.call_next.new.self.processes.started;
}

pub returns-in-Some-clause-acts : goal.returns-in-Some-clause-acts
returns-in-Some-clause-acts c =
    ended_acts c.args.library.now c.args.self.now.processes.list.items c.leave.new.processes.list.items c.args.self.now.objects c.call_next.new.self.objects
    c.end_behind.new.objects c.args.self.now.blocked.items c.call_next.new.self.blocked.items c.args.pid (item.Call c.args.pid c.in-Some.call c.in-Some.outcome)
    c.end_behind.ensures (called c.before).acts

pub returns-in-Some-run_next-clause-acts : goal.returns-in-Some-run_next-clause-acts
returns-in-Some-run_next-clause-acts c = (moved c).acts

pub returns-clause-acts : goal.returns-clause-acts
returns-clause-acts c =
    ended_acts c.args.library.now c.args.self.now.processes.list.items c.leave-2.new.processes.list.items c.args.self.now.objects c.end.new.objects
    c.end_behind-2.new.objects c.args.self.now.blocked.items c.call_next.new.self.blocked.items c.args.pid (item.Stuck c.args.pid) c.end_behind-2.ensures
    (stopped c.before).acts

pub returns-in-Some-clause-own : goal.returns-in-Some-clause-own
returns-in-Some-clause-own c =
    ended_own c.args.library.now c.args.self.now.processes.list.items c.leave.new.processes.list.items c.args.self.now.objects c.call_next.new.self.objects
    c.end_behind.new.objects c.args.self.now.blocked.items c.call_next.new.self.blocked.items c.args.pid (item.Call c.args.pid c.in-Some.call c.in-Some.outcome)
    c.end_behind.ensures (called c.before).own

pub returns-in-Some-run_next-clause-own : goal.returns-in-Some-run_next-clause-own
returns-in-Some-run_next-clause-own c = (moved c).own

pub returns-clause-own : goal.returns-clause-own
returns-clause-own c =
    ended_own c.args.library.now c.args.self.now.processes.list.items c.leave-2.new.processes.list.items c.args.self.now.objects c.end.new.objects
    c.end_behind-2.new.objects c.args.self.now.blocked.items c.call_next.new.self.blocked.items c.args.pid (item.Stuck c.args.pid) c.end_behind-2.ensures
    (stopped c.before).own

pub returns-in-Some-clause-list : goal.returns-in-Some-clause-list
returns-in-Some-clause-list c = (called c.before).list

pub returns-in-Some-run_next-clause-list : goal.returns-in-Some-run_next-clause-list
returns-in-Some-run_next-clause-list c = (moved c).list

pub returns-clause-list : goal.returns-clause-list
returns-clause-list c = (stopped c.before).list

pub returns-in-Some-clause-fewer : goal.returns-in-Some-clause-fewer
returns-in-Some-clause-fewer c = (called c.before).fewer

pub returns-in-Some-run_next-clause-fewer : goal.returns-in-Some-run_next-clause-fewer
returns-in-Some-run_next-clause-fewer c = (moved c).fewer

pub returns-clause-fewer : goal.returns-clause-fewer
returns-clause-fewer c = (stopped c.before).fewer

pub returns-in-Some-clause-asleep : goal.returns-in-Some-clause-asleep
returns-in-Some-clause-asleep c = let first = (called c.before).asleep in (c.end_behind.ensures.asleep.0 ∙ first.0, c.end_behind.ensures.asleep.1 ∙ first.1)

pub returns-in-Some-run_next-clause-asleep : goal.returns-in-Some-run_next-clause-asleep
returns-in-Some-run_next-clause-asleep c = (moved c).asleep

pub returns-clause-asleep : goal.returns-clause-asleep
returns-clause-asleep c = let first = (stopped c.before).asleep in (c.end_behind-2.ensures.asleep.0 ∙ first.0, c.end_behind-2.ensures.asleep.1 ∙ first.1)

pub returns-in-Some-clause-consistent : goal.returns-in-Some-clause-consistent
returns-in-Some-clause-consistent c = c.end_behind.ensures.consistent

pub returns-in-Some-run_next-clause-consistent : goal.returns-in-Some-run_next-clause-consistent
returns-in-Some-run_next-clause-consistent c = (moved c).consistent

pub returns-clause-consistent : goal.returns-clause-consistent
returns-clause-consistent c = c.end_behind-2.ensures.consistent

pub returns-in-Some-run_next-clause-quiet : goal.returns-in-Some-run_next-clause-quiet
returns-in-Some-run_next-clause-quiet c local =
    stays_from (turn_at c.args.self.now.processes.list.items c.args.self.now.objects c.args.self.now.blocked.items c.args.pid c.in_ok-place.place
    c.index.result.now
    c.requires.consistent c.requires.list c.requires.sound c.in_ok-place.ensures.first c.index.ensures (sym c.is_ready.ensures ∙ c.if-not-is_ready.false))
    c.args.library.now c.call_next.new.self.processes.list.items c.call_next.new.self.objects c.call_next.new.self.blocked.items (same_processes
    (c.in_default.ensures {u = tt}).unchanged)
    (same_objects (c.in_default.ensures {u = tt}).unchanged) (same_blocked (c.in_default.ensures {u = tt}).unchanged) c.index_mut-process.result.now
    c.index_mut-process.ensures.value
    c.run_next.new.process (c.in-Some-run_next.ensures {u = tt}).cpu

pub returns-in-Some-clause-unheld : goal.returns-in-Some-clause-unheld
returns-in-Some-clause-unheld c apart = ended_again c.leave.new.processes.list.items c.call_next.new.self.objects c.end_behind.new.objects c.end_behind.ensures

pub returns-clause-unheld : goal.returns-clause-unheld
returns-clause-unheld c apart = ended_again c.leave-2.new.processes.list.items c.end.new.objects c.end_behind-2.new.objects c.end_behind-2.ensures

pub run_next-requires-clause-sure : goal.run_next-requires-clause-sure
run_next-requires-clause-sure c =
    goes_from (turn_at c.args.self.now.processes.list.items c.args.self.now.objects c.args.self.now.blocked.items c.args.pid c.in_ok-place.place
    c.index.result.now
    c.requires.consistent c.requires.list c.requires.sound c.in_ok-place.ensures.first c.index.ensures (sym c.is_ready.ensures ∙ c.if-not-is_ready.false))
    c.args.library.now c.call_next.new.self.processes.list.items c.call_next.new.self.objects c.call_next.new.self.blocked.items
    (same_processes (c.in_default.ensures {u = tt}).unchanged) (same_objects (c.in_default.ensures {u = tt}).unchanged) (same_blocked (c.in_default.ensures {u
    = tt}).unchanged)
    c.index_mut-process.result.now c.index_mut-process.ensures.value c.requires.verified c.requires.covered

pub returns-in-Some-clause-child : goal.returns-in-Some-clause-child
returns-in-Some-clause-child c =
    call_notes c.args.library.now c.args.self.now.processes.list.items c.args.self.now.objects c.args.self.now.blocked.items c.args.pid c.in_ok-place.place
    c.index.result.now
    c.in_ok-place.ensures.first c.index.ensures _ _ c.in-Some.call c.in-Some.outcome c.call_next.new.self.taken
    ((c.in-Some.ensures {u = tt}).calls c.index.result.now (here c.args.self.now.processes.list.items c.args.pid c.in_ok-place.place c.index.result.now
    c.in_ok-place.ensures.first c.index.ensures))
    ((c.in-Some.ensures {u = tt}).child c.index.result.now (here c.args.self.now.processes.list.items c.args.pid c.in_ok-place.place c.index.result.now
    c.in_ok-place.ensures.first c.index.ensures))

pub returns-in-Some-clause-task : goal.returns-in-Some-clause-task
returns-in-Some-clause-task c =
    kill_notes c.args.library.now c.args.self.now.processes.list.items c.args.self.now.objects c.args.self.now.blocked.items c.args.pid c.in_ok-place.place
    c.index.result.now
    c.in_ok-place.ensures.first c.index.ensures _ _ c.in-Some.call c.in-Some.outcome c.call_next.new.self.taken
    ((c.in-Some.ensures {u = tt}).calls c.index.result.now (here c.args.self.now.processes.list.items c.args.pid c.in_ok-place.place c.index.result.now
    c.in_ok-place.ensures.first c.index.ensures))
    ((c.in-Some.ensures {u = tt}).task c.index.result.now (here c.args.self.now.processes.list.items c.args.pid c.in_ok-place.place c.index.result.now
    c.in_ok-place.ensures.first c.index.ensures))

pub run_next-requires-clause-no_call : goal.run_next-requires-clause-no_call
run_next-requires-clause-no_call c =
    (c.in_default.ensures {u = tt}).missing c.index_mut-process.result.now
    (here c.args.self.now.processes.list.items c.args.pid c.in_ok-place.place c.index_mut-process.result.now c.in_ok-place.ensures.first
    (rw (same_processes (c.in_default.ensures {u = tt}).unchanged) at c.index_mut-process.ensures.value))
