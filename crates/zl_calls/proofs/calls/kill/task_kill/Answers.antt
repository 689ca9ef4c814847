use Rattle.zl_calls.proofs.Common.{AreKeptBut, LeavesListed, Objects, Ok, Releases, TaskKillDoes, [], all_koids, ap, arith, ended_within, killing, map, parts}
use Rattle.zl_calls.proofs.Common.{subst}
use Rattle.zl_calls.proofs.Common.{sym, ◌∙◌}
use Rattle.zl_calls.proofs.parts.KillLists.{others_closed}
use Rattle.zl_calls.proofs.parts.KillParts.{killed_so, still_as_many, still_there}
use Rattle.zl_calls.proofs.calls.kill.task_kill.Goals as goal

pub close_ended-requires-clause-others : goal.close_ended-requires-clause-others
close_ended-requires-clause-others g c = λ whole.
    others_closed c.args.parts.now.objects c.in_ok-task.task.koid c.list_task-list.result.koids.items (c.list_task-list.ensures.task whole)
    c.args.parts.now.processes.list.items c.end_within-all_stay.new.processes.list.items c.requires.closed
    (c.end_within-all_stay.ensures.ended
    ∙ ap (λ (r : Objects). map (ended_within r c.in_ok-task.task.koid) c.args.parts.now.processes.list.items) c.list_task-list.ensures.unchanged)

pub returns-clause-does : goal.returns-clause-does
returns-clause-does g c = λ caller at.
    subst (λ (r : Objects). TaskKillDoes c.args.task caller (parts c.args.parts.now.processes.list.items c.args.parts.now.objects
    c.args.parts.now.blocked.items) (Ok tt)
    (parts c.close_ended.new.processes.list.items r c.leave_blocked.new.blocked.items)) (sym c.put_back.ensures)
    (killed_so c.args.parts.now.processes.list.items c.args.parts.now.objects c.args.parts.now.blocked.items c.args.place c.args.task caller at
    c.index.result.now c.index.ensures
    c.in_ok-task.task (c.in_ok-task.ensures {u = tt}) c.kill.new.self c.close_ended.new.objects c.end_within-all_stay.new.processes.list.items
    c.close_ended.new.processes.list.items c.leave_blocked.new.blocked.items
    (c.end_within-all_stay.ensures.ended
    ∙ ap (λ (r : Objects). map (ended_within r c.in_ok-task.task.koid) c.args.parts.now.processes.list.items) c.list_task-list.ensures.unchanged)
    (subst (λ (r : Objects). Releases [] (all_koids r.objects) (killing r c.in_ok-task.task.koid) c.kill.new.self) c.list_task-list.ensures.unchanged
    (c.kill.ensures.releases (subst (λ (r : Objects). AreKeptBut [] r.objects) (sym c.list_task-list.ensures.unchanged) c.requires.kept)))
    (subst (λ (r : Objects). LeavesListed r c.kill.new.self) c.list_task-list.ensures.unchanged c.kill.ensures.listed)
    c.close_ended.ensures c.leave_blocked.ensures.items)

pub returns-clause-caller : goal.returns-clause-caller
returns-clause-caller g c = λ caller at.
    still_there c.args.parts.now.processes.list.items c.end_within-all_stay.new.processes.list.items c.close_ended.new.processes.list.items
    c.list_task-list.new.self c.in_ok-task.task.koid c.end_within-all_stay.ensures.ended c.kill.new.self c.close_ended.new.objects
    c.close_ended.ensures c.args.place caller at

pub returns-clause-room : goal.returns-clause-room
returns-clause-room g c room =
    omega (
      arith,
      room,
      c.leave_blocked.ensures.capacity,
      still_as_many c.args.parts.now.processes.list.items c.end_within-all_stay.new.processes.list.items c.close_ended.new.processes.list.items
          c.list_task-list.new.self c.in_ok-task.task.koid c.end_within-all_stay.ensures.ended c.kill.new.self c.close_ended.new.objects c.close_ended.ensures,
    )
