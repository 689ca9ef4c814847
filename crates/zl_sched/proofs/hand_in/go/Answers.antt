use Rattle.zl_sched.proofs.Common.{EndsFrom, List, TraceItem, advanced, ap, append_assoc, arith, is_more, is_ready, length, length-append, refl, run_items, ◌++◌}
use Rattle.zl_sched.proofs.Common.{◌∙◌}
use Rattle.zl_sched.proofs.HandedIn.{run_length}
use Rattle.zl_sched.proofs.MarksKept.{state_kept}
use Rattle.zl_sched.proofs.hand_in.go.Goals as goal

pub end-requires-clause-ready : goal.end-requires-clause-ready
end-requires-clause-ready c =
    rw (c.advance-spent.ensures.cpu, c.pid-pid.ensures)
    (state_kept c.args.world.now.world c.args.done.pid (λ p. record p { cpu = c.args.done.to }) (λ y. refl) is_ready c.args.done.pid ∙ c.requires.ready)

pub push_run-requires : goal.push_run-requires
push_run-requires c =
    let run = run_length c.args.done.pid c.args.done.ran in
    record { room = rw (c.pid-pid.ensures, c.ran.ensures.count) (omega (arith, c.requires.room, run)) }

pub end-requires-clause-room : goal.end-requires-clause-room
end-requires-clause-room c =
    let run = run_length c.args.done.pid c.args.done.ran in
    let longer = length-append c.args.items.now.items (run_items c.args.done.pid c.args.done.ran) in
    let items = ap length (rw (c.pid-pid.ensures, c.ran.ensures.count) at c.push_run.ensures.items) in
    rw (c.is_more-is_only_local.ensures, c.stop.ensures) (omega (arith, c.requires.room, c.push_run.ensures.capacity, run, longer, items))

pub returns : goal.returns
returns c =
    let behind : EndsFrom (is_more c.args.done.stop) (advanced c.args.world.now c.args.done) c.push_run.new.items.items c.args.done.pid c.end.result
    c.end.new.world c.end.new.items.items
    = rw (c.is_more-is_only_local.ensures, c.stop.ensures, c.advance-spent.ensures.cpu, c.pid-pid.ensures) at c.end.ensures in
    record {
      steps = rw c.advance-spent.ensures.cpu at c.advance-spent.ensures.steps;
      last = behind.last;
      items_are = behind.items_are ∙ (ap (λ (xs : List TraceItem). xs ++ behind.last) (rw (c.pid-pid.ensures, c.ran.ensures.count) at c.push_run.ensures.items)
          ∙ append_assoc c.args.items.now.items (run_items c.args.done.pid c.args.done.ran) behind.last);
      ends = behind.ends;
      changes = behind.changes;
    }
