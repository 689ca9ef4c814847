use Rattle.zl_calls.proofs.Common.{List, and_parts, ap, arith, ended_among, map, sym, take_all, take_more, ℕ, ◌∙◌}
use Rattle.zl_calls.proofs.parts.KillLists.{none_ended, one_ended}
use Rattle.zl_calls.proofs.calls.kill.end_each.Goals as goal

pub loop-koid-init : goal.loop-koid-init
loop-koid-init c = record { ended = none_ended c.args.objects.now c.args.task c.args.processes.now.list.items; blocked = λ stay blocked are. are }

pub loop-koid-preserved : goal.loop-koid-preserved
loop-koid-preserved c = record {
  ended = one_ended c.args.objects.now c.args.task c.args.processes.now.list.items c.loop-koid.processes.list.items
      c.end_at-all_stay.new.processes.list.items _ _
      c.loop-koid.invariant.ended c.end_at-all_stay.ensures.ended
      ∙ ap (λ (ks : List ℕ). map (ended_among c.args.objects.now c.args.task ks) c.args.processes.now.list.items)
      (sym (take_more c.args.koids.now c.loop-koid.koid-index 0 c.loop-koid-test.true));
  blocked = λ stay blocked are.
      let parts = and_parts c.loop-koid.all_stay c.end_at-all_stay.result stay in
      c.end_at-all_stay.ensures.blocked parts.1 blocked (c.loop-koid.invariant.blocked parts.0 blocked are);
}

pub returns-clause-ended : goal.returns-clause-ended
returns-clause-ended c =
    c.loop-koid.invariant.ended ∙ ap (λ (ks : List ℕ). map (ended_among c.args.objects.now c.args.task ks) c.args.processes.now.list.items)
    (take_all c.loop-koid.koid-index c.args.koids.now (omega (arith, c.loop-koid-test.false)))
