use Rattle.zl_calls.proofs.Common.{EndsOwn, ObjectEnds, Process, rules, subst}
use Rattle.zl_calls.proofs.waits.OwnWaits.{own_over}
use Rattle.zl_calls.proofs.waits.WaitsLost.{listed_over}
use Rattle.zl_calls.proofs.calls.process.end.Goals as goal

pub returns : goal.returns
returns c = record {
  process = search (rules, c.end-table.ensures.ended);
  no_handle = c.end-table.ensures.no_handle;
  no_last = c.end-table.ensures.no_last;
  between = c.end.new.self;
  over = subst (λ (p : Process). ObjectEnds p.pid c.args.objects.now c.end.new.self) c.end-table.ensures.ended c.end.ensures.ends;
  closes = rw (← c.end-table.ensures.table) c.close_all.ensures.closes;
  waits = own_over c.args.process.now.pid c.args.process.now.table.entries c.args.objects.now c.end.new.self c.close_all.new.objects
      (listed_over _ c.args.objects.now c.end.new.self c.end.ensures.ends c.end.ensures.listed)
      (rw (← c.end-table.ensures.table) (subst (λ (p : Process). EndsOwn p.pid c.end-table.result.entries c.end.new.self c.close_all.new.objects)
      c.end-table.ensures.ended c.close_all.ensures.waits));
}
