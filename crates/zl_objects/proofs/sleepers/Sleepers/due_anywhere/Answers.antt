use Rattle.zl_objects.proofs.Common.{All-more, All-same, arith, false, is_due, sym, take_all, ◌≡◌}
use Rattle.zl_objects.proofs.sleepers.Sleepers.due_anywhere.Goals as goal

pub loop-place-preserved : goal.loop-place-preserved
loop-place-preserved c =
    All-more (λ s. is_due c.args.by_koid.now.entries s.awaited ≡ false) c.args.self.now.list.items c.loop-place.place c.index.result.now
    (omega (arith, c.loop-place-test.true, c.len-place-end.ensures, c.args.self.now.list.ok.0)) c.loop-place.invariant
    (rw (← c.index.ensures) (sym (c.if-is_due.ensures {u = tt})))

pub returns-clause-none : goal.returns-clause-none
returns-clause-none c = All-same (λ s. is_due c.args.by_koid.now.entries s.awaited ≡ false) _ _
    (sym (take_all c.loop-place.place c.args.self.now.list.items
    (omega (arith, c.loop-place-test.false, c.len-place-end.ensures, c.args.self.now.list.ok.0)))) c.loop-place.invariant
