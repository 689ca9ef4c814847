use Rattle.zl_calls.proofs.Common.{All, All-more, All-weaker, IsNoted, List, arith, subst, take, take_all, ℕ}
use Rattle.zl_calls.proofs.tables.TakenBy.{more_noted}
use Rattle.zl_calls.proofs.step.taken.Taken.note_each.Goals as goal

pub loop-value-preserved : goal.loop-value-preserved
loop-value-preserved c =
    All-more (IsNoted c.args.table.now.entries c.note.new.self) c.args.values.now c.loop-value.value-index _ c.loop-value-test.true
    (All-weaker (IsNoted c.args.table.now.entries c.loop-value.self) (IsNoted c.args.table.now.entries c.note.new.self)
    (λ v. more_noted c.args.table.now.entries c.loop-value.self c.note.new.self v c.note.ensures.more) (take c.loop-value.value-index c.args.values.now)
    c.loop-value.invariant) c.note.ensures.noted

pub returns : goal.returns
returns c =
    subst (λ (vs : List ℕ). All (IsNoted c.args.table.now.entries c.loop-value.self) vs)
    (take_all c.loop-value.value-index c.args.values.now (omega (arith, c.loop-value-test.false))) c.loop-value.invariant
