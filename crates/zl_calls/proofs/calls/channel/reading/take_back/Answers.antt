use Rattle.zl_calls.proofs.Common.{arith, subst, take, ℕ, ◌-◌, ◌≡◌}
use Rattle.zl_calls.proofs.tables.Entered.{Grown, told_at, told_first, told_none, may_tell, one_back, all_back}
use Rattle.zl_calls.proofs.calls.channel.reading.take_back.Goals as goal
use Rattle.zl_calls.proofs.calls.channel.reading.take_back.Goals.{then-n-eq0, else-n-eq0}

pub undo-requires : goal.undo-requires
undo-requires c = record {
  told =
      may_tell c.requires.before c.loop-n.table c.args.last c.args.values.now c.loop-n.n (c.loop-n.n - 1) 0 (omega (arith, c.loop-n-test.true))
      (omega (arith, c.loop-n.auto)) c.requires.was (c.loop-n.invariant.left c.requires) c.if-n-eq0.told
      (elim c.if-n-eq0.branch as (λ _. c.if-n-eq0.told ≡ told_at (c.loop-n.n - 1) c.args.last) [
        | then-n-eq0 w ↦ told_first (c.loop-n.n - 1) c.args.last c.if-n-eq0.told w.if-n-eq0.true w.told-is
        | else-n-eq0 w ↦ told_none (c.loop-n.n - 1) c.args.last c.if-n-eq0.told w.if-n-eq0.false w.told-is
      ]);
}

pub loop-n-preserved : goal.loop-n-preserved
loop-n-preserved c = record {
  left =
      λ from. one_back from.before c.loop-n.table c.args.last c.args.values.now c.loop-n.n (c.loop-n.n - 1) 0 (omega (arith, c.loop-n-test.true))
      (omega (arith, c.loop-n.auto)) from.was (c.loop-n.invariant.left from) c.if-n-eq0.told
      (elim c.if-n-eq0.branch as (λ _. c.if-n-eq0.told ≡ told_at (c.loop-n.n - 1) c.args.last) [
        | then-n-eq0 w ↦ told_first (c.loop-n.n - 1) c.args.last c.if-n-eq0.told w.if-n-eq0.true w.told-is
        | else-n-eq0 w ↦ told_none (c.loop-n.n - 1) c.args.last c.if-n-eq0.told w.if-n-eq0.false w.told-is
      ]) c.undo.result c.undo.new.self c.undo.ensures.taken_back;
}

pub returns : goal.returns
returns c =
    let over : ◌≡◌ {A = ℕ} c.loop-n.n 0 = omega (arith, c.loop-n-test.false) in
    λ from. all_back from.before c.loop-n.table (subst (λ k. Grown from.before (take k c.args.values.now) c.loop-n.table) over (c.loop-n.invariant.left from))
