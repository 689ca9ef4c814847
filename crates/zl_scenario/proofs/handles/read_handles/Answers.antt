use Rattle.zl_scenario.proofs.Common.{arith}
use Rattle.zl_scenario.proofs.HandleWords.{added, at_first, one_more, at_other, at_last}
use Rattle.zl_scenario.proofs.handles.read_handles.Goals as goal

pub loop-word-init : goal.loop-word-init
loop-word-init c = rw c.new-handles.ensures (at_first c.args.words.now)

pub returns-in_default : goal.returns-in_default
returns-in_default c = at_other c.args.words.now c.loop-word.word-index _ c.loop-word.handles c.loop-word-test.true c.in_default.ensures c.loop-word.invariant

pub loop-word-preserved : goal.loop-word-preserved
loop-word-preserved c =
    rw (added c.push.result _ (c.if-is_err.ensures {u = tt}).value c.push.ensures.added)
    (one_more c.args.words.now c.loop-word.word-index _ c.loop-word.handles c.in-Some.handle c.loop-word-test.true c.in-Some.ensures c.loop-word.invariant)

pub returns : goal.returns
returns c = at_last c.args.words.now c.loop-word.word-index c.loop-word.handles (omega arith) c.loop-word.invariant
