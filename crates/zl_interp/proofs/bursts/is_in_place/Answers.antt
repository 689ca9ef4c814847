use Rattle.zl_interp.proofs.Common.{IsTrue}
use Rattle.zl_interp.proofs.Marked.{passes_unmarked, spelled_alike}
use Rattle.zl_interp.proofs.bursts.is_in_place.Goals as goal

pub returns-then-not-marks-n : goal.returns-then-not-marks-n
returns-then-not-marks-n c =
    passes_unmarked c.args.code.now c.args.own.now c.args.marks.now c.args.n c.requires.long c.requires.within c.if-not-marks-n.true

pub returns-else-not-marks-n : goal.returns-else-not-marks-n
returns-else-not-marks-n c =
    spelled_alike c.args.code.now c.args.own.now c.args.marks.now c.args.n c.requires.long c.requires.within c.index-code-n.result c.index-own-n.result
    c.if-not-marks-n.false c.index-code-n.is c.index-own-n.is (IsTrue c.is_spelled_like.result) c.is_spelled_like.ensures
