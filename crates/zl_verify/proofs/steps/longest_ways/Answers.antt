use Rattle.zl_verify.proofs.Common.{sym, ◌∙◌}
use Rattle.zl_verify.proofs.Blocked.{count_marks}
use Rattle.zl_verify.proofs.Numbering.{going_begins, ends}
use Rattle.zl_verify.proofs.steps.longest_ways.Goals as goal

pub loop-changed-init : goal.loop-changed-init
loop-changed-init c = going_begins _ _ _ c.requires _ _ (c.len.ensures.value ∙ sym (count_marks c.args.image.now.code)) (c.in_ok-pairs.ensures {u = tt})

pub returns : goal.returns
returns c = ends _ _ _ c.requires _ (rw c.loop-changed-test.false at c.loop-changed.invariant)
