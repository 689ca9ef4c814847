use Rattle.zl_objects.proofs.Common.{false, sym, true}
use Rattle.zl_objects.proofs.Index.{others_keep}
use Rattle.zl_objects.proofs.Whole.{unless_err}
use Rattle.zl_objects.proofs.children.put_both.Goals as goal

pub returns-then-is_err-clause-others : goal.returns-then-is_err-clause-others
returns-then-is_err-clause-others c = λ j k apart there.
    others_keep c.insert.new.self c.remove.new.self c.args.job c.args.koid false c.remove.ensures.updates j k apart
    (others_keep c.args.pairs.now c.insert.new.self c.args.job c.args.koid true c.in_ok-insert.ensures.updates j k apart there)

pub returns-clause-others : goal.returns-clause-others
returns-clause-others c = others_keep c.args.pairs.now c.insert.new.self c.args.job c.args.koid true c.in_ok-insert.ensures.updates

pub returns-clause-others_living : goal.returns-clause-others_living
returns-clause-others_living c =
    others_keep c.args.living.now c.insert-2.new.self c.args.job c.args.koid true
    (unless_err c.insert-2.result _ c.insert-2.ensures.updates (sym (c.if-is_err.ensures {u = tt}).value))
