use Rattle.zl_objects.proofs.Common.{false}
use Rattle.zl_objects.proofs.Index.{others_keep, others_listed}
use Rattle.zl_objects.proofs.children.Children.remove.Goals as goal

pub returns-then-remove : goal.returns-then-remove
returns-then-remove c = λ i b apart listed. c.bury.ensures.others i b apart
    (others_listed c.args.koid (others_keep c.args.self.now.pairs c.remove.new.self c.args.job c.args.koid false c.remove.ensures.updates)
    (λ j k out h. h) (λ j k out h. h) i b apart listed)
