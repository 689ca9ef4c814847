use Rattle.zl_objects.proofs.Common.{false}
use Rattle.zl_objects.proofs.Buried.{fewer_live, removed_fewer}
use Rattle.zl_objects.proofs.Index.{others_keep, others_listed}
use Rattle.zl_objects.proofs.children.Children.bury.Goals as goal

pub returns-clause-others : goal.returns-clause-others
returns-clause-others c =
    others_listed c.args.koid (λ j k apart h. h)
    (others_keep c.args.self.now.jobs c.remove.new.self c.args.job c.args.koid false c.remove.ensures.updates)
    (others_keep c.args.self.now.processes c.remove-2.new.self c.args.job c.args.koid false c.remove-2.ensures.updates)

pub returns-clause-fewer : goal.returns-clause-fewer
returns-clause-fewer c =
    fewer_live c.args.self.now (record { pairs = c.args.self.now.pairs; jobs = c.remove.new.self; processes = c.remove-2.new.self })
    (removed_fewer c.args.self.now.jobs c.remove.new.self c.args.job c.args.koid c.remove.ensures.updates)
    (removed_fewer c.args.self.now.processes c.remove-2.new.self c.args.job c.args.koid c.remove-2.ensures.updates)
