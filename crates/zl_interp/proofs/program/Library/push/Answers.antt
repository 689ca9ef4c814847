use Rattle.zl_interp.proofs.Common.{ap, arc_value, program_value}
use Rattle.zl_interp.proofs.Verified.{pushed}
use Rattle.zl_interp.proofs.program.Library.push.Goals as goal

pub invariant_of-self-2 : goal.invariant_of-self-2
invariant_of-self-2 c =
    pushed (λ program. program_value (arc_value program)) c.self.inside.programs.items c.reserve.new.self.items c.push_reserved.new.self.items
    c.in_ok-program.program (program_value c.args.program)
    c.self.invariant c.reserve.ensures.items c.push_reserved.ensures.items (ap program_value c.in_ok-program.ensures.ok) c.verified.ensures.range
    c.verified.ensures.bound
