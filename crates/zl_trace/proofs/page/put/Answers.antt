use Rattle.zl_trace.proofs.Common.{ap, arith, take, ◌∙◌}
use Rattle.zl_trace.proofs.Pages.{copied}
use Rattle.zl_trace.proofs.page.put.Goals as goal

pub returns-clause-line : goal.returns-clause-line
returns-clause-line c =
    copied c.args.start _ c.args.line.now.len c.args.room.now c.copy_from_slice.new.self _ (omega (arith, c.requires.room))
    (omega (arith, c.copy_from_slice.ensures.len, c.args.line.now.fits))
    (ap (take c.args.line.now.len) c.copy_from_slice.ensures.after ∙ c.args.line.now.is_its)
