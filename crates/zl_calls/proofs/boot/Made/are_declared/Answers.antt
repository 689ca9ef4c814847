use Rattle.zl_calls.proofs.Common.{seen, sym, ◌∙◌}
use Rattle.zl_calls.proofs.boot.BootDeclared.{all_fit, not_as_many, one_misfit, one_more}
use Rattle.zl_calls.proofs.boot.Made.are_declared.Goals as goal

pub returns-then-starts-handles : goal.returns-then-starts-handles
returns-then-starts-handles c = sym (not_as_many (seen c.args.self.now).objects c.args.starts.now c.args.handles.now c.requires.may c.if-starts-handles.true)

pub loop-number-preserved : goal.loop-number-preserved
loop-number-preserved c =
    one_more (seen c.args.self.now).objects c.args.starts.now c.args.handles.now c.loop-number.number c.if-starts-handles.false c.requires.may
    c.loop-number.invariant _ _ c.loop-number-test.true (sym c.fits.ensures ∙ c.if-not-fits.false)

pub returns-then-not-fits : goal.returns-then-not-fits
returns-then-not-fits c =
    sym (one_misfit (seen c.args.self.now).objects c.args.starts.now c.args.handles.now c.loop-number.number c.if-starts-handles.false c.requires.may
    c.loop-number.invariant _ _ c.loop-number-test.true (sym c.fits.ensures ∙ c.if-not-fits.true))

pub returns : goal.returns
returns c =
    sym (all_fit (seen c.args.self.now).objects c.args.starts.now c.args.handles.now c.loop-number.number c.if-starts-handles.false c.requires.may
    c.loop-number.invariant c.loop-number-test.false)
