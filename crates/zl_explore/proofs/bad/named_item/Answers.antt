use Rattle.zl_code.proofs.Common.{false≢true, same_Some, subst, sym, ◌∙◌}
use Rattle.std.proofs.lemmas.Option.{slice_get-get_or}
use Rattle.zl_explore.specs.Bad.{Fits}
use Rattle.zl_explore.proofs.Lists.{none_at_all, none_more}
use Rattle.zl_explore.proofs.bad.named_item.Goals as goal

pub loop-one-preserved : goal.loop-one-preserved
loop-one-preserved c =
    none_more c.args.bad.now (λ b. Fits b c.in_ok-item.item) c.loop-one.one-index _ (slice_get-get_or c.args.bad.now c.loop-one.one-index _
    c.loop-one-test.true)
    (λ fits. false≢true ((c.if-names.ensures {u = tt}).1 fits)) c.loop-one.invariant

pub returns-clause-none : goal.returns-clause-none
returns-clause-none c = λ b x is_in told fits.
    none_at_all c.args.bad.now (λ one. Fits one c.in_ok-item.item) c.loop-one.one-index c.loop-one-test.false c.loop-one.invariant b is_in
    (subst (Fits b) (same_Some x c.in_ok-item.item (sym told ∙ c.in_ok-item.was {u = tt})) fits)
