use Rattle.zl_calls.proofs.Common.{Handles, ap, is_over, lives_on, refl, sym, ◌∙◌}
use Rattle.zl_calls.proofs.calls.kill.close_if_ended.Goals as goal

pub returns-then-lives : goal.returns-then-lives
returns-then-lives c = lives_on c.args.process.now c.args.objects.now (sym c.lives.ensures ∙ c.if-lives.true)

pub returns : goal.returns
returns c =
    is_over c.args.process.now _ c.args.objects.now c.close_all.new.objects (sym c.lives.ensures ∙ c.if-lives.false) refl
    (ap (λ (t : Handles). t.entries) c.replace-table.ensures.after ∙ c.new.ensures.entries)
    (ap (λ (t : Handles). t.last) c.replace-table.ensures.after ∙ c.new.ensures.last)
    (rw (c.replace-table.ensures.value) at c.close_all.ensures.closes) (rw (c.replace-table.ensures.value) at c.close_all.ensures.waits)
