use Rattle.zl_calls.proofs.Common.{refl, sym, ◌∙◌}
use Rattle.zl_calls.proofs.tables.Taking.{none_in}
use Rattle.zl_calls.proofs.calls.handle.live_at.Goals as goal

pub returns-then-live-eq0 : goal.returns-then-live-eq0
returns-then-live-eq0 g c = rw (none_in c.args.table.now.entries c.args.value (sym c.len-live.ensures.count ∙ c.if-live-eq0.true)) refl
