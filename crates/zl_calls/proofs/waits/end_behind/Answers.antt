use Rattle.zl_calls.proofs.Common.{sym, ◌∙◌}
use Rattle.zl_calls.proofs.waits.TakenEnds.{no_waits_end, unless_empty}
use Rattle.zl_calls.proofs.waits.end_behind.Goals as goal

pub end_taken-requires-clause-known : goal.end_taken-requires-clause-known
end_taken-requires-clause-known c = c.requires.known c.has_waits.ensures.there

pub returns-else-has_waits : goal.returns-else-has_waits
returns-else-has_waits c =
    no_waits_end c.args.processes.now.list.items c.args.objects.now c.requires.consistent
    (unless_empty c.args.objects.now.waits (sym c.has_waits.ensures.any ∙ c.if-has_waits.false))
