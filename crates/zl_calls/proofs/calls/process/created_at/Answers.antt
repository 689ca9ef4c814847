use Rattle.zl_calls.proofs.Common.{sym, ◌∙◌}
use Rattle.zl_calls.proofs.parts.StartParts.{is_created_at, misfit_refused, none_refused, not_refused, started_refused}
use Rattle.zl_calls.proofs.calls.process.created_at.Goals as goal

pub returns-in_default-clause-refusal : goal.returns-in_default-clause-refusal
returns-in_default-clause-refusal c = none_refused c.args.library.now c.args.processes.now.list.items c.args.pid c.args.entry.now (c.in_default.ensures {u =
    tt}).first

pub returns-then-not-is_created-clause-refusal : goal.returns-then-not-is_created-clause-refusal
returns-then-not-is_created-clause-refusal c =
    started_refused c.args.library.now c.args.processes.now.list.items c.args.pid c.args.entry.now c.in-Some.place c.index.result.now
    c.in-Some.ensures.first c.index.ensures (sym c.is_created.ensures ∙ c.if-not-is_created.true)

pub returns-then-misfits-clause-refusal : goal.returns-then-misfits-clause-refusal
returns-then-misfits-clause-refusal c =
    misfit_refused c.args.library.now c.args.processes.now.list.items c.args.pid c.args.entry.now c.in-Some.place c.index.result.now
    c.in-Some.ensures.first c.index.ensures c.index-2.result.now c.index-2.ensures (sym c.is_created.ensures ∙ c.if-not-is_created.false)
    (sym c.misfits.ensures ∙ c.if-misfits.true)

pub returns-clause-refusal : goal.returns-clause-refusal
returns-clause-refusal c =
    not_refused c.args.library.now c.args.processes.now.list.items c.args.pid c.args.entry.now c.in-Some.place c.index.result.now
    c.in-Some.ensures.first c.index.ensures c.index-2.result.now c.index-2.ensures (sym c.is_created.ensures ∙ c.if-not-is_created.false)
    (sym c.misfits.ensures ∙ c.if-misfits.false)

pub returns-clause-found : goal.returns-clause-found
returns-clause-found c =
    is_created_at c.args.library.now c.args.processes.now.list.items c.args.pid c.args.entry.now c.in-Some.place c.index.result.now
    c.in-Some.ensures.first c.index.ensures (sym c.is_created.ensures ∙ c.if-not-is_created.false)
