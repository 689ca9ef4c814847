use Rattle.zl_calls.proofs.Common.{sym, ◌∙◌}
use Rattle.zl_calls.proofs.step.Calling.{called_among}
use Rattle.zl_calls.proofs.step.Places.{counter_at, none_at, site_at}
use Rattle.zl_calls.proofs.parts.Parts.call_next.Goals as goal

pub returns-then-checked-clause-calls : goal.returns-then-checked-clause-calls
returns-then-checked-clause-calls c =
    called_among c.args.library.now c.args.self.now.processes.list.items c.args.self.now.objects c.args.self.now.blocked.items c.args.place c.index.result.now
    c.requires.may.calling.within c.index.ensures c.in-Some.call c.call_checked-outcome.result _ c.in-Some.ensures.found
    (rw c.note_taken.ensures.unchanged at c.call_checked-outcome.ensures.acts)

pub returns-then-not-has_its_memory-clause-missing : goal.returns-then-not-has_its_memory-clause-missing
returns-then-not-has_its_memory-clause-missing c p at =
    none_at c.args.library.now c.args.self.now.processes.list.items c.args.place c.index.result.now c.index.ensures c.in-Some.call c.in-Some.ensures.found p at
    c.index-2.result.now c.index-2.ensures (sym c.has_its_memory.ensures ∙ c.if-not-has_its_memory.true)

pub call-outcome-requires-clause-there : goal.call-outcome-requires-clause-there
call-outcome-requires-clause-there c p at =
    site_at c.args.library.now c.args.self.now.processes.list.items c.args.place c.index.result.now c.index.ensures c.in-Some.call c.in-Some.ensures.found p at
    c.index-2.result.now c.index-2.ensures (sym c.has_its_memory.ensures ∙ c.if-not-has_its_memory.false)

pub call-outcome-requires-clause-counter : goal.call-outcome-requires-clause-counter
call-outcome-requires-clause-counter c p at =
    counter_at c.args.library.now c.args.self.now.processes.list.items c.args.place c.index.result.now c.index.ensures c.in-Some.call c.in-Some.ensures.found
    p at
    c.in-Some.ensures.within

pub returns-clause-calls : goal.returns-clause-calls
returns-clause-calls c =
    called_among c.args.library.now c.args.self.now.processes.list.items c.args.self.now.objects c.args.self.now.blocked.items c.args.place c.index.result.now
    c.requires.may.calling.within c.index.ensures c.in-Some.call c.call-outcome.result _ c.in-Some.ensures.found
    (rw c.note_taken-2.ensures.unchanged at c.call-outcome.ensures.acts)
