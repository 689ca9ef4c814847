use Rattle.zl_code.proofs.Common.{refl, rules, ◌∙◌}
use Rattle.zl_code.proofs.ImageInstr.{unknown_in_range, instr_fault-unknown}
use Rattle.zl_code.proofs.known.unknown.Goals as goal

pub returns-then-raw-clause-in_range : goal.returns-then-raw-clause-in_range
returns-then-raw-clause-in_range c = unknown_in_range c.args.version c.args.raw c.args.bytes c.if-raw.true (search rules) (λ i. search rules) c.requires

pub returns-then-raw-clause-fault : goal.returns-then-raw-clause-fault
returns-then-raw-clause-fault c = instr_fault-unknown c.args.version c.args.raw c.args.bytes c.requires ∙ rw c.if-raw.true refl

pub returns-else-raw-clause-fault : goal.returns-else-raw-clause-fault
returns-else-raw-clause-fault c = instr_fault-unknown c.args.version c.args.raw c.args.bytes c.requires ∙ rw (c.if-raw.false, c.at.ensures) refl
