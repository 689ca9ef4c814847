use Rattle.zl_code.proofs.Common.{rules}
use Rattle.zl_code.proofs.ImageCalls.{known_bytes, known_in_range}
use Rattle.zl_code.proofs.known.known_call.Goals as goal

pub returns-clause-bytes : goal.returns-clause-bytes
returns-clause-bytes c =
    known_bytes _ _ c.args.fields.registers c.args.fields.last (search rules) (search rules) (λ i. search rules) c.in-Some.ensures.found
    c.in-Some.ensures.opcode c.requires.last

pub returns-clause-in_range : goal.returns-clause-in_range
returns-clause-in_range c =
    known_in_range _ c.args.fields.opcode c.args.fields.registers c.args.fields.last (search rules) (search rules) (λ i. search rules) c.in-Some.ensures.found
    c.requires.registers c.requires.last
