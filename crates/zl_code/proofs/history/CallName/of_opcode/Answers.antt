use Rattle.zl_code.proofs.Common.{calls, slice_get, ◌-◌, ◌∙◌, ◌≡◌}
use Rattle.zl_code.proofs.CallList.{call_found, call_numbered, copied_at, no_call}
use Rattle.zl_code.proofs.history.CallName.of_opcode.Goals as goal

-- it is what stands at the place of the opcode
is_at : (c : goal.After-copied) → c.copied.result ≡ slice_get calls (c.args.opcode - 64)
is_at c =
    c.copied.ensures ∙ copied_at c.all.result.now c.from-place.result c.get.result c.get.ensures.lookup ∙ λ i. slice_get (c.all.ensures i)
    (c.from-place.ensures i)

pub returns-clause-found : goal.returns-clause-found
returns-clause-found c = call_found c.args.opcode c.copied.result c.requires (is_at c)

pub returns-clause-opcode : goal.returns-clause-opcode
returns-clause-opcode c = call_numbered c.args.opcode c.copied.result c.requires (is_at c)

pub returns-clause-missing : goal.returns-clause-missing
returns-clause-missing c = no_call c.args.opcode c.copied.result c.requires (is_at c)
