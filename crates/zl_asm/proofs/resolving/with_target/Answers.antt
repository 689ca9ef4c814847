use Rattle.zl_asm.proofs.Common.{ap, bytes_of, rules, ℕ, ◌++◌, ◌∙◌, ◌∷◌}
use Rattle.zl_asm.proofs.DraftGives.{retargeted}
use Rattle.zl_asm.proofs.resolving.with_target.Goals as goal

pub returns : goal.returns
returns c =
    let e = c.split-parts.ensures in
    c.join.ensures
    ∙ (λ i. e.opcode i ∷ (e.registers i ++ ((c.numbers-last.ensures ∙ ap (λ (n : ℕ). bytes_of 4 n ++ bytes_of 4 c.args.target) (c.imm.ensures ∙ e.imm)) i)))
    ∙ retargeted c.args.bytes c.args.target (search rules) (λ i. search rules)
