use Rattle.zl_asm.proofs.Common.{Denotes, List, subst, sym, ℕ}
use Rattle.zl_asm.proofs.Laid.{text_written, needs_in_range}
use Rattle.zl_asm.proofs.RoundWhole.{each_text_denotes}
use Rattle.zl_asm.proofs.disassembling.disassemble.Goals as goal

pub returns-clause-text : goal.returns-clause-text
returns-clause-text c =
    let written = rw c.new-text.ensures.bytes at (c.in_ok-push_directives.ensures {u = tt}) in
    let last = rw c.code-code.ensures.value at (rw c.version-2.ensures at (c.in_ok-push_code.ensures {u = tt})) in
    text_written c.args.image.now _ _ (needs_in_range c.args.image.now c.code-code.ensures.in_range) written last

pub returns-clause-denotes : goal.returns-clause-denotes
returns-clause-denotes c =
    let written = rw c.new-text.ensures.bytes at (c.in_ok-push_directives.ensures {u = tt}) in
    let last = rw c.code-code.ensures.value at (rw c.version-2.ensures at (c.in_ok-push_code.ensures {u = tt})) in
    let text = text_written c.args.image.now _ _ (needs_in_range c.args.image.now c.code-code.ensures.in_range) written last in
    subst (λ (x : List ℕ). Denotes x c.args.image.now) (sym text) (each_text_denotes c.args.image.now c.code-code.ensures.in_range)
