use Rattle.zl_asm.proofs.Common.{List, ap, append-nil, append_assoc, codes, cond, eqb, get_or, register_text, string_bytes, sym, ℕ, ◌++◌, ◌∙◌}
use Rattle.zl_asm.proofs.Joined.{register_more}
use Rattle.zl_asm.proofs.disassembling.push_registers.Goals as goal

pub loop-place-init : goal.loop-place-init
loop-place-init c = sym (append-nil (string_bytes c.args.text.now))

pub loop-place-preserved : goal.loop-place-preserved
loop-place-preserved c =
    let at = c.loop-place.place in
    let pushed = cond (eqb at 0) (codes " ") (codes ", ") ++ register_text (get_or c.args.registers.now at 0) in
    rw c.separator_behind.ensures at (c.in_ok-push_register.ensures {u = tt})
    ∙ ap (λ (x : List ℕ). x ++ pushed) c.loop-place.invariant
    ∙ append_assoc (string_bytes c.args.text.now) _ pushed
    ∙ ap (λ (x : List ℕ). string_bytes c.args.text.now ++ x) (sym (register_more (codes " ") c.args.registers.now at 0 c.loop-place-test.true))
