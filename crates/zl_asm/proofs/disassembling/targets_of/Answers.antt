use Rattle.zl_asm.proofs.Common.{List, aims_at, ap, arith, false, get_or, get_or-map, instr_bytes, length, length-map, map, sym, ℕ, ◌<◌, ◌||◌, ◌∙◌, ◌≡◌}
use Rattle.zl_asm.proofs.Laid.{targets_more}
use Rattle.zl_asm.proofs.disassembling.targets_of.Goals as goal

pub loop-instr-preserved : goal.loop-instr-preserved
loop-instr-preserved c =
    let i = c.loop-instr.instr-index in
    let code = map instr_bytes c.args.code.now in
    let bytes = instr_bytes c.instr-item.result in
    let within : i < length code = omega (arith, length-map c.args.code.now instr_bytes, c.loop-instr-test.true) in
    let here : get_or code i bytes ≡ bytes =
    get_or-map instr_bytes c.args.code.now i c.instr-item.result bytes c.loop-instr-test.true ∙ ap instr_bytes (sym c.instr-item.is) in
    targets_more c.args.version c.loop-instr.targets.items c.mark.new.targets.items code
    (length c.args.code.now) i bytes within c.loop-instr.invariant c.mark.ensures.len
    (λ n below. c.mark.ensures.marked n below ∙ ap (λ (b : List ℕ). get_or c.loop-instr.targets.items n false || aims_at c.args.version n b) (sym here))
