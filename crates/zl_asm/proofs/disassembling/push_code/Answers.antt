use Rattle.zl_asm.proofs.Common.{List, ap, append-nil, arith, code_lines_from, drop_all, ended, false, get_or, get_or-map, instr_bytes, is_target, length}
use Rattle.zl_asm.proofs.Common.{length-map, line_text, map, string_bytes, sym, ℕ, ◌++◌, ◌<◌, ◌∙◌, ◌≡◌, ◌≤◌}
use Rattle.zl_asm.proofs.Laid.{line_written}
use Rattle.zl_asm.proofs.disassembling.push_code.Goals as goal

pub loop-n-preserved : goal.loop-n-preserved
loop-n-preserved c =
    let n = c.loop-n.n in
    let code = map instr_bytes c.args.code.now in
    let bytes = instr_bytes c.index-code-n.result in
    let len : length code ≡ length c.args.code.now = length-map c.args.code.now instr_bytes in
    let within : n < length code = omega (arith, len, c.loop-n-test.true) in
    let here : get_or code n bytes ≡ bytes =
    get_or-map instr_bytes c.args.code.now n c.index-code-n.result bytes c.loop-n-test.true ∙ ap instr_bytes (sym c.index-code-n.is) in
    let marked : get_or c.args.targets.now n false ≡ is_target c.args.version code n = c.requires.each n c.loop-n-test.true in
    line_written c.args.version code n bytes within _ (string_bytes c.loop-n.text) _ c.loop-n.invariant
    ((c.in_ok-push_line.ensures {u = tt}) ∙ (λ i. string_bytes c.loop-n.text ++ line_text c.args.version (sym len i) n (marked i) (sym here i)))

pub returns : goal.returns
unfolding code_lines_from
returns c =
    let code = map instr_bytes c.args.code.now in
    let over : length code ≤ c.loop-n.n = omega (arith, length-map c.args.code.now instr_bytes, c.loop-n-test.false) in
    sym (append-nil (string_bytes c.loop-n.text))
    ∙ ap (λ (rest : List (List ℕ)). string_bytes c.loop-n.text ++ ended (code_lines_from c.args.version code c.loop-n.n rest)) (sym
    (drop_all c.loop-n.n code over))
    ∙ c.loop-n.invariant
