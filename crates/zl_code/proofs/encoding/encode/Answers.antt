use Rattle.zl_code.proofs.Common.{Instr, List, ap, arith, flat_map, header, instr_bytes, length, nat_tests, slot_bytes, start_bytes, take_all, ◌++◌, ◌∙◌, ◌≤◌}
use Rattle.zl_code.proofs.encoding.encode.Goals as goal

pub returns : goal.returns
returns c =
    let i = c.args.image.now in
    let code_is = c.deref-instr-items.ensures.value in
    let all : length i.code ≤ c.loop-instr.instr-index = grind (arith, nat_tests, c.loop-instr-test.false, code_is) in
    record {
      spelled = record {
        same = c.loop-instr.invariant
            ∙ ap (λ (xs : List Instr). header i ++ (flat_map start_bytes i.starts ++ (flat_map slot_bytes i.slots ++ flat_map instr_bytes xs)))
            (take_all c.loop-instr.instr-index i.code all);
        in_range = rw (← c.image.view_is) c.image.invariant;
      };
    }
