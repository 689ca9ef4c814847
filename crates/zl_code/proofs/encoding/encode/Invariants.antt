use Rattle.zl_code.proofs.Common.{flat_map, header, instr_bytes, slot_bytes, start_bytes, take, ◌++◌, ◌≡◌}
use Rattle.zl_code.proofs.encoding.encode.Given as goal

abbrev pub invariant-loop-instr : goal.invariant-loop-instr
invariant-loop-instr l =
    l.out.items
    ≡ header l.image ++ (flat_map start_bytes l.image.starts ++ (flat_map slot_bytes l.image.slots ++ flat_map instr_bytes (take l.instr-index l.image.code)))
