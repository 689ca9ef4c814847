use Rattle.zl_code.proofs.Common.{inr, instr_bytes, instr_fault, is_instr_in_range}
use Rattle.zl_code.proofs.ImageCode.{first_fault_at, no_fault_more, bytes_more, list_all_push}
use Rattle.zl_code.proofs.known.code_of.Goals as goal

pub returns-in-Err-clause-fault : goal.returns-in-Err-clause-fault
returns-in-Err-clause-fault c =
    rw c.in_piece.ensures (inr (first_fault_at (instr_fault c.args.version c.args.raw) c.args.pieces.now c.loop-piece.piece-index _ _ c.loop-piece-test.true
    c.loop-piece.invariant.none c.in-Err.ensures.fault))

pub loop-piece-preserved : goal.loop-piece-preserved
loop-piece-preserved c =
    let h = c.loop-piece.invariant in
    let e = c.in-Ok.ensures in
    rw c.in_ok-extend_from_slice-in-Ok.ensures.items (record {
      bytes = bytes_more instr_bytes _ _ c.args.pieces.now c.loop-piece.piece-index _ c.loop-piece-test.true h.bytes e.bytes;
      in_range = list_all_push (is_instr_in_range c.args.version c.args.raw) c.loop-piece.code.items _ h.in_range e.in_range;
      none = no_fault_more (instr_fault c.args.version c.args.raw) c.args.pieces.now c.loop-piece.piece-index _ c.loop-piece-test.true h.none e.fault;
    })
