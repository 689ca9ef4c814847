use Rattle.zl_code.proofs.Common.{inr, is_start_in_range, start_bytes, start_fault}
use Rattle.zl_code.proofs.ImageCode.{first_fault_at, no_fault_more, bytes_more, list_all_push}
use Rattle.zl_code.proofs.declarations.starts_of.Goals as goal

pub returns-in-Err-clause-fault : goal.returns-in-Err-clause-fault
returns-in-Err-clause-fault c =
    rw c.in_piece.ensures (inr (first_fault_at start_fault c.args.pieces.now c.loop-piece.piece-index _ _ c.loop-piece-test.true
    c.loop-piece.invariant.none c.in-Err.ensures.fault))

pub loop-piece-preserved : goal.loop-piece-preserved
loop-piece-preserved c =
    let h = c.loop-piece.invariant in
    let e = c.in-Ok.ensures in
    rw c.in_ok-push-in-Ok.ensures.items (record {
      bytes = bytes_more start_bytes _ _ c.args.pieces.now c.loop-piece.piece-index _ c.loop-piece-test.true h.bytes e.bytes;
      in_range = list_all_push is_start_in_range c.loop-piece.starts.items _ h.in_range e.in_range;
      none = no_fault_more start_fault c.args.pieces.now c.loop-piece.piece-index _ c.loop-piece-test.true h.none e.fault;
    })
