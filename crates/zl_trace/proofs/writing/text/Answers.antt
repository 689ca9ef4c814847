use Rattle.zl_trace.proofs.Common.{string_bytes}
use Rattle.zl_trace.proofs.KnownOutput.{on_err, when_both, when_err}
use Rattle.zl_trace.proofs.Pieces.{items_begun, states_begun, end_wanting, end_begun, all_gathered}
use Rattle.zl_trace.proofs.writing.text.Goals as goal

pub returns-in_err-write_items-clause-err : goal.returns-in_err-write_items-clause-err
returns-in_err-write_items-clause-err g c =
    on_err c.from_residual.result
    (items_begun c.args.system.now c.args.end (string_bytes c.args.block.now) _ _ (rw c.items.ensures.items at (c.in_err-write_items.ensures).err))

pub returns-in_err-write_states-clause-err : goal.returns-in_err-write_states-clause-err
returns-in_err-write_states-clause-err g c =
    on_err c.from_residual-in_err-write_states.result
    (states_begun c.args.system.now c.args.end (string_bytes c.args.block.now) _ _ _ (rw c.items.ensures.items at (c.in_ok-write_items.ensures).ok) _
    (rw c.world.ensures at (c.in_err-write_states.ensures).err))

pub returns-in_err-push_end-clause-err : goal.returns-in_err-push_end-clause-err
returns-in_err-push_end-clause-err g c =
    on_err c.from_residual-in_err-push_end.result
    (end_wanting c.args.system.now c.args.end (string_bytes c.args.block.now) _ _ _ (rw c.items.ensures.items at (c.in_ok-write_items.ensures).ok) _ _
    (rw c.world.ensures at (c.in_ok-write_states.ensures).ok))

pub returns-clause-ok : goal.returns-clause-ok
returns-clause-ok g c =
    when_both c.write_block.result c.write_block.ensures.ok c.write_block.ensures.empty
    (all_gathered c.args.system.now c.args.end (string_bytes c.args.block.now) _ _ _ (rw c.items.ensures.items at (c.in_ok-write_items.ensures).ok) _ _
    (rw c.world.ensures at (c.in_ok-write_states.ensures).ok) _ c.in_ok-push_end.ensures _ _)

pub returns-clause-err : goal.returns-clause-err
returns-clause-err g c =
    when_err c.write_block.result c.write_block.ensures.err
    (end_begun c.args.system.now c.args.end (string_bytes c.args.block.now) _ _ _ (rw c.items.ensures.items at (c.in_ok-write_items.ensures).ok) _ _
    (rw c.world.ensures at (c.in_ok-write_states.ensures).ok) _ c.in_ok-push_end.ensures _)
