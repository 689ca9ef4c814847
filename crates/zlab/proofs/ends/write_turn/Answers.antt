use Rattle.zlab.proofs.Answering.{both_ok}
use Rattle.zlab.proofs.Common.{[], on_err, sym, ◌∙◌}
use Rattle.std.specs.Prelude.{string_bytes}
use Rattle.zlab.proofs.SearchText.{when_ok}
use Rattle.zlab.specs.Ends.{PushesTurns, all_turns, bad_line, no_turns, turns_begun}
use Rattle.zlab.proofs.ends.write_turn.Goals as goal

pub returns-then-is_err-clause-ok : goal.returns-then-is_err-clause-ok
returns-then-is_err-clause-ok g c =
    both_ok c.write_memory.result _ _ _ (λ v is last. rw is (no_turns last)) c.write_memory.ensures.verdict c.write_memory.ensures.ok

pub returns-in_err-write_all-clause-err : goal.returns-in_err-write_all-clause-err
returns-in_err-write_all-clause-err g c =
    let pushes : PushesTurns c.args.limit c.args.turn.now.turns.items (bad_line c.args.turn.now.bad) [] (string_bytes c.push_turn.new.text) =
    rw c.clear.ensures.bytes at (when_ok c.push_turn.result (sym c.is_err.ensures.value ∙ c.if-is_err.false) c.push_turn.ensures) in
    on_err c.from_residual.result
    (turns_begun (string_bytes c.push_turn.new.text) pushes (rw c.as_bytes.ensures.value at (c.in_err-write_all.ensures {u = tt}).err))

pub returns-clause-ok : goal.returns-clause-ok
returns-clause-ok g c =
    let pushes : PushesTurns c.args.limit c.args.turn.now.turns.items (bad_line c.args.turn.now.bad) [] (string_bytes c.push_turn.new.text) =
    rw c.clear.ensures.bytes at (when_ok c.push_turn.result (sym c.is_err.ensures.value ∙ c.if-is_err.false) c.push_turn.ensures) in
    all_turns (string_bytes c.push_turn.new.text) pushes (rw c.as_bytes.ensures.value at (c.in_ok-write_all.ensures {u = tt}).ok)
