use Rattle.zlab.proofs.Common.{on_err, ◌∙◌}
use Rattle.zlab.proofs.Answering.{is_bounded}
use Rattle.zlab.specs.Replay.{line_begun, no_line}
use Rattle.zlab.proofs.replaying.replay_engine.Goals as goal

pub returns-in_err-input-clause-err : goal.returns-in_err-input-clause-err
returns-in_err-input-clause-err g c = on_err c.from_residual.result no_line

pub returns-in_err-front-clause-err : goal.returns-in_err-front-clause-err
returns-in_err-front-clause-err g c = on_err c.from_residual-in_err-front.result no_line

pub returns-in_err-found-clause-err : goal.returns-in_err-found-clause-err
returns-in_err-found-clause-err g c = on_err c.from_residual-in_err-found.result no_line

pub returns-in_err-write_found-clause-err : goal.returns-in_err-write_found-clause-err
returns-in_err-write_found-clause-err g c =
    let input = c.in_ok-input.ensures.ok in
    let front = c.in_ok-front.ensures.ok in
    let is_true = c.in_ok-found.ensures.ok input.bytes front.bytes input.holds (c.as_slice.ensures.value ∙ front.is_front) in
    on_err c.from_residual-in_err-write_found.result
    (line_begun input.bytes front.bytes c.in_ok-found.found _ (record { those_told = input.those_told }) (record { those_told = front.those_told }) is_true
    (c.in_err-write_found.ensures).err)

pub returns-clause-ok : goal.returns-clause-ok
returns-clause-ok g c =
    let input = c.in_ok-input.ensures.ok in
    let front = c.in_ok-front.ensures.ok in
    record {
      text = input.bytes;
      is_text = record { those_told = input.those_told };
      trace = front.bytes;
      is_trace = record { those_told = front.those_told };
      found = c.in_ok-found.found;
      is_true = c.in_ok-found.ensures.ok input.bytes front.bytes input.holds (c.as_slice.ensures.value ∙ front.is_front);
      ends = c.verdict_of.ensures;
      written = c.in_ok-write_found.ensures.ok;
    }

pub found_in-requires : goal.found_in-requires
found_in-requires g c = record { bounded = is_bounded _ _ c.in_ok-input.ensures.ok.holds }
