use Rattle.zlab.proofs.Common.{on_err, ◌∙◌}
use Rattle.zlab.specs.Checking.{no_line, line_begun}
use Rattle.zlab.proofs.checking.check_engine.Goals as goal

pub returns-in_err-front-clause-err : goal.returns-in_err-front-clause-err
returns-in_err-front-clause-err g c = on_err c.from_residual.result no_line

pub returns-in_err-finding-clause-err : goal.returns-in_err-finding-clause-err
returns-in_err-finding-clause-err g c = on_err c.from_residual-in_err-finding.result no_line

pub returns-in_err-write_finding-clause-err : goal.returns-in_err-write_finding-clause-err
returns-in_err-write_finding-clause-err g c =
    let front = c.in_ok-front.ensures.ok in
    let finds = c.in_ok-finding.ensures.ok front.bytes (c.as_slice.ensures.value ∙ front.is_front) in
    on_err c.from_residual-in_err-write_finding.result
    (line_begun front.bytes c.in_ok-finding.finding _ (record { those_told = front.those_told }) finds (c.in_err-write_finding.ensures).err)

pub returns-clause-ok : goal.returns-clause-ok
returns-clause-ok g c =
    let front = c.in_ok-front.ensures.ok in
    let finds = c.in_ok-finding.ensures.ok front.bytes (c.as_slice.ensures.value ∙ front.is_front) in
    record {
      bytes = front.bytes;
      are_bytes = record { those_told = front.those_told };
      found = c.in_ok-finding.finding;
      finds = finds;
      ends = c.verdict_of.ensures;
      written = c.in_ok-write_finding.ensures.ok;
    }
