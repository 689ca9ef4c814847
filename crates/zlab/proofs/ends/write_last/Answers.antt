use Rattle.zlab.proofs.Common.{[], on_err, refl, ◌++◌}
use Rattle.std.proofs.KnownBytes.{Appends-nil}
use Rattle.zlab.specs.Ends.{endless_line, last_line, verdict_word}
use Rattle.zlab.proofs.ends.write_last.Goals as goal

pub returns-in_err-write-clause-err : goal.returns-in_err-write-clause-err
returns-in_err-write-clause-err g c = on_err c.from_residual.result (record {
  turns = 0;
  begun = record {
    written = [];
    rest = endless_line c.args.endless ++ last_line (verdict_word c.args.verdict) c.args.search.now.worlds 0 c.args.ends;
    appended = Appends-nil _;
    beginning = refl;
  };
})
