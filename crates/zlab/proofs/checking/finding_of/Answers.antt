use Rattle.zlab.proofs.ImageFindings.{found_in, found_none}
use Rattle.zlab.proofs.Answering.{mapped_ok}
use Rattle.zlab.proofs.checking.finding_of.Goals as goal

pub returns-in-Ok-clause-ok : goal.returns-in-Ok-clause-ok
returns-in-Ok-clause-ok c =
    mapped_ok c.verified.result _ _ (λ found is bytes read. found_in _ c.in-Ok.image found c.in-Ok.ensures.found is bytes read) c.verified.ensures.ok

pub returns-in_default : goal.returns-in_default
returns-in_default c = record {
  ok = λ bytes read.
      rw c.fault.ensures (found_none c.args.front.now c.decode.result c.in-Err.undecoded c.in-Err.is (rw c.fault.ensures at c.in_default.not-NoMemory)
      c.decode.ensures.only c.decode.ensures.first bytes read);
  err = tt;
}
