use Rattle.zlab.proofs.Common.{◌∙◌, subst}
use Rattle.zlab.specs.Replay.{IsTrueOf}
use Rattle.zlab.proofs.ReplayFound.{fault_of_length}
use Rattle.zlab.proofs.replaying.found_in.Goals as goal

pub compare-requires : goal.compare-requires
compare-requires c = record { fits = rw c.as_slice.ensures.value (rw c.in-Text.is at c.requires.bounded) }

pub returns-in_ok-found-in-Text-clause-ok : goal.returns-in_ok-found-in-Text-clause-ok
returns-in_ok-found-in-Text-clause-ok c text trace holds is =
    subst (λ bytes. IsTrueOf bytes trace c.in_ok-found-in-Text.found) (c.as_slice.ensures.value ∙ (rw c.in-Text.is at holds).0)
    (c.in_ok-found-in-Text.ensures.ok trace is)

pub returns-in-TooLong-clause-ok : goal.returns-in-TooLong-clause-ok
returns-in-TooLong-clause-ok c text trace holds is = rw c.alone-fault.ensures (fault_of_length text (rw c.in-TooLong.is at holds))
