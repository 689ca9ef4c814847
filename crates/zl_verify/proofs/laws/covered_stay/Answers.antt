use Rattle.zl_verify.proofs.Covering.{boot_covered, step_covered}
use Rattle.zl_verify.proofs.laws.covered_stay.Goals as goal

pub returns-clause-boots : goal.returns-clause-boots
returns-clause-boots c = λ lib statements boot v b. boot_covered lib v statements boot b

pub returns-clause-steps : goal.returns-clause-steps
returns-clause-steps c = λ lib w x w2 v sound k step. step_covered lib v w x w2 sound k step
