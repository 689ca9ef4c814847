use Rattle.zl_verify.proofs.CoveredRuns.{covered_go_well}
use Rattle.zl_verify.proofs.laws.covered_processes_go_well.Goals as goal

pub returns : goal.returns
returns c = λ lib statements boot history verified begins. covered_go_well lib statements boot verified begins history
