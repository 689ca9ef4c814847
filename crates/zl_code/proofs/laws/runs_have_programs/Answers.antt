use Rattle.zl_code.proofs.ProgramsKept.{run_programs}
use Rattle.zl_code.proofs.laws.runs_have_programs.Goals as goal

pub returns : goal.returns
returns c = run_programs
