use Rattle.zl_code.proofs.SoundRuns.{run_sound}
use Rattle.zl_code.proofs.laws.runs_keep_handles_named.Goals as goal

pub returns : goal.returns
returns c = λ lib statements boot after items is_boot run. (run_sound lib statements boot after items is_boot run).named
