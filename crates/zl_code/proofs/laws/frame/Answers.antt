use Rattle.zl_code.proofs.Frame.{step_leaves_others}
use Rattle.zl_code.proofs.SoundRuns.{run_sound}
use Rattle.zl_code.proofs.laws.frame.Goals as goal

pub returns : goal.returns
returns c =
    λ lib statements boot w after items p x is_boot run step. step_leaves_others lib w p x after (run_sound lib statements boot w items is_boot run) step
