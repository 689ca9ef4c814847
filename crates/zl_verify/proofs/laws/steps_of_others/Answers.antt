use Rattle.zl_verify.proofs.Others.{others_end}
use Rattle.zl_verify.proofs.Woken.{fit_of}
use Rattle.zl_verify.proofs.laws.steps_of_others.Goals as goal

pub returns : goal.returns
returns c = λ i t lib w p x w2 range typing run q process apart there running k. others_end i t range typing lib w p x w2 (fit_of lib w p x w2 run) q process
    apart there running k
