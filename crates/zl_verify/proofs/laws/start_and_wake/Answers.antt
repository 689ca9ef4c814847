use Rattle.zl_verify.proofs.BootStarts.{is_booted, proper}
use Rattle.zl_verify.proofs.Starting.{starts_conforming}
use Rattle.zl_verify.proofs.Woken.{ends_step, fit_of}
use Rattle.zl_verify.proofs.laws.start_and_wake.Goals as goal

pub returns-clause-starts : goal.returns-clause-starts
returns-clause-starts c = λ i t lib w p q range typing k. starts_conforming i t range typing lib w p q k

pub returns-clause-wakes : goal.returns-clause-wakes
returns-clause-wakes c = λ i t lib w p x w2 range typing run q process there running k. ends_step i t range typing lib w p x w2 (fit_of lib w p x w2 run) q
    process there running k

pub returns-clause-boots : goal.returns-clause-boots
returns-clause-boots c =
    λ lib statements boot p q b there. (is_booted lib statements boot b p q there, proper lib statements boot b p q (is_booted lib statements boot b p q there))
