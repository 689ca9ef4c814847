use Rattle.zl_verify.proofs.BootStarts.{boot_is_proper}
use Rattle.zl_verify.proofs.ChildStarts.{child_starts_in_run}
use Rattle.zl_verify.proofs.laws.checked_starts_are_proper.Goals as goal

pub returns-clause-boots : goal.returns-clause-boots
returns-clause-boots c = λ i lib statements boot p b program. boot_is_proper lib statements boot b p i program

pub returns-clause-calls : goal.returns-clause-calls
returns-clause-calls c = λ i lib w p x w2 k run told start program. child_starts_in_run lib w p x w2 run i k told start program
