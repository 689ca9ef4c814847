use Rattle.zl_verify.proofs.Headline.{headline}
use Rattle.zl_verify.proofs.NoLeak.{no_leak}
use Rattle.zl_verify.proofs.laws.bounded_images_are_sound.Goals as goal

pub returns-clause-never_refused : goal.returns-clause-never_refused
returns-clause-never_refused c = λ i b. headline i b.states b.steps b.typing b.bound

pub returns-clause-no_leak : goal.returns-clause-no_leak
returns-clause-no_leak c = λ i t typing. no_leak i t typing
