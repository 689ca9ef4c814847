use Rattle.zl_verify.proofs.Headline.{headline}
use Rattle.zl_verify.proofs.NoLeak.{no_leak}
use Rattle.zl_verify.proofs.checked.Checked.sound.Goals as goal

pub returns-clause-never_refused : goal.returns-clause-never_refused
returns-clause-never_refused c = headline c.args.self.now.image _ _ c.image.ensures.typing c.image.ensures.bound

pub returns-clause-no_leak : goal.returns-clause-no_leak
returns-clause-no_leak c = no_leak c.args.self.now.image _ c.image.ensures.typing
