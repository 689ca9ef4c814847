use Rattle.zl_verify.proofs.Turning.{begins, some_stretch}
use Rattle.zl_verify.proofs.least.start.Goals as goal

pub new-requires : goal.new-requires
new-requires c = rw c.count.ensures (some_stretch _ _ c.requires.stretches)

pub returns-in-Ok : goal.returns-in-Ok
returns-in-Ok c =
    rw (c.in-Ok.ensures, c.count.ensures) (begins _ _ c.requires.in_range c.requires.stretches (some_stretch _ _ c.requires.stretches))
