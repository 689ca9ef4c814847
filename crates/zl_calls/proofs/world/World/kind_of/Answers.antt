use Rattle.zl_calls.proofs.Common.{◌∙◌}
use Rattle.zl_calls.proofs.objects.Seen.{kind_seen}
use Rattle.zl_calls.proofs.world.World.kind_of.Goals as goal

pub returns : goal.returns
returns c = rw (← c.self.view_is) (c.kind_of.ensures ∙ kind_seen c.self.inside.parts.objects.objects c.args.koid)
