use Rattle.zl_calls.proofs.Common.{bits, ◌∙◌}
use Rattle.zl_calls.proofs.objects.Seen.{queued_seen}
use Rattle.zl_calls.proofs.world.World.has_queued.Goals as goal

pub returns : goal.returns
returns c = rw (← c.self.view_is) (c.has_queued.ensures ∙ queued_seen c.args.koid (bits c.args.rights) c.self.inside.parts.objects.objects)
