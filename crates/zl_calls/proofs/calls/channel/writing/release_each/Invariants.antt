use Rattle.zl_calls.proofs.Common.{KeepsListed, Releases, [], koids_in, take}
use Rattle.zl_calls.proofs.calls.channel.writing.release_each.Given as goal

abbrev pub invariant-loop-handle : goal.invariant-loop-handle
invariant-loop-handle l =
    record { releases : Releases (koids_in (take l.handle-index l.handles)) [] l.initial.objects l.objects; listed : KeepsListed l.initial.objects l.objects }
