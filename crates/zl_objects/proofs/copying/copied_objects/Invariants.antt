use Rattle.zl_objects.proofs.Common.{◌++◌, ◌≡◌}
use Rattle.zl_objects.proofs.copying.copied_objects.Given as goal

abbrev pub invariant-loop-koid : goal.invariant-loop-koid
invariant-loop-koid l = l.copy.entries ++ l.koid-iterator ≡ l.objects.entries
