-- The waits at an object, which may have a box for them. No public clause cites this module.
use Rattle.std.specs.Prelude.{List, [], Option, Some, None}
use Rattle.std.specs.BTreeMap.{values}
use Rattle.std.specs.declared.boxed.Box.{Box}
use Rattle.zl_signals.specs.declared.waits.Waits.{Waits}
use Rattle.zl_signals.specs.declared.watch.Watch.{Watch}

-- the waits, the earliest registered first
abbrev pub waits_of : Waits → List Watch
waits_of w = values w.by_number

-- those in the box, if there is one
abbrev pub waits_in : {Z : Type 0} → Option (Box Waits Z) → List Watch
waits_in None = []
waits_in (Some b) = waits_of b.value
