-- Whether other objects look the same.
use Rattle.std.specs.Prelude.{◌≡◌, map}
use Rattle.zl_objects.specs.Objects.{Objects}
use Rattle.zl_objects.specs.Seen.{object_entry}

-- what is seen of each object is the same, all waits are, and the next object gets the same koid; who may be blocked isn't seen here
pub record LookSame (r r2 : Objects) : Type 0 where
  pub objects : map object_entry r.objects ≡ map object_entry r2.objects
  pub next_koid : r.next_koid ≡ r2.next_koid
  pub waits : r.waits ≡ r2.waits
  pub waits_made : r.waits_made ≡ r2.waits_made
