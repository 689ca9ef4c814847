-- That the processes of a world stand in order.
use Rattle.std.specs.Prelude.{ℕ, ◌<◌, IsTrue}
use Rattle.zl_rights.specs.Common.{has_key, World}
use Rattle.zl_code.specs.Handles.{in_order}

-- the processes stand in the order of their koids, each of which was given
pub record IsOrdered (w : World) : Type 0 where
  pub order : IsTrue (in_order w.processes)
  pub below : (p : ℕ) → IsTrue (has_key w.processes p) → p < w.next_koid
