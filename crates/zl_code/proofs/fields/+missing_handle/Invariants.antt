use Rattle.zl_code.proofs.Common.{length}
use Rattle.zl_code.proofs.fields.+missing_handle.Given as goal

abbrev pub decreases-missing_handle : goal.decreases-missing_handle
decreases-missing_handle l = length l.places.now
