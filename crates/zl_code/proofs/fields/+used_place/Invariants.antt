use Rattle.zl_code.proofs.Common.{length}
use Rattle.zl_code.proofs.fields.+used_place.Given as goal

abbrev pub decreases-used_place : goal.decreases-used_place
decreases-used_place l = length l.places.now
