use Rattle.zl_code.proofs.Common.{length}
use Rattle.zl_code.proofs.fields.+unpacked_place.Given as goal

abbrev pub decreases-unpacked_place : goal.decreases-unpacked_place
decreases-unpacked_place l = length l.places.now
