use Rattle.zl_abs.proofs.Common.{known_from, refl, ◌∙◌}
use Rattle.zl_abs.proofs.call_results.known_rights.Goals as goal

pub returns : goal.returns
unfolding known_from
returns c = c.intersection.ensures tt ∙ rw (c.from_bits_retain.ensures tt, c.all.ensures tt) refl
