use Rattle.zl_code.proofs.SoundKept.{value_given}
use Rattle.zl_code.proofs.laws.new_handles_get_free_values.Goals as goal

pub returns : goal.returns
returns c = λ w p v q s there gets. value_given q v (s.tables p q there) gets
