use Rattle.zl_scenario.proofs.HexDigits.{odd, even, bytes_again}
use Rattle.zl_scenario.proofs.digits.Digits.bytes.Goals as goal

pub returns-in-Some-clause-odd : goal.returns-in-Some-clause-odd
returns-in-Some-clause-odd c = rw (← c.self.view_is, c.in-Some.is) (odd _ _)

pub returns-in-None-clause-even : goal.returns-in-None-clause-even
returns-in-None-clause-even c = rw (← c.self.view_is, c.in-None.is) (even _)

pub returns-in-None-clause-spelled : goal.returns-in-None-clause-spelled
returns-in-None-clause-spelled c = rw (← c.self.view_is, c.in-None.is, c.as_slice.ensures.value) (bytes_again _)
