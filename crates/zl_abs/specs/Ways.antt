-- The states at the ends of the edges that are followed from an instruction.
use Rattle.std.specs.Prelude.{Option}
use Rattle.zl_abs.specs.States.{State}

pub record Ways : Type 0 where
  -- where it jumps
  pub jumped : Option State
  -- where it goes on to the next instruction
  pub passed : Option State
