-- Calls by their registers, for worked examples.
use Rattle.zl_code.proofs.Common.{CallInstr, CallName, List, bytes_of, replicate, seven, take, ℕ, ◌++◌}
use Rattle.zl_code.specs.declared.history.CallName.TheVariants as name

-- the call with these registers and a number, 0 where it has none
abbrev pub called : CallName → List ℕ → ℕ → CallInstr
called call registers number = record { name = call; registers = seven registers; last = bytes_of 4 number ++ bytes_of 4 0 }

-- chan_write with these registers, which sends the handles in the listed ones
abbrev pub sending : List ℕ → List ℕ → CallInstr
sending registers handles = record { name = name.ChanWrite; registers = seven registers; last = take 8 (handles ++ replicate 8 255) }
