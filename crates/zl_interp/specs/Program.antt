-- What the definitions see of a program.
use Rattle.std.specs.Prelude.{true, false}
use Rattle.zl_code.specs.Common.{Program as ProgramValue}
use Rattle.zl_interp.specs.declared.program.Program.{Program}
use Rattle.zl_interp.specs.declared.program.Program.TheVariants as program

-- the program as the definitions have it
abbrev pub program_value : Program → ProgramValue
program_value (program.Raw image) = record { checked = false; image = image }
program_value (program.Checked accepted) = record { checked = true; image = accepted.image }
