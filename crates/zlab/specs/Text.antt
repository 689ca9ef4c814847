-- The line of a refusal, and what a text that can't be written is to an engine.
use Rattle.std.specs.Prelude.{ℕ, List, ◌++◌, codes}
use Rattle.std.specs.Fmt.{decimal}
use Rattle.zlab.specs.declared.fault.EngineFault.{EngineFault}
use Rattle.zlab.specs.declared.fault.EngineFault.TheVariants as engine
use Rattle.zl_trace.specs.declared.fault.TextFault.{TextFault}
use Rattle.zl_trace.specs.declared.fault.TextFault.TheVariants as lost

-- the line that answers a refused input: the number of its faulty line, and the name of the fault
abbrev pub refused_line : ℕ → List ℕ → List ℕ
refused_line line name = codes "refused " ++ (decimal line ++ (codes " " ++ (name ++ codes "\n")))

-- the same of a refused trace
abbrev pub refused_trace_line : ℕ → List ℕ → List ℕ
refused_trace_line line name = codes "refused trace " ++ (decimal line ++ (codes " " ++ (name ++ codes "\n")))

-- why an engine can't go on where a text can't be written
abbrev pub engine_fault : TextFault → EngineFault
engine_fault lost.Write = engine.Write
engine_fault lost.NoMemory = engine.NoMemory
