-- What the words and the lines that were read stand for. Of these, public clauses cite only `texts`.
use Rattle.std.specs.Prelude.{ℕ, List, map}
use Rattle.std.specs.Option.{option_map}
use denote.Ref.{Bor}
use Rattle.zl_asm.specs.declared.line.Line.{Line as ReadLine}
use Rattle.zl_asm.specs.declared.line.Line.TheVariants as read
use Rattle.zl_asm.specs.declared.line.Source.{Source as ReadSource}
use Rattle.zl_asm.specs.declared.operands.Tail.{Tail as ReadTail}
use Rattle.zl_asm.specs.Lines.{Line, Blank, Declares, Label, Code, Source, Tail}

-- the bytes of each word
abbrev pub texts : List (Bor (List ℕ)) → List (List ℕ)
texts words = map (λ word. word.now) words

-- the instruction with the bytes of its label's name
abbrev pub source_value : ReadSource → Source
source_value s = record { bytes = s.bytes; label = option_map (λ name. name.now) s.label }

-- what the line says
abbrev pub line_value : ReadLine → Line
line_value read.Blank = Blank
line_value (read.Declares d) = Declares d
line_value (read.Label name) = Label name.now
line_value (read.Code s) = Code (source_value s)

-- the last eight bytes with the bytes of their label's name
abbrev pub tail_value : ReadTail → Tail
tail_value t = record { bytes = t.bytes; label = option_map (λ name. name.now) t.label }
