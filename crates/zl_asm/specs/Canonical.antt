-- The text of an image as the disassembler lays it out.
use Rattle.std.specs.Prelude.{ℕ, suc, ◌+◌, ◌/◌, ◌%◌, Bool, true, false, ◌&&◌, not, ◌==◌, nat_lt, List, [], ◌∷◌, ◌++◌, codes, map, filter, length, take}
use Rattle.std.specs.Prelude.{slice_index, Option, Some, None, if◌then◌else◌, IsTrue}
use Rattle.std.specs.List.{flat_map, list_any}
use Rattle.zl_code.specs.Common.{condition_name, bits, Image, Row, row_of, Reading, reading_of, instr_bytes, is_in_range}
use Rattle.std.specs.Fmt.{decimal}
use Rattle.zl_rights.specs.declared.kind.Kind.{Kind}
use Rattle.zl_rights.specs.Names.{kind_name}
use Rattle.zl_code.specs.Instructions.{is_known}
use Rattle.zl_code.specs.declared.image.Version.{Version}
use Rattle.zl_code.specs.declared.image.Version.TheVariants as version
use Rattle.zl_code.specs.declared.image.Start.{Start}
use Rattle.zl_code.specs.declared.image.SlotArray.{SlotArray}
use Rattle.zl_code.specs.declared.layout.Ending.{Ending}
use Rattle.zl_code.specs.declared.layout.Ending.TheVariants as ending
use Rattle.zl_code.specs.Limits.{no_register}
use Rattle.zl_asm.specs.Denotes.{Denotes}
use Rattle.zl_asm.specs.Lines.{written}

-- ---- words

-- a register, as `r7`
abbrev pub register_text : ℕ → List ℕ
register_text r = codes "r" ++ decimal r

-- the label before instruction n
abbrev pub label_text : ℕ → List ℕ
label_text n = codes "l" ++ decimal n

-- a target among so many instructions is a label, and another one a number
abbrev pub target_text : ℕ → ℕ → List ℕ
target_text count n = if nat_lt n count then label_text n else decimal n

-- a kind by its name, and `any` for none in particular
abbrev pub kind_text : Option Kind → List ℕ
kind_text None = codes "any"
kind_text (Some k) = kind_name k

-- the words with a text between any two
unfoldable pub joined : List ℕ → List (List ℕ) → List ℕ
joined between [] = []
joined between (word ∷ []) = word
joined between (word ∷ next ∷ words) = word ++ (between ++ joined between (next ∷ words))

-- ---- directives

-- the version is written where it isn't 1
abbrev pub version_lines : Version → List (List ℕ)
version_lines version.One = []
version_lines version.Two = codes ".version 2" ∷ []

-- behind the version each is written but the mark, which stands where it is set
abbrev pub directive_lines : Image → List (List ℕ)
directive_lines i =
    version_lines i.version
    ++ ((if i.raw then codes ".raw" ∷ [] else [])
    ++ (((codes ".memory " ++ decimal i.memory) ∷ [])
    ++ (((codes ".budget " ++ decimal i.budget) ∷ [])
    ++ (map (λ c. codes ".need " ++ condition_name c) i.needs
    ++ (map start_line i.starts ++ map slot_array_line i.slots)))))
  where
    start_line : Start → List ℕ
    start_line s = codes ".start " ++ (kind_text s.kind ++ (codes " " ++ decimal (bits s.rights)))

    slot_array_line : SlotArray → List ℕ
    slot_array_line s = codes ".slots " ++ (kind_text s.kind ++ (codes " " ++ (decimal s.length ++ (codes " " ++ decimal (bits s.rights)))))

-- ---- instructions

-- the operands behind the registers
unfoldable pub tail_texts : ℕ → Ending → Reading → List (List ℕ)
tail_texts count ending.Nothing r = []
tail_texts count ending.Number r = decimal r.imm ∷ []
tail_texts count ending.Room r = decimal r.imm ∷ []
tail_texts count ending.FromSlots r = decimal r.imm ∷ []
tail_texts count ending.IntoSlots r = decimal r.imm ∷ []
tail_texts count ending.Target r = target_text count r.target ∷ []
tail_texts count ending.Both r = decimal r.imm ∷ target_text count r.target ∷ []
tail_texts count ending.Handles r = map register_text (filter (λ place. not (place == no_register)) r.places)

-- all operands of an instruction of the row, its registers first
abbrev pub operand_texts : ℕ → Row → Reading → List (List ℕ)
operand_texts count row r = map register_text (take (length row.fields) r.registers) ++ tail_texts count (written row) r

-- operands behind others, from which the separator parts them
abbrev pub behind : List ℕ → List (List ℕ) → List ℕ
behind separator [] = []
behind separator (word ∷ words) = separator ++ joined (codes ", ") (word ∷ words)

-- a hexadecimal digit in small letters
abbrev pub hex_digit : ℕ → ℕ
hex_digit n = if nat_lt n 10 then 48 + n else 87 + n

-- each byte as two hexadecimal digits
abbrev pub hex_text : List ℕ → List ℕ
hex_text bytes = flat_map (λ byte. hex_digit (byte / 16) ∷ hex_digit (byte % 16) ∷ []) bytes

-- the 16 bytes of an instruction among so many, where the version knows its opcode, and where it doesn't
abbrev pub row_text : ℕ → List ℕ → Option Row → List ℕ
row_text count bytes (Some row) = row.name ++ behind (codes " ") (operand_texts count row (reading_of bytes))
row_text count bytes None = codes ".bytes " ++ hex_text bytes

-- the row of the opcode, if the version knows it
abbrev pub row_at : Version → ℕ → Option Row
row_at v opcode = if is_known v opcode then row_of opcode else None

-- the instruction of these bytes, in a program of so many
abbrev pub instr_text : Version → ℕ → List ℕ → List ℕ
instr_text v count bytes = row_text count bytes (row_at v (slice_index bytes 0))

-- an instruction of the row is written with its target
abbrev pub aims : Option Row → Bool
aims None = false
aims (Some row) = elim (written row) as (λ _. Bool) [ ending.Target ↦ true | ending.Both ↦ true | _ ↦ false ]

-- the instruction of these bytes is written with the target n
abbrev pub aims_at : Version → ℕ → List ℕ → Bool
aims_at v n bytes = aims (row_at v (slice_index bytes 0)) && ((reading_of bytes).target == n)

-- an instruction aims at the one with the number n
abbrev pub is_target : Version → List (List ℕ) → ℕ → Bool
is_target v code n = list_any (aims_at v n) code

-- the line with the label of instruction n, if an instruction aims at it
abbrev pub label_lines : Version → List (List ℕ) → ℕ → List (List ℕ)
label_lines v code n = if is_target v code n then (label_text n ++ codes ":") ∷ [] else []

-- the instructions from number n on, and the labels of those that are aimed at
unfoldable pub code_lines_from : Version → List (List ℕ) → ℕ → List (List ℕ) → List (List ℕ)
code_lines_from v code n [] = []
code_lines_from v code n (bytes ∷ rest) = label_lines v code n ++ (instr_text v (length code) bytes ∷ code_lines_from v code (suc n) rest)

-- the lines of a program's instructions
abbrev pub code_lines : Version → List (List ℕ) → List (List ℕ)
code_lines v code = code_lines_from v code 0 code

-- ---- the whole text

-- the text that the disassembler gives for an image: a line for each directive, label and instruction
unfoldable pub text_of : Image → List ℕ
text_of i = flat_map (λ line. line ++ codes "\n") (directive_lines i ++ code_lines i.version (map instr_bytes i.code))

-- the text of each image denotes it
abbrev pub EachTextDenotes : Type 0
EachTextDenotes = (i : Image) → IsTrue (is_in_range i) → Denotes (text_of i) i
