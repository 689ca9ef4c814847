-- The pieces of a text as the disassembler writes them, each line with its end. No public clause cites this module.
use Rattle.std.specs.List.{flat_map}
use Rattle.zl_code.specs.Common.{condition_name, bits, Image, is_among, reading_of}
use Rattle.std.specs.Prelude.{ℕ, ◌≡◌, ◌<◌, Bool, false, List, [], ◌++◌, codes, map, length, take, get_or, Result, OnOk, string_bytes, if◌then◌else◌, String}
use Rattle.std.specs.Fmt.{decimal}
use Rattle.zl_rights.specs.declared.policy.Condition.{Condition}
use Rattle.zl_rights.specs.declared.policy.Condition.TheVariants as condition
use Rattle.zl_code.specs.declared.image.Start.{Start}
use Rattle.zl_code.specs.declared.image.Version.{Version}
use Rattle.zl_code.specs.declared.image.SlotArray.{SlotArray}
use Rattle.zl_code.specs.declared.layout.Ending.{Ending}
use Rattle.zl_asm.specs.Canonical.{version_lines, kind_text, label_text, register_text, tail_texts, behind, instr_text, is_target}

-- where it is done, the text has these bytes more at its end
abbrev pub Adds : {X E Z : Type 0} → Result X E → String Z → String Z → List ℕ → Type 0
Adds result old new bytes = OnOk result (string_bytes new ≡ string_bytes old ++ bytes)

-- each line with its end
abbrev pub ended : List (List ℕ) → List ℕ
ended lines = flat_map (λ line. line ++ codes "\n") lines

-- the lines of the mark, the data memory and the budget
abbrev pub fields_text : Bool → ℕ → ℕ → List ℕ
fields_text raw memory budget =
    (if raw then codes ".raw\n" else []) ++ (codes ".memory " ++ (decimal memory ++ (codes "\n.budget " ++ (decimal budget ++ codes "\n"))))

-- the line of a need
abbrev pub need_text : Condition → List ℕ
need_text c = codes ".need " ++ (condition_name c ++ codes "\n")

-- the line of a start handle
abbrev pub start_text : Start → List ℕ
start_text s = codes ".start " ++ (kind_text s.kind ++ (codes " " ++ (decimal (bits s.rights) ++ codes "\n")))

-- the line of a slot array
abbrev pub slot_array_text : SlotArray → List ℕ
slot_array_text s = codes ".slots " ++ (kind_text s.kind ++ (codes " " ++ (decimal s.length ++ (codes " " ++ (decimal (bits s.rights) ++ codes "\n")))))

-- the line of a need that is among these
abbrev pub need_if_among : List Condition → Condition → List ℕ
need_if_among needs c = if is_among needs c then need_text c else []

-- the lines of all needs, in the order of their numbers
abbrev pub needs_text : List Condition → List ℕ
needs_text needs =
    need_if_among needs condition.NewChannel
    ++ (need_if_among needs condition.NewEvent ++ (need_if_among needs condition.NewEventpair
    ++ (need_if_among needs condition.NewPort ++ need_if_among needs condition.NewProcess)))

-- the lines of all directives
abbrev pub directives_text : Image → List ℕ
directives_text i =
    ended (version_lines i.version)
    ++ (fields_text i.raw i.memory i.budget ++ (needs_text i.needs ++ (flat_map start_text i.starts ++ flat_map slot_array_text i.slots)))

-- an instruction of a row with this name, so many registers and this ending
abbrev pub laid_out : ℕ → List ℕ → ℕ → Ending → List ℕ → List ℕ
laid_out count name registers ending bytes =
    name ++ behind (codes " ") (map register_text (take registers (reading_of bytes).registers) ++ tail_texts count ending (reading_of bytes))

-- the line of instruction n, and its label if it is aimed at
abbrev pub line_text : Version → ℕ → ℕ → Bool → List ℕ → List ℕ
line_text v count n is_target bytes = (if is_target then label_text n ++ codes ":\n" else []) ++ (instr_text v count bytes ++ codes "\n")

-- these marks say which of so many instructions a target of the code names
pub record TargetsAre (v : Version) (targets : List Bool) (code : List (List ℕ)) (count : ℕ) : Type 0 where
  pub len : length targets ≡ count
  pub each : (n : ℕ) → n < count → get_or targets n false ≡ is_target v code n
