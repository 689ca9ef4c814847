-- What a line of a program's text says, by its words.
use Rattle.std.specs.Prelude.{ℕ, ◌-◌, Bool, ◌&&◌, not, ◌==◌, nat_le, List, [], ◌∷◌, ◌++◌, codes, length, take, drop, replicate, slice_index, Option, Some}
use Rattle.std.specs.Prelude.{None, is_some, if◌then◌else◌}
use Rattle.std.specs.Option.{option_map}
use Rattle.std.specs.List.{starts_with}
use Rattle.zl_code.specs.Common.{rights_of, is_among, Row, row_named, bytes_of, seven, is_start_in_range, is_slot_in_range}
use Rattle.zl_code.specs.Instructions.{is_known, is_new, layout_at}
use Rattle.zl_rights.specs.declared.kind.Kind.{Kind}
use Rattle.zl_rights.specs.declared.policy.Condition.{Condition}
use Rattle.zl_rights.specs.Names.{kind_named, condition_named}
use Rattle.zl_code.specs.declared.image.Start.{Start}
use Rattle.zl_code.specs.declared.image.SlotArray.{SlotArray}
use Rattle.zl_code.specs.declared.image.Version.{Version}
use Rattle.zl_code.specs.declared.layout.Ending.{Ending}
use Rattle.zl_code.specs.declared.layout.Ending.TheVariants as ending
use Rattle.zl_code.specs.Limits.{most_memory, most_budget, most_places, most_handles, no_register, instruction_length}
use Rattle.zl_code.specs.Image.{can_be_needed}
use Rattle.zl_asm.specs.declared.directive.Directive.{Directive}
use Rattle.zl_asm.specs.declared.directive.Directive.TheVariants as directive
use Rattle.zl_asm.specs.Words.{is_word, comma, number_of, register_of, is_name, hex_bytes}

-- an instruction: its bytes, with the target 0 where a label names it
pub record Source : Type 0 where
  pub bytes : List ℕ
  pub label : Option (List ℕ)

-- what a line says: nothing, a directive, a label, or an instruction
pub data Line : Type 0 where
  Blank : Line
  Declares : Directive → Line
  Label : (name : List ℕ) → Line
  Code : Source → Line

-- the value, if it passes
abbrev pub if_fits : {X : Type 0} → (X → Bool) → Option X → Option X
if_fits test None = None
if_fits test (Some x) = if test x then Some x else None

-- a function of a value that may be missing
abbrev pub then_with : {X Y : Type 0} → Option X → (X → Option Y) → Option Y
then_with None f = None
then_with (Some x) f = f x

-- ---- directives

-- a number from least to most
abbrev pub number_within : ℕ → ℕ → List ℕ → Option ℕ
number_within least most word = if_fits (λ n. nat_le least n && nat_le n most) (number_of word)

-- a condition that an image can need
abbrev pub need_of : List ℕ → Option Condition
need_of word = if_fits (is_among can_be_needed) (condition_named word)

-- a kind, where `any` is no kind in particular
unfoldable pub kind_of : List ℕ → Option (Option Kind)
kind_of word = if is_word word (codes "any") then Some None else option_map Some (kind_named word)

-- the start handle by its operands, if each was read and an image can declare it
abbrev pub start_with : Option (Option Kind) → Option ℕ → Option Start
start_with (Some kind) (Some rights) = if_fits is_start_in_range (Some (record { kind = kind; rights = rights_of rights }))
start_with _ _ = None

-- the slot array by its operands, if each was read and an image can declare it
abbrev pub slot_array_with : Option (Option Kind) → Option ℕ → Option ℕ → Option SlotArray
slot_array_with (Some kind) (Some len) (Some rights) = if_fits is_slot_in_range (Some (record { kind = kind; length = len; rights = rights_of rights }))
slot_array_with _ _ _ = None

-- the directive of a version, which is 2
abbrev pub version_with : List ℕ → Option Directive
version_with word = option_map (λ n. directive.VersionTwo) (if_fits (λ n. n == 2) (number_of word))

-- the directive of this name with these operands
unfoldable pub directive_of : List ℕ → List (List ℕ) → Option Directive
directive_of name [] = if is_word name (codes ".raw") then Some directive.Raw else None
directive_of name (operand ∷ []) =
    if is_word name (codes ".version") then version_with operand
    else (if is_word name (codes ".memory") then option_map directive.Memory (number_within 0 most_memory operand)
    else (if is_word name (codes ".budget") then option_map directive.Budget (number_within 1 most_budget operand)
    else (if is_word name (codes ".need") then option_map directive.Need (need_of operand)
    else None)))
directive_of name (kind ∷ rights ∷ []) =
    if is_word name (codes ".start") then option_map directive.Start (start_with (kind_of kind) (number_of rights)) else None
directive_of name (kind ∷ len ∷ rights ∷ []) =
    if is_word name (codes ".slots") then option_map directive.Slots (slot_array_with (kind_of kind) (number_within 1 most_places len)
    (number_of rights)) else None
directive_of _ _ = None

-- ---- instructions

-- the word parts two operands
abbrev is_comma : List ℕ → Bool
is_comma word = is_word word comma

-- the value in front of the others, if none is missing
abbrev pub onto_all : {X : Type 0} → Option X → Option (List X) → Option (List X)
onto_all (Some x) (Some xs) = Some (x ∷ xs)
onto_all _ _ = None

-- the operands between the commas, one at least
unfoldable pub operands_after : List (List ℕ) → Option (List (List ℕ))
operands_after [] = None
operands_after (word ∷ []) = if is_comma word then None else Some (word ∷ [])
operands_after (word ∷ next ∷ words) = if not (is_comma word) && is_comma next then option_map (λ more. word ∷ more) (operands_after words) else None

-- the operands of a mnemonic
unfoldable pub operands_of : List (List ℕ) → Option (List (List ℕ))
operands_of [] = Some []
operands_of words = operands_after words

-- each word's value, if each has one
unfoldable pub all_of : {X Y : Type 0} → (X → Option Y) → List X → Option (List Y)
all_of f [] = Some []
all_of f (x ∷ xs) = onto_all (f x) (all_of f xs)

-- a register for each word, and so many words
abbrev pub registers_of : ℕ → List (List ℕ) → Option (List ℕ)
registers_of count words = if length words == count then all_of register_of words else None

-- what the last eight bytes hold, and the label that names the target
pub record Tail : Type 0 where
  pub bytes : List ℕ
  pub label : Option (List ℕ)

-- last eight bytes with a number and a target
abbrev pub tail : ℕ → ℕ → Option (List ℕ) → Tail
tail imm target label = record { bytes = bytes_of 4 imm ++ bytes_of 4 target; label = label }

-- a target: a number, or the name of a label
abbrev pub tail_to : ℕ → List ℕ → Option Tail
tail_to imm word = if is_name word then Some (tail imm 0 (Some word)) else option_map (λ target. tail imm target None) (number_of word)

-- the registers of at most eight handles, and ff in the places behind them
abbrev pub places_of : List ℕ → Option (List ℕ)
places_of registers = if nat_le (length registers) most_handles then Some (registers ++ replicate (most_handles - length registers) no_register) else None

-- the operands behind the registers
unfoldable pub tail_of : Ending → List (List ℕ) → Option Tail
tail_of ending.Nothing [] = Some (tail 0 0 None)
tail_of ending.Number (word ∷ []) = option_map (λ imm. tail imm 0 None) (number_of word)
tail_of ending.Room (word ∷ []) = option_map (λ imm. tail imm 0 None) (number_of word)
tail_of ending.FromSlots (word ∷ []) = option_map (λ imm. tail imm 0 None) (number_of word)
tail_of ending.IntoSlots (word ∷ []) = option_map (λ imm. tail imm 0 None) (number_of word)
tail_of ending.Target (word ∷ []) = tail_to 0 word
tail_of ending.Both (word ∷ target ∷ []) = then_with (number_of word) (λ imm. tail_to imm target)
tail_of ending.Handles words = option_map (λ places. record { bytes = places; label = None }) (then_with (all_of register_of words) places_of)
tail_of _ _ = None

-- what stands behind the registers, where no target is written
abbrev pub untargeted : Ending → Ending
untargeted ending.Both = ending.Number
untargeted ending.Target = ending.Nothing
untargeted e = e

-- what the text has behind the registers: a rep and an endrep are written without their targets
abbrev pub written : Row → Ending
written row = if is_new row.opcode then untargeted row.ending else row.ending

-- the instruction by its registers and its last eight bytes, if both were read
abbrev pub source_with : ℕ → Option (List ℕ) → Option Tail → Option Source
source_with opcode (Some registers) (Some t) = Some (record { bytes = opcode ∷ (seven registers ++ t.bytes); label = t.label })
source_with opcode _ _ = None

-- the instruction of the row with these operands, its registers first
unfoldable pub source_of : Row → List (List ℕ) → Option Source
source_of row operands =
    source_with row.opcode (registers_of (length row.fields) (take (length row.fields) operands)) (tail_of (written row) (drop (length row.fields) operands))

-- the 16 bytes of an instruction with an opcode that the version doesn't know
abbrev pub is_unknown : Version → List ℕ → Bool
is_unknown v bytes = (length bytes == instruction_length) && not (is_some (layout_at v (slice_index bytes 0)))

-- what `.bytes` says: one instruction as 32 hexadecimal digits, of an opcode without a mnemonic
unfoldable pub unknown_of : Version → List (List ℕ) → Option Source
unknown_of v (digits ∷ []) = option_map (λ bytes. record { bytes = bytes; label = None }) (if_fits (is_unknown v) (hex_bytes digits))
unknown_of v _ = None

-- ---- lines

-- the name in `name:`
unfoldable pub label_of : List ℕ → Option (List ℕ)
label_of word =
    if is_word (drop (length word - 1) word) (codes ":") then if_fits is_name (Some (take (length word - 1) word)) else None

-- the row of a mnemonic that the version knows
abbrev pub row_by : Version → List ℕ → Option Row
row_by v name = if_fits (λ row. is_known v row.opcode) (row_named name)

-- a mnemonic with its operands
abbrev pub instruction_of : Version → List ℕ → List (List ℕ) → Option Source
instruction_of v name words = then_with (row_by v name) (λ row. then_with (operands_of words) (source_of row))

-- a line that begins with a point
abbrev pub point_line : Version → List ℕ → List (List ℕ) → Option Line
point_line v name words = if is_word name (codes ".bytes") then option_map Code (unknown_of v words) else option_map Declares (directive_of name words)

-- a line of one word is a label or an instruction
abbrev pub alone : Version → List ℕ → Option (List ℕ) → Option Line
alone v word (Some name) = Some (Label name)
alone v word None = option_map Code (instruction_of v word [])

-- what the words of a line say in a text of the version, if they are of the grammar
unfoldable pub line_of : Version → List (List ℕ) → Option Line
line_of v [] = Some Blank
line_of v (word ∷ []) = if starts_with ◌==◌ word (codes ".") then point_line v word [] else alone v word (label_of word)
line_of v (word ∷ next ∷ words) =
    if starts_with ◌==◌ word (codes ".") then point_line v word (next ∷ words) else option_map Code (instruction_of v word (next ∷ words))
