-- What all lines of a program's text give together: the fields of an image.
use Rattle.std.specs.Prelude.{ℕ, zero, suc, Bool, true, false, ◌&&◌, not, ◌==◌, nat_le, List, [], ◌∷◌, ◌++◌, length, map, slice_get, take, Option, Some, None}
use Rattle.std.specs.Prelude.{is_some, if◌then◌else◌}
use Rattle.std.specs.Option.{option_map}
use Rattle.std.specs.List.{flat_map, find, list_all}
use Rattle.zl_code.specs.Common.{needs_named, bytes_of, instr_fault}
use Rattle.std.specs.Cmp.Lexicographic.{pointwise}
use Rattle.zl_rights.specs.declared.policy.Condition.{Condition}
use Rattle.zl_code.specs.declared.image.Version.{Version}
use Rattle.zl_code.specs.declared.image.Version.TheVariants as version
use Rattle.zl_code.specs.declared.image.Start.{Start}
use Rattle.zl_code.specs.declared.image.SlotArray.{SlotArray}
use Rattle.zl_code.specs.Blocks.{blocks_at, head_of, is_it}
use Rattle.zl_code.specs.Spells.{keep_blocks, mark_in as mark_of_bytes}
use Rattle.zl_code.specs.declared.blocks.Mark.{Mark}
use Rattle.zl_code.specs.declared.blocks.Mark.TheVariants as mark
use Rattle.zl_code.specs.Limits.{most_instructions, most_starts, most_slot_arrays}
use Rattle.zl_asm.specs.declared.directive.Directive.TheVariants as directive
use Rattle.zl_asm.specs.Words.{lines_of, words_of, is_ascii}
use Rattle.zl_asm.specs.Lines.{Line, Blank, Declares, Label, Code, Source, line_of, all_of, if_fits, then_with}

-- the fields of an image, each instruction as its 16 bytes
pub record Listing : Type 0 where
  pub version : Version
  pub raw : Bool
  pub memory : ℕ
  pub budget : ℕ
  pub needs : List Condition
  pub starts : List Start
  pub slots : List SlotArray
  pub code : List (List ℕ)

-- ---- what stands in which lines

-- the line says that the version is 2
abbrev pub gives_version : Line → Bool
gives_version (Declares directive.VersionTwo) = true
gives_version _ = false

-- version 1 where no line says that it is 2
abbrev pub version_in : List Line → Version
version_in lines = if list_all (λ l. not (gives_version l)) lines then version.One else version.Two

-- the raw mark, where the line sets it
abbrev pub mark_in : Line → List Bool
mark_in (Declares directive.Raw) = true ∷ []
mark_in _ = []

-- the size of the data memory that the line gives
abbrev pub memory_in : Line → List ℕ
memory_in (Declares (directive.Memory n)) = n ∷ []
memory_in _ = []

-- the budget that the line gives
abbrev pub budget_in : Line → List ℕ
budget_in (Declares (directive.Budget n)) = n ∷ []
budget_in _ = []

-- the need that the line declares
abbrev pub need_in : Line → List Condition
need_in (Declares (directive.Need c)) = c ∷ []
need_in _ = []

-- the start handle that the line declares
abbrev pub start_in : Line → List Start
start_in (Declares (directive.Start s)) = s ∷ []
start_in _ = []

-- the slot array that the line declares
abbrev pub slots_in : Line → List SlotArray
slots_in (Declares (directive.Slots s)) = s ∷ []
slots_in _ = []

-- the instruction on the line
abbrev pub source_in : Line → List Source
source_in (Code s) = s ∷ []
source_in _ = []

-- the value that is given once, or the usual one
abbrev pub given : {X : Type 0} → List X → X → Option X
given [] usual = Some usual
given (x ∷ []) usual = Some x
given _ usual = None

-- ---- the order of lines

-- the line isn't blank
abbrev pub says : Line → Bool
says Blank = false
says _ = true

-- the line is a directive
abbrev pub declares : Line → Bool
declares (Declares d) = true
declares _ = false

-- the line is a label or an instruction
abbrev pub is_body : Line → Bool
is_body (Label name) = true
is_body (Code s) = true
is_body _ = false

-- behind a line that passes the first test none passes the second
unfoldable pub none_behind : (Line → Bool) → (Line → Bool) → List Line → Bool
none_behind first later [] = true
none_behind first later (line ∷ lines) = if first line then list_all (λ l. not (later l)) lines else none_behind first later lines

-- the version stands before all else, and no directive behind a label or an instruction
abbrev pub are_in_order : List Line → Bool
are_in_order lines = none_behind says gives_version lines && none_behind is_body declares lines

-- ---- labels

-- the labels with the number of the instruction that follows each, where the next instruction has the number n
unfoldable pub labels_from : ℕ → List Line → List (List ℕ × ℕ)
labels_from n [] = []
labels_from n (Label name ∷ lines) = (name, n) ∷ labels_from n lines
labels_from n (Code s ∷ lines) = labels_from (suc n) lines
labels_from n (_ ∷ lines) = labels_from n lines

-- the number that the label of this name stands for
abbrev pub position_of : List (List ℕ × ℕ) → List ℕ → Option ℕ
position_of labels name = option_map (λ l. l.1) (find (λ l. pointwise ◌==◌ l.0 name) labels)

-- no name stands twice
unfoldable pub names_once : List (List ℕ × ℕ) → Bool
names_once [] = true
names_once (l ∷ labels) = not (is_some (position_of labels l.0)) && names_once labels

-- the bytes of an instruction with this target
abbrev pub with_target : List ℕ → ℕ → List ℕ
with_target bytes target = take 12 bytes ++ bytes_of 4 target

-- the bytes of an instruction, whose label has to be there
abbrev pub resolved : List (List ℕ × ℕ) → Source → Option (List ℕ)
resolved labels s = elim s.label as (λ _. Option (List ℕ)) [
  | None ↦ Some s.bytes
  | Some name ↦ option_map (with_target s.bytes) (position_of labels name)
]

-- ---- counted blocks

-- the instruction is an endrep, and this its innermost block
abbrev pub closes : Option Mark → Option ℕ → ℕ → Bool
closes (Some (mark.EndRep rep)) home r = is_it home r
closes _ home r = false

-- the last of the first so many that closes the block which begins at r
unfoldable pub end_among : List Mark → ℕ → ℕ → Option ℕ
end_among marks r zero = None
end_among marks r (suc k) = if closes (slice_get marks k) (head_of (blocks_at marks k)) r then Some k else end_among marks r k

-- what a rep and an endrep lead to: the end of the block, and the innermost block
abbrev pub partner_by : Mark → Option ℕ → Option ℕ → Option ℕ
partner_by (mark.Rep imm end) home closed = closed
partner_by (mark.EndRep rep) home closed = home
partner_by mark.Plain home closed = None

-- the bytes lead there
abbrev pub led_to : Option ℕ → List ℕ → List ℕ
led_to None bytes = bytes
led_to (Some n) bytes = with_target bytes n

-- each rep and each endrep from number n on leads to the other
unfoldable pub paired_from : Version → List Mark → ℕ → List (List ℕ) → List (List ℕ)
paired_from v marks n [] = []
paired_from v marks n (bytes ∷ code) =
    led_to (partner_by (mark_of_bytes v bytes) (head_of (blocks_at marks n)) (end_among marks n (length marks))) bytes ∷ paired_from v marks (suc n) code

-- the code, where each rep and each endrep leads to the other
abbrev pub paired : Version → List (List ℕ) → List (List ℕ)
paired v code = paired_from v (map (mark_of_bytes v) code) 0 code

-- ---- the whole

-- no more than an image holds, and no instruction with a fault
abbrev pub is_listing : Listing → Bool
is_listing l =
    nat_le (length l.starts) most_starts
    && (nat_le (length l.slots) most_slot_arrays
    && (nat_le (length l.code) most_instructions
    && list_all (λ bytes. not (is_some (instr_fault l.version l.raw bytes))) l.code))

-- the fields together, where no directive that stands once was repeated and each label was found
abbrev pub listing_with : List Line → Option Bool → Option ℕ → Option ℕ → Option (List (List ℕ)) → Option Listing
listing_with lines (Some raw) (Some memory) (Some budget) (Some code) = Some (record {
  version = version_in lines;
  raw = raw;
  memory = memory;
  budget = budget;
  needs = needs_named (flat_map need_in lines);
  starts = flat_map start_in lines;
  slots = flat_map slots_in lines;
  code = code;
})
listing_with lines _ _ _ _ = None

-- the fields with the blocks of the code, if it keeps the block rule
abbrev pub nested : Listing → Option Listing
nested l = if_fits (λ m. keep_blocks m.version m.code) (Some (record l { code = paired l.version l.code }))

-- the fields that the lines give
unfoldable pub listing_from : List Line → Option Listing
listing_from lines =
    if are_in_order lines && names_once (labels_from 0 lines) then
    then_with
    (if_fits is_listing
    (listing_with lines
    (given (flat_map mark_in lines) false)
    (given (flat_map memory_in lines) 0)
    (given (flat_map budget_in lines) 1)
    (all_of (resolved (labels_from 0 lines)) (flat_map source_in lines))))
    nested
    else None

-- the version of the lines behind this one
abbrev pub version_behind : Version → Line → Version
version_behind v said = if gives_version said then version.Two else v

-- what lines say, each in the version that stands before it
unfoldable pub lines_from : Version → List (List ℕ) → Option (List Line)
lines_from v [] = Some []
lines_from v (line ∷ lines) =
    then_with (line_of v (words_of line)) (λ said. option_map (λ more. said ∷ more) (lines_from (version_behind v said) lines))

-- what each line of the text says
abbrev pub lines_said : List ℕ → Option (List Line)
lines_said text = if is_ascii text then lines_from version.One (lines_of text) else None

-- the fields that a text gives, if it denotes an image
unfoldable pub listing_of : List ℕ → Option Listing
listing_of text = then_with (lines_said text) listing_from
