-- What a draft of an image holds of the lines that were read. No public clause cites this module.
use Rattle.std.specs.Prelude.{ℕ, ◌≡◌, Bool, true, false, ◌&&◌, nat_le, List, [], ◌∷◌, ◌++◌, length, map, take, Option, Some, None, if◌then◌else◌, ◌⊎◌}
use Rattle.std.specs.List.{flat_map, list_all, list_any}
use Rattle.zl_code.specs.Common.{Image, needs_named, instr_bytes, is_instr_in_range, is_start_in_range, is_slot_in_range}
use Rattle.zl_code.specs.declared.image.Version.{Version}
use denote.Ref.{Bor}
use Rattle.zl_code.specs.Limits.{most_memory, most_budget}
use Rattle.zl_code.specs.declared.instr.Instr.{Instr}
use Rattle.zl_asm.specs.declared.directive.Directive.{Directive}
use Rattle.zl_asm.specs.declared.directive.Directive.TheVariants as directive
use Rattle.zl_asm.specs.declared.draft.Draft.{Draft}
use Rattle.zl_asm.specs.declared.draft.SourceLine.{SourceLine}
use Rattle.zl_asm.specs.Words.{is_ascii, words_of}
use Rattle.zl_asm.specs.Lines.{Line, Source, all_of, line_of}
use Rattle.zl_asm.specs.Listing.{mark_in, memory_in, budget_in, need_in, start_in, slots_in, source_in, version_in, says, is_body, are_in_order, labels_from}
use Rattle.zl_asm.specs.Listing.{names_once, resolved, listing_from, lines_said}
use Rattle.zl_asm.specs.Denotes.{fields_of}
use Rattle.zl_asm.specs.Kept.{kept_value}

-- The values that the lines give of a field that can be given once: none, and the field is the usual one, or just
-- that of the field.
abbrev pub IsGiven : {X : Type 0} → Bool → X → X → List X → Type 0
IsGiven true value usual values = values ≡ value ∷ []
IsGiven false value usual values = (values ≡ []) × (value ≡ usual)

-- what a draft holds
pub record Held : Type 0 where
  -- what the directives said
  pub image : Image
  pub has_memory : Bool
  pub has_budget : Bool
  -- a line was read that isn't blank
  pub has_begun : Bool
  -- a label or an instruction was read
  pub has_body : Bool
  -- the labels with the numbers of their instructions
  pub labels : List (List ℕ × ℕ)
  pub sources : List Source

-- the labels of a map, by their bytes
abbrev pub labels_shown : List (Bor (List ℕ) × ℕ) → List (List ℕ × ℕ)
labels_shown labels = map (λ l. (l.0.now, l.1)) labels

-- the instructions, without the numbers of their lines
abbrev pub sources_shown : List SourceLine → List Source
sources_shown sources = map (λ s. kept_value s.kept) sources

-- what this draft holds
abbrev pub held_by : Draft → Held
held_by d = record {
  image = d.image;
  has_memory = d.has_memory;
  has_budget = d.has_budget;
  has_begun = d.has_begun;
  has_body = d.has_body;
  labels = labels_shown d.labels.entries;
  sources = sources_shown d.sources.items;
}

-- it is what these lines said
pub record IsHeldOf (said : List Line) (h : Held) : Type 0 where
  pub order : are_in_order said ≡ true
  pub some : h.has_begun ≡ list_any says said
  pub body : h.has_body ≡ list_any is_body said
  pub version : h.image.version ≡ version_in said
  pub mark : IsGiven h.image.raw h.image.raw false (flat_map mark_in said)
  pub memory : IsGiven h.has_memory h.image.memory 0 (flat_map memory_in said)
  pub budget : IsGiven h.has_budget h.image.budget 1 (flat_map budget_in said)
  pub needs : h.image.needs ≡ needs_named (flat_map need_in said)
  pub starts : h.image.starts ≡ flat_map start_in said
  pub slots : h.image.slots ≡ flat_map slots_in said
  pub labels : h.labels ≡ labels_from 0 said
  pub once : names_once (labels_from 0 said) ≡ true
  pub sources : h.sources ≡ flat_map source_in said

-- each field of the directive is in its range
abbrev pub is_directive_in_range : Directive → Bool
is_directive_in_range directive.VersionTwo = true
is_directive_in_range directive.Raw = true
is_directive_in_range (directive.Memory n) = nat_le n most_memory
is_directive_in_range (directive.Budget n) = nat_le 1 n && nat_le n most_budget
is_directive_in_range (directive.Need c) = true
is_directive_in_range (directive.Start s) = is_start_in_range s
is_directive_in_range (directive.Slots s) = is_slot_in_range s

-- whichever lines said what was held, with this line they say what is held now
abbrev pub Holds : Held → Line → Held → Type 0
Holds old line new = (said : List Line) → IsHeldOf said old → IsHeldOf (said ++ line ∷ []) new

-- whichever lines said what is held, with this line next no lines give the fields of an image
abbrev pub Refuses : Held → Line → Type 0
Refuses h line = (said : List Line) → IsHeldOf said h → (rest : List Line) → listing_from (said ++ line ∷ rest) ≡ None

-- ---- a line of a text

-- what the line says in a text of the version, if it is of the grammar
abbrev pub line_said : Version → List ℕ → Option Line
line_said v line = if is_ascii line then line_of v (words_of line) else None

-- the line says what is held now beside what was held
abbrev pub Reads : Held → List ℕ → Held → Type 0
Reads old line new = (said : Line) × (line_said old.image.version line ≡ Some said) × Holds old said new

-- the line says nothing, or what can't stand there
abbrev pub Stops : Held → List ℕ → Type 0
Stops h line = (line_said h.image.version line ≡ None) ⊎ ((said : Line) × (line_said h.image.version line ≡ Some said) × Refuses h said)

-- the draft holds what all lines of the text say
abbrev pub ReadsAll : List ℕ → Held → Type 0
ReadsAll text h = (said : List Line) × (lines_said text ≡ Some said) × IsHeldOf said h

-- ---- all lines

-- the image has the fields that the lines give
abbrev pub Gives : Held → Image → Type 0
Gives h i = (said : List Line) → IsHeldOf said h → listing_from said ≡ Some (fields_of i)

-- the lines give no fields of an image
abbrev pub GivesNone : Held → Type 0
GivesNone h = (said : List Line) → IsHeldOf said h → listing_from said ≡ None

-- there is one more instruction, which can stand there and has these bytes
abbrev pub Pushes : Version → Bool → List Instr → Option (List ℕ) → List Instr → Type 0
Pushes v raw old bytes new = (i : Instr) × (bytes ≡ Some (instr_bytes i)) × (is_instr_in_range v raw i ≡ true) × (new ≡ old ++ i ∷ [])

-- the instructions are those of the first sources
pub record Resolves (h : Held) (code : List Instr) : Type 0 where
  pub bytes : all_of (resolved h.labels) (take (length code) h.sources) ≡ Some (map instr_bytes code)
  pub in_range : list_all (is_instr_in_range h.image.version h.image.raw) code ≡ true

-- they are those of all
pub record IsCodeOf (h : Held) (code : List Instr) : Type 0 where
  pub bytes : all_of (resolved h.labels) h.sources ≡ Some (map instr_bytes code)
  pub in_range : list_all (is_instr_in_range h.image.version h.image.raw) code ≡ true
