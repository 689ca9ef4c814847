-- What a trace text holds: its items, a line each.
use Rattle.std.specs.Prelude.{ℕ, ◌≡◌, ◌≢◌, ◌<◌, ◌+◌, ◌^◌, Bool, ◌||◌, ◌==◌, List, [], ◌∷◌, ◌++◌, codes, true, false, FitsSigned, if◌then◌else◌}
use Rattle.std.specs.List.{starts_with}
use Rattle.std.specs.Int.{w32}
use Rattle.std.specs.Fmt.{decimal, signed_decimal}
use Rattle.zl_rights.specs.Names.{status_name}
use Rattle.zl_rights.specs.Signals.{is_empty}
use Rattle.zl_code.specs.Common.{call_name}
use Rattle.zl_code.specs.Steps.{pid_of}
use Rattle.zl_code.specs.declared.history.Outcome.{Outcome}
use Rattle.zl_code.specs.declared.history.Outcome.TheVariants as outcome
use Rattle.zl_code.specs.declared.history.TraceItem.{TraceItem}
use Rattle.zl_code.specs.declared.history.TraceItem.TheVariants as item
use Rattle.zl_trace.specs.declared.reading.Line.{Line}
use Rattle.zl_trace.specs.declared.reading.Line.TheVariants as seen
use Rattle.zl_lines.specs.Lines.{is_comment, lines_of, words_of}

-- ---- the words of an item

-- how a call ended, as the last words of its line
abbrev pub outcome_words : Outcome → List (List ℕ)
outcome_words (outcome.Answered status) = status_name status ∷ []
outcome_words outcome.Blocked = codes "blocked" ∷ []
outcome_words (outcome.Ended code) = codes "ended" ∷ signed_decimal code ∷ []

-- what the process does, as the words behind it
abbrev pub doing_words : TraceItem → List (List ℕ)
doing_words (item.Run pid count) = codes "run" ∷ decimal count ∷ []
doing_words (item.Call pid c o) = call_name c ∷ outcome_words o
doing_words (item.Stuck pid) = codes "stuck" ∷ []

-- the words of the line of an item
abbrev pub item_words : TraceItem → List (List ℕ)
item_words x = decimal (pid_of x) ∷ doing_words x

-- the words with a space between them
unfoldable pub spaced : List (List ℕ) → List ℕ
spaced [] = []
spaced (word ∷ []) = word
spaced (word ∷ words) = word ++ (codes " " ++ spaced words)

-- the code of an end has 32 bits
abbrev pub HasCode : Outcome → Type 0
HasCode (outcome.Ended code) = FitsSigned w32 code
HasCode _ = Unit {0}

-- the item has a line: its process has 64 bits, and it stands for one local instruction at least, and for less than 2 ^ 32
abbrev pub HasLine : TraceItem → Type 0
HasLine (item.Run pid count) = (pid < 2 ^ 64) × (0 < count) × (count < 2 ^ 32)
HasLine (item.Call pid c o) = (pid < 2 ^ 64) × HasCode o
HasLine (item.Stuck pid) = pid < 2 ^ 64

-- these are the words of the item, which has a line
pub record Tells (words : List (List ℕ)) (x : TraceItem) : Type 0 where
  pub has_line : HasLine x
  pub same : words ≡ item_words x

-- they are those of no item
abbrev pub TellsNothing : List (List ℕ) → Type 0
TellsNothing words = (x : TraceItem) → HasLine x → words ≢ item_words x

-- ---- the lines of a text

-- the line begins with `process` or `end`: it is none of an item, and neither is any below it
abbrev pub ends_items : List ℕ → Bool
ends_items line = starts_with ◌==◌ line (codes "process") || starts_with ◌==◌ line (codes "end")

-- a comment, or a line without words
abbrev pub says_nothing : List ℕ → Bool
says_nothing line = is_comment line || is_empty (words_of line)

-- the lines, the first of which has number n, that are to be those of items, each with its number
unfoldable pub item_lines_from : ℕ → List (List ℕ) → List (ℕ × List ℕ)
item_lines_from n [] = []
item_lines_from n (line ∷ lines) =
    if ends_items line then []
    else (if says_nothing line then item_lines_from (n + 1) lines else (n, line) ∷ item_lines_from (n + 1) lines)

-- those of a text
abbrev pub item_lines_of : List ℕ → List (ℕ × List ℕ)
item_lines_of text = item_lines_from 1 (lines_of text)

-- the lines are, word for word, those of the items
abbrev pub AreLinesOf : List (ℕ × List ℕ) → List TraceItem → Type 0
AreLinesOf [] [] = Unit {0}
AreLinesOf (line ∷ lines) (x ∷ items) = Tells (words_of line.1) x × AreLinesOf lines items
AreLinesOf _ _ = ⊥

-- line n of the text is the first that is to be that of an item and isn't
pub record IsFirstWrong (text : List ℕ) (n : ℕ) : Type 0 where
  pub before : List (ℕ × List ℕ)
  pub line : List ℕ
  pub after : List (ℕ × List ℕ)
  pub are_all : item_lines_of text ≡ before ++ ((n, line) ∷ after)
  pub items : List TraceItem
  pub are_items : AreLinesOf before items
  pub is_none : TellsNothing (words_of line)

-- ---- one line

-- what a line is to the reader
abbrev pub Says : List ℕ → Line → Type 0
Says line seen.End = ends_items line ≡ true
Says line seen.Nothing = (ends_items line ≡ false) × (says_nothing line ≡ true)
Says line (seen.Item x) = (ends_items line ≡ false) × (says_nothing line ≡ false) × Tells (words_of line) x
Says line seen.Wrong = (ends_items line ≡ false) × (says_nothing line ≡ false) × TellsNothing (words_of line)
