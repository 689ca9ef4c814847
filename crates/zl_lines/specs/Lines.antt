-- Lines and words of a text: what a scenario, its schedule and a trace are cut into.
use Rattle.std.specs.Prelude.{ℕ, Bool, not, ◌==◌, List, codes, length, filter}
use Rattle.std.specs.List.{starts_with, slice_split}

-- the lines of a text, between line feeds
abbrev pub lines_of : List ℕ → List (List ℕ)
lines_of text = slice_split (λ byte. byte == 10) text

-- the first byte is `#`
abbrev pub is_comment : List ℕ → Bool
is_comment line = starts_with ◌==◌ line (codes "#")

-- the parts of a line between spaces that aren't empty
abbrev pub words_of : List ℕ → List (List ℕ)
words_of line = filter (λ word. not (length word == 0)) (slice_split (λ byte. byte == 32) line)
