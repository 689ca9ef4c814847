-- The handles that a line of a scenario gives to its process.
use Rattle.std.specs.Prelude.{ℕ, ◌+◌, ◌==◌, List, take, drop, codes, Option, Some, None, if◌then◌else◌}
use Rattle.std.specs.List.{position}
use Rattle.std.specs.Option.{option_map}
use Rattle.zl_code.specs.declared.boot.Grant.{Grant}
use Rattle.zl_asm.specs.Words.{is_word}
use Rattle.zl_asm.specs.Lines.{all_of}
use Rattle.zl_scenario.specs.Numbers.{number_of}

-- rights that are named: a number, or `*`, which leaves them to the kind of the object
unfoldable pub rights_named : List ℕ → Option (Option ℕ)
rights_named word = if is_word word (codes "*") then Some None else option_map Some (number_of word)

-- the handle of a koid and rights, if both are there
abbrev pub handle_with : Option ℕ → Option (Option ℕ) → Option Grant
handle_with (Some koid) (Some rights) = Some (record { koid = koid; rights = rights })
handle_with _ _ = None

-- the handle of a word whose first colon stands at this place
abbrev pub handle_cut : List ℕ → Option ℕ → Option Grant
handle_cut word (Some colon) = handle_with (number_of (take colon word)) (rights_named (drop (colon + 1) word))
handle_cut word None = None

-- `KOID:RIGHTS`
unfoldable pub handle_of : List ℕ → Option Grant
handle_of word = handle_cut word (position (λ byte. byte == 58) word)

-- the handles of all words in order, if each is one
abbrev pub handles_of : List (List ℕ) → Option (List Grant)
handles_of words = all_of handle_of words
