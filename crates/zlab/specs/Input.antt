-- What an engine reads: the whole input, unless it is too long.
use Rattle.std.specs.Prelude.{◌≡◌, ℕ, ◌+◌, ◌<◌, ◌≤◌, List, length, take, Option, IfSome}
use Rattle.std.specs.Io.KnownBytes.{Consumes}
use Rattle.zlab.specs.declared.input.Input.{Input}
use Rattle.zlab.specs.declared.input.Input.TheVariants as input

-- the most bytes of an input
abbrev pub MOST_INPUT : ℕ
MOST_INPUT = 4194304

-- the text isn't too long
abbrev pub FitsInput : List ℕ → Type 0
FitsInput text = length text ≤ MOST_INPUT

-- the text has these bytes, or they are too many
abbrev pub Holds : List ℕ → Input → Type 0
Holds bytes (input.Text text) = (text.items ≡ bytes) × FitsInput bytes
Holds bytes input.TooLong = MOST_INPUT < length bytes

-- a text that was read isn't too long
abbrev pub IsBounded : Input → Type 0
IsBounded (input.Text text) = FitsInput text.items
IsBounded input.TooLong = Unit {0}

-- the input is that of a reader, which may tell the bytes that it has left
pub record IsInputOf (told : Option (List ℕ)) (read : Input) : Type 0 where
  pub bytes : List ℕ
  pub those_told : IfSome told (λ left. left ≡ bytes)
  pub holds : Holds bytes read

-- the bytes are the first of a reader, up to so many, which may tell the bytes that it has left
pub record IsFrontOf (most : ℕ) (told : Option (List ℕ)) (front : List ℕ) : Type 0 where
  pub bytes : List ℕ
  pub those_told : IfSome told (λ left. left ≡ bytes)
  pub is_front : front ≡ take most bytes

-- a reader gave up so many bytes at most, as far as it tells what it has left
pub record TakesAtMost (most : ℕ) (old new : Option (List ℕ)) : Type 0 where
  pub taken : List ℕ
  pub consumed : Consumes old new taken
  pub at_most : length taken ≤ most

-- no more than one byte past the most of an input
abbrev pub TakesNoMore : (old new : Option (List ℕ)) → Type 0
TakesNoMore old new = TakesAtMost (MOST_INPUT + 1) old new
