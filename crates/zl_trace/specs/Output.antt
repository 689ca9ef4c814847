-- What an engine writes.
use Rattle.std.specs.Prelude.{◌≡◌, ℕ, List, ◌++◌, Option}
use Rattle.std.specs.Io.KnownBytes.{Appends}

-- a writer took a beginning of the bytes, as far as it tells what it holds
pub record AppendsBeginning (old new : Option (List ℕ)) (bytes : List ℕ) : Type 0 where
  pub written : List ℕ
  pub rest : List ℕ
  pub appended : Appends old new written
  pub beginning : written ++ rest ≡ bytes

-- a writer and a block of bytes that it gets next hold together so many bytes more
pub record Gathers (old : Option (List ℕ)) (old_block : List ℕ) (new : Option (List ℕ)) (new_block more : List ℕ) : Type 0 where
  pub written : List ℕ
  pub appended : Appends old new written
  pub gathered : old_block ++ more ≡ written ++ new_block
