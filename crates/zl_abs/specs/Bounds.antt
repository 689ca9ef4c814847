-- The bounds of words: which there are in a program, and the next one from a number on.
use Rattle.std.specs.Prelude.{ℕ, ◌≡◌, ◌-◌, ◌++◌, ◌&&◌, nat_lt, nat_le, List, [], ◌∷◌, Option, Some, None, if◌then◌else◌}
use Rattle.std.specs.List.{flat_map}
use Rattle.zl_code.specs.declared.layout.Ending.{Ending}
use Rattle.zl_code.specs.declared.layout.Ending.TheVariants as ending
use Rattle.zl_code.specs.declared.instr.Instr.{Instr}
use Rattle.zl_code.specs.declared.instr.Instr.TheVariants as instr
use Rattle.zl_code.specs.Instructions.{Row, call_row, row_of}
use Rattle.zl_code.specs.Spells.{local_parts, number_at}
use Rattle.zl_abs.specs.Values.{ANY}

-- the number in an instruction that ends so, where it uses one
abbrev pub imm_by : Ending → ℕ → Option ℕ
imm_by ending.Number imm = Some imm
imm_by ending.Both imm = Some imm
imm_by ending.Room imm = Some imm
imm_by ending.FromSlots imm = Some imm
imm_by ending.IntoSlots imm = Some imm
imm_by _ imm = None

-- that of an instruction of the row, if it has one
abbrev pub imm_in : Option Row → ℕ → Option ℕ
imm_in None imm = None
imm_in (Some r) imm = imm_by r.ending imm

-- the number in a known instruction, where its row uses one
unfoldable pub imm_of : Instr → Option ℕ
imm_of (instr.Local i) = imm_in (row_of (local_parts i).opcode) (local_parts i).imm
imm_of (instr.Call i) = imm_by (call_row i.name).ending (number_at i.last 0 4)
imm_of (instr.Unknown bytes) = None

-- the number and the one below it
abbrev pub bounds_by : Option ℕ → List ℕ
bounds_by None = []
bounds_by (Some imm) = imm ∷ (imm - 1) ∷ []

-- the bounds that every program has, but for the largest
abbrev pub plain_bounds : List ℕ
plain_bounds = 0 ∷ 30 ∷ 64 ∷ 255 ∷ 65536 ∷ 0xffff_ffff ∷ []

-- the bounds that the instructions bring
abbrev pub imm_bounds : List Instr → List ℕ
imm_bounds code = flat_map (λ i. bounds_by (imm_of i)) code

-- the bounds of a program with this code, but for the largest
abbrev pub bounds_of : List Instr → List ℕ
bounds_of code = plain_bounds ++ imm_bounds code

-- the least of best and of the bounds that aren't below n
unfoldable pub least_from : ℕ → ℕ → List ℕ → ℕ
least_from n best [] = best
least_from n best (b ∷ bs) = least_from n (if nat_le n b && nat_lt b best then b else best) bs

-- the next bound, from n on
abbrev pub rounded : List ℕ → ℕ → ℕ
rounded bounds n = least_from n ANY bounds

-- numbers are rounded up alike by both
abbrev pub RoundAlike : List ℕ → List ℕ → Type 0
RoundAlike bs cs = (n : ℕ) → rounded bs n ≡ rounded cs n
