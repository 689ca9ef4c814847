-- A code without reps and endreps keeps the block rule.
use Rattle.zl_code.proofs.Common.{Bool, List, None, Option, Some, and_parts, length, refl, slice_get, suc, true, zero, ℕ, [], ◌&&◌, ◌∷◌, ◌≡◌}
use Rattle.zl_code.specs.declared.instr.Instr.{Instr}
use Rattle.zl_code.specs.declared.blocks.Mark.{Mark}
use Rattle.zl_code.specs.declared.blocks.Mark.TheVariants as mark
use Rattle.zl_code.specs.Lists.{at}
use Rattle.zl_code.specs.Blocks.{all_nest, all_stay, are_blocks, are_same, blocks_at, head_of, is_flat, is_plain, mark_of, marks_of, nests, nests_at}
use Rattle.zl_code.specs.Blocks.{opened, stays}

-- the mark, if there is one, is plain
abbrev IsFlat : Option Mark → Type 0
IsFlat None = Unit {0}
IsFlat (Some m) = is_plain m ≡ true

flat_at : (code : List Instr) → is_flat code ≡ true → (n : ℕ) → IsFlat (slice_get (marks_of code) n)
flat_at [] h n = tt
flat_at (x ∷ code) h zero = (and_parts (is_plain (mark_of x)) (is_flat code) h).0
flat_at (x ∷ code) h (suc n) = flat_at code (and_parts (is_plain (mark_of x)) (is_flat code) h).1 n

module _ (marks : List Mark) (flat : (n : ℕ) → IsFlat (slice_get marks n)) where
  no_blocks : (n : ℕ) → blocks_at marks n ≡ []
  unfolding blocks_at
  no_blocks zero = refl
  no_blocks (suc n) = by (slice_get marks n) (flat n) (blocks_at marks n) (no_blocks n)
    where
      by : (o : Option Mark) → IsFlat o → (rs : List ℕ) → rs ≡ [] → opened o n rs ≡ []
      by None h rs e = e
      by (Some mark.Plain) h rs e = e
      by (Some (mark.Rep imm end)) h rs e = absurd (cc)
      by (Some (mark.EndRep rep)) h rs e = absurd (cc)

  all_nest_flat : (k : ℕ) → all_nest marks k ≡ true
  unfolding all_nest
  all_nest_flat zero = refl
  all_nest_flat (suc k) = rw (all_nest_flat k) (by (slice_get marks k) (flat k))
    where
      by : (o : Option Mark) → IsFlat o → nests marks k (length (blocks_at marks k)) (head_of (blocks_at marks k)) o ≡ true
      by None h = refl
      by (Some mark.Plain) h = refl
      by (Some (mark.Rep imm end)) h = absurd (cc)
      by (Some (mark.EndRep rep)) h = absurd (cc)

  all_stay_flat : (jumps : List (Option ℕ)) (k : ℕ) → all_stay marks jumps k ≡ true
  unfolding all_stay
  all_stay_flat jumps zero = refl
  all_stay_flat jumps (suc k) = rw (all_stay_flat jumps k) (by (at jumps k))
    where
      by : (o : Option ℕ) → stays marks k o ≡ true
      by None = refl
      by (Some m) = rw (no_blocks k, no_blocks m) refl

-- no place is in a block
pub never_in_blocks : (code : List Instr) → is_flat code ≡ true → (n : ℕ) → blocks_at (marks_of code) n ≡ []
never_in_blocks code h n = no_blocks (marks_of code) (flat_at code h) n

pub flat_blocks : (code : List Instr) (jumps : List (Option ℕ)) → is_flat code ≡ true → are_blocks (marks_of code) jumps ≡ true
flat_blocks code jumps h =
    let flat = flat_at code h in
    rw (all_nest_flat (marks_of code) flat (length (marks_of code)), all_stay_flat (marks_of code) flat jumps (length (marks_of code))) refl
