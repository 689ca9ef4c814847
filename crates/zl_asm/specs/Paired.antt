-- How the blocks of a code are paired. No public clause cites this module.
use Rattle.std.specs.Prelude.{ℕ, suc, ◌≡◌, ◌<◌, List, [], ◌∷◌, length, slice_set, Option, Some, None}
use Rattle.std.specs.Option.{unwrap_or}
use Rattle.zl_code.specs.Blocks.{AreHomes, blocks_at, head_of, marks_of}
use Rattle.zl_code.specs.Lists.{at}
use Rattle.zl_code.specs.declared.blocks.Mark.{Mark}
use Rattle.zl_code.specs.declared.blocks.Mark.TheVariants as mark
use Rattle.zl_code.specs.declared.instr.Instr.{Instr}
use Rattle.zl_code.specs.declared.instr.Instr.TheVariants as instr
use Rattle.zl_code.specs.declared.instr.LocalInstr.TheVariants as local
use Rattle.zl_asm.specs.Listing.{end_among}

-- a rep leads to the end of its block, and an endrep to its innermost block, where they are there
abbrev pub joined_to : Instr → Option ℕ → Option ℕ → Instr
joined_to (instr.Local (local.Rep imm end)) home closed = instr.Local (local.Rep imm (unwrap_or closed end))
joined_to (instr.Local (local.EndRep rep)) home closed = instr.Local (local.EndRep (unwrap_or home rep))
joined_to i home closed = i

-- so do those from number n on
unfoldable pub joined_from : List Mark → ℕ → List Instr → List Instr
joined_from marks n [] = []
joined_from marks n (i ∷ code) = joined_to i (head_of (blocks_at marks n)) (end_among marks n (length marks)) ∷ joined_from marks (suc n) code

-- and all of the code
abbrev pub joined_code : List Instr → List Instr
joined_code code = joined_from (marks_of code) 0 code

-- ---- place by place

-- the block that ends at the instruction, where this is the innermost one
abbrev pub closed_by : Mark → Option ℕ → Option ℕ
closed_by (mark.EndRep rep) home = home
closed_by _ home = None

-- the block has this end, if there is one
abbrev pub with_end : List (Option ℕ) → Option ℕ → ℕ → List (Option ℕ)
with_end ends None n = ends
with_end ends (Some r) n = slice_set ends r (Some n)

-- the innermost block of the place behind the n-th
abbrev pub home_after : Mark → ℕ → Option ℕ → (ℕ → Option ℕ) → Option ℕ
home_after (mark.Rep imm end) n home homes = Some n
home_after (mark.EndRep rep) n None homes = None
home_after (mark.EndRep rep) n (Some r) homes = homes r
home_after mark.Plain n home homes = home

-- of the first p places the innermost blocks are known, and where those blocks end; and the innermost block of place p
pub record Walked (marks : List Mark) (homes ends : List (Option ℕ)) (home : Option ℕ) (p : ℕ) : Type 0 where
  pub innermost : AreHomes marks homes p
  pub current : home ≡ head_of (blocks_at marks p)
  pub long : length ends ≡ length marks
  pub closing : (r : ℕ) → r < length marks → at ends r ≡ end_among marks r p

-- so they are of all
pub record AreWalked (marks : List Mark) (homes ends : List (Option ℕ)) : Type 0 where
  pub innermost : AreHomes marks homes (length marks)
  pub closing : (r : ℕ) → r < length marks → at ends r ≡ end_among marks r (length marks)
