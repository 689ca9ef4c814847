-- Where the edges lead that are kept of each instruction, and when they suit the blocks that it is in. No public clause cites this
-- module.
use Rattle.std.specs.Prelude.{ℕ, ◌≡◌, ◌+◌, ◌≤◌, ◌⊎◌, List, [], ◌++◌, length, Option, Some, None, slice_get}
use Rattle.std.specs.List.{AllByRecursion}
use Rattle.std.specs.Option.{option_to_list}
use Rattle.zl_code.specs.declared.blocks.Mark.{Mark}
use Rattle.zl_code.specs.declared.blocks.Mark.TheVariants as mark
use Rattle.zl_code.specs.Blocks.{blocks_at, imm_of, IsBlock}
use Rattle.zl_verify.specs.declared.steps.Targets.{Targets}
use Rattle.zl_verify.specs.Steps.{Spot, spots}

-- the places to which one leads
abbrev pub places : Targets → List ℕ
places x = option_to_list x.jump ++ option_to_list x.next

abbrev pub places_by : Option Targets → List ℕ
places_by None = []
places_by (Some x) = places x

-- those of the n-th of a list
abbrev pub places_at : List Targets → ℕ → List ℕ
places_at targets n = places_by (slice_get targets n)

-- what leads to one place has it as the next
abbrev pub IsPacked : Option Targets → Type 0
IsPacked None = Unit {0}
IsPacked (Some x) = x.next ≡ None → x.jump ≡ None

-- where these edges lead from a spot
abbrev pub spots_from : List Mark → List Targets → Spot → List Spot
spots_from marks targets p = spots (slice_get marks p.0) p.0 p.1 (places_at targets p.0)

-- ---- blocks

-- an instruction with this mark leads so: a rep into its block, an endrep on and back, but on alone where its block is gone round
-- once, each of them also nowhere, and any other to places in its blocks
abbrev pub Suits : List Mark → Option Mark → ℕ → Option Targets → Type 0
Suits marks k n None = Unit {0}
Suits marks (Some (mark.Rep imm e)) n (Some x) = (x.jump ≡ None) × ((x.next ≡ None) ⊎ (x.next ≡ Some (n + 1)))
Suits marks (Some (mark.EndRep r)) n (Some x) =
    ((x.jump ≡ None) × (x.next ≡ None)) ⊎ ((x.next ≡ Some (n + 1)) × ((x.jump ≡ Some (r + 1)) ⊎ (x.jump ≡ None) × (imm_of marks r ≤ 1)))
Suits marks _ n (Some x) = AllByRecursion (λ m. blocks_at marks m ≡ blocks_at marks n) (places x)

-- each rep and each endrep has the other end of its block, and the edges suit the blocks
pub record IsNested (marks : List Mark) (targets : List Targets) : Type 0 where
  pub long : length targets ≡ length marks
  pub block : (r imm e : ℕ) → slice_get marks r ≡ Some (mark.Rep imm e) → IsBlock marks r imm e
  pub begin : (e r : ℕ) → slice_get marks e ≡ Some (mark.EndRep r) → slice_get marks r ≡ Some (mark.Rep (imm_of marks r) e)
  pub suits : (n : ℕ) → Suits marks (slice_get marks n) n (slice_get targets n)
