-- Counted blocks: rep and endrep nest as brackets, and who is in blocks has one counter for each.
use Rattle.std.specs.Prelude.{ℕ, zero, suc, ◌≡◌, ◌+◌, ◌-◌, ◌<◌, ◌≤◌, ◌==◌, ◌&&◌, nat_lt, nat_le, Bool, true, false, List, [], ◌∷◌, length, map, Option, Some, None, slice_get}
use Rattle.std.specs.List.{list_all}
use Rattle.zl_code.specs.declared.instr.Instr.{Instr}
use Rattle.zl_code.specs.declared.instr.Instr.TheVariants as instr
use Rattle.zl_code.specs.declared.instr.LocalInstr.TheVariants as local
use Rattle.zl_code.specs.Limits.{most_blocks, most_turns}
use Rattle.zl_code.specs.Lists.{at}
use Rattle.zl_code.specs.declared.blocks.Mark.{Mark}
use Rattle.zl_code.specs.declared.blocks.Mark.TheVariants as mark

-- what an instruction is to blocks
abbrev pub mark_of : Instr → Mark
mark_of (instr.Local (local.Rep imm end)) = mark.Rep imm end
mark_of (instr.Local (local.EndRep rep)) = mark.EndRep rep
mark_of _ = mark.Plain

abbrev pub marks_of : List Instr → List Mark
marks_of code = map mark_of code

-- the instruction neither begins a block nor ends one
abbrev pub is_plain : Mark → Bool
is_plain mark.Plain = true
is_plain _ = false

-- no instruction begins a block or ends one
abbrev pub is_flat : List Instr → Bool
is_flat code = list_all (λ instr. is_plain (mark_of instr)) code

-- ---- the blocks that a place is in

abbrev pub tail_of : List ℕ → List ℕ
tail_of [] = []
tail_of (r ∷ rs) = rs

-- a rep opens its block behind it, an endrep closes the innermost one
abbrev pub opened : Option Mark → ℕ → List ℕ → List ℕ
opened (Some (mark.Rep imm end)) n rs = n ∷ rs
opened (Some (mark.EndRep rep)) n rs = tail_of rs
opened _ n rs = rs

-- the blocks that a place is in, each by the place of its rep, the innermost first
unfoldable pub blocks_at : List Mark → ℕ → List ℕ
blocks_at marks zero = []
blocks_at marks (suc n) = opened (slice_get marks n) n (blocks_at marks n)

-- ---- counters

abbrev pub imm_in : Option Mark → ℕ
imm_in (Some (mark.Rep imm end)) = imm
imm_in _ = 0

-- how often the block is gone round that begins at r
abbrev pub imm_of : List Mark → ℕ → ℕ
imm_of marks r = imm_in (slice_get marks r)

-- one counter for each of these blocks, from 1 to its imm
abbrev pub AreCounters : List Mark → List ℕ → List ℕ → Type 0
AreCounters marks [] [] = Unit {0}
AreCounters marks [] (c ∷ cs) = ⊥
AreCounters marks (r ∷ rs) [] = ⊥
AreCounters marks (r ∷ rs) (c ∷ cs) = (0 < c) × (c ≤ imm_of marks r) × AreCounters marks rs cs

-- ---- nesting

abbrev pub head_of : List ℕ → Option ℕ
head_of [] = None
head_of (r ∷ rs) = Some r

abbrev pub end_in : Option Mark → ℕ
end_in (Some (mark.Rep imm end)) = end
end_in _ = 0

-- where the block ends that begins at r
abbrev pub end_of : List Mark → ℕ → ℕ
end_of marks r = end_in (slice_get marks r)

-- the block that begins at r is gone round imm times, and its endrep stands at e, inside it
pub record IsBlock (marks : List Mark) (r imm e : ℕ) : Type 0 where
  pub counted : 0 < imm
  pub before : r < e
  pub ends : slice_get marks e ≡ Some (mark.EndRep r)
  pub inside : blocks_at marks e ≡ r ∷ blocks_at marks r

-- ---- the block rule: rep and endrep nest as brackets, at most four deep, and a jump stays in its blocks

-- the instruction is the rep whose end has this number
abbrev pub is_rep_to : Option Mark → ℕ → Bool
is_rep_to (Some (mark.Rep imm e)) n = e == n
is_rep_to _ n = false

-- the instruction is the endrep of the rep with this number
abbrev pub is_end_of : Option Mark → ℕ → Bool
is_end_of (Some (mark.EndRep r)) n = r == n
is_end_of _ n = false

abbrev pub is_it : Option ℕ → ℕ → Bool
is_it None r = false
is_it (Some k) r = k == r

-- the instruction can stand there, in so many blocks, of which this is the innermost
abbrev pub nests : List Mark → ℕ → ℕ → Option ℕ → Option Mark → Bool
nests marks n depth home (Some (mark.Rep imm e)) =
    nat_lt 0 imm && (nat_le imm most_turns && (nat_lt depth most_blocks && is_end_of (slice_get marks e) n))
nests marks n depth home (Some (mark.EndRep r)) = is_it home r && is_rep_to (slice_get marks r) n
nests marks n depth home _ = true

abbrev pub nests_at : List Mark → ℕ → Bool
nests_at marks n = nests marks n (length (blocks_at marks n)) (head_of (blocks_at marks n)) (slice_get marks n)

-- the first so many can stand where they do
unfoldable pub all_nest : List Mark → ℕ → Bool
all_nest marks zero = true
all_nest marks (suc k) = all_nest marks k && nests_at marks k

abbrev pub are_same : List ℕ → List ℕ → Bool
are_same [] [] = true
are_same [] (y ∷ ys) = false
are_same (x ∷ xs) [] = false
are_same (x ∷ xs) (y ∷ ys) = (x == y) && are_same xs ys

-- a jump leads to the same blocks; behind the code there are none
abbrev pub stays : List Mark → ℕ → Option ℕ → Bool
stays marks n None = true
stays marks n (Some m) = are_same (blocks_at marks n) (blocks_at marks m)

-- so do those of the first so many
unfoldable pub all_stay : List Mark → List (Option ℕ) → ℕ → Bool
all_stay marks jumps zero = true
all_stay marks jumps (suc k) = all_stay marks jumps k && stays marks k (at jumps k)

-- a code with these marks and jumps keeps the rule
abbrev pub are_blocks : List Mark → List (Option ℕ) → Bool
are_blocks marks jumps = all_nest marks (length marks) && all_stay marks jumps (length marks)

-- ---- how the code gets there; no public clause cites what follows

-- the innermost block that each of the first p places is in
pub record AreHomes (marks : List Mark) (homes : List (Option ℕ)) (p : ℕ) : Type 0 where
  pub long : length homes ≡ length marks
  pub home : (n : ℕ) → n < p → at homes n ≡ head_of (blocks_at marks n)

-- the innermost block of the place behind the n-th
abbrev pub home_behind : Mark → ℕ → (ℕ → Option ℕ) → Option ℕ
home_behind (mark.Rep imm e) n homes = Some n
home_behind (mark.EndRep r) n homes = homes r
home_behind _ n homes = homes n

-- in how many blocks the next instruction is
abbrev pub deeper : Option Mark → ℕ → ℕ
deeper (Some (mark.Rep imm e)) depth = depth + 1
deeper (Some (mark.EndRep r)) depth = depth - 1
deeper _ depth = depth

-- the places before p nest, and the innermost block is known of each, and of p
pub record Walked (marks : List Mark) (homes : List (Option ℕ)) (depth p : ℕ) : Type 0 where
  pub nest : all_nest marks p ≡ true
  pub long : length homes ≡ length marks
  pub home : (n : ℕ) → n ≤ p → n < length marks → at homes n ≡ head_of (blocks_at marks n)
  pub deep : depth ≡ length (blocks_at marks p)
  pub shallow : depth ≤ most_blocks

-- the places nest, and the innermost block is known of each; or they don't
abbrev pub AreWalked : List Mark → Option (List (Option ℕ)) → Type 0
AreWalked marks None = all_nest marks (length marks) ≡ false
AreWalked marks (Some homes) = (all_nest marks (length marks) ≡ true) × AreHomes marks homes (length marks)

-- the same block, or none twice
abbrev pub is_same_home : Option ℕ → Option ℕ → Bool
is_same_home None None = true
is_same_home (Some x) (Some y) = x == y
is_same_home _ _ = false

abbrev pub stays_by : List (Option ℕ) → ℕ → Option ℕ → Bool
stays_by homes n None = true
stays_by homes n (Some m) = is_same_home (at homes n) (at homes m)
