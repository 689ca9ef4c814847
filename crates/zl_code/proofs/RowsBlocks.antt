-- Codes that keep the block rule and codes that don't, by computation.
use Rattle.zl_code.proofs.Common.{List, None, Option, Some, [], false, refl, suc, true, zero, ℕ, ◌∷◌, ◌≡◌}
use Rattle.zl_code.specs.declared.blocks.Mark.{Mark}
use Rattle.zl_code.specs.declared.blocks.Mark.TheVariants as mark
use Rattle.zl_code.specs.Blocks.{all_nest, all_stay, are_blocks, blocks_at}

-- a code without jumps
nest : List Mark → Type 0
nest marks = are_blocks marks [] ≡ true

breach : List Mark → Type 0
breach marks = are_blocks marks [] ≡ false

-- one block in another, and one beside another
nested : nest (mark.Rep 2 3 ∷ mark.Rep 3 2 ∷ mark.EndRep 1 ∷ mark.EndRep 0 ∷ []) × nest (mark.Rep 2 1 ∷ mark.EndRep 0 ∷ mark.Rep 3 3 ∷ mark.EndRep 2 ∷ [])
unfolding nest blocks_at all_nest all_stay
nested = (refl, refl)

-- the block that begins last has to end first
crossed : breach (mark.Rep 2 2 ∷ mark.Rep 3 3 ∷ mark.EndRep 0 ∷ mark.EndRep 1 ∷ [])
unfolding breach blocks_at all_nest all_stay
crossed = refl

-- an endrep without a rep, and reps without an endrep
alone : breach (mark.Plain ∷ mark.EndRep 0 ∷ []) × breach (mark.Rep 2 1 ∷ mark.Plain ∷ []) × breach (mark.Rep 2 1 ∷ [])
unfolding breach blocks_at all_nest all_stay
alone = (refl, refl, refl)

-- a rep and an endrep that name others
strangers : breach (mark.Rep 2 0 ∷ mark.EndRep 0 ∷ []) × breach (mark.Rep 2 1 ∷ mark.EndRep 1 ∷ [])
    × breach (mark.Rep 2 1 ∷ mark.EndRep 0 ∷ mark.Rep 2 1 ∷ mark.EndRep 2 ∷ [])
unfolding breach blocks_at all_nest all_stay
strangers = (refl, refl, refl)

-- four blocks deep, and five
deep : nest (mark.Rep 1 7 ∷ mark.Rep 1 6 ∷ mark.Rep 1 5 ∷ mark.Rep 1 4 ∷ mark.EndRep 3 ∷ mark.EndRep 2 ∷ mark.EndRep 1 ∷ mark.EndRep 0 ∷ [])
    × breach (mark.Rep 1 9 ∷ mark.Rep 1 8 ∷ mark.Rep 1 7 ∷ mark.Rep 1 6 ∷ mark.Rep 1 5 ∷ mark.EndRep 4 ∷ mark.EndRep 3 ∷ mark.EndRep 2 ∷ mark.EndRep 1
    ∷ mark.EndRep 0 ∷ [])
unfolding nest breach blocks_at all_nest all_stay
deep = (refl, refl)

-- how often
turns : breach (mark.Rep 0 1 ∷ mark.EndRep 0 ∷ []) × nest (mark.Rep 1 1 ∷ mark.EndRep 0 ∷ []) × nest (mark.Rep 1000000 1 ∷ mark.EndRep 0 ∷ [])
    × breach (mark.Rep 1000001 1 ∷ mark.EndRep 0 ∷ [])
unfolding nest breach blocks_at all_nest all_stay
turns = (refl, refl, refl, refl)

-- ---- one jump in a code with one block, which begins at 1 and ends at 3

jump : ℕ → ℕ → List (Option ℕ)
jump zero m = Some m ∷ []
jump (suc n) m = None ∷ jump n m

stays : ℕ → ℕ → Type 0
stays n m = are_blocks (mark.Plain ∷ mark.Rep 2 3 ∷ mark.Plain ∷ mark.EndRep 1 ∷ mark.Plain ∷ []) (jump n m) ≡ true

leaves : ℕ → ℕ → Type 0
leaves n m = are_blocks (mark.Plain ∷ mark.Rep 2 3 ∷ mark.Plain ∷ mark.EndRep 1 ∷ mark.Plain ∷ []) (jump n m) ≡ false

-- the endrep is inside, from inside and from outside
to_endrep : stays 2 3 × leaves 0 3 × leaves 4 3
unfolding stays leaves jump blocks_at all_nest all_stay
to_endrep = (refl, refl, refl)

-- the rep is outside
to_rep : stays 0 1 × stays 4 1 × leaves 2 1
unfolding stays leaves jump blocks_at all_nest all_stay
to_rep = (refl, refl, refl)

-- into the block, out of it, and over it
across : leaves 0 2 × leaves 2 4 × leaves 2 0 × stays 0 4
unfolding stays leaves jump blocks_at all_nest all_stay
across = (refl, refl, refl, refl)

-- out of the code, from inside and from outside
off : leaves 2 5 × leaves 2 9 × stays 0 5 × stays 4 9
unfolding stays leaves jump blocks_at all_nest all_stay
off = (refl, refl, refl, refl)
