-- The bytes of a listing are those of the image that has its fields.
use Rattle.zl_asm.proofs.Common.{EachTextGivesBytes, Image, List, Some, [], ap, concat, fields_of, flat_map, instr_bytes, length-map, listing_bytes, map}
use Rattle.zl_asm.proofs.Common.{option_map, refl, spelling, ℕ, ◌++◌, ◌∙◌, ◌∷◌, ◌≡◌}

all_in_one : {X : Type 0} (f : X → List ℕ) (xs : List X) → concat (map f xs) ≡ flat_map f xs
all_in_one f [] = refl
all_in_one f (x ∷ xs) = ap (λ (ys : List ℕ). f x ++ ys) (all_in_one f xs)

pub listing_bytes-fields : (i : Image) → listing_bytes (fields_of i) ≡ spelling i
listing_bytes-fields i = rw (length-map i.code instr_bytes, all_in_one instr_bytes i.code) refl

-- the bytes of the image that a text denotes
pub image_bytes_of-Denotes : EachTextGivesBytes
image_bytes_of-Denotes text i d = ap (option_map listing_bytes) d.fields ∙ ap Some (listing_bytes-fields i)
