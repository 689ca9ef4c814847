-- The fields that a text gives are those of one image at most.
use Rattle.zl_asm.proofs.Common.{Bool, Image, Instr, List, Listing, NoTextDenotesTwo, None, Option, Some, Version, [], and_parts, ap, fields_of, instr_bytes}
use Rattle.zl_asm.proofs.Common.{is_instr_in_range, list_all, map, ranges, refl, sym, true, ◌∙◌, ◌∷◌, ◌≡◌}
use Rattle.zl_code.proofs.ImageTable.{instr_fits, read_instr}

-- instructions in range are read again from their bytes
code_again : (v : Version) (raw : Bool) (code : List Instr) → list_all (is_instr_in_range v raw) code ≡ true
    → map (read_instr v) (map instr_bytes code) ≡ code
code_again v raw [] h = refl
code_again v raw (i ∷ code) h =
    let p = and_parts (is_instr_in_range v raw i) (list_all (is_instr_in_range v raw) code) h in
    λ k. (instr_fits v raw i p.0).again k ∷ code_again v raw code p.1 k

-- the image with these fields
image_of : Listing → Image
image_of l =
    let code = map (read_instr l.version) l.code in
    record { version = l.version; raw = l.raw; memory = l.memory; budget = l.budget; needs = l.needs; starts = l.starts; slots = l.slots; code = code }

image_again : (i : Image) → list_all (is_instr_in_range i.version i.raw) i.code ≡ true → image_of (fields_of i) ≡ i
unfolding image_of
image_again i h = λ k. record i { code = code_again i.version i.raw i.code h k }

unwrap : Listing → Option Listing → Listing
unwrap l None = l
unwrap l (Some m) = m

pub one_image : NoTextDenotesTwo
unfolding unwrap
one_image text i j h k =
    let same : fields_of i ≡ fields_of j = ap (unwrap (fields_of i)) (sym h.fields ∙ k.fields) in
    sym (image_again i (ranges i h.in_range).code) ∙ ap image_of same ∙ image_again j (ranges j k.in_range).code
