-- The ranges of an image, one by one, and of an image to which one thing is added.
use Rattle.zl_code.proofs.Common.{Bool, Condition, Image, Instr, List, SlotArray, Start, [], and_from, and_parts, are_needs, arith, is_in_range}
use Rattle.zl_code.proofs.Common.{is_instr_in_range, is_slot_in_range, is_start_in_range, le-leb, leb-true, length, length-append, list_all, lt-ltb}
use Rattle.zl_code.proofs.Common.{ltb-true, map}
use Rattle.zl_code.proofs.Common.{nat_le, nat_lt, refl, true, ℕ, ◌++◌, ◌<◌, ◌∷◌, ◌≡◌, ◌≤◌}
use Rattle.zl_code.specs.declared.image.Version.{Version}
use Rattle.zl_code.specs.declared.instr.Instr.TheVariants as instr
use Rattle.zl_code.specs.Blocks.{are_blocks, marks_of}
use Rattle.zl_code.specs.Jumps.{jump_of}
use Rattle.zl_code.proofs.ImageCode.{list_all_push}

-- an image in range, fact by fact
pub record Ranges (i : Image) : Type 0 where
  pub count : length i.code ≤ 4096
  pub memory : i.memory ≤ 65536
  pub least : 0 < i.budget
  pub most : i.budget ≤ 1000000
  pub needs : are_needs i.needs ≡ true
  pub starts_count : length i.starts ≤ 7
  pub slots_count : length i.slots ≤ 8
  pub starts : list_all is_start_in_range i.starts ≡ true
  pub slots : list_all is_slot_in_range i.slots ≡ true
  pub code : list_all (is_instr_in_range i.version i.raw) i.code ≡ true
  pub blocks : are_blocks (marks_of i.code) (map jump_of i.code) ≡ true

pub ranges : (i : Image) → is_in_range i ≡ true → Ranges i
ranges i h =
    let a = and_parts (nat_le (length i.code) 4096) _ h in
    let b = and_parts (nat_le i.memory 65536) _ a.1 in
    let c = and_parts (nat_lt 0 i.budget) _ b.1 in
    let d = and_parts (nat_le i.budget 1000000) _ c.1 in
    let e = and_parts (are_needs i.needs) _ d.1 in
    let f = and_parts (nat_le (length i.starts) 7) _ e.1 in
    let g = and_parts (nat_le (length i.slots) 8) _ f.1 in
    let j = and_parts (list_all is_start_in_range i.starts) _ g.1 in
    let k = and_parts (list_all is_slot_in_range i.slots) _ j.1 in
    let l = and_parts (list_all (is_instr_in_range i.version i.raw) i.code) _ k.1 in
    record {
      count = leb-true _ _ a.0;
      memory = leb-true _ _ b.0;
      least = ltb-true _ _ c.0;
      most = leb-true _ _ d.0;
      needs = e.0;
      starts_count = leb-true _ _ f.0;
      slots_count = leb-true _ _ g.0;
      starts = j.0;
      slots = k.0;
      code = l.0;
      blocks = l.1;
    }

pub in_range_by : (i : Image) → Ranges i → is_in_range i ≡ true
in_range_by i r =
    and_from _ _ (le-leb _ _ r.count) (and_from _ _ (le-leb _ _ r.memory) (and_from _ _ (lt-ltb _ _ r.least) (and_from _ _ (le-leb _ _ r.most)
    (and_from _ _ r.needs
    (and_from _ _ (le-leb _ _ r.starts_count) (and_from _ _ (le-leb _ _ r.slots_count)
    (and_from _ _ r.starts (and_from _ _ r.slots (and_from _ _ r.code r.blocks)))))))))

-- ---- one thing more

-- one item more, of which there may be so many
one_more : {X : Type 0} (xs : List X) (x : X) (most : ℕ) → length xs < most → length (xs ++ (x ∷ [])) ≤ most
one_more xs x most room = omega (arith, length-append xs (x ∷ []))

-- what may stand without the raw mark may stand under it
pub also_raw : (v : Version) (raw : Bool) (x : Instr) → is_instr_in_range v raw x ≡ true → is_instr_in_range v true x ≡ true
also_raw v raw (instr.Unknown bytes) h = (and_parts raw _ h).1
also_raw v raw _ h = h

marked : (v : Version) (raw : Bool) (code : List Instr) → list_all (is_instr_in_range v raw) code ≡ true → list_all (is_instr_in_range v true) code ≡ true
marked v raw [] h = refl
marked v raw (x ∷ code) h = let p = and_parts (is_instr_in_range v raw x) _ h in and_from _ _ (also_raw v raw x p.0) (marked v raw code p.1)

abbrev image : Version → Bool → ℕ → ℕ → List Condition → List Start → List SlotArray → List Instr → Image
image v raw memory budget needs starts slots code =
    record { version = v; raw = raw; memory = memory; budget = budget; needs = needs; starts = starts; slots = slots; code = code }

module _ (v : Version) (raw : Bool) (memory budget : ℕ) (needs : List Condition) (starts : List Start) (slots : List SlotArray) (code : List Instr)
    (h : is_in_range (image v raw memory budget needs starts slots code) ≡ true) where
  was : Ranges (image v raw memory budget needs starts slots code)
  was = ranges (image v raw memory budget needs starts slots code) h

  -- the mark, the declarations or the code may be others
  with_parts : (raw2 : Bool) (starts2 : List Start) (slots2 : List SlotArray) (code2 : List Instr)
      → length starts2 ≤ 7 → list_all is_start_in_range starts2 ≡ true → length slots2 ≤ 8 → list_all is_slot_in_range slots2 ≡ true
      → length code2 ≤ 4096 → list_all (is_instr_in_range v raw2) code2 ≡ true → are_blocks (marks_of code2) (map jump_of code2) ≡ true
      → is_in_range (image v raw2 memory budget needs starts2 slots2 code2) ≡ true
  with_parts raw2 starts2 slots2 code2 few_starts starts_fit few_slots slots_fit short code_fits keeps =
      in_range_by (image v raw2 memory budget needs starts2 slots2 code2)
      (record {
        count = short;
        memory = was.memory;
        least = was.least;
        most = was.most;
        needs = was.needs;
        starts_count = few_starts;
        slots_count = few_slots;
        starts = starts_fit;
        slots = slots_fit;
        code = code_fits;
        blocks = keeps;
      })

  pub raw_in_range : is_in_range (image v true memory budget needs starts slots code) ≡ true
  raw_in_range = with_parts true starts slots code was.starts_count was.starts was.slots_count was.slots was.count (marked v raw code was.code) was.blocks

  pub starts_in_range : (start : Start) → is_start_in_range start ≡ true → length starts < 7
      → is_in_range (image v raw memory budget needs (starts ++ (start ∷ [])) slots code) ≡ true
  starts_in_range start fits room = with_parts raw (starts ++ (start ∷ [])) slots code (one_more starts start 7 room)
      (list_all_push is_start_in_range starts start was.starts fits) was.slots_count was.slots was.count was.code was.blocks

  pub slots_in_range : (array : SlotArray) → is_slot_in_range array ≡ true → length slots < 8
      → is_in_range (image v raw memory budget needs starts (slots ++ (array ∷ [])) code) ≡ true
  slots_in_range array fits room = with_parts raw starts (slots ++ (array ∷ [])) code was.starts_count was.starts (one_more slots array 8 room)
      (list_all_push is_slot_in_range slots array was.slots fits) was.count was.code was.blocks

  pub code_in_range : (code2 : List Instr) → list_all (is_instr_in_range v raw) code2 ≡ true → length code2 ≤ 4096
      → are_blocks (marks_of code2) (map jump_of code2) ≡ true → is_in_range (image v raw memory budget needs starts slots code2) ≡ true
  code_in_range code2 fits short keeps = with_parts raw starts slots code2 was.starts_count was.starts was.slots_count was.slots short fits keeps
