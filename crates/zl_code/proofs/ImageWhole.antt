-- The bytes of a whole image.
use Rattle.zl_code.proofs.Common.{Bool, DecodeFault, Err, IfOk, Image, List, MatchResult, None, Ok, Result, Some, Spells, [], and_from, ap, append-nil}
use Rattle.zl_code.proofs.Common.{are_needs, arith, code_pieces, cond, count_at, drop, drop-drop, drop_all, eqb, false, first_fault, first_some, flat_map}
use Rattle.zl_code.proofs.Common.{header, header_fault, inl, inr, instr_bytes, instr_fault, is_in_range, is_instr_in_range, is_raw_at, is_slot_in_range}
use Rattle.zl_code.proofs.Common.{is_start_in_range, le-leb, length, length-append, length-map, list_all, lt-ltb, map, nat_le, nat_lt, needs_byte, number_at}
use Rattle.zl_code.proofs.Common.{pieces, refl, slice_index, slot_bytes, slot_fault, slot_pieces, slots_at, spelling, start_bytes, start_fault, start_pieces}
use Rattle.zl_code.proofs.Common.{starts_at, sym, true, ℕ, ◌*◌, ◌++◌, ◌+◌, ◌∙◌, ◌≡◌, ◌⊎◌}
use Rattle.zl_code.specs.declared.image.DecodeFault.TheVariants as faults
use Rattle.zl_code.specs.declared.image.Version.{Version}
use Rattle.zl_code.specs.declared.image.Version.TheVariants as version
use Rattle.zl_code.specs.Blocks.{are_blocks, marks_of}
use Rattle.zl_code.specs.Jumps.{jump_of}
use Rattle.zl_code.specs.Spells.{is_version, keep_blocks, version_at, version_number}
use Rattle.zl_code.proofs.BlockBytes.{blocks_again}
use Rattle.zl_code.proofs.Common.{Instr, leb-true, not, then_some, ◌≤◌}
use Rattle.zl_code.proofs.Common.{if◌then◌else◌, ◌==◌}
use Rattle.zl_code.proofs.ImageBytes.{IsBytes, number_of-bytes_of}
use Rattle.zl_code.proofs.ImageNeeds.{needs_at, needs_fit}
use Rattle.zl_code.proofs.ImageDeclared.{start_fits, slots_fit, read_start, read_slots}
use Rattle.zl_code.proofs.ImageTable.{instr_fits, read_instr}
use Rattle.zl_code.proofs.ImagePieces.{after, after_8, after_16, span_8, span_16, length-pieces, joined, Parted, parted}
use Rattle.zl_code.proofs.ImageRanges.{Ranges, ranges}
use Rattle.zl_code.proofs.ImageHeader.{HeaderFits, header_fits, no_header_fault, header_ranges, HasHeader, header_spelled}
use Rattle.zl_code.proofs.ImageInstr.{first_some-one}

-- ---- what is read is spelled so

-- what was read of the bytes
pub record IsRead (bytes : List ℕ) (i : Image) : Type 0 where
  pub version : i.version ≡ version_at bytes
  pub raw : i.raw ≡ is_raw_at bytes
  pub memory : i.memory ≡ number_at bytes 8 4
  pub budget : i.budget ≡ number_at bytes 12 4
  pub needs : needs_byte i.needs ≡ slice_index bytes 16
  pub needs_in_range : are_needs i.needs ≡ true
  pub starts : map start_bytes i.starts ≡ start_pieces bytes
  pub starts_in_range : list_all is_start_in_range i.starts ≡ true
  pub slots : map slot_bytes i.slots ≡ slot_pieces bytes
  pub slots_in_range : list_all is_slot_in_range i.slots ≡ true
  pub code : map instr_bytes i.code ≡ code_pieces bytes
  pub code_in_range : list_all (is_instr_in_range i.version i.raw) i.code ≡ true
  pub blocks : are_blocks (marks_of i.code) (map jump_of i.code) ≡ true

-- as many as there are pieces
counted : {X : Type 0} (size n : ℕ) (spell : X → List ℕ) (xs : List X) (bytes : List ℕ) → map spell xs ≡ pieces size n bytes → length xs ≡ n
counted size n spell xs bytes h = sym (length-map xs spell) ∙ ap length h ∙ length-pieces size n bytes

header_read : (bytes : List ℕ) (i : Image) → IsRead bytes i → HasHeader bytes i
header_read bytes i r = record {
  version = r.version;
  raw = r.raw;
  memory = r.memory;
  budget = r.budget;
  needs = r.needs;
  starts = counted 8 (starts_at bytes) start_bytes i.starts _ r.starts;
  slots = counted 8 (slots_at bytes) slot_bytes i.slots _ r.slots;
  code = counted 16 (count_at bytes) instr_bytes i.code _ r.code;
}

read_in_range : (bytes : List ℕ) (i : Image) → HeaderFits bytes → IsRead bytes i → is_in_range i ≡ true
read_in_range bytes i h r =
    let g = header_ranges bytes h.in_range in
    let has = header_read bytes i r in
    let count : nat_le (length i.code) 4096 ≡ true = ap (λ (n : ℕ). nat_le n 4096) has.code ∙ g.count in
    let memory : nat_le i.memory 65536 ≡ true = ap (λ (n : ℕ). nat_le n 65536) r.memory ∙ g.memory in
    let least : nat_lt 0 i.budget ≡ true = ap (λ (n : ℕ). nat_lt 0 n) r.budget ∙ g.least in
    let most : nat_le i.budget 1000000 ≡ true = ap (λ (n : ℕ). nat_le n 1000000) r.budget ∙ g.most in
    let starts : nat_le (length i.starts) 7 ≡ true = ap (λ (n : ℕ). nat_le n 7) has.starts ∙ g.starts in
    let slots : nat_le (length i.slots) 8 ≡ true = ap (λ (n : ℕ). nat_le n 8) has.slots ∙ g.slots in
    and_from _ _ count (and_from _ _ memory
    (and_from _ _ least (and_from _ _ most (and_from _ _ r.needs_in_range
    (and_from _ _ starts (and_from _ _ slots (and_from _ _ r.starts_in_range (and_from _ _ r.slots_in_range (and_from _ _ r.code_in_range r.blocks)))))))))

-- the parts of the bytes behind the header
behind_read : (bytes : List ℕ) (i : Image) → HeaderFits bytes → IsRead bytes i
    → flat_map start_bytes i.starts ++ (flat_map slot_bytes i.slots ++ flat_map instr_bytes i.code) ≡ drop 20 bytes
behind_read bytes i h r =
    let has = header_read bytes i r in
    let s = starts_at bytes in
    let t = slots_at bytes in
    let n = count_at bytes in
    let code_at = drop (20 + 8 * s + 8 * t) bytes in
    let slots_from = drop (20 + 8 * s) bytes in
    let code_end : after 16 (length i.code) code_at ≡ [] =
    after_16 (length i.code) code_at ∙ drop-drop (16 * length i.code) (20 + 8 * s + 8 * t) bytes
    ∙ drop_all (20 + 8 * s + 8 * t + 16 * length i.code) bytes (omega (arith, h.len, has.code)) in
    let code : flat_map instr_bytes i.code ≡ code_at =
    sym (append-nil (flat_map instr_bytes i.code)) ∙ ap (λ (e : List ℕ). flat_map instr_bytes i.code ++ e) (sym code_end)
    ∙ joined 16 instr_bytes i.code code_at (r.code ∙ ap (λ (k : ℕ). pieces 16 k code_at) (sym has.code)) in
    let slots_end : after 8 (length i.slots) slots_from ≡ code_at =
    after_8 (length i.slots) slots_from ∙ drop-drop (8 * length i.slots) (20 + 8 * s) bytes ∙ ap (λ (k : ℕ). drop (20 + 8 * s + 8 * k) bytes) has.slots in
    let slots : flat_map slot_bytes i.slots ++ flat_map instr_bytes i.code ≡ slots_from =
    ap (λ (e : List ℕ). flat_map slot_bytes i.slots ++ e) (code ∙ sym slots_end)
    ∙ joined 8 slot_bytes i.slots slots_from (r.slots ∙ ap (λ (k : ℕ). pieces 8 k slots_from) (sym has.slots)) in
    let starts_end : after 8 (length i.starts) (drop 20 bytes) ≡ slots_from =
    after_8 (length i.starts) (drop 20 bytes) ∙ drop-drop (8 * length i.starts) 20 bytes ∙ ap (λ (k : ℕ). drop (20 + 8 * k) bytes) has.starts in
    ap (λ (e : List ℕ). flat_map start_bytes i.starts ++ e) (slots ∙ sym starts_end)
    ∙ joined 8 start_bytes i.starts (drop 20 bytes) (r.starts ∙ ap (λ (k : ℕ). pieces 8 k (drop 20 bytes)) (sym has.starts))

pub spells_read : (bytes : List ℕ) (i : Image) → IsBytes bytes → header_fault bytes ≡ None → IsRead bytes i → Spells bytes i
spells_read bytes i fits none r =
    let h = header_fits bytes none in
    record {
      same = header_spelled bytes i fits h (header_read bytes i r) ∙ ap (λ (e : List ℕ). header i ++ e) (sym (behind_read bytes i h r));
      in_range = read_in_range bytes i h r;
    }

-- as many instructions as an image may have
pub few_read : (bytes : List ℕ) (code : List Instr) → header_fault bytes ≡ None → map instr_bytes code ≡ code_pieces bytes → length code ≤ 4096
few_read bytes code none h =
    let few = leb-true (count_at bytes) 4096 (header_ranges bytes (header_fits bytes none).in_range).count in
    omega (arith, few, counted 16 (count_at bytes) instr_bytes code _ h)

-- ---- what the header counts

-- the pieces by the numbers that were read
pub starts_read : (bytes : List ℕ) (s : ℕ) → s ≡ starts_at bytes → pieces 8 s (drop 20 bytes) ≡ start_pieces bytes
starts_read bytes s e = ap (λ (n : ℕ). pieces 8 n (drop 20 bytes)) e

pub slots_read : (bytes : List ℕ) (s t : ℕ) → s ≡ starts_at bytes → t ≡ slots_at bytes → pieces 8 t (drop (20 + 8 * s) bytes) ≡ slot_pieces bytes
slots_read bytes s t e f = λ k. pieces 8 (f k) (drop (20 + 8 * e k) bytes)

pub code_read : (bytes : List ℕ) (s t n : ℕ) → s ≡ starts_at bytes → t ≡ slots_at bytes → n ≡ count_at bytes
    → pieces 16 n (drop (20 + 8 * s + 8 * t) bytes) ≡ code_pieces bytes
code_read bytes s t n e f g = λ k. pieces 16 (g k) (drop (20 + 8 * e k + 8 * f k) bytes)

-- ---- the first fault

pub first_fault-header : (bytes : List ℕ) (fault : DecodeFault) → header_fault bytes ≡ Some fault → first_fault bytes ≡ Some fault
unfolding first_fault
first_fault-header bytes fault h = rw h refl

-- the faults of the parts behind the header, up to one that has some
pub first_fault-starts : (bytes : List ℕ) (fault : DecodeFault) → header_fault bytes ≡ None → first_some (map start_fault (start_pieces bytes)) ≡ Some fault
    → first_fault bytes ≡ Some fault
unfolding first_fault
first_fault-starts bytes fault none h = rw (none, h) refl

pub first_fault-slots : (bytes : List ℕ) (fault : DecodeFault) → header_fault bytes ≡ None → first_some (map start_fault (start_pieces bytes)) ≡ None
    → first_some (map slot_fault (slot_pieces bytes)) ≡ Some fault → first_fault bytes ≡ Some fault
unfolding first_fault
first_fault-slots bytes fault none starts h = rw (none, starts, h) refl

pub first_fault-code : (bytes : List ℕ) (fault : DecodeFault) → header_fault bytes ≡ None → first_some (map start_fault (start_pieces bytes)) ≡ None
    → first_some (map slot_fault (slot_pieces bytes)) ≡ None
    → first_some (map (instr_fault (version_at bytes) (is_raw_at bytes)) (code_pieces bytes)) ≡ Some fault → first_fault bytes ≡ Some fault
unfolding first_fault
first_fault-code bytes fault none starts slots h = rw (none, starts, slots, h) refl

pub first_fault-blocks : (bytes : List ℕ) (keep : Bool) → header_fault bytes ≡ None → first_some (map start_fault (start_pieces bytes)) ≡ None
    → first_some (map slot_fault (slot_pieces bytes)) ≡ None
    → first_some (map (instr_fault (version_at bytes) (is_raw_at bytes)) (code_pieces bytes)) ≡ None
    → keep_blocks (version_at bytes) (code_pieces bytes) ≡ keep → first_fault bytes ≡ then_some (not keep) faults.BadBlock
unfolding first_fault
first_fault-blocks bytes keep none starts slots code h = rw (none, starts, slots, code, h) (first_some-one (then_some (not keep) faults.BadBlock))

-- ---- what is spelled so is read

version_again : (v : Version) → (if version_number v == 2 then version.Two else version.One) ≡ v
version_again version.One = refl
version_again version.Two = refl

version_known : (v : Version) → is_version (version_number v) ≡ true
version_known version.One = refl
version_known version.Two = refl

mark_again : (raw : Bool) → eqb (cond raw 1 0) 1 ≡ raw
mark_again true = refl
mark_again false = refl

mark_small : (raw : Bool) → nat_le (cond raw 1 0) 1 ≡ true
mark_small true = refl
mark_small false = refl

module _ (i : Image) (r : Ranges i) where
  code_parts : Parted 16 instr_bytes (instr_fault i.version i.raw) (read_instr i.version) i.code []
  code_parts =
      parted 16 instr_bytes (instr_fault i.version i.raw) (read_instr i.version) (is_instr_in_range i.version i.raw)
      (λ x h. let f = instr_fits i.version i.raw x h in record { len = f.len; fault_is = f.fault; again = f.again }) i.code [] r.code

  slots_parts : Parted 8 slot_bytes slot_fault read_slots i.slots (flat_map instr_bytes i.code)
  slots_parts =
      parted 8 slot_bytes slot_fault read_slots is_slot_in_range
      (λ x h. let f = slots_fit x h in record { len = f.len; fault_is = f.fault; again = f.again }) i.slots (flat_map instr_bytes i.code) r.slots

  starts_parts : Parted 8 start_bytes start_fault read_start i.starts (flat_map slot_bytes i.slots ++ flat_map instr_bytes i.code)
  starts_parts =
      parted 8 start_bytes start_fault read_start is_start_in_range
      (λ x h. let f = start_fits x h in record { len = f.len; fault_is = f.fault; again = f.again }) i.starts
      (flat_map slot_bytes i.slots ++ flat_map instr_bytes i.code) r.starts

  count_again : count_at (spelling i) ≡ length i.code
  count_again = let le = r.count in number_of-bytes_of 2 (length i.code) (omega arith)

  memory_again : number_at (spelling i) 8 4 ≡ i.memory
  memory_again = let le = r.memory in number_of-bytes_of 4 i.memory (omega arith)

  budget_again : number_at (spelling i) 12 4 ≡ i.budget
  budget_again = let le = r.most in number_of-bytes_of 4 i.budget (omega arith)

  spelled_fits : HeaderFits (spelling i)
  spelled_fits = record {
    long = omega arith;
    front = refl;
    version = version_known i.version;
    in_range =
        rw (
          mark_small i.raw,
          count_again,
          memory_again,
          budget_again,
          le-leb _ _ r.count,
          le-leb _ _ r.memory,
          lt-ltb _ _ r.least,
          le-leb _ _ r.most,
          (needs_fit i.needs r.needs).valid,
          le-leb _ _ r.starts_count,
          le-leb _ _ r.slots_count,
        ) refl;
    len =
        omega (
          arith,
          count_again,
          starts_parts.len,
          slots_parts.len,
          code_parts.len,
          span_8 (length i.starts),
          span_8 (length i.slots),
          span_16 (length i.code),
          length-append (flat_map start_bytes i.starts) (flat_map slot_bytes i.slots ++ flat_map instr_bytes i.code),
          length-append (flat_map slot_bytes i.slots) (flat_map instr_bytes i.code),
        );
  }

  -- the parts of the bytes behind the header, by their offsets
  slots_from : drop (20 + 8 * length i.starts) (spelling i) ≡ flat_map slot_bytes i.slots ++ flat_map instr_bytes i.code
  slots_from = sym (drop-drop (8 * length i.starts) 20 (spelling i)) ∙ sym (after_8 (length i.starts) (drop 20 (spelling i))) ∙ starts_parts.rest_is

  code_from : drop (20 + 8 * length i.starts + 8 * length i.slots) (spelling i) ≡ flat_map instr_bytes i.code
  code_from =
      sym (drop-drop (8 * length i.slots) (20 + 8 * length i.starts) (spelling i)) ∙ ap (drop (8 * length i.slots)) slots_from
      ∙ sym (after_8 (length i.slots) (flat_map slot_bytes i.slots ++ flat_map instr_bytes i.code)) ∙ slots_parts.rest_is

  starts_again : start_pieces (spelling i) ≡ map start_bytes i.starts
  starts_again = starts_parts.pieces_are

  slots_again : slot_pieces (spelling i) ≡ map slot_bytes i.slots
  slots_again = ap (pieces 8 (length i.slots)) slots_from ∙ slots_parts.pieces_are

  code_again : code_pieces (spelling i) ≡ map instr_bytes i.code
  code_again =
      (λ k. pieces 16 (count_again k) (code_from k)) ∙ ap (pieces 16 (length i.code)) (sym (append-nil (flat_map instr_bytes i.code))) ∙ code_parts.pieces_are

  spelled_no_fault : first_fault (spelling i) ≡ None
  spelled_no_fault =
      first_fault-blocks (spelling i) true (no_header_fault (spelling i) spelled_fits)
      (ap (λ (p : List (List ℕ)). first_some (map start_fault p)) starts_again ∙ starts_parts.no_fault)
      (ap (λ (p : List (List ℕ)). first_some (map slot_fault p)) slots_again ∙ slots_parts.no_fault)
      ((λ k. first_some (map (instr_fault (version_again i.version k) (mark_again i.raw k)) (code_again k))) ∙ code_parts.no_fault)
      ((λ k. keep_blocks (version_again i.version k) (code_again k)) ∙ (blocks_again i.version i.raw i.code r.code ∙ r.blocks))

-- the image that is read from bytes
image_at : List ℕ → Image
image_at bytes = record {
  version = version_at bytes;
  raw = is_raw_at bytes;
  memory = number_at bytes 8 4;
  budget = number_at bytes 12 4;
  needs = needs_at (slice_index bytes 16);
  starts = map read_start (start_pieces bytes);
  slots = map read_slots (slot_pieces bytes);
  code = map (read_instr (version_at bytes)) (code_pieces bytes);
}

image_again : (i : Image) → Ranges i → image_at (spelling i) ≡ i
unfolding image_at
image_again i r = λ k. record {
  version = version_again i.version k;
  raw = mark_again i.raw k;
  memory = memory_again i r k;
  budget = budget_again i r k;
  needs = (needs_fit i.needs r.needs).again k;
  starts = (ap (map read_start) (starts_again i r) ∙ (starts_parts i r).again) k;
  slots = (ap (map read_slots) (slots_again i r) ∙ (slots_parts i r).again) k;
  code = ((λ j. map (read_instr (version_again i.version j)) (code_again i r j)) ∙ (code_parts i r).again) k;
}

-- bytes that spell an image have no fault
pub spells_no_fault : (bytes : List ℕ) (i : Image) → Spells bytes i → first_fault bytes ≡ None
spells_no_fault bytes i h = ap first_fault h.same ∙ spelled_no_fault i (ranges i h.in_range)

-- bytes spell one image at most
pub spells_one : (bytes : List ℕ) (i j : Image) → Spells bytes i → Spells bytes j → i ≡ j
spells_one bytes i j h k = sym (image_again i (ranges i h.in_range)) ∙ ap image_at (sym h.same ∙ k.same) ∙ image_again j (ranges j k.in_range)

-- bytes that spell an image are read as that image, unless memory was refused
pub only_image : (bytes : List ℕ) (i : Image) (r : Result Image DecodeFault) → Spells bytes i → IfOk r (λ image. Spells bytes image)
    → MatchResult r (λ _. first_fault bytes ≡ None) (λ fault. (fault ≡ faults.NoMemory) ⊎ (first_fault bytes ≡ Some fault))
    → MatchResult r (λ image. image ≡ i) (λ fault. fault ≡ faults.NoMemory)
only_image bytes i (Ok image) h found first = spells_one bytes image i found h
only_image bytes i (Err fault) h found (inl memory) = memory
only_image bytes i (Err fault) h found (inr other) = let none = spells_no_fault bytes i h in absurd cc
