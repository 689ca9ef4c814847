-- The header: its tests, and its 20 bytes.
use Rattle.zl_code.proofs.Common.{Bool, DecodeFault, Image, List, None, Option, [], and_parts, ap, arith, bytes_of, cond, count_at, drop, eq-eqb, eqb, eqb-true}
use Rattle.zl_code.proofs.Common.{false, first_some, get_or, get_or-drop, header, header_fault, is_header_in_range, is_needs_byte, is_raw_at, le-ltb, leb}
use Rattle.zl_code.proofs.Common.{leb-true, length, length-drop, length_at, ltb-false, magic, nat_le, nat_lt, needs_byte, not, not-false, number_at, refl}
use Rattle.zl_code.proofs.Common.{slice_index, slots_at, starts_at, starts_with, suc, sym, take, then_some, true, zero, ℕ, ◌++◌, ◌==◌, ◌∙◌, ◌∷◌, ◌≡◌, ◌≤◌}
use Rattle.zl_code.specs.declared.image.DecodeFault.TheVariants as faults
use Rattle.zl_code.specs.declared.image.Version.TheVariants as version
use Rattle.zl_code.specs.Spells.{is_version, version_at, version_number}
use Rattle.zl_code.proofs.Common.{if◌then◌else◌, ◌||◌}
use Rattle.zl_code.proofs.ImageBytes.{IsBytes, bytes_of-number_at, parts_at}
use Rattle.zl_rights.proofs.Named.{same_names}

-- what bytes without a fault of the header keep
pub record HeaderFits (bytes : List ℕ) : Type 0 where
  pub long : 20 ≤ length bytes
  pub front : starts_with ◌==◌ bytes magic ≡ true
  pub version : is_version (slice_index bytes 4) ≡ true
  pub in_range : is_header_in_range bytes ≡ true
  pub len : length bytes ≡ length_at bytes

no_fault_if : (b : Bool) (f : DecodeFault) (rest : List (Option DecodeFault)) → first_some (then_some b f ∷ rest) ≡ None
    → (b ≡ false) × (first_some rest ≡ None)
no_fault_if true f rest h = absurd cc
no_fault_if false f rest h = (refl, h)

pub header_fits : (bytes : List ℕ) → header_fault bytes ≡ None → HeaderFits bytes
unfolding header_fault
header_fits bytes h =
    let a = no_fault_if (nat_lt (length bytes) 20) faults.Short _ h in
    let b = no_fault_if (not (starts_with ◌==◌ bytes magic)) faults.Magic _ a.1 in
    let d = no_fault_if (not (is_version (slice_index bytes 4))) faults.Version _ b.1 in
    let e = no_fault_if (not (is_header_in_range bytes)) faults.BadHeader _ d.1 in
    let f = no_fault_if (not (length bytes == length_at bytes)) faults.Length _ e.1 in
    record {
      long = ltb-false _ _ a.0;
      front = not-false _ b.0;
      version = not-false _ d.0;
      in_range = not-false _ e.0;
      len = eqb-true _ _ (not-false _ f.0);
    }

pub no_header_fault : (bytes : List ℕ) → HeaderFits bytes → header_fault bytes ≡ None
unfolding header_fault
no_header_fault bytes h = rw (le-ltb (length bytes) 20 h.long, h.front, h.version, h.in_range, eq-eqb _ _ h.len) refl

-- ---- what passes the tests is the header of an image

first_two : (xs : List ℕ) → 2 ≤ length xs → take 2 xs ≡ get_or xs 0 0 ∷ get_or xs 1 0 ∷ []
first_two [] le = absurd (omega arith)
first_two (a ∷ []) le = absurd (omega arith)
first_two (a ∷ b ∷ xs) le = refl

first_four : (xs : List ℕ) → 4 ≤ length xs → take 4 xs ≡ get_or xs 0 0 ∷ get_or xs 1 0 ∷ get_or xs 2 0 ∷ get_or xs 3 0 ∷ []
first_four [] le = absurd (omega arith)
first_four (a ∷ []) le = absurd (omega arith)
first_four (a ∷ b ∷ []) le = absurd (omega arith)
first_four (a ∷ b ∷ c ∷ []) le = absurd (omega arith)
first_four (a ∷ b ∷ c ∷ d ∷ xs) le = refl

mark_is : (b : ℕ) → leb b 1 ≡ true → b ≡ cond (eqb b 1) 1 0
mark_is zero h = refl
mark_is (suc zero) h = refl
mark_is (suc (suc b)) h = absurd (omega (arith, leb-true _ _ h))

version_is : (b : ℕ) → is_version b ≡ true → b ≡ version_number (if b == 2 then version.Two else version.One)
version_is b h = by (b == 1) refl (b == 2) refl h
  where
    by : (p : Bool) → (b == 1) ≡ p → (q : Bool) → (b == 2) ≡ q → (p || q) ≡ true → b ≡ version_number (if q then version.Two else version.One)
    by p e true f k = eqb-true b 2 f
    by true e false f k = eqb-true b 1 e
    by false e false f k = cc

-- the parts of the header, from the front
header_parts : (bytes : List ℕ) → bytes ≡ take 4 bytes
    ++ (take 2 (drop 4 bytes) ++ (take 2 (drop 6 bytes) ++ (take 4 (drop 8 bytes) ++ (take 4 (drop 12 bytes) ++ (take 4 (drop 16 bytes) ++ drop 20 bytes)))))
header_parts bytes =
    parts_at 0 4 bytes ∙ ap (λ (r : List ℕ). take 4 bytes ++ r) (parts_at 4 2 bytes ∙ ap (λ (r : List ℕ). take 2 (drop 4 bytes) ++ r) (parts_at 6 2 bytes
    ∙ ap (λ (r : List ℕ). take 2 (drop 6 bytes) ++ r) (parts_at 8 4 bytes ∙ ap (λ (r : List ℕ). take 4 (drop 8 bytes) ++ r) (parts_at 12 4 bytes
    ∙ ap (λ (r : List ℕ). take 4 (drop 12 bytes) ++ r) (parts_at 16 4 bytes)))))

-- the ranges of the fields of the header
pub record HeaderRanges (bytes : List ℕ) : Type 0 where
  pub mark : nat_le (slice_index bytes 5) 1 ≡ true
  pub count : nat_le (count_at bytes) 4096 ≡ true
  pub memory : nat_le (number_at bytes 8 4) 65536 ≡ true
  pub least : nat_lt 0 (number_at bytes 12 4) ≡ true
  pub most : nat_le (number_at bytes 12 4) 1000000 ≡ true
  pub needs : is_needs_byte (slice_index bytes 16) ≡ true
  pub starts : nat_le (starts_at bytes) 7 ≡ true
  pub slots : nat_le (slots_at bytes) 8 ≡ true
  pub last : slice_index bytes 19 ≡ 0

pub header_ranges : (bytes : List ℕ) → is_header_in_range bytes ≡ true → HeaderRanges bytes
header_ranges bytes h =
    let a = and_parts (nat_le (slice_index bytes 5) 1) _ h in
    let b = and_parts (nat_le (count_at bytes) 4096) _ a.1 in
    let c = and_parts (nat_le (number_at bytes 8 4) 65536) _ b.1 in
    let d = and_parts (nat_lt 0 (number_at bytes 12 4)) _ c.1 in
    let e = and_parts (nat_le (number_at bytes 12 4) 1000000) _ d.1 in
    let f = and_parts (is_needs_byte (slice_index bytes 16)) _ e.1 in
    let g = and_parts (nat_le (starts_at bytes) 7) _ f.1 in
    let i = and_parts (nat_le (slots_at bytes) 8) _ g.1 in
    record { mark = a.0; count = b.0; memory = c.0; least = d.0; most = e.0; needs = f.0; starts = g.0; slots = i.0; last = eqb-true _ _ i.1 }

-- the image has what the header says
pub record HasHeader (bytes : List ℕ) (i : Image) : Type 0 where
  pub version : i.version ≡ version_at bytes
  pub raw : i.raw ≡ is_raw_at bytes
  pub memory : i.memory ≡ number_at bytes 8 4
  pub budget : i.budget ≡ number_at bytes 12 4
  pub needs : needs_byte i.needs ≡ slice_index bytes 16
  pub starts : length i.starts ≡ starts_at bytes
  pub slots : length i.slots ≡ slots_at bytes
  pub code : length i.code ≡ count_at bytes

pub header_spelled : (bytes : List ℕ) (i : Image) → IsBytes bytes → HeaderFits bytes → HasHeader bytes i → bytes ≡ header i ++ drop 20 bytes
header_spelled bytes i fits h has =
    let long = h.long in
    let r = header_ranges bytes h.in_range in
    let front : take 4 bytes ≡ magic = sym (same_names magic (take 4 bytes) h.front) in
    let two : take 2 (drop 4 bytes) ≡ get_or bytes 4 0 ∷ get_or bytes 5 0 ∷ [] =
    first_two (drop 4 bytes) (omega (arith, length-drop 4 bytes)) ∙ (λ k. get_or-drop 4 bytes 0 0 k ∷ get_or-drop 4 bytes 1 0 k ∷ []) in
    let mark : slice_index bytes 5 ≡ cond i.raw 1 0 = mark_is (slice_index bytes 5) r.mark ∙ ap (λ (b : Bool). cond b 1 0) (sym has.raw) in
    let version : slice_index bytes 4 ≡ version_number i.version = version_is (slice_index bytes 4) h.version ∙ ap version_number (sym has.version) in
    let marked : get_or bytes 4 0 ∷ get_or bytes 5 0 ∷ [] ≡ version_number i.version ∷ cond i.raw 1 0 ∷ [] = (λ k. version k ∷ mark k ∷ []) in
    let instrs : take 2 (drop 6 bytes) ≡ bytes_of 2 (length i.code) = sym (ap (bytes_of 2) has.code ∙ bytes_of-number_at bytes 6 2 (omega arith) fits) in
    let memory : take 4 (drop 8 bytes) ≡ bytes_of 4 i.memory = sym (ap (bytes_of 4) has.memory ∙ bytes_of-number_at bytes 8 4 (omega arith) fits) in
    let budget : take 4 (drop 12 bytes) ≡ bytes_of 4 i.budget = sym (ap (bytes_of 4) has.budget ∙ bytes_of-number_at bytes 12 4 (omega arith) fits) in
    let four = first_four (drop 16 bytes) (omega (arith, length-drop 16 bytes))
    ∙ (λ k. get_or-drop 16 bytes 0 0 k ∷ get_or-drop 16 bytes 1 0 k ∷ get_or-drop 16 bytes 2 0 k ∷ get_or-drop 16 bytes 3 0 k ∷ []) in
    let counts : take 4 (drop 16 bytes) ≡ needs_byte i.needs ∷ length i.starts ∷ length i.slots ∷ 0 ∷ [] =
    four ∙ (λ k. sym has.needs k ∷ sym has.starts k ∷ sym has.slots k ∷ r.last k ∷ []) in
    header_parts bytes ∙ (λ k. front k ++ ((two ∙ marked) k ++ (instrs k ++ (memory k ++ (budget k ++ (counts k ++ drop 20 bytes))))))
