-- The eight bytes of a declaration.
use Rattle.zl_code.proofs.Common.{Bool, Kind, List, None, Option, SlotArray, Some, Start, [], allows, and_from, and_parts, ap, arith, bit_and, bits, bytes_of}
use Rattle.zl_code.proofs.Common.{drop, eqb-true, false, has_length, has_rights, is_slot_in_range, is_start_in_range, kind_at, kind_byte, kind_number, leb-true}
use Rattle.zl_code.proofs.Common.{length, length-drop, list_all, nat_le, nat_lt, ne_eqb, not, number_at, number_of, refl, rights_allowed, rights_of}
use Rattle.zl_code.proofs.Common.{slice_index, slot_bytes, slot_fault, start_bytes, start_fault, sym, take, take_all, then_some, true, within, ℕ, ◌&&◌, ◌++◌}
use Rattle.zl_code.proofs.Common.{◌<◌, ◌==◌, ◌∙◌, ◌∷◌, ◌≡◌, ◌≢◌, ◌≤◌}
use Rattle.std.proofs.lemmas.Nat.{and_le_l}
use Rattle.zl_rights.specs.declared.kind.Kind.TheVariants as kind
use Rattle.zl_code.specs.declared.image.DecodeFault.TheVariants as faults
use Rattle.zl_code.proofs.ImageBytes.{IsBytes, bytes_of-number_at, number_of-bytes_of, parts_at}

pub has_rights_allowed : (bytes : List ℕ) (k : Option Kind) (b : Bool) → kind_at (slice_index bytes 0) ≡ Some k
    → within (number_at bytes 4 4) (rights_allowed k) ≡ b → has_rights bytes ≡ b
has_rights_allowed bytes k b h e = rw h e

pub has_rights_none : (bytes : List ℕ) → kind_at (slice_index bytes 0) ≡ None → has_rights bytes ≡ false
has_rights_none bytes h = rw h refl

pub kind_at_none : (b : ℕ) → b ≢ 0 → ((k : Kind) → kind_number k ≢ b) → kind_at b ≡ None
kind_at_none b named missing = rw (
  ne_eqb b 0 named,
  ne_eqb 1 b (missing kind.Process),
  ne_eqb 4 b (missing kind.Channel),
  ne_eqb 5 b (missing kind.Event),
  ne_eqb 6 b (missing kind.Port),
  ne_eqb 16 b (missing kind.Eventpair),
  ne_eqb 17 b (missing kind.Job),
) refl

-- ---- the bytes that are read are spelled

-- the last four of eight bytes
rights_again : (bytes : List ℕ) (n : ℕ) → length bytes ≡ 8 → IsBytes bytes → n ≡ number_at bytes 4 4 → bytes_of 4 n ≡ drop 4 bytes
rights_again bytes n len fits e =
    ap (bytes_of 4) e ∙ bytes_of-number_at bytes 4 4 (omega arith) fits ∙ take_all 4 (drop 4 bytes) (omega (arith, length-drop 4 bytes))

three_zeros : (xs : List ℕ) → 3 ≤ length xs → list_all (λ b. b == 0) (take 3 xs) ≡ true → take 3 xs ≡ 0 ∷ 0 ∷ 0 ∷ []
three_zeros [] le h = absurd (omega arith)
three_zeros (a ∷ []) le h = absurd (omega arith)
three_zeros (a ∷ b ∷ []) le h = absurd (omega arith)
three_zeros (a ∷ b ∷ c ∷ xs) le h =
    let p = and_parts (a == 0) ((b == 0) && ((c == 0) && true)) h in
    let q = and_parts (b == 0) ((c == 0) && true) p.1 in
    let r = and_parts (c == 0) true q.1 in
    λ i. eqb-true a 0 p.0 i ∷ eqb-true b 0 q.0 i ∷ eqb-true c 0 r.0 i ∷ []

first_and_rest : (bytes : List ℕ) → 1 ≤ length bytes → slice_index bytes 0 ∷ drop 1 bytes ≡ bytes
first_and_rest [] le = absurd (omega arith)
first_and_rest (b ∷ bytes) le = refl

-- eight bytes by their parts: the first, the three behind it, and the last four
by_parts : (bytes middle : List ℕ) (k n : ℕ) → length bytes ≡ 8 → IsBytes bytes → k ≡ slice_index bytes 0 → middle ≡ take 3 (drop 1 bytes)
    → n ≡ number_at bytes 4 4 → k ∷ (middle ++ bytes_of 4 n) ≡ bytes
by_parts bytes middle k n len fits first between rights =
    (λ i. first i ∷ (between i ++ rights_again bytes n len fits rights i)) ∙ ap (λ (r : List ℕ). slice_index bytes 0 ∷ r) (sym (parts_at 1 3 bytes))
    ∙ first_and_rest bytes (omega arith)

pub start_bytes-read : (bytes : List ℕ) (s : Start) → length bytes ≡ 8 → IsBytes bytes → kind_byte s.kind ≡ slice_index bytes 0
    → list_all (λ b. b == 0) (take 3 (drop 1 bytes)) ≡ true → bits s.rights ≡ number_at bytes 4 4 → start_bytes s ≡ bytes
start_bytes-read bytes s len fits first zero rights =
    by_parts bytes (0 ∷ 0 ∷ 0 ∷ []) (kind_byte s.kind) (bits s.rights) len fits first
    (sym (three_zeros (drop 1 bytes) (omega (arith, length-drop 1 bytes)) zero)) rights

-- the second byte and the two behind it
middle_three : (bytes : List ℕ) (n : ℕ) → length bytes ≡ 8 → IsBytes bytes → slice_index bytes 1 ≡ 0 → n ≡ number_at bytes 2 2
    → 0 ∷ bytes_of 2 n ≡ take 3 (drop 1 bytes)
middle_three bytes n len fits zero size =
    (λ i. sym zero i ∷ (ap (bytes_of 2) size ∙ bytes_of-number_at bytes 2 2 (omega arith) fits) i) ∙ cells bytes (omega arith)
  where
    cells : (bs : List ℕ) → 4 ≤ length bs → slice_index bs 1 ∷ take 2 (drop 2 bs) ≡ take 3 (drop 1 bs)
    cells [] le = absurd (omega arith)
    cells (a ∷ []) le = absurd (omega arith)
    cells (a ∷ b ∷ bs) le = refl

pub slot_bytes-read : (bytes : List ℕ) (s : SlotArray) → length bytes ≡ 8 → IsBytes bytes → kind_byte s.kind ≡ slice_index bytes 0 → has_length bytes ≡ true
    → s.length ≡ number_at bytes 2 2 → bits s.rights ≡ number_at bytes 4 4 → slot_bytes s ≡ bytes
slot_bytes-read bytes s len fits first there size rights =
    let zero : slice_index bytes 1 ≡ 0 = eqb-true _ 0 (and_parts (slice_index bytes 1 == 0) _ there).0 in
    by_parts bytes (0 ∷ bytes_of 2 s.length) (kind_byte s.kind) (bits s.rights) len fits first (middle_three bytes s.length len fits zero size) rights

pub slot_in_range-read : (bytes : List ℕ) (s : SlotArray) → has_length bytes ≡ true → s.length ≡ number_at bytes 2 2
    → within (bits s.rights) (rights_allowed s.kind) ≡ true → is_slot_in_range s ≡ true
slot_in_range-read bytes s there size allowed =
    let p = and_parts (nat_lt 0 (number_at bytes 2 2)) (nat_le (number_at bytes 2 2) 256) (and_parts (slice_index bytes 1 == 0) _ there).1 in
    and_from _ _ (ap (λ (n : ℕ). nat_lt 0 n) size ∙ p.0) (and_from _ _ (ap (λ (n : ℕ). nat_le n 256) size ∙ p.1) allowed)

-- ---- faults

never : (b : Bool) → (b && false) ≡ false
never true = refl
never false = refl

pub start_fault-by : (bytes : List ℕ) (zero there : Bool) → list_all (λ b. b == 0) (take 3 (drop 1 bytes)) ≡ zero → has_rights bytes ≡ there
    → start_fault bytes ≡ then_some (not (zero && there)) faults.BadHeader
unfolding start_fault
start_fault-by bytes zero there h e = λ i. then_some (not (h i && e i)) faults.BadHeader

pub start_fault-zero : (bytes : List ℕ) → list_all (λ b. b == 0) (take 3 (drop 1 bytes)) ≡ false → start_fault bytes ≡ Some faults.BadHeader
start_fault-zero bytes h = start_fault-by bytes false _ h refl

pub start_fault-rights : (bytes : List ℕ) → has_rights bytes ≡ false → start_fault bytes ≡ Some faults.BadHeader
start_fault-rights bytes h =
    let zero = list_all (λ b. b == 0) (take 3 (drop 1 bytes)) in
    start_fault-by bytes zero false refl h ∙ ap (λ b. then_some (not b) faults.BadHeader) (never zero)

pub slot_fault-by : (bytes : List ℕ) (long there : Bool) → has_length bytes ≡ long → has_rights bytes ≡ there
    → slot_fault bytes ≡ then_some (not (long && there)) faults.BadHeader
unfolding slot_fault
slot_fault-by bytes long there h e = λ i. then_some (not (h i && e i)) faults.BadHeader

pub slot_fault-length : (bytes : List ℕ) → has_length bytes ≡ false → slot_fault bytes ≡ Some faults.BadHeader
slot_fault-length bytes h = slot_fault-by bytes false _ h refl

pub slot_fault-rights : (bytes : List ℕ) → has_rights bytes ≡ false → slot_fault bytes ≡ Some faults.BadHeader
slot_fault-rights bytes h =
    slot_fault-by bytes (has_length bytes) false refl h ∙ ap (λ b. then_some (not b) faults.BadHeader) (never (has_length bytes))

-- ---- what is spelled is read again

kind_again : (k : Option Kind) → kind_at (kind_byte k) ≡ Some k
kind_again None = refl
kind_again (Some kind.Process) = refl
kind_again (Some _) = refl

abbrev kind_or_any : Option (Option Kind) → Option Kind
kind_or_any None = None
kind_or_any (Some k) = k

-- the start handle that has these bytes, if one has
pub read_start : List ℕ → Start
read_start bytes = record { kind = kind_or_any (kind_at (slice_index bytes 0)); rights = rights_of (number_at bytes 4 4) }

pub read_slots : List ℕ → SlotArray
read_slots bytes = record { kind = kind_or_any (kind_at (slice_index bytes 0)); length = number_at bytes 2 2; rights = rights_of (number_at bytes 4 4) }

allowed_small : (k : Option Kind) → rights_allowed k < 4294967296
allowed_small None = omega arith
allowed_small (Some kind.Process) = omega arith
allowed_small (Some _) = omega arith

-- rights within others are no larger number
within_small : (part whole : ℕ) → within part whole ≡ true → part ≤ whole
within_small part whole h =
    let same : bit_and whole part ≡ part = eqb-true _ part h in
    let le : bit_and whole part ≤ whole = and_le_l whole part in
    omega arith

word_again : (k : Option Kind) (n : ℕ) → within n (rights_allowed k) ≡ true → number_of (bytes_of 4 n) ≡ n
word_again k n h =
    let le : n ≤ rights_allowed k = within_small n (rights_allowed k) h in
    let lt : rights_allowed k < 4294967296 = allowed_small k in
    number_of-bytes_of 4 n (omega arith)

allowed_again : (k : Option Kind) (n : ℕ) → within n (rights_allowed k) ≡ true → allows (Some k) (number_of (bytes_of 4 n)) ≡ true
allowed_again k n h = ap (λ (m : ℕ). within m (rights_allowed k)) (word_again k n h) ∙ h

-- what a declaration in range keeps
pub record StartFits (s : Start) : Type 0 where
  pub len : length (start_bytes s) ≡ 8
  pub fault : start_fault (start_bytes s) ≡ None
  pub again : read_start (start_bytes s) ≡ s

pub record SlotsFit (s : SlotArray) : Type 0 where
  pub len : length (slot_bytes s) ≡ 8
  pub fault : slot_fault (slot_bytes s) ≡ None
  pub again : read_slots (slot_bytes s) ≡ s

pub start_fits : (s : Start) → is_start_in_range s ≡ true → StartFits s
unfolding read_start
start_fits s h = record {
  len = refl;
  fault = start_fault-by (start_bytes s) true true refl
      ((λ i. allows (kind_again s.kind i) (number_of (bytes_of 4 (bits s.rights)))) ∙ allowed_again s.kind (bits s.rights) h);
  again = λ i. record { kind = kind_or_any (kind_again s.kind i); rights = rights_of (word_again s.kind (bits s.rights) h i) };
}

pub slots_fit : (s : SlotArray) → is_slot_in_range s ≡ true → SlotsFit s
unfolding read_slots
slots_fit s h =
    let p = and_parts (nat_lt 0 s.length) (nat_le s.length 256 && within (bits s.rights) (rights_allowed s.kind)) h in
    let q = and_parts (nat_le s.length 256) (within (bits s.rights) (rights_allowed s.kind)) p.1 in
    let few : s.length ≤ 256 = leb-true _ _ q.0 in
    let size : number_of (bytes_of 2 s.length) ≡ s.length = number_of-bytes_of 2 s.length (omega arith) in
    record {
      len = refl;
      fault = slot_fault-by (slot_bytes s) true true (rw (size, p.0, q.0) refl)
          ((λ i. allows (kind_again s.kind i) (number_of (bytes_of 4 (bits s.rights)))) ∙ allowed_again s.kind (bits s.rights) q.1);
      again = λ i. record { kind = kind_or_any (kind_again s.kind i); length = size i; rights = rights_of (word_again s.kind (bits s.rights) q.1 i) };
    }
