-- What is found in what is read of an image, and is true of all its bytes.
use Rattle.zlab.proofs.Common.{Err, Image, List, None, Option, Result, Some, Spells, ap, arith, first_fault, header_fault, inl, inr, length, length-take}
use Rattle.zlab.proofs.Common.{refl, subst, sym, take_all, ℕ, ◌+◌, ◌∙◌, ◌∷◌, ◌≡◌, ◌≤◌, ◌⊎◌}
use Rattle.std.specs.Prelude.{MatchResult, ◌≢◌}
use Rattle.zl_code.proofs.Common.{leb-true, first_some}
use Rattle.zl_code.proofs.ImageWhole.{spells_no_fault}
use Rattle.zl_code.proofs.ImageHeader.{header_fits, header_ranges}
use Rattle.zl_code.specs.declared.image.DecodeFault.{DecodeFault}
use Rattle.zl_code.specs.declared.image.DecodeFault.TheVariants as fault
use Rattle.zlab.specs.declared.checking.Finding.{Finding}
use Rattle.zlab.specs.declared.checking.Finding.TheVariants as finding
use Rattle.zlab.specs.Checking.{MOST_IMAGE, IsTrueOf, IsNoImage, Finds, front_of}

no_first : (o : Option DecodeFault) (rest : List (Option DecodeFault)) → first_some (o ∷ rest) ≡ None → o ≡ None
no_first None rest none = refl
no_first (Some f) rest none = none

no_header_fault : (bytes : List ℕ) → first_fault bytes ≡ None → header_fault bytes ≡ None
unfolding first_fault
no_header_fault bytes none = no_first (header_fault bytes) _ none

-- an image has no more bytes than the most of one
pub short_image : (bytes : List ℕ) (i : Image) → Spells bytes i → length bytes ≤ MOST_IMAGE
short_image bytes i spelled =
    let fits = header_fits bytes (no_header_fault bytes (spells_no_fault bytes i spelled)) in
    let r = header_ranges bytes fits.in_range in
    omega (arith, fits.len, leb-true _ _ r.count, leb-true _ _ r.starts, leb-true _ _ r.slots)

-- where no more than that was read, all was read
all_read : (bytes : List ℕ) → length (front_of bytes) ≤ MOST_IMAGE → front_of bytes ≡ bytes
all_read bytes short = take_all (MOST_IMAGE + 1) bytes (omega (arith, length-take (MOST_IMAGE + 1) bytes))

-- what is true of an image of the bytes that were read
pub found_in : (front : List ℕ) (i : Image) (found : Finding) → Spells front i → IsTrueOf i found → (bytes : List ℕ) → front ≡ front_of bytes
    → Finds bytes found
found_in front i found spelled is bytes read = by found is
  where
    whole : Spells bytes i
    whole =
        let spelled_front : Spells (front_of bytes) i = subst (λ (b : List ℕ). Spells b i) read spelled in
        subst (λ (b : List ℕ). Spells b i) (all_read bytes (short_image (front_of bytes) i spelled_front)) spelled_front

    by : (found : Finding) → IsTrueOf i found → Finds bytes found
    by finding.Accepted is = record { image = i; spelled = whole; is_true = is }
    by (finding.Refused n c) is = record { image = i; spelled = whole; is_true = is }
    by (finding.Undecodable f) is = absurd is

-- what is said of bytes that aren't decoded
pub found_none : (front : List ℕ) (r : Result Image DecodeFault) (f : DecodeFault) → r ≡ Err f → f ≢ fault.NoMemory
    → ((i : Image) → Spells front i → MatchResult r (λ image. image ≡ i) (λ g. g ≡ fault.NoMemory))
    → MatchResult r (λ _. first_fault front ≡ None) (λ g. (g ≡ fault.NoMemory) ⊎ (first_fault front ≡ Some g))
    → (bytes : List ℕ) → front ≡ front_of bytes → IsNoImage bytes f
found_none front r f is other only first bytes read = record { none = none; first = ap first_fault (sym read) ∙ told }
  where
    told : first_fault front ≡ Some f
    told = elim (subst (λ x. MatchResult x (λ _. first_fault front ≡ None) (λ g. (g ≡ fault.NoMemory) ⊎ (first_fault front ≡ Some g))) is first) [
      | inl memory ↦ absurd (other memory)
      | inr found ↦ found
    ]

    none : (i : Image) → Spells bytes i → ⊥
    none i spelled =
        let all : front_of bytes ≡ bytes = take_all (MOST_IMAGE + 1) bytes (let short = short_image bytes i spelled in omega arith) in
        let spelled_front : Spells front i = subst (λ (b : List ℕ). Spells b i) (sym (read ∙ all)) spelled in
        other (subst (λ x. MatchResult x (λ image. image ≡ i) (λ g. g ≡ fault.NoMemory)) is (only i spelled_front))
