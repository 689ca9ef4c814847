-- The programs of a scenario, and the bytes that spell them.
use Rattle.zl_scenario.proofs.Common.{◌≡◌, ℕ, ◌<◌, Bool, true, ◌&&◌, ltb, List, [], ◌∷◌, ◌++◌, length, Result, Ok, IsTrue, refl, sym, ap, ◌∙◌, arith, list_all}
use Rattle.zl_scenario.proofs.Common.{and_parts, nat_tests, list_all-append, Image, Library, Program, Spells, spelling, is_in_range, Scenario, MOST_PROGRAMS}
use Rattle.zl_scenario.proofs.Common.{with_program, program_said, AcceptsImage, IsPassed, listed}
use Rattle.std.proofs.Common.{zero, suc, subst, Some}
use Rattle.std.proofs.lemmas.Option.{none-some, same_Some}
use Rattle.std.specs.List.{AllByRecursion}
use Rattle.std.specs.Prelude.{slice_get}
use Rattle.zl_verify.specs.Checks.{HasStepBound}
use Rattle.zl_verify.specs.Covered.{IsVerified}
use Rattle.zl_scenario.specs.declared.cause.Cause.{Cause}
use Rattle.zl_scenario.specs.Reading.{Lists, AreAccepted, IsLibrary, spellings, has_ranges}

spelled : (p : Program) → IsTrue (has_ranges p) → Spells (spelling p.image) p.image
unfolding has_ranges
spelled p e = record { same = refl; in_range = e }

-- a library lists what its bytes spell
pub lists_all : (library : Library) → IsTrue (list_all has_ranges library) → Lists (spellings library) library
lists_all [] e = tt
lists_all (p ∷ library) e =
    let both = and_parts (has_ranges p) (list_all has_ranges library) e in
    (spelled p both.0, refl, lists_all library both.1)

-- one more program
accepted_pushed : (library : Library) (p : Program) → AreAccepted library → AcceptsImage p.checked p.image → AreAccepted (library ++ p ∷ [])
accepted_pushed [] p all here = (here, tt)
accepted_pushed (q ∷ library) p all here = (all.0, accepted_pushed library p all.1 here)

pub program_pushed : (library : Library) (p : Program) → IsLibrary library → IsTrue (has_ranges p) → AcceptsImage p.checked p.image
    → IsLibrary (library ++ p ∷ [])
program_pushed library p all ranges here =
    let more : list_all has_ranges (library ++ (p ∷ [])) ≡ (list_all has_ranges library && (has_ranges p && true)) =
    list_all-append has_ranges library (p ∷ []) in
    record { ranges = more ∙ rw (all.ranges, ranges) refl; accepted = accepted_pushed library p all.accepted here }

-- a program of this mark and this image is in range where the image is
pub ranges_by : (p : Program) (checked : Bool) (image : Image) → p ≡ record { checked = checked; image = image } → IsTrue (is_in_range image)
    → IsTrue (has_ranges p)
unfolding has_ranges
ranges_by p checked image is e = rw is e

-- ---- what a block gives

module _ (checked : Bool) (image : Image) (given : Result (List ℕ) Cause) (gives : given ≡ Ok (spelling image)) where
  -- one more program, where there is room for it
  pub said_more : (said new : Scenario) → length said.programs < MOST_PROGRAMS → new ≡ with_program said checked (spelling image)
      → program_said said checked given ≡ Ok new
  unfolding program_said
  said_more said new room added =
      let test : ltb (length said.programs) MOST_PROGRAMS ≡ true = grind (arith, nat_tests) in
      rw (gives, test) (ap Ok (sym added))

  -- it is accepted
  pub passed : IsTrue (is_in_range image) → AcceptsImage checked image → IsPassed (listed checked given)
  passed in_range accepts = rw gives (record { image = image; spelled = record { same = refl; in_range = in_range }; is_true = accepts })

-- ---- what the laws of checked programs ask of a library

accepted_at : (library : Library) (n : ℕ) (i : Image) → AreAccepted library → slice_get library n ≡ Some (record { checked = true; image = i }) → HasStepBound i
accepted_at [] n i all at = absurd (none-some _ at)
accepted_at (p ∷ library) zero i all at = subst (λ (q : Program). AcceptsImage q.checked q.image) (same_Some p _ at) all.0
accepted_at (p ∷ library) (suc n) i all at = accepted_at library n i all.1 at

pub are_verified : (library : Library) → AllByRecursion (λ g. IsTrue (is_in_range g.image)) library → AreAccepted library → IsVerified library
are_verified library images all = record { images = images; bounds = λ n i at. accepted_at library n i all at }
