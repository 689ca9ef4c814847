-- A text is read in one way.
use Rattle.zl_scenario.proofs.Common.{◌≡◌, ℕ, ◌+◌, Bool, true, false, List, [], ◌∷◌, Option, Some, None, Result, Ok, Err, refl, sym, ap, ◌∙◌, subst, Image}
use Rattle.zl_scenario.proofs.Common.{AcceptsImage, RefusesImage, Listed, Place, Reading, start, lines_of, line_said, told_line, refused_at, fault_at_end}
use Rattle.zl_scenario.proofs.Common.{Reads, at_end, line_taken, line_faulty, program_refused, IsPassed, IsStopped, whole_at, TextsAreReadOnce}
use Rattle.zl_code.proofs.ImageWhole.{spells_one}
use Rattle.zl_scenario.specs.declared.cause.Cause.{Cause}
use Rattle.zl_scenario.specs.declared.cause.Cause.TheVariants as cause

-- ---- no program is both accepted and refused

both_ways : (checked : Bool) (i : Image) → AcceptsImage checked i → RefusesImage checked i → ⊥
both_ways true i accepts refuses = refuses.none accepts
both_ways false i accepts refuses = refuses

apart : (program : Option Listed) → IsPassed program → IsStopped program → ⊥
apart (Some p) passed stopped =
    both_ways p.checked stopped.image
    (subst (AcceptsImage p.checked) (spells_one p.bytes passed.image stopped.image passed.spelled stopped.spelled) passed.is_true) stopped.is_true
apart None passed stopped = stopped

-- ---- one line

-- what is read from a line on, by what becomes of the line
data Read (n : ℕ) (place : Place) (line : List ℕ) (lines : List (List ℕ)) (reading : Reading) : Type 0 where
  on : (next : Place) → line_said n place line ≡ Ok next → IsPassed (whole_at place line) → Reads (n + 1) next lines reading → Read n place line lines reading
  faulty : (c : Cause) → line_said n place line ≡ Err c → IsPassed (whole_at place line) → reading ≡ refused_at place.said (told_line n place.part) c
      → Read n place line lines reading
  refused : IsStopped (whole_at place line) → reading ≡ refused_at place.said (told_line n place.part) cause.Check → Read n place line lines reading

-- the same of any lines that begin with this one
abbrev Begins : ℕ → Place → List (List ℕ) → Reading → Type 0
Begins n place [] reading = reading ≡ record { said = place.said; fault = fault_at_end place.part }
Begins n place (line ∷ lines) reading = Read n place line lines reading

begins : (n : ℕ) (place : Place) (lines : List (List ℕ)) (reading : Reading) → Reads n place lines reading → Begins n place lines reading
begins _ _ _ _ (at_end n place) = refl
begins _ _ _ _ (line_taken n place next line lines reading said passed more) = on next said passed more
begins _ _ _ _ (line_faulty n place line lines c said passed) = faulty c said passed refl
begins _ _ _ _ (program_refused n place line lines stopped) = refused stopped refl

same_ok : (a b : Place) → ◌≡◌ {A = Result Place Cause} (Ok a) (Ok b) → a ≡ b
same_ok a b e = cc

same_err : (a b : Cause) → ◌≡◌ {A = Result Place Cause} (Err a) (Err b) → a ≡ b
same_err a b e = cc

ok_err : (a : Place) (b : Cause) → ◌≡◌ {A = Result Place Cause} (Ok a) (Err b) → ⊥
ok_err a b e = absurd (cc)

line_once : (n : ℕ) (place : Place) (line : List ℕ) (lines : List (List ℕ)) (one other : Reading)
    → ((next : Place) → Reads (n + 1) next lines one → Reads (n + 1) next lines other → one ≡ other)
    → Read n place line lines one → Read n place line lines other → one ≡ other
line_once n place line lines one other later (on next said passed more) (on next2 said2 passed2 more2) =
    later next more (subst (λ (p : Place). Reads (n + 1) p lines other) (same_ok next2 next (sym said2 ∙ said)) more2)
line_once n place line lines one other later (on next said passed more) (faulty c said2 passed2 is2) = absurd (ok_err next c (sym said ∙ said2))
line_once n place line lines one other later (on next said passed more) (refused stopped is2) = absurd (apart (whole_at place line) passed stopped)
line_once n place line lines one other later (faulty c said passed is) (on next said2 passed2 more2) = absurd (ok_err next c (sym said2 ∙ said))
line_once n place line lines one other later (faulty c said passed is) (faulty c2 said2 passed2 is2) =
    is ∙ ap (refused_at place.said (told_line n place.part)) (same_err c c2 (sym said ∙ said2)) ∙ sym is2
line_once n place line lines one other later (faulty c said passed is) (refused stopped is2) = absurd (apart (whole_at place line) passed stopped)
line_once n place line lines one other later (refused stopped is) (on next said2 passed2 more2) = absurd (apart (whole_at place line) passed2 stopped)
line_once n place line lines one other later (refused stopped is) (faulty c said2 passed2 is2) = absurd (apart (whole_at place line) passed2 stopped)
line_once n place line lines one other later (refused stopped is) (refused stopped2 is2) = is ∙ sym is2

-- ---- all lines

reads_once : (n : ℕ) (place : Place) (lines : List (List ℕ)) (one other : Reading) → Reads n place lines one → Reads n place lines other → one ≡ other
reads_once n place [] one other a b = begins n place [] one a ∙ sym (begins n place [] other b)
reads_once n place (line ∷ lines) one other a b =
    line_once n place line lines one other (λ next c d. reads_once (n + 1) next lines one other c d) (begins n place (line ∷ lines) one a)
    (begins n place (line ∷ lines) other b)

pub read_once : TextsAreReadOnce
read_once text one other a b = reads_once 1 start (lines_of text) one other a b
