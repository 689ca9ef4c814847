-- Scenarios and schedules, joined and read, by computation.
use Rattle.zlab.proofs.Common.{◌≡◌, ℕ, List, [], ◌∷◌, None, Some, codes, refl, joined_files, is_word, number_of, Scenario, Reading, refused_at, reading_of}
use Rattle.zlab.proofs.Common.{reading_from, line_said, statement_said, turns_said, body_named, limit_said, process_said, pair_said, mark_named}
use Rattle.zl_scenario.specs.declared.cause.Cause.TheVariants as cause

-- ---- joined

-- an end of line is added where the scenario has none, and only there
rows_of_ends :
    (joined_files (codes "limit 5\n") (codes "2 20\n") ≡ codes "limit 5\n--\n2 20\n")
    × (joined_files (codes "limit 5") (codes "2 20") ≡ codes "limit 5\n--\n2 20")
    × (joined_files (codes "\n") (codes "2 20\n") ≡ codes "\n--\n2 20\n")
rows_of_ends = (refl, refl, refl)

-- where there is no byte, no line is open
rows_of_nothing :
    (joined_files [] (codes "2 20\n") ≡ codes "--\n2 20\n")
    × (joined_files (codes "limit 5") [] ≡ codes "limit 5\n--\n")
    × (joined_files [] [] ≡ codes "--\n")
rows_of_nothing = (refl, refl, refl)

-- ---- and read

-- a limit, and a schedule whose line `--` is this one
abbrev said : ℕ → ℕ → List (ℕ × ℕ) → Scenario
said limit line schedule = record { programs = []; statements = []; lines = []; limit = limit; schedule_line = Some line; schedule = schedule }

abbrev whole : Scenario → Reading
whole s = record { said = s; fault = None }

both_are_read : reading_of (joined_files (codes "limit 5") (codes "2 20")) ≡ whole (said 5 2 ((2, 20) ∷ []))
unfolding reading_from line_said statement_said mark_named body_named limit_said process_said turns_said pair_said is_word number_of
both_are_read = refl

-- a line `--` of one of them is a second one
second_dashes :
    (reading_of (joined_files (codes "limit 5\n--\n") (codes "2 20")) ≡ refused_at (said 5 2 []) 3 cause.Syntax)
    × (reading_of (joined_files [] (codes "--\n2 20")) ≡ refused_at (said 1000 1 []) 2 cause.Syntax)
unfolding reading_from line_said statement_said mark_named body_named limit_said process_said turns_said pair_said is_word number_of
second_dashes = (refl, refl)
