-- Boot, its faults, and the run of a program that ends stuck, by computation.
use Rattle.zl_code.proofs.Common.{Bool, Boots, Choice, Ended, FirstFault, IsBoot, IsLegalHistory, IsTrue, Library, List, None, Option, Ready}
use Rattle.zl_code.proofs.Common.{Refused, Settles-by, Some, Statement, TraceItem, World, [], and_parts, arith, at_limit, at_statement, boot_effect, boot_fault}
use Rattle.zl_code.proofs.Common.{is_some, map, may_boot, negsuc, not, origin, refl, replicate, settled_in, started_process, take}
use Rattle.zl_code.proofs.Common.{true, ℕ, ◌&&◌, ◌∷◌, ◌≡◌}
use Rattle.zl_code.specs.declared.boot.BootCause.TheVariants as cause
use Rattle.zl_code.specs.declared.boot.Statement.TheVariants as statement
use Rattle.zl_code.specs.declared.instr.Instr.TheVariants as instr
use Rattle.zl_code.specs.declared.instr.LocalInstr.TheVariants as local
use Rattle.zl_code.specs.declared.history.TraceItem.TheVariants as item
use Rattle.zl_code.proofs.Running.{run_by, IsLegalHistory-by, computing, world_after}
use Rattle.zl_code.proofs.RowsWords.{program_of, state_of, registers_of, event_with, FIRST_RIGHTS}

-- ---- what computes boot

-- the world after statements that give no handles
abbrev booted : Library → World → List Statement → World
booted lib w [] = w
booted lib w (s ∷ ss) = booted lib (boot_effect lib w s []) ss

-- no statement has a fault
abbrev all_boot : Library → World → List Statement → Bool
all_boot lib w [] = true
all_boot lib w (s ∷ ss) = not (is_some (boot_fault lib w s)) && (may_boot lib w s [] && all_boot lib (boot_effect lib w s []) ss)

is_none : {A : Type 0} (o : Option A) → IsTrue (not (is_some o)) → o ≡ None
is_none None h = refl
is_none (Some x) h = cc

Boots-by : (lib : Library) (w : World) (ss : List Statement) → IsTrue (all_boot lib w ss) → Boots lib w ss (booted lib w ss)
Boots-by lib w [] h = refl
Boots-by lib w (s ∷ ss) h =
    let both = and_parts (not (is_some (boot_fault lib w s))) _ h in
    let rest = and_parts (may_boot lib w s []) _ both.1 in
    ([], is_none (boot_fault lib w s) both.0, rest.0, Boots-by lib (boot_effect lib w s []) ss rest.1)

-- ---- boot

-- const r2, 1 alone
abbrev library : Library
library = program_of (instr.Local (local.Const 2 1) ∷ [])

-- a process of the root job that runs it, with the word 6
abbrev one : Statement
one = statement.Process 1 0 6 []

-- With no statement nothing keeps the root job, so the boot world has no object.
nothing_boots : IsBoot [] [] (settled_in origin 1)
unfolding computing
nothing_boots = record { made = origin; boots = refl; settles = Settles-by origin 1 refl }

nothing_boots_empty : (settled_in origin 1).objects ≡ []
unfolding computing
nothing_boots_empty = refl

-- The first process has koid 2, is ready, and has its word in register 1.
abbrev boot : World
boot = settled_in (booted library origin (one ∷ [])) 1

one_boots : IsBoot library (one ∷ []) boot
unfolding computing boot_fault boot_effect
one_boots = record { made = booted library origin (one ∷ []); boots = Boots-by library origin (one ∷ []) refl; settles = Settles-by _ 1 refl }

one_is_ready : state_of boot 2 ≡ Some Ready
unfolding computing boot_fault boot_effect
one_is_ready = refl

one_has_its_word : registers_of boot 2 ≡ 0 ∷ 6 ∷ 0 ∷ 0 ∷ 0 ∷ 0 ∷ []
unfolding computing boot_fault boot_effect
one_has_its_word = refl

-- The first of four handles is in register 0, the others from register 2 on, beside the word.
four_handles : take 7 (started_process library 0 (replicate 4 (event_with FIRST_RIGHTS)) (5 ∷ 7 ∷ 8 ∷ 9 ∷ []) 6).cpu.registers ≡ 5 ∷ 6 ∷ 7 ∷ 8 ∷ 9 ∷ 0 ∷ 0 ∷ []
four_handles = refl

-- They are in its table at these values.
in_its_table : map (λ h. h.0) (started_process library 0 (replicate 4 (event_with FIRST_RIGHTS)) (5 ∷ 7 ∷ 8 ∷ 9 ∷ []) 6).handles ≡ 5 ∷ 7 ∷ 8 ∷ 9 ∷ []
unfolding computing
in_its_table = refl

-- ---- faults of boot

rows_of_faults_of_boot :
    -- The library has no program 0.
    (boot_fault [] origin one ≡ Some cause.Unknown)
    -- There is no job 2.
    × (boot_fault library origin (statement.Process 2 0 0 []) ≡ Some cause.Unknown)
unfolding computing boot_fault
rows_of_faults_of_boot = (refl, refl)

-- Koid 2 is a process, and no job.
process_is_no_job : boot_fault library (boot_effect library origin one []) (statement.Process 2 0 0 []) ≡ Some cause.Unknown
unfolding computing boot_fault boot_effect
process_is_no_job = refl

rows_of_faults_of_boot_2 :
    -- Koid 1,024 may still be given.
    (boot_fault library (record origin { next_koid = 1024 }) one ≡ None)
    -- Koid 1,025 may not.
    × (boot_fault library (record origin { next_koid = 1025 }) one ≡ Some cause.Limit)
    -- What is unknown comes before a limit.
    × (boot_fault [] (record origin { next_koid = 1025 }) one ≡ Some cause.Unknown)
unfolding computing boot_fault
rows_of_faults_of_boot_2 = (refl, refl, refl)

-- The second statement names program 1 of a library of one.
second_is_unknown : FirstFault library (one ∷ statement.Process 1 1 0 [] ∷ []) 100 1 cause.Unknown
unfolding computing boot_fault boot_effect
second_is_unknown =
    at_statement (booted library origin (one ∷ [])) 1 (statement.Process 1 1 0 []) cause.Unknown (Boots-by library origin (one ∷ []) refl) refl refl

-- The 65th process is one too many.
too_many_processes : FirstFault library (replicate 65 one) 100 64 cause.Limit
unfolding computing boot_fault boot_effect
too_many_processes = at_statement (booted library origin (replicate 64 one)) 64 one cause.Limit (Boots-by library origin (replicate 64 one) refl) refl refl

-- A trace of 1,000,001 items is one too long, and the fault is that of a statement past the last.
too_many_items : FirstFault library (one ∷ []) 1000001 1 cause.Limit
unfolding computing boot_fault boot_effect
too_many_items = at_limit (booted library origin (one ∷ [])) (Boots-by library origin (one ∷ []) refl) (omega arith)

-- ---- stuck

abbrev history : List TraceItem
history = item.Run 2 1 ∷ item.Stuck 2 ∷ []

abbrev turns : List (ℕ × Choice)
turns = (2, Refused) ∷ (2, Refused) ∷ []

abbrev end : World
end = world_after boot (run_by library boot turns)

-- One local instruction, and then the counter is behind the code: the process is stuck.
is_legal : IsLegalHistory library boot history end
unfolding computing boot_effect
is_legal = IsLegalHistory-by library boot turns history refl refl refl

-- It has ended with -1028.
ends_stuck : state_of end 2 ≡ Some (Ended (negsuc 1027))
unfolding computing boot_effect
ends_stuck = refl
