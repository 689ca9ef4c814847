-- Statements that give handles, and their faults, by computation.
use Rattle.zl_code.proofs.Common.{Grant, Library, List, None, Some, Statement, World, [], boot_effect, boot_fault, false, may_boot, origin, refl, replicate}
use Rattle.zl_code.proofs.Common.{rights_of, table_of, true, ℕ, ◌++◌, ◌∷◌, ◌≡◌}
use Rattle.zl_rights.specs.declared.kind.Kind.TheVariants as kind
use Rattle.zl_code.specs.declared.boot.BootCause.TheVariants as cause
use Rattle.zl_code.specs.declared.boot.Statement.TheVariants as statement
use Rattle.zl_code.specs.declared.instr.Instr.TheVariants as instr
use Rattle.zl_code.specs.declared.instr.LocalInstr.TheVariants as local
use Rattle.zl_code.proofs.Running.{computing}
use Rattle.zl_code.proofs.RowsWords.{program_of, registers_of}

-- const r2, 1 alone
abbrev pub library : Library
library = program_of (instr.Local (local.Const 2 1) ∷ [])

-- KOID:*
abbrev pub with_default : ℕ → Grant
with_default k = record { koid = k; rights = None }

-- KOID:RIGHTS
abbrev pub with_rights : ℕ → ℕ → Grant
with_rights k rights = record { koid = k; rights = Some rights }

-- process 1 0 6 and these handles
abbrev pub one : List Grant → Statement
one handles = statement.Process 1 0 6 handles

-- the world after process 1 0 6 without handles, which has koid 2
abbrev after_one : World
after_one = boot_effect library origin (one []) []

-- ---- a second process, with the handles 1:* and 2:16385, at the values 9 and 5

abbrev two : Statement
two = one (with_default 1 ∷ with_rights 2 16385 ∷ [])

abbrev after_two : World
after_two = boot_effect library after_one two (9 ∷ 5 ∷ [])

two_can_be_done : boot_fault library after_one two ≡ None
unfolding computing boot_fault boot_effect
two_can_be_done = refl

two_may_get_them : may_boot library after_one two (9 ∷ 5 ∷ []) ≡ true
unfolding computing boot_fault boot_effect
two_may_get_them = refl

rows_of_a_second_process_with_the_handles_1_and_2_16385_at_the_values_9_and_5 :
    -- A value can't be given twice.
    (may_boot library after_one two (9 ∷ 9 ∷ []) ≡ false)
    -- The first handle is in register 0, the word in 1 and the second handle in 2.
    × (registers_of after_two 3 ≡ 9 ∷ 6 ∷ 5 ∷ 0 ∷ 0 ∷ 0 ∷ [])
    -- The table has the default rights of a job, 251407, at the first, and those that are named at the second.
    × (table_of after_two 3
    ≡ (5, record { koid = 2; kind = kind.Process; rights = rights_of 16385 }) ∷ (9, record { koid = 1; kind = kind.Job; rights = rights_of 251407 }) ∷ [])
unfolding computing boot_fault boot_effect
rows_of_a_second_process_with_the_handles_1_and_2_16385_at_the_values_9_and_5 = (refl, refl, refl)

-- ---- faults

-- Seven handles are not too many.
seven_handles : boot_fault library origin (one (replicate 7 (with_default 1))) ≡ None
unfolding computing boot_fault
seven_handles = refl

eight_handles : boot_fault library origin (one (replicate 8 (with_default 1))) ≡ Some cause.BadHandleList
unfolding computing boot_fault
eight_handles = refl

-- There is no object 2, also as the ninth of a list that is too long.
no_object : boot_fault library origin (one (with_default 2 ∷ [])) ≡ Some cause.Unknown
unfolding computing boot_fault
no_object = refl

no_object_first : boot_fault library origin (one (replicate 8 (with_rights 1 8388608) ++ with_default 2 ∷ [])) ≡ Some cause.Unknown
unfolding computing boot_fault
no_object_first = refl

-- A process can't be given a handle to itself.
not_itself : boot_fault library after_one (one (with_default 3 ∷ [])) ≡ Some cause.Unknown
unfolding computing boot_fault boot_effect
not_itself = refl

-- A job gives no right to signal a peer, 8192, and a process none to set policies, 1024.
not_of_a_job : boot_fault library origin (one (with_rights 1 8192 ∷ [])) ≡ Some cause.BadHandleList
unfolding computing boot_fault
not_of_a_job = refl

not_of_a_process : boot_fault library after_one (one (with_rights 1 1024 ∷ with_rights 2 1024 ∷ [])) ≡ Some cause.BadHandleList
unfolding computing boot_fault boot_effect
not_of_a_process = refl

-- No right at all may be given; 2^32 and SAME_RIGHTS, 2^31, are no rights of a kind.
no_rights : boot_fault library origin (one (with_rights 1 0 ∷ [])) ≡ None
unfolding computing boot_fault
no_rights = refl

too_large : boot_fault library origin (one (with_rights 1 4294967296 ∷ [])) ≡ Some cause.BadHandleList
unfolding computing boot_fault
too_large = refl

not_the_same_rights : boot_fault library origin (one (with_rights 1 2147483648 ∷ [])) ≡ Some cause.BadHandleList
unfolding computing boot_fault
not_the_same_rights = refl

-- A list of handles that can't be comes before a limit.
handles_first : boot_fault library (record origin { next_koid = 1025 }) (one (replicate 8 (with_default 1))) ≡ Some cause.BadHandleList
unfolding computing boot_fault
handles_first = refl

limit_behind : boot_fault library (record origin { next_koid = 1025 }) (one (replicate 7 (with_default 1))) ≡ Some cause.Limit
unfolding computing boot_fault
limit_behind = refl
