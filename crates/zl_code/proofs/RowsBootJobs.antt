-- Statements that make jobs and set policies, by computation in small worlds.
use Rattle.zl_code.proofs.Common.{IsBoot, JobBody, None, Settles-by, Some, Statement, World, [], body_of, boot_effect, boot_fault, false, origin, refl}
use Rattle.zl_code.proofs.Common.{settled_in, with_object, ◌∷◌, ◌≡◌}
use Rattle.zl_rights.specs.declared.policy.Action.TheVariants as action
use Rattle.zl_rights.specs.declared.policy.Condition.TheVariants as condition
use Rattle.zl_code.specs.declared.boot.Statement.TheVariants as statement
use Rattle.zl_code.specs.declared.boot.BootCause.TheVariants as cause
use Rattle.zl_code.proofs.Running.{computing}
use Rattle.zl_code.proofs.RowsWords.{program_of}

-- the world after the statement, where no handle is given
abbrev then_done : Statement → World → World
then_done s w = boot_effect (program_of []) w s []

-- job 2 stands in the root job, in which events may not be made
abbrev one_job : World
one_job = then_done (statement.Job 1) (then_done (statement.Policy 1 condition.NewEvent action.Deny) origin)

rows_of_jobs :
    -- A job gets the policy that the one above has then, and stands one level deeper.
    (body_of one_job 2 ≡ Some (JobBody 1 2 ((4, action.Deny) ∷ []) false))
    -- Koid 3 is no object, and koid 3 of the next world is an event.
    × (boot_fault (program_of []) one_job (statement.Job 3) ≡ Some cause.Unknown)
    × (boot_fault (program_of []) (then_done statement.Event one_job) (statement.Job 3) ≡ Some cause.Unknown)
    × (boot_fault (program_of []) one_job (statement.Job 2) ≡ None)
    -- Below the sixteenth level no job is made.
    × (boot_fault (program_of []) (with_object origin (JobBody 1 16 [] false)) (statement.Job 2) ≡ Some cause.Limit)
    × (boot_fault (program_of []) (with_object origin (JobBody 1 15 [] false)) (statement.Job 2) ≡ None)
unfolding computing boot_fault boot_effect
rows_of_jobs = (refl, refl, refl, refl, refl, refl)

rows_of_policies :
    -- Koid 3 is no job.
    (boot_fault (program_of []) one_job (statement.Policy 3 condition.NewPort action.Deny) ≡ Some cause.Unknown)
    -- A job lives in the root job, and then a process in job 2.
    × (boot_fault (program_of []) one_job (statement.Policy 1 condition.NewPort action.Deny) ≡ Some cause.BadState)
    × (boot_fault (program_of []) (then_done (statement.Process 2 0 0 []) one_job) (statement.Policy 2 condition.NewPort action.Deny) ≡ Some cause.BadState)
    × (boot_fault (program_of []) one_job (statement.Policy 2 condition.NewPort action.Deny) ≡ None)
    -- Another action for the condition is a conflict, and the same again is none.
    × (boot_fault (program_of []) one_job (statement.Policy 2 condition.NewEvent action.Kill) ≡ Some cause.Conflict)
    × (boot_fault (program_of []) one_job (statement.Policy 2 condition.NewAny action.Allow) ≡ Some cause.Conflict)
    × (boot_fault (program_of []) one_job (statement.Policy 2 condition.NewEvent action.Deny) ≡ None)
    × (body_of (then_done (statement.Policy 2 condition.NewPort action.Kill) one_job) 2 ≡ Some (JobBody 1 2 ((4, action.Deny) ∷ (6, action.Kill) ∷ []) false))
unfolding computing boot_fault boot_effect
rows_of_policies = (refl, refl, refl, refl, refl, refl, refl, refl)

-- Jobs without a handle go at the end of a boot, but for those in which a process lives.
abbrev made : World
made = then_done (statement.Process 2 0 0 []) (then_done (statement.Job 1) (then_done (statement.Job 1) origin))

is_boot : IsBoot (program_of []) (statement.Job 1 ∷ statement.Job 1 ∷ statement.Process 2 0 0 [] ∷ []) (settled_in made 2)
unfolding computing boot_fault boot_effect
is_boot = record { made = made; boots = ([], refl, refl, ([], refl, refl, ([], refl, refl, refl))); settles = Settles-by made 2 refl }

rows_of_ends :
    (body_of (settled_in made 2) 2 ≡ Some (JobBody 1 2 [] false)) × (body_of (settled_in made 2) 3 ≡ None)
unfolding computing boot_effect
rows_of_ends = (refl, refl)
