-- Which handles and policies a boot asks of a checked program, by computation in small worlds.
use Rattle.zl_code.specs.Image.{blank_image}
use Rattle.zl_code.proofs.Common.{Action, Bool, BootCause, Condition, Grant, Kind, Library, List, None, Option, Program, Some, Start, Statement, World, []}
use Rattle.zl_code.proofs.Common.{boot_effect, boot_fault, false, origin, refl, replicate, rights_of, true, ℕ, ◌++◌, ◌∷◌, ◌≡◌}
use Rattle.zl_rights.specs.declared.kind.Kind.TheVariants as kind
use Rattle.zl_rights.specs.declared.policy.Action.TheVariants as action
use Rattle.zl_rights.specs.declared.policy.Condition.TheVariants as condition
use Rattle.zl_code.specs.declared.boot.BootCause.TheVariants as cause
use Rattle.zl_code.specs.declared.boot.Statement.TheVariants as statement
use Rattle.zl_code.specs.declared.instr.Instr.TheVariants as instr
use Rattle.zl_code.specs.declared.instr.LocalInstr.TheVariants as local
use Rattle.zl_code.proofs.Running.{computing}
use Rattle.zl_code.proofs.RowsBoot.{with_default, with_rights}

-- ---- four programs, and a world

-- const r2, 1 alone, with these declarations
abbrev program_with : Bool → List Condition → List Start → Program
program_with checked needs starts = record {
  checked = checked;
  image = record blank_image { needs = needs; starts = starts; code = instr.Local (local.Const 2 1) ∷ [] };
}

abbrev start : Option Kind → ℕ → Start
start k rights = record { kind = k; rights = rights_of rights }

-- an event to signal, 4096, and a channel to read and write, 12
abbrev starts : List Start
starts = start (Some kind.Event) 4096 ∷ start (Some kind.Channel) 12 ∷ []

-- Program 0 is checked, and makes events and ports; program 1 is the same, but not checked; program 2 is checked, and
-- declares a handle of any kind to wait by, 16384; program 3 is checked, and declares nothing.
abbrev library : Library
library =
    program_with true (condition.NewEvent ∷ condition.NewPort ∷ []) starts ∷ program_with false (condition.NewEvent ∷ condition.NewPort ∷ []) starts
    ∷ program_with true [] (start None 16384 ∷ []) ∷ program_with true [] [] ∷ []

-- the world after the statement, where no handle is given
abbrev then_done : Statement → World → World
then_done s w = boot_effect library w s []

-- an event 2, and a channel with the ends 3 and 4
abbrev objects_in : World → World
objects_in w = then_done statement.Channel (then_done statement.Event w)

abbrev with_objects : World
with_objects = objects_in origin

-- the fault of process 1 PROGRAM 6 and these handles
abbrev fault_in : World → ℕ → List Grant → Option BootCause
fault_in w program handles = boot_fault library w (statement.Process 1 program 6 handles)

-- ---- handles

rows_of_declared_handles :
    -- With just the declared rights, and with all that a first handle has.
    (fault_in with_objects 0 (with_rights 2 4096 ∷ with_rights 3 12 ∷ []) ≡ None)
    × (fault_in with_objects 0 (with_default 2 ∷ with_default 3 ∷ []) ≡ None)
    -- One is missing, or all are, or there is one too many.
    × (fault_in with_objects 0 (with_default 2 ∷ []) ≡ Some cause.BadHandleList)
    × (fault_in with_objects 0 [] ≡ Some cause.BadHandleList)
    × (fault_in with_objects 0 (with_default 2 ∷ with_default 3 ∷ with_default 4 ∷ []) ≡ Some cause.BadHandleList)
    -- The job, 1, is no event; and their order counts.
    × (fault_in with_objects 0 (with_default 1 ∷ with_default 3 ∷ []) ≡ Some cause.BadHandleList)
    × (fault_in with_objects 0 (with_default 3 ∷ with_default 2 ∷ []) ≡ Some cause.BadHandleList)
    -- All rights of an event but that to signal, and the right to read without that to write.
    × (fault_in with_objects 0 (with_rights 2 49155 ∷ with_default 3 ∷ []) ≡ Some cause.BadHandleList)
    × (fault_in with_objects 0 (with_default 2 ∷ with_rights 3 4 ∷ []) ≡ Some cause.BadHandleList)
    -- Any kind will do, where none is declared, but not a handle without the right to wait.
    × (fault_in with_objects 2 (with_default 2 ∷ []) ≡ None)
    × (fault_in with_objects 2 (with_rights 3 16384 ∷ []) ≡ None)
    × (fault_in with_objects 2 (with_rights 2 4096 ∷ []) ≡ Some cause.BadHandleList)
    -- Where nothing is declared, nothing may be given.
    × (fault_in with_objects 3 [] ≡ None)
    × (fault_in with_objects 3 (with_default 2 ∷ []) ≡ Some cause.BadHandleList)
    -- What isn't checked takes any handles.
    × (fault_in with_objects 1 (with_default 2 ∷ with_default 3 ∷ []) ≡ None)
    × (fault_in with_objects 1 [] ≡ None)
    × (fault_in with_objects 1 (with_default 3 ∷ with_rights 1 0 ∷ with_default 4 ∷ []) ≡ None)
unfolding computing boot_fault boot_effect
rows_of_declared_handles = (refl, refl, refl, refl, refl, refl, refl, refl, refl, refl, refl, refl, refl, refl, refl, refl, refl)

-- ---- needs

-- the handles that program 0 declares
abbrev declared : List Grant
declared = with_default 2 ∷ with_default 3 ∷ []

-- the root job has this action for the condition
abbrev deciding : Condition → Action → World
deciding c a = objects_in (then_done (statement.Policy 1 c a) origin)

-- job 5, in which no event may be made, in the root job, in which all may be
abbrev with_job : World
with_job = then_done (statement.Policy 5 condition.NewEvent action.Deny) (then_done (statement.Job 1) with_objects)

rows_of_needs :
    -- Whether the job denies what is needed or kills for it, the program isn't started.
    (fault_in (deciding condition.NewEvent action.Deny) 0 declared ≡ Some cause.NeedDenied)
    × (fault_in (deciding condition.NewEvent action.Kill) 0 declared ≡ Some cause.NeedDenied)
    × (fault_in (deciding condition.NewPort action.Deny) 0 declared ≡ Some cause.NeedDenied)
    × (fault_in (deciding condition.NewAny action.Kill) 0 declared ≡ Some cause.NeedDenied)
    -- Allowed, or with no action set, it is; and what isn't needed may be denied.
    × (fault_in (deciding condition.NewEvent action.Allow) 0 declared ≡ None)
    × (fault_in with_objects 0 declared ≡ None)
    × (fault_in (deciding condition.NewChannel action.Kill) 0 declared ≡ None)
    × (fault_in (deciding condition.BadHandle action.Kill) 0 declared ≡ None)
    -- What isn't checked is started, and so is what needs nothing.
    × (fault_in (deciding condition.NewEvent action.Deny) 1 declared ≡ None)
    × (fault_in (deciding condition.NewAny action.Kill) 3 [] ≡ None)
    -- It is the job of the statement that decides.
    × (boot_fault library with_job (statement.Process 5 0 6 declared) ≡ Some cause.NeedDenied)
    × (fault_in with_job 0 declared ≡ None)
unfolding computing boot_fault boot_effect
rows_of_needs = (refl, refl, refl, refl, refl, refl, refl, refl, refl, refl, refl, refl)

-- Once the process is started, no policy of its job is set.
policy_stays : boot_fault library (boot_effect library with_objects (statement.Process 1 0 6 declared) (9 ∷ 5 ∷ []))
    (statement.Policy 1 condition.NewEvent action.Deny) ≡ Some cause.BadState
unfolding computing boot_fault boot_effect
policy_stays = refl

-- ---- the order of faults

-- the root job denies events, and no koid is left
abbrev denying_and_full : World
denying_and_full = record (deciding condition.NewEvent action.Deny) { next_koid = 1025 }

rows_of_order :
    -- There is no object 9, and no program 4.
    (fault_in denying_and_full 0 (with_default 2 ∷ with_default 9 ∷ []) ≡ Some cause.Unknown)
    × (fault_in denying_and_full 4 [] ≡ Some cause.Unknown)
    -- Too many handles, rights that no event has, and handles that aren't declared.
    × (fault_in denying_and_full 0 (replicate 6 (with_default 2) ++ declared) ≡ Some cause.BadHandleList)
    × (fault_in denying_and_full 0 (with_rights 2 4104 ∷ with_default 3 ∷ []) ≡ Some cause.BadHandleList)
    × (fault_in denying_and_full 0 (with_default 3 ∷ []) ≡ Some cause.BadHandleList)
    × (fault_in denying_and_full 0 declared ≡ Some cause.NeedDenied)
    × (fault_in denying_and_full 1 declared ≡ Some cause.Limit)
    × (fault_in (record with_objects { next_koid = 1025 }) 0 declared ≡ Some cause.Limit)
unfolding computing boot_fault boot_effect
rows_of_order = (refl, refl, refl, refl, refl, refl, refl, refl)
