-- The world that a list of statements makes, or the first fault.
use Rattle.std.specs.Prelude.{ℕ, ◌+◌, ◌≡◌, ◌<◌, ◌≤◌, Bool, true, false, ◌&&◌, ◌||◌, not, nat_lt, nat_le, List, [], ◌∷◌, ◌++◌, length, take, Option, Some, None, is_some, slice_get, IsTrue}
use Rattle.std.specs.Bool.{then_some}
use Rattle.std.specs.List.{list_all}
use Rattle.std.specs.Option.{option_to_list}
use Rattle.zl_rights.specs.Common.{rights_of, default_rights_of, Map, get, has_key, World, Process, Object, Body, JobBody, ProcessBody, ChannelEnd, EventBody, PairEnd, PortBody, kind_of, is_empty, Settles}
use Rattle.zl_rights.specs.declared.kind.Kind.{Kind}
use Rattle.zl_code.specs.First.{first_some}
use Rattle.zl_rights.specs.declared.entry.Entry.{Entry}
use Rattle.zl_code.specs.declared.boot.Grant.{Grant}
use Rattle.zl_code.specs.declared.boot.Statement.{Statement}
use Rattle.zl_code.specs.declared.boot.Statement.TheVariants as statement
use Rattle.zl_code.specs.declared.boot.BootCause.{BootCause}
use Rattle.zl_code.specs.declared.boot.BootCause.TheVariants as cause
use Rattle.zl_code.specs.declared.image.Start.{Start}
use Rattle.zl_code.specs.Image.{Library, Program}
use Rattle.zl_rights.specs.Policies.{Setting}
use Rattle.zl_rights.specs.declared.policy.Condition.{Condition}
use Rattle.zl_rights.specs.declared.policy.Action.{Action}
use Rattle.zl_rights.specs.declared.policy.Mode.TheVariants as mode
use Rattle.zl_code.specs.Jobs.{has_child, is_conflict, is_declared, is_deepest, job_within, lacks_need, policy_changed}
use Rattle.zl_code.specs.Tests.{body_in, body_of, policy_in}
use Rattle.zl_code.specs.Handles.{has_default_rights}
use Rattle.zl_code.specs.Effects.{on_object, with_object, with_process, process_with, may_get_all}
use Rattle.zl_code.specs.Starting.{created_process, started_with}

-- ---- limits

-- the most processes that a boot makes
abbrev pub MOST_PROCESSES : ℕ
MOST_PROCESSES = 64

-- the most koids that a boot gives, the root job's among them
abbrev pub MOST_KOIDS : ℕ
MOST_KOIDS = 1024

-- the largest limit of a trace
abbrev pub MOST_ITEMS : ℕ
MOST_ITEMS = 1000000

-- the most handles that a statement gives: one for each register from 0 to 7 but the word's
abbrev pub MOST_GRANTS : ℕ
MOST_GRANTS = 7

-- ---- the handles that a statement gives

-- the rights of a handle to an object of the kind: those that are named, or else the default rights
abbrev pub rights_given : Option ℕ → Kind → ℕ
rights_given None kind = default_rights_of kind
rights_given (Some rights) kind = rights

-- the handle to what was found; none where nothing was
abbrev pub handle_given : Grant → Option Body → Option Entry
handle_given g None = None
handle_given g (Some b) = Some (record { koid = g.koid; kind = kind_of b; rights = rights_of (rights_given g.rights (kind_of b)) })

-- the handles to these objects, in order
abbrev pub handles_given : Map Object → List Grant → List Entry
handles_given objects [] = []
handles_given objects (g ∷ gs) = option_to_list (handle_given g (body_in (get objects g.koid))) ++ handles_given objects gs

-- each names an object that is there
abbrev pub all_known : Map Object → List Grant → Bool
all_known objects gs = list_all (λ g. has_key objects g.koid) gs

-- a process can start with them: there are few enough, and each has default rights of its kind at most
abbrev pub may_start_with : List Grant → List Entry → Bool
may_start_with gs es = nat_le (length gs) MOST_GRANTS && list_all has_default_rights es

-- they are those that are declared: one for each, in order, of its kind and with its rights at least
abbrev pub are_declared : List Start → List Entry → Bool
are_declared [] [] = true
are_declared [] (e ∷ es) = false
are_declared (s ∷ ss) [] = false
are_declared (s ∷ ss) (e ∷ es) = is_declared s e && are_declared ss es

-- the program is checked, and declares other handles
abbrev pub are_misfits : Option Program → List Entry → Bool
are_misfits None es = false
are_misfits (Some g) es = g.checked && not (are_declared g.image.starts es)

-- ---- one statement

-- the object is a job
abbrev pub is_job_body : Option Body → Bool
is_job_body (Some (JobBody parent depth policy killed)) = true
is_job_body _ = false

-- the koid is that of a job
abbrev pub is_job : World → ℕ → Bool
is_job w k = is_job_body (body_of w k)

-- how many koids the statement takes: one for each object that it makes
abbrev pub koids_of : Statement → ℕ
koids_of (statement.Job parent) = 1
koids_of (statement.Policy job condition action) = 0
koids_of (statement.Process job program word handles) = 1
koids_of statement.Event = 1
koids_of statement.Port = 1
koids_of statement.Channel = 2
koids_of statement.Eventpair = 2

-- fewer koids are left than the statement takes
abbrev pub lacks_koids : World → Statement → Bool
lacks_koids w s = nat_lt (MOST_KOIDS + 1) (w.next_koid + koids_of s)

-- what a statement sets in the policy of a job, which it does in the mode that refuses conflicts
abbrev pub setting : Condition → Action → Option Setting
setting condition action = Some (record { mode = mode.Absolute; condition = condition; action = action })

-- why the statement can't be done: no such job, program or object; no handles to start with, or others than the program
-- declares; a need of the program that the job doesn't allow; a child lives in the job whose policy is set, or the policy
-- has another action; one process or one level of jobs too many, or too few koids are left
unfoldable pub boot_fault : Library → World → Statement → Option BootCause
boot_fault lib w (statement.Job parent) = first_some (
    then_some (not (is_job w parent)) cause.Unknown
    ∷ then_some (is_deepest (body_of w parent) || lacks_koids w (statement.Job parent)) cause.Limit
    ∷ [])
boot_fault lib w (statement.Policy job condition action) = first_some (
    then_some (not (is_job w job)) cause.Unknown
    ∷ then_some (has_child w job) cause.BadState
    ∷ then_some (is_conflict (policy_in (body_of w job)) (setting condition action)) cause.Conflict
    ∷ [])
boot_fault lib w (statement.Process job program word handles) = first_some (
    then_some (not (is_job w job && (is_some (slice_get lib program) && all_known w.objects handles))) cause.Unknown
    ∷ then_some (not (may_start_with handles (handles_given w.objects handles))) cause.BadHandleList
    ∷ then_some (are_misfits (slice_get lib program) (handles_given w.objects handles)) cause.BadHandleList
    ∷ then_some (lacks_need w job (slice_get lib program)) cause.NeedDenied
    ∷ then_some (nat_le MOST_PROCESSES (length w.processes) || lacks_koids w (statement.Process job program word handles)) cause.Limit
    ∷ [])
boot_fault lib w statement.Event = then_some (lacks_koids w statement.Event) cause.Limit
boot_fault lib w statement.Port = then_some (lacks_koids w statement.Port) cause.Limit
boot_fault lib w statement.Channel = then_some (lacks_koids w statement.Channel) cause.Limit
boot_fault lib w statement.Eventpair = then_some (lacks_koids w statement.Eventpair) cause.Limit

-- these values may be given to the handles of the statement, one after another
abbrev pub may_boot : Library → World → Statement → List ℕ → Bool
may_boot lib w (statement.Process job program word handles) vs = may_get_all (created_process lib program) (handles_given w.objects handles) vs
may_boot lib w (statement.Job parent) vs = is_empty vs
may_boot lib w (statement.Policy job condition action) vs = is_empty vs
may_boot lib w statement.Event vs = is_empty vs
may_boot lib w statement.Port vs = is_empty vs
may_boot lib w statement.Channel vs = is_empty vs
may_boot lib w statement.Eventpair vs = is_empty vs

-- the process with the handles, each at its value
abbrev pub process_with_all : List Entry → List ℕ → Process → Process
process_with_all [] vs q = q
process_with_all (e ∷ es) [] q = q
process_with_all (e ∷ es) (v ∷ vs) q = process_with_all es vs (process_with v e q)

-- a ready process that runs the program, with the handles at these values, and with the word
abbrev pub started_process : Library → ℕ → List Entry → List ℕ → ℕ → Process
started_process lib program es vs word = started_with vs word (process_with_all es vs (created_process lib program))

-- the world after the statement, where its handles get the values vs
unfoldable pub boot_effect : Library → World → Statement → List ℕ → World
boot_effect lib w (statement.Process job program word handles) vs =
    with_process (with_object w (ProcessBody job)) w.next_koid (started_process lib program (handles_given w.objects handles) vs word)
boot_effect lib w (statement.Job parent) vs = with_object w (job_within parent (body_of w parent))
boot_effect lib w (statement.Policy job condition action) vs = on_object w job (policy_changed (setting condition action))
boot_effect lib w statement.Event vs = with_object w EventBody
boot_effect lib w statement.Port vs = with_object w (PortBody [])
boot_effect lib w statement.Channel vs =
    with_object (with_object w (ChannelEnd (w.next_koid + 1) [])) (ChannelEnd w.next_koid [])
boot_effect lib w statement.Eventpair vs = with_object (with_object w (PairEnd (w.next_koid + 1))) (PairEnd w.next_koid)

-- ---- all statements

-- the world with the root job alone
abbrev pub origin : World
origin = record {
  processes = [];
  objects = (1, record { body = JobBody 0 1 [] false; raised = 0 }) ∷ [];
  waits = [];
  blocked = [];
  next_koid = 2;
  waits_made = 0;
}

-- the statements lead from w to w2, one after another, each with its choice of values
abbrev pub Boots : Library → World → List Statement → World → Type 0
Boots lib w [] w2 = w2 ≡ w
Boots lib w (s ∷ ss) w2 =
    (vs : List ℕ) × (boot_fault lib w s ≡ None) × IsTrue (may_boot lib w s vs) × Boots lib (boot_effect lib w s vs) ss w2

-- the values that the handles of each statement got
abbrev pub values_given : (lib : Library) (w : World) (statements : List Statement) (w2 : World) → Boots lib w statements w2 → List (List ℕ)
values_given lib w [] w2 boots = []
values_given lib w (s ∷ ss) w2 (vs, fine, may, rest) = vs ∷ values_given lib (boot_effect lib w s vs) ss w2 rest

-- the statement gives no handle
abbrev pub gives_no_handle : Statement → Bool
gives_no_handle (statement.Process job program word handles) = is_empty handles
gives_no_handle (statement.Job parent) = true
gives_no_handle (statement.Policy job condition action) = true
gives_no_handle statement.Event = true
gives_no_handle statement.Port = true
gives_no_handle statement.Channel = true
gives_no_handle statement.Eventpair = true

-- w is a boot world of the statements
pub record IsBoot (lib : Library) (statements : List Statement) (w : World) : Type 0 where
  pub made : World
  pub boots : Boots lib origin statements made
  pub settles : Settles made w

-- w is a boot world of the statements, and the limit of the trace isn't above the largest
pub record IsBooted (lib : Library) (statements : List Statement) (limit : ℕ) (w : World) : Type 0 where
  pub boots : IsBoot lib statements w
  pub within : limit ≤ MOST_ITEMS

-- The statements are done up to number n, from 0, which has this fault;
-- a limit above the largest is the fault of a statement one past the last.
pub data FirstFault (lib : Library) (statements : List Statement) (limit : ℕ) : ℕ → BootCause → Type 0 where
  at_statement : (made : World) (n : ℕ) (s : Statement) (c : BootCause)
      → Boots lib origin (take n statements) made → slice_get statements n ≡ Some s → boot_fault lib made s ≡ Some c
      → FirstFault lib statements limit n c
  at_limit : (made : World) → Boots lib origin statements made → MOST_ITEMS < limit → FirstFault lib statements limit (length statements) cause.Limit
