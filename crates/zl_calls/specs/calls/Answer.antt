-- How a call is refused and answered, which is alike for all calls. No public clause cites this module.
use Rattle.zl_code.specs.Common.{Blocked, Cpu, Map, get, has_key, without, answered, Site, cpu_answered}
use Rattle.zl_code.specs.Calls.{wanted}
use Rattle.zl_code.specs.Effects.{slots_filled}
use Rattle.zl_code.specs.Local.{overwritten}
use Rattle.std.specs.Option.{option_to_list}
use Rattle.std.specs.Prelude.{ℕ, ℤ, ◌≡◌, ◌+◌, ◌<◌, ◌^◌, Bool, true, false, nat_le, List, [], ◌∷◌, ◌++◌, if◌then◌else◌, length, Option, Some, None, Result, Ok, Err, ⊤, IfOk, IfErr, IsTrue, OnErr}
use Rattle.zl_rights.specs.declared.status.Status.{Status}
use Rattle.zl_rights.specs.declared.status.Status.TheVariants as status
use Rattle.zl_rights.specs.declared.entry.Entry.{Entry}
use Rattle.zl_rights.specs.Numbers.{status_magnitude}
use Rattle.zl_rights.specs.World.{Awaited}
use Rattle.zl_code.specs.declared.history.Outcome.{Outcome}
use Rattle.zl_code.specs.declared.history.Outcome.TheVariants as outcome
use Rattle.zl_table.specs.Table.{Handles}
use Rattle.zl_rights.specs.Values.{given_back}
use Rattle.zl_calls.specs.declared.process.Process.{Process}
use Rattle.zl_calls.specs.Registered.{KeepsListed}
use Rattle.zl_calls.specs.World.{state_value}
use Rattle.zl_objects.specs.Objects.{Objects}
use Rattle.zl_objects.specs.Release.{Releases, koids_in}

-- ---- refusals

-- the answers for a want of a call that may want nothing; and of one that may want memory
abbrev pub wants_nothing : Status → Bool
wants_nothing = wanted false

abbrev pub wants_memory : Status → Bool
wants_memory = wanted true

-- the status is the refusal; where nothing refuses the call, it is the answer for a want
abbrev pub IsRefusedBy : (wants : Status → Bool) → Option Status → Status → Type 0
IsRefusedBy wants (Some refusal) s = s ≡ refusal
IsRefusedBy wants None s = IsTrue (wants s)

-- the table has place for one handle more
abbrev pub has_room_in : Map Entry → Bool
has_room_in entries = nat_le (length entries + 1) 1024

-- a call was done, or else it was refused and changed nothing
pub record Does {A : Type 0} (Done : A → Handles → Objects → Type 0) (wants : Status → Bool) (refusal : Option Status) (t : Handles) (r : Objects) (answer : Result A Status) (t2 : Handles) (r2 : Objects) : Type 0 where
  pub ok : IfOk answer (λ x. Done x t2 r2)
  pub err : IfErr answer (IsRefusedBy wants refusal)
  pub same_table : OnErr answer (t2 ≡ t)
  pub same_objects : OnErr answer (r2 ≡ r)

-- ---- handles that a call takes

-- the table without the handle
abbrev pub without_handle : Handles → ℕ → Handles
without_handle t value = if has_key t.entries value then record { entries = without t.entries value; last = Some value; free = given_back value t.free } else t

-- the table without the handles at these values, which leave it from left to right
abbrev pub without_handles : Handles → List ℕ → Handles
without_handles t [] = t
without_handles t (h ∷ hs) = without_handles (without_handle t h) hs

-- the handles that leave it so
abbrev pub taken_from : Handles → List ℕ → List Entry
taken_from t [] = []
taken_from t (h ∷ hs) = option_to_list (get t.entries h) ++ taken_from (without_handle t h) hs

-- the handles at these values closed
pub record ClosesEach (hs : List ℕ) (t : Handles) (r : Objects) (t2 : Handles) (r2 : Objects) : Type 0 where
  pub table : t2 ≡ without_handles t hs
  pub objects : Releases (koids_in (taken_from t hs)) [] r r2
  pub listed : KeepsListed r r2

-- a call was done; or else it was refused, and the handles at the values hs closed, which it takes however it is answered
pub record DoesTaking {A : Type 0} (Done : A → Handles → Objects → Type 0) (wants : Status → Bool) (refusal : Option Status) (hs : List ℕ) (t : Handles) (r : Objects) (answer : Result A Status) (t2 : Handles) (r2 : Objects) : Type 0 where
  pub ok : IfOk answer (λ x. Done x t2 r2)
  pub err : IfErr answer (IsRefusedBy wants refusal)
  pub closed : OnErr answer (ClosesEach hs t r t2 r2)

-- ---- answers

-- the status that the caller gets
abbrev pub status_of : {A : Type 0} → Result A Status → Status
status_of (Ok x) = status.Ok
status_of (Err s) = s

-- the values behind the status; there are none where the call is refused
abbrev pub values_of : {A : Type 0} → (A → List ℕ) → Result A Status → List ℕ
values_of values (Ok x) = values x
values_of values (Err s) = []

-- the process has the answer in the registers of the site; its table is that of new
abbrev pub Replies : Site → Status → List ℕ → Process → Process → Type 0
Replies s answer values old new = new ≡ record old { cpu = cpu_answered s answer values old.cpu; table = new.table }

-- what the caller of a call is told: the status, the values behind it, the bytes that it finds in its memory from the address on, and the values in a slot array
pub record Told : Type 0 where
  pub status : Status
  pub values : List ℕ
  pub stored : ℕ × List ℕ
  pub kept : Option (ℕ × List ℕ)

-- values, where the call isn't refused, and nothing in memory or slots
abbrev pub told_by : {A : Type 0} → (A → List ℕ) → Result A Status → Told
told_by values answer = record { status = status_of answer; values = values_of values answer; stored = (0, []); kept = None }

-- the Cpu with these bytes in its memory
abbrev pub with_stored : ℕ × List ℕ → Cpu → Cpu
with_stored (address, []) c = c
with_stored (address, b ∷ bytes) c = record c { memory = overwritten c.memory address (b ∷ bytes) }

-- the Cpu with these values in a slot array, if one is named
abbrev pub with_kept : Option (ℕ × List ℕ) → Cpu → Cpu
with_kept None c = c
with_kept (Some x) c = record c { slots = slots_filled c.slots (Some x) }

-- the Cpu with all that is told outside of registers
abbrev pub with_told : Told → Cpu → Cpu
with_told told c = with_kept told.kept (with_stored told.stored c)

-- the process has what it is told in its memory, its slots and the registers of the site; its table is that of new
abbrev pub IsTold : Site → Told → Process → Process → Type 0
IsTold s told old new = new ≡ record old { cpu = cpu_answered s told.status told.values (with_told told old.cpu); table = new.table }

-- a call is answered: so it changes the table of its caller and the objects, and tells so much
pub record IsAnswered {A : Type 0} (told : A → Told) (Acts : Handles → Objects → A → Handles → Objects → Type 0) (s : Site) (p : Process) (r : Objects) (o : Outcome) (p2 : Process) (r2 : Objects) : Type 0 where
  pub answer : A
  pub acts : Acts p.table r answer p2.table r2
  pub ends : o ≡ outcome.Answered (told answer).status
  pub replied : IsTold s (told answer) p p2

-- A call blocks: its caller waits for this, and nothing else changes. So the caller stays at the call.
pub record Blocks (Awaits : Handles → Objects → Awaited → Type 0) (s : Site) (p : Process) (r : Objects) (o : Outcome) (p2 : Process) (r2 : Objects) : Type 0 where
  pub awaited : Awaited
  pub awaits : Awaits p.table r awaited
  pub ends : o ≡ outcome.Blocked
  pub process : p2 ≡ record p { state = p2.state }
  pub state : state_value p2.state ≡ Blocked awaited s.destinations
  pub counter : p.cpu.counter < 2 ^ 32
  pub objects : r2 ≡ r

-- the answer is a status alone
abbrev pub no_value : ⊤ → List ℕ
no_value done = []

-- the answer gives the value of a new handle too
abbrev pub one_value : ℕ → List ℕ
one_value made = made ∷ []

-- the answer gives the values of two new handles
abbrev pub two_values : ℕ × ℕ → List ℕ
two_values made = made.0 ∷ made.1 ∷ []

-- the process, with the answer in these registers
abbrev pub answered_in : {A : Type 0} → Process → List ℕ → (A → List ℕ) → Result A Status → Process
answered_in p destinations values answer = record p { cpu = answered p.cpu destinations (status_magnitude (status_of answer) ∷ values_of values answer) }

-- ---- what a call does

-- what a call does to the table of its caller and to the objects, and how it ends
pub data Action : Type 1 where
  -- it is answered, and the caller is told so much
  answers : (A : Type 0) (told : A → Told) (Acts : Handles → Objects → A → Handles → Objects → Type 0) → Action
  -- the same, or else its caller blocks, and waits for what the call may wait for
  waits : (A : Type 0) (told : A → Told) (Acts : Handles → Objects → A → Handles → Objects → Type 0) (Awaits : Handles → Objects → Awaited → Type 0) → Action
  -- its caller ends with the code, and gets no answer
  exits : (code : ℤ) → Action
  -- it reaches other processes too, and more is said of it where they are
  reaches : Action

-- its answer gives no value
abbrev pub gives_none : (Handles → Objects → Result ⊤ Status → Handles → Objects → Type 0) → Action
gives_none = answers (Result ⊤ Status) (told_by no_value)

-- its answer gives the value of a new handle
abbrev pub gives_one : (Handles → Objects → Result ℕ Status → Handles → Objects → Type 0) → Action
gives_one = answers (Result ℕ Status) (told_by one_value)

-- its answer gives the values of two new handles
abbrev pub gives_two : (Handles → Objects → Result (ℕ × ℕ) Status → Handles → Objects → Type 0) → Action
gives_two = answers (Result (ℕ × ℕ) Status) (told_by two_values)
