-- Statements that make events, ports and channels, and their limits, by computation.
use Rattle.zl_code.proofs.Common.{Body, ChannelEnd, Entry, EventBody, IsBoot, JobBody, Kind, List, None, Object, PortBody, ProcessBody}
use Rattle.zl_code.proofs.Common.{Settles-by, Some, Statement, World, [], boot_effect, boot_fault, false, may_boot, origin, refl, rights_of, settled_in}
use Rattle.zl_code.proofs.Common.{table_of, ℕ, ◌∷◌, ◌≡◌}
use Rattle.zl_rights.specs.declared.kind.Kind.TheVariants as kind
use Rattle.zl_code.specs.declared.boot.BootCause.TheVariants as cause
use Rattle.zl_code.specs.declared.boot.Statement.TheVariants as statement
use Rattle.zl_code.proofs.Running.{computing}
use Rattle.zl_code.proofs.RowsBoot.{library, one, with_default, with_rights}

-- a handle of a table
abbrev handle : ℕ → ℕ → Kind → ℕ → ℕ × Entry
handle value koid k rights = (value, record { koid = koid; kind = k; rights = rights_of rights })

-- an object without raised signals
abbrev new : ℕ → Body → ℕ × Object
new k b = (k, record { body = b; raised = 0 })

-- ---- an event 2, a port 3, a channel with the ends 4 and 5; and an event 6, a port 7 and a channel 8, 9 that nobody gets

abbrev makes_objects : List Statement
makes_objects = statement.Event ∷ statement.Port ∷ statement.Channel ∷ statement.Event ∷ statement.Port ∷ statement.Channel ∷ []

abbrev after_objects : World → List Statement → World
after_objects w [] = w
after_objects w (s ∷ ss) = after_objects (boot_effect library w s []) ss

-- all of them, before the boot ends
abbrev objects_made : World
objects_made = after_objects origin makes_objects

-- process 10 gets the event, one end and the port, at the values 9, 5 and 7; process 11 gets the other end
abbrev first : Statement
first = one (with_default 2 ∷ with_default 4 ∷ with_rights 3 12 ∷ [])

abbrev second : Statement
second = one (with_default 5 ∷ [])

abbrev made : World
made = boot_effect library (boot_effect library objects_made first (9 ∷ 5 ∷ 7 ∷ [])) second (9 ∷ [])

abbrev boot : World
boot = settled_in made 1

rows_of_objects_that_processes_get :
    IsBoot library (statement.Event ∷ statement.Port ∷ statement.Channel ∷ statement.Event ∷ statement.Port ∷ statement.Channel ∷ first ∷ second ∷ []) boot
    -- What no handle names is gone, and each end of the channel has the other for its peer.
    × (boot.objects ≡ new 1 (JobBody 0 1 [] false) ∷ new 2 EventBody ∷ new 3 (PortBody []) ∷ new 4 (ChannelEnd 5 []) ∷ new 5 (ChannelEnd 4 [])
    ∷ new 10 (ProcessBody 1) ∷ new 11 (ProcessBody 1) ∷ [])
    -- Each handle has the kind of its object and the default rights of the kind, or those that are named.
    × (table_of boot 10 ≡ handle 5 4 kind.Channel 61454 ∷ handle 7 3 kind.Port 12 ∷ handle 9 2 kind.Event 53251 ∷ [])
    × (table_of boot 11 ≡ handle 9 5 kind.Channel 61454 ∷ [])
unfolding computing boot_fault boot_effect
rows_of_objects_that_processes_get = (
  record {
    made = made;
    boots = (
      [],
      refl,
      refl,
      ([], refl, refl, ([], refl, refl, ([], refl, refl, ([], refl, refl, ([], refl, refl, (9 ∷ 5 ∷ 7 ∷ [], refl, refl, (9 ∷ [], refl, refl, refl))))))),
    );
    settles = Settles-by made 1 refl;
  },
  refl,
  refl,
  refl,
)

-- They get no value.
no_values : may_boot library origin statement.Channel (9 ∷ []) ≡ false
unfolding computing
no_values = refl

-- ---- a channel of which one end alone is held

abbrev one_end : World
one_end = boot_effect library (boot_effect library origin statement.Channel []) (one (with_default 3 ∷ [])) (9 ∷ [])

-- Its peer, the first end, is gone.
one_end_stays : (settled_in one_end 1).objects ≡ new 1 (JobBody 0 1 [] false) ∷ new 3 (ChannelEnd 2 []) ∷ new 4 (ProcessBody 1) ∷ []
unfolding computing boot_effect
one_end_stays = refl

-- ---- rights and limits

-- An event gives no right to write, 8, a port none to wait, 16384, and a channel none to duplicate, 1.
rows_of_rights :
    (boot_fault library objects_made (one (with_rights 2 8 ∷ [])) ≡ Some cause.BadHandleList)
    × (boot_fault library objects_made (one (with_rights 3 16384 ∷ [])) ≡ Some cause.BadHandleList)
    × (boot_fault library objects_made (one (with_rights 4 1 ∷ [])) ≡ Some cause.BadHandleList)
    -- Nine koids were given, the root job's among them.
    × (boot_fault library objects_made (one (with_default 9 ∷ [])) ≡ None)
    × (boot_fault library objects_made (one (with_default 10 ∷ [])) ≡ Some cause.Unknown)
unfolding computing boot_fault boot_effect
rows_of_rights = (refl, refl, refl, refl, refl)

-- the world of the root job, where this koid is the next
abbrev next : ℕ → World
next k = record origin { next_koid = k }

-- No koid above 1,024 is given: the last one is enough for each statement but a channel, which takes two.
rows_of_koids :
    (boot_fault library (next 1024) statement.Event ≡ None)
    × (boot_fault library (next 1025) statement.Event ≡ Some cause.Limit)
    × (boot_fault library (next 1024) statement.Port ≡ None)
    × (boot_fault library (next 1025) statement.Port ≡ Some cause.Limit)
    × (boot_fault library (next 1023) statement.Channel ≡ None)
    × (boot_fault library (next 1024) statement.Channel ≡ Some cause.Limit)
    × (boot_fault library (next 1025) statement.Channel ≡ Some cause.Limit)
    × (boot_fault library (next 1024) (one []) ≡ None)
    × (boot_fault library (next 1025) (one []) ≡ Some cause.Limit)
unfolding computing boot_fault
rows_of_koids = (refl, refl, refl, refl, refl, refl, refl, refl, refl)
