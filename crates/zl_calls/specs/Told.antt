-- What a step tells beside its item: who became ready, and who may have ceased to be.
use Rattle.std.specs.Prelude.{◌≡◌, Bool, true, false, Option, Some, None}
use Rattle.zl_code.specs.declared.history.TraceItem.{TraceItem}
use Rattle.zl_calls.specs.Blocking.{fell_asleep}
use Rattle.zl_calls.specs.Started.{has_started}
use Rattle.zl_calls.specs.Killed.{keeps_all, keeps_others}
use Rattle.zl_calls.specs.declared.told.Effect.{Effect}
use Rattle.zl_calls.specs.declared.told.Effect.TheVariants as effect
use Rattle.zl_calls.specs.declared.told.Told.{Told}
use Rattle.zl_calls.specs.declared.told.Told.TheVariants as told
use Rattle.zl_calls.specs.declared.told.Woke.{Woke}
use Rattle.zl_calls.specs.declared.told.Woke.TheVariants as woke
use Rattle.zl_objects.specs.declared.below.TaskList.{TaskList}

-- ---- what is told

-- who became ready
abbrev pub woke_of : Told → Woke
woke_of told.Same = woke.Nobody
woke_of (told.Woke who) = who
woke_of (told.Killed killed) = killed.woke

-- whom a kill may have killed
abbrev pub killed_of : Told → Option TaskList
killed_of (told.Killed killed) = Some killed.tasks
killed_of _ = None

-- what is told fits the item of the step
abbrev pub FitsItem : TraceItem → Told → Type 0
FitsItem x told.Same = keeps_all x ≡ true
FitsItem x (told.Woke who) = keeps_others x ≡ true
FitsItem x (told.Killed killed) = keeps_others x ≡ false

-- ---- how it is found

-- the process of the step fell asleep
abbrev pub is_asleep : Effect → Bool
is_asleep effect.Asleep = true
is_asleep _ = false

-- one was started
abbrev pub is_started : Effect → Bool
is_started effect.Started = true
is_started _ = false

-- those that are ready stay so
abbrev pub stays : Effect → Bool
stays effect.GoesOn = true
stays effect.Started = true
stays _ = false

-- those that are ready stay so, but for the process of the step
abbrev pub spares : Effect → Bool
spares effect.Killed = false
spares _ = true

-- this is the effect of the step of which the item tells
pub record IsEffect (x : TraceItem) (e : Effect) : Type 0 where
  pub asleep : is_asleep e ≡ fell_asleep x
  pub started : is_started e ≡ has_started x
  pub stays : stays e ≡ keeps_all x
  pub spares : spares e ≡ keeps_others x

-- what is told fits the effect
abbrev pub Fits : Effect → Told → Type 0
Fits e told.Same = stays e ≡ true
Fits e (told.Woke who) = spares e ≡ true
Fits e (told.Killed killed) = spares e ≡ false
