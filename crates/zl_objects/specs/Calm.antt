-- What may be due at an object, a registered wait or a blocked process, and which objects are marked to be looked at.
use Rattle.std.specs.Prelude.{ℕ, ◌≡◌, ◌<◌, Bool, true, false, not, ◌||◌, ◌==◌, List, Option, Some, None, IsTrue}
use Rattle.std.specs.List.{All, list_any}
use Rattle.zl_rights.specs.Map.{Map, get, update}
use Rattle.zl_rights.specs.Numbers.{meets}
use Rattle.zl_rights.specs.Signals.{is_empty}
use Rattle.zl_rights.specs.World.{Wait}
use Rattle.zl_signals.specs.Waits.{watch_holds}
use Rattle.zl_objects.specs.declared.awaited.Awaited.{Awaited}
use Rattle.zl_objects.specs.declared.awaited.Awaited.TheVariants as awaits
use Rattle.zl_objects.specs.declared.awaited.Sleeper.{Sleeper}
use Rattle.zl_objects.specs.declared.marks.Marks.{Marks}
use Rattle.zl_objects.specs.declared.object.Object.{Object}
use Rattle.zl_objects.specs.Awaited.{koid_of}
use Rattle.zl_objects.specs.Objects.{Objects}
use Rattle.zl_objects.specs.Ports.{packets_found}
use Rattle.zl_objects.specs.Signals.{signals_at}
use Rattle.zl_objects.specs.Waits.{HaveSameWaits}

-- ---- what is due

-- the wait holds
abbrev pub holds_now : Map Object → Wait → Bool
holds_now m x = meets (signals_at m x.object) x.mask

-- packets are at the object that was found
abbrev pub has_packet : Option Object → Bool
has_packet o = not (is_empty (packets_found o))

-- what is waited for is there, where these signals are active at its object, and packets are there or aren't
abbrev pub is_given : ℕ → Bool → Awaited → Bool
is_given signals packets (awaits.SignalOf koid mask) = meets signals mask
is_given signals packets (awaits.PacketAt port) = packets

-- what is waited for is there
abbrev pub is_due : Map Object → Awaited → Bool
is_due m a = is_given (signals_at m (koid_of a)) (has_packet (get m (koid_of a))) a

-- ---- who may be blocked

-- an object at which a process may be blocked
abbrev pub slept : Object → Object
slept o = record o { asleep = true }

-- the objects, where a process may be blocked at k
abbrev pub knowing : Objects → ℕ → Objects
knowing r k = record r { objects = update r.objects k slept }

-- ---- marks

-- the object is marked
abbrev pub is_marked : Marks → ℕ → Bool
is_marked marks k = marks.all || list_any (λ j. j == k) marks.koids.items

-- a wait is registered at the object, or a process may be blocked there
abbrev pub is_watched : Object → Bool
is_watched o = o.asleep || not (is_empty o.signals.waits)

-- the object that was found is watched
abbrev pub is_watched_in : Option Object → Bool
is_watched_in None = false
is_watched_in (Some o) = is_watched o

-- of the waits at the object none holds, where these signals are active
abbrev pub NoneHolds : ℕ → Object → Type 0
NoneHolds signals o = list_any (watch_holds signals) o.signals.waits ≡ false

-- the sleeper waits at an object that was given, and that knows of it; unless it is marked, what it waits for isn't there
pub record IsAtRest (marked : ℕ → Bool) (m : Map Object) (next_koid : ℕ) (s : Sleeper) : Type 0 where
  pub given : koid_of s.awaited < next_koid
  pub known : (o : Object) → get m (koid_of s.awaited) ≡ Some o → IsTrue o.asleep
  pub calm : marked (koid_of s.awaited) ≡ false → is_due m s.awaited ≡ false

-- nothing is due at an object that isn't marked
pub record IsCalm (marked : ℕ → Bool) (m : Map Object) (next_koid : ℕ) (sleepers : List Sleeper) : Type 0 where
  pub waits : (k : ℕ) (o : Object) → get m k ≡ Some o → marked k ≡ false → NoneHolds (signals_at m k) o
  pub resting : All (IsAtRest marked m next_koid) sleepers

-- where nothing was due at an object that isn't marked, nothing is once marks and objects have changed
abbrev pub KeepsCalm : (ℕ → Bool) → Map Object → (ℕ → Bool) → Map Object → Type 0
KeepsCalm marked m marked2 m2 = (next_koid : ℕ) (sleepers : List Sleeper) → IsCalm marked m next_koid sleepers → IsCalm marked2 m2 next_koid sleepers

-- so is it, whatever is marked, and the waits stay
pub record StayStill (m m2 : Map Object) : Type 0 where
  pub calm : (marked : ℕ → Bool) → KeepsCalm marked m marked m2
  pub waits : HaveSameWaits m m2
