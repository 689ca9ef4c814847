-- What is active at an object: the objects tell it, without the processes.
use Rattle.zl_calls.proofs.Common.{Agrees, Body, IsConsistent, IsTrue, List, Map, Object, Objects, Process, ShowStates, Some, World, active, get, has_key}
use Rattle.zl_calls.proofs.Common.{is_sorted, nat_cmp, signals_at, world_value, ℕ, ◌<◌, ◌≡◌}
use Rattle.zl_objects.specs.declared.object.Body.TheVariants as body
use Rattle.zl_objects.specs.Signals.{Shows}
use Rattle.zl_objects.proofs.Showing.{are_active}

-- an object that agrees with its process shows what that is in
shown : (w : World) (k : ℕ) (b : Body) → Agrees w k b → Shows w k b
shown w k (body.Job own) agrees = tt
shown w k (body.Process job alive) agrees = record { living = agrees.living; over = agrees.over }
shown w k _ agrees = tt

-- objects that agree with their processes show what those are in
pub shown_all : (w : World) (m : Map Object) → IsTrue (is_sorted nat_cmp m) → ((k : ℕ) → IsTrue (has_key m k) → 0 < k)
    → ((k : ℕ) (o : Object) → get m k ≡ Some o → Agrees w k o.body) → ShowStates w m
shown_all w m in_order no_zero agrees = record { in_order = in_order; no_zero = no_zero; shown = λ j o at. shown w j o.body (agrees j o at) }

-- those of a consistent world do
pub states_shown : (ps : List Process) (r : Objects) → IsConsistent ps r → ShowStates (world_value ps r) r.objects
states_shown ps r consistent = shown_all (world_value ps r) r.objects consistent.kept.in_order consistent.no_zero consistent.agrees

-- the signals of the object k, by the objects alone, are those that are active there
pub signals_active : (ps : List Process) (r : Objects) → IsConsistent ps r → (k : ℕ) → signals_at r.objects k ≡ active (world_value ps r) k
signals_active ps r consistent k = are_active r.objects k (world_value ps r) (states_shown ps r consistent)
