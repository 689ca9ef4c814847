-- Who became ready behind a step.
use Rattle.std.specs.Prelude.{ℕ, ◌≡◌, ◌+◌, Bool, true, ◌==◌, List, [], ◌∷◌, length, Option}
use Rattle.std.specs.List.{filter}
use Rattle.std.specs.Option.{option_to_list}
use Rattle.zl_code.specs.declared.history.TraceItem.{TraceItem}
use Rattle.zl_calls.specs.declared.told.Woke.{Woke}
use Rattle.zl_calls.specs.declared.told.Woke.TheVariants as woke
use Rattle.zl_calls.specs.World.{Machine}
use Rattle.zl_calls.specs.Steps.{TakesStep}

-- these are told
abbrev pub pids_told : Woke → List ℕ
pids_told woke.Nobody = []
pids_told (woke.One pid) = pid ∷ []
pids_told (woke.Several list) = list.pids.items

-- nobody else became ready
abbrev pub tells_all : Woke → Bool
tells_all (woke.Several list) = list.whole
tells_all _ = true

-- how often the process stands in the list
abbrev pub times_among : ℕ → List ℕ → ℕ
times_among p list = length (filter (λ q. q == p) list)

-- the processes in the first list, and the one that was started, are just those told and those in the second
abbrev pub AreParted : List ℕ → Option ℕ → List ℕ → List ℕ → Type 0
AreParted before started told after =
    (k : ℕ) → times_among k told + times_among k after ≡ times_among k before + times_among k (option_to_list started)

-- those told left the list of the blocked, but for the one that was started, if all are told
abbrev pub HaveLeft : List ℕ → Option ℕ → Woke → List ℕ → Type 0
HaveLeft before started w after = tells_all w ≡ true → AreParted before started (pids_told w) after

-- the item stands for one step of the process, which is ready; this one was started, and of those that were blocked then these woke
pub record StepsAndWakes (m : Machine) (pid : ℕ) (m2 : Machine) (x : TraceItem) (started : Option ℕ) (w : Woke) : Type 0 where
  pub takes : TakesStep m pid m2 x
  pub left : HaveLeft takes.steps.step.settled.blocked started w m2.world.blocked
