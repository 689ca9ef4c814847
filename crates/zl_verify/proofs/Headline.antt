-- The headline of an image with a typing and a step bound, from the laws of runs.
use Rattle.zl_verify.proofs.Common.{AllByRecursion, EndsItself, HasNoFault, Image, IsFineItem, IsNeverRefused, IsNotStuck, IsStarted, IsStepBound, IsTrue}
use Rattle.zl_verify.proofs.Common.{IsTyping, IsUnderWay, Library, List, Option, Process, Program, Some, State, TraceItem, World, [], ap, is_in_range}
use Rattle.zl_verify.proofs.Common.{none-some, runs, same_Some, slice_get, subst, suc, true, zero, ℕ, ◌∷◌, ◌≡◌}
use Rattle.zl_code.specs.declared.history.Outcome.TheVariants as outcome
use Rattle.zl_code.specs.declared.history.TraceItem.TheVariants as item
use Rattle.zl_verify.proofs.CheckedRuns.{budget_kept, never_refused}
use Rattle.zl_verify.proofs.Starting.{starts_conforming}

-- what is true of each is true of the one that was looked up
pub program_in : (lib : Library) (n : ℕ) (g : Program) → AllByRecursion (λ x. IsTrue (is_in_range x.image)) lib → slice_get lib n ≡ Some g
    → IsTrue (is_in_range g.image)
program_in [] n g all at = absurd (none-some g at)
program_in (x ∷ lib) zero g all at = subst (λ (y : Program). IsTrue (is_in_range y.image)) (same_Some x g at) all.0
program_in (x ∷ lib) (suc n) g all at = program_in lib n g all.1 at

all_so : {X : Type 0} (P Q : X → Type 0) → ((x : X) → P x → Q x) → (xs : List X) → AllByRecursion P xs → AllByRecursion Q xs
all_so P Q so [] all = tt
all_so P Q so (x ∷ xs) all = (so x all.0, all_so P Q so xs all.1)

module _ (p : ℕ) where
  no_fault : (x : TraceItem) → IsFineItem p x → HasNoFault p x
  no_fault (item.Call pid called (outcome.Answered answer)) fine = fine
  no_fault _ fine = tt

  ends_itself : (x : TraceItem) → IsFineItem p x → EndsItself p x
  ends_itself (item.Call pid called (outcome.Answered answer)) fine = tt
  ends_itself (item.Call pid called (outcome.Ended code)) fine = fine
  ends_itself _ fine = tt

  not_stuck : (x : TraceItem) → IsFineItem p x → IsNotStuck p x
  not_stuck (item.Stuck pid) fine = fine
  not_stuck _ fine = tt

-- an image of the library is in its ranges
pub in_range : (lib : Library) (i : Image) (w : World) (p : ℕ) → AllByRecursion (λ x. IsTrue (is_in_range x.image)) lib → IsStarted lib i w p
    → is_in_range i ≡ true
in_range lib i w p images started = program_in lib started.process.program _ images started.proper.running

-- who was properly started is under way
pub started_under_way : (lib : Library) (i : Image) (t : ℕ → Option State) → is_in_range i ≡ true → IsTyping i t → (w : World) (p : ℕ) → IsStarted lib i w p
    → IsUnderWay lib i t w p
started_under_way lib i t range typing w p started = record {
  process = started.process;
  there = started.there;
  running = ap (λ (z : Process). runs z.state) started.proper.made;
  checked = started.proper.checked;
  program = started.proper.running;
  conforms = starts_conforming i t range typing lib w p started.process started.proper;
}

pub headline : (i : Image) (t : ℕ → Option State) (steps : ℕ → List ℕ → ℕ) → IsTyping i t → IsStepBound i t steps → IsNeverRefused i
headline i t steps typing bound lib statements boot w after items more p begins run started rest =
    let range : is_in_range i ≡ true = in_range lib i w p begins.images started in
    let under : IsUnderWay lib i t w p = started_under_way lib i t range typing w p started in
    let fine : AllByRecursion (IsFineItem p) more = never_refused lib i t range typing statements boot begins p items more w after run under rest in
    record {
      no_fault = all_so (IsFineItem p) (HasNoFault p) (no_fault p) more fine;
      ends_itself = all_so (IsFineItem p) (EndsItself p) (ends_itself p) more fine;
      not_stuck = all_so (IsFineItem p) (IsNotStuck p) (not_stuck p) more fine;
      budget = budget_kept lib i t range typing steps bound statements boot begins p items more w after run under rest;
    }
