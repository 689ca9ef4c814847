-- Orders of turns over worlds, and over what counts of them: each of one is one of the other, and they lead to the same.
use Rattle.zl_code.proofs.Common.{Bool, Library, List, Map, None, Option, Process, Some, State, World, [], ap, cases_Bool, each}
use Rattle.zl_code.proofs.Common.{eqb-true, false≢true, filter, get, get-each, inl, inr, is_process, is_ready, is_some, map}
use Rattle.zl_code.proofs.Common.{none-some, option_map, refl, same_Some, state_passes, subst, suc, sym, true, zero, ℕ, ◌==◌}
use Rattle.zl_code.proofs.Common.{◌∙◌, ◌∷◌, ◌≡◌}
use Rattle.zl_code.proofs.Common.{has_key}
use Rattle.zl_code.specs.declared.history.ProcState.{ProcState}
use Rattle.zl_code.specs.declared.history.TraceItem.{TraceItem}
use Rattle.zl_code.specs.Own.{OwnWorld}
use Rattle.zl_code.specs.OwnSteps.{own_of, own_step}
use Rattle.zl_code.proofs.OwnSteps.{own_step_there}
use Rattle.zl_explore.specs.Ordered.{IsOrdered}
use Rattle.zl_explore.specs.Orders.{OwnTurns, behind, next_in, ready_in, told_in}
use Rattle.zl_explore.specs.Paths.{IsIn, IsPath, after}
use Rattle.zl_calls.specs.Rested.{own_rested, rested, rested_process}
use Rattle.zl_calls.specs.World.{seen_in}
use Rattle.zl_explore.proofs.Resting.{rested_steps, ordered_behind}

-- ---- who is ready

in_more : {X : Type 0} (x y : X) (xs : List X) → IsIn xs x → IsIn (y ∷ xs) x
in_more x y xs (i, there) = (suc i, there)

key_there : (m : Map Process) (p : ℕ) → has_key m p ≡ true → IsIn (map (λ e. e.0) m) p
unfolding get
key_there [] p there = absurd (false≢true there)
key_there (e ∷ m) p there = elim (cases_Bool (e.0 == p)) as (λ _. IsIn (map (λ x. x.0) (e ∷ m)) p) [
  | inl here ↦ (zero, ap Some (eqb-true e.0 p here))
  | inr apart ↦ in_more p e.0 _ (key_there m p (rw apart at there))
]

passes_there : (test : ℕ → Bool) (ks : List ℕ) (p : ℕ) → IsIn ks p → test p ≡ true → IsIn (filter test ks) p
passes_there test [] p (i, there) passes = absurd (none-some p there)
passes_there test (k ∷ ks) p (zero, there) passes =
    let same : k ≡ p = same_Some k p there in rw (same, passes) (zero, refl)
passes_there test (k ∷ ks) p (suc i, there) passes = elim (cases_Bool (test k)) as (λ _. IsIn (filter test (k ∷ ks)) p) [
  | inl is_so ↦ rw is_so (in_more p k _ (passes_there test ks p (i, there) passes))
  | inr isnt ↦ rw isnt (passes_there test ks p (i, there) passes)
]

there_passes : (test : ℕ → Bool) (ks : List ℕ) (p : ℕ) → IsIn (filter test ks) p → test p ≡ true
there_passes test [] p (i, there) = absurd (none-some p there)
there_passes test (k ∷ ks) p inside = elim (cases_Bool (test k)) as (λ _. test p ≡ true) [
  | inl is_so ↦ by_place (there_passes test ks p) is_so (rw is_so at inside)
  | inr isnt ↦ there_passes test ks p (rw isnt at inside)
]
  where
    by_place : (IsIn (filter test ks) p → test p ≡ true) → test k ≡ true → IsIn (k ∷ filter test ks) p → test p ≡ true
    by_place rest is_so (zero, there) = rw (← same_Some k p there) is_so
    by_place rest is_so (suc i, there) = rest (i, there)

-- ---- what rests is ready alike, and in the same states

keys_rested : (m : Map Process) → map (λ e. e.0) (each (λ k q. rested_process q) m) ≡ map (λ e. e.0) m
unfolding each
keys_rested [] = refl
keys_rested (e ∷ m) = ap (λ ks. e.0 ∷ ks) (keys_rested m)

pub process_rested : (w : World) (test : State → Bool) (k : ℕ) → is_process (rested w) test k ≡ is_process w test k
unfolding is_process
process_rested w test k = rw get-each (by_found (get w.processes k))
  where
    by_found : (found : Option Process) → state_passes test (option_map rested_process found) ≡ state_passes test found
    by_found None = refl
    by_found (Some q) = refl

pub ready_same : (o : OwnWorld) → ready_in (own_rested o) ≡ ready_in o
ready_same o = λ i. filter (λ k. process_rested o.world is_ready k i) (keys_rested o.world.processes i)

told_rested : (m : Map Process) → map {B = ℕ × ProcState} (λ e. (e.0, seen_in e.1.state)) (each (λ k q. rested_process q) m)
    ≡ map (λ e. (e.0, seen_in e.1.state)) m
unfolding each
told_rested [] = refl
told_rested (e ∷ m) = ap (λ ks. (e.0, seen_in e.1.state) ∷ ks) (told_rested m)

pub told_same : (o : OwnWorld) → told_in (own_rested o) ≡ told_in o
told_same o = told_rested o.world.processes

-- ---- one turn

pub steps_ready : (lib : Library) (o after : OwnWorld) (p : ℕ) (x : TraceItem) → own_step lib o p ≡ Some (after, x) → IsIn (ready_in o) p
unfolding is_process
steps_ready lib o after p x step = by_found (get o.world.processes p) refl step
  where
    by_found : (found : Option Process) → get o.world.processes p ≡ found → own_of lib o p found ≡ Some (after, x) → IsIn (ready_in o) p
    by_found None there step = absurd (none-some _ step)
    by_found (Some q) there step = elim (cases_Bool (is_ready q.state)) as (λ _. IsIn (ready_in o) p) [
      | inl ready ↦ passes_there (is_process o.world is_ready) _ p (key_there o.world.processes p (ap is_some there)) (rw there ready)
      | inr unready ↦ absurd (none-some _ (rw unready at step))
    ]

there_is : (r : Option (OwnWorld × TraceItem)) → is_some r ≡ true → (y : OwnWorld × TraceItem) × (r ≡ Some y)
there_is None none = absurd (false≢true none)
there_is (Some y) some = (y, refl)

pub next_is : (lib : Library) (o mid : OwnWorld) (p : ℕ) (x : TraceItem) → IsOrdered o.world → own_step lib o p ≡ Some (mid, x)
    → next_in lib (own_rested o) p ≡ own_rested mid
next_is lib o mid p x ordered step =
    let rest = rested_steps lib o mid p x ordered step in
    ap (behind (own_rested o)) rest.1 ∙ rest.2

-- ---- all of them

-- own turns are turns of what counts, and lead to what counts of where they lead
pub turns_rest : (lib : Library) (turns : List ℕ) (o o2 : OwnWorld) → IsOrdered o.world → OwnTurns lib o turns o2
    → IsPath ready_in (next_in lib) (own_rested o) turns × (after ready_in (next_in lib) (own_rested o) turns ≡ own_rested o2)
unfolding IsPath after
turns_rest lib [] o o2 ordered same = (tt, ap own_rested (sym same))
turns_rest lib (p ∷ turns) o o2 ordered (mid, x, step, more) =
    let next = next_is lib o mid p x ordered step in
    let rest = turns_rest lib turns mid o2 (ordered_behind lib o mid p x ordered step) more in (
      (
        subst (λ ks. IsIn ks p) (sym (ready_same o)) (steps_ready lib o mid p x step),
        subst (λ s. IsPath ready_in (next_in lib) s turns) (sym next) rest.0,
      ),
      ap (λ s. after ready_in (next_in lib) s turns) next ∙ rest.1,
    )

-- and each order of turns of what counts is one of own turns
pub turns_are : (lib : Library) (turns : List ℕ) (o : OwnWorld) → IsOrdered o.world → IsPath ready_in (next_in lib) (own_rested o) turns
    → (o2 : OwnWorld) × OwnTurns lib o turns o2 × (own_rested o2 ≡ after ready_in (next_in lib) (own_rested o) turns)
unfolding IsPath after is_process
turns_are lib [] o ordered path = (o, refl, refl)
turns_are lib (p ∷ turns) o ordered (inside, path) =
    let ready = there_passes (is_process o.world is_ready) _ p (subst (λ ks. IsIn ks p) (ready_same o) inside) in
    let (y, step) = there_is (own_step lib o p) (own_step_there lib o p ready) in
    let next = next_is lib o y.0 p y.1 ordered step in
    let rest = turns_are lib turns y.0 (ordered_behind lib o y.0 p y.1 ordered step) (subst (λ s. IsPath ready_in (next_in lib) s turns) next path) in
    (rest.0, (y.0, y.1, step, rest.1), rest.2 ∙ ap (λ s. after ready_in (next_in lib) s turns) (sym next))
