-- A step of one process leaves the marks of the others what they are: who has one is ready or has ended, and doesn't become ready.
use Rattle.zl_sched.proofs.Common.{Bool, Created, Ended, IsSound, IsTrue, Library, None, Option, Process, Ready, Some, State, Step, TraceItem, World, ap, false}
use Rattle.zl_sched.proofs.Common.{false≢true, get, get-update, if◌then◌else◌, is_process, is_ready, is_ready_or_over, lives, on_process, option_map, refl}
use Rattle.zl_sched.proofs.Common.{state_passes, sym, true, ℕ, ◌==◌, ◌∙◌, ◌≡◌}
use Rattle.zl_rights.specs.Signals.{has_ended}
use Rattle.zl_code.specs.Frame.{OthersMake, left_alone, woken, was_started, was_killed, dropped}
use Rattle.zl_code.proofs.Frame.{step_leaves_others}
use Rattle.zl_verify.proofs.Others.{over_after_act}
use Rattle.zl_verify.proofs.Ended.{ended_still}

-- what was y is ready or over, and ready only if it was
abbrev Stays : Process → Option Process → Type 0
Stays y o = IsTrue (state_passes is_ready_or_over o) × (state_passes is_ready o ≡ true → is_ready y.state ≡ true)

-- what others make of a ready process
by_others : (y : Process) → y.state ≡ Ready → (z : Process) → OthersMake y z → Stays y (Some z)
by_others y is z (left_alone same) = (ap is_ready_or_over (ap (λ (q : Process). q.state) same ∙ is), λ h. ap is_ready is)
by_others y is z (woken awaited ds values blocked same) = absurd (false≢true (sym (ap is_ready blocked) ∙ ap is_ready is))
by_others y is z (was_started e v word created same) = absurd (false≢true (sym (ap is_ready created) ∙ ap is_ready is))
by_others y is z (was_killed same) = (ap is_ready_or_over (ap (λ (q : Process). q.state) same), λ h. ap is_ready is)
by_others y is z (dropped created same) = absurd (false≢true (sym (ap is_ready created) ∙ ap is_ready is))

module _ (lib : Library) (w : World) (p : ℕ) (x : TraceItem) (after : World) (sound : IsSound w) (step : Step lib w p x after) (k : ℕ)
    (apart : (p == k) ≡ false) where
  by_state : (y : Process) → get w.processes k ≡ Some y → (l : State) → y.state ≡ l → IsTrue (is_ready_or_over l) → Stays y (get after.processes k)
  by_state y at Ready is passes =
      let others = (step_leaves_others lib w p x after sound step).processes k y apart at (ap lives is) in
      rw others.1 (by_others y is others.0 others.2)
  by_state y at (Ended code) is passes =
      let still : get after.processes k ≡ Some y = ended_still k y (ap has_ended is) lib w p x after step
      (over_after_act lib w p x after sound step k y apart at (ap has_ended is)) in
      rw still (ap is_ready_or_over is, λ h. h)
  by_state y at Created is passes = absurd (false≢true passes)
  by_state y at _ is passes = absurd (false≢true passes)

  pub marked_stays : IsTrue (is_process w is_ready_or_over k)
      → IsTrue (is_process after is_ready_or_over k) × (is_process after is_ready k ≡ true → is_process w is_ready k ≡ true)
  unfolding is_process
  marked_stays passes = by_process (get w.processes k) refl passes
    where
      by_process : (o : Option Process) → get w.processes k ≡ o → IsTrue (state_passes is_ready_or_over o)
          → IsTrue (state_passes is_ready_or_over (get after.processes k)) × (state_passes is_ready (get after.processes k) ≡ true
          → state_passes is_ready o ≡ true)
      by_process None at passes = absurd (false≢true passes)
      by_process (Some y) at passes = by_state y at y.state refl passes

-- ---- who has a mark

pub marked_known : (w : World) (k : ℕ) → get w.processes k ≡ None → is_process w is_ready_or_over k ≡ false
unfolding is_process
marked_known w k free = ap (state_passes is_ready_or_over) free

-- one that lives is ready, and one that doesn't isn't
state_over : (l : State) → is_ready_or_over l ≡ true → is_ready l ≡ false → lives l ≡ false
state_over Ready passes busy = absurd (false≢true (sym busy))
state_over (Ended code) passes busy = refl
state_over _ passes busy = absurd (false≢true passes)

pub over_or_ready : (w : World) (k : ℕ) → IsTrue (is_process w is_ready_or_over k) → is_process w is_ready k ≡ false → is_process w lives k ≡ false
unfolding is_process
over_or_ready w k passes busy = by (get w.processes k) passes busy
  where
    by : (o : Option Process) → state_passes is_ready_or_over o ≡ true → state_passes is_ready o ≡ false → state_passes lives o ≡ false
    by None passes busy = refl
    by (Some y) passes busy = state_over y.state passes busy

state_passes_too : (l : State) → is_ready l ≡ true → is_ready_or_over l ≡ true
state_passes_too Ready is = refl
state_passes_too (Ended code) is = refl
state_passes_too _ is = is

pub ready_passes : (w : World) (k : ℕ) → is_process w is_ready k ≡ true → IsTrue (is_process w is_ready_or_over k)
unfolding is_process
ready_passes w k is = by (get w.processes k) is
  where
    by : (o : Option Process) → state_passes is_ready o ≡ true → state_passes is_ready_or_over o ≡ true
    by None is = is
    by (Some y) is = state_passes_too y.state is

state_ready : (l : State) → lives l ≡ false → is_ready l ≡ false
state_ready Ready over = absurd (false≢true (sym over))
state_ready _ over = refl

pub over_not_ready : (w : World) (k : ℕ) → is_process w lives k ≡ false → is_process w is_ready k ≡ false
unfolding is_process
over_not_ready w k over = by (get w.processes k) over
  where
    by : (o : Option Process) → state_passes lives o ≡ false → state_passes is_ready o ≡ false
    by None over = refl
    by (Some y) over = state_ready y.state over

-- ---- a process that goes on by itself keeps its state

pub state_kept : (w : World) (p : ℕ) (f : Process → Process) → ((y : Process) → (f y).state ≡ y.state) → (test : State → Bool) (k : ℕ)
    → is_process (on_process w p f) test k ≡ is_process w test k
unfolding is_process on_process
state_kept w p f keeps test k = rw (get-update w.processes p f k) (by_test (p == k) (get w.processes k))
  where
    by_test : (b : Bool) (o : Option Process) → state_passes test (if b then option_map f o else o) ≡ state_passes test o
    by_test false o = refl
    by_test true None = refl
    by_test true (Some y) = ap test (keeps y)

pub place_still : (w : World) (p : ℕ) (f : Process → Process) (k : ℕ) → get w.processes k ≡ None → get (on_process w p f).processes k ≡ None
unfolding on_process
place_still w p f k free = get-update w.processes p f k ∙ rw free (by_test (p == k))
  where
    by_test : (b : Bool) → (if b then option_map f None else None) ≡ None
    by_test false = refl
    by_test true = refl
