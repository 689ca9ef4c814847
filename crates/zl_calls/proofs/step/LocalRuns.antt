-- Local instructions in a row are steps, one after another, where what a process computes with neither holds an object nor wakes anybody.
use Rattle.zl_calls.proofs.Common.{AtCall, Cpu, IsStuck, Library, List, Map, Moves, Next, None, Option, ProcessValue, Program, Ready, Runs, Settles, Some, Step}
use Rattle.zl_calls.proofs.Common.{TraceItem, World, [], after_locals, ap, cases_Bool, eq-eqb, eqb-true, get, get-update, inl, inr, next_at, none-some}
use Rattle.zl_calls.proofs.Common.{on_process, pid_of, refl, replicate, same_Some, slice_get, subst, suc, sym, update, wakes, zero, ℕ, ◌++◌, ◌==◌, ◌∙◌, ◌∷◌}
use Rattle.zl_calls.proofs.Common.{◌≡◌}
use Rattle.zl_code.specs.declared.history.TraceItem.TheVariants as item
use Rattle.zl_interp.specs.Bursts.{moved_to, then_moved}
use Rattle.zl_code.proofs.AwakeRuns.{runs_joined}
use Rattle.zl_calls.proofs.lists.Updates.{update_twice}

-- ---- maps

module _ {X : Type 0} where
  -- a change that leaves what is there leaves all
  update_same : (m : Map X) (k : ℕ) (f : X → X) (x : X) → get m k ≡ Some x → f x ≡ x → update m k f ≡ m
  unfolding get update
  update_same [] k f x there same = refl
  update_same (e ∷ m) k f x there same = elim (cases_Bool (e.0 == k)) as (λ _. update (e ∷ m) k f ≡ e ∷ m) [
    | inl here ↦
        let is : e.1 ≡ x = same_Some e.1 x (rw here at there) in
        let stays : f e.1 ≡ e.1 = ap f is ∙ (same ∙ sym is) in
        rw here (λ i. (sym (eqb-true e.0 k here) i, stays i) ∷ m)
    | inr apart ↦ rw apart (ap (λ (rest : Map X). e ∷ rest) (update_same m k f x (rw apart at there) same))
  ]

-- ---- runs

last_one : (n : ℕ) (x : TraceItem) → replicate n x ++ (x ∷ []) ≡ replicate (suc n) x
last_one zero x = refl
last_one (suc n) x = ap (λ (xs : List TraceItem). x ∷ xs) (last_one n x)

module _ (lib : Library) where
  -- what each step keeps, a run keeps
  pub along : (P : World → Type 0) → ((w : World) (p : ℕ) (x : TraceItem) (w2 : World) → P w → Step lib w p x w2 → P w2)
      → (w : World) (xs : List TraceItem) (w2 : World) → P w → Runs lib w xs w2 → P w2
  along P keeps w [] w2 h e = rw e h
  along P keeps w (x ∷ xs) w2 h (mid, step, rest) = along P keeps mid xs w2 (keeps w (pid_of x) x mid h step) rest

-- ---- local steps

moves_there : (n : Next) (d : Cpu) → moved_to n ≡ Some d → n ≡ Moves d
moves_there (Moves c) d e = ap Moves (same_Some c d e)
moves_there (AtCall call s) d e = absurd (none-some d e)
moves_there IsStuck d e = absurd (none-some d e)

-- the process p of w is ready, and runs this program
module _ (lib : Library) (w : World) (p : ℕ) (q : ProcessValue) (there : get w.processes p ≡ Some q) (ready : q.state ≡ Ready) (g : Program)
    (runs : slice_get lib q.program ≡ Some g) where
  -- the world where it has this Cpu
  abbrev pub at : Cpu → World
  at c = on_process w p (λ x. record x { cpu = c })

  -- in each of these worlds all is held, and nothing is due
  module _ (rests : (c : Cpu) → Settles (at c) (at c)) (awake : (c : Cpu) → wakes (at c) ≡ at c) where
    stands_at : (c : Cpu) → get (at c).processes p ≡ Some (record q { cpu = c })
    unfolding on_process
    stands_at c = get-update w.processes p (λ x. record x { cpu = c }) p ∙ rw (eq-eqb p p refl, there) refl

    at_twice : (c d : Cpu) → at d ≡ on_process (at c) p (λ x. record x { cpu = d })
    unfolding on_process
    at_twice c d = λ i. record w { processes = sym (update_twice w.processes p (λ x. record x { cpu = c }) (λ x. record x { cpu = d })) i }

    begins : (d : Cpu) → q.cpu ≡ d → at d ≡ w
    unfolding on_process
    begins d same = λ i. record w {
      processes = update_same w.processes p (λ x. record x { cpu = d }) q there
          (ap (λ (c : Cpu). record q { cpu = c }) (sym same)) i;
    }

    one_step : (c d : Cpu) → next_at g.image c ≡ Moves d → Step lib (at c) p (item.Run p 1) (at d)
    one_step c d next = record {
      process = record q { cpu = c };
      is_there = stands_at c;
      is_ready = ready;
      acted = at d;
      acts = rw (runs, next) (refl, at_twice c d);
      settled = at d;
      settles = rests d;
      ends_awake = sym (awake d);
    }

    -- the Cpu to which so many local instructions lead is that of its process after as many steps
    pub locals_run : (n : ℕ) (d : Cpu) → after_locals g.image n q.cpu ≡ Some d → Runs lib w (replicate n (item.Run p 1)) (at d)
    locals_run zero d e = begins d (same_Some q.cpu d e)
    locals_run (suc n) d e = by (after_locals g.image n q.cpu) refl e (λ c is. locals_run n c is)
      where
        by : (o : Option Cpu) → after_locals g.image n q.cpu ≡ o → then_moved g.image o ≡ Some d
            → ((c : Cpu) → after_locals g.image n q.cpu ≡ Some c → Runs lib w (replicate n (item.Run p 1)) (at c))
            → Runs lib w (replicate (suc n) (item.Run p 1)) (at d)
        by None is e before = absurd (none-some d e)
        by (Some c) is e before =
            subst (λ (xs : List TraceItem). Runs lib w xs (at d)) (last_one n (item.Run p 1))
            (runs_joined lib w (replicate n (item.Run p 1)) (at c) (item.Run p 1 ∷ []) (at d) (before c is)
            (at d, one_step c d (moves_there (next_at g.image c) d e), refl))
