-- A legal history that goes on by one item, and an item that differs.
use Rattle.zl_code.proofs.Common.{Library, MOST_ITEMS, Runs, Step, has_count, list_all-append, pid_of, single}
use Rattle.zl_code.specs.declared.boot.Statement.{Statement}
use Rattle.zl_trace.proofs.Common.{Differs, DiffersAt, IsReplayed, List, Machine, Repeats, Some, StepDiffers, TraceItem, [], another, ap, append-nil, arith}
use Rattle.zl_trace.proofs.Common.{at_drop_more, at_step, drop, flat_map, flat_map-append, get_or, inl, inr, length, length-take-le, refl, replicate, subst}
use Rattle.zl_trace.proofs.Common.{suc, sym, take, take-append-drop, take_more, zero, ℕ, ◌++◌, ◌+◌, ◌-◌, ◌<◌, ◌∙◌, ◌∷◌, ◌≡◌, ◌≢◌, ◌⊎◌}
use Rattle.zl_code.specs.Own.{OwnWorld}
use Rattle.zl_code.specs.OwnBoot.{own_boot}
use Rattle.zl_code.specs.OwnHistory.{OwnItem, OwnRuns}
use Rattle.zl_code.specs.OwnSteps.{own_step}
use Rattle.zl_calls.specs.Own.{StepsOwn}
use Rattle.zl_calls.specs.World.{own_here}
use Rattle.zl_sched.proofs.Legal.{own_then}
use Rattle.zl_code.specs.declared.history.TraceItem.TheVariants as item
use Rattle.zl_calls.specs.Steps.{StepsTo, TakesStep}
use Rattle.zl_code.proofs.AwakeRuns.{runs_joined}

-- ---- one item

pub differs_by : (m : Machine) (pid : ℕ) (x own : TraceItem) (m2 : Machine) → pid_of x ≡ pid → TakesStep m pid m2 own
    → StepsOwn m.programs (own_here m) pid own (own_here m2) → own ≢ x → StepDiffers m.programs (own_here m) x
differs_by m pid x own m2 is taken does other =
    another own (own_here m2) (subst (λ p. Step m.programs m.world p own m2.world) (taken.pid_is ∙ sym is) taken.steps.step)
    (subst (λ p. StepsOwn m.programs (own_here m) p own (own_here m2)) (sym is) does) other

pub differs_one : (lib : Library) (o : OwnWorld) (x : TraceItem) → single x ≡ x ∷ [] → StepDiffers lib o x → Differs lib o x
differs_one lib o x one differs = at_step [] o x [] one refl refl differs

-- ---- local instructions in a row

-- so many were done
pub record RanOn (pid : ℕ) (m : Machine) (n : ℕ) (m2 : Machine) : Type 0 where
  pub programs : m2.programs ≡ m.programs
  pub runs : Runs m.programs m.world (replicate n (item.Run pid 1)) m2.world
  pub own : OwnRuns m.programs (own_here m) (replicate n (item.Run pid 1)) (own_here m2)

one_longer : {X : Type 0} (n : ℕ) (x : X) → replicate n x ++ (x ∷ []) ≡ replicate (n + 1) x
one_longer zero x = refl
one_longer (suc n) x = let e : suc n + 1 ≡ suc (n + 1) = omega arith in rw e (ap (λ (l : List _). x ∷ l) (one_longer n x))

-- a list of one thing, cut before one of them
cut_before : {X : Type 0} (n k : ℕ) (x : X) → k < n → replicate n x ≡ replicate k x ++ (x ∷ replicate (n - (k + 1)) x)
cut_before zero k x below = absurd (omega arith)
cut_before (suc n) zero x below = let e : suc n - 1 ≡ n = omega arith in rw e refl
cut_before (suc n) (suc k) x below =
    let e : suc n - (suc k + 1) ≡ n - (k + 1) = omega arith in rw e (ap (λ (l : List _). x ∷ l) (cut_before n k x (omega arith)))

-- one more step of the lab
own_more : (lib : Library) (o mid o2 : OwnWorld) (xs : List TraceItem) (x : TraceItem) → OwnRuns lib o xs mid → own_step lib mid (pid_of x) ≡ Some (o2, x)
    → OwnRuns lib o (xs ++ (x ∷ [])) o2
own_more lib o mid o2 [] x same step = (o2, subst (λ (v : OwnWorld). own_step lib v (pid_of x) ≡ Some (o2, x)) same step, refl)
own_more lib o mid o2 (y ∷ xs) x (first, one, rest) step = (first, one, own_more lib first mid o2 xs x rest step)

pub one_more_ran : (pid : ℕ) (m : Machine) (n : ℕ) (m2 m3 : Machine) → RanOn pid m n m2 → StepsTo m2 (item.Run pid 1) m3
    → StepsOwn m2.programs (own_here m2) pid (item.Run pid 1) (own_here m3) → RanOn pid m (n + 1) m3
one_more_ran pid m n m2 m3 ran steps own = record {
  own = subst (λ (items : List TraceItem). OwnRuns m.programs (own_here m) items (own_here m3)) (one_longer n (item.Run pid 1))
      (own_more m.programs (own_here m) (own_here m2) (own_here m3) (replicate n (item.Run pid 1)) (item.Run pid 1) ran.own
      (subst (λ lib. own_step lib (own_here m2) pid ≡ Some (own_here m3, item.Run pid 1)) ran.programs (own refl)));
  programs = steps.programs ∙ ran.programs;
  runs = subst (λ (items : List TraceItem). Runs m.programs m.world items m3.world) (one_longer n (item.Run pid 1))
      (runs_joined m.programs m.world (replicate n (item.Run pid 1)) m2.world (item.Run pid 1 ∷ []) m3.world ran.runs
      (m3.world, subst (λ lib. Step lib m2.world pid (item.Run pid 1) m3.world) ran.programs steps.step, refl));
}

pub differs_after : (pid : ℕ) (m : Machine) (n count : ℕ) (m2 : Machine) → n < count → RanOn pid m n m2 → StepDiffers m2.programs (own_here m2) (item.Run pid 1)
    → Differs m.programs (own_here m) (item.Run pid count)
differs_after pid m n count m2 below ran differs =
    at_step (replicate n (item.Run pid 1)) (own_here m2) (item.Run pid 1) (replicate (count - (n + 1)) (item.Run pid 1))
    (cut_before count n (item.Run pid 1) below) ran.runs ran.own
    (subst (λ lib. StepDiffers lib (own_here m2) (item.Run pid 1)) ran.programs differs)

-- ---- many items

module _ (lib : Library) (statements : List Statement) (limit : ℕ) where
  pub one_more : (items : List TraceItem) (m : Machine) (x : TraceItem) (m2 : Machine) → IsReplayed lib statements limit items m → Repeats m x m2
      → IsReplayed lib statements limit (items ++ (x ∷ [])) m2
  one_more items m x m2 replayed repeats =
      let steps : flat_map single items ++ single x ≡ flat_map single (items ++ (x ∷ [])) =
      ap (λ (more : List TraceItem). flat_map single items ++ more) (sym (append-nil (single x))) ∙ sym (flat_map-append single items (x ∷ [])) in
      let more : Runs lib m.world (single x) m2.world = subst (λ v. Runs v m.world (single x) m2.world) replayed.programs repeats.runs in
      record {
        programs = repeats.programs ∙ replayed.programs;
        boot = replayed.boot;
        boots = replayed.boots;
        sized = replayed.sized;
        begins = replayed.begins;
        own = own_then lib (own_boot lib statements) (own_here m) (own_here m2) items (x ∷ []) replayed.own
            (own_here m2, subst (λ v. OwnItem v (own_here m) x (own_here m2)) replayed.programs repeats.own, refl);
        legal = record {
          counts = rw (list_all-append has_count items (x ∷ []), replayed.legal.counts, repeats.count) refl;
          run = subst (λ (run : List TraceItem). Runs lib replayed.boot run m2.world) steps
              (runs_joined lib replayed.boot (flat_map single items) m.world (single x) m2.world replayed.legal.run more);
        };
      }

  -- an item differs, or there are too many
  pub differs_here : (all before after : List TraceItem) (x : TraceItem) (m : Machine) → all ≡ before ++ (x ∷ after) → IsReplayed lib statements limit before m
      → Differs m.programs (own_here m) x ⊎ (length before ≡ MOST_ITEMS) → DiffersAt lib statements limit all (length before + 1)
  differs_here all before after x m cut replayed why = record {
    before = before;
    item = x;
    after = after;
    are_all = cut;
    number = refl;
    machine = m;
    replayed = replayed;
    differs = elim why [ inl differs ↦ inl (subst (λ v. Differs v (own_here m) x) replayed.programs differs) | inr many ↦ inr many ];
  }

  -- the item at this place comes next
  pub next_replayed : (items : List TraceItem) (n : ℕ) (d : TraceItem) (m m2 : Machine) → n < length items → IsReplayed lib statements limit (take n items) m
      → Repeats m (get_or items n d) m2 → IsReplayed lib statements limit (take (n + 1) items) m2
  next_replayed items n d m m2 within replayed repeats =
      subst (λ front. IsReplayed lib statements limit front m2) (sym (take_more items n d within))
      (one_more (take n items) m (get_or items n d) m2 replayed repeats)

  pub differs_at : (items : List TraceItem) (n : ℕ) (d : TraceItem) (m : Machine) → n < length items → IsReplayed lib statements limit (take n items) m
      → Differs m.programs (own_here m) (get_or items n d) ⊎ (n ≡ MOST_ITEMS) → DiffersAt lib statements limit items (n + 1)
  differs_at items n d m within replayed why =
      let next : drop n items ≡ get_or items n d ∷ drop (n + 1) items = at_drop_more (λ (l : List TraceItem). l) items n d within in
      let cut : items ≡ take n items ++ (get_or items n d ∷ drop (n + 1) items) =
      sym (take-append-drop n items) ∙ ap (λ (rest : List TraceItem). take n items ++ rest) next in
      let long : length (take n items) ≡ n = length-take-le n items (omega arith) in
      subst (λ k. DiffersAt lib statements limit items (k + 1)) long
      (differs_here items (take n items) (drop (n + 1) items) (get_or items n d) m cut replayed (elim why [
        | inl differs ↦ inl differs
        | inr many ↦ inr (long ∙ many)
      ]))
