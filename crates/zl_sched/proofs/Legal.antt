-- What follows a schedule is a legal history, and a legal history with one step more is one.
use Rattle.zl_sched.proofs.Common.{Acts, AtCall, Bool, CallName, End, EndsBy, Follows, IsLegal, IsLegalHistory, IsStuck, IsTrue, Library, List, Moves, Next}
use Rattle.zl_sched.proofs.Common.{RunsHere, Step, System, TraceItem, World, [], ap, append-nil, arith, cases_Bool, false, flat_map, flat_map-append, goes}
use Rattle.zl_sched.proofs.Common.{halts, if◌then◌else◌, inl, inr, length-append, list_all, nat_lt, nat_tests, next_for, pid_of, refl, replicate, run_items}
use Rattle.zl_sched.proofs.Common.{single, skips, subst, suc, sym, true, zero, ℕ, ◌++◌, ◌==◌, ◌∙◌, ◌∷◌, ◌≡◌, ◌⊎◌}
use Rattle.std.proofs.lemmas.List.Folds.{list_all-append}
use Rattle.zl_code.specs.declared.history.TraceItem.TheVariants as item
use Rattle.zl_code.specs.Own.{OwnWorld}
use Rattle.zl_code.specs.OwnHistory.{OwnHistory, OwnItem, as_own, as_run, as_want, tells_want}
use Rattle.zl_code.specs.Steps.{has_count, Runs}
use Rattle.zl_calls.specs.Own.{StepsOwn}
use Rattle.zl_calls.specs.World.{own_here}
use Rattle.zl_sched.specs.declared.system.End.TheVariants as end

-- the item of one step
record IsSingle (p : ℕ) (x : TraceItem) : Type 0 where
  of : pid_of x ≡ p
  one : single x ≡ x ∷ []
  count : IsTrue (has_count x)

single_run : (p : ℕ) (x : TraceItem) → x ≡ item.Run p 1 → IsSingle p x
single_run p x is = subst (IsSingle p) (sym is) (record { of = refl; one = refl; count = refl })

single_call : (p : ℕ) (x : TraceItem) (call : CallName) (o : _) → x ≡ item.Call p call o → IsSingle p x
single_call p x call o is = subst (IsSingle p) (sym is) (record { of = refl; one = refl; count = refl })

single_stuck : (p : ℕ) (x : TraceItem) → x ≡ item.Stuck p → IsSingle p x
single_stuck p x is = subst (IsSingle p) (sym is) (record { of = refl; one = refl; count = refl })

single_acts : (lib : Library) (w : World) (p : ℕ) (next : Next) (x : TraceItem) (w2 : World) → Acts lib w p next x w2 → IsSingle p x
single_acts lib w p (Moves c) x w2 acts = single_run p x acts.0
single_acts lib w p (AtCall call s) x w2 acts = single_call p x call acts.0 acts.1
single_acts lib w p IsStuck x w2 acts = single_stuck p x acts.0

single_step : (lib : Library) (w : World) (p : ℕ) (x : TraceItem) (w2 : World) → Step lib w p x w2 → IsSingle p x
single_step lib w p x w2 step = single_acts lib w p (next_for lib step.process) x step.acted step.acts

pub follows_legal : (lib : Library) (w : World) (turns : List ℕ) (items : List TraceItem) (w2 : World) → Follows lib w turns items w2
    → IsLegalHistory lib w items w2
follows_legal lib _ _ _ _ (halts w) = record { counts = refl; run = refl }
follows_legal lib _ _ _ _ (skips w w2 p turns items not_ready rest) = follows_legal lib w turns items w2 rest
follows_legal lib _ _ _ _ (goes w mid w2 p x turns items ready step rest) =
    let one : IsSingle p x = single_step lib w p x mid step in
    let later : IsLegalHistory lib mid items w2 = follows_legal lib mid turns items w2 rest in
    record { counts = rw (one.count) later.counts; run = rw (one.one) (mid, rw (one.of) step, later.run) }

pub ends_legal : (lib : Library) (w : World) (turns : List ℕ) (limit : ℕ) (items : List TraceItem) (w2 : World) (e : End) → EndsBy lib w turns limit items w2 e
    → IsLegalHistory lib w items w2
ends_legal lib w turns limit items w2 end.Schedule follows = follows_legal lib w turns items w2 follows
ends_legal lib w turns limit items w2 end.Limit stops = follows_legal lib w stops.0.taken items w2 stops.0.follows
ends_legal lib w turns limit items w2 end.Memory stops = follows_legal lib w stops.0.taken items w2 stops.0.follows
ends_legal lib w turns limit items w2 end.Quiet never = absurd never

-- ---- one step more

one_more : (lib : Library) (boot : World) (items : List TraceItem) (w : World) (x : TraceItem) (mid : World) → Runs lib boot items w
    → Step lib w (pid_of x) x mid → Runs lib boot (items ++ (x ∷ [])) mid
one_more lib boot [] w x mid e step = (mid, subst (λ v. Step lib v (pid_of x) x mid) e step, refl)
one_more lib boot (y ∷ items) w x mid (first, before, rest) step = (first, before, one_more lib first items w x mid rest step)

counts_more : (items : List TraceItem) (x : TraceItem) → IsTrue (list_all has_count items) → IsTrue (has_count x)
    → IsTrue (list_all has_count (items ++ (x ∷ [])))
counts_more items x all one = rw (list_all-append has_count items (x ∷ []), all, one) refl

history_more : (lib : Library) (boot w mid : World) (items : List TraceItem) (p : ℕ) (x : TraceItem) → IsLegalHistory lib boot items w → Step lib w p x mid
    → IsLegalHistory lib boot (items ++ (x ∷ [])) mid
history_more lib boot w mid items p x legal step =
    let one : IsSingle p x = single_step lib w p x mid step in
    let steps : flat_map single items ++ (x ∷ []) ≡ flat_map single (items ++ (x ∷ []))
    = ap (λ (more : List TraceItem). flat_map single items ++ more) (sym (append-nil (single x) ∙ one.one)) ∙ sym (flat_map-append single items (x ∷ [])) in
    record {
      counts = counts_more items x legal.counts one.count;
      run = subst (λ (run : List TraceItem). Runs lib boot run mid) steps (one_more lib boot (flat_map single items) w x mid legal.run (rw one.of step));
    }

-- ---- one history after another

both_run : (lib : Library) (w : World) (xs : List TraceItem) (mid : World) (ys : List TraceItem) (w2 : World) → Runs lib w xs mid → Runs lib mid ys w2
    → Runs lib w (xs ++ ys) w2
both_run lib w [] mid ys w2 e rest = subst (λ v. Runs lib v ys w2) e rest
both_run lib w (x ∷ xs) mid ys w2 (first, step, runs) rest = (first, step, both_run lib first xs mid ys w2 runs rest)

pub history_then : (lib : Library) (boot w w2 : World) (items more : List TraceItem) → IsLegalHistory lib boot items w → IsLegalHistory lib w more w2
    → IsLegalHistory lib boot (items ++ more) w2
history_then lib boot w w2 items more one two = record {
  counts = rw (list_all-append has_count items more, one.counts, two.counts) refl;
  run = subst (λ (steps : List TraceItem). Runs lib boot steps w2) (sym (flat_map-append single items more))
      (both_run lib boot (flat_map single items) w (flat_map single more) w2 one.run two.run);
}

pub nothing_legal : (lib : Library) (w w2 : World) → w2 ≡ w → IsLegalHistory lib w [] w2
nothing_legal lib w w2 same = record { counts = refl; run = same }

pub step_legal : (lib : Library) (w : World) (p : ℕ) (x : TraceItem) (w2 : World) → Step lib w p x w2 → IsLegalHistory lib w (x ∷ []) w2
step_legal lib w p x w2 step = history_more lib w w w2 [] p x (nothing_legal lib w w refl) step

-- local instructions in a row, in one item
pub run_legal : (lib : Library) (w : World) (p n : ℕ) (w2 : World) → Runs lib w (replicate n (item.Run p 1)) w2 → IsLegalHistory lib w (run_items p n) w2
run_legal lib w p zero w2 runs = nothing_legal lib w w2 runs
run_legal lib w p (suc n) w2 runs =
    let some : (suc n == 0) ≡ false = grind (arith, nat_tests) in
    let counted : nat_lt 0 (suc n) ≡ true = grind (arith, nat_tests) in
    subst (λ (none : Bool). IsLegalHistory lib w (if none then [] else (item.Run p (suc n) ∷ [])) w2) (sym some)
    (record {
      counts = rw counted refl;
      run = subst (λ (steps : List TraceItem). Runs lib w steps w2) (sym (append-nil (replicate (suc n) (item.Run p 1)))) runs;
    })

-- ---- the lab's own history

-- a step of the lab is an item of it
pub own_item : (lib : Library) (o : OwnWorld) (p : ℕ) (x : TraceItem) (o2 : OwnWorld) → pid_of x ≡ p → Step lib o.world (pid_of x) x o2.world
    → StepsOwn lib o p x o2 → OwnItem lib o x o2
own_item lib o p x o2 of step own = by_want (cases_Bool (tells_want x))
  where
    by_want : (IsTrue (tells_want x)) ⊎ (tells_want x ≡ false) → OwnItem lib o x o2
    by_want (inl wanted) = as_want wanted step
    by_want (inr plain) = as_own (rw (single_step lib o.world (pid_of x) x o2.world step).one (o2, rw of (own plain), refl))

pub own_then : (lib : Library) (o mid o2 : OwnWorld) (items more : List TraceItem) → OwnHistory lib o items mid → OwnHistory lib mid more o2
    → OwnHistory lib o (items ++ more) o2
own_then lib o mid o2 [] more same rest = subst (λ (v : OwnWorld). OwnHistory lib v more o2) same rest
own_then lib o mid o2 (x ∷ items) more (first, one, later) rest = (first, one, own_then lib first mid o2 items more later rest)

-- local instructions in a row, in one item
pub own_run : (lib : Library) (o : OwnWorld) (p n : ℕ) (w2 : World) → Runs lib o.world (replicate n (item.Run p 1)) w2
    → OwnHistory lib o (run_items p n) (record o { world = w2 })
own_run lib o p zero w2 ran = ap (λ (w : World). record o { world = w }) ran
own_run lib o p (suc n) w2 ran =
    let some : (suc n == 0) ≡ false = grind (arith, nat_tests) in
    subst (λ (none : Bool). OwnHistory lib o (if none then [] else (item.Run p (suc n) ∷ [])) (record o { world = w2 })) (sym some)
    (record o { world = w2 }, as_run refl ran refl, refl)

pub own_ran : (s : System) (p : ℕ) (s2 : System) (runs : RunsHere s p s2) → OwnItem s.machine.programs (own_here s.machine) runs.item (own_here s2.machine)
own_ran s p s2 runs =
    let of = (single_step s.machine.programs s.machine.world p runs.item s2.machine.world runs.step).of in
    own_item s.machine.programs (own_here s.machine) p runs.item (own_here s2.machine) of (rw of runs.step) runs.own

-- a step of one that is legal
pub legal_more : (s : System) (p : ℕ) (s2 : System) → IsLegal s → RunsHere s p s2 → IsLegal s2
legal_more s p s2 legal runs = rw (runs.adds.programs, runs.adds.items, runs.adds.statements, runs.adds.limit) (record {
  boot = legal.boot;
  boots = legal.boots;
  sized = legal.sized;
  history = history_more s.machine.programs legal.boot s.machine.world s2.machine.world s.items p runs.item legal.history runs.step;
  begins = legal.begins;
  own = own_then s.machine.programs _ (own_here s.machine) (own_here s2.machine) s.items (runs.item ∷ []) legal.own
      (own_here s2.machine, own_ran s p s2 runs, refl);
  room = omega (arith, length-append s.items (runs.item ∷ []), runs.room);
})
