-- What is handed in is a legal history more, and the list with its marks behind it is that of the definitions and has room.
use Rattle.zl_sched.proofs.Common.{Accepts, Bool, Changes, Done, Ends, GoesFrom, HasRoom, IsAwaited, IsLegalHistory, IsSound, IsTold, IsWhole, List}
use Rattle.zl_sched.proofs.Common.{Listed, Machine, None, State, System, TraceItem, [], advanced, ap, arith, killed_of, Told, false, get, if◌then◌else◌, is_in}
use Rattle.zl_sched.proofs.Common.{is_more, is_process, is_ready, length, length-append, lives, others_of, pid_of, put_back, queued_after, refl, requeued}
use Rattle.zl_sched.proofs.Common.{run_items, run_sound, step_sound, subst, sym, times_in, true, unmarked, ℕ, ◌++◌, ◌+◌, ◌==◌, ◌∙◌, ◌∷◌, ◌≡◌, ◌≤◌}
use Rattle.zl_code.specs.declared.history.TraceItem.TheVariants as item
use Rattle.zl_calls.specs.declared.told.Told.TheVariants as said
use Rattle.zl_sched.proofs.ReadyChange.{IsChanged, changed, changed_from, unchanged}
use Rattle.zl_sched.proofs.Fresh.{made_not_ready}
use Rattle.zl_code.specs.OwnBoot.{own_boot}
use Rattle.zl_code.specs.OwnHistory.{OwnHistory}
use Rattle.zl_calls.specs.World.{own_here}
use Rattle.zl_sched.proofs.Legal.{history_then, nothing_legal, own_item, own_run, own_then, run_legal, step_legal}
use Rattle.zl_sched.proofs.MarksKept.{state_kept, place_still}
use Rattle.zl_sched.proofs.MarksMoved.{OthersStay, others_left, step_stays, local_stays, stays_then, before, after_listed, after_room, not_listed, takes_listed}
use Rattle.zl_sched.proofs.MarksMoved.{forgets_listed, puts_back_listed}
use Rattle.zl_sched.proofs.Common.{TellsKilled}
use Rattle.zl_sched.proofs.Marked.{listed_once}
use Rattle.zl_sched.proofs.Queued.{Before, requeued_is, told}

-- ---- the list and the marks alone change

module _ (s : System) (whole : IsWhole s) (p : ℕ) where
  with_lists : (ready2 out2 : List ℕ) → Listed s.machine.world ready2 out2 → IsWhole (record s { ready = ready2; out = out2 })
  with_lists ready2 out2 listed = record {
    legal = record {
      boot = whole.legal.boot;
      boots = whole.legal.boots;
      sized = whole.legal.sized;
      history = whole.legal.history;
      begins = whole.legal.begins;
      own = whole.legal.own;
      room = whole.legal.room;
    };
    listed = listed;
  }

  pub takes_whole : (rest : List ℕ) → s.ready ≡ p ∷ rest → IsWhole (record s { ready = rest; out = s.out ++ (p ∷ []) })
  takes_whole rest first = with_lists rest (s.out ++ (p ∷ [])) (takes_listed s.machine.world s.ready s.out whole.listed p rest first)

  pub forgets_whole : is_process s.machine.world lives p ≡ false → IsWhole (unmarked s p)
  forgets_whole over = with_lists s.ready (others_of p s.out) (forgets_listed s.machine.world s.ready s.out whole.listed p over)

  pub puts_back_whole : is_in p s.out ≡ true → is_process s.machine.world is_ready p ≡ true → IsWhole (put_back s p)
  puts_back_whole marked is = with_lists (s.ready ++ (p ∷ [])) (others_of p s.out) (puts_back_listed s.machine.world s.ready s.out whole.listed p marked is)

-- ---- the history

ends_legal : (more : Bool) (m : Machine) (p : ℕ) (last : List TraceItem) (m2 : Machine) → Ends more m p last m2
    → IsLegalHistory m.programs m.world last m2.world
ends_legal true m p last m2 (none, same) = subst (λ (xs : List TraceItem). IsLegalHistory m.programs m.world xs m2.world) (sym none)
    (nothing_legal m.programs m.world m2.world (ap (λ (x : Machine). x.world) same))
ends_legal false m p last m2 (x, is, taken, own) =
    subst (λ (xs : List TraceItem). IsLegalHistory m.programs m.world xs m2.world) (sym is)
    (step_legal m.programs m.world (pid_of x) x m2.world taken.steps.step)

ends_own : (more : Bool) (m : Machine) (p : ℕ) (last : List TraceItem) (m2 : Machine) → Ends more m p last m2
    → OwnHistory m.programs (own_here m) last (own_here m2)
ends_own true m p last m2 (none, same) = subst (λ (xs : List TraceItem). OwnHistory m.programs (own_here m) xs (own_here m2)) (sym none) (ap own_here same)
ends_own false m p last m2 (x, is, taken, own) =
    subst (λ (xs : List TraceItem). OwnHistory m.programs (own_here m) xs (own_here m2)) (sym is)
    (own_here m2, own_item m.programs (own_here m) p x (own_here m2) taken.pid_is taken.steps.step own, refl)

ends_programs : (more : Bool) (m : Machine) (p : ℕ) (last : List TraceItem) (m2 : Machine) → Ends more m p last m2 → m2.programs ≡ m.programs
ends_programs true m p last m2 (none, same) = ap (λ (x : Machine). x.programs) same
ends_programs false m p last m2 (x, is, taken, own) = taken.steps.programs

ends_sound : (more : Bool) (m : Machine) (p : ℕ) (last : List TraceItem) (m2 : Machine) → IsSound m.world → Ends more m p last m2 → IsSound m2.world
ends_sound true m p last m2 sound (none, same) = subst (λ (x : Machine). IsSound x.world) (sym same) sound
ends_sound false m p last m2 sound (x, is, taken, own) = step_sound m.programs m.world (pid_of x) x m2.world sound taken.steps.step

ends_stay : (more : Bool) (m : Machine) (p : ℕ) (last : List TraceItem) (m2 : Machine) → IsSound m.world → Ends more m p last m2 → OthersStay m.world p m2.world
ends_stay true m p last m2 sound (none, same) = subst (λ (x : Machine). OthersStay m.world p x.world) (sym same) (λ k apart passes. (passes, λ now. now))
ends_stay false m p last m2 sound (x, is, taken, own) = step_stays m.programs m.world p x m2.world sound (rw taken.pid_is at taken.steps.step)

ends_fresh : (more : Bool) (m : Machine) (p : ℕ) (last : List TraceItem) (m2 : Machine) → Ends more m p last m2 → (q : ℕ) → get m.world.processes q ≡ None
    → is_process m2.world is_ready q ≡ false
unfolding is_process
ends_fresh true m p last m2 (none, same) q free = subst (λ (x : Machine). is_process x.world is_ready q ≡ false) (sym same) (rw free refl)
ends_fresh false m p last m2 (x, is, taken, own) q free = made_not_ready m.programs m.world (pid_of x) x m2.world taken.steps.step q free

ends_length : (more : Bool) (m : Machine) (p : ℕ) (last : List TraceItem) (m2 : Machine) → Ends more m p last m2 → length last ≡ (if more then 0 else 1)
ends_length true m p last m2 (none, same) = ap length none
ends_length false m p last m2 (x, is, taken, own) = ap length is

ends_changed : (more : Bool) (m : Machine) (p : ℕ) (last : List TraceItem) (m2 : Machine) (ends : Ends more m p last m2) (c : Told) → IsSound m.world
    → is_process m.world is_ready p ≡ true → Changes more m p last m2 ends c → IsChanged m.world p m2.world c
ends_changed true m p last m2 (none, same) c sound ready is =
    rw is (subst (λ (x : Machine). IsChanged m.world p x.world said.Same) (sym same) (unchanged m.world p ready))
ends_changed false m p last m2 (x, is, taken, own) c sound ready (tells, killed, fits) =
    subst (λ (k : ℕ). IsChanged m.world k m2.world c) taken.pid_is
    (changed m.programs m.world (pid_of x) x m2.world sound taken.steps.step c tells
    (subst (λ (k : ℕ). TellsKilled m.programs m.world k (killed_of c)) (sym taken.pid_is) killed) fits)

pub run_length : (p n : ℕ) → length (run_items p n) ≡ (if n == 0 then 0 else 1)
run_length p n = by (n == 0)
  where
    by : (b : Bool) → length (if b then [] else (item.Run p n ∷ [])) ≡ (if b then 0 else 1)
    by true = refl
    by false = refl

-- ---- a process that is out did something

-- it stands here with the first Cpu, and is ready
module _ (s : System) (whole : IsWhole s) (d : Done) (awaited : IsAwaited s d) (c : Told) (m2 : Machine) (items2 : List TraceItem)
    (goes : GoesFrom s.machine s.items d c m2 items2) where
  abbrev mid : Machine
  mid = advanced s.machine d

  abbrev left : List ℕ
  left = others_of d.pid s.out

  sound : IsSound s.machine.world
  sound = run_sound s.machine.programs s.statements whole.legal.boot s.machine.world _ whole.legal.boots.boots whole.legal.history.run

  local_history : IsLegalHistory s.machine.programs s.machine.world (run_items d.pid d.ran) mid.world
  local_history = run_legal s.machine.programs s.machine.world d.pid d.ran mid.world goes.steps

  history_to_mid : IsLegalHistory s.machine.programs whole.legal.boot (s.items ++ run_items d.pid d.ran) mid.world
  history_to_mid = history_then s.machine.programs whole.legal.boot s.machine.world mid.world s.items (run_items d.pid d.ran) whole.legal.history local_history

  mid_sound : IsSound mid.world
  mid_sound = run_sound s.machine.programs s.statements whole.legal.boot mid.world _ whole.legal.boots.boots history_to_mid.run

  after_sound : IsSound m2.world
  after_sound = ends_sound (is_more d.stop) mid d.pid goes.last m2 mid_sound goes.ends

  keeps : (test : State → Bool) (k : ℕ) → is_process mid.world test k ≡ is_process s.machine.world test k
  keeps test k = state_kept s.machine.world d.pid (λ p. record p { cpu = d.to }) (λ y. refl) test k

  others : OthersStay s.machine.world d.pid m2.world
  others = stays_then s.machine.world mid.world m2.world d.pid (local_stays s.machine.world d.pid (λ p. record p { cpu = d.to }) (λ y. refl))
      (ends_stay (is_more d.stop) mid d.pid goes.last m2 mid_sound goes.ends)

  so : Before s.machine.world m2.world d.pid s.ready left
  so = before s.machine.world m2.world d.pid s.ready s.out left whole.listed awaited.ready (others_left d.pid s.out) others

  pub requeued_so : requeued m2.world d.pid left s.ready ≡ queued_after s.machine.world d.pid m2.world s.ready
  requeued_so = requeued_is s.machine.world m2.world d.pid s.ready left so

  pub accepted_room : length (queued_after s.machine.world d.pid m2.world s.ready) + length left ≤ length s.machine.world.processes
  accepted_room = after_room s.machine.world m2.world d.pid s.ready s.out left whole.listed awaited.ready (others_left d.pid s.out) others after_sound
      (λ q free. ends_fresh (is_more d.stop) mid d.pid goes.last m2 goes.ends q (place_free q free))
    where
      place_free : (q : ℕ) → get s.machine.world.processes q ≡ None → get mid.world.processes q ≡ None
      place_free q free = place_still s.machine.world d.pid (λ p. record p { cpu = d.to }) q free

  pub requeued_room : length (requeued m2.world d.pid left s.ready) ≤ length s.machine.world.processes
  requeued_room = subst (λ (ys : List ℕ). length ys ≤ length s.machine.world.processes) (sym requeued_so) (omega (arith, accepted_room))

  pub each_once : (k : ℕ) → times_in k s.ready ≤ 1
  each_once = listed_once s.machine.world s.ready s.out whole.listed

  pub absent : times_in d.pid s.ready ≡ 0
  absent = not_listed s.machine.world s.ready s.out whole.listed d.pid awaited.out awaited.ready

  pub goes_told : IsTold m2.world d.pid left s.ready c
  goes_told = told s.machine.world m2.world d.pid s.ready left so after_sound c
      (changed_from mid.world s.machine.world d.pid m2.world (λ k apart. keeps is_ready k) c
      (ends_changed (is_more d.stop) mid d.pid goes.last m2 goes.ends c mid_sound (keeps is_ready d.pid ∙ awaited.ready) goes.changes))

  pub accepted_whole : HasRoom s d → (ready2 : List ℕ) → ready2 ≡ requeued m2.world d.pid left s.ready
      → IsWhole (record s { machine = m2; items = items2; ready = ready2; out = left })
  accepted_whole room ready2 queue =
      let programs : m2.programs ≡ s.machine.programs = ends_programs (is_more d.stop) mid d.pid goes.last m2 goes.ends in
      let all : IsLegalHistory s.machine.programs whole.legal.boot (s.items ++ (run_items d.pid d.ran ++ goes.last)) m2.world
      = history_then s.machine.programs whole.legal.boot s.machine.world m2.world s.items (run_items d.pid d.ran ++ goes.last) whole.legal.history
      (history_then s.machine.programs s.machine.world mid.world m2.world (run_items d.pid d.ran) goes.last local_history
      (ends_legal (is_more d.stop) mid d.pid goes.last m2 goes.ends)) in
      let own : OwnHistory s.machine.programs (own_boot s.machine.programs s.statements) (s.items ++ (run_items d.pid d.ran ++ goes.last)) (own_here m2)
      = own_then s.machine.programs _ (own_here s.machine) (own_here m2) s.items (run_items d.pid d.ran ++ goes.last) whole.legal.own
      (own_then s.machine.programs (own_here s.machine) (own_here mid) (own_here m2) (run_items d.pid d.ran) goes.last
      (own_run s.machine.programs (own_here s.machine) d.pid d.ran mid.world goes.steps) (ends_own (is_more d.stop) mid d.pid goes.last m2 goes.ends)) in
      record {
        legal = record {
          boot = whole.legal.boot;
          boots = rw programs whole.legal.boots;
          sized = rw programs whole.legal.sized;
          history = rw (programs, goes.items_are) all;
          begins = rw programs whole.legal.begins;
          own = rw (programs, goes.items_are) own;
          room = omega (
            arith,
            room,
            ap length goes.items_are,
            length-append s.items (run_items d.pid d.ran ++ goes.last),
            length-append (run_items d.pid d.ran) goes.last,
            run_length d.pid d.ran,
            ends_length (is_more d.stop) mid d.pid goes.last m2 goes.ends,
          );
        };
        listed = rw (queue ∙ requeued_so)
            (after_listed s.machine.world m2.world d.pid s.ready s.out left whole.listed awaited.ready (others_left d.pid s.out) others after_sound);
      }

  pub accepted_so : HasRoom s d → (ready2 : List ℕ) → ready2 ≡ requeued m2.world d.pid left s.ready
      → Accepts s d (record s { machine = m2; items = items2; ready = ready2; out = left })
  accepted_so room ready2 queue = record {
    awaited = awaited;
    room = room;
    steps = goes.steps;
    last = goes.last;
    ends = goes.ends;
    after = λ i. record s { machine = m2; items = goes.items_are i; ready = (queue ∙ requeued_so) i; out = left };
  }
