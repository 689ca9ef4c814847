-- The own step of a process that conforms, whatever it is: what it tells, and where it leads.
use Rattle.zl_verify.proofs.Common.{Acts, AtCall, Awaited, Blocked, Bool, CallBy, CallInstr, CallName, Calls, Choice, Conforms, Cpu, Ended, EndsStep, HasEnded}
use Rattle.zl_verify.proofs.Common.{Image, IsAnswered, IsFineItem, IsFitStep, IsOwnEnd, IsSound, IsStuck, IsTyping, IsUnderWay, IsWaiting, Library, Life, List}
use Rattle.zl_verify.proofs.Common.{MayEnd, Moves, Next, None, OneOf, Option, Outcome, PacketAt, Process, Ready, Refused, SignalOf, Site, Some, StandsAtCall}
use Rattle.zl_verify.proofs.Common.{State, TraceItem, Values, WaitsAt, Wants, World, after_ok, ap, awaited_by, call_at, call_in, ended, ends_by, ends_caller}
use Rattle.zl_verify.proofs.Common.{ends_of, eq-eqb, executed, exits, false, get, has_ended, if◌then◌else◌, inl, inr, instr_at, is_in_range, is_pause}
use Rattle.zl_verify.proofs.Common.{is_pause_name, kills, leads, leads_by, leads_on, next_at, next_in, ok_outcome, on_process, outcome_of, pid_of}
use Rattle.zl_verify.proofs.Common.{process_ended, refl, refusal, runs, same_Some, slice_get, stays, subst, sym, taken, taken_handles, true, waits_for}
use Rattle.zl_verify.proofs.Common.{with_effect, ℕ, ℤ, ◌==◌, ◌∙◌, ◌≡◌, ◌⊎◌}
use Rattle.zl_verify.specs.WakeLaws.{wakes}
use Rattle.zl_code.specs.declared.instr.Instr.TheVariants as instr
use Rattle.zl_code.specs.declared.history.CallName.TheVariants as name
use Rattle.zl_code.specs.declared.history.Outcome.TheVariants as outcome
use Rattle.zl_code.specs.declared.history.TraceItem.TheVariants as item
use Rattle.zl_verify.proofs.LocalSteps.{goes_on, not_stuck}
use Rattle.zl_verify.proofs.AtCalls.{IsAtCall, at_call}
use Rattle.zl_verify.proofs.Blocks.{call_is_plain, plain_follows}
use Rattle.zl_verify.proofs.OwnTable.{changed_here, losing_all, losing_same, removed_here}
use Rattle.zl_verify.proofs.OwnCalls.{promised, Promised}
use Rattle.zl_verify.proofs.OwnEffect.{caller_ending}
use Rattle.zl_verify.proofs.SizedWorlds.{queues_sized}
use Rattle.zl_verify.proofs.Woken.{sound_before, ends_step}
use Rattle.zl_verify.proofs.Ended.{ended_still}

-- ---- items

pub fine_other : (p : ℕ) (x : TraceItem) → (pid_of x == p) ≡ false → IsFineItem p x
fine_other p (item.Call pid called (outcome.Answered answer)) apart = λ same. let bad : (pid == p) ≡ true = eq-eqb pid p same in cc
fine_other p (item.Call pid called (outcome.Ended code)) apart = λ same. let bad : (pid == p) ≡ true = eq-eqb pid p same in cc
fine_other p (item.Stuck pid) apart = λ same. let bad : (pid == p) ≡ true = eq-eqb pid p same in cc
fine_other p _ apart = tt

-- ---- a process that is over

-- one that was ready, or over before
ended_there : (w : World) (p : ℕ) (q : Process) → get w.processes p ≡ Some q → (q.state ≡ Ready) ⊎ (has_ended q.state ≡ true) → (code : ℤ)
    → HasEnded (ended w p code) p
unfolding ended
ended_there w p q there was code = record { process = process_ended code q; there = changed_here w p (process_ended code) q there; over = by was }
  where
    over_still : (l : Life) → q.state ≡ l → has_ended l ≡ true → has_ended (process_ended code q).state ≡ true
    over_still (Ended other) is e = rw is refl
    over_still _ is e = cc

    by : (q.state ≡ Ready) ⊎ (has_ended q.state ≡ true) → has_ended (process_ended code q).state ≡ true
    by (inl ready) = rw ready refl
    by (inr over) = over_still q.state refl over

-- ---- what is counted

-- q did its step, of which x tells, and is y
pub data Went (i : Image) (t : ℕ → Option State) (q y : Process) (x : TraceItem) : Type 0 where
  -- one instruction that is no pause, to the end of a followed edge
  goes : executed x ≡ Some 1 → OneOf (λ s. (y.cpu.counter, y.cpu.counters) ≡ s) (leads_on i t (q.cpu.counter, q.cpu.counters)) → y.state ≡ Ready
      → Went i t q y x
  -- a wait
  pauses : executed x ≡ None → Went i t q y x

-- q did its last step, of which x tells
pub data Stopped (i : Image) (q : Process) (x : TraceItem) : Type 0 where
  -- by process_exit
  by_exit : executed x ≡ None → Stopped i q x
  -- by a call that is no pause
  by_kill : executed x ≡ Some 1 → (call : CallInstr) → instr_at i q.cpu.counter ≡ Some (instr.Call call) → is_pause_name call.name ≡ false → Stopped i q x

waits_pause : (awaited : Awaited) (ds : List ℕ) (o : Option CallInstr) → WaitsAt (Blocked awaited ds) o → is_pause o ≡ true
waits_pause awaited ds None w = absurd w
waits_pause awaited ds (Some x) (w, same) = by awaited x.name w
  where
    by : (awaited : Awaited) (n : CallName) → waits_for awaited n ≡ true → is_pause_name n ≡ true
    by (SignalOf k m) name.WaitOne e = refl
    by (PacketAt k) name.PortWait e = refl
    by _ _ e = cc

-- behind what is no pause, edges are followed as they are counted
leads_so : (i : Image) (t : ℕ → Option State) (n : ℕ) → is_pause (call_at i n) ≡ false → ends_of i t n ≡ leads i t n
leads_so i t n no_pause = by (t n)
  where
    by : (o : Option State) → ends_by i n o ≡ leads_by i n o
    by None = refl
    by (Some s) = rw no_pause refl

-- what is ready doesn't wake
still_there : (i : Image) (t : ℕ → Option State) (p : ℕ) (y : Process) (w2 : World) → y.state ≡ Ready → EndsStep i t p y w2
    → (get w2.processes p ≡ Some y) × Conforms i t w2 p y
still_there i t p y w2 ready (stays at k) = (at, k)
still_there i t p y w2 ready (wakes awaited ds waited a) = let clash : Ready ≡ Blocked awaited ds = sym ready ∙ waited in absurd cc

-- ---- its own step

module _ (lib : Library) (i : Image) (t : ℕ → Option State) (range : is_in_range i ≡ true) (typing : IsTyping i t) where
  pub under_way : (p : ℕ) (y : Process) (w2 : World) (checked : Bool) → slice_get lib y.program ≡ Some (record { checked = checked; image = i })
      → runs y.state ≡ true → EndsStep i t p y w2 → IsUnderWay lib i t w2 p
  under_way p y w2 checked program running (stays at k) =
      record { process = y; there = at; running = running; checked = checked; program = program; conforms = k }
  under_way p y w2 checked program running (wakes awaited ds waited a) =
      record {
        process = a.after;
        there = a.there;
        running = ap runs a.ready;
        checked = checked;
        program = ap (slice_get lib) a.program ∙ program;
        conforms = a.conforms;
      }

  module _ (w : World) (p : ℕ) (x : TraceItem) (w2 : World) (b : IsFitStep lib w p x w2) (checked : Bool)
      (program : slice_get lib b.step.process.program ≡ Some (record { checked = checked; image = i })) (k : Conforms i t w p b.step.process) where
    abbrev own : Process
    own = b.step.process

    sound : IsSound w
    sound = sound_before lib w p x w2 b

    over_after : HasEnded b.step.acted p → HasEnded w2 p
    over_after o = record { process = o.process; there = ended_still p o.process o.over lib w p x w2 b.step o.there; over = o.over }

    -- p is under way at the end of the step, or over
    abbrev HasGone : Type 0
    HasGone = ((u : IsUnderWay lib i t w2 p) × Went i t own u.process x) ⊎ (HasEnded w2 p × Stopped i own x)

    ends : (y : Process) → get b.step.acted.processes p ≡ Some y → runs y.state ≡ true → Conforms i t b.step.acted p y → EndsStep i t p y w2
    ends y at running c = ends_step i t range typing lib w p x w2 b p y at running c

    -- it is ready, at the end of a followed edge
    goes_to : (y : Process) → get b.step.acted.processes p ≡ Some y → y.state ≡ Ready → y.program ≡ own.program → Conforms i t b.step.acted p y
        → Went i t own y x → HasGone
    goes_to y at ready same c went =
        let still = still_there i t p y w2 ready (ends y at (ap runs ready) c) in
        inl (
          record { process = y; there = still.0; running = ap runs ready; checked = checked; program = ap (slice_get lib) same ∙ program; conforms = still.1 },
          went,
        )

    moved : (c : Cpu) → next_at i own.cpu ≡ Moves c → x ≡ item.Run p 1 → b.step.acted ≡ on_process w p (λ y. record y { cpu = c }) → HasGone
    moved c next told same =
        let g = goes_on i t w p own range typing sound.handles b.step.is_there k b.step.is_ready c next in
        goes_to (record own { cpu = c }) (ap (λ v. get v.processes p) same ∙ changed_here w p (λ (y : Process). record y { cpu = c }) own b.step.is_there)
        b.step.is_ready refl
        (subst (λ v. Conforms i t v p (record own { cpu = c })) (sym same) g.conforms)
        (goes (ap executed told) g.follows b.step.is_ready)

    module _ (called : CallName) (s : Site) (next : next_at i own.cpu ≡ AtCall called s) where
      stands : StandsAtCall i t w p own called s
      stands = record {
        range = range;
        typing = typing;
        sound = sound;
        sized = queues_sized w b.sized;
        there = b.step.is_there;
        ready = b.step.is_ready;
        conforms = k;
        next = next;
      }

      -- where its call has ended it
      exited_at : (vs : List ℕ) (code : ℤ) → ok_outcome w p s.request ≡ outcome.Ended code
          → HasEnded (ended (with_effect lib w (taken w p s) p s.request vs) p code) p
      exited_at vs code is =
          let last = caller_ending s.request lib w (taken w p s) p code (ends_with (awaited_by w p s.request) (ends_caller w p s.request) code is) vs
          (losing_all (taken_handles s.request) own)
          (removed_here (taken_handles s.request) w p own b.step.is_there) ((losing_same (taken_handles s.request) own).state ∙ b.step.is_ready) in
          ended_there (with_effect lib w (taken w p s) p s.request vs) p last.0 last.1 last.2 code
        where
          ends_with : (o : Option Awaited) (e : Option ℤ) (code : ℤ) → outcome_of o e ≡ outcome.Ended code → e ≡ Some code
          ends_with (Some awaited) e code is = cc
          ends_with None None code is = cc
          ends_with None (Some other) code is = let same : other ≡ code = cc in ap Some same

      exited : (code : ℤ) (choice : Choice) (r : Option Outcome) → CallBy lib w p s choice r (outcome.Ended code) b.step.acted → HasEnded b.step.acted p
      exited code Refused (Some (outcome.Answered answer)) c = let bad = c.0 in cc
      exited code Refused (Some outcome.Blocked) c = let bad = c.0 in cc
      exited code Refused (Some (outcome.Ended other)) c = subst (λ v. HasEnded v p) (sym c.1) (ended_there w p own b.step.is_there (inl b.step.is_ready) other)
      exited code (Wants want) None c = let bad = c.1 in cc
      exited code (Values vs) None c = subst (λ v. HasEnded v p) (sym (c.2 ∙ ap (after_ok lib w p s vs) (sym c.1))) (exited_at vs code (sym c.1))
      exited code _ _ c = absurd c

      here : IsAtCall i own.cpu called s
      here = at_call i own.cpu called s next

      pause_here : is_pause (call_at i own.cpu.counter) ≡ is_pause_name called
      pause_here = ap (λ o. is_pause (call_in o)) here.stands ∙ ap is_pause_name here.named

      answered : (o : Outcome) → x ≡ item.Call p called o → (a : IsAnswered i t p own b.step.acted) → HasGone
      answered o is a = by (is_pause_name called) refl
        where
          told : (c : Bool) → is_pause_name called ≡ c → executed x ≡ (if c then None else Some 1)
          told c same = ap executed is ∙ ap (λ (d : Bool). if d then None else Some 1) same

          by : (c : Bool) → is_pause_name called ≡ c → HasGone
          by true same = goes_to a.after a.there a.ready a.program a.conforms (pauses (told true same))
          by false same =
              let follows = plain_follows i own.cpu.counter a.after.cpu.counter own.cpu.counters (leads i t own.cpu.counter)
              (call_is_plain i own.cpu.counter here.call here.stands)
              (subst (OneOf (λ n. a.after.cpu.counter ≡ n)) (leads_so i t own.cpu.counter (pause_here ∙ same)) a.follows) in
              goes_to a.after a.there a.ready a.program a.conforms (goes (told false same) (rw a.counters follows) a.ready)

      blocked : (o : Outcome) → x ≡ item.Call p called o → IsWaiting i t p own b.step.acted → HasGone
      blocked o is a =
          let pause : is_pause_name called ≡ true = sym pause_here ∙ waits_pause a.awaited a.destinations (call_at i own.cpu.counter) a.conforms.waits in
          inl (
            under_way p (record own { state = Blocked a.awaited a.destinations }) w2 checked program refl
                (ends (record own { state = Blocked a.awaited a.destinations }) a.there refl a.conforms),
            pauses (ap executed is ∙ ap (λ (d : Bool). if d then None else Some 1) pause),
          )

      -- the end is one of its own
      may_end : (code : ℤ) → IsOwnEnd w p called s code → MayEnd called code
      may_end code (exits n named asked told) = inl named
      may_end code (kills task named asked within told) = inr (named, told)

      stopped : (code : ℤ) → x ≡ item.Call p called (outcome.Ended code) → IsOwnEnd w p called s code → Stopped i own x
      stopped code is (exits n named asked told) = by_exit (ap executed is ∙ ap (λ (n : CallName). if is_pause_name n then None else Some 1) named)
      stopped code is (kills task named asked within told) =
          by_kill (ap executed is ∙ ap (λ (n : CallName). if is_pause_name n then None else Some 1) named) here.call here.stands
          (ap is_pause_name (here.named ∙ named))

      by_outcome : (o : Outcome) → x ≡ item.Call p called o → Calls lib w p s o b.step.acted → Promised i t w p own called s o b.step.acted
          → IsFineItem p x × HasGone
      by_outcome (outcome.Answered answer) is h (fine, a) = (subst (IsFineItem p) (sym is) (λ same. fine), answered (outcome.Answered answer) is a)
      by_outcome outcome.Blocked is h a = (subst (IsFineItem p) (sym is) tt, blocked outcome.Blocked is a)
      by_outcome (outcome.Ended code) is h a =
          (subst (IsFineItem p) (sym is) (λ same. may_end code a), inr (over_after (exited code h.0 (refusal lib w p s.request) h.1), stopped code is a))

    by_next : (n : Next) → next_at i own.cpu ≡ n → Acts lib w p n x b.step.acted → IsFineItem p x × HasGone
    by_next (Moves c) next a = (subst (IsFineItem p) (sym a.0) tt, moved c next a.0 a.1)
    by_next (AtCall called s) next (o, is, h) = by_outcome called s next o is h (promised i t w p own called s (stands called s next) lib o b.step.acted h)
    by_next IsStuck next a = absurd (not_stuck i t w p own range typing sound.handles b.step.is_there k next)

    own_step : IsFineItem p x × HasGone
    own_step = by_next (next_at i own.cpu) refl (subst (λ n. Acts lib w p n x b.step.acted) (ap (λ o. next_in o own.cpu) program) b.step.acts)

  -- the step of a process that is under way
  pub under_way_steps : (w : World) (m : ℕ) (x : TraceItem) (w2 : World) → IsFitStep lib w m x w2 → (u : IsUnderWay lib i t w m)
      → IsFineItem m x × (((after : IsUnderWay lib i t w2 m) × Went i t u.process after.process x) ⊎ (HasEnded w2 m × Stopped i u.process x))
  under_way_steps w m x w2 b u =
      let same : b.step.process ≡ u.process = same_Some b.step.process u.process (sym b.step.is_there ∙ u.there) in
      subst (λ (q : Process). IsFineItem m x × (((after : IsUnderWay lib i t w2 m) × Went i t q after.process x) ⊎ (HasEnded w2 m × Stopped i q x))) same
      (own_step w m x w2 b u.checked (ap (λ (y : Process). slice_get lib y.program) same ∙ u.program) (subst (Conforms i t w m) (sym same) u.conforms))
