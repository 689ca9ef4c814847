-- The law of a checked process's own call.
use Rattle.zl_verify.proofs.Common.{AtCall, Awaited, Blocked, Bool, CallInstr, CallName, Calls, CanCall, Condition, Conforms, Cpu, HandlesAreSound, Holds}
use Rattle.zl_verify.proofs.Common.{Image, IsAnswered, IsMemory, IsOwnEnd, IsStuck, IsTrue, IsTyping, IsWaiting, KILLED, Library, List, None, Ok, OneOf, Option}
use Rattle.zl_verify.proofs.Common.{Outcome, Packet, Process, Refused, Request, SignalOf, Site, Some, StandsAtCall, State, Status, Table, Uses, Values, WaitsAt}
use Rattle.zl_verify.proofs.Common.{Wants, World, [], after_ok, after_refusal, and_then, answered, ap, arith, asks_again, awaited_by, bounds_of, by_policy}
use Rattle.zl_verify.proofs.Common.{call_at, call_in, condition_of, cpu_answered, creates, edges, ends_caller, ends_of, entering_at, examined, exits, false}
use Rattle.zl_verify.proofs.Common.{false≢true, first_some, get, gives_ok, gives_refused, goes_on, handle_operands, if◌then◌else◌, inl, inr, is_active_at}
use Rattle.zl_verify.proofs.Common.{is_among, is_fault, is_in_range, is_some, is_within, kept_by, kills, left_behind, length, listed, lives, may_choose}
use Rattle.zl_verify.proofs.Common.{may_want, name_of, next_at, not, object_at, on_process, outcome_of, packet_awaited, packets_at, passes, process_exit, refl}
use Rattle.zl_verify.proofs.Common.{refusal, reg, replied, rule_with, same_Some, signed_word, site, site_of, slice_index, slots_filled, status_magnitude, stops}
use Rattle.zl_verify.proofs.Common.{stored_by, subst, sym, taken, taken_handles, targets_of, task_kill, then_some, true, uses_of, waiting, waits_for, with_all}
use Rattle.zl_verify.proofs.Common.{with_effect, ℕ, ℤ, ◌+◌, ◌∙◌, ◌∷◌, ◌≡◌, ◌⊎◌}
use Rattle.zl_rights.specs.declared.status.Status.TheVariants as status
use Rattle.zl_code.specs.declared.history.CallName.TheVariants as name
use Rattle.zl_code.specs.declared.history.Outcome.TheVariants as outcome
use Rattle.zl_verify.proofs.CallEnds.{call_ends}
use Rattle.zl_verify.proofs.Writing.{nothing_at_0}
use Rattle.zl_verify.proofs.Refining.{Known}
use Rattle.zl_verify.proofs.LocalSteps.{reached, not_stuck}
use Rattle.zl_verify.proofs.Agreeing.{Arrives}
use Rattle.zl_verify.proofs.Emptying.{left_slots}
use Rattle.zl_verify.proofs.Fitting.{Fits}
use Rattle.zl_verify.proofs.Giving.{getting_all, IsFreeLast}
use Rattle.zl_verify.proofs.OwnTable.{changed_here, keeping_in, losing_all, losing_same, own_handles, storing_in, lost_and_got}
use Rattle.zl_verify.proofs.Sites.{call, AtSite, of_site}
use Rattle.zl_verify.proofs.Standing.{passed, left_there, taken_there, not_refused, zeroed, zeroed_hold, answer_holds}
use Rattle.zl_verify.proofs.AtCalls.{IsRuled, is_ruled, reads}
use Rattle.zl_verify.proofs.Ordinary.{IsOrdinary, first_ordinary, listed_ordinary}
use Rattle.zl_verify.proofs.Refusing.{IsOver, MayAnswer, no_want, refused_fits}
use Rattle.zl_verify.proofs.Working.{keeps, kept_in_table, own_chosen, taken_from_table, works}
use Rattle.zl_verify.proofs.OwnEffect.{IsDone, caller_after, AreAlike, alike_then, same_objects, alike_after, same_policy}
use Rattle.zl_verify.proofs.Storing.{keeping_same, keeping_slots, storing_same, still_whole}
use Rattle.zl_verify.proofs.Blocks.{call_counted}

-- ---- how a call can end

-- behind an answer the call goes on, or it is process_exit
answers_or_exits : (r : Request) → (goes_on (name_of r) ≡ true) ⊎ ((code : ℕ) × (r ≡ process_exit code))
answers_or_exits (process_exit code) = inr (code, refl)
answers_or_exits _ = inl refl

-- a call that ends its caller is process_exit, or task_kill
ends_so : (r : Request) (s : Site) (w : World) (p : ℕ) (code : ℤ) → ends_caller w p r ≡ Some code
    → IsOwnEnd w p (name_of r) (record s { request = r }) code
ends_so (process_exit number) s w p code is = exits number refl refl (sym (same_Some (signed_word number) code is))
ends_so (task_kill task) s w p code is = by (is_within w.objects (object_at w p task) p) refl is
  where
    by : (t : Bool) → is_within w.objects (object_at w p task) p ≡ t → then_some t KILLED ≡ Some code
        → IsOwnEnd w p name.TaskKill (record s { request = task_kill task }) code
    by true within e = kills task refl refl within (sym (same_Some KILLED code e))
    by false within e = cc
ends_so _ s w p code is = cc

-- process_exit ends its caller, and nothing else comes of it
only_exits : (lib : Library) (w : World) (p n : ℕ) (s : Site) (answer : Outcome) (w2 : World)
    → Calls lib w p (record s { request = process_exit n }) answer w2 → answer ≡ outcome.Ended (signed_word n)
unfolding refusal handle_operands examined listed
only_exits lib w p n s answer w2 (Refused, h) = absurd h
only_exits lib w p n s answer w2 (Wants want, h) = absurd (no_want want h.0)
only_exits lib w p n s answer w2 (Values vs, h) = h.1

-- a call that waits stands at a wait of the kind
waits_by : (c : Cpu) (w : World) (p : ℕ) (awaited : Awaited) (n : CallName) (rs last : List ℕ)
    → AtSite c (call n rs last) (λ t. awaited_by w p t.request ≡ Some awaited → WaitsAt (Blocked awaited t.destinations) (Some (call n rs last)))
waits_by c w p awaited name.WaitOne rs last = λ e. (by (not (is_active_at w p h (reg c (slice_index rs 2)))) (object_at w p h) e, refl)
  where
    h : ℕ
    h = reg c (slice_index rs 1)

    by : (test : Bool) (k : ℕ) → then_some test (SignalOf k (reg c (slice_index rs 2))) ≡ Some awaited → waits_for awaited name.WaitOne ≡ true
    by true k e = subst (λ y. waits_for y name.WaitOne ≡ true) (same_Some _ awaited e) refl
    by false k e = cc
waits_by c w p awaited name.PortWait rs last = λ e. (by (packets_at w p h) (object_at w p h) e, refl)
  where
    h : ℕ
    h = reg c (slice_index rs 1)

    by : (packets : List Packet) (k : ℕ) → packet_awaited k packets ≡ Some awaited → waits_for awaited name.PortWait ≡ true
    by [] k e = subst (λ y. waits_for y name.PortWait ≡ true) (same_Some _ awaited e) refl
    by (x ∷ xs) k e = cc
waits_by c w p awaited _ rs last = λ e. cc

waits_here : (c : Cpu) (x : CallInstr) (t : Site) → site_of x c ≡ Some t → (w : World) (p : ℕ) (awaited : Awaited) → awaited_by w p t.request ≡ Some awaited
    → WaitsAt (Blocked awaited t.destinations) (Some x)
waits_here c x t site w p awaited =
    of_site c x t site (λ t. awaited_by w p t.request ≡ Some awaited → WaitsAt (Blocked awaited t.destinations) (Some x))
    (waits_by c w p awaited x.name x.registers x.last)

-- ---- the law

-- what is promised where the call ends so, with w2
abbrev pub Promised : (i : Image) (t : ℕ → Option State) (w : World) (p : ℕ) (q : Process) (called : CallName) (s : Site) → Outcome → World → Type 0
Promised i t w p q called s (outcome.Answered answer) w2 = (is_fault answer ≡ false) × IsAnswered i t p q w2
Promised i t w p q called s outcome.Blocked w2 = IsWaiting i t p q w2
Promised i t w p q called s (outcome.Ended code) w2 = IsOwnEnd w p called s code

-- q2 is q but for its table, its memory and its slots
record IsCaller (i : Image) (q2 q : Process) : Type 0 where
  registers : q2.cpu.registers ≡ q.cpu.registers
  counter : q2.cpu.counter ≡ q.cpu.counter
  counters : q2.cpu.counters ≡ q.cpu.counters
  state : q2.state ≡ q.state
  program : q2.program ≡ q.program
  memory : IsMemory i q2.cpu.memory

module _ (i : Image) (t : ℕ → Option State) (w : World) (p : ℕ) (q : Process) (called : CallName) (s : Site) (k : StandsAtCall i t w p q called s)
    (ruled : IsRuled i t w p q called s k.conforms.state) (lib : Library) where
  abbrev uses : Uses
  uses = uses_of (bounds_of i.code) k.conforms.state ruled.at.call

  -- the request has the name of the call
  asked : name_of s.request ≡ called
  asked = asks_again ruled.at.call q.cpu s ruled.at.site ∙ ruled.at.named

  over : IsOver (taken_from_table q s.request) ruled.left (zeroed ruled.before)
  over = record {
    long = (passed ruled.before).states.long;
    wide = (zeroed_hold ruled.before).width;
    none = ap (λ f. f 0) (left_there ruled.before) ∙ nothing_at_0 (zeroed_hold ruled.before);
  }

  free : IsFreeLast q
  free v is = (k.sound.tables p q k.there).free v is

  leads_here : targets_of (and_then (Ok ruled.ways) (edges (length i.code) q.cpu.counter 0)) ≡ ends_of i t q.cpu.counter
  unfolding rule_with
  leads_here = rw (k.conforms.stands, ruled.at.stands, ruled.rule) refl

  unchanged : (o : Option Awaited) → (waiting w p s.destinations o).objects ≡ w.objects
  unfolding on_process
  unchanged None = refl
  unchanged (Some awaited) = refl

  still_allowed : (w2 : World) → AreAlike w w w2 → (c : Condition) → IsTrue (is_among i.needs c) → creates w2 p c ≡ None
  still_allowed w2 alike c named = same_policy w w2 p q k.sound k.there (ap lives k.ready) alike c ∙ k.conforms.allowed c named

  module _ (on : goes_on ruled.at.call.name ≡ true) where
    passes_on : ruled.ways.passed ≡ Some (with_all ruled.left uses.results)
    passes_on = ap (λ y. y.passed) (sym ruled.leads ∙ ap (λ (b : Bool). if b then passes (with_all ruled.left uses.results) else stops) on)

    -- an answer to q2, which is the caller but for its table, its memory and its slots
    after_answer : (w1 : World) (q2 : Process) (answer : Status) (values : List ℕ) → get w1.processes p ≡ Some q2 → IsCaller i q2 q → AreAlike w w w1
        → (f : Table) → Holds f ruled.left (zeroed ruled.before) i.slots (left_slots q2.cpu.slots s.emptied)
        → Fits f ruled.left (zeroed ruled.before) uses.results (status_magnitude answer ∷ values) (get q2.handles)
        → IsAnswered i t p q (replied w1 p s answer values)
    unfolding replied answered on_process
    after_answer w1 q2 answer values there same alike f kept fits =
        let c : Cpu = cpu_answered s answer values q2.cpu in
        let holds : Holds (get q2.handles) (with_all ruled.left uses.results) c.registers i.slots c.slots =
        answer_holds ruled.before answer values q2.cpu f (get q2.handles) same.registers kept fits in
        let known : Known (get q2.handles) c.registers i.slots c.slots ruled.ways.passed = rw passes_on holds in
        let arrives : Arrives (get q2.handles) i q.cpu.counter 0 (Ok ruled.ways) (Some c) = (same.memory, inr (ap (λ n. n + 1) same.counter, known)) in
        let r = reached t (get q2.handles) i c (length i.code) q.cpu.counter 0 (Ok ruled.ways) ruled.holds arrives in
        let follows = subst (OneOf (λ n. c.counter ≡ n)) leads_here r.1.follows in
        record {
          after = record q2 { cpu = c };
          there = changed_here w1 p (λ (x : Process). record x { cpu = cpu_answered s answer values x.cpu }) q2 there;
          follows = follows;
          counters = same.counters;
          ready = same.state ∙ k.ready;
          program = same.program;
          conforms = record {
            state = r.1.state;
            stands = r.1.stands;
            holds = r.1.holds;
            memory = r.0;
            counters = rw same.counters
                (call_counted i k.range t q.cpu.counter c.counter q.cpu.counters ruled.at.call ruled.at.stands k.conforms.counters follows);
            allowed = still_allowed (replied w1 p s answer values)
                (alike_then w w w1 (replied w1 p s answer values) alike (same_objects w w1 (replied w1 p s answer values) refl));
            waits = rw (same.state, k.ready) tt;
          };
        }

    taken_alike : AreAlike w w (taken w p s)
    taken_alike = same_objects w w (taken w p s) (left_behind w p q (taken_handles s.request) k.there).1.objects

    -- what holds once handles and places are consumed
    consumed_hold : Holds (taken_from_table q s.request) ruled.left (zeroed ruled.before) i.slots (left_slots q.cpu.slots s.emptied)
    consumed_hold =
        subst (λ f. Holds f ruled.left (zeroed ruled.before) i.slots (left_slots q.cpu.slots s.emptied))
        (sym (left_there ruled.before)) (zeroed_hold ruled.before)

    after_refused : (answer : Status) → MayAnswer lib w p s.request answer → IsAnswered i t p q (after_refusal w p s (outcome.Answered answer))
    after_refused answer may =
        let same = losing_same (taken_handles s.request) q in
        after_answer (taken w p s) (losing_all (taken_handles s.request) q) answer (gives_refused w p s.request answer) (taken_there ruled.before)
        (record {
          registers = ap (λ x. x.registers) same.cpu;
          counter = ap (λ x. x.counter) same.cpu;
          counters = ap (λ x. x.counters) same.cpu;
          state = same.state;
          program = same.program;
          memory = subst (λ x. IsMemory i x.memory) (sym same.cpu) k.conforms.memory;
        })
        taken_alike (taken_from_table q s.request)
        (subst (λ slots. Holds (taken_from_table q s.request) ruled.left (zeroed ruled.before) i.slots (left_slots slots s.emptied))
        (sym (ap (λ x. x.slots) same.cpu)) consumed_hold)
        (refused_fits lib w p k.sound k.sized answer (taken_from_table q s.request) ruled.left (zeroed ruled.before) over (bounds_of i.code) k.conforms.state
        q.cpu ruled.at.call s ruled.at.site ruled.before.in_range may)

    -- the caller with its new handles
    abbrev given : List ℕ → Process
    given vs = getting_all (own_handles w p s.request) (entering_at s.request vs) (losing_all (taken_handles s.request) q)

    after_worked : refusal lib w p s.request ≡ None → ends_caller w p s.request ≡ None → (vs : List ℕ) → may_choose w (taken w p s) p s.request vs ≡ true
        → IsAnswered i t p q (after_ok lib w p s vs (outcome.Answered status.Ok))
    after_worked none goes vs may =
        let stored : Process = storing_in (stored_by w p s.request) (given vs) in
        let q2 : Process = keeping_in (kept_by s.request vs) stored in
        let same = lost_and_got (own_handles w p s.request) (entering_at s.request vs) (taken_handles s.request) q in
        let rest = storing_same (stored_by w p s.request) (given vs) in
        let last = keeping_same (kept_by s.request vs) stored in
        let kept = (left_behind w p q (taken_handles s.request) k.there).1 in
        let done : IsDone lib w (taken w p s) p s.request = record {
          caller = q;
          there = k.there;
          ready = k.ready;
          below = λ j y at. k.sound.processes j (ap is_some at);
          passes = none;
          objects = kept.objects;
          koids = kept.next_koid;
        } in
        let may_get = own_chosen s.request w (taken w p s) p (losing_all (taken_handles s.request) q) vs (taken_there ruled.before) may in
        after_answer (with_effect lib w (taken w p s) p s.request vs) q2 status.Ok (gives_ok w p s.request vs)
        (caller_after s.request lib w (taken w p s) p done goes vs (losing_all (taken_handles s.request) q) (taken_there ruled.before))
        (record {
          registers = last.registers ∙ (rest.registers ∙ ap (λ x. x.registers) same.cpu);
          counter = last.counter ∙ (rest.counter ∙ ap (λ x. x.counter) same.cpu);
          counters = last.counters ∙ (rest.counters ∙ ap (λ x. x.counters) same.cpu);
          state = last.state ∙ (rest.state ∙ same.state);
          program = last.program ∙ (rest.program ∙ same.program);
          memory = subst (IsMemory i) (sym last.memory)
              (still_whole i q (given vs) same.cpu k.conforms.memory lib w p k.sized ruled.at.call s ruled.at.site none);
        })
        (alike_then w w (taken w p s) _ taken_alike (alike_after s.request lib w (taken w p s) p none (rw kept.next_koid (omega arith)) vs))
        (kept_in_table w p q s.request vs)
        (subst (λ slots. Holds (kept_in_table w p q s.request vs) ruled.left (zeroed ruled.before) i.slots
        (left_slots slots s.emptied))
        (sym (keeping_slots (kept_by s.request vs) stored
        ∙ ap (λ slots. slots_filled slots (kept_by s.request vs)) (rest.slots ∙ ap (λ x. x.slots) same.cpu)))
        (keeps lib w p q k.sound k.sized free (nothing_at_0 k.conforms.holds) ruled.left (zeroed ruled.before) over.long over.wide vs k.conforms.state
        i.slots (bounds_of i.code) i (passed ruled.before).states ruled.at.call s ruled.at.site ruled.array may_get none consumed_hold))
        (subst (λ m. Fits (kept_in_table w p q s.request vs) ruled.left (zeroed ruled.before) uses.results (0 ∷ gives_ok w p s.request vs) (get m))
        (sym (last.handles ∙ rest.handles))
        (works lib w p q k.sound k.sized free (nothing_at_0 k.conforms.holds) ruled.left (zeroed ruled.before) over.long over.wide vs k.conforms.state i.slots
        (bounds_of i.code) ruled.at.call s ruled.at.site refl ruled.before may_get none))

    -- ---- however it ends

    abbrev Ends : Outcome → World → Type 0
    Ends = Promised i t w p q called s

    by_refusal : (o : Outcome) → first_some (listed lib w p s.request) ≡ Some o → IsOrdinary (Some o) → Ends o (after_refusal w p s o)
    by_refusal (outcome.Answered answer) is (fine, bad) = (fine, after_refused answer (inl is))
    by_refusal _ is h = absurd h

    -- a want is no fault
    by_want : (want : Status) → IsTrue (may_want s.request want) → Ends (outcome.Answered want) (after_refusal w p s (outcome.Answered want))
    by_want status.NoMemory may = (refl, after_refused status.NoMemory (inr may))
    by_want _ may = absurd (false≢true may)

    -- it ends its caller, or is answered
    by_ending : refusal lib w p s.request ≡ None → (vs : List ℕ) → may_choose w (taken w p s) p s.request vs ≡ true → (e : Option ℤ)
        → ends_caller w p s.request ≡ e → Ends (outcome_of None e) (after_ok lib w p s vs (outcome_of None e))
    by_ending none vs may None goes = (refl, after_worked none goes vs may)
    by_ending none vs may (Some code) is = subst (λ n. IsOwnEnd w p n s code) asked (ends_so s.request s w p code is)

    by_waiting : refusal lib w p s.request ≡ None → (vs : List ℕ) → may_choose w (taken w p s) p s.request vs ≡ true → (o : Option Awaited)
        → awaited_by w p s.request ≡ o → Ends (outcome_of o (ends_caller w p s.request)) (after_ok lib w p s vs (outcome_of o (ends_caller w p s.request)))
    by_waiting none vs may None is = by_ending none vs may (ends_caller w p s.request) refl
    by_waiting none vs may (Some awaited) is = rw is (waiting_there awaited is)
      where
        waiting_there : (awaited : Awaited) → awaited_by w p s.request ≡ Some awaited → IsWaiting i t p q (waiting w p s.destinations (Some awaited))
        waiting_there awaited is = record {
          awaited = awaited;
          destinations = s.destinations;
          there = changed_here w p (λ (x : Process). record x { state = Blocked awaited s.destinations }) q k.there;
          conforms = record {
            state = k.conforms.state;
            stands = k.conforms.stands;
            holds = k.conforms.holds;
            memory = k.conforms.memory;
            counters = k.conforms.counters;
            allowed = λ c named. still_allowed (waiting w p s.destinations (Some awaited))
                (same_objects w w (waiting w p s.destinations (Some awaited)) (unchanged (Some awaited))) c named;
            waits = subst (WaitsAt (Blocked awaited s.destinations)) (sym (ap call_in ruled.at.stands))
                (waits_here q.cpu ruled.at.call s ruled.at.site w p awaited is);
          };
        }

    -- no operand and no policy refuses it
    refusal_is : refusal lib w p s.request ≡ first_some (listed lib w p s.request)
    unfolding refusal
    refusal_is = rw (not_refused ruled.before, ruled.before.allowed) refl

    refused_so : (o : Outcome) → refusal lib w p s.request ≡ Some o → Ends o (after_refusal w p s o)
    refused_so o is =
        let listed_so : first_some (listed lib w p s.request) ≡ Some o = sym refusal_is ∙ is in
        by_refusal o listed_so (subst IsOrdinary listed_so (first_ordinary (listed lib w p s.request) (listed_ordinary lib w p s.request)))

    promised_answering : (answer : Outcome) (w2 : World) → Calls lib w p s answer w2 → Ends answer w2
    promised_answering =
        call_ends lib w p s Ends (λ o is. refused_so o is) by_want
        (λ none vs may. by_waiting none vs may (awaited_by w p s.request) refl)

  promised_exiting : (number : ℕ) → s.request ≡ process_exit number → (answer : Outcome) (w2 : World) → Calls lib w p s answer w2
      → Promised i t w p q called s answer w2
  promised_exiting number same answer w2 h =
      let calls : Calls lib w p (record s { request = process_exit number }) answer w2 =
      subst (λ r. Calls lib w p (record s { request = r }) answer w2) same h in
      rw (only_exits lib w p number s answer w2 calls) (exits number (sym asked ∙ ap name_of same) same refl)

-- however the call ends, it ends as is promised
pub promised : (i : Image) (t : ℕ → Option State) (w : World) (p : ℕ) (q : Process) (called : CallName) (s : Site) → StandsAtCall i t w p q called s
    → (lib : Library) (answer : Outcome) (w2 : World) → Calls lib w p s answer w2 → Promised i t w p q called s answer w2
promised i t w p q called s k lib answer w2 h = by (is_ruled i t w p q called s k)
  where
    by : IsRuled i t w p q called s k.conforms.state → Promised i t w p q called s answer w2
    by ruled = either (answers_or_exits s.request)
      where
        either : (goes_on (name_of s.request) ≡ true) ⊎ ((number : ℕ) × (s.request ≡ process_exit number)) → Promised i t w p q called s answer w2
        either (inl x) =
            promised_answering i t w p q called s k ruled lib (subst (λ n. goes_on n ≡ true) (asks_again ruled.at.call q.cpu s ruled.at.site) x) answer w2 h
        either (inr (number, same)) = promised_exiting i t w p q called s k ruled lib number same answer w2 h

-- what a call asks for can be read
pub can_call : (i : Image) (t : ℕ → Option State) (w : World) (p : ℕ) (q : Process) → IsTrue (is_in_range i) → IsTyping i t → HandlesAreSound w
    → get w.processes p ≡ Some q → Conforms i t w p q → (x : CallInstr) → call_at i q.cpu.counter ≡ Some x → CanCall i q.cpu x
can_call i t w p q range typing sound there k x is = by (reads i q.cpu x is)
  where
    by : (next_at i q.cpu ≡ IsStuck) ⊎ ((s : Site) × (next_at i q.cpu ≡ AtCall x.name s)) → CanCall i q.cpu x
    by (inl stuck) = absurd (not_stuck i t w p q range typing sound there k stuck)
    by (inr (s, next)) = record { site = s; next = next }

-- its operands pass, and its policy allows what it makes
pub operands_pass : (i : Image) (t : ℕ → Option State) (w : World) (p : ℕ) (q : Process) (called : CallName) (s : Site) → StandsAtCall i t w p q called s
    → examined w p [] (handle_operands s.request) ≡ None
operands_pass i t w p q called s k = not_refused (is_ruled i t w p q called s k).before

pub policy_passes : (i : Image) (t : ℕ → Option State) (w : World) (p : ℕ) (q : Process) (called : CallName) (s : Site) → StandsAtCall i t w p q called s
    → by_policy w p (condition_of s.request) ≡ None
policy_passes i t w p q called s k = (is_ruled i t w p q called s k).before.allowed
