-- A process that waits as its typing says gets an answer that fits: then it stands at the end of a followed edge, as the typing says there.
use Rattle.zl_verify.proofs.Common.{ANY, AreCountersAt, Blocked, Bool, CallInstr, CallName, Cause, Conforms, Err, Holds, Image, Instr, IsMemory, IsSizedPacket}
use Rattle.zl_verify.proofs.Common.{IsTyping, Life, List, None, Ok, OneOf, Option, Packet, PacketAt, Process, Ready, Result, RuleHolds, SignalOf, Site, Some}
use Rattle.zl_verify.proofs.Common.{State, Uses, WaitsAt, Ways, Word, World, [], and_then, answered, ap, arith, both, bounds_of, by_policy, call_at, call_in}
use Rattle.zl_verify.proofs.Common.{call_row, call_rule, condition_of, cpu_answered, edges, ends_of, get, goes_on, handle_operands, if◌then◌else◌, in_range_at}
use Rattle.zl_verify.proofs.Common.{inr, instr_at, is_call_in_range, is_in_range, is_known, length, packet_values, passes, port_wait, ranges, refl, reg}
use Rattle.zl_verify.proofs.Common.{rounded, rule_with, site, site_of, slice_index, slice_set, stops, subst, sym, taken_handles, targets_of, true, uses_of}
use Rattle.zl_verify.proofs.Common.{wait_one, waits_for, with_all, with_value, ℕ, ◌∙◌, ◌∷◌, ◌≡◌, ◌≤◌}
use Rattle.zl_verify.specs.Conforms.{answered_in}
use Rattle.zl_rights.specs.declared.status.Status.TheVariants as status
use Rattle.zl_code.specs.declared.instr.Instr.TheVariants as instr
use Rattle.zl_code.specs.declared.history.CallName.TheVariants as name
use Rattle.zl_verify.proofs.LocalSteps.{reached}
use Rattle.zl_verify.proofs.Refining.{Known}
use Rattle.zl_verify.proofs.Agreeing.{Arrives}
use Rattle.zl_verify.proofs.Fitting.{Fits}
use Rattle.zl_verify.proofs.Giving.{status_fits}
use Rattle.zl_verify.proofs.OwnTable.{losing_all}
use Rattle.zl_verify.proofs.Sites.{call}
use Rattle.zl_verify.proofs.Standing.{HasRule, has_rule, may_empty, Stands, left, left_there, zeroed, zeroed_hold, answer_holds}
use Rattle.zl_verify.proofs.Working.{packets_fit}
use Rattle.zl_verify.proofs.Blocks.{call_counted}

-- all that `Conforms` says of a process but what its job allows
pub record IsTyped (i : Image) (t : ℕ → Option State) (q : Process) : Type 0 where
  pub state : State
  pub stands : t q.cpu.counter ≡ Some state
  pub holds : Holds (get q.handles) state q.cpu.registers i.slots q.cpu.slots
  pub memory : IsMemory i q.cpu.memory
  pub counters : AreCountersAt i q.cpu.counter q.cpu.counters
  pub waits : WaitsAt q.state (call_at i q.cpu.counter)

pub is_typed : (i : Image) (t : ℕ → Option State) (w : World) (p : ℕ) (q : Process) → Conforms i t w p q → IsTyped i t q
is_typed i t w p q k = record { state = k.state; stands = k.stands; holds = k.holds; memory = k.memory; counters = k.counters; waits = k.waits }

-- what q becomes by its answer
pub record IsAwake (i : Image) (t : ℕ → Option State) (q after : Process) : Type 0 where
  pub follows : OneOf (λ n. after.cpu.counter ≡ n) (ends_of i t q.cpu.counter)
  pub counters : after.cpu.counters ≡ q.cpu.counters
  pub ready : after.state ≡ Ready
  pub program : after.program ≡ q.program
  pub typed : IsTyped i t after

module _ (i : Image) (t : ℕ → Option State) (range : is_in_range i ≡ true) (typing : IsTyping i t) (w : World) (p : ℕ) (q : Process)
    (there : get w.processes p ≡ Some q) (k : IsTyped i t q) where
  module _ (x : CallInstr) (is : instr_at i q.cpu.counter ≡ Some (instr.Call x)) (on : goes_on x.name ≡ true) (s : Site) (here : site_of x q.cpu ≡ Some s)
      (no_condition : condition_of s.request ≡ None) (none_taken : taken_handles s.request ≡ []) (values : List ℕ) where
    -- the process with the answer OK and these values
    abbrev after : Process
    after = record q { state = Ready; cpu = cpu_answered s status.Ok values q.cpu }

    abbrev u : Uses
    u = uses_of (bounds_of i.code) k.state x

    holds_here : RuleHolds t (and_then (call_rule (bounds_of i.code) i x k.state) (edges (length i.code) q.cpu.counter 0))
    unfolding rule_with
    holds_here = rw is at (typing.holds q.cpu.counter k.state k.stands)

    in_range_here : is_call_in_range x ≡ true
    in_range_here =
        (both (is_known i.version (call_row x.name).opcode) (is_call_in_range x)
        (rw is at (in_range_at i.version i.raw i.code q.cpu.counter (ranges i range).code))).1

    leads_here : (ways : Ways) → call_rule (bounds_of i.code) i x k.state ≡ Ok ways
        → targets_of (and_then (Ok ways) (edges (length i.code) q.cpu.counter 0)) ≡ ends_of i t q.cpu.counter
    unfolding rule_with
    leads_here ways rule = rw (k.stands, is, rule) refl

    module _ (ways : Ways) (rule : call_rule (bounds_of i.code) i x k.state ≡ Ok ways)
        (leads_on : RuleHolds t (and_then (Ok ways) (edges (length i.code) q.cpu.counter 0))) (r : State) (has : HasRule i k.state x u r ways)
        (fits : (xs : List ℕ) → Fits (get q.handles) r xs u.results (0 ∷ values) (get q.handles)) where
      before : Stands w p q x s k.state i.slots (bounds_of i.code) r
      before = record {
        there = there;
        site = here;
        holds = k.holds;
        states = typing.state q.cpu.counter k.state k.stands;
        in_range = in_range_here;
        operands = has.operands;
        distinct = has.distinct;
        free = has.free;
        sends = may_empty x q.cpu s (bounds_of i.code) k.holds k.memory here has;
        allowed = ap (by_policy w p) no_condition;
      }

      nothing_left : get q.handles ≡ left before
      nothing_left = ap (λ hs. get (losing_all hs q).handles) (sym none_taken) ∙ left_there before

      holds_after : Holds (get q.handles) (with_all r u.results) after.cpu.registers i.slots after.cpu.slots
      holds_after =
          answer_holds before status.Ok values q.cpu (left before) (get q.handles) refl (zeroed_hold before)
          (subst (λ f. Fits f r (zeroed before) u.results (0 ∷ values) (get q.handles)) nothing_left (fits (zeroed before)))

      passes_on : ways.passed ≡ Some (with_all r u.results)
      passes_on = ap (λ y. y.passed) (sym has.leads ∙ ap (λ (b : Bool). if b then passes (with_all r u.results) else stops) on)

      is_awake : IsAwake i t q after
      unfolding answered
      is_awake =
          let known : Known (get q.handles) after.cpu.registers i.slots after.cpu.slots ways.passed = rw passes_on holds_after in
          let arrives : Arrives (get q.handles) i q.cpu.counter 0 (Ok ways) (Some after.cpu) = (k.memory, inr (refl, known)) in
          let r = reached t (get q.handles) i after.cpu (length i.code) q.cpu.counter 0 (Ok ways) leads_on arrives in
          let follows = subst (OneOf (λ n. after.cpu.counter ≡ n)) (leads_here ways rule) r.1.follows in
          record {
            follows = follows;
            counters = refl;
            ready = refl;
            program = refl;
            typed = record {
              state = r.1.state;
              stands = r.1.stands;
              holds = r.1.holds;
              memory = r.0;
              counters = call_counted i range t q.cpu.counter after.cpu.counter q.cpu.counters x is k.counters follows;
              waits = tt;
            };
          }

    awake_at : ((r : State) (xs : List ℕ) → Fits (get q.handles) r xs u.results (0 ∷ values) (get q.handles)) → IsAwake i t q after
    awake_at fits = by (call_rule (bounds_of i.code) i x k.state) refl holds_here
      where
        by : (o : Result Ways Cause) → call_rule (bounds_of i.code) i x k.state ≡ o → RuleHolds t (and_then o (edges (length i.code) q.cpu.counter 0))
            → IsAwake i t q after
        by (Err c) rule holds = absurd holds
        by (Ok ways) rule holds = let (r, has) = has_rule i k.state x (bounds_of i.code) ways rule in is_awake ways rule holds r has (fits r)

  -- a signal that it waits for is there
  pub signal_wakes : (koid mask : ℕ) (ds : List ℕ) → q.state ≡ Blocked (SignalOf koid mask) ds → (n : ℕ) → n ≤ 0xffff_ffff
      → IsAwake i t q (record q { state = Ready; cpu = answered q.cpu ds (0 ∷ n ∷ []) })
  unfolding uses_of site_of taken_handles handle_operands
  signal_wakes koid mask ds blocked n few = by (instr_at i q.cpu.counter) refl (subst (λ (l : Life). WaitsAt l (call_at i q.cpu.counter)) blocked k.waits)
    where
      named : (c : CallName) (rs last : List ℕ) → instr_at i q.cpu.counter ≡ Some (instr.Call (call c rs last)) → waits_for (SignalOf koid mask) c ≡ true
          → IsAwake i t q (record q { state = Ready; cpu = answered q.cpu (answered_in (call c rs last)) (0 ∷ n ∷ []) })
      named name.WaitOne rs last is e =
          awake_at (call name.WaitOne rs last) is refl
          (site (wait_one (reg q.cpu (slice_index rs 1)) (reg q.cpu (slice_index rs 2))) [] (slice_index rs 0 ∷ slice_index rs 3 ∷ [])) refl refl refl
          (n ∷ []) (λ r xs. (get q.handles, (omega arith, omega arith, refl), (get q.handles, (few, omega arith, refl), refl)))
      named _ rs last is e = cc

      by : (o : Option Instr) → instr_at i q.cpu.counter ≡ o → WaitsAt (Blocked (SignalOf koid mask) ds) (call_in o)
          → IsAwake i t q (record q { state = Ready; cpu = answered q.cpu ds (0 ∷ n ∷ []) })
      by (Some (instr.Call x)) is (e, same) = rw same (named x.name x.registers x.last is e)
      by _ is bad = absurd bad

  -- a packet that it waits for is there
  pub packet_wakes : (koid : ℕ) (ds : List ℕ) → q.state ≡ Blocked (PacketAt koid) ds → (y : Packet) → IsSizedPacket y
      → IsAwake i t q (record q { state = Ready; cpu = answered q.cpu ds (0 ∷ packet_values y) })
  unfolding uses_of site_of taken_handles handle_operands
  packet_wakes koid ds blocked y sized = by (instr_at i q.cpu.counter) refl (subst (λ (l : Life). WaitsAt l (call_at i q.cpu.counter)) blocked k.waits)
    where
      named : (c : CallName) (rs last : List ℕ) → instr_at i q.cpu.counter ≡ Some (instr.Call (call c rs last)) → waits_for (PacketAt koid) c ≡ true
          → IsAwake i t q (record q { state = Ready; cpu = answered q.cpu (answered_in (call c rs last)) (0 ∷ packet_values y) })
      named name.PortWait rs last is e =
          let at : ℕ → ℕ = slice_index rs in
          awake_at (call name.PortWait rs last) is refl (site (port_wait (reg q.cpu (at 1))) [] (at 0 ∷ at 2 ∷ at 3 ∷ at 4 ∷ at 5 ∷ [])) refl refl refl
          (packet_values y)
          (λ r xs.
          status_fits (get q.handles) r xs (at 0) ((at 2, Word ANY) ∷ (at 3, Word (rounded (bounds_of i.code) 1)) ∷ (at 4, Word ANY) ∷ (at 5, Word ANY) ∷ []) 0
          (packet_values y) (get q.handles) (omega arith)
          (packets_fit (bounds_of i.code) (y ∷ []) (sized, tt) (get q.handles) (with_value r (at 0) (Word 30)) (slice_set xs (at 0) 0) (at 2) (at 3)
          (at 4) (at 5)))
      named _ rs last is e = cc

      by : (o : Option Instr) → instr_at i q.cpu.counter ≡ o → WaitsAt (Blocked (PacketAt koid) ds) (call_in o)
          → IsAwake i t q (record q { state = Ready; cpu = answered q.cpu ds (0 ∷ packet_values y) })
      by (Some (instr.Call x)) is (e, same) = rw same (named x.name x.registers x.last is e)
      by _ is bad = absurd bad
