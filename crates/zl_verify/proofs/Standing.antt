-- A call that stands next where a process is as a state says, and whose rule holds there.
use Rattle.zl_verify.proofs.Common.{Bool, CallInstr, Cause, Cpu, Err, Holds, Image, IsMemory, IsState, List, None, Ok, Option, Process, Result, Site, SlotArray}
use Rattle.zl_verify.proofs.Common.{Some, State, Status, Table, Uses, Ways, World, [], and_then, answered, ap, are_distinct, are_words, array_fault, by_policy}
use Rattle.zl_verify.proofs.Common.{call_rule, condition_of, count_fits, cpu_answered, examined_all, false, finished, finished_unless, get, goes_on}
use Rattle.zl_verify.proofs.Common.{handle_operands, handles_in, has_one, if◌then◌else◌, is_call_in_range, is_declared, map, not, passes, range_fits, refl}
use Rattle.zl_verify.proofs.Common.{site_of, status_magnitude, stops, subst, sym, taken, taken_handles, true, uses_of, with_all, written, ℕ, ◌&&◌, ◌∙◌, ◌∷◌}
use Rattle.zl_verify.proofs.Common.{◌≡◌}
use Rattle.zl_code.specs.Operands.{examined as examined_at}
use Rattle.zl_abs.specs.declared.cause.Cause.TheVariants as cause
use Rattle.zl_verify.proofs.Examining.{Passed, operands_from, unseen, seen_all, taken_registers, valued, Reads}
use Rattle.zl_verify.proofs.Emptying.{AreSendable, MaySend, both_pass, given, left_slots, sent, sent_from, sent_pass, taken_and, only_taken, their_values}
use Rattle.zl_verify.proofs.Emptying.{without_all}
use Rattle.zl_verify.proofs.CallSites.{may_send}
use Rattle.zl_verify.proofs.Fitting.{Fits, results}
use Rattle.zl_verify.proofs.OwnTable.{removed_here, losing_all, losing_more, losing_seen}
use Rattle.zl_verify.proofs.Aligned.{IsAligned, aligned, operands_inside, results_inside}

-- ---- the tests of a rule that holds

-- the rule of a call that uses u holds at s, where its operands leave the state r; they lead to this on
pub record HasRule (i : Image) (s : State) (x : CallInstr) (u : Uses) (r : State) (w : Ways) : Type 0 where
  pub operands : examined_all s u.operands ≡ Ok r
  pub array : array_fault i u.array ≡ None
  pub range : range_fits i s u.range ≡ true
  pub count : count_fits i s u.array ≡ true
  pub declared : is_declared i u.condition ≡ true
  pub distinct : are_distinct u.results ≡ true
  pub free : has_one r u.results ≡ false
  pub leads : (if goes_on x.name then passes (with_all r u.results) else stops) ≡ w

same_Ok : {A : Type 0} (x y : A) → ◌≡◌ {A = Result A Cause} (Ok x) (Ok y) → x ≡ y
same_Ok x y e = cc

module _ (i : Image) (s : State) (x : CallInstr) (u : Uses) (r : State) (w : Ways) (operands : examined_all s u.operands ≡ Ok r)
    (array : array_fault i u.array ≡ None) where
  by_tests : (a b c d e f : Bool) → range_fits i s u.range ≡ b → count_fits i s u.array ≡ c → is_declared i u.condition ≡ d
      → are_distinct u.results ≡ e → has_one r u.results ≡ f
      → and_then (if not a then Err cause.NotWord else if not (b && c) then Err cause.MemoryRange else if not d then Err cause.UndeclaredNeed
      else if not e then Err cause.IllegalOp else if f then Err cause.Leak else Ok (with_all r u.results))
      (λ t. Ok (if goes_on x.name then passes t else stops)) ≡ Ok w → HasRule i s x u r w
  by_tests true true true true true false bs cs ds es fs h =
      record { operands = operands; array = array; range = bs; count = cs; declared = ds; distinct = es; free = fs; leads = same_Ok _ w h }
  by_tests _ _ _ _ _ _ bs cs ds es fs h = cc

  finished_by : and_then (finished i s r u) (λ t. Ok (if goes_on x.name then passes t else stops)) ≡ Ok w → HasRule i s x u r w
  finished_by h =
      by_tests (are_words s u.words) (range_fits i s u.range) (count_fits i s u.array) (is_declared i u.condition) (are_distinct u.results)
      (has_one r u.results) refl refl refl refl refl h

pub has_rule : (i : Image) (s : State) (x : CallInstr) (bounds : List ℕ) (w : Ways) → call_rule bounds i x s ≡ Ok w
    → (r : State) × HasRule i s x (uses_of bounds s x) r w
unfolding call_rule
has_rule i s x bounds w = by (examined_all s u.operands) refl (array_fault i u.array) refl
  where
    u : Uses
    u = uses_of bounds s x

    by : (o : Result State Cause) → examined_all s u.operands ≡ o → (c : Option Cause) → array_fault i u.array ≡ c
        → and_then (and_then o (λ t. finished_unless c i s t u)) (λ t. Ok (if goes_on x.name then passes t else stops)) ≡ Ok w
        → (r : State) × HasRule i s x u r w
    by (Err c) is o array h = cc
    by (Ok r) is (Some c) array h = cc
    by (Ok r) is None array h = (r, finished_by i s x u r w is array h)

-- places that are emptied are there, and their handles may be sent
pub may_empty : {f : Table} {i : Image} {s r : State} {w : Ways} (x : CallInstr) (c : Cpu) (t : Site) (bounds : List ℕ) → Holds f s c.registers i.slots c.slots
    → IsMemory i c.memory → site_of x c ≡ Some t → HasRule i s x (uses_of bounds s x) r w → MaySend i.slots t.emptied
may_empty {f} {i} {s} {r} {w} x c t bounds h memory site has =
    subst (MaySend i.slots) (sym (aligned bounds s x c t site).emptied) (may_send c h memory (uses_of bounds s x).array has.array has.count)

-- ---- what holds at the call

-- The process p of w, which is q, stands before the call at the site t, whose rule holds at s, where its operands leave the state r.
pub record Stands (w : World) (p : ℕ) (q : Process) (x : CallInstr) (t : Site) (s : State) (arrays : List SlotArray) (bounds : List ℕ)
    (r : State) : Type 0 where
  pub there : get w.processes p ≡ Some q
  pub site : site_of x q.cpu ≡ Some t
  pub holds : Holds (get q.handles) s q.cpu.registers arrays q.cpu.slots
  pub states : IsState s
  pub in_range : is_call_in_range x ≡ true
  pub operands : examined_all s (uses_of bounds s x).operands ≡ Ok r
  pub distinct : are_distinct (uses_of bounds s x).results ≡ true
  pub free : has_one r (uses_of bounds s x).results ≡ false
  pub allowed : by_policy w p (condition_of t.request) ≡ None
  -- places that are emptied are there, and their handles may be sent
  pub sends : MaySend arrays t.emptied

module _ {w : World} {p : ℕ} {q : Process} {x : CallInstr} {t : Site} {s : State} {arrays : List SlotArray} {bounds : List ℕ} {r : State}
    (k : Stands w p q x t s arrays bounds r) where
  abbrev u : Uses
  u = uses_of bounds s x

  is_aligned : IsAligned q.cpu t u
  is_aligned = aligned bounds s x q.cpu t k.site

  pub reads_own : Reads w p ≡ get q.handles
  reads_own = ap (λ o. get (handles_in o)) k.there

  pub passed : Passed w p q.cpu.registers arrays q.cpu.slots r q.cpu.registers [] u.operands
  passed =
      operands_from w p q.cpu.registers arrays q.cpu.slots u.operands s r
      (subst (λ f. Holds f s q.cpu.registers arrays q.cpu.slots) (sym reads_own) k.holds) k.states
      (operands_inside x k.in_range bounds s) is_aligned.plain k.operands

  -- the table without what was consumed from registers
  abbrev beside : Table
  beside = unseen (Reads w p) (seen_all q.cpu.registers [] u.operands)

  -- the values in the places that are emptied
  abbrev pub sent_values : List ℕ
  sent_values = sent_from q.cpu.slots t.emptied

  -- the table without all that was consumed
  abbrev pub left : Table
  left = without_all beside sent_values

  -- those values pass, and leave the table
  passed_slots : AreSendable beside sent_values
      × Holds left r (written q.cpu.registers (taken_registers u.operands) []) arrays (left_slots q.cpu.slots t.emptied)
  passed_slots = sent passed.holds passed.states t.emptied k.sends

  -- no handle operand is refused
  pub not_refused : examined_at w p [] (handle_operands t.request) ≡ None
  not_refused =
      ap (examined_at w p []) is_aligned.operands
      ∙ both_pass w p q.cpu.registers u.operands [] (given sent_values) passed.none
      (sent_pass w p sent_values (seen_all q.cpu.registers [] u.operands) passed_slots.0)

  -- the caller once its consumed handles have left
  pub taken_there : get (taken w p t).processes p ≡ Some (losing_all (taken_handles t.request) q)
  taken_there = removed_here (taken_handles t.request) w p q k.there

  pub left_there : get (losing_all (taken_handles t.request) q).handles ≡ left
  unfolding taken_handles
  left_there =
      ap (λ os. get (losing_all (their_values (only_taken os)) q).handles) is_aligned.operands
      ∙ (ap (λ vs. get (losing_all vs q).handles) (taken_and (map (valued q.cpu.registers) u.operands) sent_values)
      ∙ (losing_more (their_values (only_taken (map (valued q.cpu.registers) u.operands))) sent_values q
      ∙ ap (λ f. without_all f sent_values) (losing_seen (Reads w p) q.cpu.registers u.operands [] q (sym reads_own))))

  -- the registers once those of consumed operands are 0
  abbrev pub zeroed : List ℕ
  zeroed = written q.cpu.registers t.consumed []

  pub zeroed_hold : Holds left r zeroed arrays (left_slots q.cpu.slots t.emptied)
  zeroed_hold = rw is_aligned.consumed passed_slots.1

  -- what holds after an answer whose values fit the table f, beside which the registers and the slots of c are as before but for what is consumed
  pub answer_holds : (st : Status) (values : List ℕ) (c : Cpu) (f g : Table) → c.registers ≡ q.cpu.registers
      → Holds f r zeroed arrays (left_slots c.slots t.emptied) → Fits f r zeroed u.results (status_magnitude st ∷ values) g
      → Holds g (with_all r u.results) (cpu_answered t st values c).registers arrays (cpu_answered t st values c).slots
  unfolding answered
  answer_holds st values c f g same holds fits = rw (same, is_aligned.destinations)
      (results u.results (status_magnitude st ∷ values) f r zeroed arrays (left_slots c.slots t.emptied) g holds passed.states
      (results_inside x k.in_range bounds s) k.distinct k.free fits)
