-- A process that conforms and stands at a call: the call, its site, and its rule, which holds there.
use Rattle.zl_verify.proofs.Common.{AtCall, CallInstr, CallName, Cause, Condition, Cpu, Err, Image, Instr, IsStuck, None, Ok, Option, Process, Result}
use Rattle.zl_verify.proofs.Common.{RuleHolds, Site, Some, StandsAtCall, State, Ways, World, and_then, ap, array_fault, both, bounds_of, by_policy, call_at}
use Rattle.zl_verify.proofs.Common.{call_in, call_row, call_rule, calls_at, edges, goes_on, if◌then◌else◌, in_range_at, inl, inr, instr_at, is_call_in_range}
use Rattle.zl_verify.proofs.Common.{is_declared, is_known, length, local_effect, moves, next_at, next_of, passes, ranges, refl, rule_with, site_of, stops, true}
use Rattle.zl_verify.proofs.Common.{uses_of, with_all, ℕ, ◌∙◌, ◌≡◌, ◌⊎◌}
use Rattle.zl_code.specs.declared.instr.Instr.TheVariants as instr
use Rattle.zl_verify.proofs.Aligned.{aligned}
use Rattle.zl_verify.proofs.Standing.{has_rule, may_empty, Stands}

-- ---- the call

-- the call that stands next
pub record IsAtCall (i : Image) (c : Cpu) (called : CallName) (s : Site) : Type 0 where
  pub call : CallInstr
  pub stands : instr_at i c.counter ≡ Some (instr.Call call)
  pub named : call.name ≡ called
  pub site : site_of call c ≡ Some s

module _ (i : Image) (c : Cpu) where
  pub at_call : (called : CallName) (s : Site) → next_at i c ≡ AtCall called s → IsAtCall i c called s
  unfolding next_at
  at_call called s = by (instr_at i c.counter) refl
    where
      one : (x : CallInstr) → instr_at i c.counter ≡ Some (instr.Call x) → (o : Option Site) → site_of x c ≡ o → calls_at x.name o ≡ AtCall called s
          → IsAtCall i c called s
      one x is None site e = cc
      one x is (Some u) site e =
          let named : x.name ≡ called = cc in
          let same : u ≡ s = cc in
          record { call = x; stands = is; named = named; site = site ∙ ap Some same }

      no_call : (o : Option Cpu) → moves o ≡ AtCall called s → ⊥
      no_call None e = cc
      no_call (Some d) e = cc

      by : (o : Option Instr) → instr_at i c.counter ≡ o → next_of o c ≡ AtCall called s → IsAtCall i c called s
      by (Some (instr.Local x)) is e = absurd (no_call (local_effect x c) e)
      by (Some (instr.Call x)) is e = one x is (site_of x c) refl e
      by _ is e = cc

  -- a call that isn't stuck is read
  pub reads : (call : CallInstr) → call_at i c.counter ≡ Some call → (next_at i c ≡ IsStuck) ⊎ ((s : Site) × (next_at i c ≡ AtCall call.name s))
  unfolding next_at
  reads call = by (instr_at i c.counter)
    where
      one : (x : CallInstr) → x ≡ call → (o : Option Site) → (calls_at x.name o ≡ IsStuck) ⊎ ((s : Site) × (calls_at x.name o ≡ AtCall call.name s))
      one x same None = inl refl
      one x same (Some s) = inr (s, ap (λ y. AtCall y.name s) same)

      by : (o : Option Instr) → call_in o ≡ Some call → (next_of o c ≡ IsStuck) ⊎ ((s : Site) × (next_of o c ≡ AtCall call.name s))
      by (Some (instr.Call x)) e = let same : x ≡ call = cc in one x same (site_of x c)
      by _ e = cc

-- ---- its rule

-- the rule of the call holds where it stands, and leads there
pub record IsRuled (i : Image) (t : ℕ → Option State) (w : World) (p : ℕ) (q : Process) (called : CallName) (s : Site) (state : State) : Type 0 where
  pub at : IsAtCall i q.cpu called s
  -- the state behind the operands
  pub left : State
  pub ways : Ways
  pub rule : call_rule (bounds_of i.code) i at.call state ≡ Ok ways
  pub array : array_fault i (uses_of (bounds_of i.code) state at.call).array ≡ None
  pub leads : (if goes_on at.call.name then passes (with_all left (uses_of (bounds_of i.code) state at.call).results) else stops) ≡ ways
  pub holds : RuleHolds t (and_then (Ok ways) (edges (length i.code) q.cpu.counter 0))
  pub before : Stands w p q at.call s state i.slots (bounds_of i.code) left

module _ (i : Image) (t : ℕ → Option State) (w : World) (p : ℕ) (q : Process) (called : CallName) (s : Site) (k : StandsAtCall i t w p q called s) where
  policy_allows : (c : Option Condition) → is_declared i c ≡ true → by_policy w p c ≡ None
  policy_allows None e = refl
  policy_allows (Some c) e = k.conforms.allowed c e

  module _ (at : IsAtCall i q.cpu called s) where
    holds_here : RuleHolds t (and_then (call_rule (bounds_of i.code) i at.call k.conforms.state) (edges (length i.code) q.cpu.counter 0))
    unfolding rule_with
    holds_here = rw at.stands at (k.typing.holds q.cpu.counter k.conforms.state k.conforms.stands)

    in_range_here : is_call_in_range at.call ≡ true
    in_range_here =
        (both (is_known i.version (call_row at.call.name).opcode) (is_call_in_range at.call)
        (rw at.stands at (in_range_at i.version i.raw i.code q.cpu.counter (ranges i k.range).code))).1

    ruled : (ways : Ways) → call_rule (bounds_of i.code) i at.call k.conforms.state ≡ Ok ways
        → RuleHolds t (and_then (Ok ways) (edges (length i.code) q.cpu.counter 0)) → IsRuled i t w p q called s k.conforms.state
    ruled ways is holds =
        let (r, has) = has_rule i k.conforms.state at.call (bounds_of i.code) ways is in
        record {
          at = at;
          left = r;
          ways = ways;
          rule = is;
          array = has.array;
          leads = has.leads;
          holds = holds;
          before = record {
            there = k.there;
            site = at.site;
            holds = k.conforms.holds;
            states = k.typing.state q.cpu.counter k.conforms.state k.conforms.stands;
            in_range = in_range_here;
            operands = has.operands;
            distinct = has.distinct;
            free = has.free;
            sends = may_empty at.call q.cpu s (bounds_of i.code) k.conforms.holds k.conforms.memory at.site has;
            allowed = ap (by_policy w p) (aligned (bounds_of i.code) k.conforms.state at.call q.cpu s at.site).condition ∙ policy_allows _ has.declared;
          };
        }

    by_rule : (x : Result Ways Cause) → call_rule (bounds_of i.code) i at.call k.conforms.state ≡ x
        → RuleHolds t (and_then x (edges (length i.code) q.cpu.counter 0)) → IsRuled i t w p q called s k.conforms.state
    by_rule (Err c) is holds = absurd holds
    by_rule (Ok ways) is holds = ruled ways is holds

  pub is_ruled : IsRuled i t w p q called s k.conforms.state
  is_ruled = let at = at_call i q.cpu called s k.next in by_rule at (call_rule (bounds_of i.code) i at.call k.conforms.state) refl (holds_here at)
