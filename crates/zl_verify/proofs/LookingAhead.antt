-- The edges that are followed from an instruction, at any state, are among those of the code alone, so what bounds
-- these bounds those.
use Rattle.zl_verify.proofs.Common.{AllByRecursion, AreAhead, Bool, CallInstr, Cause, Edge, Err, IfOk, Image, Instr, IsBoundOf, IsNested, IsPacked, IsTrue}
use Rattle.zl_verify.proofs.Common.{List, LocalInstr, Longest, None, Ok, Option, Result, Some, State, Targets, [], ahead, and_then, arith, at, bounds_of}
use Rattle.zl_verify.proofs.Common.{call_at, call_rule, edge_to, edges, false, goes_on, if◌then◌else◌, inl, inr, instr_at, is_in_range, is_pause, leads}
use Rattle.zl_verify.proofs.Common.{leads_by, length, length-set, local_at, local_in, local_parts, local_rule, map, marks_of, may_jump, nat_lt, onward}
use Rattle.zl_verify.proofs.Common.{option_to_list, passes, place_within, places, places_by, refl, rule, rule_by, rule_with, slice_get, slice_set, state_after}
use Rattle.zl_verify.proofs.Common.{stops, subst, target_of, targets_of, then_some, true, unless_pause, uses_of, ℕ, ◌&&◌, ◌++◌, ◌+◌, ◌<◌, ◌∙◌, ◌∷◌, ◌≡◌, ◌≤◌}
use Rattle.zl_abs.specs.Outcome.{Outcome}
use Rattle.zl_abs.specs.LocalRules.{ends_turn, goes_round_again}
use Rattle.zl_verify.specs.Ahead.{BoundsAll}
use Rattle.zl_verify.specs.Peaks.{numbers_by}
use Rattle.zl_code.specs.declared.instr.Instr.TheVariants as instr
use Rattle.zl_code.specs.declared.instr.LocalInstr.TheVariants as local
use Rattle.zl_abs.specs.declared.cause.Cause.TheVariants as cause
use Rattle.zl_verify.proofs.Places.{below_or_not, get_past, mapped, set_by}
use Rattle.zl_verify.proofs.PassingOn.{then_on, passes_on}
use Rattle.zl_verify.proofs.Blocked.{ahead_leads, count_marks, nested}
use Rattle.zl_verify.proofs.Walking.{narrower}

-- ---- a rule jumps only where its instruction is a jump, and there to its target

-- an edge to the target is followed only where this is it
abbrev Suits : Option ℕ → ℕ → Option State → Type 0
Suits None target o = o ≡ None
Suits (Some n) target o = n ≡ target

always : (P : Outcome → Type 0) (r : Result Outcome Cause) → ((w : Outcome) → P w) → IfOk r P
always P (Err c) h = tt
always P (Ok w) h = h w

local_suits : (bounds : List ℕ) (i : Image) (x : LocalInstr) (s : State) → IfOk (local_rule bounds i x s) (λ w. Suits (may_jump x) (target_of x) w.jumped)
unfolding local_parts
local_suits bounds i (local.Jump target) s = always _ _ (λ w. refl)
local_suits bounds i (local.JumpZero a target) s = always _ _ (λ w. refl)
local_suits bounds i (local.JumpNotZero a target) s = always _ _ (λ w. refl)
local_suits bounds i (local.JumpEqual a imm target) s = always _ _ (λ w. refl)
local_suits bounds i (local.JumpNotEqual a imm target) s = always _ _ (λ w. refl)
local_suits bounds i (local.JumpBelow a imm target) s = always _ _ (λ w. refl)
local_suits bounds i (local.JumpNotBelow a imm target) s = always _ _ (λ w. refl)
local_suits bounds i (local.JumpHas a imm target) s = always _ _ (λ w. refl)
local_suits bounds i (local.JumpHasNot a imm target) s = always _ _ (λ w. refl)
local_suits bounds i (local.EndRep rep) s = always _ _ (λ w. refl)
local_suits bounds i x s = passes_on (λ w. w.jumped ≡ None) (λ t. refl) bounds i x s refl

call_suits : (bounds : List ℕ) (i : Image) (x : CallInstr) (s : State) → IfOk (call_rule bounds i x s) (λ w. w.jumped ≡ None)
unfolding call_rule
call_suits bounds i x s = then_on (λ w. w.jumped ≡ None) (state_after i s (uses_of bounds s x)) _ (stays (goes_on x.name))
  where
    stays : (on : Bool) (t : State) → (if on then passes t else stops).jumped ≡ None
    stays true t = refl
    stays false t = refl

-- ---- what holds of the ends of the code's edges holds of those of the followed ones

module _ (P : ℕ → Type 0) where
  joined : (xs ys : List Edge) → AllByRecursion P (map (λ e. e.0) xs) → AllByRecursion P (map (λ e. e.0) ys) → AllByRecursion P (map (λ e. e.0) (xs ++ ys))
  joined [] ys h g = g
  joined (x ∷ xs) ys h g = (h.0, joined xs ys (h.1) g)

  second : (ms ns : List ℕ) → AllByRecursion P (ms ++ ns) → AllByRecursion P ns
  second [] ns h = h
  second (m ∷ ms) ns h = second ms ns (h.1)

  module _ (size place : ℕ) where
    -- behind these edges, the one to the next instruction
    behind : (xs : List Edge) (p : Option State) → AllByRecursion P (map (λ e. e.0) xs)
        → AllByRecursion P (option_to_list (place_within size (Some (place + 1))))
        → AllByRecursion P (targets_of (and_then (edge_to size cause.FallsOff (place + 1) p) (λ ys. Ok (xs ++ ys))))
    behind xs None h g = joined xs [] h tt
    behind xs (Some s) h g = by (nat_lt (place + 1) size) g
      where
        by : (b : Bool) → AllByRecursion P (option_to_list (if b then Some (place + 1) else None))
            → AllByRecursion P (targets_of (and_then (if b then Ok ((place + 1, s) ∷ []) else Err cause.FallsOff) (λ ys. Ok (xs ++ ys))))
        by true g = joined xs ((place + 1, s) ∷ []) h g
        by false g = tt

    edges_below : (j : Option ℕ) (target : ℕ) (o p : Option State) → Suits j target o
        → AllByRecursion P (option_to_list (place_within size j) ++ option_to_list (place_within size (Some (place + 1)))) → AllByRecursion P
        (targets_of (and_then (edge_to size cause.BadJump target o) (λ xs. and_then (edge_to size cause.FallsOff (place + 1) p) (λ ys. Ok (xs ++ ys)))))
    edges_below j target None p h g = behind [] p tt (second (option_to_list (place_within size j)) (option_to_list (place_within size (Some (place + 1)))) g)
    edges_below None target (Some s) p h g = cc
    edges_below (Some n) target (Some s) p h g =
        by (nat_lt target size)
        (subst (λ (m : ℕ). AllByRecursion P (option_to_list (place_within size (Some m)) ++ option_to_list (place_within size (Some (place + 1))))) h g)
      where
        by : (b : Bool) → AllByRecursion P (option_to_list (if b then Some target else None) ++ option_to_list (place_within size (Some (place + 1))))
            → AllByRecursion P (targets_of (and_then (if b then Ok ((target, s) ∷ []) else Err cause.BadJump)
            (λ xs. and_then (edge_to size cause.FallsOff (place + 1) p) (λ ys. Ok (xs ++ ys)))))
        by true g = behind ((target, s) ∷ []) p (g.0, tt) (g.1)
        by false g = tt

    through : (j : Option ℕ) (target : ℕ) (r : Result Outcome Cause) → IfOk r (λ w. Suits j target w.jumped)
        → AllByRecursion P (option_to_list (place_within size j) ++ option_to_list (place_within size (Some (place + 1))))
        → AllByRecursion P (targets_of (and_then r (edges size place target)))
    through j target (Err c) h g = tt
    through j target (Ok w) h g = edges_below j target w.jumped w.passed h g

  -- an endrep that isn't the last instruction leads back and on, else its rule doesn't hold
  end_ahead : (i : Image) (n rep : ℕ) (s : State) → AllByRecursion P (onward i n (Some (local.EndRep rep)))
      → AllByRecursion P (targets_of (and_then (Ok (ends_turn i.code s rep)) (edges (length i.code) n (rep + 1))))
  end_ahead i n rep s = by (nat_lt (n + 1) (length i.code)) (goes_round_again i.code rep)
    where
      back : (b : Bool) → AllByRecursion P (option_to_list (if b then Some (rep + 1) else None) ++ ((n + 1) ∷ []))
          → AllByRecursion P (targets_of (and_then (if b then Ok ((rep + 1, s) ∷ []) else Err cause.BadJump) (λ xs. Ok (xs ++ ((n + 1, s) ∷ [])))))
      back true g = g
      back false g = tt

      last : (b : Bool) → AllByRecursion P (targets_of (and_then {A = List Edge} {B = List Edge} (if b then Ok ((rep + 1, s) ∷ []) else Err cause.BadJump)
          (λ xs. Err cause.FallsOff)))
      last true = tt
      last false = tt

      by : (on again : Bool) → AllByRecursion P (option_to_list (place_within (length i.code) (then_some (on && again) (rep + 1)))
          ++ option_to_list (if on then Some (n + 1) else None))
          → AllByRecursion P (targets_of (and_then (edge_to (length i.code) cause.BadJump (rep + 1) (then_some again s))
          (λ xs. and_then (if on then Ok ((n + 1, s) ∷ []) else Err cause.FallsOff) (λ ys. Ok (xs ++ ys)))))
      by true true g = back (nat_lt (rep + 1) (length i.code)) g
      by true false g = g
      by false true g = last (nat_lt (rep + 1) (length i.code))
      by false false g = tt

  pub rule_ahead : (i : Image) (n : ℕ) (s : State) (o : Option Instr) → AllByRecursion P (onward i n (local_in o))
      → AllByRecursion P (targets_of (rule_by (bounds_of i.code) i n s o))
  unfolding local_rule
  rule_ahead i n s (Some (instr.Local (local.EndRep rep))) g = end_ahead i n rep s g
  rule_ahead i n s (Some (instr.Local x)) g =
      through (length i.code) n (may_jump x) (target_of x) (local_rule (bounds_of i.code) i x s) (local_suits (bounds_of i.code) i x s) g
  rule_ahead i n s (Some (instr.Call x)) g =
      through (length i.code) n None 0 (call_rule (bounds_of i.code) i x s) (call_suits (bounds_of i.code) i x s) g
  rule_ahead i n s _ g = tt

  leads_ahead : (i : Image) (n : ℕ) (o : Option State) → AllByRecursion P (ahead i n) → AllByRecursion P (leads_by i n o)
  unfolding rule_with
  leads_ahead i n None g = tt
  leads_ahead i n (Some s) g = by (is_pause (call_at i n)) g
    where
      by : (b : Bool) → AllByRecursion P (unless_pause b (onward i n (local_at i n))) → AllByRecursion P (if b then [] else targets_of (rule i n s))
      by true g = tt
      by false g = rule_ahead i n s (instr_at i n) g

-- ---- place by place

pub ahead_begins : (i : Image) (targets : List Targets) → length targets ≡ length i.code → AreAhead i targets 0
ahead_begins i targets h = record { long = h; same = λ n k. absurd (omega arith); packed = λ n k. absurd (omega arith) }

-- one more place has its targets
pub ahead_more : (i : Image) (targets : List Targets) (p : ℕ) (x : Targets) → AreAhead i targets p → p < length targets → places x ≡ ahead i p
    → IsPacked (Some x) → AreAhead i (slice_set targets p x) (p + 1)
ahead_more i targets p x a inside are packed = record {
  long = length-set targets p x ∙ a.long;
  same = set_by targets p x places_by (λ n ms. n < p + 1 → ms ≡ ahead i n) inside (λ h. are) (λ n d h. a.same n (omega arith));
  packed = set_by targets p x (λ o. o) (λ n o. n < p + 1 → IsPacked o) inside (λ h. packed) (λ n d h. a.packed n (omega arith));
}

pub ahead_nested : (i : Image) → IsTrue (is_in_range i) → (targets : List Targets) (p : ℕ) → AreAhead i targets p → length i.code ≤ p
    → IsNested (marks_of i.code) targets
ahead_nested i range targets p a past =
    nested i range targets (ahead i) a.long (λ n l. a.same n (omega (arith, a.long))) (λ n l. a.packed n (omega (arith, a.long))) (ahead_leads i range)

-- ---- the bound

pub bounds_all : (i : Image) (targets : List Targets) (pairs : List (Option Longest)) → AreAhead i targets (length i.code)
    → IsBoundOf (marks_of i.code) targets i.budget (numbers_by i pairs) → BoundsAll i pairs
bounds_all i targets pairs a b = record {
  bound = λ states long. record {
    within = λ n s cs q c. b.within n cs (let h = mapped states n s q in omega (arith, long, count_marks i.code)) c;
    falls = λ n cs c. elim (below_or_not n (length i.code)) [
      | inl h ↦ narrower (numbers_by i pairs) (numbers_by i pairs n cs) (slice_get (marks_of i.code) n) n cs (leads i (at states) n) (ahead i n)
          (λ P g. leads_ahead P i n (at states n) g) (rw (a.same n h) at (b.falls n cs c))
      | inr h ↦ rw (get_past states n (omega (arith, long))) tt
    ];
  };
}
