-- Where the rule of an instruction holds, it leads to another, but for the exit.
use Rattle.zl_verify.proofs.Common.{AbsVal, Bool, CallInstr, CallName, Cause, Edge, Err, Has, IfOk, Image, Instr, Kind, KindOf, List, LocalInstr, None, Ok}
use Rattle.zl_verify.proofs.Common.{Option, Result, RightsOf, Some, State, Uses, Word, [], and_then, arith, becomes, below_ways, bounds_of, call_at, call_in}
use Rattle.zl_verify.proofs.Common.{call_rule, call_rule_by, capped, cond_both, edge_to, edges, eqb, equal_ways, false, goes_on, has_ways, if◌then◌else◌}
use Rattle.zl_verify.proofs.Common.{instr_at, is_pause, is_pause_name, is_some, kind_numbered, kind_ways, known_kind, known_other, known_there, known_zero}
use Rattle.zl_verify.proofs.Common.{length, local_rule, ltb, nat_tests, not, or_right, refined, refl, rule, rule_by, rule_with, same_kind, state_after, subst}
use Rattle.zl_verify.proofs.Common.{target_of, true, unless, uses_of, value_at, zero_ways, ℕ, ◌&&◌, ◌++◌, ◌+◌, ◌||◌, ◌∷◌, ◌≡◌, ◌≢◌}
use Rattle.zl_abs.specs.Outcome.{Outcome}
use Rattle.zl_code.specs.declared.instr.Instr.TheVariants as instr
use Rattle.zl_code.specs.declared.instr.LocalInstr.TheVariants as local
use Rattle.zl_code.specs.declared.history.CallName.TheVariants as name
use Rattle.zl_abs.specs.declared.cause.Cause.TheVariants as cause
use Rattle.zl_verify.proofs.PassingOn.{then_on, one, passes_on}

-- one of the two edges is followed
abbrev HasWay : Outcome → Type 0
HasWay w = (is_some w.jumped || is_some w.passed) ≡ true

-- ---- jumps: where the test can't succeed it can fail

exchanged : (p q : Bool) → (p || q) ≡ true → (q || p) ≡ true
exchanged true q h = or_right q true refl
exchanged false true h = refl
exchanged false false h = h

unless_ways : (x : Result Outcome Cause) → IfOk x HasWay → IfOk (unless x) HasWay
unless_ways (Err c) h = tt
unless_ways (Ok w) h = exchanged (is_some w.jumped) (is_some w.passed) h

zero_or_there : (s : State) (a r : ℕ) (v : AbsVal) → HasWay (record { jumped = becomes a 0 (known_zero s r v); passed = known_there s r v })
zero_or_there s a r (Has maybe k q) = or_right _ true refl
zero_or_there s a r _ = refl

kind_or_other : (s : State) (a imm r : ℕ) (k : Option Kind) (v : AbsVal)
    → HasWay (record { jumped = becomes a imm (known_kind s r k v); passed = known_other s k v })
kind_or_other s a imm r None v = refl
kind_or_other s a imm r (Some k) (Has maybe None q) = refl
kind_or_other s a imm r (Some k) (Has maybe (Some j) q) = by maybe (same_kind k j) (refined s r (Has false (Some k) q))
  where
    by : (m t : Bool) (u : State) → (is_some (becomes a imm (if t then Some u else None)) || is_some (if not m && t then None else Some s)) ≡ true
    by m true u = refl
    by true false u = refl
    by false false u = refl
kind_or_other s a imm r (Some k) _ = refl

kind_on : (s : State) (a imm r : ℕ) → HasWay (kind_ways s a imm r)
kind_on s a imm r =
    cond_both (eqb imm 0) _ _ HasWay (λ _. zero_or_there s a r (value_at s r)) (λ _. kind_or_other s a imm r (kind_numbered imm) (value_at s r))

-- two tests, of which the one isn't passed where the other is
either : (p q : Bool) (s u : State) → (p ≡ true → q ≡ false) → (is_some (if p then None else Some u) || is_some (if q then None else Some s)) ≡ true
either false q s u h = refl
either true false s u h = refl
either true true s u h = let z : true ≡ false = h refl in cc

equal_on : (s : State) (a imm : ℕ) (v : AbsVal) → IfOk (equal_ways s a imm v) HasWay
equal_on s a imm (Has maybe k r) = tt
equal_on s a imm (RightsOf r) = refl
equal_on s a imm (KindOf r) = kind_on s a imm r
equal_on s a imm (Word m) = by (ltb m (capped imm)) (eqb m 0 && eqb imm 0) (apart m imm)
  where
    apart : (m imm : ℕ) → ltb m (capped imm) ≡ true → (eqb m 0 && eqb imm 0) ≡ false
    apart m imm h = grind (arith, nat_tests)

    by : (p q : Bool) → (p ≡ true → q ≡ false) → (is_some (if p then None else becomes a imm (Some s)) || is_some (if q then None else Some s)) ≡ true
    by false q h = refl
    by true false h = refl
    by true true h = let z : true ≡ false = h refl in cc

zero_on : (s : State) (a : ℕ) (v : AbsVal) → IfOk (zero_ways s a v) HasWay
zero_on s a (Has maybe k r) = or_right _ true refl
zero_on s a v = equal_on s a 0 v

below_on : (s : State) (a imm : ℕ) → IfOk (below_ways s a imm) HasWay
below_on s a imm = one HasWay s a _ (λ m. either (eqb imm 0) (ltb m imm) s _ (apart m imm))
  where
    apart : (m imm : ℕ) → eqb imm 0 ≡ true → ltb m imm ≡ false
    apart m imm h = grind (arith, nat_tests)

has_on : (s : State) (imm : ℕ) (v : AbsVal) → IfOk (has_ways s imm v) HasWay
has_on s imm (Has maybe k r) = tt
has_on s imm (RightsOf r) = or_right _ true refl
has_on s imm _ = refl

-- ---- the rows

local_on : (bounds : List ℕ) (i : Image) (x : LocalInstr) (s : State) → IfOk (local_rule bounds i x s) HasWay
unfolding local_rule
local_on bounds i (local.Jump target) s = refl
local_on bounds i (local.JumpZero a target) s = zero_on s a (value_at s a)
local_on bounds i (local.JumpNotZero a target) s = unless_ways _ (zero_on s a (value_at s a))
local_on bounds i (local.JumpEqual a imm target) s = equal_on s a imm (value_at s a)
local_on bounds i (local.JumpNotEqual a imm target) s = unless_ways _ (equal_on s a imm (value_at s a))
local_on bounds i (local.JumpBelow a imm target) s = below_on s a imm
local_on bounds i (local.JumpNotBelow a imm target) s = unless_ways _ (below_on s a imm)
local_on bounds i (local.JumpHas a imm target) s = has_on s imm (value_at s a)
local_on bounds i (local.JumpHasNot a imm target) s = unless_ways _ (has_on s imm (value_at s a))
local_on bounds i (local.EndRep rep) s = or_right _ true refl
local_on bounds i x s = passes_on HasWay (λ t. refl) bounds i x s refl

answered_on : (i : Image) (s : State) (on : Bool) (u : Uses) → on ≡ true → IfOk (call_rule_by i s on u) HasWay
answered_on i s true u e = then_on HasWay (state_after i s u) _ (λ t. refl)
answered_on i s false u e = cc

-- each call but the exit goes on
no_exit : (n : CallName) → is_pause_name n ≡ false → goes_on n ≡ true
no_exit name.ProcessExit e = cc
no_exit _ e = refl

call_on : (bounds : List ℕ) (i : Image) (x : CallInstr) (s : State) → is_pause_name x.name ≡ false → IfOk (call_rule bounds i x s) HasWay
unfolding call_rule
call_on bounds i x s e = answered_on i s (goes_on x.name) (uses_of bounds s x) (no_exit x.name e)

-- ---- the edges

abbrev IsThere : List Edge → Type 0
IsThere [] = ⊥
IsThere (e ∷ es) = Unit {0}

some_edge : (size target next : ℕ) (c d : Cause) (o p : Option State) → (is_some o || is_some p) ≡ true
    → IfOk (and_then (edge_to size c target o) (λ xs. and_then (edge_to size d next p) (λ ys. Ok (xs ++ ys)))) IsThere
some_edge size target next c d None None h = cc
some_edge size target next c d None (Some s) h =
    cond_both (ltb next size) (Ok ((next, s) ∷ [])) (Err d) (λ r. IfOk (and_then r (λ ys. Ok ys)) IsThere) (λ _. tt) (λ _. tt)
some_edge size target next c d (Some s) p h = by (ltb target size) (edge_to size d next p)
  where
    by : (t : Bool) (r : Result (List Edge) Cause)
        → IfOk (and_then (if t then Ok ((target, s) ∷ []) else Err c) (λ xs. and_then r (λ ys. Ok (xs ++ ys)))) IsThere
    by true (Ok ys) = tt
    by true (Err x) = tt
    by false r = tt

edges_on : (size place target : ℕ) (x : Result Outcome Cause) → IfOk x HasWay → IfOk (and_then x (edges size place target)) IsThere
edges_on size place target (Err c) h = tt
edges_on size place target (Ok w) h = some_edge size target (place + 1) cause.BadJump cause.FallsOff w.jumped w.passed h

rule_on : (bounds : List ℕ) (i : Image) (n : ℕ) (s : State) → is_pause (call_at i n) ≡ false → IfOk (rule_with bounds i n s) IsThere
unfolding rule_with
rule_on bounds i n s e = by (instr_at i n) e
  where
    by : (o : Option Instr) → is_pause (call_in o) ≡ false → IfOk (rule_by bounds i n s o) IsThere
    by (Some (instr.Local x)) h = edges_on (length i.code) n (target_of x) (local_rule bounds i x s) (local_on bounds i x s)
    by (Some (instr.Call x)) h = edges_on (length i.code) n 0 (call_rule bounds i x s) (call_on bounds i x s h)
    by _ h = tt

-- where the rule holds of what is no pause, an edge is followed
pub leads_on : (i : Image) (n : ℕ) (s : State) (es : List Edge) → is_pause (call_at i n) ≡ false → rule i n s ≡ Ok es → es ≢ []
leads_on i n s es e h = there es (subst (λ r. IfOk r IsThere) h (rule_on (bounds_of i.code) i n s e))
  where
    there : (es : List Edge) → IsThere es → es ≢ []
    there [] k z = k
    there (x ∷ xs) k z = cc
