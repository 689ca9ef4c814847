-- An instruction that doesn't name a register hands it on, with no less in it, to the next.
use Rattle.zl_verify.proofs.Common.{ANY, AbsVal, Bool, Cause, Err, Has, IfOk, Image, Instr, IsAbove, IsTrue, IsTyping, KindOf, List, LocalInstr}
use Rattle.zl_verify.proofs.Common.{None, Ok, Operand, Option, Result, RightsOf, RuleHolds, SlotArray, Some, State, Uses, Word, [], all_below, and_then}
use Rattle.zl_verify.proofs.Common.{are_distinct, are_words, arith, array_fault, both, bounds_of, call_rule, call_rule_by, edges, eqb, examined_all}
use Rattle.zl_verify.proofs.Common.{examined_by, false, fault_of, finished_unless, goes_on, has_one, if◌then◌else◌, in_memory, instr_at, is_declared}
use Rattle.zl_verify.proofs.Common.{is_has, is_result, length, loads, local_rule, ltb, nat_tests, not, passes, range_fits, refl, rule_by, rule_with, slice_get}
use Rattle.zl_verify.proofs.Common.{slot_fault, stores, subst, suc, swaps_by, swaps_in, sym, taken_from, target_of, true, untagged, uses_of, value_at, with_all}
use Rattle.zl_verify.proofs.Common.{with_value, word_at, writes, zero, ℕ, ◌&&◌, ◌+◌, ◌∷◌, ◌≡◌, ◌||◌}
use Rattle.zl_abs.specs.CallRules.{count_fits}
use Rattle.zl_abs.specs.Outcome.{Outcome}
use Rattle.zl_abs.specs.Values.{below}
use Rattle.zl_abs.proofs.Order.{below_refl, below_trans}
use Rattle.zl_code.specs.declared.instr.Instr.TheVariants as instr
use Rattle.zl_code.specs.declared.instr.LocalInstr.TheVariants as local
use Rattle.zl_abs.specs.declared.cause.Cause.TheVariants as cause
use Rattle.zl_verify.specs.Handing.{AreKept, call_hands_on, hands_on, is_taken_at, keeps_by}
use Rattle.zl_verify.specs.Low.{Reaches}
use Rattle.zl_verify.proofs.Owners.{value_at-with}

-- ---- a write to another register

untagged_above : (r : ℕ) (v : AbsVal) → IsTrue (below v (untagged r v))
unfolding below
untagged_above r (Word m) = below_refl (Word m)
untagged_above r (Has maybe k q) = below_refl (Has maybe k q)
untagged_above r (KindOf s) = by (eqb s r)
  where
    by : (b : Bool) → IsTrue (below (KindOf s) (if b then Word ANY else KindOf s))
    by true = refl
    by false = below_refl (KindOf s)
untagged_above r (RightsOf s) = by (eqb s r)
  where
    by : (b : Bool) → IsTrue (below (RightsOf s) (if b then Word ANY else RightsOf s))
    by true = refl
    by false = below_refl (RightsOf s)

with_keeps : (s : State) (a r : ℕ) (v w : AbsVal) → eqb a r ≡ false → IsTrue (below w (value_at s r)) → IsTrue (below w (value_at (with_value s a v) r))
with_keeps s a r v w e h =
    rw (value_at-with s a r v (λ q. grind (arith, nat_tests))) (below_trans w (value_at s r) (untagged a (value_at s r)) h (untagged_above a (value_at s r)))

-- ---- the local instructions

-- the instruction is followed by the next alone, which has no less than v in the register
abbrev pub Hands : ℕ → AbsVal → Outcome → Type 0
Hands r v w = (t : State) × (w ≡ passes t) × IsTrue (below v (value_at t r))

pub is_not : (b : Bool) → not b ≡ true → b ≡ false
is_not true e = sym e
is_not false e = refl

module _ (s : State) (r : ℕ) (v : AbsVal) (h : IsTrue (below v (value_at s r))) where
  then_hands : {A : Type 0} (x : Result A Cause) (f : A → Result Outcome Cause) → ((a : A) → IfOk (f a) (Hands r v)) → IfOk (and_then x f) (Hands r v)
  then_hands (Err c) f k = tt
  then_hands (Ok a) f k = k a

  if_hands : (t : Bool) (x : Result Outcome Cause) (c : Cause) → IfOk x (Hands r v) → IfOk (if t then x else Err c) (Hands r v)
  if_hands true x c k = k
  if_hands false x c k = tt

  writes_hands : (a : ℕ) (w : AbsVal) → not (eqb a r) ≡ true → IfOk (writes s a w) (Hands r v)
  writes_hands a w e = by (is_has (value_at s a))
    where
      by : (b : Bool) → IfOk (if b then Err cause.Leak else Ok (passes (with_value s a w))) (Hands r v)
      by true = tt
      by false = (with_value s a w, refl, with_keeps s a r w v (is_not (eqb a r) e) h)

  one_hands : (b a : ℕ) (w : ℕ → AbsVal) → not (eqb a r) ≡ true → IfOk (and_then (word_at s b) (λ m. writes s a (w m))) (Hands r v)
  one_hands b a w e = then_hands (word_at s b) _ (λ m. writes_hands a (w m) e)

  two_hands : (b c a : ℕ) (w : ℕ → ℕ → AbsVal) → not (eqb a r) ≡ true
      → IfOk (and_then (word_at s b) (λ m. and_then (word_at s c) (λ n. writes s a (w m n)))) (Hands r v)
  two_hands b c a w e = then_hands (word_at s b) _ (λ m. then_hands (word_at s c) _ (λ n. writes_hands a (w m n) e))

  loads_hands : (i : Image) (n bound a b offset : ℕ) → not (eqb a r) ≡ true → IfOk (loads i s n bound a b offset) (Hands r v)
  loads_hands i n bound a b offset e = then_hands (word_at s b) _ (λ m. if_hands (in_memory i m offset n) _ _ (writes_hands a (Word bound) e))

  stores_hands : (i : Image) (n a b offset : ℕ) → IfOk (stores i s n a b offset) (Hands r v)
  stores_hands i n a b offset =
      then_hands (word_at s a) _ (λ m. then_hands (word_at s b) _ (λ x. if_hands (in_memory i m offset n) (Ok (passes s)) cause.MemoryRange (s, refl, h)))

  swap_hands : (a : ℕ) (t : SlotArray) (o : Option Cause) → not (eqb a r) ≡ true → IfOk (swaps_by s a t o) (Hands r v)
  swap_hands a t (Some c) e = tt
  swap_hands a t None e = (_, refl, with_keeps s a r _ v (is_not (eqb a r) e) h)

  swaps_hands : (a b : ℕ) (o : Option SlotArray) → not (eqb a r) ≡ true → IfOk (swaps_in s a b o) (Hands r v)
  swaps_hands a b None e = tt
  swaps_hands a b (Some t) e = then_hands (word_at s b) _ (λ place. if_hands (ltb place t.length) _ _ (swap_hands a t (slot_fault t (value_at s a)) e))

  pub local_hands : (bounds : List ℕ) (i : Image) (x : LocalInstr) → hands_on x r ≡ true → IfOk (local_rule bounds i x s) (Hands r v)
  unfolding local_rule
  local_hands bounds i (local.Const a imm) e = writes_hands a _ e
  local_hands bounds i (local.Move a b) e = one_hands b a _ e
  local_hands bounds i (local.Add a b c) e = two_hands b c a _ e
  local_hands bounds i (local.AddNumber a b imm) e = one_hands b a _ e
  local_hands bounds i (local.Subtract a b c) e = two_hands b c a _ e
  local_hands bounds i (local.And a b c) e = two_hands b c a _ e
  local_hands bounds i (local.Or a b c) e = two_hands b c a _ e
  local_hands bounds i (local.Xor a b c) e = two_hands b c a _ e
  local_hands bounds i (local.ShiftLeft a b imm) e = one_hands b a _ e
  local_hands bounds i (local.ShiftRight a b imm) e = one_hands b a _ e
  local_hands bounds i (local.Swap a b imm) e = swaps_hands a b (slice_get i.slots imm) e
  local_hands bounds i (local.LoadByte a b imm) e = loads_hands i 1 255 a b imm e
  local_hands bounds i (local.LoadWord a b imm) e = loads_hands i 8 ANY a b imm e
  local_hands bounds i (local.StoreByte a b imm) e = stores_hands i 1 a b imm
  local_hands bounds i (local.StoreWord a b imm) e = stores_hands i 8 a b imm
  local_hands bounds i (local.Rep imm end) e = (s, refl, h)
  local_hands bounds i _ e = cc

-- ---- the calls

neither : (a b : Bool) → (a || b) ≡ false → (a ≡ false) × (b ≡ false)
neither true b e = cc
neither false b e = (refl, e)

taken_keeps : (s : State) (o : Operand) (r : ℕ) (v : AbsVal) → (o.is_taken && eqb o.value r) ≡ false → IsTrue (below v (value_at s r))
    → IsTrue (below v (value_at (taken_from s o) r))
taken_keeps s o r v e h = by o.is_taken e
  where
    by : (b : Bool) → (b && eqb o.value r) ≡ false → IsTrue (below v (value_at (if b then with_value s o.value (Word 0) else s) r))
    by true e = with_keeps s o.value r (Word 0) v e h
    by false e = h

examined_keeps : (s : State) (os : List Operand) (r : ℕ) (v : AbsVal) → is_taken_at os r ≡ false → IsTrue (below v (value_at s r))
    → IfOk (examined_all s os) (λ t. IsTrue (below v (value_at t r)))
unfolding is_taken_at examined_all
examined_keeps s [] r v e h = h
examined_keeps s (o ∷ os) r v e h =
    let p = neither (o.is_taken && eqb o.value r) (is_taken_at os r) e in
    by (fault_of o (value_at s o.value)) (examined_keeps (taken_from s o) os r v p.1 (taken_keeps s o r v p.0 h))
  where
    by : (c : Option Cause) → IfOk (examined_all (taken_from s o) os) (λ t. IsTrue (below v (value_at t r)))
        → IfOk (and_then (examined_by s o c) (λ t. examined_all t os)) (λ t. IsTrue (below v (value_at t r)))
    by None k = k
    by (Some c) k = tt

with_all_keeps : (s : State) (xs : List (ℕ × AbsVal)) (r : ℕ) (v : AbsVal) → is_result xs r ≡ false → IsTrue (below v (value_at s r))
    → IsTrue (below v (value_at (with_all s xs) r))
unfolding with_all
with_all_keeps s [] r v e h = h
with_all_keeps s (x ∷ xs) r v e h =
    let p = neither (eqb x.0 r) (is_result xs r) e in with_all_keeps (with_value s x.0 x.1) xs r v p.1 (with_keeps s x.0 r x.1 v p.0 h)

pub call_hands : (i : Image) (s : State) (on : Bool) (u : Uses) (r : ℕ) (v : AbsVal) → call_hands_on on u r ≡ true → IsTrue (below v (value_at s r))
    → IfOk (call_rule_by i s on u) (Hands r v)
call_hands i s false u r v e h = cc
call_hands i s true u r v e h =
    let p = both (not (is_taken_at u.operands r)) (not (is_result u.results r)) e in
    by (examined_all s u.operands) (examined_keeps s u.operands r v (is_not _ p.0) h) (is_not _ p.1)
  where
    passed : (a b c d f : Bool) (t : State) → Hands r v (passes t)
        → IfOk (and_then
        (if a then Err cause.NotWord else if b then Err cause.MemoryRange else if c then Err cause.UndeclaredNeed
        else if d then Err cause.IllegalOp else if f then Err cause.Leak else Ok t) (λ t. Ok (passes t))) (Hands r v)
    passed true b c d f t k = tt
    passed false true c d f t k = tt
    passed false false true d f t k = tt
    passed false false false true f t k = tt
    passed false false false false true t k = tt
    passed false false false false false t k = k

    unless : (o : Option Cause) (t : State) → Hands r v (passes (with_all t u.results))
        → IfOk (and_then (finished_unless o i s t u) (λ t. Ok (passes t))) (Hands r v)
    unless (Some c) t k = tt
    unless None t k =
        passed (not (are_words s u.words)) (not (range_fits i s u.range && count_fits i s u.array)) (not (is_declared i u.condition))
        (not (are_distinct u.results)) (has_one t u.results) (with_all t u.results) k

    by : (x : Result State Cause) → IfOk x (λ t. IsTrue (below v (value_at t r))) → is_result u.results r ≡ false
        → IfOk (and_then (and_then x (λ t. finished_unless (array_fault i u.array) i s t u)) (λ t. Ok (passes t))) (Hands r v)
    by (Err c) k q = tt
    by (Ok t) k q = unless (array_fault i u.array) t (with_all t u.results, refl, with_all_keeps t u.results r v q k)

-- ---- any instruction

edges_hand : (t : ℕ → Option State) (size n target r : ℕ) (v : AbsVal)
    → ((s : State) → IsTrue (below v (value_at s r)) → IsAbove (t (n + 1)) s → Reaches (t (n + 1)) r v)
    → (x : Result Outcome Cause) → IfOk x (Hands r v) → RuleHolds t (and_then x (edges size n target)) → Reaches (t (n + 1)) r v
edges_hand t size n target r v low (Err c) h g = absurd g
edges_hand t size n target r v low (Ok w) (s, e, h) g = by (ltb (n + 1) size) (subst (λ (x : Outcome). RuleHolds t (edges size n target x)) e g)
  where
    by : (b : Bool) → RuleHolds t (and_then (if b then Ok ((n + 1, s) ∷ []) else Err cause.FallsOff) (λ ys. Ok ys)) → Reaches (t (n + 1)) r v
    by true g = low s h g.0
    by false g = absurd g

pub value_below : (s t : State) (r : ℕ) → IsTrue (all_below s t) → IsTrue (below (value_at s r) (value_at t r))
unfolding all_below
value_below [] [] r h = below_refl (Word 0)
value_below [] (b ∷ t) r h = cc
value_below (a ∷ s) [] r h = cc
value_below (a ∷ s) (b ∷ t) zero h = (both (below a b) (all_below s t) h).0
value_below (a ∷ s) (b ∷ t) (suc r) h = value_below s t r (both (below a b) (all_below s t) h).1

pub reaches_below : (o : Option State) (s : State) (r : ℕ) (v : AbsVal) → IsTrue (below v (value_at s r)) → IsAbove o s → Reaches o r v
reaches_below None s r v h a = a
reaches_below (Some t) s r v h a = below_trans v (value_at s r) (value_at t r) h (value_below s t r a)

one_on : (i : Image) (t : ℕ → Option State) → IsTyping i t → (n r : ℕ) (v : AbsVal) → ((s : State) → keeps_by i r s (instr_at i n) ≡ true) → Reaches (t n) r v
    → Reaches (t (n + 1)) r v
unfolding rule_with call_rule
one_on i t y n r v e h = by (t n) refl h
  where
    at_instr : (s : State) → IsTrue (below v (value_at s r)) → (o : Option Instr) → keeps_by i r s o ≡ true → RuleHolds t (rule_by (bounds_of i.code) i n s o)
        → Reaches (t (n + 1)) r v
    at_instr s h None e g = absurd g
    at_instr s h (Some (instr.Local x)) e g =
        edges_hand t (length i.code) n (target_of x) r v (λ u. reaches_below (t (n + 1)) u r v) (local_rule (bounds_of i.code) i x s)
        (local_hands s r v h (bounds_of i.code) i x e) g
    at_instr s h (Some (instr.Call x)) e g =
        edges_hand t (length i.code) n 0 r v (λ u. reaches_below (t (n + 1)) u r v) (call_rule (bounds_of i.code) i x s)
        (call_hands i s (goes_on x.name) (uses_of (bounds_of i.code) s x) r v e h) g
    at_instr s h (Some (instr.Unknown bytes)) e g = absurd g

    by : (o : Option State) → t n ≡ o → Reaches o r v → Reaches (t (n + 1)) r v
    by None q h = absurd h
    by (Some s) q h = at_instr s h (instr_at i n) (e s) (y.holds n s q)

-- what a typing has at least in a register, it has still where the register is next named
pub all_on : (i : Image) (t : ℕ → Option State) → IsTyping i t → (d n r p : ℕ) (v : AbsVal) → n + d ≡ p → AreKept i r n p → Reaches (t n) r v
    → Reaches (t p) r v
all_on i t y zero n r p v e k h = let q : n ≡ p = omega arith in subst (λ (x : ℕ). Reaches (t x) r v) q h
all_on i t y (suc d) n r p v e k h =
    all_on i t y d (n + 1) r p v (omega arith) (λ q a b. k q (omega arith) b) (one_on i t y n r v (k n (omega arith) (omega arith)) h)
