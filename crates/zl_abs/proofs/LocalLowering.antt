-- The rules of the local instructions at a state and at one below it.
use Rattle.zl_abs.proofs.Common.{ANY, AbsVal, Bool, Cause, Image, IsTrue, Kind, List, LocalInstr, None, Ok, Option, Result, Rights, SlotArray}
use Rattle.zl_abs.proofs.Common.{Some, State, Ways, and_parts, and_then, arith, below, bits, capped, eqb, false, if◌then◌else◌, in_memory, is_has, kind_below}
use Rattle.zl_abs.proofs.Common.{le-div, loads, local_rule, ltb, may_move, moved, nat_tests, not, passes, pow_pos, refl, shifted, slice_get, slot_fault}
use Rattle.zl_abs.proofs.Common.{slot_value, smaller, stores, swaps_by, swaps_in, takes, true, unless, value_at, within, word_at, ℕ, ◌&&◌, ◌+◌, ◌/◌, ◌<◌, ◌^◌}
use Rattle.zl_abs.proofs.Common.{◌||◌, ◌≡◌, ◌≤◌}
use Rattle.std.proofs.Math.Nat.{div-mul-le_self}
use Rattle.std.specs.Bool.{then_some}
use Rattle.zl_abs.specs.LocalRules.{goes_round_again}
use Rattle.zl_code.specs.declared.instr.LocalInstr.TheVariants as local
use Rattle.zl_abs.specs.declared.value.AbsVal.TheVariants.{Word, Has, KindOf, RightsOf}
use Rattle.zl_abs.specs.declared.cause.Cause.TheVariants as cause
use Rattle.zl_abs.proofs.Order.{below_refl, kind_trans, within_trans, parts}
use Rattle.zl_abs.proofs.Lowering.{Lowers, IsBelow, WaysBelow, lowers_then, lowers_if, lowers_unless, not_kept, value_below, with_below, moved_below, no_has}
use Rattle.zl_abs.proofs.Lowering.{WayBelow, both_by, word_at_below, writes_below, computes_below}
use Rattle.zl_abs.proofs.TestLowering.{zero_below, equal_below, below_below, has_below, tag_there, less_kept}
use Rattle.zl_code.proofs.Common.{not-false}
use Rattle.std.proofs.lemmas.Bool.{leb-true, le-leb}

abbrev Le : ℕ → ℕ → Type 0
Le m n = m ≤ n

-- ---- numbers

two : (s t : State) (b c : ℕ) (f g : ℕ → ℕ → Result Ways Cause) → IsBelow s t → ((m n m2 n2 : ℕ) → m ≤ m2 → n ≤ n2 → Lowers WaysBelow (f m n) (g m2 n2))
    → Lowers WaysBelow (and_then (word_at s b) (λ m. and_then (word_at s c) (λ n. f m n))) (and_then (word_at t b) (λ m. and_then (word_at t c) (λ n. g m n)))
two s t b c f g h k =
    lowers_then Le WaysBelow (word_at s b) (word_at t b) _ _ (word_at_below s t b h)
    (λ m m2 p. lowers_then Le WaysBelow (word_at s c) (word_at t c) _ _ (word_at_below s t c h) (λ n n2 q. k m n m2 n2 p q))

one : (s t : State) (b : ℕ) (f g : ℕ → Result Ways Cause) → IsBelow s t → ((m m2 : ℕ) → m ≤ m2 → Lowers WaysBelow (f m) (g m2))
    → Lowers WaysBelow (and_then (word_at s b) f) (and_then (word_at t b) g)
one s t b f g h k = lowers_then Le WaysBelow (word_at s b) (word_at t b) f g (word_at_below s t b h) k

sum_below : (m n m2 n2 : ℕ) → m ≤ m2 → n ≤ n2 → capped (m + n) ≤ capped (m2 + n2)
sum_below m n m2 n2 h k = omega arith

smaller_below : (m n m2 n2 : ℕ) → m ≤ m2 → n ≤ n2 → smaller m n ≤ smaller m2 n2
smaller_below m n m2 n2 h k = grind (arith, nat_tests)

any_below : IsTrue (below (Word ANY) (Word ANY))
any_below = below_refl (Word ANY)

fits_below : (i : Image) (m m2 offset n : ℕ) → m ≤ m2 → in_memory i m2 offset n ≡ true → in_memory i m offset n ≡ true
fits_below i m m2 offset n h k = le-leb _ _ (let e = leb-true (m2 + (offset + n)) i.memory k in omega arith)

loads_below : (i : Image) (s t : State) (n bound a b offset : ℕ) → IsBelow s t → Lowers WaysBelow (loads i s n bound a b offset) (loads i t n bound a b offset)
loads_below i s t n bound a b offset h =
    one s t b _ _ h (λ m m2 p. lowers_if WaysBelow (in_memory i m offset n) (in_memory i m2 offset n) _ _ _ _ (fits_below i m m2 offset n p)
    (writes_below s t a _ _ h (below_refl (Word bound))))

stores_below : (i : Image) (s t : State) (n a b offset : ℕ) → IsBelow s t → Lowers WaysBelow (stores i s n a b offset) (stores i t n a b offset)
stores_below i s t n a b offset h =
    two s t a b _ _ h (λ m x m2 x2 p q. lowers_if WaysBelow (in_memory i m offset n) (in_memory i m2 offset n) (Ok (passes s)) (Ok (passes t)) _ _
    (fits_below i m m2 offset n p) (tt, h))

-- ---- moves

move_below : (v w : AbsVal) → IsTrue (below v w) → may_move w ≡ true → may_move v ≡ true
unfolding below
move_below (Word m) (Word n) h k = grind (arith, nat_tests)
move_below (Word m) (Has x y z) h k = (and_parts (eqb m 0) x h).0
move_below (Has _ _ _) w h k = refl
move_below (KindOf _) (Word n) h k = absurd (tag_there n h k)
move_below (RightsOf _) (Word n) h k = absurd (tag_there n h k)
move_below _ _ h k = cc

takes_below : (s t : State) (a b : ℕ) → IsBelow s t → Lowers WaysBelow (takes s a b) (takes t a b)
takes_below s t a b h =
    let v = value_below s t b h in
    lowers_unless WaysBelow (eqb a b) (eqb a b) _ _ _ _ (λ e. e)
    (lowers_unless WaysBelow (not (may_move (value_at s b))) (not (may_move (value_at t b))) _ _ _ _ (not_kept _ _ (move_below _ _ v))
    (lowers_unless WaysBelow (is_has (value_at s a)) (is_has (value_at t a)) (Ok (passes (moved s a b (value_at s b))))
    (Ok (passes (moved t a b (value_at t b)))) _ _
    (no_has _ _ (value_below s t a h)) (tt, moved_below s t a b _ _ h v)))

-- ---- slot arrays

pub no_some : {A : Type 0} (x : A) → Some x ≡ None → ⊥
no_some x e = cc

two_faults : (p q : Bool) (c d : Cause) → (if p then Some c else (if q then Some d else None)) ≡ None → (p ≡ false) × (q ≡ false)
two_faults false false c d e = (refl, refl)
two_faults _ _ c d e = cc

has_enters : (x : SlotArray) (m m2 : Bool) (k k2 : Option Kind) (r r2 : Rights) → ((not m || m2) && (kind_below k k2 && within (bits r2) (bits r))) ≡ true
    → slot_fault x (Has m2 k2 r2) ≡ None → slot_fault x (Has m k r) ≡ None
has_enters x m m2 k k2 r r2 h e =
    let p = parts (not m || m2) (kind_below k k2) (within (bits r2) (bits r)) h in
    let f = two_faults (not (kind_below k2 x.kind)) (not (within (bits x.rights) (bits r2))) cause.WrongKind cause.LacksRight e in
    let a = kind_trans k k2 x.kind p.1 (not-false _ f.0) in
    let b = within_trans (bits r) (bits r2) (bits x.rights) p.2 (not-false _ f.1) in
    rw (a, b) refl

word_enters : (t : Bool) (c : Cause) → (if t then None else Some c) ≡ None → t ≡ true
word_enters true c e = refl
word_enters false c e = cc

enters_below : (x : SlotArray) (v w : AbsVal) → IsTrue (below v w) → slot_fault x w ≡ None → slot_fault x v ≡ None
unfolding below
enters_below x (Word m) (Word n) h e = let z = word_enters (eqb n 0) cause.NotLive e in let y : eqb m 0 ≡ true = grind (arith, nat_tests) in rw y refl
enters_below x (Word m) (Has b k r) h e = let y = (and_parts (eqb m 0) b h).0 in rw y refl
enters_below x (Has m k r) (Has m2 k2 r2) h e = has_enters x m m2 k k2 r r2 h e
enters_below x (KindOf _) (Word n) h e = absurd (tag_there n h (word_enters (eqb n 0) cause.NotLive e))
enters_below x (RightsOf _) (Word n) h e = absurd (tag_there n h (word_enters (eqb n 0) cause.NotLive e))
enters_below x _ _ h e = cc

swap_below : (s t : State) (a : ℕ) (x : SlotArray) (o p : Option Cause) → IsBelow s t → (p ≡ None → o ≡ None)
    → Lowers WaysBelow (swaps_by s a x o) (swaps_by t a x p)
swap_below s t a x o (Some c) h k = tt
swap_below s t a x None None h k = (tt, with_below s t a _ _ h (below_refl (slot_value x)))
swap_below s t a x (Some c) None h k = absurd (no_some c (k refl))

swaps_below : (s t : State) (a b : ℕ) (o : Option SlotArray) → IsBelow s t → Lowers WaysBelow (swaps_in s a b o) (swaps_in t a b o)
swaps_below s t a b None h = tt
swaps_below s t a b (Some x) h =
    one s t b _ _ h (λ m m2 p. lowers_if WaysBelow (ltb m x.length) (ltb m2 x.length) _ _ _ _ (less_kept m m2 x.length p)
    (swap_below s t a x _ _ h (enters_below x (value_at s a) (value_at t a) (value_below s t a h))))

-- ---- shifts

div_kept : (m n k : ℕ) → 0 < k → m ≤ n → m / k ≤ n / k
div_kept m n k p h = le-div (m / k) n k p (let e = div-mul-le_self m k in omega arith)

pub shifted_below : (m m2 places : ℕ) → m ≤ m2 → shifted m places ≤ shifted m2 places
shifted_below m m2 places h = both_by (λ x y. x ≤ y) (ltb places 64) _ 0 _ 0 (div_kept m m2 (2 ^ places) (pow_pos places) h) (omega arith)

-- ---- the rows

unless_below : (x y : Result Ways Cause) → Lowers WaysBelow x y → Lowers WaysBelow (unless x) (unless y)
unless_below x y h = lowers_then WaysBelow WaysBelow x y _ _ h (λ v w k. (k.1, k.0))

again_below : (b : Bool) (s t : State) → IsBelow s t → WayBelow (then_some b s) (then_some b t)
again_below true s t h = h
again_below false s t h = tt

pub local_below : (bounds : List ℕ) (i : Image) (x : LocalInstr) (s t : State) → IsBelow s t
    → Lowers WaysBelow (local_rule bounds i x s) (local_rule bounds i x t)
unfolding local_rule
local_below bounds i (local.Const a imm) s t h = writes_below s t a _ _ h (below_refl (Word (capped imm)))
local_below bounds i (local.Move a b) s t h = one s t b _ _ h (λ m m2 p. writes_below s t a _ _ h (value_below s t b h))
local_below bounds i (local.Add a b c) s t h = two s t b c _ _ h (λ m n m2 n2 p q. computes_below bounds s t a _ _ h (sum_below m n m2 n2 p q))
local_below bounds i (local.AddNumber a b imm) s t h = one s t b _ _ h (λ m m2 p. computes_below bounds s t a _ _ h (sum_below m imm m2 imm p (omega arith)))
local_below bounds i (local.Subtract a b c) s t h = two s t b c _ _ h (λ m n m2 n2 p q. writes_below s t a _ _ h any_below)
local_below bounds i (local.And a b c) s t h = two s t b c _ _ h (λ m n m2 n2 p q. computes_below bounds s t a _ _ h (smaller_below m n m2 n2 p q))
local_below bounds i (local.Or a b c) s t h = two s t b c _ _ h (λ m n m2 n2 p q. writes_below s t a _ _ h any_below)
local_below bounds i (local.Xor a b c) s t h = two s t b c _ _ h (λ m n m2 n2 p q. writes_below s t a _ _ h any_below)
local_below bounds i (local.ShiftLeft a b imm) s t h = one s t b _ _ h (λ m m2 p. writes_below s t a _ _ h any_below)
local_below bounds i (local.ShiftRight a b imm) s t h = one s t b _ _ h (λ m m2 p. computes_below bounds s t a _ _ h (shifted_below m m2 imm p))
local_below bounds i (local.Take a b) s t h = takes_below s t a b h
local_below bounds i (local.Swap a b imm) s t h = swaps_below s t a b (slice_get i.slots imm) h
local_below bounds i (local.LoadByte a b imm) s t h = loads_below i s t 1 255 a b imm h
local_below bounds i (local.LoadWord a b imm) s t h = loads_below i s t 8 ANY a b imm h
local_below bounds i (local.StoreByte a b imm) s t h = stores_below i s t 1 a b imm h
local_below bounds i (local.StoreWord a b imm) s t h = stores_below i s t 8 a b imm h
local_below bounds i (local.Jump target) s t h = (h, tt)
local_below bounds i (local.JumpZero a target) s t h = zero_below s t a h
local_below bounds i (local.JumpNotZero a target) s t h = unless_below _ _ (zero_below s t a h)
local_below bounds i (local.JumpEqual a imm target) s t h = equal_below s t a imm h
local_below bounds i (local.JumpNotEqual a imm target) s t h = unless_below _ _ (equal_below s t a imm h)
local_below bounds i (local.JumpBelow a imm target) s t h = below_below s t a imm h
local_below bounds i (local.JumpNotBelow a imm target) s t h = unless_below _ _ (below_below s t a imm h)
local_below bounds i (local.JumpHas a imm target) s t h = has_below s t a imm h
local_below bounds i (local.JumpHasNot a imm target) s t h = unless_below _ _ (has_below s t a imm h)
local_below bounds i (local.Rep imm end) s t h = (tt, h)
local_below bounds i (local.EndRep rep) s t h = (again_below (goes_round_again i.code rep) s t h, h)
