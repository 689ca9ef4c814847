-- The rule of each instruction leads from a fine state to fine states.
use Rattle.zl_abs.proofs.Common.{ANY, AbsVal, AllFine, Bool, CallInstr, Cause, Decides-eqb, Edge, Err, Fits, Gives, IfOk, IfSome, Image, Instr, IsFine}
use Rattle.zl_abs.proofs.Common.{IsTrue, KNOWN_RIGHTS, Kind, List, LocalInstr, None, Ok, Operand, Option, Result, SAME_RIGHTS, SlotArray, Some, State, Uses}
use Rattle.zl_abs.proofs.Common.{Ways, [], and_le_r, and_parts, and_then, are_distinct, are_words, arith, array_fault, bit_and, bits, call_reading, call_row}
use Rattle.zl_abs.proofs.Common.{call_rule, capped, computes, copies, count_fits, edge_to, edges, eqb, examined, examined_all, examined_by, false, fault_of}
use Rattle.zl_abs.proofs.Common.{finished_unless, gives, goes_on, has_one, if◌then◌else◌, in_memory, instr_at, is_call_in_range, is_declared, is_has}
use Rattle.zl_abs.proofs.Common.{is_in_range, is_instr_in_range, is_local_in_range, is_room, is_slot_in_range, is_written, least_from, leb, length, list_all}
use Rattle.zl_abs.proofs.Common.{loads, local_parts, local_rule, ltb, makes, map, may_move, moved, names_registers, narrowed_value, nat_lt, nat_tests, new}
use Rattle.zl_abs.proofs.Common.{not, nothing, number_at, packet, packet_values, passes, range_fits, ranges, received_in, refl, rights_of, rounded, rule_by}
use Rattle.zl_abs.proofs.Common.{rule_with, signals, sizes, slice_get, slice_index, slot_fault, slot_value, state_after, stops, stores, subst, suc, swaps_by}
use Rattle.zl_abs.proofs.Common.{swaps_in, taken_from, takes, target_of, tells, those, triple_results, true, unless, uses_of, value_at, values_by, values_of}
use Rattle.zl_abs.proofs.Common.{whole, with_all, with_value, word_at, writes, zero, zip, ℕ, ◌&&◌, ◌*◌, ◌++◌, ◌+◌, ◌<◌, ◌∷◌, ◌≡◌, ◌≤◌}
use Rattle.zl_rights.specs.declared.kind.Kind.TheVariants as kind
use Rattle.zl_code.specs.declared.instr.Instr.TheVariants as instr
use Rattle.std.specs.Bool.{then_some}
use Rattle.zl_code.specs.declared.image.Version.{Version}
use Rattle.zl_abs.specs.LocalRules.{goes_round_again}
use Rattle.zl_code.specs.declared.instr.LocalInstr.TheVariants as local
use Rattle.zl_code.specs.declared.layout.Ending.{Ending}
use Rattle.zl_code.specs.declared.layout.Ending.TheVariants as ending
use Rattle.zl_abs.specs.declared.value.AbsVal.TheVariants.{Word, Has, KindOf, RightsOf}
use Rattle.zl_abs.specs.declared.cause.Cause.TheVariants as cause
use Rattle.zl_abs.proofs.FineStates.{Suits, Named, is_plain, named_self, named_there, plain_suits, fine_with, fine_moved, rights_fit}
use Rattle.zl_abs.proofs.FineTests.{FineWays, then_fine, IsBound, word_fine, zero_fine, equal_fine, below_fine, has_fine}
use Rattle.zl_code.proofs.Common.{not-false, or_parts}
use Rattle.zl_code.specs.Refusals.{needs}
use Rattle.zl_code.specs.Spells.{are_registers}
use Rattle.zl_code.specs.declared.history.CallName.{CallName}
use Rattle.zl_code.specs.declared.history.CallName.TheVariants as call
use Rattle.std.proofs.lemmas.Bool.{cond_both, ltb-true}

if_fine : {B : Type 0} (Q : B → Type 0) (t : Bool) (x : Result B Cause) (c : Cause) → IfOk x Q → IfOk (if t then x else Err c) Q
if_fine Q true x c h = h
if_fine Q false x c h = tt

unless_fine : {B : Type 0} (Q : B → Type 0) (t : Bool) (x : Result B Cause) (c : Cause) → (t ≡ false → IfOk x Q) → IfOk (if t then Err c else x) Q
unless_fine Q true x c h = tt
unless_fine Q false x c h = h refl

-- ---- numbers

least_fits : (bs : List ℕ) (n best : ℕ) → best ≤ ANY → least_from n best bs ≤ ANY
unfolding least_from
least_fits [] n best h = h
least_fits (b ∷ bs) n best h = least_fits bs n _ (one n best b h)
  where
    one : (n best b : ℕ) → best ≤ ANY → (if leb n b && ltb b best then b else best) ≤ ANY
    one n best b h = grind (arith, nat_tests)

rounded_fits : (bounds : List ℕ) (n : ℕ) → rounded bounds n ≤ ANY
rounded_fits bounds n = least_fits bounds n ANY (omega arith)

writes_fine : (s : State) (r : ℕ) (v : AbsVal) → IsFine s → Suits s v → IfOk (writes s r v) FineWays
writes_fine s r v h k = unless_fine FineWays (is_has (value_at s r)) (Ok (passes (with_value s r v))) cause.Leak (λ _. (tt, fine_with s r v h k))

writes_word : (s : State) (r n : ℕ) → IsFine s → n ≤ ANY → IfOk (writes s r (Word n)) FineWays
writes_word s r n h k = writes_fine s r (Word n) h (k, refl)

computes_fine : (bounds : List ℕ) (s : State) (r n : ℕ) → IsFine s → IfOk (computes bounds s r n) FineWays
computes_fine bounds s r n h = writes_word s r (rounded bounds n) h (rounded_fits bounds n)

one : (s : State) (b : ℕ) (f : ℕ → Result Ways Cause) → IsFine s → ((m : ℕ) → IfOk (f m) FineWays) → IfOk (and_then (word_at s b) f) FineWays
one s b f h k = then_fine (IsBound (value_at s b)) FineWays (word_at s b) f (word_fine s b h) (λ m p. k m)

two : (s : State) (b c : ℕ) (f : ℕ → ℕ → Result Ways Cause) → IsFine s → ((m n : ℕ) → IfOk (f m n) FineWays)
    → IfOk (and_then (word_at s b) (λ m. and_then (word_at s c) (λ n. f m n))) FineWays
two s b c f h k = one s b _ h (λ m. one s c (f m) h (k m))

loads_fine : (i : Image) (s : State) (n bound a b offset : ℕ) → IsFine s → bound ≤ ANY → IfOk (loads i s n bound a b offset) FineWays
loads_fine i s n bound a b offset h k = one s b _ h (λ m. if_fine FineWays (in_memory i m offset n) _ _ (writes_word s a bound h k))

stores_fine : (i : Image) (s : State) (n a b offset : ℕ) → IsFine s → IfOk (stores i s n a b offset) FineWays
stores_fine i s n a b offset h = two s a b _ h (λ m x. if_fine FineWays (in_memory i m offset n) (Ok (passes s)) cause.MemoryRange (tt, h))

-- ---- moves

may_named : (v : AbsVal) → not (may_move v) ≡ false → Named v
may_named (Word m) h = not-false (eqb m 0) h
may_named (Has a k q) h = refl
may_named _ h = cc

takes_fine : (s : State) (a b : ℕ) → IsFine s → a < 32 → IfOk (takes s a b) FineWays
takes_fine s a b h less =
    unless_fine FineWays (eqb a b) _ _ (λ _. unless_fine FineWays (not (may_move (value_at s b))) _ _ (λ e.
    unless_fine FineWays (is_has (value_at s a)) (Ok (passes (moved s a b (value_at s b)))) cause.Leak (λ _.
    (tt, fine_moved s a b (value_at s b) h less (h.fits b, h.state.tags b) (may_named (value_at s b) e)))))

swap_fine : (s : State) (a : ℕ) (t : SlotArray) (o : Option Cause) → IsFine s → Fits (slot_value t) → IfOk (swaps_by s a t o) FineWays
swap_fine s a t (Some c) h k = tt
swap_fine s a t None h k = (tt, fine_with s a (slot_value t) h (k, refl))

swaps_fine : (s : State) (a b : ℕ) (o : Option SlotArray) → IsFine s → IfSome o (λ t. Fits (slot_value t)) → IfOk (swaps_in s a b o) FineWays
swaps_fine s a b None h k = tt
swaps_fine s a b (Some t) h k = one s b _ h (λ place. if_fine FineWays (ltb place t.length) _ _ (swap_fine s a t (slot_fault t (value_at s a)) h k))

slots_fit : (slots : List SlotArray) (n : ℕ) → list_all is_slot_in_range slots ≡ true → IfSome (slice_get slots n) (λ t. Fits (slot_value t))
slots_fit [] n h = tt
slots_fit (t ∷ slots) zero h =
    let p = (and_parts (is_slot_in_range t) (list_all is_slot_in_range slots) h).0 in
    rights_fit t.kind (bits t.rights) (and_parts _ _ (and_parts _ _ p).1).1
slots_fit (t ∷ slots) (suc n) h = slots_fit slots n (and_parts (is_slot_in_range t) (list_all is_slot_in_range slots) h).1

-- ---- the local instructions

unless_ways : (x : Result Ways Cause) → IfOk x FineWays → IfOk (unless x) FineWays
unless_ways (Err c) h = tt
unless_ways (Ok w) h = (h.1, h.0)

take_in_range : (a b : ℕ) → is_local_in_range (local.Take a b) ≡ true → a < 32
unfolding local_parts
take_in_range a b h = grind (arith, nat_tests)

again_fine : (b : Bool) (s : State) → IsFine s → IfSome (then_some b s) IsFine
again_fine true s h = h
again_fine false s h = tt

pub local_fine : (bounds : List ℕ) (i : Image) (x : LocalInstr) (s : State) → IsTrue (is_in_range i) → is_local_in_range x ≡ true → IsFine s
    → IfOk (local_rule bounds i x s) FineWays
unfolding local_rule
local_fine bounds i (local.Const a imm) s g r h = writes_word s a (capped imm) h (omega arith)
local_fine bounds i (local.Move a b) s g r h = one s b _ h (λ m. writes_fine s a (value_at s b) h (h.fits b, h.state.tags b))
local_fine bounds i (local.Add a b c) s g r h = two s b c _ h (λ m n. computes_fine bounds s a _ h)
local_fine bounds i (local.AddNumber a b imm) s g r h = one s b _ h (λ m. computes_fine bounds s a _ h)
local_fine bounds i (local.Subtract a b c) s g r h = two s b c _ h (λ m n. writes_word s a ANY h (omega arith))
local_fine bounds i (local.And a b c) s g r h = two s b c _ h (λ m n. computes_fine bounds s a _ h)
local_fine bounds i (local.Or a b c) s g r h = two s b c _ h (λ m n. writes_word s a ANY h (omega arith))
local_fine bounds i (local.Xor a b c) s g r h = two s b c _ h (λ m n. writes_word s a ANY h (omega arith))
local_fine bounds i (local.ShiftLeft a b imm) s g r h = one s b _ h (λ m. writes_word s a ANY h (omega arith))
local_fine bounds i (local.ShiftRight a b imm) s g r h = one s b _ h (λ m. computes_fine bounds s a _ h)
local_fine bounds i (local.Take a b) s g r h = takes_fine s a b h (take_in_range a b r)
local_fine bounds i (local.Swap a b imm) s g r h = swaps_fine s a b (slice_get i.slots imm) h (slots_fit i.slots imm (ranges i g).slots)
local_fine bounds i (local.LoadByte a b imm) s g r h = loads_fine i s 1 255 a b imm h (omega arith)
local_fine bounds i (local.LoadWord a b imm) s g r h = loads_fine i s 8 ANY a b imm h (omega arith)
local_fine bounds i (local.StoreByte a b imm) s g r h = stores_fine i s 1 a b imm h
local_fine bounds i (local.StoreWord a b imm) s g r h = stores_fine i s 8 a b imm h
local_fine bounds i (local.Jump target) s g r h = (h, tt)
local_fine bounds i (local.JumpZero a target) s g r h = zero_fine s a h
local_fine bounds i (local.JumpNotZero a target) s g r h = unless_ways _ (zero_fine s a h)
local_fine bounds i (local.JumpEqual a imm target) s g r h = equal_fine s a imm h
local_fine bounds i (local.JumpNotEqual a imm target) s g r h = unless_ways _ (equal_fine s a imm h)
local_fine bounds i (local.JumpBelow a imm target) s g r h = below_fine s a imm h
local_fine bounds i (local.JumpNotBelow a imm target) s g r h = unless_ways _ (below_fine s a imm h)
local_fine bounds i (local.JumpHas a imm target) s g r h = has_fine s a imm h
local_fine bounds i (local.JumpHasNot a imm target) s g r h = unless_ways _ (has_fine s a imm h)
local_fine bounds i (local.Rep imm end) s g r h = (tt, h)
local_fine bounds i (local.EndRep rep) s g r h = (again_fine (goes_round_again i.code rep) s h, h)

-- ---- the calls

taken_fine : (s : State) (o : Operand) → IsFine s → IsFine (taken_from s o)
taken_fine s o h = cond_both o.is_taken (with_value s o.value (Word 0)) s IsFine (λ _. fine_with s o.value (Word 0) h (omega arith, refl)) (λ _. h)

examined_fine : (s : State) (o : Operand) → IsFine s → IfOk (examined s o) IsFine
examined_fine s o h = by (fault_of o (value_at s o.value))
  where
    by : (c : Option Cause) → IfOk (examined_by s o c) IsFine
    by (Some c) = tt
    by None = taken_fine s o h

examined_all_fine : (os : List Operand) (s : State) → IsFine s → IfOk (examined_all s os) IsFine
unfolding examined_all
examined_all_fine [] s h = h
examined_all_fine (o ∷ os) s h = then_fine IsFine IsFine (examined s o) _ (examined_fine s o h) (λ t k. examined_all_fine os t k)

-- the destinations get values that leave a fine state fine
abbrev CanGet : List (ℕ × AbsVal) → Type 0
CanGet results = (t : State) → IsFine t → IsFine (with_all t results)

-- what the examined operands leave has P, and a state that has it stays fine where no destination has a handle
module _ (P : State → Type 0) (i : Image) (s : State) (u : Uses)
    (k : (t : State) → P t → has_one t u.results ≡ false → IsFine (with_all t u.results)) where
  ends_fine : (t : State) → P t → (o : Option Cause) → IfOk (finished_unless o i s t u) IsFine
  ends_fine t g (Some c) = tt
  ends_fine t g None =
      unless_fine IsFine (not (are_words s u.words)) _ _ (λ _. unless_fine IsFine (not (range_fits i s u.range && count_fits i s u.array)) _ _ (λ _.
      unless_fine IsFine (not (is_declared i u.condition)) _ _ (λ _. unless_fine IsFine (not (are_distinct u.results)) _ _ (λ _.
      unless_fine IsFine (has_one t u.results) (Ok (with_all t u.results)) cause.Leak (λ e. k t g e)))))

  after_fine : IfOk (examined_all s u.operands) P → IfOk (state_after i s u) IsFine
  after_fine h = then_fine P IsFine (examined_all s u.operands) _ h (λ t g. ends_fine t g (array_fault i u.array))

-- values that are no tags
abbrev AreValues : List AbsVal → Type 0
AreValues [] = Unit {0}
AreValues (v ∷ vs) = (is_plain v ≡ true) × Fits v × AreValues vs

zip_fine : (rs : List ℕ) (vs : List AbsVal) (more : List (ℕ × AbsVal)) → AreValues vs → CanGet more → CanGet (zip rs vs ++ more)
unfolding with_all
zip_fine [] vs more h k = k
zip_fine (r ∷ rs) [] more h k = k
zip_fine (r ∷ rs) (v ∷ vs) more h k = λ t g. zip_fine rs vs more h.2 k (with_value t r v) (fine_with t r v g (plain_suits t v h.0 h.1))

narrowed_values : (v : AbsVal) (asked : ℕ) → Fits v → AreValues (narrowed_value v asked ∷ [])
narrowed_values (Has a k q) asked h =
    let z = and_le_r asked KNOWN_RIGHTS in
    (refl, cond_both (eqb asked SAME_RIGHTS) q (rights_of (bit_and asked KNOWN_RIGHTS)) (λ r. bits r ≤ 0xffff_ffff) (λ _. h) (λ _. omega arith), tt)
narrowed_values _ asked h = (refl, omega arith, tt)

-- a handle, and behind it its kind and its rights
triples_fine : (n r : ℕ) → r + 3 * n ≤ 32 → CanGet (triple_results r n)
unfolding with_all
triples_fine zero r less s h = h
triples_fine (suc n) r less s h =
    let t = with_value s r (Has true None (rights_of 0)) in
    let f : IsFine t = fine_with s r (Has true None (rights_of 0)) h (omega arith, refl) in
    let a : Named (value_at t r) = named_self s r (Has true None (rights_of 0)) refl in
    let u = with_value t (r + 1) (KindOf r) in
    let g : IsFine u = fine_with t (r + 1) (KindOf r) f (omega arith, a) in
    let b : Named (value_at u r) = named_there t (r + 1) r (KindOf r) (apart r) a in
    triples_fine n (r + 3) (omega arith) (with_value u (r + 2) (RightsOf r)) (fine_with u (r + 2) (RightsOf r) g (omega arith, b))
  where
    apart : (r : ℕ) → eqb r (r + 1) ≡ false
    apart r = grind (arith, nat_tests)

room_there : (first n : ℕ) → is_room first n ≡ true → first + 3 * n ≤ 32
room_there first n h = grind (arith, nat_tests)

received_fine : (e : Ending) (c : CallInstr) → names_registers e (call_reading c) ≡ true → CanGet (received_in e c)
unfolding with_all
received_fine ending.Room c h = triples_fine _ _ (room_there (slice_index c.registers 6) (number_at c.last 0 4) h)
received_fine _ c h = λ t k. k

new_value : (k : Kind) → Fits (new k)
new_value kind.Process = omega arith
new_value _ = omega arith

packet_fits : (bounds : List ℕ) → AreValues (packet_values bounds)
packet_fits bounds = (refl, omega arith, (refl, rounded_fits bounds 1, (refl, omega arith, (refl, omega arith, tt))))

all_new : (ks : List Kind) → AreValues (map new ks)
all_new [] = tt
all_new (k ∷ ks) = (refl, new_value k, all_new ks)

-- kind and rights of a handle are told
abbrev is_told : Gives → Bool
is_told tells = true
is_told _ = false

values_fit : (bounds : List ℕ) (g : Gives) (register : ℕ) (have : AbsVal) (number : ℕ) → is_told g ≡ false → Fits have
    → AreValues (values_by bounds g register have number)
values_fit bounds nothing register have number e h = tt
values_fit bounds (makes kinds) register have number e h = all_new kinds
values_fit bounds copies register have number e h = narrowed_values have number h
values_fit bounds sizes register have number e h = (refl, omega arith, (refl, omega arith, tt))
values_fit bounds signals register have number e h = (refl, omega arith, tt)
values_fit bounds packet register have number e h = packet_fits bounds
values_fit bounds tells register have number e h = cc

-- ---- what is told of a handle

-- an operand that may not be 0 has a handle
has_it : (r : ℕ) (v : AbsVal) → fault_of (needs r [] 0) v ≡ None → is_has v ≡ true
has_it r (Has _ _ _) e = refl
has_it r _ e = cc

-- the register has a handle in a fine state
abbrev HasIt : ℕ → State → Type 0
HasIt r t = IsFine t × (is_has (value_at t r) ≡ true)

told_examined : (s : State) (r : ℕ) → IsFine s → IfOk (examined_all s (needs r [] 0 ∷ [])) (HasIt r)
unfolding examined_all
told_examined s r h = by (fault_of (needs r [] 0) (value_at s r)) refl
  where
    by : (o : Option Cause) → fault_of (needs r [] 0) (value_at s r) ≡ o → IfOk (and_then (examined_by s (needs r [] 0) o) (λ t. Ok t)) (HasIt r)
    by (Some c) e = tt
    by None e = (h, has_it r (value_at s r) e)

has_named : (v : AbsVal) → is_has v ≡ true → Named v
has_named (Has _ _ _) h = refl
has_named _ h = cc

-- where one register has a handle and the other has none, they aren't the same
not_same : (t : State) (r q : ℕ) → is_has (value_at t r) ≡ true → is_has (value_at t q) ≡ false → eqb r q ≡ false
not_same t r q h e = by (eqb r q) refl
  where
    by : (b : Bool) → eqb r q ≡ b → b ≡ false
    by false p = refl
    by true p = let same : r ≡ q = (Decides-eqb r q).0 p in let z : is_has (value_at t q) ≡ true = subst (λ (x : ℕ). is_has (value_at t x) ≡ true) same h in cc

told_fine : (t : State) (r status k q : ℕ) → HasIt r t → r < 32 → has_one t ((status, Word 30) ∷ (k, KindOf r) ∷ (q, RightsOf r) ∷ []) ≡ false
    → IsFine (with_all t ((status, Word 30) ∷ (k, KindOf r) ∷ (q, RightsOf r) ∷ []))
unfolding with_all
told_fine t r status k q h less e =
    let f = or_parts (is_has (value_at t status)) _ e in
    let g = or_parts (is_has (value_at t k)) _ f.1 in
    let u = with_value t status (Word 30) in
    let a = named_there t status r (Word 30) (not_same t r status h.1 f.0) (has_named (value_at t r) h.1) in
    let v = with_value u k (KindOf r) in
    let b = named_there u k r (KindOf r) (not_same t r k h.1 g.0) a in
    fine_with v q (RightsOf r) (fine_with u k (KindOf r) (fine_with t status (Word 30) h.0 (omega arith, refl)) (less, a)) (less, b)

register_fits : (rs : List ℕ) (n : ℕ) → are_registers rs ≡ true → slice_index rs n < 32
register_fits [] n h = omega arith
register_fits (r ∷ rs) zero h = ltb-true r 32 (and_parts (nat_lt r 32) (are_registers rs) h).0
register_fits (r ∷ rs) (suc n) h = register_fits rs n (and_parts (nat_lt r 32) (are_registers rs) h).1

-- ---- the rule of a call

way_fine : (on : Bool) (s : State) → IsFine s → FineWays (if on then passes s else stops)
way_fine true s h = (tt, h)
way_fine false s h = (tt, tt)

-- a call that tells of no handle
untold_fine : (bounds : List ℕ) (i : Image) (s : State) (c : CallInstr) → is_told (gives c.name) ≡ false
    → names_registers (call_row c.name).ending (call_reading c) ≡ true → IsFine s → IfOk (state_after i s (uses_of bounds s c)) IsFine
unfolding uses_of
untold_fine bounds i s c e r h =
    let places = those is_written (call_row c.name).fields 0 c.registers in
    let fit = values_fit bounds (gives c.name) _ _ (number_at c.last 0 4) e (h.fits (slice_index c.registers 1)) in
    after_fine IsFine i s (uses_of bounds s c)
    (λ t k _. zip_fine places (Word 30 ∷ values_of bounds s c) _ (refl, omega arith, fit) (received_fine (call_row c.name).ending c r) t k)
    (examined_all_fine _ s h)

-- the call of this name with these registers and last eight bytes
abbrev called : CallName → List ℕ → List ℕ → CallInstr
called n rs last = record { name = n; registers = rs; last = last }

called_fine : (bounds : List ℕ) (i : Image) (s : State) (n : CallName) (rs last : List ℕ) → are_registers rs ≡ true
    → names_registers (call_row n).ending (call_reading (called n rs last)) ≡ true → IsFine s
    → IfOk (state_after i s (uses_of bounds s (called n rs last))) IsFine
unfolding uses_of
called_fine bounds i s call.HandleInfo rs last g r h =
    let b = slice_index rs 1 in
    after_fine (HasIt b) i s (uses_of bounds s (called call.HandleInfo rs last))
    (λ t k e. told_fine t b (slice_index rs 0) (slice_index rs 2) (slice_index rs 3) k (register_fits rs 1 g) e) (told_examined s b h)
called_fine bounds i s n rs last g r h = untold_fine bounds i s (called n rs last) refl r h

pub call_fine : (bounds : List ℕ) (i : Image) (c : CallInstr) (s : State) → is_call_in_range c ≡ true → IsFine s → IfOk (call_rule bounds i c s) FineWays
unfolding call_rule
call_fine bounds i c s r h =
    let w = whole c r in
    then_fine IsFine FineWays (state_after i s (uses_of bounds s c)) _ (called_fine bounds i s c.name c.registers c.last w.registers w.named h)
    (way_fine (goes_on c.name))

-- ---- the edges

edge_fine : (size : ℕ) (c : Cause) (target : ℕ) (o : Option State) → IfSome o IsFine → IfOk (edge_to size c target o) AllFine
edge_fine size c target None h = tt
edge_fine size c target (Some s) h = if_fine AllFine (ltb target size) (Ok ((target, s) ∷ [])) c (h, tt)

both_fine : (xs ys : List Edge) → AllFine xs → AllFine ys → AllFine (xs ++ ys)
both_fine [] ys h k = k
both_fine (x ∷ xs) ys h k = (h.0, both_fine xs ys h.1 k)

edges_fine : (size place target : ℕ) (w : Ways) → FineWays w → IfOk (edges size place target w) AllFine
edges_fine size place target w h =
    then_fine AllFine AllFine (edge_to size cause.BadJump target w.jumped) _ (edge_fine size cause.BadJump target w.jumped h.0) (λ xs p.
    then_fine AllFine AllFine (edge_to size cause.FallsOff (place + 1) w.passed) (λ ys. Ok (xs ++ ys))
    (edge_fine size cause.FallsOff (place + 1) w.passed h.1) (λ ys q. both_fine xs ys p q))

-- ---- the rule

pub in_range_at : (v : Version) (raw : Bool) (code : List Instr) (n : ℕ) → list_all (is_instr_in_range v raw) code ≡ true
    → IfSome (slice_get code n) (λ x. is_instr_in_range v raw x ≡ true)
in_range_at v raw [] n h = tt
in_range_at v raw (x ∷ code) zero h = (and_parts (is_instr_in_range v raw x) (list_all (is_instr_in_range v raw) code) h).0
in_range_at v raw (x ∷ code) (suc n) h = in_range_at v raw code n (and_parts (is_instr_in_range v raw x) (list_all (is_instr_in_range v raw) code) h).1

by_instr : (bounds : List ℕ) (i : Image) (n : ℕ) (s : State) (o : Option Instr) → IsTrue (is_in_range i)
    → IfSome o (λ x. is_instr_in_range i.version i.raw x ≡ true) → IsFine s → IfOk (rule_by bounds i n s o) AllFine
by_instr bounds i n s None g r h = tt
by_instr bounds i n s (Some (instr.Local x)) g r h =
    then_fine FineWays AllFine (local_rule bounds i x s) _ (local_fine bounds i x s g (and_parts _ _ r).1 h) (edges_fine (length i.code) n (target_of x))
by_instr bounds i n s (Some (instr.Call x)) g r h =
    then_fine FineWays AllFine (call_rule bounds i x s) _ (call_fine bounds i x s (and_parts _ _ r).1 h) (edges_fine (length i.code) n 0)
by_instr bounds i n s (Some (instr.Unknown bytes)) g r h = tt

pub rule_fine : (bounds : List ℕ) (i : Image) (n : ℕ) (s : State) → IsTrue (is_in_range i) → IsFine s → IfOk (rule_with bounds i n s) AllFine
unfolding rule_with
rule_fine bounds i n s g h = by_instr bounds i n s (instr_at i n) g (in_range_at i.version i.raw i.code n (ranges i g).code) h
