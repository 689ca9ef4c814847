-- A worked example: a process with one handle in a register and one in a slot array conforms, and its table has just these two; and tables, states and places
-- of which that isn't so.
use Rattle.zl_verify.proofs.Common.{ANY, AbsVal, Bool, Conforms, Contains, Cpu, Describes, Entry, Has, Holds, HoldsJustItsHandles, Image, IsDistinct, IsHandle}
use Rattle.zl_verify.proofs.Common.{IsTrue, List, Map, None, Option, Process, READ, Ready, SlotArray, Some, Start, State, Word, World, [], arith, blank_image}
use Rattle.zl_verify.proofs.Common.{blocks_at, called, creates, eqb-true, false, get, handle_values, has_key, if◌then◌else◌, inl, inr, is_it, is_some, keepers}
use Rattle.zl_verify.proofs.Common.{list_any, nat_tests, one_if, or_right, owners, owns, place_at, refl, replicate, rights_of, same_Some, slice_get}
use Rattle.zl_verify.proofs.Common.{slice_index, subst, suc, sym, true, value_at, values_in_registers, values_in_slots, zero, ℕ, ◌&&◌, ◌+◌, ◌<◌, ◌==◌, ◌↔◌, ◌∷◌}
use Rattle.zl_verify.proofs.Common.{◌≡◌, ◌≤◌}
use Rattle.zl_rights.specs.declared.kind.Kind.TheVariants as kind
use Rattle.zl_code.specs.declared.instr.Instr.TheVariants as instr
use Rattle.zl_code.specs.declared.instr.LocalInstr.TheVariants as local
use Rattle.zl_code.specs.declared.history.CallName.TheVariants as name
use Rattle.zl_verify.proofs.RowsConforms.{zeros_small, zeros_described}
use Rattle.zl_verify.proofs.Owners.{not_0}
use Rattle.zl_verify.proofs.Starting.{owners_none}

-- ---- the example

a_channel : Start
a_channel = record { kind = Some kind.Channel; rights = rights_of READ }

-- of two channels the first goes into the slot array, at place 1, and the process exits
abbrev image : Image
image = record blank_image {
  budget = 4;
  starts = a_channel ∷ a_channel ∷ [];
  slots = (record { kind = Some kind.Channel; length = 2; rights = rights_of READ }) ∷ [];
  code = instr.Local (local.Take 3 0) ∷ instr.Local (local.Const 4 1) ∷ instr.Local (local.Swap 3 4 0) ∷ instr.Call (called name.ProcessExit (4 ∷ []) 0) ∷ [];
}

abbrev channel : ℕ → Entry
channel koid = record { koid = koid; kind = kind.Channel; rights = rights_of 12 }

-- the channel in the slot array stood at 17
abbrev handles : Map Entry
handles = (17, channel 4) ∷ (23, channel 6) ∷ []

abbrev cpu : Cpu
cpu = record { counter = 3; registers = 0 ∷ 23 ∷ 5 ∷ 0 ∷ 1 ∷ replicate 27 0; memory = []; slots = (0 ∷ 17 ∷ []) ∷ []; counters = [] }

-- a process with this Cpu and this table
abbrev process : Cpu → Map Entry → Process
process c hs = record { program = 0; cpu = c; state = Ready; handles = hs; last = None }

abbrev world : World
world = record { processes = (9, process cpu handles) ∷ []; objects = []; waits = []; blocked = []; next_koid = 10; waits_made = 0 }

-- what is known before the exit, where the second register is this
abbrev known_with : AbsVal → State
known_with a = Word 0 ∷ a ∷ Word ANY ∷ Has true (Some kind.Channel) (rights_of READ) ∷ Word 1 ∷ replicate 27 (Word 0)

abbrev known : State
known = known_with (Has false (Some kind.Channel) (rights_of READ))

-- ---- it conforms

owned : (v : ℕ) → owners v known cpu.registers + keepers v cpu.slots ≡ one_if (is_some (get handles v))
unfolding owners owns keepers get
owned v =
    let rest = owners_none v 27 in
    let none = not_0 v in
    by (17 == v) (23 == v) refl refl (owners v (replicate 27 (Word 0)) (replicate 27 0)) (one_if (is_it v 0)) rest none
  where
    by : (b c : Bool) → (17 == v) ≡ b → (23 == v) ≡ c → (rest none : ℕ) → rest ≡ 0 → none ≡ 0
        → (0 + (one_if (c && true) + (0 + (none + (0 + rest))))) + (0 + (0 + none + one_if (b && true)))
        ≡ one_if (is_some (if b then Some (channel 4) else (if c then Some (channel 6) else None)))
    by true true at_17 at_23 rest none e g = let one = eqb-true 17 v at_17 in let other = eqb-true 23 v at_23 in absurd (omega arith)
    by true false at_17 at_23 rest none e g = omega arith
    by false true at_17 at_23 rest none e g = omega arith
    by false false at_17 at_23 rest none e g = omega arith

holds : Holds (get handles) known cpu.registers image.slots cpu.slots
unfolding get
holds = record { width = refl; small = small; described = described; lengths = refl; narrow = narrow; stored = stored; once = owned }
  where
    small : (r : ℕ) → slice_index cpu.registers r ≤ ANY
    small zero = omega arith
    small (suc zero) = omega arith
    small (suc (suc zero)) = omega arith
    small (suc (suc (suc zero))) = omega arith
    small (suc (suc (suc (suc zero)))) = omega arith
    small (suc (suc (suc (suc (suc r))))) = zeros_small 27 r

    described : (r : ℕ) → Describes (get handles) cpu.registers (value_at known r) (slice_index cpu.registers r)
    described zero = omega arith
    described (suc zero) = inr (refl, refl)
    described (suc (suc zero)) = omega arith
    described (suc (suc (suc zero))) = inl (refl, refl)
    described (suc (suc (suc (suc zero)))) = omega arith
    described (suc (suc (suc (suc (suc r))))) = zeros_described (get handles) cpu.registers 27 r

    narrow : (n k : ℕ) → place_at cpu.slots n k ≤ ANY
    narrow zero zero = omega arith
    narrow zero (suc zero) = omega arith
    narrow zero (suc (suc k)) = omega arith
    narrow (suc n) k = omega arith

    stored : (n k : ℕ) (a : SlotArray) → slice_get image.slots n ≡ Some a → k < a.length → IsHandle (get handles) true a.kind a.rights (place_at cpu.slots n k)
    stored zero zero a is less = inl (refl, refl)
    stored zero (suc zero) a is less = subst (λ (b : SlotArray). IsHandle (get handles) true b.kind b.rights 17) (same_Some _ a is) (inr (refl, refl))
    stored zero (suc (suc k)) a is less = inl (refl, refl)
    stored (suc n) k a is less = cc

conforms : (t : ℕ → Option State) → t 3 ≡ Some known → Conforms image t world 9 (process cpu handles)
unfolding creates blocks_at
conforms t is = record {
  state = known;
  stands = is;
  holds = holds;
  memory = record { long = refl; bytes = λ k. omega arith };
  counters = tt;
  allowed = λ c named. cc;
  waits = tt;
}

-- ---- its table has just its two handles

two : handle_values known cpu ≡ 23 ∷ 17 ∷ []
unfolding values_in_registers values_in_slots
two = refl

just_two : (t : ℕ → Option State) → t 3 ≡ Some known → HoldsJustItsHandles t (process cpu handles)
unfolding values_in_registers values_in_slots get IsDistinct
just_two t is = record { state = known; stands = is; exactly = λ v. (there v, live v); once = ((refl, tt), (tt, tt)) }
  where
    there : (v : ℕ) → has_key handles v ≡ true → Contains (23 ∷ 17 ∷ []) v
    there v h = by (17 == v) (23 == v) refl refl h
      where
        by : (b c : Bool) → (17 == v) ≡ b → (23 == v) ≡ c → is_some (if b then Some (channel 4) else (if c then Some (channel 6) else None)) ≡ true
            → Contains (23 ∷ 17 ∷ []) v
        by true c at_17 at_23 h = (1, omega arith, eqb-true 17 v at_17)
        by false true at_17 at_23 h = (0, omega arith, eqb-true 23 v at_23)
        by false false at_17 at_23 h = cc

    live : (v : ℕ) → Contains (23 ∷ 17 ∷ []) v → has_key handles v ≡ true
    live v (zero, inside, is) = subst (λ n. has_key handles n ≡ true) is refl
    live v (suc zero, inside, is) = subst (λ n. has_key handles n ≡ true) is refl
    live v (suc (suc k), inside, is) = absurd (omega arith)

-- ---- where that isn't so

-- what it says where this state is known at each instruction
abbrev Exactly : State → Process → Type 0
Exactly s q = ((v : ℕ) → (IsTrue (has_key q.handles v) ↔ Contains (handle_values s q.cpu) v)) × IsDistinct ◌==◌ (handle_values s q.cpu)

by_state : (s : State) (q : Process) → HoldsJustItsHandles (λ n. Some s) q → Exactly s q
by_state s q h = subst (λ (x : State). Exactly x q) (same_Some h.state s (sym h.stands)) (h.exactly, h.once)

among : (xs : List ℕ) (v : ℕ) → Contains xs v → list_any (λ x. x == v) xs ≡ true
among [] v (k, inside, is) = absurd (omega arith)
among (x ∷ xs) v (zero, inside, is) = let here : (x == v) ≡ true = grind (arith, nat_tests) in rw here refl
among (x ∷ xs) v (suc k, inside, is) = rw (among xs v (k, omega arith, is)) (or_right (x == v) true refl)

-- a handle more in the table
one_more : HoldsJustItsHandles (λ n. Some known) (process cpu ((17, channel 4) ∷ (23, channel 6) ∷ (31, channel 8) ∷ [])) → ⊥
unfolding values_in_registers values_in_slots get
one_more h = let bad : false ≡ true = among (23 ∷ 17 ∷ []) 31 (((by_state known _ h).0 31).0 refl) in cc

-- a handle less
one_less : HoldsJustItsHandles (λ n. Some known) (process cpu ((17, channel 4) ∷ [])) → ⊥
unfolding values_in_registers values_in_slots get
one_less h = let bad : false ≡ true = ((by_state known _ h).0 23).1 (0, omega arith, refl) in cc

-- the state forgets the register
forgotten : HoldsJustItsHandles (λ n. Some (known_with (Word ANY))) (process cpu handles) → ⊥
unfolding values_in_registers values_in_slots get
forgotten h = let bad : false ≡ true = among (17 ∷ []) 23 (((by_state (known_with (Word ANY)) _ h).0 23).0 refl) in cc

-- 0 was written over the handle in the slot array
overwritten : HoldsJustItsHandles (λ n. Some known) (process (record cpu { slots = (0 ∷ 0 ∷ []) ∷ [] }) handles) → ⊥
unfolding values_in_registers values_in_slots get
overwritten h = let bad : false ≡ true = among (23 ∷ []) 17 (((by_state known _ h).0 17).0 refl) in cc

-- it stands in both places
twice : HoldsJustItsHandles (λ n. Some known) (process (record cpu { slots = (17 ∷ 17 ∷ []) ∷ [] }) handles) → ⊥
unfolding values_in_registers values_in_slots IsDistinct
twice h = let bad : true ≡ false = (by_state known _ h).1.1.0.0 in cc
