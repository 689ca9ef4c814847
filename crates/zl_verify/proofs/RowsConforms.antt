-- A worked example: a process of a program with one handle and one slot array conforms where it starts.
use Rattle.zl_verify.proofs.Common.{ANY, Bool, Conforms, Describes, Entry, Has, Holds, Image, IsHandle, List, None, Option, Process, READ, Ready, SlotArray}
use Rattle.zl_verify.proofs.Common.{Some, State, Table, Word, World, [], arith, blank_image, blocks_at, called, creates, false, get, if◌then◌else◌, inl, inr}
use Rattle.zl_verify.proofs.Common.{is_it, is_some, keepers, one_if, owners, owns, place_at, refl, replicate, rights_of, slice_get, slice_index, start_state}
use Rattle.zl_verify.proofs.Common.{subst, suc, sym, true, value_at, with_all, with_value, zero, ℕ, ◌&&◌, ◌+◌, ◌<◌, ◌==◌, ◌∷◌, ◌≡◌, ◌≤◌}
use Rattle.zl_rights.specs.declared.kind.Kind.TheVariants as kind
use Rattle.zl_code.specs.declared.instr.Instr.TheVariants as instr
use Rattle.zl_code.specs.declared.instr.LocalInstr.TheVariants as local
use Rattle.zl_code.specs.declared.history.CallName.TheVariants as name
use Rattle.zl_verify.proofs.Owners.{not_0}
use Rattle.zl_verify.proofs.Starting.{owners_none}

-- the channel goes into the slot array, and the process exits
abbrev image : Image
image = record blank_image {
  budget = 4;
  starts = (record { kind = Some kind.Channel; rights = rights_of READ }) ∷ [];
  slots = (record { kind = Some kind.Channel; length = 2; rights = rights_of READ }) ∷ [];
  code = instr.Local (local.Take 2 0) ∷ instr.Local (local.Const 3 1) ∷ instr.Local (local.Swap 2 3 0) ∷ instr.Call (called name.ProcessExit (3 ∷ []) 0) ∷ [];
}

abbrev channel : Entry
channel = record { koid = 4; kind = kind.Channel; rights = rights_of 12 }

abbrev process : Process
process = record {
  program = 0;
  cpu = record { counter = 0; registers = 17 ∷ 5 ∷ replicate 30 0; memory = []; slots = (0 ∷ 0 ∷ []) ∷ []; counters = [] };
  state = Ready;
  handles = (17, channel) ∷ [];
  last = None;
}

abbrev world : World
world = record { processes = (9, process) ∷ []; objects = []; waits = []; blocked = []; next_koid = 10; waits_made = 0 }

-- its start state, register by register
abbrev shown : State
shown = Has false (Some kind.Channel) (rights_of READ) ∷ Word ANY ∷ replicate 30 (Word 0)

starts : start_state image ≡ shown
unfolding start_state with_all with_value
starts = refl

-- ---- registers of zeros

pub zeros_small : (n r : ℕ) → slice_index (replicate n 0) r ≤ ANY
zeros_small zero r = omega arith
zeros_small (suc n) zero = omega arith
zeros_small (suc n) (suc r) = zeros_small n r

pub zeros_described : (f : Table) (xs : List ℕ) (n r : ℕ) → Describes f xs (value_at (replicate n (Word 0)) r) (slice_index (replicate n 0) r)
zeros_described f xs zero r = omega arith
zeros_described f xs (suc n) zero = omega arith
zeros_described f xs (suc n) (suc r) = zeros_described f xs n r

-- ---- the example

owned : (v : ℕ) → owners v shown process.cpu.registers + keepers v process.cpu.slots ≡ one_if (is_some (get process.handles v))
unfolding owners owns keepers get
owned v =
    let rest = owners_none v 30 in
    let none = not_0 v in
    by (17 == v) (owners v (replicate 30 (Word 0)) (replicate 30 0)) (one_if (is_it v 0)) rest none
  where
    by : (b : Bool) (rest none : ℕ) → rest ≡ 0 → none ≡ 0
        → one_if (b && true) + (0 + rest) + (0 + (0 + none + none)) ≡ one_if (is_some (if b then Some channel else None))
    by true rest none e g = omega arith
    by false rest none e g = omega arith

holds : Holds (get process.handles) shown process.cpu.registers image.slots process.cpu.slots
unfolding get
holds = record { width = refl; small = small; described = described; lengths = refl; narrow = narrow; stored = stored; once = owned }
  where
    small : (r : ℕ) → slice_index process.cpu.registers r ≤ ANY
    small zero = omega arith
    small (suc zero) = omega arith
    small (suc (suc r)) = zeros_small 30 r

    described : (r : ℕ) → Describes (get process.handles) process.cpu.registers (value_at shown r) (slice_index process.cpu.registers r)
    described zero = inr (refl, refl)
    described (suc zero) = omega arith
    described (suc (suc r)) = zeros_described (get process.handles) process.cpu.registers 30 r

    narrow : (n k : ℕ) → place_at process.cpu.slots n k ≤ ANY
    narrow zero zero = omega arith
    narrow zero (suc zero) = omega arith
    narrow zero (suc (suc k)) = omega arith
    narrow (suc n) k = omega arith

    stored : (n k : ℕ) (a : SlotArray) → slice_get image.slots n ≡ Some a → k < a.length
        → IsHandle (get process.handles) true a.kind a.rights (place_at process.cpu.slots n k)
    stored zero zero a is less = inl (refl, refl)
    stored zero (suc zero) a is less = inl (refl, refl)
    stored zero (suc (suc k)) a is less = inl (refl, refl)
    stored (suc n) k a is less = cc

-- with any typing that has the start state at the first instruction
conforms : (t : ℕ → Option State) → t 0 ≡ Some (start_state image) → Conforms image t world 9 process
unfolding creates blocks_at
conforms t is = record {
  state = start_state image;
  stands = is;
  holds = subst (λ s. Holds (get process.handles) s process.cpu.registers image.slots process.cpu.slots) (sym starts) holds;
  memory = record { long = refl; bytes = λ k. omega arith };
  counters = tt;
  allowed = λ c named. cc;
  waits = tt;
}
