-- Registers, memories and slot arrays stay sized, whatever a local instruction does.
use Rattle.zl_verify.proofs.Common.{ANY, AllByRecursion, Bool, Cpu, IfSome, IsSizedCpu, List, LocalInstr, None, Option, Program, SlotArray, Some, [], and_le_l}
use Rattle.zl_verify.proofs.Common.{answered, arith, bit_and, blank_cpu, bytes_of, cond_both, cpu_given, drop, false, filled_in, get_or-drop}
use Rattle.zl_verify.proofs.Common.{get_or_from_slice_get, if◌then◌else◌, is_in_memory, is_local_in_range, length, local_effect, local_parts, map, nat_lt}
use Rattle.zl_verify.proofs.Common.{number_of, overwritten, refl, reg, replicate, set_from, sets, shifted, slice_get, slice_index, slice_index_or, slice_set}
use Rattle.zl_verify.proofs.Common.{slots_filled, subst, suc, swaps, take, true, with_handles, written, zero, ℕ, ◌++◌, ◌+◌, ◌-◌, ◌<◌, ◌^◌, ◌∷◌, ◌≡◌, ◌≤◌}
use Rattle.zl_code.specs.Local.{loads, stores, swaps_in, turns_by}
use Rattle.zl_code.specs.declared.instr.LocalInstr.TheVariants as local
use Rattle.zl_verify.proofs.Agreeing.{wrapped_few, or_few, xor_few, up_few, down_less, imm_in}
use Rattle.zl_verify.proofs.Memories.{byte_less, word_less, bytes_over, all_of}

-- ---- lists by their places

-- P is true of what stands at each place, and of d, which is read behind the end
abbrev pub AtEach : {X : Type 0} → (X → Type 0) → X → List X → Type 0
AtEach P d xs = (k : ℕ) → P (slice_index_or xs k d)

-- so it stays, where one place is written
pub each_set : {X : Type 0} (P : X → Type 0) (d : X) (xs : List X) (r : ℕ) (v : X) → P v → AtEach P d xs → AtEach P d (slice_set xs r v)
each_set P d [] r v new h k = h k
each_set P d (x ∷ xs) zero v new h zero = new
each_set P d (x ∷ xs) zero v new h (suc k) = h (suc k)
each_set P d (x ∷ xs) (suc r) v new h zero = h zero
each_set P d (x ∷ xs) (suc r) v new h (suc k) = each_set P d xs r v new (λ j. h (suc j)) k

pub each_filled : {X : Type 0} (P : X → Type 0) (d : X) (n : ℕ) → P d → AtEach P d (replicate n d)
each_filled P d zero here k = here
each_filled P d (suc n) here zero = here
each_filled P d (suc n) here (suc k) = each_filled P d n here k

pub each_made : {X Y : Type 0} (P : Y → Type 0) (d : Y) (f : X → Y) (xs : List X) → P d → ((x : X) → P (f x)) → AtEach P d (map f xs)
each_made P d f [] here all k = here
each_made P d f (x ∷ xs) here all zero = all x
each_made P d f (x ∷ xs) here all (suc k) = each_made P d f xs here all k

-- what stands in a list goes before what is left of another
pub each_in_front : {X : Type 0} (P : X → Type 0) (d : X) (xs ys : List X) (n : ℕ) → AllByRecursion P xs → AtEach P d ys → AtEach P d (xs ++ drop n ys)
each_in_front P d [] ys n all h k = rw (get_or-drop n ys k d) (h (n + k))
each_in_front P d (x ∷ xs) ys n (one, all) h zero = one
each_in_front P d (x ∷ xs) ys n (one, all) h (suc k) = each_in_front P d xs ys n all h k

-- each number of the list has 64 bits
abbrev pub AreSmall : List ℕ → Type 0
AreSmall vs = AllByRecursion (λ v. v ≤ ANY) vs

-- ---- registers

-- a register of 64 bits
abbrev IsSmall : ℕ → Type 0
IsSmall v = v ≤ ANY

pub register_set : (xs : List ℕ) (r v : ℕ) → v ≤ ANY → AtEach IsSmall 0 xs → AtEach IsSmall 0 (slice_set xs r v)
register_set xs r v few h = each_set IsSmall 0 xs r v few h

pub registers_written : (ds vs xs : List ℕ) → AreSmall vs → AtEach IsSmall 0 xs → AtEach IsSmall 0 (written xs ds vs)
registers_written [] vs xs few h = h
registers_written (d ∷ ds) [] xs few h = registers_written ds [] (slice_set xs d 0) tt (register_set xs d 0 (omega arith) h)
registers_written (d ∷ ds) (v ∷ vs) xs (one, more) h = registers_written ds vs (slice_set xs d v) more (register_set xs d v one h)

-- a Cpu whose call is answered
pub answered_sized : (c : Cpu) (ds vs : List ℕ) → IsSizedCpu c → AreSmall vs → IsSizedCpu (answered c ds vs)
unfolding answered
answered_sized c ds vs h few = record { small = registers_written ds vs c.registers few h.small; bytes = h.bytes; narrow = h.narrow }

-- ---- slot arrays

-- the values that go into slots, if any do
abbrev pub AreSmallIn : Option (ℕ × List ℕ) → Type 0
AreSmallIn None = Unit {0}
AreSmallIn (Some x) = AreSmall x.1

pub slots_narrow : (slots : List (List ℕ)) (kept : Option (ℕ × List ℕ)) → AreSmallIn kept → AtEach (AtEach IsSmall 0) [] slots
    → AtEach (AtEach IsSmall 0) [] (slots_filled slots kept)
slots_narrow slots None few h = h
slots_narrow slots (Some (n, vs)) few h = by (slice_get slots n) refl
  where
    by : (o : Option (List ℕ)) → slice_get slots n ≡ o → AtEach (AtEach IsSmall 0) [] (filled_in slots n vs o)
    by None is = h
    by (Some places) is =
        each_set (AtEach IsSmall 0) [] slots n (overwritten places 0 vs)
        (each_in_front IsSmall 0 vs places _ few (subst (AtEach IsSmall 0) (get_or_from_slice_get slots n places [] is) (h n))) h

-- ---- a Cpu that starts

pub blank_sized : (g : Option Program) → IsSizedCpu (blank_cpu g)
blank_sized None = record { small = each_filled IsSmall 0 32 (omega arith); bytes = λ k. omega arith; narrow = λ n k. omega arith }
blank_sized (Some g) = record {
  small = each_filled IsSmall 0 32 (omega arith);
  bytes = each_filled (λ b. b < 256) 0 g.image.memory (omega arith);
  narrow = each_made (AtEach IsSmall 0) [] (λ (s : SlotArray). replicate s.length 0) g.image.slots (λ k. omega arith)
      (λ s. each_filled IsSmall 0 s.length (omega arith));
}

set_sized : (n : ℕ) (vs xs : List ℕ) → AreSmall vs → AtEach IsSmall 0 xs → AtEach IsSmall 0 (set_from n vs xs)
set_sized n [] xs few h = h
set_sized n (v ∷ vs) xs (one, more) h = set_sized (n + 1) vs (slice_set xs n v) more (register_set xs n v one h)

given_sized : (vs xs : List ℕ) → AreSmall vs → AtEach IsSmall 0 xs → AtEach IsSmall 0 (with_handles vs xs)
given_sized [] xs few h = h
given_sized (v ∷ vs) xs (one, more) h = set_sized 2 vs (slice_set xs 0 v) more (register_set xs 0 v one h)

pub started_sized : (vs : List ℕ) (word : ℕ) (c : Cpu) → AreSmall vs → word ≤ ANY → IsSizedCpu c → IsSizedCpu (cpu_given vs word c)
started_sized vs word c few least h =
    record { small = register_set (with_handles vs c.registers) 1 word least (given_sized vs c.registers few h.small); bytes = h.bytes; narrow = h.narrow }

-- ---- local instructions

module _ (c : Cpu) (h : IsSizedCpu c) where
  -- a register is written
  sets_sized : (a v : ℕ) → v ≤ ANY → IsSizedCpu (sets c a v)
  sets_sized a v few = record { small = register_set c.registers a v few h.small; bytes = h.bytes; narrow = h.narrow }

  loads_sized : (n a address : ℕ) → number_of (take n (drop address c.memory)) ≤ ANY → IfSome (loads c n a address) IsSizedCpu
  loads_sized n a address few =
      cond_both (is_in_memory c address n) (Some (sets c a (number_of (take n (drop address c.memory))))) None (λ o. IfSome o IsSizedCpu)
      (λ _. sets_sized a (number_of (take n (drop address c.memory))) few) (λ _. tt)

  stores_sized : (n address v : ℕ) → IfSome (stores c n address v) IsSizedCpu
  stores_sized n address v =
      cond_both (is_in_memory c address n) (Some (record c { memory = overwritten c.memory address (bytes_of n v); counter = c.counter + 1 })) None
      (λ o. IfSome o IsSizedCpu)
      (λ _. record { small = h.small; bytes = bytes_over c.memory (bytes_of n v) address h.bytes (all_of n v); narrow = h.narrow }) (λ _. tt)

  swaps_sized : (a place array : ℕ) → IfSome (swaps c a place array) IsSizedCpu
  swaps_sized a place array = by_array (slice_get c.slots array) refl
    where
      by_array : (o : Option (List ℕ)) → slice_get c.slots array ≡ o → IfSome (swaps_in c a place array o) IsSizedCpu
      by_array None is = tt
      by_array (Some slots) is = by (nat_lt place (length slots))
        where
          all : AtEach IsSmall 0 slots
          all = subst (AtEach IsSmall 0) (get_or_from_slice_get c.slots array slots [] is) (h.narrow array)

          by : (b : Bool)
              → IfSome (if b then Some (record (sets c a (slice_index slots place)) { slots = slice_set c.slots array (slice_set slots place (reg c a)) })
              else None) IsSizedCpu
          by true = record {
            small = register_set c.registers a (slice_index slots place) (all place) h.small;
            bytes = h.bytes;
            narrow =
                each_set (AtEach IsSmall 0) [] c.slots array (slice_set slots place (reg c a)) (register_set slots place (reg c a) (h.small a) all) h.narrow;
          }
          by false = tt

  -- its counters and the place where it stands are others
  still : (n : ℕ) (ns : List ℕ) → IsSizedCpu (record c { counters = ns; counter = n })
  still n ns = record { small = h.small; bytes = h.bytes; narrow = h.narrow }

  pub local_sized : (x : LocalInstr) → is_local_in_range x ≡ true → IfSome (local_effect x c) IsSizedCpu
  unfolding local_effect local_parts
  local_sized (local.Const a imm) r = sets_sized a imm (imm_in imm 0 (a ∷ []) r)
  local_sized (local.Move a b) r = sets_sized a (reg c b) (h.small b)
  local_sized (local.Add a b d) r = sets_sized a _ (wrapped_few (reg c b + reg c d))
  local_sized (local.AddNumber a b imm) r = sets_sized a _ (wrapped_few (reg c b + imm))
  local_sized (local.Subtract a b d) r = sets_sized a _ (wrapped_few (reg c b + 2 ^ 64 - reg c d))
  local_sized (local.And a b d) r = sets_sized a (bit_and (reg c b) (reg c d)) (let less = and_le_l (reg c b) (reg c d) in let few = h.small b in omega arith)
  local_sized (local.Or a b d) r = sets_sized a _ (or_few (reg c b) (reg c d) (h.small b) (h.small d))
  local_sized (local.Xor a b d) r = sets_sized a _ (xor_few (reg c b) (reg c d) (h.small b) (h.small d))
  local_sized (local.ShiftLeft a b imm) r = sets_sized a _ (up_few (reg c b) imm)
  local_sized (local.ShiftRight a b imm) r = sets_sized a (shifted (reg c b) imm) (let less = down_less (reg c b) imm in let few = h.small b in omega arith)
  local_sized (local.Take a b) r = record {
    small = register_set (slice_set c.registers a (reg c b)) b 0 (omega arith) (register_set c.registers a (reg c b) (h.small b) h.small);
    bytes = h.bytes;
    narrow = h.narrow;
  }
  local_sized (local.Swap a b imm) r = swaps_sized a (reg c b) imm
  local_sized (local.LoadByte a b imm) r = loads_sized 1 a (reg c b + imm) (let less = byte_less c.memory (reg c b + imm) h.bytes in omega arith)
  local_sized (local.LoadWord a b imm) r = loads_sized 8 a (reg c b + imm) (word_less c.memory (reg c b + imm) h.bytes)
  local_sized (local.StoreByte a b imm) r = stores_sized 1 (reg c a + imm) (reg c b)
  local_sized (local.StoreWord a b imm) r = stores_sized 8 (reg c a + imm) (reg c b)
  local_sized (local.Rep imm e) r = entered (nat_lt (length c.counters) 4)
    where
      entered : (b : Bool) → IfSome (if b then Some (record c { counters = imm ∷ c.counters; counter = c.counter + 1 }) else None) IsSizedCpu
      entered true = still (c.counter + 1) (imm ∷ c.counters)
      entered false = tt
  local_sized (local.EndRep rep) r = by c.counters
    where
      by : (ns : List ℕ) → IfSome (turns_by c rep ns) IsSizedCpu
      by [] = tt
      by (n ∷ ns) = cond_both (nat_lt 1 n) _ _ (λ o. IfSome o IsSizedCpu) (λ _. still (rep + 1) ((n - 1) ∷ ns)) (λ _. still (c.counter + 1) ns)
  local_sized _ r = h
