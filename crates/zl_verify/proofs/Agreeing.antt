-- The rule of each local instruction and its effect agree.
use Rattle.zl_verify.proofs.Common.{ANY, AbsVal, Bool, Cause, Cpu, Describes, Entry, Err, Has, Holds, Image, IsHandle, IsMemory, IsState, KNOWN_RIGHTS, List}
use Rattle.zl_verify.proofs.Common.{LocalInstr, None, Ok, Option, Result, SlotArray, Some, State, Table, Word, [], and_le_l, and_le_r, and_then, ap}
use Rattle.zl_verify.proofs.Common.{are_registers, arith, below_ways, bit_and, bit_or, bit_xor, bits, both, capped, computes, cond_both, copies, drop, eq-eqb}
use Rattle.zl_verify.proofs.Common.{equal_ways, false, has_ways, if◌then◌else◌, imm_of, in_memory, inl, inr, is_32_bits, is_has, is_in_memory, is_it}
use Rattle.zl_verify.proofs.Common.{is_local_in_range, kind_below, length, loads, local_effect, local_parts, local_rule, marks_of, may_move, mod-le, mod-lt}
use Rattle.zl_verify.proofs.Common.{moved, nat_le, nat_lt, nat_tests, not, number_of, one_if, or_lt, owns, passes, pow_pos, refl, reg, rounded, sets, shifted}
use Rattle.zl_verify.proofs.Common.{slice_get, slice_index_or, slice_set, slot_fault, smaller, stores, subst, suc, swaps, swaps_by, swaps_in, sym, take}
use Rattle.zl_verify.proofs.Common.{target_of, true, unless, value_at, with_value, within, word_at, writes, xor_lt, zero, zero_ways, ℕ, ◌%◌, ◌&&◌, ◌*◌, ◌+◌}
use Rattle.zl_verify.proofs.Common.{◌-◌, ◌/◌, ◌<◌, ◌==◌, ◌^◌, ◌∷◌, ◌≡◌, ◌≢◌, ◌≤◌, ◌⊎◌}
use Rattle.zl_code.specs.Limits.{most_blocks}
use Rattle.zl_code.specs.Local.{wrapped, loads as loads_from, stores as stores_to, goes_if, turns_by}
use Rattle.zl_abs.specs.Outcome.{Outcome}
use Rattle.zl_abs.specs.Bounds.{least_from}
use Rattle.zl_abs.specs.LocalRules.{ends_turn, goes_round_again, takes}
use Rattle.zl_code.specs.declared.instr.LocalInstr.TheVariants as local
use Rattle.zl_abs.specs.declared.cause.Cause.TheVariants as cause
use Rattle.zl_verify.proofs.Writing.{write_word, write_copy}
use Rattle.zl_verify.proofs.Weakening.{handle_below}
use Rattle.zl_verify.proofs.Moving.{take_holds, swap_holds, array_there}
use Rattle.zl_verify.proofs.Refining.{Known, Splits, unless_splits, zero_splits, equal_splits, below_splits, has_splits}
use Rattle.zl_verify.proofs.Memories.{byte_less, word_less, stored}
use Rattle.zl_verify.proofs.Owners.{not_0}
use Rattle.zl_abs.proofs.LocalLowering.{shifted_below}
use Rattle.std.proofs.Math.Bool.{or-true}
use Rattle.std.proofs.Math.Nat.{div-le_self}

-- ---- numbers

least_above : (x n best : ℕ) (bs : List ℕ) → x ≤ n → x ≤ best → x ≤ least_from n best bs
unfolding least_from
least_above x n best [] h k = k
least_above x n best (b ∷ bs) h k = least_above x n (if nat_le n b && nat_lt b best then b else best) bs h (one x n best b h k)
  where
    one : (x n best b : ℕ) → x ≤ n → x ≤ best → x ≤ (if nat_le n b && nat_lt b best then b else best)
    one x n best b h k = grind (arith, nat_tests)

pub above : (bounds : List ℕ) (x n : ℕ) → x ≤ n → x ≤ ANY → x ≤ rounded bounds n
above bounds x n h k = least_above x n ANY bounds h k

pub wrapped_few : (x : ℕ) → wrapped x ≤ ANY
wrapped_few x = let k : x % 2 ^ 64 < 2 ^ 64 = mod-lt x (pow_pos 64) in omega arith

sum_fits : (x m : ℕ) → x ≤ m → wrapped x ≤ capped m
sum_fits x m h = let few = wrapped_few x in let le = mod-le x (2 ^ 64) in omega arith

meet_fits : (x y m n : ℕ) → x ≤ m → y ≤ n → bit_and x y ≤ smaller m n
meet_fits x y m n h k = let l = and_le_l x y in let r = and_le_r x y in by (bit_and x y) m n (omega arith) (omega arith)
  where
    by : (z m n : ℕ) → z ≤ m → z ≤ n → z ≤ smaller m n
    by z m n h k = grind (arith, nat_tests)

pub or_few : (x y : ℕ) → x ≤ ANY → y ≤ ANY → bit_or x y ≤ ANY
or_few x y h k = let z : bit_or x y < 2 ^ 64 = or_lt 64 x y (omega arith) (omega arith) in omega arith

pub xor_few : (x y : ℕ) → x ≤ ANY → y ≤ ANY → bit_xor x y ≤ ANY
xor_few x y h k = let z : bit_xor x y < 2 ^ 64 = xor_lt 64 x y (omega arith) (omega arith) in omega arith

pub up_few : (x places : ℕ) → (if nat_lt places 64 then wrapped (x * 2 ^ places) else 0) ≤ ANY
up_few x places = cond_both (nat_lt places 64) (wrapped (x * 2 ^ places)) 0 (λ n. n ≤ ANY) (λ _. wrapped_few (x * 2 ^ places)) (λ _. omega arith)

pub down_less : (x places : ℕ) → shifted x places ≤ x
down_less x places = cond_both (nat_lt places 64) (x / 2 ^ places) 0 (λ n. n ≤ x) (λ _. div-le_self x (2 ^ places)) (λ _. omega arith)

-- ---- registers of an instruction

first_in : (imm target a : ℕ) (rs : List ℕ) → (is_32_bits imm && is_32_bits target) && are_registers (a ∷ rs) ≡ true → a < 32
first_in imm target a rs h = leads (both (nat_lt a 32) (are_registers rs) (both _ _ h).1).0
  where
    leads : nat_lt a 32 ≡ true → a < 32
    leads e = grind (arith, nat_tests)

second_in : (imm target a b : ℕ) (rs : List ℕ) → (is_32_bits imm && is_32_bits target) && are_registers (a ∷ b ∷ rs) ≡ true → b < 32
second_in imm target a b rs h = leads (both (nat_lt b 32) (are_registers rs) (both (nat_lt a 32) (are_registers (b ∷ rs)) (both _ _ h).1).1).0
  where
    leads : nat_lt b 32 ≡ true → b < 32
    leads e = grind (arith, nat_tests)

pub imm_in : (imm target : ℕ) (rs : List ℕ) → (is_32_bits imm && is_32_bits target) && are_registers rs ≡ true → imm ≤ ANY
imm_in imm target rs h = leads (both (is_32_bits imm) (is_32_bits target) (both _ _ h).0).0
  where
    leads : nat_lt imm 4294967296 ≡ true → imm ≤ ANY
    leads e = grind (arith, nat_tests)

-- ---- slots

-- what may go into a slot array is a handle as the array keeps it, or 0
slot_goes : (f : Table) (xs : List ℕ) (t : SlotArray) (v : AbsVal) (x : ℕ) → slot_fault t v ≡ None → Describes f xs v x
    → IsHandle f true t.kind t.rights x × ((y : ℕ) → one_if (owns y v x) ≡ one_if (is_it y x))
unfolding owns
slot_goes f xs t (Word m) x e d = by (m == 0) refl e
  where
    by : (b : Bool) → (m == 0) ≡ b → (if b then None else Some cause.NotLive) ≡ None
        → IsHandle f true t.kind t.rights x × ((y : ℕ) → one_if (owns y (Word m) x) ≡ one_if (is_it y x))
    by true is e = let z : x ≡ 0 = grind (arith, nat_tests) in (inl (refl, z), λ y. rw z (sym (not_0 y)))
    by false is e = cc
slot_goes f xs t (Has maybe k q) x e d = by (kind_below k t.kind) refl (within (bits t.rights) (bits q)) refl e
  where
    by : (b : Bool) → kind_below k t.kind ≡ b → (c : Bool) → within (bits t.rights) (bits q) ≡ c
        → (if not b then Some cause.WrongKind else if not c then Some cause.LacksRight else None) ≡ None
        → IsHandle f true t.kind t.rights x × ((y : ℕ) → one_if (owns y (Has maybe k q) x) ≡ one_if (is_it y x))
    by true kind true rights e = (handle_below f maybe true k t.kind q t.rights x (or-true (not maybe)) kind rights d, λ y. refl)
    by _ kind _ rights e = cc
slot_goes f xs t _ x e d = cc

get_there : (slots : List (List ℕ)) (n : ℕ) → n < length slots → slice_get slots n ≡ Some (slice_index_or slots n [])
get_there [] n less = absurd (omega arith)
get_there (x ∷ xs) zero less = refl
get_there (x ∷ xs) (suc n) less = get_there xs n (omega arith)

-- ---- the effect arrives where the rule leads

-- where the rule holds there is an effect, and it stands at the end of an edge, as the state there says
abbrev pub Arrives : Table → Image → ℕ → ℕ → Result Outcome Cause → Option Cpu → Type 0
Arrives f i n target (Err c) o = Unit {0}
Arrives f i n target (Ok w) None = ⊥
Arrives f i n target (Ok w) (Some c) =
    IsMemory i c.memory
    × (((c.counter ≡ target) × Known f c.registers i.slots c.slots w.jumped) ⊎ ((c.counter ≡ n + 1) × Known f c.registers i.slots c.slots w.passed))

-- of so many turns one is left
abbrev pub HasTurn : ℕ → List ℕ → Type 0
HasTurn imm [] = ⊥
HasTurn imm (n ∷ ns) = n ≤ imm

-- a rep has room for its counter, and an endrep has one
abbrev pub CanTurn : Image → Cpu → LocalInstr → Type 0
CanTurn i c (local.Rep imm e) = nat_lt (length c.counters) most_blocks ≡ true
CanTurn i c (local.EndRep rep) = HasTurn (imm_of (marks_of i.code) rep) c.counters
CanTurn i c _ = Unit {0}

module _ {f : Table} {i : Image} {s : State} (c : Cpu) (h : Holds f s c.registers i.slots c.slots) (states : IsState s) (memory : IsMemory i c.memory)
    (target : ℕ) where
  abbrev Ends : Result Outcome Cause → Option Cpu → Type 0
  Ends w o = Arrives f i c.counter target w o

  there : (r : ℕ) → r < 32 → r < length s
  there r less = subst (λ n. r < n) (sym states.long) less

  -- ---- writes

  word_written : (a n x : ℕ) → a < 32 → x ≤ ANY → x ≤ n → Ends (writes s a (Word n)) (Some (sets c a x))
  word_written a n x less few le =
      cond_both (is_has (value_at s a)) (Err cause.Leak) (Ok (passes (with_value s a (Word n)))) (λ r. Ends r (Some (sets c a x))) (λ _. tt)
      (λ e. (memory, inr (refl, write_word h states a (there a less) e n x few le)))

  computed : (bounds : List ℕ) (a n x : ℕ) → a < 32 → x ≤ ANY → x ≤ n → Ends (computes bounds s a n) (Some (sets c a x))
  computed bounds a n x less few le = word_written a (rounded bounds n) x less few (above bounds x n le few)

  with_word : (b : ℕ) (g : ℕ → Result Outcome Cause) (o : Option Cpu) → ((m : ℕ) → reg c b ≤ m → is_has (value_at s b) ≡ false → Ends (g m) o)
      → Ends (and_then (word_at s b) g) o
  with_word b g o k = by (value_at s b) refl
    where
      by : (v : AbsVal) → value_at s b ≡ v → Ends (and_then (word_at s b) g) o
      by (Word m) is = rw is (k m (rw is at (h.described b)) (ap is_has is))
      by (Has maybe j q) is = rw is tt
      by _ is = rw is (k ANY (h.small b) (ap is_has is))

  copied : (a b : ℕ) → a < 32 → Ends (copies s a b) (Some (sets c a (reg c b)))
  copied a b less = with_word b _ _ (λ m le plain. by plain (is_has (value_at s a)) refl)
    where
      by : is_has (value_at s b) ≡ false → (t : Bool) → is_has (value_at s a) ≡ t
          → Ends (if t then Err cause.Leak else Ok (passes (with_value s a (value_at s b)))) (Some (sets c a (reg c b)))
      by plain true e = tt
      by plain false e = (memory, inr (refl, write_copy h states a (there a less) e b plain))

  -- ---- memory

  in_it : (base offset n m : ℕ) → base ≤ m → in_memory i m offset n ≡ true → base + offset + n ≤ length c.memory
  in_it base offset n m le e = let size = memory.long in let fits : m + (offset + n) ≤ i.memory = leads e in omega arith
    where
      leads : nat_le (m + (offset + n)) i.memory ≡ true → m + (offset + n) ≤ i.memory
      leads e = grind (arith, nat_tests)

  is_there : (address n : ℕ) → address + n ≤ length c.memory → is_in_memory c address n ≡ true
  is_there address n le = grind (arith, nat_tests)

  loaded : (n bound a b offset : ℕ) → a < 32 → bound ≤ ANY → ((address : ℕ) → number_of (take n (drop address c.memory)) ≤ bound)
      → Ends (loads i s n bound a b offset) (loads_from c n a (reg c b + offset))
  loaded n bound a b offset less few fits = with_word b _ _ (λ m le plain. by m le (in_memory i m offset n) refl)
    where
      by : (m : ℕ) → reg c b ≤ m → (t : Bool) → in_memory i m offset n ≡ t
          → Ends (if t then writes s a (Word bound) else Err cause.MemoryRange) (loads_from c n a (reg c b + offset))
      by m le false e = tt
      by m le true e =
          let x = fits (reg c b + offset) in
          rw (is_there (reg c b + offset) n (in_it (reg c b) offset n m le e)) (word_written a bound _ less (omega arith) x)

  kept : (n a b offset : ℕ) → Ends (stores i s n a b offset) (stores_to c n (reg c a + offset) (reg c b))
  kept n a b offset = with_word a _ _ (λ m le plain. with_word b _ _ (λ m2 le2 plain2. by m le (in_memory i m offset n) refl))
    where
      by : (m : ℕ) → reg c a ≤ m → (t : Bool) → in_memory i m offset n ≡ t
          → Ends (if t then Ok (passes s) else Err cause.MemoryRange) (stores_to c n (reg c a + offset) (reg c b))
      by m le false e = tt
      by m le true e =
          let inside = in_it (reg c a) offset n m le e in
          rw (is_there (reg c a + offset) n inside) (stored i c.memory n (reg c b) (reg c a + offset) memory inside, inr (refl, h))

  -- ---- moves

  taken : (a b : ℕ) → a < 32 → b < 32
      → Ends (takes s a b) (Some (record (sets c a (reg c b)) { registers = slice_set (slice_set c.registers a (reg c b)) b 0 }))
  taken a b in_a in_b = by (a == b) refl (may_move (value_at s b)) refl (is_has (value_at s a)) refl
    where
      apart : (a == b) ≡ false → b ≢ a
      apart e is = let t : (a == b) ≡ true = eq-eqb a b (sym is) in cc

      by : (x : Bool) → (a == b) ≡ x → (y : Bool) → may_move (value_at s b) ≡ y → (z : Bool) → is_has (value_at s a) ≡ z
          → Ends (if x then Err cause.IllegalOp else if not y then Err cause.NotLive else if z then Err cause.Leak
          else Ok (passes (moved s a b (value_at s b))))
          (Some (record (sets c a (reg c b)) { registers = slice_set (slice_set c.registers a (reg c b)) b 0 }))
      by true e y moves z free = tt
      by false e false moves z free = tt
      by false e true moves true free = tt
      by false e true moves false free = (memory, inr (refl, take_holds h a b (apart e) (there a in_a) (there b in_b) free (value_at s b) refl moves))

  swapped : (a b n : ℕ) → a < 32 → (o : Option SlotArray) → slice_get i.slots n ≡ o → Ends (swaps_in s a b o) (swaps c a (reg c b) n)
  swapped a b n less None is = tt
  swapped a b n less (Some t) is = with_word b _ _ (λ m le plain. by m le (nat_lt m t.length) refl (slot_fault t (value_at s a)) refl)
    where
      room : n < length c.slots
      room = (array_there c.slots i.slots n t h.lengths is).0

      long : length (slice_index_or c.slots n []) ≡ t.length
      long = (array_there c.slots i.slots n t h.lengths is).1

      inside : (m : ℕ) → reg c b ≤ m → nat_lt m t.length ≡ true → reg c b < t.length
      inside m le e = grind (arith, nat_tests)

      open_at : reg c b < t.length → nat_lt (reg c b) (length (slice_index_or c.slots n [])) ≡ true
      open_at less = test (reg c b) (length (slice_index_or c.slots n [])) t.length less long
        where
          test : (x m k : ℕ) → x < k → m ≡ k → nat_lt x m ≡ true
          test x m k less e = grind (arith, nat_tests)

      by : (m : ℕ) → reg c b ≤ m → (x : Bool) → nat_lt m t.length ≡ x → (y : Option Cause) → slot_fault t (value_at s a) ≡ y
          → Ends (if x then swaps_by s a t y else Err cause.MemoryRange) (swaps c a (reg c b) n)
      by m le false e y fault = tt
      by m le true e (Some x) fault = tt
      by m le true e None fault =
          let goes = slot_goes f c.registers t (value_at s a) (reg c a) fault (h.described a) in
          rw (get_there c.slots n room, open_at (inside m le e))
          (memory, inr (refl, swap_holds h states a n (reg c b) t (there a less) is (inside m le e) goes.0 goes.1))

  -- ---- jumps

  split_ends : (test : Bool) (w : Result Outcome Cause) → Splits (Known f c.registers i.slots c.slots) test w → Ends w (Some (goes_if c test target))
  split_ends test (Err x) k = tt
  split_ends true (Ok w) k = (memory, inl (refl, k.0 refl))
  split_ends false (Ok w) k = (memory, inr (refl, k.1 refl))

module _ {f : Table} {i : Image} {s : State} (c : Cpu) (h : Holds f s c.registers i.slots c.slots) (states : IsState s) (memory : IsMemory i c.memory)
    (known : (v : ℕ) (e : Entry) → f v ≡ Some e → within (bits e.rights) KNOWN_RIGHTS ≡ true) (bounds : List ℕ) where
  pub agrees : (x : LocalInstr) → is_local_in_range x ≡ true → CanTurn i c x → Arrives f i c.counter (target_of x) (local_rule bounds i x s) (local_effect x c)
  unfolding local_rule local_effect local_parts
  agrees (local.Const a imm) r u =
      word_written c h states memory 0 a (capped imm) imm (first_in imm 0 a [] r) (imm_in imm 0 (a ∷ []) r) (let k = imm_in imm 0 (a ∷ []) r in omega arith)
  agrees (local.Move a b) r u = copied c h states memory 0 a b (first_in 0 0 a (b ∷ []) r)
  agrees (local.Add a b d) r u =
      with_word c h states memory 0 b _ _ (λ m le p. with_word c h states memory 0 d _ _ (λ n le2 p2.
      computed c h states memory 0 bounds a (capped (m + n)) _ (first_in 0 0 a (b ∷ d ∷ []) r) (wrapped_few (reg c b + reg c d))
      (sum_fits (reg c b + reg c d) (m + n) (omega arith))))
  agrees (local.AddNumber a b imm) r u =
      with_word c h states memory 0 b _ _ (λ m le p.
      computed c h states memory 0 bounds a (capped (m + imm)) _ (first_in imm 0 a (b ∷ []) r) (wrapped_few (reg c b + imm))
      (sum_fits (reg c b + imm) (m + imm) (omega arith)))
  agrees (local.Subtract a b d) r u =
      with_word c h states memory 0 b _ _ (λ m le p. with_word c h states memory 0 d _ _ (λ n le2 p2.
      word_written c h states memory 0 a ANY _ (first_in 0 0 a (b ∷ d ∷ []) r) (wrapped_few (reg c b + 2 ^ 64 - reg c d))
      (wrapped_few (reg c b + 2 ^ 64 - reg c d))))
  agrees (local.And a b d) r u =
      with_word c h states memory 0 b _ _ (λ m le p. with_word c h states memory 0 d _ _ (λ n le2 p2.
      computed c h states memory 0 bounds a (smaller m n) _ (first_in 0 0 a (b ∷ d ∷ []) r)
      (let k = and_le_l (reg c b) (reg c d) in let few = h.small b in omega arith) (meet_fits (reg c b) (reg c d) m n le le2)))
  agrees (local.Or a b d) r u =
      with_word c h states memory 0 b _ _ (λ m le p. with_word c h states memory 0 d _ _ (λ n le2 p2.
      word_written c h states memory 0 a ANY _ (first_in 0 0 a (b ∷ d ∷ []) r) (or_few (reg c b) (reg c d) (h.small b) (h.small d))
      (or_few (reg c b) (reg c d) (h.small b) (h.small d))))
  agrees (local.Xor a b d) r u =
      with_word c h states memory 0 b _ _ (λ m le p. with_word c h states memory 0 d _ _ (λ n le2 p2.
      word_written c h states memory 0 a ANY _ (first_in 0 0 a (b ∷ d ∷ []) r) (xor_few (reg c b) (reg c d) (h.small b) (h.small d))
      (xor_few (reg c b) (reg c d) (h.small b) (h.small d))))
  agrees (local.ShiftLeft a b imm) r u =
      with_word c h states memory 0 b _ _
      (λ m le p. word_written c h states memory 0 a ANY _ (first_in imm 0 a (b ∷ []) r) (up_few (reg c b) imm) (up_few (reg c b) imm))
  agrees (local.ShiftRight a b imm) r u =
      with_word c h states memory 0 b _ _ (λ m le p. computed c h states memory 0 bounds a (shifted m imm) (shifted (reg c b) imm) (first_in imm 0 a (b ∷ []) r)
      (let k = down_less (reg c b) imm in let few = h.small b in omega arith) (shifted_below (reg c b) m imm le))
  agrees (local.Take a b) r u = taken c h states memory 0 a b (first_in 0 0 a (b ∷ []) r) (second_in 0 0 a b [] r)
  agrees (local.Swap a b imm) r u = swapped c h states memory 0 a b imm (first_in imm 0 a (b ∷ []) r) (slice_get i.slots imm) refl
  agrees (local.LoadByte a b imm) r u =
      loaded c h states memory 0 1 255 a b imm (first_in imm 0 a (b ∷ []) r) (omega arith) (λ n. byte_less c.memory n memory.bytes)
  agrees (local.LoadWord a b imm) r u =
      loaded c h states memory 0 8 ANY a b imm (first_in imm 0 a (b ∷ []) r) (omega arith) (λ n. word_less c.memory n memory.bytes)
  agrees (local.StoreByte a b imm) r u = kept c h states memory 0 1 a b imm
  agrees (local.StoreWord a b imm) r u = kept c h states memory 0 8 a b imm
  agrees (local.Jump target) r u = (memory, inl (refl, h))
  agrees (local.JumpZero a target) r u =
      split_ends c h states memory target (reg c a == 0) (zero_ways s a (value_at s a))
      (zero_splits h states a (there c h states memory target a (first_in 0 target a [] r)) (value_at s a) refl)
  agrees (local.JumpNotZero a target) r u =
      split_ends c h states memory target (not (reg c a == 0)) (unless (zero_ways s a (value_at s a)))
      (unless_splits _ (reg c a == 0) (zero_ways s a (value_at s a))
      (zero_splits h states a (there c h states memory target a (first_in 0 target a [] r)) (value_at s a) refl))
  agrees (local.JumpEqual a imm target) r u =
      split_ends c h states memory target (reg c a == imm) (equal_ways s a imm (value_at s a))
      (equal_splits h states a imm (there c h states memory target a (first_in imm target a [] r)) (value_at s a) refl)
  agrees (local.JumpNotEqual a imm target) r u =
      split_ends c h states memory target (not (reg c a == imm)) (unless (equal_ways s a imm (value_at s a)))
      (unless_splits _ (reg c a == imm) (equal_ways s a imm (value_at s a))
      (equal_splits h states a imm (there c h states memory target a (first_in imm target a [] r)) (value_at s a) refl))
  agrees (local.JumpBelow a imm target) r u =
      split_ends c h states memory target (nat_lt (reg c a) imm) (below_ways s a imm)
      (below_splits h states a imm (there c h states memory target a (first_in imm target a [] r)))
  agrees (local.JumpNotBelow a imm target) r u =
      split_ends c h states memory target (not (nat_lt (reg c a) imm)) (unless (below_ways s a imm))
      (unless_splits _ (nat_lt (reg c a) imm) (below_ways s a imm)
      (below_splits h states a imm (there c h states memory target a (first_in imm target a [] r))))
  agrees (local.JumpHas a imm target) r u =
      split_ends c h states memory target (within imm (reg c a)) (has_ways s imm (value_at s a)) (has_splits h states known a imm (value_at s a) refl)
  agrees (local.JumpHasNot a imm target) r u =
      split_ends c h states memory target (not (within imm (reg c a))) (unless (has_ways s imm (value_at s a)))
      (unless_splits _ (within imm (reg c a)) (has_ways s imm (value_at s a)) (has_splits h states known a imm (value_at s a) refl))
  agrees (local.Rep imm e) r u = rw u (memory, inr (refl, h))
  agrees (local.EndRep rep) r u = by c.counters u
    where
      by : (ns : List ℕ) → HasTurn (imm_of (marks_of i.code) rep) ns
          → Arrives f i c.counter (rep + 1) (Ok (ends_turn i.code s rep)) (turns_by c rep ns)
      by [] u = u
      by (n ∷ ns) u = again (nat_lt 1 n) refl
        where
          more : nat_lt 1 n ≡ true → goes_round_again i.code rep ≡ true
          more e = grind (arith, nat_tests)

          again : (b : Bool) → nat_lt 1 n ≡ b → Arrives f i c.counter (rep + 1) (Ok (ends_turn i.code s rep))
              (if b then Some (record c { counters = (n - 1) ∷ ns; counter = rep + 1 }) else Some (record c { counters = ns; counter = c.counter + 1 }))
          again true e = (memory, inl (refl, rw (more e) h))
          again false e = (memory, inr (refl, h))
