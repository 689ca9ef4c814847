-- What a call does and what its rule says are the same columns of the table, at values and at registers.
use Rattle.zl_verify.proofs.Common.{AbsVal, AllByRecursion, Bool, CallInstr, CallName, Cpu, Ending, List, None, Operand, Option, Site, Some, State, TRANSFER}
use Rattle.zl_verify.proofs.Common.{Uses, WRITE, Word, [], any, ap, are_registers, arith, both, call_reading, call_row, cond, condition_of, consumes, drop}
use Rattle.zl_verify.proofs.Common.{false, handle_operands, is_call_in_range, list_all, map, names_registers, nat_le, nat_lt, nat_tests, needs, number_at}
use Rattle.zl_verify.proofs.Common.{operands_at, operands_listed, received_in, refl, register_count, site_of, slice_index, suc, sym, taking, triple_results}
use Rattle.zl_verify.proofs.Common.{true, uses_of, values_of, zero, zip, ℕ, ◌&&◌, ◌*◌, ◌++◌, ◌+◌, ◌<◌, ◌∙◌, ◌∷◌, ◌≡◌, ◌≤◌}
use Rattle.std.proofs.lemmas.List.{append-nil}
use Rattle.zl_code.specs.Limits.{most_handles}
use Rattle.zl_code.specs.Instructions.{Field, names, closes}
use Rattle.zl_code.specs.Asked.{used, those, is_written, listed_in, triples_from}
use Rattle.zl_code.specs.Refusals.{operand_by}
use Rattle.zl_code.proofs.ImageCalls.{whole}
use Rattle.zl_rights.specs.declared.kind.Kind.TheVariants as kind
use Rattle.zl_code.specs.declared.history.CallName.TheVariants as name
use Rattle.zl_code.specs.declared.layout.Ending.TheVariants as ending
use Rattle.zl_verify.proofs.Examining.{valued, taken_registers, AreOperands, bars_zero}
use Rattle.zl_verify.proofs.Emptying.{emptied_by, given, sent_from}
use Rattle.zl_verify.proofs.Fitting.{AreInside}
use Rattle.zl_verify.proofs.Sites.{call, AtSite, of_site}
use Rattle.zl_verify.proofs.SizedWorlds.{all_behind}

-- ---- registers of an image are registers

abbrev AreRegisters : List ℕ → Type 0
AreRegisters rs = AllByRecursion (λ (r : ℕ). r < register_count) rs

registers_are : (rs : List ℕ) → are_registers rs ≡ true → AreRegisters rs
registers_are [] e = tt
registers_are (r ∷ rs) e =
    let two = both (nat_lt r register_count) (are_registers rs) e in
    let less : nat_lt r register_count ≡ true = two.0 in (grind (arith, nat_tests), registers_are rs two.1)

register_at : (rs : List ℕ) (n : ℕ) → AreRegisters rs → slice_index rs n < register_count
register_at [] n h = omega arith
register_at (r ∷ rs) zero h = h.0
register_at (r ∷ rs) (suc n) h = register_at rs n h.1

used_are : (places : List ℕ) → AreRegisters (used places)
used_are [] = tt
used_are (b ∷ bs) = by (nat_lt b 32) refl (used_are bs)
  where
    by : (x : Bool) → nat_lt b 32 ≡ x → AreRegisters (used bs) → AreRegisters (cond x (b ∷ used bs) (used bs))
    by true e more = (grind (arith, nat_tests), more)
    by false e more = more

received_are : (n r : ℕ) → r + 3 * n ≤ register_count → AreInside (triple_results r n)
received_are zero r h = tt
received_are (suc n) r h = (omega arith, (omega arith, (omega arith, received_are n (r + 3) (omega arith))))

one_operand : (f : Field) (r : ℕ) (os : List Operand) → r < register_count → AreOperands os → AreOperands (operand_by f r ++ os)
one_operand (names kinds rights) r os h more = (h, more)
one_operand (consumes kinds rights) r os h more = (h, more)
one_operand closes r os h more = (h, more)
one_operand _ r os h more = more

listed_are : (f : Option Field) (rs : List ℕ) → AreRegisters rs → AreOperands (operands_listed f rs)
listed_are None rs h = tt
listed_are (Some f) [] h = tt
listed_are (Some f) (r ∷ rs) h = one_operand f r (operands_listed (Some f) rs) h.0 (listed_are (Some f) rs h.1)

zipped_are : (rs : List ℕ) (values : List AbsVal) → AreRegisters rs → AreInside (zip rs values)
zipped_are [] values h = tt
zipped_are (r ∷ rs) [] h = tt
zipped_are (r ∷ rs) (v ∷ values) h = (h.0, zipped_are rs values h.1)

-- the triples end within the registers
abbrev pub room_ends : ℕ → ℕ → Type 0
room_ends first n = first + 3 * n ≤ register_count

room_there : (first n : ℕ) → (nat_le n most_handles && nat_le (first + 3 * n) register_count) ≡ true → room_ends first n
room_there first n e =
    let two = both (nat_le n most_handles) (nat_le (first + 3 * n) register_count) e in
    let less : nat_le (first + 3 * n) register_count ≡ true = two.1 in grind (arith, nat_tests)

module _ (x : CallInstr) (range : is_call_in_range x ≡ true) where
  registers : AreRegisters x.registers
  registers = registers_are x.registers (whole x range).registers

  those_are : (test : Field → Bool) (fs : List Field) (n : ℕ) → AreRegisters (those test fs n x.registers)
  those_are test [] n = tt
  those_are test (f ∷ fs) n = by (test f) (those_are test fs (suc n))
    where
      by : (b : Bool) → AreRegisters (those test fs (suc n) x.registers)
          → AreRegisters (cond b (slice_index x.registers n ∷ those test fs (suc n) x.registers) (those test fs (suc n) x.registers))
      by true more = (register_at x.registers n registers, more)
      by false more = more

  operands_are : (fs : List Field) (n : ℕ) → AreOperands (operands_at fs n x.registers)
  operands_are [] n = tt
  operands_are (f ∷ fs) n =
      one_operand f (slice_index x.registers n) (operands_at fs (suc n) x.registers) (register_at x.registers n registers) (operands_are fs (suc n))

  list_registers : (e : Ending) → AreRegisters (listed_in e x)
  list_registers ending.Handles = used_are x.last
  list_registers _ = tt

  received_inside : (e : Ending) → names_registers e (call_reading x) ≡ true → AreInside (received_in e x)
  received_inside ending.Room named =
      received_are (number_at x.last 0 4) (slice_index x.registers 6) (room_there (slice_index x.registers 6) (number_at x.last 0 4) named)
  received_inside _ named = tt

  pub operands_inside : (bounds : List ℕ) (s : State) → AreOperands (uses_of bounds s x).operands
  unfolding uses_of
  operands_inside bounds s =
      let r = call_row x.name in
      all_behind (λ (o : Operand). o.value < register_count) (operands_at r.fields 0 x.registers) (operands_listed r.in_list (listed_in r.ending x))
      (operands_are r.fields 0) (listed_are r.in_list (listed_in r.ending x) (list_registers r.ending))

  pub results_inside : (bounds : List ℕ) (s : State) → AreInside (uses_of bounds s x).results
  unfolding uses_of
  results_inside bounds s =
      let r = call_row x.name in
      let written = those is_written r.fields 0 x.registers in
      all_behind (λ (d : ℕ × AbsVal). d.0 < register_count) (zip written (Word 30 ∷ values_of bounds s x)) (received_in r.ending x)
      (zipped_are written (Word 30 ∷ values_of bounds s x) (those_are is_written r.fields 0)) (received_inside r.ending (whole x range).named)

-- the triples of chan_read_etc do
pub places_end : (rs last : List ℕ) → is_call_in_range (call name.ChanReadEtc rs last) ≡ true → room_ends (slice_index rs 6) (number_at last 0 4)
places_end rs last range = room_there (slice_index rs 6) (number_at last 0 4) (whole (call name.ChanReadEtc rs last) range).named

-- ---- the columns of a call

-- the call at the site asks for what its rule uses
pub record IsAligned (c : Cpu) (t : Site) (u : Uses) : Type 0 where
  pub operands : handle_operands t.request ≡ map (valued c.registers) u.operands ++ given (sent_from c.slots t.emptied)
  pub consumed : t.consumed ≡ taken_registers u.operands
  pub emptied : t.emptied ≡ emptied_by c.registers u.array
  pub destinations : t.destinations ≡ map (λ x. x.0) u.results
  pub condition : condition_of t.request ≡ u.condition
  -- 0 passes at the first operand alone, if it does
  pub plain : list_all bars_zero (drop 1 u.operands) ≡ true

all_valued : (xs rs : List ℕ) → given (map (λ r. slice_index xs r) rs) ≡ map (valued xs) (given rs)
all_valued xs [] = refl
all_valued xs (r ∷ rs) = ap (λ l. taking (slice_index xs r) any TRANSFER ∷ l) (all_valued xs rs)

all_taken : (rs : List ℕ) → rs ≡ taken_registers (given rs)
all_taken [] = refl
all_taken (r ∷ rs) = ap (λ l. r ∷ l) (all_taken rs)

all_plain : (rs : List ℕ) → list_all bars_zero (given rs) ≡ true
all_plain [] = refl
all_plain (r ∷ rs) = all_plain rs

triple_destinations : (g n : ℕ) → triples_from g n ≡ map (λ x. x.0) (triple_results g n)
triple_destinations g zero = refl
triple_destinations g (suc n) = ap (λ l. g ∷ (g + 1) ∷ (g + 2) ∷ l) (triple_destinations (g + 3) n)

aligned_by : (bounds : List ℕ) (s : State) (c : Cpu) (n : CallName) (rs last : List ℕ)
    → AtSite c (call n rs last) (λ t. IsAligned c t (uses_of bounds s (call n rs last)))
unfolding uses_of handle_operands
aligned_by bounds s c name.ChanWrite rs last = record {
  operands = ap (λ l. needs (slice_index c.registers (slice_index rs 1)) (kind.Channel ∷ []) WRITE ∷ l)
      (all_valued c.registers (used last) ∙ sym (append-nil (map (valued c.registers) (given (used last)))));
  consumed = all_taken (used last);
  emptied = refl;
  destinations = refl;
  condition = refl;
  plain = all_plain (used last);
}
aligned_by bounds s c name.ChanReadEtc rs last = record {
  operands = refl;
  consumed = refl;
  emptied = refl;
  destinations = ap (λ l. slice_index rs 0 ∷ slice_index rs 4 ∷ slice_index rs 5 ∷ l) (triple_destinations (slice_index rs 6) (number_at last 0 4));
  condition = refl;
  plain = refl;
}
aligned_by bounds s c _ rs last = record { operands = refl; consumed = refl; emptied = refl; destinations = refl; condition = refl; plain = refl }

pub aligned : (bounds : List ℕ) (s : State) (x : CallInstr) (c : Cpu) (t : Site) → site_of x c ≡ Some t → IsAligned c t (uses_of bounds s x)
aligned bounds s x c t site = of_site c x t site (λ t. IsAligned c t (uses_of bounds s x)) (aligned_by bounds s c x.name x.registers x.last)
