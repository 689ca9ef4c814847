-- What is true wherever an instruction goes on to the next one alone is true of each rule that is no jump's.
use Rattle.zl_verify.proofs.Common.{ANY, AbsVal, Bool, Cause, Err, IfOk, Image, List, LocalInstr, None, Ok, Option, Result, SlotArray, Some, State, Word}
use Rattle.zl_verify.proofs.Common.{and_then, eqb, false, if◌then◌else◌, in_memory, is_has, loads, local_rule, ltb, may_jump, may_move, moved, not, passes}
use Rattle.zl_verify.proofs.Common.{slice_get, slot_fault, stores, swaps_by, swaps_in, true, value_at, with_value, word_at, writes, ℕ, ◌≡◌}
use Rattle.zl_abs.specs.Outcome.{Outcome}
use Rattle.zl_abs.specs.LocalRules.{takes}
use Rattle.zl_code.specs.declared.instr.LocalInstr.TheVariants as local
use Rattle.zl_abs.specs.declared.cause.Cause.TheVariants as cause

module _ (P : Outcome → Type 0) where
  pub then_on : {A : Type 0} (x : Result A Cause) (f : A → Result Outcome Cause) → ((a : A) → IfOk (f a) P) → IfOk (and_then x f) P
  then_on (Err c) f h = tt
  then_on (Ok a) f h = h a

  if_on : (t : Bool) (x : Result Outcome Cause) (c : Cause) → IfOk x P → IfOk (if t then x else Err c) P
  if_on true x c h = h
  if_on false x c h = tt

  unless_on : (t : Bool) (x : Result Outcome Cause) (c : Cause) → IfOk x P → IfOk (if t then Err c else x) P
  unless_on true x c h = tt
  unless_on false x c h = h

  pub one : (s : State) (b : ℕ) (f : ℕ → Result Outcome Cause) → ((m : ℕ) → IfOk (f m) P) → IfOk (and_then (word_at s b) f) P
  one s b f h = then_on (word_at s b) f h

  two : (s : State) (b c : ℕ) (f : ℕ → ℕ → Result Outcome Cause) → ((m n : ℕ) → IfOk (f m n) P)
      → IfOk (and_then (word_at s b) (λ m. and_then (word_at s c) (λ n. f m n))) P
  two s b c f h = one s b _ (λ m. one s c (f m) (h m))

module _ (P : Outcome → Type 0) (on : (s : State) → P (passes s)) where
  writes_on : (s : State) (r : ℕ) (v : AbsVal) → IfOk (writes s r v) P
  writes_on s r v = unless_on P (is_has (value_at s r)) (Ok (passes (with_value s r v))) cause.Leak (on (with_value s r v))

  loads_on : (i : Image) (s : State) (n bound a b offset : ℕ) → IfOk (loads i s n bound a b offset) P
  loads_on i s n bound a b offset = one P s b _ (λ m. if_on P (in_memory i m offset n) _ _ (writes_on s a (Word bound)))

  stores_on : (i : Image) (s : State) (n a b offset : ℕ) → IfOk (stores i s n a b offset) P
  stores_on i s n a b offset = two P s a b _ (λ m x. if_on P (in_memory i m offset n) (Ok (passes s)) cause.MemoryRange (on s))

  takes_on : (s : State) (a b : ℕ) → IfOk (takes s a b) P
  takes_on s a b =
      unless_on P (eqb a b) _ _ (unless_on P (not (may_move (value_at s b))) _ _
      (unless_on P (is_has (value_at s a)) (Ok (passes (moved s a b (value_at s b)))) cause.Leak (on (moved s a b (value_at s b)))))

  swap_on : (s : State) (a : ℕ) (t : SlotArray) (o : Option Cause) → IfOk (swaps_by s a t o) P
  swap_on s a t (Some c) = tt
  swap_on s a t None = on _

  swaps_on : (s : State) (a b : ℕ) (o : Option SlotArray) → IfOk (swaps_in s a b o) P
  swaps_on s a b None = tt
  swaps_on s a b (Some t) = one P s b _ (λ place. if_on P (ltb place t.length) _ _ (swap_on s a t (slot_fault t (value_at s a))))

  pub passes_on : (bounds : List ℕ) (i : Image) (x : LocalInstr) (s : State) → may_jump x ≡ None → IfOk (local_rule bounds i x s) P
  unfolding local_rule
  passes_on bounds i (local.Const a imm) s e = writes_on s a _
  passes_on bounds i (local.Move a b) s e = one P s b _ (λ m. writes_on s a _)
  passes_on bounds i (local.Add a b c) s e = two P s b c _ (λ m n. writes_on s a _)
  passes_on bounds i (local.AddNumber a b imm) s e = one P s b _ (λ m. writes_on s a _)
  passes_on bounds i (local.Subtract a b c) s e = two P s b c _ (λ m n. writes_on s a _)
  passes_on bounds i (local.And a b c) s e = two P s b c _ (λ m n. writes_on s a _)
  passes_on bounds i (local.Or a b c) s e = two P s b c _ (λ m n. writes_on s a _)
  passes_on bounds i (local.Xor a b c) s e = two P s b c _ (λ m n. writes_on s a _)
  passes_on bounds i (local.ShiftLeft a b imm) s e = one P s b _ (λ m. writes_on s a _)
  passes_on bounds i (local.ShiftRight a b imm) s e = one P s b _ (λ m. writes_on s a _)
  passes_on bounds i (local.Take a b) s e = takes_on s a b
  passes_on bounds i (local.Swap a b imm) s e = swaps_on s a b (slice_get i.slots imm)
  passes_on bounds i (local.LoadByte a b imm) s e = loads_on i s 1 255 a b imm
  passes_on bounds i (local.LoadWord a b imm) s e = loads_on i s 8 ANY a b imm
  passes_on bounds i (local.StoreByte a b imm) s e = stores_on i s 1 a b imm
  passes_on bounds i (local.StoreWord a b imm) s e = stores_on i s 8 a b imm
  passes_on bounds i (local.Rep imm end) s e = on s
  passes_on bounds i _ s e = cc
