-- The counters of blocks along edges: a rep gives one more, an endrep counts or drops it, and any other instruction leaves them.
use Rattle.zl_verify.proofs.Common.{AreCountersAt, Bool, CallInstr, Cpu, IfSome, Image, Instr, IsTrue, List, LocalInstr, None, OneOf, Option, Some, State, []}
use Rattle.zl_verify.proofs.Common.{ap, arith, blocks_at, end_of, ends_of, false, if◌then◌else◌, imm_of, inl, inr, instr_at, is_in_range, length, local_effect}
use Rattle.zl_verify.proofs.Common.{local_parts, mark_of, marks_of, nat_lt, nat_tests, option_map, refl, reg, same_Some, slice_get, slice_get-map, spots_to}
use Rattle.zl_verify.proofs.Common.{suc, sym, true, zero, ℕ, ◌+◌, ◌<◌, ◌∙◌, ◌∷◌, ◌≡◌}
use Rattle.zl_code.specs.Blocks.{AreCounters}
use Rattle.zl_code.specs.Local.{swaps_in, turns_by}
use Rattle.zl_code.specs.declared.blocks.Mark.{Mark}
use Rattle.zl_code.proofs.Nested.{fits}
use Rattle.zl_code.specs.declared.blocks.Mark.TheVariants as mark
use Rattle.zl_code.specs.declared.instr.Instr.TheVariants as instr
use Rattle.zl_code.specs.declared.instr.LocalInstr.TheVariants as local
use Rattle.zl_verify.specs.Longest.{past}
use Rattle.zl_verify.specs.Steps.{Spot, spots}
use Rattle.zl_verify.proofs.Agreeing.{CanTurn, HasTurn}
use Rattle.zl_verify.proofs.Blocked.{LeadSo, nest}
use Rattle.zl_verify.proofs.Suiting.{counted_there, ends_here, ends_lead, in_ended, past_end}
use Rattle.zl_verify.proofs.Walking.{less_one}

-- ---- what is plain

-- the n-th instruction neither begins a block nor ends one
abbrev pub IsPlain : Image → ℕ → Type 0
IsPlain i n = slice_get (marks_of i.code) n ≡ Some mark.Plain

marked : (i : Image) (n : ℕ) (x : Instr) → instr_at i n ≡ Some x → slice_get (marks_of i.code) n ≡ Some (mark_of x)
marked i n x is = slice_get-map mark_of i.code n ∙ ap (option_map mark_of) is

pub call_is_plain : (i : Image) (n : ℕ) (x : CallInstr) → instr_at i n ≡ Some (instr.Call x) → IsPlain i n
call_is_plain i n x is = marked i n (instr.Call x) is

-- from there each edge is followed, with the same counters
pub plain_follows : (i : Image) (n m : ℕ) (cs ms : List ℕ) → IsPlain i n → OneOf (λ k. m ≡ k) ms → OneOf (λ s. (m, cs) ≡ s) (spots_to i (n, cs) ms)
plain_follows i n m cs ms plain follows = rw plain (along ms follows)
  where
    along : (ms : List ℕ) → OneOf (λ k. m ≡ k) ms → OneOf (λ s. (m, cs) ≡ s) (spots (Some mark.Plain) n cs ms)
    along [] h = absurd h
    along (k ∷ ms) (inl e) = inl (ap (λ j. (j, cs)) e)
    along (k ∷ ms) (inr h) = inr (along ms h)

-- ---- local instructions

module _ (c : Cpu) where
  -- the effect, if there is one, leaves the counters
  abbrev Leaves : Option Cpu → Type 0
  Leaves o = IfSome o (λ d. d.counters ≡ c.counters)

  if_there : (b : Bool) (d : Cpu) → d.counters ≡ c.counters → Leaves (if b then Some d else None)
  if_there true d same = same
  if_there false d same = tt

  swapped : (a place array : ℕ) (o : Option (List ℕ)) → Leaves (swaps_in c a place array o)
  swapped a place array None = tt
  swapped a place array (Some slots) = if_there _ _ refl

  leaves : (x : LocalInstr) → mark_of (instr.Local x) ≡ mark.Plain → Leaves (local_effect x c)
  unfolding local_effect local_parts
  leaves (local.Swap a b imm) p = swapped a (reg c b) imm (slice_get c.slots imm)
  leaves (local.LoadByte a b imm) p = if_there _ _ refl
  leaves (local.LoadWord a b imm) p = if_there _ _ refl
  leaves (local.StoreByte a b imm) p = if_there _ _ refl
  leaves (local.StoreWord a b imm) p = if_there _ _ refl
  leaves (local.Rep imm e) p = cc
  leaves (local.EndRep r) p = cc
  leaves _ p = refl

  local_leaves : (x : LocalInstr) (d : Cpu) → mark_of (instr.Local x) ≡ mark.Plain → local_effect x c ≡ Some d → d.counters ≡ c.counters
  local_leaves x d p effect = rw effect at (leaves x p)

counted_so : (marks : List Mark) (rs cs : List ℕ) → AreCounters marks rs cs → length cs ≡ length rs
counted_so marks [] [] c = refl
counted_so marks [] (k ∷ cs) c = absurd c
counted_so marks (r ∷ rs) [] c = absurd c
counted_so marks (r ∷ rs) (k ∷ cs) c = ap suc (counted_so marks rs cs c.2)

module _ (i : Image) (range : IsTrue (is_in_range i)) (c : Cpu) (are : AreCountersAt i c.counter c.counters) where
  abbrev marks : List Mark
  marks = marks_of i.code

  -- a rep has room for its counter, and an endrep has one
  pub can_turn : (x : LocalInstr) → instr_at i c.counter ≡ Some (instr.Local x) → CanTurn i c x
  can_turn (local.Rep imm e) is =
      let few = (fits marks (nest i range) c.counter imm e (marked i c.counter (instr.Local (local.Rep imm e)) is)).few in
      room (length c.counters) (length (blocks_at marks c.counter)) few (counted_so marks (blocks_at marks c.counter) c.counters are)
    where
      room : (n m : ℕ) → m < 4 → n ≡ m → nat_lt n 4 ≡ true
      room n m few e = grind (arith, nat_tests)
  can_turn (local.EndRep r) is =
      by c.counters (in_ended i range c.counter r c.counters (marked i c.counter (instr.Local (local.EndRep r)) is) are)
    where
      by : (cs : List ℕ) → AreCounters marks (r ∷ blocks_at marks r) cs → HasTurn (imm_of marks r) cs
      by [] h = h
      by (k ∷ cs) h = h.1
  can_turn _ is = tt

  module _ (d : Cpu) where
    -- a Cpu moved by a rep, and by an endrep
    entered : (imm : ℕ) (b : Bool) → (if b then Some (record c { counters = imm ∷ c.counters; counter = c.counter + 1 }) else None) ≡ Some d
        → ◌≡◌ {A = Spot} (d.counter, d.counters) (c.counter + 1, imm ∷ c.counters)
    entered imm true e = ap (λ (z : Cpu). (z.counter, z.counters)) (sym (same_Some _ d e))
    entered imm false e = cc

    turned : (r : ℕ) → end_of marks r ≡ c.counter → (cs : List ℕ) → turns_by c r cs ≡ Some d → AreCounters marks (r ∷ blocks_at marks r) cs
        → ◌≡◌ {A = Spot} (d.counter, d.counters) (past marks (r ∷ blocks_at marks r) cs)
    turned r at [] e h = absurd h
    turned r at (zero ∷ cs) e h = absurd (omega (arith, h.0))
    turned r at (suc zero ∷ cs) e h = rw at (ap (λ (z : Cpu). (z.counter, z.counters)) (sym (same_Some _ d e)))
    turned r at (suc (suc k) ∷ cs) e h =
        ap (λ (z : Cpu). (z.counter, z.counters)) (sym (same_Some _ d (rw (more k, less_one (suc k)) at e)))
      where
        more : (k : ℕ) → nat_lt 1 (suc (suc k)) ≡ true
        more k = grind (arith, nat_tests)

    -- the Cpu behind the effect stands at the end of a followed edge, if an edge leads there
    pub follows_along : (x : LocalInstr) → instr_at i c.counter ≡ Some (instr.Local x) → local_effect x c ≡ Some d → (ms : List ℕ)
        → LeadSo (marks_of i.code) (slice_get (marks_of i.code) c.counter) c.counter ms → OneOf (λ k. d.counter ≡ k) ms
        → OneOf (λ s. (d.counter, d.counters) ≡ s) (spots_to i (c.counter, c.counters) ms)
    unfolding local_effect
    follows_along (local.Rep imm e) is effect ms so follows = elim (rw q at so) [
      | inl h ↦ absurd (rw h at follows)
      | inr h ↦ rw (h, q) (inl (entered imm (nat_lt (length c.counters) 4) effect))
    ]
      where
        q : slice_get marks c.counter ≡ Some (mark.Rep imm e)
        q = marked i c.counter (instr.Local (local.Rep imm e)) is
    follows_along (local.EndRep r) is effect ms so follows = elim (rw q at so) [
      | inl h ↦ absurd (rw h at follows)
      | inr h ↦
          rw (h, q, past_end i range c.counter r c.counters q are)
          (inl (turned r (ends_here i range c.counter r q) c.counters effect (in_ended i range c.counter r c.counters q are)))
    ]
      where
        q : slice_get marks c.counter ≡ Some (mark.EndRep r)
        q = marked i c.counter (instr.Local (local.EndRep r)) is
    follows_along x is effect ms so follows =
        rw (local_leaves c x d refl effect) (plain_follows i c.counter d.counter c.counters ms (marked i c.counter (instr.Local x) is) follows)

-- ---- calls

-- behind a call the counters are right where they were so before it
pub call_counted : (i : Image) → IsTrue (is_in_range i) → (t : ℕ → Option State) (n m : ℕ) (cs : List ℕ) (x : CallInstr) → instr_at i n ≡ Some (instr.Call x)
    → AreCountersAt i n cs → OneOf (λ k. m ≡ k) (ends_of i t n) → AreCountersAt i m cs
call_counted i range t n m cs x is are follows =
    counted_there i range n cs (ends_of i t n) (m, cs) (ends_lead i range n (t n)) are
    (plain_follows i n m cs (ends_of i t n) (call_is_plain i n x is) follows)
