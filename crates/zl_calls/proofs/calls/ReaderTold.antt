-- What a reader is told, in its registers and its memory.
use Rattle.zl_calls.proofs.Common.{Acted, Bool, CallInstr, ChanReadDoes, Cpu, Entry, Handles, IsSome, IsTrue, List, None, Objects, Ok, Option, Outcome, Process}
use Rattle.zl_calls.proofs.Common.{Received, Site, Some, [], answered, ap, arith, array_in, chan_read_etc, chan_read_slots, drop, false, false≢true}
use Rattle.zl_calls.proofs.Common.{if◌then◌else◌, length, number_at, read_into, refl, reg, register_set, room_in, site, site_of, sizes_into, slice_get}
use Rattle.zl_calls.proofs.Common.{slice_index, slice_set, slots_filled, status_magnitude, subst, suc, sym, take, take-append-drop, then_some, told_of}
use Rattle.zl_calls.proofs.Common.{triple_of, triples_from, true, with_kept, with_stored, written, zero, ℕ, ◌*◌, ◌++◌, ◌+◌, ◌-◌, ◌<◌, ◌==◌, ◌∙◌, ◌∷◌, ◌≡◌, ◌≤◌}
use Rattle.std.proofs.Math.Nat.{min-le_left}
use Rattle.zl_rights.proofs.Common.{le-leb}
use Rattle.zl_code.specs.Asked.{has_places, zeros_in_front}
use Rattle.zl_code.specs.Local.{overwritten}
use Rattle.zl_rights.specs.declared.status.Status.TheVariants as status
use Rattle.zl_code.specs.declared.history.Outcome.TheVariants as outcome
use Rattle.zl_code.specs.declared.history.CallName.TheVariants as name
use Rattle.std.specs.Prelude.{min}
use Rattle.zl_calls.proofs.calls.Readers.{handles_fit}

-- ---- triples

-- three registers, from q on, with these values
abbrev pub with_three : List ℕ → ℕ → List ℕ → List ℕ
with_three rs q triple = slice_set (slice_set (slice_set rs q (slice_index triple 0)) (q + 1) (slice_index triple 1)) (q + 2) (slice_index triple 2)

told_none : (es : List Entry) → told_of es [] ≡ []
told_none [] = refl
told_none (e ∷ es) = refl

triple_none : (o : Option Entry) → triple_of o None ≡ 0 ∷ 0 ∷ 0 ∷ []
triple_none None = refl
triple_none (Some e) = refl

turn : (n : ℕ) (es : List Entry) (vs : List ℕ) (q k : ℕ) (rs : List ℕ) → written rs (triples_from q (suc k)) (told_of (drop n es) (drop n vs))
    ≡ written (with_three rs q (triple_of (slice_get es n) (slice_get vs n))) (triples_from (q + 3) k) (told_of (drop (suc n) es) (drop (suc n) vs))
turn zero [] vs q k rs = refl
turn zero (e ∷ es) [] q k rs = rw (told_none es) refl
turn zero (e ∷ es) (v ∷ vs) q k rs = refl
turn (suc n) [] vs q k rs = refl
turn (suc n) (e ∷ es) [] q k rs = rw (told_none (drop n es), told_none (drop (suc n) es), triple_none (slice_get es n)) refl
turn (suc n) (e ∷ es) (v ∷ vs) q k rs = turn n es vs q k rs

-- what is left to tell, with one triple more told
pub one_told : (start n places : ℕ) → n < places → (es : List Entry) (vs rs : List ℕ)
    → written rs (triples_from (start + 3 * n) (places - n)) (told_of (drop n es) (drop n vs))
    ≡ written (with_three rs (start + 3 * n) (triple_of (slice_get es n) (slice_get vs n))) (triples_from (start + 3 * (n + 1)) (places - (n + 1)))
    (told_of (drop (n + 1) es) (drop (n + 1) vs))
one_told start n places within es vs rs =
    let left : places - n ≡ suc (places - (n + 1)) = omega (arith, within) in
    let on : start + 3 * n + 3 ≡ start + 3 * (n + 1) = omega arith in
    let next : suc n ≡ n + 1 = omega arith in
    ap (λ k. written rs (triples_from (start + 3 * n) k) (told_of (drop n es) (drop n vs))) left
    ∙ (turn n es vs (start + 3 * n) (places - (n + 1)) rs
    ∙ λ i. written (with_three rs (start + 3 * n) (triple_of (slice_get es n) (slice_get vs n))) (triples_from (on i) (places - (n + 1)))
    (told_of (drop (next i) es) (drop (next i) vs)))

-- nothing but registers has changed yet
pub set_keeps : (initial now next : Cpu) (i x : ℕ) → now ≡ record initial { registers = now.registers } → next ≡ register_set now i x
    → next ≡ record initial { registers = next.registers }
set_keeps initial now next i x was set =
    set ∙ (ap (λ (c : Cpu). register_set c i x) was ∙ ap (λ (rs : List ℕ). record initial { registers = rs }) (sym (ap (λ (c : Cpu). c.registers) set)))

-- ---- memory

pub length_same : {xs ys : List ℕ} → xs ≡ ys → length xs ≡ length ys
length_same same = ap (λ (xs : List ℕ). length xs) same

pub stored_is : (address : ℕ) (bytes : List ℕ) (c : Cpu) → with_stored (address, bytes) c ≡ record c { memory = overwritten c.memory address bytes }
stored_is address [] c =
    let same : address + 0 ≡ address = omega arith in
    ap (λ m. record c { memory = m }) (sym (ap (λ k. take address c.memory ++ drop k c.memory) same ∙ take-append-drop address c.memory))
stored_is address (b ∷ bytes) c = refl

-- ---- a message that was read

-- the site of a read by its registers
abbrev pub read_site : CallInstr → Cpu → Site
read_site i c =
    site (chan_read_etc (reg c (slice_index i.registers 1)) (reg c (slice_index i.registers 2)) (reg c (slice_index i.registers 3)) (number_at i.last 0 4)) []
    (read_into i)

then_there : {A : Type 0} (b : Bool) (x : A) → IsSome (then_some b x) → then_some b x ≡ Some x
then_there true x there = refl
then_there false x there = absurd (elim (false≢true there) [ ])

-- a read that isn't stuck is at it
pub at_read : (i : CallInstr) (c : Cpu) → i.name ≡ name.ChanReadEtc → IsSome (site_of i c) → site_of i c ≡ Some (read_site i c)
unfolding site_of
at_read i c is there = rw is (then_there _ _ (rw is at there))

-- the site of a read into a slot array
abbrev pub slots_site : CallInstr → Cpu → Site
slots_site i c =
    site (chan_read_slots (reg c (slice_index i.registers 1)) (reg c (slice_index i.registers 2)) (reg c (slice_index i.registers 3)) (number_at i.last 0 4)
    (room_in (array_in i c))) [] (sizes_into i)

pub at_read_slots : (i : CallInstr) (c : Cpu) → i.name ≡ name.ChanReadSlots → IsSome (site_of i c) → site_of i c ≡ Some (slots_site i c)
unfolding site_of
at_read_slots i c is there = rw is (then_there _ _ (rw is at there))

-- the call was done for the process p, from the channel to the address, and told in these registers
module _ (channel address room places : ℕ) (to : List ℕ) (p p2 : Process) (r r2 : Objects) where
  abbrev answered_so : Cpu → (size : ℕ) (entries : List Entry) (values : List ℕ) → Cpu
  answered_so c size entries values = answered c to (status_magnitude status.Ok ∷ size ∷ length entries ∷ told_of entries values)

  -- the parts of the answer are seen one by one
  pub parts_act : (t2 : Handles) (seen received : Received) (o : Outcome) → seen ≡ received → ChanReadDoes channel room places p.table r (Ok received) t2 r2
      → o ≡ outcome.Answered status.Ok
      → (stored : Cpu) (size : ℕ) (bs : List ℕ) (hs : List Entry) (vs : List ℕ) → stored ≡ record p.cpu { memory = overwritten p.cpu.memory address bs }
      → bs ≡ seen.message.bytes → size ≡ length seen.message.bytes → hs ≡ seen.message.handles → vs ≡ seen.values.items
      → p2 ≡ record p { cpu = answered_so stored size hs vs; table = t2 } → Acted (Some (site (chan_read_etc channel address room places) [] to)) p r o p2 r2
  parts_act t2 seen received o same does ends stored size bs hs vs stores these sized those valued is = record {
    answer = Ok seen;
    acts = subst (λ (t : Handles). ChanReadDoes channel room places p.table r (Ok seen) t r2) (sym (ap (λ (q : Process). q.table) is))
        (subst (λ (x : Received). ChanReadDoes channel room places p.table r (Ok x) t2 r2) (sym same) does);
    ends = ends;
    replied = is ∙ λ i. record p { cpu = answered_so (memory i) (sized i) (those i) (valued i); table = sym (ap (λ (q : Process). q.table) is) i };
  }
    where
      memory : stored ≡ with_stored (address, seen.message.bytes) p.cpu
      memory =
          stores ∙ (ap (λ bytes. record p.cpu { memory = overwritten p.cpu.memory address bytes }) these ∙ sym (stored_is address seen.message.bytes p.cpu))

  -- the same where values are kept in a slot array
  pub slots_act : (array : ℕ) (t2 : Handles) (seen received : Received) (o : Outcome) → seen ≡ received
      → ChanReadDoes channel room places p.table r (Ok received) t2 r2 → o ≡ outcome.Answered status.Ok
      → (stored filled : Cpu) (size : ℕ) (bs : List ℕ) (hs : List Entry) (vs : List ℕ)
      → stored ≡ record p.cpu { memory = overwritten p.cpu.memory address bs } → bs ≡ seen.message.bytes
      → filled ≡ record stored { slots = slots_filled stored.slots (Some (array, vs)) } → vs ≡ seen.values.items
      → size ≡ length seen.message.bytes → hs ≡ seen.message.handles
      → p2 ≡ record p { cpu = answered filled to (status_magnitude status.Ok ∷ size ∷ length hs ∷ []); table = t2 }
      → Acted (Some (site (chan_read_slots channel address room array places) [] to)) p r o p2 r2
  slots_act array t2 seen received o same does ends stored filled size bs hs vs stores these fills valued sized those is = record {
    answer = Ok seen;
    acts = subst (λ (t : Handles). ChanReadDoes channel room places p.table r (Ok seen) t r2) (sym (ap (λ (q : Process). q.table) is))
        (subst (λ (x : Received). ChanReadDoes channel room places p.table r (Ok x) t2 r2) (sym same) does);
    ends = ends;
    replied = is ∙ λ i. record p {
      cpu = answered (slots i) to (status_magnitude status.Ok ∷ sized i ∷ length (those i) ∷ []);
      table = sym (ap (λ (q : Process). q.table) is) i;
    };
  }
    where
      memory : stored ≡ with_stored (address, seen.message.bytes) p.cpu
      memory =
          stores ∙ (ap (λ bytes. record p.cpu { memory = overwritten p.cpu.memory address bytes }) these ∙ sym (stored_is address seen.message.bytes p.cpu))

      slots : filled ≡ with_kept (Some (array, seen.values.items)) (with_stored (address, seen.message.bytes) p.cpu)
      slots = fills ∙ λ i. record (memory i) { slots = slots_filled (memory i).slots (Some (array, valued i)) }

-- ---- room in slots

few_zeros : (places : List ℕ) → zeros_in_front places ≤ length places
few_zeros [] = omega arith
few_zeros (v ∷ vs) = by (v == 0) (few_zeros vs)
  where
    by : (b : Bool) → zeros_in_front vs ≤ length vs → (if b then suc (zeros_in_front vs) else 0) ≤ length (v ∷ vs)
    by true rest = omega (arith, rest)
    by false rest = omega arith

-- the array is there and has these places; for so many handles there is room
module _ (x : Option (List ℕ)) (held : List ℕ) (places : ℕ) (is : x ≡ Some held) (counted : places ≡ min (zeros_in_front held) 64) where
  pub room_is : room_in x ≡ places
  room_is = ap room_in is ∙ sym counted

  -- the values of a message that was read have a place each
  pub values_fit : (t t2 : Handles) (r r2 : Objects) (channel room : ℕ) (seen received : Received) → seen ≡ received
      → ChanReadDoes channel room places t r (Ok received) t2 r2 → (vs : List ℕ) → vs ≡ seen.values.items → IsTrue (has_places (length vs) x)
  values_fit t t2 r r2 channel room seen received same does vs valued =
      let few : length received.values.items ≤ places = handles_fit t t2 r r2 channel room places received does.ok in
      let all : length vs ≡ length received.values.items = ap (λ (xs : List ℕ). length xs) (valued ∙ ap (λ (y : Received). y.values.items) same) in
      rw is (le-leb (length vs) (length held) (omega (arith, few, all, counted, few_zeros held, min-le_left (zeros_in_front held) 64)))
