-- Handles that a call sends from the places of a slot array.
use Rattle.zl_calls.proofs.Common.{Acted, Bool, CallInstr, ChanWriteDoes, Cpu, Entry, Err, Handles, IfSome, IsSome, List, Map, Objects, Ok, Outcome, Process}
use Rattle.zl_calls.proofs.Common.{Result, Some, Status, TRANSFER, [], and_parts, ap, array_in, bytes_in, contains, drop, emptied_count, eqb-true, false}
use Rattle.zl_calls.proofs.Common.{false≢true, fault_of, filled, filled_among, get_or, if◌then◌else◌, length, list_refusal, looked_up, ne_eqb, no_value, not}
use Rattle.zl_calls.proofs.Common.{number_at, option_or, refl, reg, replicate, site_at, site_in, site_named, site_of, slice_get, slice_index, slots_filled}
use Rattle.zl_calls.proofs.Common.{status_of, subst, sym, take, then_some, true, ℕ, ⊤, ◌&&◌, ◌++◌, ◌+◌, ◌<◌, ◌==◌, ◌||◌, ◌∙◌, ◌∷◌, ◌≡◌, ◌≢◌}
use Rattle.std.proofs.lemmas.List.{append-nil, drop_more, take_more}
use Rattle.std.proofs.lemmas.List.Elements.{filter-append}
use Rattle.zl_code.specs.Asked.{has_places, is_range_there}
use Rattle.zl_code.specs.declared.history.CallName.TheVariants as name
use Rattle.zl_code.specs.declared.history.Outcome.TheVariants as outcome
use Rattle.zl_rights.specs.declared.status.Status.TheVariants as status
use Rattle.zl_calls.specs.calls.Answer.{answered_in}

-- ---- places one by one

-- a handle stands among the places just where it is one of those that they hold
seen_filled : (xs : List ℕ) (h : ℕ) → (h == 0) ≡ false → contains (filled xs) h ≡ contains xs h
seen_filled [] h apart = refl
seen_filled (x ∷ xs) h apart = by_value (x == 0) refl (seen_filled xs h apart)
  where
    by_key : (b : Bool) → (x == h) ≡ b → (x == 0) ≡ true → (x == h) ≡ false
    by_key true same empty = absurd (false≢true (sym apart ∙ (ap (λ k. k == 0) (sym (eqb-true x h same)) ∙ empty)))
    by_key false same empty = same

    by_value : (b : Bool) → (x == 0) ≡ b → contains (filled xs) h ≡ contains xs h
        → contains (if not b then x ∷ filled xs else filled xs) h ≡ (x == h) || contains xs h
    by_value true empty rest = rw (by_key (x == h) refl empty) rest
    by_value false full rest = ap (λ c. (x == h) || c) rest

module _ (m : Map Entry) (places : List ℕ) (n d : ℕ) (within : n < length places) where
  abbrev one : ℕ
  one = get_or places n d

  -- the places before it with it, and those from it on
  more_filled : filled (take (n + 1) places) ≡ filled (take n places) ++ filled (one ∷ [])
  more_filled = ap filled (take_more places n d within) ∙ filter-append (λ v. not (v == 0)) (take n places) (one ∷ [])

  rest_filled : filled (drop n places) ≡ filled (one ∷ drop (n + 1) places)
  rest_filled = ap filled (drop_more places n d within)

  abbrev SoFar : ℕ → Type 0
  SoFar k = list_refusal m (filled (take k places)) (filled (drop k places)) ≡ list_refusal m [] (filled places)

  -- a place without a handle is passed
  pub one_empty : one ≡ 0 → SoFar n → SoFar (n + 1)
  one_empty empty so_far = rw (more_filled, empty, append-nil) (rw (rest_filled, empty) at so_far)

  -- a handle there is examined, and then what is left
  module _ (full : one ≢ 0) (so_far : SoFar n) where
    from_here : option_or (if contains (take n places) one then Some status.BadHandle else fault_of (looked_up m one [] TRANSFER))
        (list_refusal m (filled (take (n + 1) places)) (filled (drop (n + 1) places))) ≡ list_refusal m [] (filled places)
    from_here =
        let apart : (one == 0) ≡ false = ne_eqb one 0 full in
        rw (more_filled, apart, ← seen_filled (take n places) one apart) (rw (rest_filled, apart) at so_far)

    pub there_twice : contains (take n places) one ≡ true → Some status.BadHandle ≡ list_refusal m [] (filled places)
    there_twice seen = rw seen at from_here

    pub at_fault : contains (take n places) one ≡ false → (s : Status) → looked_up m one [] TRANSFER ≡ Err s → Some s ≡ list_refusal m [] (filled places)
    at_fault unseen s is = rw (unseen, is) at from_here

    pub passes_on : contains (take n places) one ≡ false → (e : Entry) → looked_up m one [] TRANSFER ≡ Ok e → SoFar (n + 1)
    passes_on unseen e is = rw (unseen, is) at from_here

-- ---- the call

-- those in the places, which were packed
pub sent_are : (slots packed : List (List ℕ)) (array b count n sent : ℕ) (places : List ℕ) → Some places ≡ slice_get packed array
    → IfSome (slice_get packed array) (λ ps. take sent ps ≡ filled_among count (slice_get slots array)) → count ≡ n → array ≡ b
    → take sent places ≡ filled_among n (slice_get slots b)
sent_are slots packed array b count n sent places at is counts arrays =
    (rw (← at) at is) ∙ λ k. filled_among (counts k) (slice_get slots (arrays k))

then_there : {A : Type 0} (b : Bool) (x : A) → IsSome (then_some b x) → (then_some b x ≡ Some x) × (b ≡ true)
then_there true x there = (refl, refl)
then_there false x there = absurd (elim (false≢true there) [ ])

module _ (i : CallInstr) (c : Cpu) (is : i.name ≡ name.ChanWriteSlots) (there : IsSome (site_of i c)) where
  both : (site_in name.ChanWriteSlots i c ≡ Some (site_at name.ChanWriteSlots i c))
      × (is_range_there i c && has_places (emptied_count i c) (array_in i c) ≡ true)
  both = then_there _ _ (subst (λ s. IsSome s) (site_named i c ∙ ap (λ n. site_in n i c) is) there)

  pub at_slots : site_of i c ≡ Some (site_at name.ChanWriteSlots i c)
  at_slots = site_named i c ∙ (ap (λ n. site_in n i c) is ∙ both.0)

  -- where it isn't stuck its range is there, and its array has the places
  pub range_there : is_range_there i c ≡ true
  range_there = (and_parts (is_range_there i c) (has_places (emptied_count i c) (array_in i c)) both.1).0

  pub places_there : has_places (emptied_count i c) (array_in i c) ≡ true
  places_there = (and_parts (is_range_there i c) (has_places (emptied_count i c) (array_in i c)) both.1).1

-- the call was done for the process p, whose places were then emptied
pub slots_act : (i : CallInstr) (p p2 : Process) (r r2 : Objects) (o : Outcome) → i.name ≡ name.ChanWriteSlots → IsSome (site_of i p.cpu)
    → (emptied : Cpu) → emptied ≡ record p.cpu { slots = slots_filled p.cpu.slots (Some (number_at i.last 0 4, replicate (emptied_count i p.cpu) 0)) }
    → (t2 : Handles) (answer : Result ⊤ Status)
    → ChanWriteDoes (reg p.cpu (slice_index i.registers 1)) (bytes_in i p.cpu) (filled_among (emptied_count i p.cpu) (array_in i p.cpu)) p.table r answer t2 r2
    → (to : ℕ) → to ≡ slice_index i.registers 0 → o ≡ outcome.Answered (status_of answer)
    → p2 ≡ answered_in (record p { cpu = emptied; table = t2 }) (to ∷ []) no_value answer → Acted (site_of i p.cpu) p r o p2 r2
slots_act i p p2 r r2 o name there emptied zeros t2 answer does to first ends is =
    rw (at_slots i p.cpu name there) (record {
      answer = answer;
      acts = subst (λ (t : Handles). ChanWriteDoes (reg p.cpu (slice_index i.registers 1)) (bytes_in i p.cpu)
          (filled_among (emptied_count i p.cpu) (array_in i p.cpu)) p.table r answer t r2) (sym (ap (λ (q : Process). q.table) is)) does;
      ends = ends;
      replied = is ∙ (λ k. answered_in (record p { cpu = zeros k; table = sym (ap (λ (q : Process). q.table) is) k }) (first k ∷ []) no_value answer);
    })
