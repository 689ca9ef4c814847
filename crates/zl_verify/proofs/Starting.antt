-- A process that starts properly is as a typing of its image says at instruction 0.
use Rattle.zl_verify.proofs.Common.{ANY, AbsVal, AreCountersAt, Conforms, Cpu, Entry, Holds, Image, IsAbove, IsAs, IsMemory, IsProperStart, IsState, IsTyping}
use Rattle.zl_verify.proofs.Common.{Kind, Library, List, None, Option, Process, SlotArray, Some, Start, State, Word, World, [], ap, are_declared, are_distinct}
use Rattle.zl_verify.proofs.Common.{arith, bits, blank_cpu, blocks_at, both, cpu_given, created_process, false, get, has_one, inl, inr, is_in_range, is_it}
use Rattle.zl_verify.proofs.Common.{is_result, keepers, kind_below, length, map, may_get, may_get_all, nat_tests, none-some, one_if, option_to_list, owners}
use Rattle.zl_verify.proofs.Common.{place_at, process_with, process_with_all, ranges, refl, register_count, replicate, same_kind, set_from, slice_index}
use Rattle.zl_verify.proofs.Common.{slice_set, start_results, start_state, start_value, starts_from, subst, suc, sum_by, sum_by-cons, sym, takes, true}
use Rattle.zl_verify.proofs.Common.{value_at, with_all, with_handles, with_value, within, written, zero, ℕ, ◌+◌, ◌<◌, ◌==◌, ◌∙◌, ◌∷◌, ◌≡◌, ◌≢◌, ◌≤◌}
use Rattle.std.proofs.lemmas.List.{length-replicate}
use Rattle.std.proofs.Math.Bool.{or-false}
use Rattle.zl_code.specs.Jobs.{is_declared}
use Rattle.zl_verify.proofs.Owners.{not_0, owns_0}
use Rattle.zl_verify.proofs.Weakening.{weaken}
use Rattle.zl_verify.proofs.Fitting.{Fits, AreInside, results}
use Rattle.zl_verify.proofs.Giving.{fresh_value, getting_all, getting, AllAs, handles_fit}
use Rattle.zl_verify.proofs.OwnTable.{getting_same}
use Rattle.zl_verify.proofs.SizedCpus.{AtEach, each_filled, each_made}

-- ---- before the start

-- a word of at most 0 in each register
abbrev zeros : State
zeros = replicate register_count (Word 0)

abbrev no_values : List ℕ
no_values = replicate register_count 0

abbrev empty_slots : List SlotArray → List (List ℕ)
empty_slots arrays = map (λ s. replicate s.length 0) arrays

zero_at : (r : ℕ) → value_at zeros r ≡ Word 0
zero_at = each_filled (λ (a : AbsVal). a ≡ Word 0) (Word 0) register_count refl

nothing_at : (r : ℕ) → slice_index no_values r ≡ 0
nothing_at = each_filled (λ (x : ℕ). x ≡ 0) 0 register_count refl

empty_at : (arrays : List SlotArray) (n k : ℕ) → place_at (empty_slots arrays) n k ≡ 0
empty_at arrays =
    each_made (AtEach (λ (x : ℕ). x ≡ 0) 0) [] (λ (s : SlotArray). replicate s.length 0) arrays (λ k. refl)
    (λ s. each_filled (λ (x : ℕ). x ≡ 0) 0 s.length refl)

zeros_state : IsState zeros
zeros_state = record { long = refl; tags = λ r. rw (zero_at r) refl }

same_lengths : (arrays : List SlotArray) → map length (empty_slots arrays) ≡ map (λ a. a.length) arrays
same_lengths [] = refl
same_lengths (a ∷ arrays) = λ i. length-replicate {A = ℕ} a.length 0 i ∷ same_lengths arrays i

pub owners_none : (v n : ℕ) → owners v (replicate n (Word 0)) (replicate n 0) ≡ 0
unfolding owners
owners_none v zero = refl
owners_none v (suc n) = rw (owns_0 v (Word 0), owners_none v n) refl

places_none : (v n : ℕ) → sum_by (λ x. one_if (is_it v x)) (replicate n 0) ≡ 0
places_none v zero = refl
places_none v (suc n) = sum_by-cons (λ x. one_if (is_it v x)) 0 (replicate n 0) ∙ rw (not_0 v, places_none v n) refl

keepers_none : (v : ℕ) (arrays : List SlotArray) → keepers v (empty_slots arrays) ≡ 0
unfolding keepers
keepers_none v [] = refl
keepers_none v (a ∷ arrays) =
    sum_by-cons (λ places. sum_by (λ x. one_if (is_it v x)) places) (replicate a.length 0) (empty_slots arrays)
    ∙ rw (places_none v a.length, keepers_none v arrays) refl

blank_holds : (arrays : List SlotArray) → Holds (get {X = Entry} []) zeros no_values arrays (empty_slots arrays)
unfolding get
blank_holds arrays = record {
  width = refl;
  small = each_filled (λ x. x ≤ ANY) 0 register_count (omega arith);
  described = λ r. rw (zero_at r, nothing_at r) (omega arith);
  lengths = same_lengths arrays;
  narrow = λ n k. rw (empty_at arrays n k) (omega arith);
  stored = λ n k a there inside. inl (refl, empty_at arrays n k);
  once = λ v. let own = owners_none v register_count in let kept = keepers_none v arrays in omega (arith, own, kept);
}

-- ---- the registers that get something

starts_inside : (r : ℕ) (ss : List Start) → r + length ss ≤ 32 → AreInside (starts_from r ss)
starts_inside r [] few = tt
starts_inside r (s ∷ ss) few = (omega arith, starts_inside (r + 1) ss (omega arith))

results_inside : (ss : List Start) → length ss ≤ 7 → AreInside (start_results ss)
results_inside [] few = (omega arith, tt)
results_inside (s ∷ ss) few = (omega arith, (omega arith, starts_inside 2 ss (omega arith)))

no_result : (k r : ℕ) (ss : List Start) → k < r → is_result (starts_from r ss) k ≡ false
no_result k r [] less = refl
no_result k r (s ∷ ss) less = rw (apart, no_result k (r + 1) ss (omega arith)) refl
  where
    apart : (r == k) ≡ false
    apart = grind (arith, nat_tests)

starts_distinct : (r : ℕ) (ss : List Start) → are_distinct (starts_from r ss) ≡ true
unfolding are_distinct
starts_distinct r [] = refl
starts_distinct r (s ∷ ss) = rw (no_result r (r + 1) ss (omega arith), starts_distinct (r + 1) ss) refl

results_distinct : (ss : List Start) → are_distinct (start_results ss) ≡ true
unfolding are_distinct
results_distinct [] = refl
results_distinct (s ∷ ss) = rw (no_result 0 2 ss (omega arith), no_result 1 2 ss (omega arith), starts_distinct 2 ss) refl

none_held : (ds : List (ℕ × AbsVal)) → has_one zeros ds ≡ false
none_held [] = refl
none_held (d ∷ ds) = rw (zero_at d.0, none_held ds) refl

-- ---- what they get

takes_as : (k : Option Kind) (x : Kind) → takes (option_to_list k) x ≡ true → kind_below (Some x) k ≡ true
takes_as None x e = refl
takes_as (Some y) x e = sym (or-false (same_kind x y)) ∙ e

one_declared : (s : Start) (x : Entry) → is_declared s x ≡ true → IsAs s.kind s.rights (Some x)
one_declared s x e = let two = both (takes (option_to_list s.kind) x.kind) (within (bits s.rights) (bits x.rights)) e in (takes_as s.kind x.kind two.0, two.1)

declared_fit : (r : ℕ) (ss : List Start) (es : List Entry) → are_declared ss es ≡ true → AllAs (starts_from r ss) es
declared_fit r [] [] d = tt
declared_fit r (s ∷ ss) (e ∷ es) d = let two = both (is_declared s e) (are_declared ss es) d in (one_declared s e two.0, declared_fit (r + 1) ss es two.1)
declared_fit r _ _ d = cc

-- the values in the order of the registers: the word is the second
abbrev told : List ℕ → ℕ → List ℕ
told [] word = word ∷ []
told (v ∷ vs) word = v ∷ word ∷ vs

start_fits : (ss : List Start) (es : List Entry) (vs : List ℕ) (word : ℕ) (q : Process) → q.last ≡ None → word ≤ ANY → are_declared ss es ≡ true
    → may_get_all q es vs ≡ true → Fits (get q.handles) zeros no_values (start_results ss) (told vs word) (get (getting_all es vs q).handles)
start_fits [] [] [] word q fresh small d may = (get q.handles, (small, small, refl), refl)
start_fits (s ∷ ss) (e ∷ es) (v ∷ vs) word q fresh small d may =
    let named = both (is_declared s e) (are_declared ss es) d in
    let two = both (may_get q v) (may_get_all (process_with v e q) es vs) may in
    let (some, most, unused) = fresh_value q v (λ x is. absurd (none-some x (sym fresh ∙ is))) two.0 in (
      get (process_with v e q).handles,
      inr (e, few most, some, unused, one_declared s e named.0, getting v e q),
      (
        get (process_with v e q).handles,
        (small, small, refl),
        handles_fit (starts_from 2 ss) es vs (process_with v e q) (with_value (with_value zeros 0 (start_value s)) 1 (Word ANY))
            (slice_set (slice_set no_values 0 v) 1 word) (λ x is. absurd (none-some x is)) two.1 (declared_fit 2 ss es named.1),
      ),
    )
  where
    few : {n : ℕ} → n < 65536 → n ≤ ANY
    few less = omega arith
start_fits _ _ _ word q fresh small d may = cc

-- ---- in the order of the start

set_swap : (xs : List ℕ) (r k a b : ℕ) → r ≢ k → slice_set (slice_set xs r a) k b ≡ slice_set (slice_set xs k b) r a
set_swap [] r k a b apart = refl
set_swap (x ∷ xs) zero zero a b apart = absurd (apart refl)
set_swap (x ∷ xs) zero (suc k) a b apart = refl
set_swap (x ∷ xs) (suc r) zero a b apart = refl
set_swap (x ∷ xs) (suc r) (suc k) a b apart = λ i. x ∷ set_swap xs r k a b (λ e. apart (ap suc e)) i

word_first : (n : ℕ) (vs xs : List ℕ) (word : ℕ) → 2 ≤ n → set_from n vs (slice_set xs 1 word) ≡ slice_set (set_from n vs xs) 1 word
word_first n [] xs word le = refl
word_first n (v ∷ vs) xs word le =
    ap (set_from (n + 1) vs) (set_swap xs 1 n word v (λ e. omega arith)) ∙ word_first (n + 1) vs (slice_set xs n v) word (omega arith)

written_from : (r : ℕ) (ss : List Start) (vs xs : List ℕ) → length vs ≡ length ss → written xs (map (λ x. x.0) (starts_from r ss)) vs ≡ set_from r vs xs
written_from r [] [] xs same = refl
written_from r (s ∷ ss) (v ∷ vs) xs same = written_from (r + 1) ss vs (slice_set xs r v) (omega arith)
written_from r _ _ xs same = cc

as_many : (ss : List Start) (es : List Entry) (vs : List ℕ) (q : Process) → are_declared ss es ≡ true → may_get_all q es vs ≡ true → length vs ≡ length ss
as_many [] [] [] q d may = refl
as_many (s ∷ ss) (e ∷ es) (v ∷ vs) q d may = ap suc (as_many ss es vs (process_with v e q) (both (is_declared s e) (are_declared ss es) d).1
    (both (may_get q v) (may_get_all (process_with v e q) es vs) may).1)
as_many _ _ _ q d may = cc

start_registers : (ss : List Start) (vs xs : List ℕ) (word : ℕ) → length vs ≡ length ss
    → written xs (map (λ x. x.0) (start_results ss)) (told vs word) ≡ slice_set (with_handles vs xs) 1 word
start_registers [] [] xs word same = refl
start_registers (s ∷ ss) (v ∷ vs) xs word same =
    written_from 2 ss vs (slice_set (slice_set xs 0 v) 1 word) (omega arith) ∙ word_first 2 vs (slice_set xs 0 v) word (omega arith)
start_registers _ _ xs word same = cc

same_holding : (es : List Entry) (vs : List ℕ) (q : Process) → getting_all es vs q ≡ process_with_all es vs q
same_holding [] vs q = refl
same_holding (e ∷ es) [] q = refl
same_holding (e ∷ es) (v ∷ vs) q = same_holding es vs (process_with v e q)

-- ---- the start

module _ (i : Image) (t : ℕ → Option State) (range : is_in_range i ≡ true) (typing : IsTyping i t) (lib : Library) (w : World) (p : ℕ) (q : Process)
    (k : IsProperStart lib i w p q) where
  -- the process before its start
  abbrev first : Process
  first = created_process lib q.program

  abbrev holding : Process
  holding = process_with_all k.handles k.values first

  blank : first.cpu ≡ blank_cpu (Some (record { checked = k.checked; image = i }))
  blank = ap blank_cpu k.running

  same_cpu : holding.cpu ≡ blank_cpu (Some (record { checked = k.checked; image = i }))
  same_cpu = ap (λ (y : Process). y.cpu) (sym (same_holding k.handles k.values first)) ∙ ((getting_same k.handles k.values first).cpu ∙ blank)

  start_holds : Holds (get holding.handles) (start_state i) (slice_set (with_handles k.values no_values) 1 k.word) i.slots (empty_slots i.slots)
  unfolding start_state
  start_holds =
      subst (λ (y : Process). Holds (get y.handles) (with_all zeros (start_results i.starts)) (slice_set (with_handles k.values no_values) 1 k.word) i.slots
      (empty_slots i.slots)) (same_holding k.handles k.values first)
      (subst (λ xs. Holds (get (getting_all k.handles k.values first).handles) (with_all zeros (start_results i.starts)) xs i.slots (empty_slots i.slots))
      (start_registers i.starts k.values no_values k.word (as_many i.starts k.handles k.values first k.declared k.free))
      (results (start_results i.starts) (told k.values k.word) (get {X = Entry} []) zeros no_values i.slots (empty_slots i.slots)
      (get (getting_all k.handles k.values first).handles) (blank_holds i.slots) zeros_state
      (results_inside i.starts (ranges i range).starts_count) (results_distinct i.starts) (none_held (start_results i.starts))
      (start_fits i.starts k.handles k.values k.word first refl k.small k.declared k.free)))

  -- at instruction 0 the typing has a state that holds
  record Begins : Type 0 where
    state : State
    stands : t 0 ≡ Some state
    holds : Holds (get holding.handles) state (slice_set (with_handles k.values no_values) 1 k.word) i.slots (empty_slots i.slots)

  begins : (o : Option State) → t 0 ≡ o → IsAbove o (start_state i) → Begins
  begins None is above = absurd above
  begins (Some s) is above = record { state = s; stands = is; holds = weaken s start_holds above }

  blank_memory : IsMemory i (replicate i.memory 0)
  blank_memory = record { long = length-replicate i.memory 0; bytes = each_filled (λ b. b < 256) 0 i.memory (omega arith) }

  abbrev started_cpu : Cpu → Cpu
  started_cpu c = cpu_given k.values k.word c

  pub starts_conforming : Conforms i t w p q
  unfolding blocks_at
  starts_conforming = by (begins (t 0) refl typing.begins)
    where
      by : Begins → Conforms i t w p q
      by b = subst (Conforms i t w p) (sym k.made) (record {
        state = b.state;
        stands = ap (λ (c : Cpu). t c.counter) same_cpu ∙ b.stands;
        holds = subst (λ (c : Cpu). Holds (get holding.handles) b.state (started_cpu c).registers i.slots c.slots) (sym same_cpu) b.holds;
        memory = subst (λ (c : Cpu). IsMemory i c.memory) (sym same_cpu) blank_memory;
        counters = subst (λ (c : Cpu). AreCountersAt i c.counter c.counters) (sym same_cpu) tt;
        allowed = k.allowed;
        waits = tt;
      })
