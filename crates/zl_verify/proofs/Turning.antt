-- What holds at each turn of the search, and what its end says.
use Rattle.zl_verify.proofs.Common.{AreStretches, Stretches, Bool, Cause, Edge, Err, HasNoTyping, Image, IsAbove, IsFine, IsLeastTyping, IsRefused, IsTrue}
use Rattle.zl_verify.proofs.Common.{IsTyping, List, None, Ok, Option, Result, Some, State, all_below_refl, ap, arith, at, stretch, cleared, false, inl, inr}
use Rattle.zl_verify.proofs.Common.{is_in_range, is_of_rules, length, length-replicate, length-set, raised_all, refl, replicate, same_Some, slice_get}
use Rattle.zl_verify.proofs.Common.{slice_set, start_fine, start_state, states_of, subst, suc, sym, true, turned_over, zero, ℕ, ◌+◌, ◌<◌, ◌∙◌, ◌≡◌, ◌≢◌, ◌≤◌}
use Rattle.zl_verify.proofs.Common.{◌⊎◌}
use Rattle.zl_abs.specs.Typing.{Holds}
use Rattle.zl_verify.specs.Lists.{within}
use Rattle.zl_verify.specs.Going.{Goes, at_starts, remaining}
use Rattle.zl_verify.specs.Search.{Table, started}
use Rattle.zl_verify.specs.Stretches.{turned_at, turned}
use Rattle.zl_verify.specs.declared.refusal.RefusalCause.{RefusalCause}
use Rattle.zl_verify.specs.declared.refusal.RefusalCause.TheVariants as why
use Rattle.zl_verify.proofs.Places.{get_put, get_put_other, equal_or_not, there}
use Rattle.zl_verify.proofs.Searching.{turned_on, cleared_on, moved_on, all_settled, none_by_rule, none_by_edge}
use Rattle.zl_verify.proofs.Lowers.{outside}
use Rattle.zl_verify.proofs.Leaving.{begins_at}
use Rattle.zl_verify.proofs.Filling.{least_typing}
use Rattle.zl_verify.proofs.Ending.{tiring, clearing, moving}

pub record GoesOn (i : Image) (bs : Stretches) (t u : Table) : Type 0 where
  pub goes : Goes i bs u
  pub less : remaining u < remaining t

-- ---- the turn

abbrev TurnOr : Image → Stretches → Table → Option Table → Type 0
TurnOr i bs t None = HasNoTyping i
TurnOr i bs t (Some u) = GoesOn i bs t u

turns : (i : Image) (bs : Stretches) (t : Table) → Goes i bs t → (n : ℕ) → slice_get t.waiting n ≡ Some true → TurnOr i bs t (turned i bs t n)
turns i bs t g n w = at_state (at t.states n) refl
  where
    edges : (s : State) (es : List Edge) → at t.states n ≡ Some s → stretch i bs n s ≡ Ok es → (o : Option Table) → raised_all (cleared t n) es ≡ o
        → TurnOr i bs t o
    edges s es e r None k = record { none = none_by_edge i bs g.stretches t g.searching g.long n s es e r k }
    edges s es e r (Some u) k =
        let a = tiring i bs g.range t u n s es g.fine e w r k in
        record {
          goes = record {
            stretches = g.stretches;
            searching = turned_on i bs g.stretches t u g.searching n s es e r k;
            fine = a.fine;
            long = a.long ∙ g.long;
            range = g.range;
          };
          less = a.less;
        }

    by_rule : (s : State) → at t.states n ≡ Some s → (r : Result (List Edge) Cause) → stretch i bs n s ≡ r → TurnOr i bs t (turned_over (cleared t n) r)
    by_rule s e (Err c) r = record { none = none_by_rule i bs g.stretches t g.searching n s e c r }
    by_rule s e (Ok es) r = edges s es e r (raised_all (cleared t n) es) refl

    at_state : (o : Option State) → at t.states n ≡ o → TurnOr i bs t (turned_at i bs (cleared t n) n o)
    at_state None e =
        let a = clearing t n g.fine w in
        record {
          goes = record { stretches = g.stretches; searching = cleared_on i bs g.stretches t g.searching n e; fine = a.fine; long = g.long; range = g.range };
          less = a.less;
        }
    at_state (Some s) e = by_rule s e (stretch i bs n s) refl

pub turn_goes : (i : Image) (bs : Stretches) (t u : Table) → Goes i bs t → (n : ℕ) → Some true ≡ slice_get t.waiting n → Some u ≡ turned i bs t n
    → GoesOn i bs t u
turn_goes i bs t u g n w k = subst (TurnOr i bs t) (sym k) (turns i bs t g n (sym w))

pub turn_none : (i : Image) (bs : Stretches) (t : Table) → Goes i bs t → (n : ℕ) → Some true ≡ slice_get t.waiting n → None ≡ turned i bs t n → HasNoTyping i
turn_none i bs t g n w k = subst (TurnOr i bs t) (sym k) (turns i bs t g n (sym w))

pub goes_on : (i : Image) (bs : Stretches) (t u : Table) → Goes i bs t → (n : ℕ) → n ≡ t.from → t.from < length bs.starts → Some false ≡ slice_get t.waiting n
    → u ≡ record t { from = t.from + 1 } → GoesOn i bs t u
goes_on i bs t u g n e h w k = rw k (record {
  goes = record {
    stretches = g.stretches;
    searching = moved_on i bs g.stretches t g.searching (sym (subst (λ (x : ℕ). Some false ≡ slice_get t.waiting x) e w));
    fine = record { each = g.fine.each; same = g.fine.same };
    long = g.long;
    range = g.range;
  };
  less = moving t (omega (arith, g.long));
})

pub ends : (i : Image) (bs : Stretches) (t : Table) → Goes i bs t → length bs.starts ≤ t.from → IsLeastTyping i (at (states_of i bs.numbers t.states))
ends i bs t g h =
    least_typing i g.range bs g.stretches t.states (all_settled i bs g.stretches t g.searching (omega (arith, g.long))) g.fine.each
    (λ y k b s e. g.searching.lower y k b s e) g.searching.begins

-- ---- the beginning

nothing : (n m : ℕ) → within (slice_get (replicate {A = Option State} n None) m) ≡ None
nothing zero m = refl
nothing (suc n) zero = refl
nothing (suc n) (suc m) = nothing n m

pub begins : (i : Image) (bs : Stretches) → IsTrue (is_in_range i) → AreStretches i bs → 0 < length bs.starts
    → Goes i bs (started (length bs.starts) (start_state i))
begins i bs range a h = record {
  stretches = a;
  searching = record {
    same = same;
    begins = rw (get_put nones 0 (Some start) (omega (arith, long_none))) (all_below_refl start);
    settled = λ n s e w. absurd (settled n s e w (equal_or_not 0 n));
    lower = λ y k n s e. lower y k n s e (equal_or_not 0 n);
    quiet = λ n a e. absurd (omega arith);
  };
  fine = record { each = λ n s e. fine n s e (equal_or_not 0 n); same = same };
  long = length-set nones 0 (Some start) ∙ long_none;
  range = range;
}
  where
    start : State
    start = start_state i

    nones : List (Option State)
    nones = replicate {A = Option State} (length bs.starts) None

    off : List Bool
    off = replicate (length bs.starts) false

    long_none : length nones ≡ length bs.starts
    long_none = length-replicate {A = Option State} (length bs.starts) None

    long_false : length off ≡ length bs.starts
    long_false = length-replicate (length bs.starts) false

    same : length (slice_set nones 0 (Some start)) ≡ length (slice_set off 0 true)
    same = (length-set nones 0 (Some start) ∙ long_none) ∙ sym (length-set off 0 true ∙ long_false)

    first : (n : ℕ) (s : State) → 0 ≡ n → at (slice_set nones 0 (Some start)) n ≡ Some s → start ≡ s
    first n s p e =
        same_Some start s (sym (ap within (get_put nones 0 (Some start) (omega (arith, long_none))))
        ∙ subst (λ (x : ℕ). at (slice_set nones 0 (Some start)) x ≡ Some s) (sym p) e)

    other : (n : ℕ) (s : State) → 0 ≢ n → at (slice_set nones 0 (Some start)) n ≡ Some s → ⊥
    other n s d e = let z : None ≡ Some s = sym (ap within (get_put_other nones 0 n (Some start) d) ∙ nothing (length bs.starts) n) ∙ e in cc

    settled : (n : ℕ) (s : State) → at (slice_set nones 0 (Some start)) n ≡ Some s → slice_get (slice_set off 0 true) n ≡ Some false → (0 ≡ n) ⊎ (0 ≢ n) → ⊥
    settled n s e w (inl p) =
        let a : slice_get (slice_set off 0 true) 0 ≡ Some false = subst (λ (x : ℕ). slice_get (slice_set off 0 true) x ≡ Some false) (sym p) w in
        let b : Some true ≡ Some false = sym (get_put off 0 true (omega (arith, long_false))) ∙ a in cc
    settled n s e w (inr d) = other n s d e

    lower : (y : ℕ → Option State) → IsTyping i y → (n : ℕ) (s : State) → at (slice_set nones 0 (Some start)) n ≡ Some s → (0 ≡ n) ⊎ (0 ≢ n)
        → IsAbove (at_starts i bs y n) s
    lower y k n s e (inl p) =
        subst (λ (x : ℕ). IsAbove (at_starts i bs y x) s) p
        (subst (λ (m : ℕ). IsAbove (y m) s) (sym (begins_at i bs a 0 0 a.first)) (subst (λ (x : State). IsAbove (y 0) x) (first n s p e) k.begins))
    lower y k n s e (inr d) = absurd (other n s d e)

    fine : (n : ℕ) (s : State) → at (slice_set nones 0 (Some start)) n ≡ Some s → (0 ≡ n) ⊎ (0 ≢ n) → IsFine s
    fine n s e (inl p) = subst IsFine (first n s p e) (start_fine i range)
    fine n s e (inr d) = absurd (other n s d e)

-- code without an instruction has no typing
pub none_of_empty : (i : Image) → length i.code ≡ 0 → HasNoTyping i
none_of_empty i h = record { none = λ y k. by y k (y 0) refl k.begins }
  where
    by : (y : ℕ → Option State) → IsTyping i y → (o : Option State) → y 0 ≡ o → IsAbove o (start_state i) → ⊥
    by y k None e a = a
    by y k (Some s) e a = subst (λ (r : Result (List Edge) Cause). Holds y r) (outside i 0 s (omega arith)) (k.holds 0 s e)

pub refused : (i : Image) (n : ℕ) (c : RefusalCause) → HasNoTyping i → is_of_rules c ≡ true → IsRefused i n c
refused i n (why.Rule c) h e = h
refused i n why.JoinConflict h e = h
refused i n why.Budget h e = absurd (cc)
refused i n why.NoMemory h e = tt

-- there is a stretch, where stretches are found
pub some_stretch : (i : Image) (bs : Stretches) → AreStretches i bs → 0 < length bs.starts
some_stretch i bs a = there bs.starts 0 0 (a.begin 0 0 a.first)
