-- The search for the least typing, stretch by stretch: what holds at each turn of it.
use Rattle.zl_verify.proofs.Common.{AreStretches, Stretches, Bool, Cause, Edge, Err, Image, IsTyping, List, None, Ok, Option, Result, Some, State}
use Rattle.zl_verify.proofs.Common.{arith, at, stretch, cleared, false, inl, inr, length, length-set, none-some, raised_all, refl, same_Some, slice_get}
use Rattle.zl_verify.proofs.Common.{slice_set, start_state, subst, sym, true, ℕ, ◌+◌, ◌<◌, ◌∙◌, ◌≡◌, ◌≢◌, ◌≤◌, ◌⊎◌}
use Rattle.zl_abs.specs.Typing.{Holds}
use Rattle.zl_verify.specs.Going.{Quiet, Searching, at_starts}
use Rattle.zl_verify.specs.Search.{Table}
use Rattle.zl_verify.proofs.Places.{get_put_other, off, nowhere, equal_or_not, mapped}
use Rattle.zl_verify.proofs.Rising.{AllRaise, AllRaiseOr, leads_still, typed_still, raising_all}
use Rattle.zl_verify.proofs.Leaving.{leads_out, at_stretch}

-- ---- the search

-- no rule at a state that was found: no typing
pub none_by_rule : (i : Image) (bs : Stretches) → AreStretches i bs → (t : Table) → Searching i bs t → (n : ℕ) (s : State) → at t.states n ≡ Some s
    → (c : Cause) → stretch i bs n s ≡ Err c → (y : ℕ → Option State) → IsTyping i y → ⊥
none_by_rule i bs a t h n s e c r y k = subst (λ (x : Result (List Edge) Cause). Holds (at_starts i bs y) x) r (leads_out i bs a y k n s (h.lower y k n s e))

-- an edge that can't be followed: no typing
pub none_by_edge : (i : Image) (bs : Stretches) → AreStretches i bs → (t : Table) → Searching i bs t → length t.states ≡ length bs.starts
    → (n : ℕ) (s : State) (es : List Edge) → at t.states n ≡ Some s → stretch i bs n s ≡ Ok es → raised_all (cleared t n) es ≡ None → (y : ℕ → Option State)
    → IsTyping i y → ⊥
none_by_edge i bs a t h l n s es e r f y k =
    subst (λ (o : Option Table). AllRaiseOr (cleared t n) es o) f (raising_all (cleared t n) es (h.same ∙ sym (length-set t.waiting n false)))
    (at_starts i bs y) (h.lower y k)
    (subst (λ (x : Result (List Edge) Cause). Holds (at_starts i bs y) x) r (leads_out i bs a y k n s (h.lower y k n s e)))
    (λ m x g. let b = at_stretch i bs a y k m x g in omega arith)

-- where one waits no more, what was quiet is still so
still_quiet : (t : Table) → Quiet t → (n m : ℕ) → m < t.from → slice_get (slice_set t.waiting n false) m ≡ Some true → (n ≡ m) ⊎ (n ≢ m) → ⊥
still_quiet t quiet n m l g (inl p) = off t.waiting n (subst (λ (x : ℕ). slice_get (slice_set t.waiting n false) x ≡ Some true) (sym p) g)
still_quiet t quiet n m l g (inr d) = quiet m l (sym (get_put_other t.waiting n m false d) ∙ g)

-- one turn
pub turned_on : (i : Image) (bs : Stretches) → AreStretches i bs → (t u : Table) → Searching i bs t → (n : ℕ) (s : State) (es : List Edge)
    → at t.states n ≡ Some s → stretch i bs n s ≡ Ok es → raised_all (cleared t n) es ≡ Some u → Searching i bs u
turned_on i bs a t u h n s es e r f = record {
  same = all.rises.same ∙ (q ∙ sym all.rises.long);
  begins = leads_still t0 u all.rises 0 (start_state i) h.begins;
  settled = λ m x g w. settled m x g w (all.rises.kept m);
  lower = λ y k. all.lower (at_starts i bs y) (h.lower y k)
      (subst (λ (x : Result (List Edge) Cause). Holds (at_starts i bs y) x) r (leads_out i bs a y k n s (h.lower y k n s e)));
  quiet = all.rises.quiet (λ m l g. still_quiet t h.quiet n m l g (equal_or_not n m));
}
  where
    t0 : Table
    t0 = cleared t n

    q : length t.states ≡ length (slice_set t.waiting n false)
    q = h.same ∙ sym (length-set t.waiting n false)

    all : AllRaise t0 es u
    all = subst (λ (o : Option Table). AllRaiseOr t0 es o) f (raising_all t0 es q)

    settled : (m : ℕ) (x : State) → at u.states m ≡ Some x → slice_get u.waiting m ≡ Some false
        → ((at u.states m ≡ at t.states m) × (slice_get u.waiting m ≡ slice_get (slice_set t.waiting n false) m)) ⊎ (slice_get u.waiting m ≡ Some true)
        → Holds (at u.states) (stretch i bs m x)
    settled m x g w (inr p) = let z : Some false ≡ Some true = sym w ∙ p in absurd (cc)
    settled m x g w (inl p) = by (equal_or_not n m)
      where
        by : (n ≡ m) ⊎ (n ≢ m) → Holds (at u.states) (stretch i bs m x)
        by (inl k) =
            let z : at t.states n ≡ Some x = rw k (sym (p.0) ∙ g) in
            let b : s ≡ x = same_Some s x (sym e ∙ z) in
            let c : stretch i bs m x ≡ Ok es = rw (← k, ← b) r in
            rw c all.leads
        by (inr d) = typed_still t0 u all.rises (stretch i bs m x) (h.settled m x (sym (p.0) ∙ g) (sym (get_put_other t.waiting n m false d) ∙ (sym (p.1) ∙ w)))

-- an instruction that waits and has no state is looked at for nothing
pub cleared_on : (i : Image) (bs : Stretches) → AreStretches i bs → (t : Table) → Searching i bs t → (n : ℕ) → at t.states n ≡ None
    → Searching i bs (cleared t n)
cleared_on i bs a t h n e = record {
  same = h.same ∙ sym (length-set t.waiting n false);
  begins = h.begins;
  settled = λ m x g w. settled m x g w (equal_or_not n m);
  lower = h.lower;
  quiet = λ m l g. still_quiet t h.quiet n m l g (equal_or_not n m);
}
  where
    settled : (m : ℕ) (x : State) → at t.states m ≡ Some x → slice_get (slice_set t.waiting n false) m ≡ Some false → (n ≡ m) ⊎ (n ≢ m)
        → Holds (at t.states) (stretch i bs m x)
    settled m x g w (inl p) = absurd (none-some x (sym e ∙ rw p g))
    settled m x g w (inr d) = h.settled m x g (sym (get_put_other t.waiting n m false d) ∙ w)

-- one instruction on
pub moved_on : (i : Image) (bs : Stretches) → AreStretches i bs → (t : Table) → Searching i bs t → slice_get t.waiting t.from ≡ Some false
    → Searching i bs (record t { from = t.from + 1 })
moved_on i bs a t h e = record { same = h.same; begins = h.begins; settled = h.settled; lower = h.lower; quiet = λ m l g. by m g (equal_or_not t.from m) l }
  where
    by : (m : ℕ) → slice_get t.waiting m ≡ Some true → (t.from ≡ m) ⊎ (t.from ≢ m) → m < t.from + 1 → ⊥
    by m g (inl p) a = let k : slice_get t.waiting t.from ≡ Some true = rw p g in let z : Some false ≡ Some true = sym e ∙ k in cc
    by m g (inr d) a = h.quiet m (omega arith) g

-- at the end each state is settled
pub all_settled : (i : Image) (bs : Stretches) → AreStretches i bs → (t : Table) → Searching i bs t → length t.states ≤ t.from → (n : ℕ) (s : State)
    → at t.states n ≡ Some s → Holds (at t.states) (stretch i bs n s)
all_settled i bs a t h k n s e =
    h.settled n s e (let b = mapped t.states n s e in not_waiting (slice_get t.waiting n) refl (omega arith) (omega (arith, h.same)))
  where
    not_waiting : (o : Option Bool) → slice_get t.waiting n ≡ o → n < t.from → n < length t.waiting → slice_get t.waiting n ≡ Some false
    not_waiting None e a b = absurd (nowhere t.waiting n e b)
    not_waiting (Some true) e a b = absurd (h.quiet n a e)
    not_waiting (Some false) e a b = e
