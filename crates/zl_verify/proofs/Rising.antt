-- What states that come to instructions make of the table of the search.
use Rattle.zl_verify.proofs.Common.{AllLead, Bool, Cause, Edge, Err, IsAbove, IsTrue, List, None, Ok, Option, Result, Some, State, [], all_below}
use Rattle.zl_verify.proofs.Common.{all_below_refl, all_below_trans, all_joined, ap, arith, at, false, if◌then◌else◌, inl, inr, length, length-set}
use Rattle.zl_verify.proofs.Common.{option_and_then, option_map, raised, raised_all, raised_over, refl, same_Some, slice_get, slice_set, subst, sym, true, ℕ}
use Rattle.zl_verify.proofs.Common.{◌<◌, ◌∙◌, ◌∷◌, ◌≡◌, ◌≢◌, ◌⊎◌}
use Rattle.zl_abs.specs.Laws.{AllAboveJoin, JoinIsAllAbove}
use Rattle.zl_abs.specs.Typing.{Holds}
use Rattle.zl_abs.proofs.StateOrder.{all_joined_left, all_joined_right, all_joined_least}
use Rattle.zl_verify.specs.Lists.{within}
use Rattle.zl_verify.specs.Going.{Lower, Quiet}
use Rattle.zl_verify.specs.Search.{Table, put}
use Rattle.zl_verify.proofs.Places.{get_put, get_put_other, there, nowhere, equal_or_not}

pub above_trans : (o : Option State) (s t : State) → IsTrue (all_below s t) → IsAbove o t → IsAbove o s
above_trans None s t h k = k
above_trans (Some u) s t h k = all_below_trans s t u h k

-- ---- what one state does to the table

pub record Rises (t u : Table) : Type 0 where
  pub quiet : Quiet t → Quiet u
  pub up : (n : ℕ) (s : State) → at t.states n ≡ Some s → IsAbove (at u.states n) s
  pub kept : (n : ℕ) → ((at u.states n ≡ at t.states n) × (slice_get u.waiting n ≡ slice_get t.waiting n)) ⊎ (slice_get u.waiting n ≡ Some true)
  pub same : length u.states ≡ length t.states
  pub long : length u.waiting ≡ length t.waiting

above_itself : (o : Option State) (s : State) → o ≡ Some s → IsAbove o s
above_itself o s e = rw e (all_below_refl s)

pub rises_refl : (t : Table) → Rises t t
rises_refl t = record { quiet = λ q. q; up = λ n s e. above_itself (at t.states n) s e; kept = λ n. inl (refl, refl); same = refl; long = refl }

pub rises_trans : (t u v : Table) → Rises t u → Rises u v → Rises t v
rises_trans t u v h k = record {
  quiet = λ q. k.quiet (h.quiet q);
  up = λ n s e. by n s (at u.states n) refl (h.up n s e);
  kept = λ n. kept n (k.kept n) (h.kept n);
  same = k.same ∙ h.same;
  long = k.long ∙ h.long;
}
  where
    by : (n : ℕ) (s : State) (o : Option State) → at u.states n ≡ o → IsAbove o s → IsAbove (at v.states n) s
    by n s None e p = absurd p
    by n s (Some x) e p = above_trans (at v.states n) s x p (k.up n x e)

    kept : (n : ℕ) → ((at v.states n ≡ at u.states n) × (slice_get v.waiting n ≡ slice_get u.waiting n)) ⊎ (slice_get v.waiting n ≡ Some true)
        → ((at u.states n ≡ at t.states n) × (slice_get u.waiting n ≡ slice_get t.waiting n)) ⊎ (slice_get u.waiting n ≡ Some true)
        → ((at v.states n ≡ at t.states n) × (slice_get v.waiting n ≡ slice_get t.waiting n)) ⊎ (slice_get v.waiting n ≡ Some true)
    kept n (inr p) q = inr p
    kept n (inl p) (inl q) = inl (p.0 ∙ q.0, p.1 ∙ q.1)
    kept n (inl p) (inr q) = inr (p.1 ∙ q)

pub leads_still : (t u : Table) → Rises t u → (n : ℕ) (s : State) → IsAbove (at t.states n) s → IsAbove (at u.states n) s
leads_still t u h n s k = by (at t.states n) refl k
  where
    by : (o : Option State) → at t.states n ≡ o → IsAbove o s → IsAbove (at u.states n) s
    by None e p = absurd p
    by (Some x) e p = above_trans (at u.states n) s x p (h.up n x e)

pub all_lead_still : (t u : Table) → Rises t u → (es : List Edge) → AllLead (at t.states) es → AllLead (at u.states) es
all_lead_still t u h [] k = tt
all_lead_still t u h (e ∷ es) k = (leads_still t u h (e.0) (e.1) (k.0), all_lead_still t u h es (k.1))

pub typed_still : (t u : Table) → Rises t u → (r : Result (List Edge) Cause) → Holds (at t.states) r → Holds (at u.states) r
typed_still t u h (Err c) k = k
typed_still t u h (Ok es) k = all_lead_still t u h es k

-- ---- one state comes to a place

pub put_rises : (t : Table) (n : ℕ) (j : State) → length t.states ≡ length t.waiting → n < length t.states
    → ((s : State) → at t.states n ≡ Some s → IsTrue (all_below s j)) → Rises t (put t n j)
put_rises t n j q h k = record {
  quiet = λ r m a e. r m (omega arith) (sym (get_put_other t.waiting n m true (λ i. omega arith)) ∙ e);
  up = λ m s e. up m s e (equal_or_not n m);
  kept = λ m. kept m (equal_or_not n m);
  same = length-set t.states n (Some j);
  long = length-set t.waiting n true;
}
  where
    here : slice_get (slice_set t.states n (Some j)) n ≡ Some (Some j)
    here = get_put t.states n (Some j) h

    up : (m : ℕ) (s : State) → at t.states m ≡ Some s → (n ≡ m) ⊎ (n ≢ m) → IsAbove (at (slice_set t.states n (Some j)) m) s
    up m s e (inl p) = subst (λ (x : ℕ). IsAbove (at (slice_set t.states n (Some j)) x) s) p (rw here (k s (rw p e)))
    up m s e (inr d) = rw (get_put_other t.states n m (Some j) d) (above_itself (at t.states m) s e)

    kept : (m : ℕ)
        → (n ≡ m) ⊎ (n ≢ m) → ((at (slice_set t.states n (Some j)) m ≡ at t.states m) × (slice_get (slice_set t.waiting n true) m ≡ slice_get t.waiting m))
        ⊎ (slice_get (slice_set t.waiting n true) m ≡ Some true)
    kept m (inl p) = inr (subst (λ (x : ℕ). slice_get (slice_set t.waiting n true) x ≡ Some true) p (get_put t.waiting n true (omega arith)))
    kept m (inr d) = inl (ap within (get_put_other t.states n m (Some j) d), get_put_other t.waiting n m true d)

pub put_lower : (y : ℕ → Option State) (t : Table) (n : ℕ) (j : State) → n < length t.states → Lower y t → IsAbove (y n) j → Lower y (put t n j)
put_lower y t n j h l a m s e = by (equal_or_not n m)
  where
    by : (n ≡ m) ⊎ (n ≢ m) → IsAbove (y m) s
    by (inl p) =
        let e2 : at (slice_set t.states n (Some j)) n ≡ Some s = subst (λ (x : ℕ). at (slice_set t.states n (Some j)) x ≡ Some s) (sym p) e in
        let e3 : at (slice_set t.states n (Some j)) n ≡ Some j = ap within (get_put t.states n (Some j) h) in
        let e4 : j ≡ s = same_Some j s (sym e3 ∙ e2) in
        subst (λ (x : ℕ). IsAbove (y x) s) p (subst (λ (x : State). IsAbove (y n) x) e4 a)
    by (inr d) = l m s (sym (ap within (get_put_other t.states n m (Some j) d)) ∙ e)

-- what one state of an edge does
pub record Raises (t : Table) (n : ℕ) (s : State) (u : Table) : Type 0 where
  pub rises : Rises t u
  pub leads : IsAbove (at u.states n) s
  pub lower : (y : ℕ → Option State) → Lower y t → IsAbove (y n) s → Lower y u

-- what a state that finds no place or no join tells of typings
abbrev pub Fails : Table → ℕ → State → Type 0
Fails t n s = (y : ℕ → Option State) → Lower y t → IsAbove (y n) s → n < length t.states → ⊥

abbrev pub RaisesOr : Table → ℕ → State → Option Table → Type 0
RaisesOr t n s None = Fails t n s
RaisesOr t n s (Some u) = Raises t n s u

conflict : (y : ℕ → Option State) (n : ℕ) (u s : State) → all_joined u s ≡ None → IsAbove (y n) u → IsAbove (y n) s → ⊥
conflict y n u s h b c = by (y n) b c
  where
    by : (o : Option State) → IsAbove o u → IsAbove o s → ⊥
    by None b c = b
    by (Some d) b c = subst (λ (x : Option State). AllAboveJoin d x) h (all_joined_least u s d b c)

joined_in : (y : ℕ → Option State) (n : ℕ) (u s j : State) → all_joined u s ≡ Some j → IsAbove (y n) u → IsAbove (y n) s → IsAbove (y n) j
joined_in y n u s j h b c = by (y n) b c
  where
    by : (o : Option State) → IsAbove o u → IsAbove o s → IsAbove o j
    by None b c = b
    by (Some d) b c = subst (λ (x : Option State). AllAboveJoin d x) h (all_joined_least u s d b c)

join_left : (u s j : State) → all_joined u s ≡ Some j → IsTrue (all_below u j)
join_left u s j h = subst (λ (x : Option State). JoinIsAllAbove u x) h (all_joined_left u s)

join_right : (u s j : State) → all_joined u s ≡ Some j → IsTrue (all_below s j)
join_right u s j h = subst (λ (x : Option State). JoinIsAllAbove s x) h (all_joined_right u s)

pub raising : (t : Table) (n : ℕ) (s : State) → length t.states ≡ length t.waiting → RaisesOr t n s (raised t n s)
raising t n s q = found (slice_get t.states n) refl
  where
    joins : (u : State) → slice_get t.states n ≡ Some (Some u) → (o : Option State) → all_joined u s ≡ o → RaisesOr t n s (option_map (put t n) o)
    joins u e None h = λ y l a k. conflict y n u s h (l n u (ap within e)) a
    joins u e (Some j) h = record {
      rises = put_rises t n j q (there t.states n (Some u) e) (λ x p. let i : u ≡ x = same_Some u x (sym (ap within e) ∙ p) in rw (← i) (join_left u s j h));
      leads = rw (get_put t.states n (Some j) (there t.states n (Some u) e)) (join_right u s j h);
      lower = λ y l a. put_lower y t n j (there t.states n (Some u) e) l (joined_in y n u s j h (l n u (ap within e)) a);
    }

    new : (u : State) → slice_get t.states n ≡ Some (Some u) → (b : Bool) → all_below s u ≡ b
        → RaisesOr t n s (if b then Some t else option_map (put t n) (all_joined u s))
    new u e true h = record { rises = rises_refl t; leads = rw e h; lower = λ y l a. l }
    new u e false h = joins u e (all_joined u s) refl

    found : (o : Option (Option State)) → slice_get t.states n ≡ o → RaisesOr t n s (raised_over t n s o)
    found None e = λ y l a h. nowhere t.states n e h
    found (Some None) e = record {
      rises = put_rises t n s q (there t.states n None e) (λ x p. let i : None ≡ Some x = sym (ap within e) ∙ p in cc);
      leads = rw (get_put t.states n (Some s) (there t.states n None e)) (all_below_refl s);
      lower = λ y l a. put_lower y t n s (there t.states n None e) l a;
    }
    found (Some (Some u)) e = new u e (all_below s u) refl

-- ---- the states of all edges

-- states stand at so many places
abbrev pub Inside : (ℕ → Option State) → ℕ → Type 0
Inside y length = (n : ℕ) (s : State) → IsAbove (y n) s → n < length

pub record AllRaise (t : Table) (es : List Edge) (u : Table) : Type 0 where
  pub rises : Rises t u
  pub leads : AllLead (at u.states) es
  pub lower : (y : ℕ → Option State) → Lower y t → AllLead y es → Lower y u

abbrev pub AllRaiseOr : Table → List Edge → Option Table → Type 0
AllRaiseOr t es None = (y : ℕ → Option State) → Lower y t → AllLead y es → Inside y (length t.states) → ⊥
AllRaiseOr t es (Some u) = AllRaise t es u

pub raising_all : (t : Table) (es : List Edge) → length t.states ≡ length t.waiting → AllRaiseOr t es (raised_all t es)
unfolding raised_all
raising_all t [] q = record { rises = rises_refl t; leads = tt; lower = λ y l a. l }
raising_all t (e ∷ es) q = one (λ u k. raising_all u es k) (raised t (e.0) (e.1)) (raising t (e.0) (e.1) q)
  where
    both : (u : Table) → Raises t (e.0) (e.1) u → (o : Option Table) → AllRaiseOr u es o → AllRaiseOr t (e ∷ es) o
    both u h None k = λ y l a i. k y (h.lower y l (a.0)) (a.1) (λ n s b. subst (λ (x : ℕ). n < x) (sym h.rises.same) (i n s b))
    both u h (Some v) k = record {
      rises = rises_trans t u v h.rises k.rises;
      leads = (leads_still u v k.rises (e.0) (e.1) h.leads, k.leads);
      lower = λ y l a. k.lower y (h.lower y l (a.0)) (a.1);
    }

    one : ((u : Table) → length u.states ≡ length u.waiting → AllRaiseOr u es (raised_all u es)) → (o : Option Table) → RaisesOr t (e.0) (e.1) o
        → AllRaiseOr t (e ∷ es) (option_and_then (λ u. raised_all u es) o)
    one more None h = λ y l a i. h y l (a.0) (i (e.0) (e.1) (a.0))
    one more (Some u) h = both u h (raised_all u es) (more u (h.rises.same ∙ (q ∙ sym h.rises.long)))
