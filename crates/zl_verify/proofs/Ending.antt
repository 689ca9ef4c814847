-- The search ends: what is left to rise, and what waits. States stay fine on the way.
use Rattle.zl_verify.proofs.Common.{AllFine, Stretches, Bool, Cause, Edge, IfOk, Image, IsFine, IsTrue, List, None, Ok, Option, Result, Some, State, []}
use Rattle.zl_verify.proofs.Common.{all_below, all_joined, ap, arith, at, stretch, cleared, false, fine_joined, get_or, get_or_from_slice_get, if◌then◌else◌}
use Rattle.zl_verify.proofs.Common.{inl, inr, is_in_range, length, length-set, mul-le-mul_right, one_if, option_and_then, option_map, raised, raised_all}
use Rattle.zl_verify.proofs.Common.{raised_over}
use Rattle.zl_verify.proofs.Common.{refl, same_Some, slice_get, slice_set, start_of, subst, sum_by-set, sym, true, ℕ, ◌*◌, ◌+◌, ◌-◌, ◌<◌, ◌∙◌, ◌∷◌, ◌≡◌}
use Rattle.zl_verify.proofs.Common.{◌≢◌, ◌≤◌, ◌⊎◌}
use Rattle.zl_abs.proofs.Room.{room, room_top, room_falls}
use Rattle.zl_verify.specs.Lists.{within}
use Rattle.zl_verify.specs.Going.{AreFine, energy, remaining, room_in}
use Rattle.zl_verify.specs.Search.{Table, put}
use Rattle.zl_verify.proofs.Leaving.{out_fine}
use Rattle.zl_verify.proofs.Places.{there, get_put, get_put_other, equal_or_not}

smaller : (e d l k a b : ℕ) → l ≡ k → e + 1 ≤ d → e * (l + 1) + (l - a) < d * (k + 1) + (k - b)
smaller e d l k a b p h = rw p (let m = mul-le-mul_right (k + 1) h in omega arith)

-- ---- one state comes to an instruction

put_fine : (t : Table) (n : ℕ) (j : State) → n < length t.states → AreFine t → IsFine j → AreFine (put t n j)
put_fine t n j h f g =
    record { each = λ m s e. by m s e (equal_or_not n m); same = length-set t.states n (Some j) ∙ (f.same ∙ sym (length-set t.waiting n true)) }
  where
    by : (m : ℕ) (s : State) → at (slice_set t.states n (Some j)) m ≡ Some s → (n ≡ m) ⊎ (n ≢ m) → IsFine s
    by m s e (inl p) =
        let a : at (slice_set t.states n (Some j)) n ≡ Some s = subst (λ (x : ℕ). at (slice_set t.states n (Some j)) x ≡ Some s) (sym p) e in
        let b : j ≡ s = same_Some j s (sym (ap within (get_put t.states n (Some j) h)) ∙ a) in
        subst IsFine b g
    by m s e (inr d) = f.each m s (sym (ap within (get_put_other t.states n m (Some j) d)) ∙ e)

put_falls : (t : Table) (n : ℕ) (o : Option State) (j : State) → slice_get t.states n ≡ Some o → length t.states ≡ length t.waiting → room j < room_in o
    → energy (put t n j) < energy t
unfolding energy
put_falls t n o j e q h =
    let k : n < length t.states = there t.states n o e in
    let k2 : n < length t.waiting = omega arith in
    let a = sum_by-set room_in t.states n (Some j) None k in
    let b : get_or t.states n None ≡ o = get_or_from_slice_get t.states n o None e in
    let b2 : room_in (get_or t.states n None) ≡ room_in o = ap room_in b in
    let c = sum_by-set one_if t.waiting n true false k2 in
    omega arith

pub record Eases (t u : Table) : Type 0 where
  pub fine : AreFine u
  pub no_more : energy u ≤ energy t
  pub long : length u.states ≡ length t.states

abbrev pub EasesOr : Table → Option Table → Type 0
EasesOr t None = Unit {0}
EasesOr t (Some u) = Eases t u

pub easing : (t : Table) (n : ℕ) (s : State) → AreFine t → IsFine s → EasesOr t (raised t n s)
easing t n s f g = found (slice_get t.states n) refl
  where
    puts : (o : Option State) (j : State) → slice_get t.states n ≡ Some o → IsFine j → room j < room_in o → Eases t (put t n j)
    puts o j e k h = record {
      fine = put_fine t n j (there t.states n o e) f k;
      no_more = (let a = put_falls t n o j e f.same h in omega arith);
      long = length-set t.states n (Some j);
    }

    joins : (u : State) → slice_get t.states n ≡ Some (Some u) → all_below s u ≡ false → (o : Option State) → all_joined u s ≡ o
        → EasesOr t (option_map (put t n) o)
    joins u e h None k = tt
    joins u e h (Some j) k = let i = f.each n u (ap within e) in puts (Some u) j e (fine_joined u s j i g k) (room_falls u s j i g k h)

    new : (u : State) → slice_get t.states n ≡ Some (Some u) → (b : Bool) → all_below s u ≡ b
        → EasesOr t (if b then Some t else option_map (put t n) (all_joined u s))
    new u e true h = record { fine = f; no_more = omega arith; long = refl }
    new u e false h = joins u e h (all_joined u s) refl

    found : (o : Option (Option State)) → slice_get t.states n ≡ o → EasesOr t (raised_over t n s o)
    found None e = tt
    found (Some None) e = puts None s e g (room_top s g)
    found (Some (Some u)) e = new u e (all_below s u) refl

easing_all : (t : Table) (es : List Edge) → AreFine t → AllFine es → EasesOr t (raised_all t es)
unfolding raised_all
easing_all t [] f g = record { fine = f; no_more = omega arith; long = refl }
easing_all t (e ∷ es) f g = one (λ u k. easing_all u es k (g.1)) (raised t (e.0) (e.1)) (easing t (e.0) (e.1) f (g.0))
  where
    both : (u : Table) → Eases t u → (o : Option Table) → EasesOr u o → EasesOr t o
    both u h None k = tt
    both u h (Some v) k = record { fine = k.fine; no_more = omega (arith, h.no_more, k.no_more); long = k.long ∙ h.long }

    one : ((u : Table) → AreFine u → EasesOr u (raised_all u es)) → (o : Option Table) → EasesOr t o → EasesOr t (option_and_then (λ u. raised_all u es) o)
    one more None h = tt
    one more (Some u) h = both u h (raised_all u es) (more u h.fine)

-- ---- one turn

pub record Tires (t u : Table) : Type 0 where
  pub fine : AreFine u
  pub less : remaining u < remaining t
  pub long : length u.states ≡ length t.states

drop_one : (t : Table) (n : ℕ) → slice_get t.waiting n ≡ Some true → energy (cleared t n) + 1 ≡ energy t
unfolding energy
drop_one t n w =
    let h : n < length t.waiting = there t.waiting n true w in
    let c = sum_by-set one_if t.waiting n false false h in
    let b : one_if (get_or t.waiting n false) ≡ 1 = ap one_if (get_or_from_slice_get t.waiting n true false w) in
    omega arith

cleared_fine : (t : Table) (n : ℕ) → AreFine t → AreFine (cleared t n)
cleared_fine t n f = record { each = f.each; same = f.same ∙ sym (length-set t.waiting n false) }

edges_fine : (i : Image) (bs : Stretches) → IsTrue (is_in_range i) → (n : ℕ) (s : State) (es : List Edge) → IsFine s → stretch i bs n s ≡ Ok es → AllFine es
edges_fine i bs range n s es f r =
    subst (λ (x : Result (List Edge) Cause). IfOk x AllFine) r (out_fine i range bs.numbers (length i.code - start_of i bs n) (start_of i bs n) s f)

pub tiring : (i : Image) (bs : Stretches) → IsTrue (is_in_range i) → (t u : Table) (n : ℕ) (s : State) (es : List Edge) → AreFine t → at t.states n ≡ Some s
    → slice_get t.waiting n ≡ Some true → stretch i bs n s ≡ Ok es → raised_all (cleared t n) es ≡ Some u → Tires t u
unfolding remaining
tiring i bs range t u n s es f e w r k =
    let a = subst (EasesOr (cleared t n)) k (easing_all (cleared t n) es (cleared_fine t n f) (edges_fine i bs range n s es (f.each n s e) r)) in
    let d = drop_one t n w in
    record {
      fine = a.fine;
      less = smaller (energy u) (energy t) (length u.states) (length t.states) u.from t.from a.long (omega (arith, a.no_more));
      long = a.long;
    }

pub clearing : (t : Table) (n : ℕ) → AreFine t → slice_get t.waiting n ≡ Some true → Tires t (cleared t n)
unfolding remaining
clearing t n f w =
    let d = drop_one t n w in
    record {
      fine = cleared_fine t n f;
      less = smaller (energy (cleared t n)) (energy t) (length t.states) (length t.states) t.from t.from refl (omega arith);
      long = refl;
    }

-- one instruction on
pub moving : (t : Table) → t.from < length t.states → remaining (record t { from = t.from + 1 }) < remaining t
unfolding remaining energy
moving t h = omega arith
