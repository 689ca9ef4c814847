-- The states of stretches make a typing of all instructions, the least where they are the least.
use Rattle.zl_verify.proofs.Common.{AllFine, AllLead, AreStretches, Stretches, Cause, Edge, Err, IfOk, Image, IsAbove, IsFine, IsLeastTyping, IsTrue, IsTyping}
use Rattle.zl_verify.proofs.Common.{List, None, Ok, Option, Out, Result, Some, State, [], all_below_refl, and_then, ap, arith, at, stretch, bounds_of, flows}
use Rattle.zl_verify.proofs.Common.{inner, inner_of, is_in_range, known, known_by, leaves, leaves_first, leaves_last, length, none-some, out, passed_on, refl}
use Rattle.zl_verify.proofs.Common.{rule, rule_fine, same_Some, start_of, start_state, states_of, subst, suc, sym, zero, ℕ, ◌+◌, ◌-◌, ◌<◌, ◌∙◌, ◌∷◌, ◌≡◌}
use Rattle.zl_abs.specs.Typing.{Holds}
use Rattle.zl_verify.specs.Stretches.{inner_last, listed}
use Rattle.zl_verify.proofs.Places.{mapped}
use Rattle.zl_verify.proofs.Parting.{AreParted, rule_parted}
use Rattle.zl_verify.proofs.Lowers.{typed_at}
use Rattle.zl_verify.specs.Going.{at_starts}
use Rattle.zl_verify.proofs.Leaving.{begins_at}

-- ---- lists of what a function gives

pub length_listed : {A : Type 0} (k : ℕ) (f : ℕ → A) → length (listed k f) ≡ k
unfolding listed
length_listed zero f = refl
length_listed (suc k) f = ap suc (length_listed k (λ n. f (suc n)))

pub at_listed : {A : Type 0} (k : ℕ) (f : ℕ → Option A) (n : ℕ) → n < k → at (listed k f) n ≡ f n
unfolding listed
at_listed zero f n h = absurd (omega arith)
at_listed (suc k) f zero h = refl
at_listed (suc k) f (suc n) h = at_listed k (λ m. f (suc m)) n (omega arith)

-- ---- what is known at each instruction

module _ (i : Image) (range : IsTrue (is_in_range i)) (bs : Stretches) (a : AreStretches i bs) (kept : List (Option State))
    (settled : (b : ℕ) (s : State) → at kept b ≡ Some s → Holds (at kept) (stretch i bs b s))
    (all_fine : (b : ℕ) (s : State) → at kept b ≡ Some s → IsFine s)
    (least : (y : ℕ → Option State) → IsTyping i y → (b : ℕ) (s : State) → at kept b ≡ Some s → IsAbove (at_starts i bs y b) s) where
  -- what holds of the state of the n-th instruction
  record Suits (n : ℕ) (s : State) : Type 0 where
    leads : (j : ℕ) → n + j ≡ length i.code → Holds (at kept) (out bs.numbers i j n s)
    fine : IsFine s
    lower : (y : ℕ → Option State) → IsTyping i y → IsAbove (y n) s

  -- ---- from one instruction to the next

  rest_holds : (b : ℕ) (s : State) (r : Out) → Holds (at kept) (and_then r (λ es. Ok ((b, s) ∷ es))) → Holds (at kept) r
  rest_holds b s (Err c) h = h
  rest_holds b s (Ok es) h = h.1

  first_holds : (b : ℕ) (s : State) (r : Out) → Holds (at kept) (and_then r (λ es. Ok ((b, s) ∷ es))) → IsAbove (at kept b) s
  first_holds b s (Err c) h = absurd h
  first_holds b s (Ok es) h = h.0

  inner_holds : (go : State → Out) (x : State) (es : List Edge) → Holds (at kept) (leaves bs.numbers go es) → inner bs.numbers es ≡ Some x
      → Holds (at kept) (go x)
  unfolding leaves inner
  inner_holds go x [] h e = absurd (none-some x e)
  inner_holds go x (e ∷ []) h q = by (at bs.numbers (e.0)) h q
    where
      by : (o : Option ℕ) → Holds (at kept) (leaves_last go (e.1) o) → inner_last (e.1) o ≡ Some x → Holds (at kept) (go x)
      by None g p = subst (λ (z : State). Holds (at kept) (go z)) (same_Some (e.1) x p) g
      by (Some b) g p = absurd (none-some x p)
  inner_holds go x (e ∷ f ∷ es) h q = inner_holds go x (f ∷ es) (by (at bs.numbers (e.0)) h) q
    where
      by : (o : Option ℕ) → Holds (at kept) (leaves_first (e.1) (leaves bs.numbers go (f ∷ es)) o) → Holds (at kept) (leaves bs.numbers go (f ∷ es))
      by None g = absurd g
      by (Some b) g = rest_holds b (e.1) (leaves bs.numbers go (f ∷ es)) g

  inner_fine : (x : State) (es : List Edge) → AllFine es → inner bs.numbers es ≡ Some x → IsFine x
  unfolding inner
  inner_fine x [] h e = absurd (none-some x e)
  inner_fine x (e ∷ []) h q = by (at bs.numbers (e.0)) q
    where
      by : (o : Option ℕ) → inner_last (e.1) o ≡ Some x → IsFine x
      by None p = subst IsFine (same_Some (e.1) x p) (h.0)
      by (Some b) p = absurd (none-some x p)
  inner_fine x (e ∷ f ∷ es) h q = inner_fine x (f ∷ es) (h.1) q

  inner_lower : (y : ℕ → Option State) (n : ℕ) (x : State) (es : List Edge) → AllLead y es → AreParted bs.numbers n es → inner bs.numbers es ≡ Some x
      → IsAbove (y (n + 1)) x
  unfolding inner AreParted
  inner_lower y n x [] h p e = absurd (none-some x e)
  inner_lower y n x (e ∷ []) h p q = by (at bs.numbers (e.0)) refl q
    where
      by : (o : Option ℕ) → at bs.numbers (e.0) ≡ o → inner_last (e.1) o ≡ Some x → IsAbove (y (n + 1)) x
      by None z w = subst (λ (m : ℕ). IsAbove (y m) x) (p z) (subst (λ (v : State). IsAbove (y (e.0)) v) (same_Some (e.1) x w) (h.0))
      by (Some b) z w = absurd (none-some x w)
  inner_lower y n x (e ∷ f ∷ es) h p q = inner_lower y n x (f ∷ es) (h.1) (p.1) q

  next_suits : (n : ℕ) (u x : State) → Suits n u → (r : Result (List Edge) Cause) → rule i n u ≡ r → inner_of bs.numbers r ≡ Some x → Suits (n + 1) x
  unfolding out
  next_suits n u x h (Err c) r e = absurd (none-some x e)
  next_suits n u x h (Ok es) r e = record {
    leads = λ j l. inner_holds (λ t. out bs.numbers i j (n + 1) t) x es
        (subst (λ (q : Result (List Edge) Cause). Holds (at kept) (and_then q (leaves bs.numbers (λ t. out bs.numbers i j (n + 1) t)))) r
        (h.leads (suc j) (omega (arith, l)))) e;
    fine = inner_fine x es (subst (λ (q : Result (List Edge) Cause). IfOk q AllFine) r (rule_fine (bounds_of i.code) i n u range h.fine)) e;
    lower = λ y k. inner_lower y n x es (subst (λ (q : Result (List Edge) Cause). Holds y q) r (typed_at i y k n u (h.lower y k)))
        (subst (λ (q : Result (List Edge) Cause). IfOk q (AreParted bs.numbers n)) r (rule_parted i bs a n u)) e;
  }

  begin_suits : (n b : ℕ) (s : State) → at bs.numbers n ≡ Some b → at kept b ≡ Some s → Suits n s
  begin_suits n b s q e =
      let z : start_of i bs b ≡ n = begins_at i bs a n b q in
      record {
        leads = λ j l.
            let m : length i.code - n ≡ j = omega (arith, l) in
            subst (λ (k : ℕ). Holds (at kept) (out bs.numbers i k n s)) m
            (subst (λ (k : ℕ). Holds (at kept) (out bs.numbers i (length i.code - k) k s)) z (settled b s e));
        fine = all_fine b s e;
        lower = λ y k. subst (λ (m : ℕ). IsAbove (y m) s) z (least y k b s e);
      }

  known_suits : (n : ℕ) → ((s : State) → flows i bs.numbers kept n ≡ Some s → Suits n s) → (s : State) → known i bs.numbers kept n ≡ Some s → Suits n s
  known_suits n before s e = by (at bs.numbers n) refl e
    where
      by : (o : Option ℕ) → at bs.numbers n ≡ o → known_by kept (flows i bs.numbers kept n) o ≡ Some s → Suits n s
      by None q p = before s p
      by (Some b) q p = begin_suits n b s q p

  flow_suits : (n : ℕ) (s : State) → flows i bs.numbers kept n ≡ Some s → Suits n s
  unfolding flows
  flow_suits zero s e = absurd (none-some s e)
  flow_suits (suc n) s e = by (λ u p. known_suits n (λ x q. flow_suits n x q) u p) (known i bs.numbers kept n) refl e
    where
      by : ((u : State) → known i bs.numbers kept n ≡ Some u → Suits n u) → (o : Option State) → known i bs.numbers kept n ≡ o
          → passed_on i bs.numbers n o ≡ Some s → Suits (suc n) s
      by suits None q p = absurd (none-some s p)
      by suits (Some u) q p = let z : n + 1 ≡ suc n = omega arith in subst (λ (m : ℕ). Suits m s) z (next_suits n u s (suits u q) (rule i n u) refl p)

  suits : (n : ℕ) (s : State) → known i bs.numbers kept n ≡ Some s → Suits n s
  suits n s e = known_suits n (λ x q. flow_suits n x q) s e

  -- ---- all instructions

  abbrev typed : ℕ → Option State
  typed = at (states_of i bs.numbers kept)

  is_known : (n : ℕ) (s : State) → typed n ≡ Some s → (n < length i.code) × (known i bs.numbers kept n ≡ Some s)
  is_known n s e =
      let l : n < length i.code =
      subst (λ (m : ℕ). n < m) (length_listed (length i.code) (known i bs.numbers kept)) (mapped (states_of i bs.numbers kept) n s e) in
      (l, sym (at_listed (length i.code) (known i bs.numbers kept) n l) ∙ e)

  above : (n : ℕ) (s : State) → n < length i.code → (o : Option State) → known i bs.numbers kept n ≡ o → IsAbove o s → IsAbove (typed n) s
  above n s l o e h = rw (at_listed (length i.code) (known i bs.numbers kept) n l, e) h

  at_begin : (n b : ℕ) (s : State) → at bs.numbers n ≡ Some b → IsAbove (at kept b) s → IsAbove (typed n) s
  at_begin n b s q h = above n s (let z = mapped bs.numbers n b q in omega (arith, a.long)) (at kept b) (rw q refl) h

  behind : (n : ℕ) (s x : State) (j : ℕ) → (n + 1) + j ≡ length i.code → known i bs.numbers kept n ≡ Some s → Holds (at kept) (out bs.numbers i j (n + 1) x)
      → inner_of bs.numbers (rule i n s) ≡ Some x → at bs.numbers (n + 1) ≡ None → IsAbove (typed (n + 1)) x
  unfolding flows out
  behind n s x zero l e h q none = absurd h
  behind n s x (suc j) l e h q none =
      let z : n + 1 ≡ suc n = omega arith in
      let w : flows i bs.numbers kept (suc n) ≡ Some x = rw e q in
      above (n + 1) x (omega (arith, l)) (Some x) (rw none (subst (λ (m : ℕ). flows i bs.numbers kept m ≡ Some x) (sym z) w)) (all_below_refl x)

  module _ (n : ℕ) (go : State → Out) where
    lead_all : (es : List Edge) → AreParted bs.numbers n es → Holds (at kept) (leaves bs.numbers go es)
        → ((x : State) → inner bs.numbers es ≡ Some x → at bs.numbers (n + 1) ≡ None → IsAbove (typed (n + 1)) x) → AllLead typed es
    unfolding leaves inner AreParted
    lead_all [] p h next = tt
    lead_all (e ∷ []) p h next = by (at bs.numbers (e.0)) refl h (λ x g. next x g)
      where
        by : (o : Option ℕ) → at bs.numbers (e.0) ≡ o → Holds (at kept) (leaves_last go (e.1) o)
            → ((x : State) → inner_last (e.1) o ≡ Some x → at bs.numbers (n + 1) ≡ None → IsAbove (typed (n + 1)) x) → IsAbove (typed (e.0)) (e.1) × Unit {0}
        by None q g on = (subst (λ (m : ℕ). IsAbove (typed m) (e.1)) (sym (p q)) (on (e.1) refl (subst (λ (m : ℕ). at bs.numbers m ≡ None) (p q) q)), tt)
        by (Some b) q g on = (at_begin (e.0) b (e.1) q (g.0), tt)
    lead_all (e ∷ f ∷ es) p h next = by (at bs.numbers (e.0)) refl h (λ g. lead_all (f ∷ es) (p.1) g next)
      where
        by : (o : Option ℕ) → at bs.numbers (e.0) ≡ o → Holds (at kept) (leaves_first (e.1) (leaves bs.numbers go (f ∷ es)) o)
            → (Holds (at kept) (leaves bs.numbers go (f ∷ es)) → AllLead typed (f ∷ es)) → IsAbove (typed (e.0)) (e.1) × AllLead typed (f ∷ es)
        by None q g more = absurd g
        by (Some b) q g more =
            (at_begin (e.0) b (e.1) q (first_holds b (e.1) (leaves bs.numbers go (f ∷ es)) g), more (rest_holds b (e.1) (leaves bs.numbers go (f ∷ es)) g))

  rule_holds : (n : ℕ) (s : State) (j : ℕ) → (n + 1) + j ≡ length i.code → known i bs.numbers kept n ≡ Some s → Suits n s → (r : Result (List Edge) Cause)
      → rule i n s ≡ r → Holds typed r
  unfolding out
  rule_holds n s j l e h r q =
      by r q (subst (λ (x : Result (List Edge) Cause). Holds (at kept) (and_then x (leaves bs.numbers (λ t. out bs.numbers i j (n + 1) t)))) q
      (h.leads (suc j) (omega (arith, l))))
      (subst (λ (x : Result (List Edge) Cause). IfOk x (AreParted bs.numbers n)) q (rule_parted i bs a n s))
    where
      by : (r : Result (List Edge) Cause) → rule i n s ≡ r → Holds (at kept) (and_then r (leaves bs.numbers (λ t. out bs.numbers i j (n + 1) t)))
          → IfOk r (AreParted bs.numbers n) → Holds typed r
      by (Err c) q g p = g
      by (Ok es) q g p =
          lead_all n (λ t. out bs.numbers i j (n + 1) t) es p g
          (λ x z none. behind n s x j l e (inner_holds (λ t. out bs.numbers i j (n + 1) t) x es g z) (rw q z) none)

  pub least_typing : IsAbove (at kept 0) (start_state i) → IsLeastTyping i (at (states_of i bs.numbers kept))
  least_typing begins = record {
    typing = record {
      begins = at_begin 0 0 (start_state i) a.first begins;
      state = λ n s e. (suits n s ((is_known n s e).1)).fine.state;
      holds = λ n s e. let k = is_known n s e in rule_holds n s (length i.code - (n + 1)) (omega (arith, k.0)) (k.1) (suits n s (k.1)) (rule i n s) refl;
    };
    least = λ y k n s e. (suits n s ((is_known n s e).1)).lower y k;
  }
