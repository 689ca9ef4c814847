-- What comes of a stretch: it leads to the states of every typing above its own, and to fine states.
use Rattle.zl_verify.proofs.Common.{AllFine, AllLead, AreStretches, Stretches, Edge, Err, IfOk, Image, IsAbove, IsFine, IsTrue, IsTyping, List, None, Ok}
use Rattle.zl_verify.proofs.Common.{Option, Out, Some, State, [], and_then, ap, arith, at, stretch, bounds_of, is_in_range, leaves, leaves_first, leaves_last}
use Rattle.zl_verify.proofs.Common.{length, option_and_then, option_map, out, out_from, raised, raised_all, refl, rule, rule_fine, slice_get, start_of, subst}
use Rattle.zl_verify.proofs.Common.{suc, sym, turned_over, zero, ℕ, ◌+◌, ◌-◌, ◌<◌, ◌∙◌, ◌∷◌, ◌≡◌, ◌≤◌}
use Rattle.zl_abs.specs.Typing.{Holds}
use Rattle.zl_verify.specs.Going.{at_starts}
use Rattle.zl_verify.specs.Search.{Table}
use Rattle.zl_verify.specs.Stretches.{start_or, Went, went_last, went_first, went, stepped}
use Rattle.zl_verify.proofs.Places.{there}
use Rattle.zl_verify.proofs.Parting.{AreParted, rule_parted}
use Rattle.zl_verify.proofs.Lowers.{typed_at, inside}

pub begins_at : (i : Image) (bs : Stretches) → AreStretches i bs → (n b : ℕ) → at bs.numbers n ≡ Some b → start_of i bs b ≡ n
begins_at i bs a n b e = rw (a.begin n b e) refl

-- ---- a typing above leads on

module _ (i : Image) (bs : Stretches) (a : AreStretches i bs) (y : ℕ → Option State) (k : IsTyping i y) where
  one_more : (b : ℕ) (s : State) → IsAbove (at_starts i bs y b) s → (r : Out) → Holds (at_starts i bs y) r
      → Holds (at_starts i bs y) (and_then r (λ es. Ok ((b, s) ∷ es)))
  one_more b s h (Err c) g = g
  one_more b s h (Ok es) g = (h, g)

  at_start : (e : Edge) (b : ℕ) → at bs.numbers (e.0) ≡ Some b → IsAbove (y (e.0)) (e.1) → IsAbove (at_starts i bs y b) (e.1)
  at_start e b q h = subst (λ (m : ℕ). IsAbove (y m) (e.1)) (sym (begins_at i bs a (e.0) b q)) h

  leaving : (n : ℕ) (go : State → Out) → ((s : State) → IsAbove (y (n + 1)) s → Holds (at_starts i bs y) (go s)) → (es : List Edge) → AllLead y es
      → AreParted bs.numbers n es → Holds (at_starts i bs y) (leaves bs.numbers go es)
  unfolding leaves AreParted
  leaving n go more [] h p = tt
  leaving n go more (e ∷ []) h p = by (at bs.numbers (e.0)) refl
    where
      by : (o : Option ℕ) → at bs.numbers (e.0) ≡ o → Holds (at_starts i bs y) (leaves_last go (e.1) o)
      by None q = more (e.1) (subst (λ (m : ℕ). IsAbove (y m) (e.1)) (p q) (h.0))
      by (Some b) q = (at_start e b q (h.0), tt)
  leaving n go more (e ∷ f ∷ es) h p = by (at bs.numbers (e.0)) refl (leaving n go more (f ∷ es) (h.1) (p.1))
    where
      by : (o : Option ℕ) → at bs.numbers (e.0) ≡ o → Holds (at_starts i bs y) (leaves bs.numbers go (f ∷ es))
          → Holds (at_starts i bs y) (leaves_first (e.1) (leaves bs.numbers go (f ∷ es)) o)
      by None q g = absurd (p.0 q)
      by (Some b) q g = one_more b (e.1) (at_start e b q (h.0)) (leaves bs.numbers go (f ∷ es)) g

  led : (j n : ℕ) (s : State) → length i.code ≤ n + j → IsAbove (y n) s → Holds (at_starts i bs y) (out bs.numbers i j n s)
  unfolding out
  led zero n s l h = absurd (let z = inside i y k n s h in omega arith)
  led (suc j) n s l h = by (rule i n s) (typed_at i y k n s h) (rule_parted i bs a n s) (λ t g. led j (n + 1) t (omega arith) g)
    where
      by : (r : Out) → Holds y r → IfOk r (AreParted bs.numbers n)
          → ((t : State) → IsAbove (y (n + 1)) t → Holds (at_starts i bs y) (out bs.numbers i j (n + 1) t))
          → Holds (at_starts i bs y) (and_then r (leaves bs.numbers (λ t. out bs.numbers i j (n + 1) t)))
      by (Err c) g p more = g
      by (Ok es) g p more = leaving n (λ t. out bs.numbers i j (n + 1) t) more es g p

  -- the rule of a stretch holds at each state below a typing's, and leads to its states
  pub leads_out : (b : ℕ) (s : State) → IsAbove (at_starts i bs y b) s → Holds (at_starts i bs y) (stretch i bs b s)
  leads_out b s h = led (length i.code - start_of i bs b) (start_of i bs b) s (omega arith) h

  -- such a state stands at one of the stretches
  pub at_stretch : (b : ℕ) (s : State) → IsAbove (at_starts i bs y b) s → b < length bs.starts
  at_stretch b s h = by (slice_get bs.starts b) refl h
    where
      by : (o : Option ℕ) → slice_get bs.starts b ≡ o → IsAbove (y (start_or (length i.code) o)) s → b < length bs.starts
      by None e g = absurd (let z = inside i y k (length i.code) s g in omega arith)
      by (Some n) e g = there bs.starts b n e

-- ---- states stay fine

module _ (i : Image) (range : IsTrue (is_in_range i)) (numbers : List (Option ℕ)) where
  one_fine : (b : ℕ) (s : State) → IsFine s → (r : Out) → IfOk r AllFine → IfOk (and_then r (λ es. Ok ((b, s) ∷ es))) AllFine
  one_fine b s h (Err c) g = tt
  one_fine b s h (Ok es) g = (h, g)

  leaves_fine : (go : State → Out) → ((s : State) → IsFine s → IfOk (go s) AllFine) → (es : List Edge) → AllFine es → IfOk (leaves numbers go es) AllFine
  unfolding leaves
  leaves_fine go more [] h = tt
  leaves_fine go more (e ∷ []) h = by (at numbers (e.0))
    where
      by : (o : Option ℕ) → IfOk (leaves_last go (e.1) o) AllFine
      by None = more (e.1) (h.0)
      by (Some b) = (h.0, tt)
  leaves_fine go more (e ∷ f ∷ es) h = by (at numbers (e.0)) (leaves_fine go more (f ∷ es) (h.1))
    where
      by : (o : Option ℕ) → IfOk (leaves numbers go (f ∷ es)) AllFine → IfOk (leaves_first (e.1) (leaves numbers go (f ∷ es)) o) AllFine
      by None g = tt
      by (Some b) g = one_fine b (e.1) (h.0) (leaves numbers go (f ∷ es)) g

  pub out_fine : (j n : ℕ) (s : State) → IsFine s → IfOk (out numbers i j n s) AllFine
  unfolding out
  out_fine zero n s h = tt
  out_fine (suc j) n s h = by (rule i n s) (rule_fine (bounds_of i.code) i n s range h) (λ t g. out_fine j (n + 1) t g)
    where
      by : (r : Out) → IfOk r AllFine → ((t : State) → IsFine t → IfOk (out numbers i j (n + 1) t) AllFine)
          → IfOk (and_then r (leaves numbers (λ t. out numbers i j (n + 1) t))) AllFine
      by (Err c) g more = tt
      by (Ok es) g more = leaves_fine (λ t. out numbers i j (n + 1) t) more es g

-- ---- one instruction after another

-- what comes of the table behind an instruction
abbrev ran : (State → Out) → Went → Option Table
ran go None = None
ran go (Some (u, None)) = Some u
ran go (Some (u, Some s)) = turned_over u (go s)

module _ (numbers : List (Option ℕ)) (go : State → Out) where
  alone : (t : Table) (b : ℕ) (s : State) (o : Option Table) → option_and_then (λ u. raised_all u []) o ≡ ran go (option_map (λ u. (u, None)) o)
  unfolding raised_all
  alone t b s None = refl
  alone t b s (Some u) = refl

  last : (t : Table) (s : State) (o : Option ℕ) → turned_over t (leaves_last go s o) ≡ ran go (went_last t s o)
  unfolding raised_all
  last t s None = refl
  last t s (Some b) = alone t b s (raised t b s)

  before : (t : Table) (b : ℕ) (s : State) (r : Out)
      → turned_over t (and_then r (λ es. Ok ((b, s) ∷ es))) ≡ option_and_then (λ u. turned_over u r) (raised t b s)
  unfolding raised_all
  before t b s (Err c) = by (raised t b s)
    where
      by : (o : Option Table) → None ≡ option_and_then (λ u. turned_over u (Err c)) o
      by None = refl
      by (Some u) = refl
  before t b s (Ok es) = refl

  steps : (t : Table) (es : List Edge) → turned_over t (leaves numbers go es) ≡ ran go (went numbers t es)
  unfolding leaves went raised_all
  steps t [] = refl
  steps t (e ∷ []) = last t (e.1) (at numbers (e.0))
  steps t (e ∷ f ∷ es) = by (at numbers (e.0)) (λ u. steps u (f ∷ es))
    where
      more : ((u : Table) → turned_over u (leaves numbers go (f ∷ es)) ≡ ran go (went numbers u (f ∷ es))) → (o : Option Table)
          → option_and_then (λ u. turned_over u (leaves numbers go (f ∷ es))) o ≡ ran go (option_and_then (λ u. went numbers u (f ∷ es)) o)
      more same None = refl
      more same (Some u) = same u

      by : (o : Option ℕ) → ((u : Table) → turned_over u (leaves numbers go (f ∷ es)) ≡ ran go (went numbers u (f ∷ es)))
          → turned_over t (leaves_first (e.1) (leaves numbers go (f ∷ es)) o) ≡ ran go (went_first t (e.1) (λ u. went numbers u (f ∷ es)) o)
      by None same = refl
      by (Some b) same = before t b (e.1) (leaves numbers go (f ∷ es)) ∙ more same (raised t b (e.1))

  stepping : (t : Table) (r : Out) → turned_over t (and_then r (leaves numbers go)) ≡ ran go (stepped numbers t r)
  stepping t (Err c) = refl
  stepping t (Ok es) = steps t es

module _ (numbers : List (Option ℕ)) (i : Image) (t : Table) (n : ℕ) (s : State) where
  one_less : n < length i.code → length i.code - n ≡ suc (length i.code - (n + 1))
  one_less h = omega arith

  on : n < length i.code → turned_over t (out_from numbers i n s) ≡ ran (λ x. out_from numbers i (n + 1) x) (stepped numbers t (rule i n s))
  unfolding out
  on h = rw (one_less h) (stepping numbers (λ x. out_from numbers i (n + 1) x) t (rule i n s))

  pub ran_on : (u : Table) (x : State) → n < length i.code → Some (u, Some x) ≡ stepped numbers t (rule i n s)
      → turned_over t (out_from numbers i n s) ≡ turned_over u (out_from numbers i (n + 1) x)
  ran_on u x h e = on h ∙ ap (ran (λ x. out_from numbers i (n + 1) x)) (sym e)

  pub ran_out : (u : Table) → n < length i.code → Some (u, None) ≡ stepped numbers t (rule i n s) → Some u ≡ turned_over t (out_from numbers i n s)
  ran_out u h e = sym (on h ∙ ap (ran (λ x. out_from numbers i (n + 1) x)) (sym e))

  pub ran_none : n < length i.code → None ≡ stepped numbers t (rule i n s) → None ≡ turned_over t (out_from numbers i n s)
  ran_none h e = sym (on h ∙ ap (ran (λ x. out_from numbers i (n + 1) x)) (sym e))

  pub ran_past : length i.code ≤ n → None ≡ turned_over t (out_from numbers i n s)
  unfolding out
  ran_past h = let e : length i.code - n ≡ 0 = omega arith in rw e refl
