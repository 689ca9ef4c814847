-- A typing's rules hold at each state below its own.
use Rattle.zl_verify.proofs.Common.{AllLead, AreAmong, Cause, Edge, Err, Image, IsAbove, IsAmong, IsTyping, List, None, Ok, Option, Result, RuleBelow, Some}
use Rattle.zl_verify.proofs.Common.{State, [], bounds_of, inl, inr, length, refl, rule, rule_below, subst, sym, ℕ, ◌<◌, ◌∷◌, ◌≡◌, ◌≤◌, ◌⊎◌}
use Rattle.zl_abs.specs.Typing.{Holds}
use Rattle.zl_abs.proofs.RuleSteps.{nothing_there}
use Rattle.zl_abs.specs.declared.cause.Cause.TheVariants as cause
use Rattle.zl_verify.proofs.Places.{below_or_not}
use Rattle.zl_verify.proofs.Rising.{above_trans}

-- ---- a typing at a state below its own

lead_among : (t : ℕ → Option State) (e : Edge) (fs : List Edge) → IsAmong fs e → AllLead t fs → IsAbove (t (e.0)) (e.1)
lead_among t e [] h k = absurd h
lead_among t e (f ∷ fs) h k = elim h [
  | inl p ↦ above_trans (t (e.0)) (e.1) (f.1) (p.1) (subst (λ (n : ℕ). IsAbove (t n) (f.1)) (sym (p.0)) (k.0))
  | inr q ↦ lead_among t e fs q (k.1)
]

all_lead_among : (t : ℕ → Option State) (es fs : List Edge) → AreAmong fs es → AllLead t fs → AllLead t es
all_lead_among t [] fs h k = tt
all_lead_among t (e ∷ es) fs h k = (lead_among t e fs (h.0) k, all_lead_among t es fs (h.1) k)

typed_below : (t : ℕ → Option State) (r q : Result (List Edge) Cause) → RuleBelow r q → Holds t q → Holds t r
typed_below t r (Err c) h k = absurd k
typed_below t (Err c) (Ok fs) h k = absurd h
typed_below t (Ok es) (Ok fs) h k = all_lead_among t es fs h k

-- the rule holds at each state below a typing's, and leads to its states
pub typed_at : (i : Image) (t : ℕ → Option State) → IsTyping i t → (n : ℕ) (s : State) → IsAbove (t n) s → Holds t (rule i n s)
typed_at i t y n s h = by (t n) refl h
  where
    by : (o : Option State) → t n ≡ o → IsAbove o s → Holds t (rule i n s)
    by None e k = absurd k
    by (Some u) e k = typed_below t (rule i n s) (rule i n u) (rule_below (bounds_of i.code) i n s u k) (y.holds n u e)

-- ---- a typing stands within the code

-- the rule holds at no place outside the code
pub outside : (i : Image) (n : ℕ) (s : State) → length i.code ≤ n → rule i n s ≡ Err cause.FallsOff
outside i n s h = sym (nothing_there (bounds_of i.code) i n s h)

pub inside : (i : Image) (y : ℕ → Option State) → IsTyping i y → (n : ℕ) (s : State) → IsAbove (y n) s → n < length i.code
inside i y h n s a = by (below_or_not n (length i.code))
  where
    by : (n < length i.code) ⊎ (length i.code ≤ n) → n < length i.code
    by (inl b) = b
    by (inr b) = absurd (subst (λ (r : Result (List Edge) Cause). Holds y r) (outside i n s b) (typed_at i y h n s a))
