-- One place more of a list of handles, and what is received.
use Rattle.zl_abs.proofs.Common.{AbsVal, Bool, Cause, Field, List, None, Ok, Option, Result, Rights, Some, State, [], add-one, ap, arith, bits, drop, drop_all}
use Rattle.zl_abs.proofs.Common.{examined_all, false, if◌then◌else◌, is_some, left_by, length, length-append, nat_lt, none-some, operand_by, operands_listed}
use Rattle.zl_abs.proofs.Common.{refl, register_in, rights_of, same_Some, slice_get, suc, sym, triple_results, true, used, zero, ℕ, ◌*◌, ◌++◌, ◌+◌, ◌-◌, ◌<◌}
use Rattle.zl_abs.proofs.Common.{◌∙◌, ◌∷◌, ◌≡◌, ◌≤◌}
use Rattle.zl_abs.specs.declared.value.AbsVal.TheVariants.{Has, KindOf, RightsOf}
use Rattle.zl_abs.proofs.CallSteps.{stops_there, goes_on}

-- the registers in these places are examined by the field
abbrev pub listed : Field → State → List ℕ → Result State Cause
listed f s places = examined_all s (operands_listed (Some f) (used places))

pub used_here : (places : List ℕ) (i r : ℕ) → Some r ≡ register_in (slice_get places i) → used (drop i places) ≡ r ∷ used (drop (suc i) places)
used_here [] i r h = absurd (none-some r (sym h))
used_here (b ∷ bs) zero r h = by (nat_lt b 32) refl h
  where
    by : (t : Bool) → nat_lt b 32 ≡ t → Some r ≡ (if t then Some b else None) → used (b ∷ bs) ≡ r ∷ used bs
    by true e k = let p : r ≡ b = same_Some r b k in rw (e, p) refl
    by false e k = absurd (none-some r (sym k))
used_here (b ∷ bs) (suc i) r h = used_here bs i r h

module _ (f : Field) (places : List ℕ) (i : ℕ) (all : Result State Cause) (s : State) (so_far : all ≡ listed f s (drop i places)) where
  module _ (r : ℕ) (t : State) (fault : Option Cause) (b : Bool) (here : Some r ≡ register_in (slice_get places i))
      (left : left_by t fault ≡ examined_all s (operand_by f r)) (is : b ≡ is_some fault) where
    from_here : all ≡ examined_all s (operand_by f r ++ operands_listed (Some f) (used (drop (i + 1) places)))
    from_here = so_far ∙ rw (add-one) (ap (λ rs. examined_all s (operands_listed (Some f) rs)) (used_here places i r here))

    pub listed_stop : b ≡ true → left_by t fault ≡ all
    listed_stop e = stops_there s t _ _ fault b left is e ∙ sym from_here

    pub listed_more : b ≡ false → all ≡ listed f t (drop (i + 1) places)
    listed_more e = from_here ∙ goes_on s t _ _ fault b left is e

  pub listed_end : length places ≤ i → Ok s ≡ all
  unfolding examined_all
  listed_end h = sym (so_far ∙ rw (drop_all i places h) refl)

-- ---- triples

three_more : (done : List (ℕ × AbsVal)) (x y z : ℕ × AbsVal) (rest : List (ℕ × AbsVal))
    → (((done ++ x ∷ []) ++ y ∷ []) ++ z ∷ []) ++ rest ≡ done ++ x ∷ y ∷ z ∷ rest
three_more [] x y z rest = refl
three_more (d ∷ done) x y z rest = ap (λ (l : List (ℕ × AbsVal)). d ∷ l) (three_more done x y z rest)

pub triples_more : (done one two three all : List (ℕ × AbsVal)) (first place places h k r : ℕ) (q : Rights)
    → one ≡ done ++ (h, Has true None q) ∷ [] → two ≡ one ++ (k, KindOf h) ∷ [] → three ≡ two ++ (r, RightsOf h) ∷ [] → place < places
    → h ≡ first + 3 * place → k ≡ h + 1 → r ≡ h + 2 → bits q ≡ 0 → done ++ triple_results (first + 3 * place) (places - place) ≡ all
    → three ++ triple_results (first + 3 * (place + 1)) (places - (place + 1)) ≡ all
triples_more done one two three all first place places h k r q x y z less a b c none so_far =
    let u : places - place ≡ suc (places - (place + 1)) = omega arith in
    let w : first + 3 * (place + 1) ≡ first + 3 * place + 3 = omega arith in
    let n : q ≡ rights_of 0 = ap rights_of none in
    rw (z, y, x, three_more, w, c, b, a, n) (rw u at so_far)

pub three_longer : (done one two three : List (ℕ × AbsVal)) (x y z : ℕ × AbsVal) (size place : ℕ)
    → one ≡ done ++ x ∷ [] → two ≡ one ++ y ∷ [] → three ≡ two ++ z ∷ [] → length done ≡ size + 3 * place → length three ≡ size + 3 * (place + 1)
three_longer done one two three x y z size place a b c e = rw (c, b, a, length-append, length-append, length-append, e) (omega arith)
