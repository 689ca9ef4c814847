-- The byte of the needs.
use Rattle.zl_code.proofs.Common.{Bool, Condition, List, Some, [], and_from, and_parts, ap, are_needs, arith, ascend_from, cases_Bool, condition_number}
use Rattle.zl_code.proofs.Common.{condition_numbered, eqb-true, false, false≢true, if◌then◌else◌, inl, inr, is_among, is_needs_byte, lt-ltb, ltb-true, map}
use Rattle.zl_code.proofs.Common.{nat_lt, needs_byte, needs_named, needs_value, not, refl, same_Some, sym, true, ℕ, ◌%◌, ◌&&◌, ◌+◌, ◌/◌, ◌<◌, ◌==◌, ◌∙◌, ◌∷◌}
use Rattle.zl_code.proofs.Common.{◌≡◌, ◌≤◌}
use Rattle.zl_rights.specs.declared.policy.Condition.TheVariants as condition
use Rattle.zl_code.specs.declared.image.Needs.{Needs}
use Rattle.zl_code.specs.Image.{need_if}
use Rattle.zl_code.proofs.Below.{all_below, below}

-- ---- facts of all sets of needs, each by one computation

-- the needs of five flags
abbrev flags : (c e v p q : Bool) → List Condition
flags c e v p q = need_if c condition.NewChannel (need_if e condition.NewEvent (need_if v condition.NewEventpair
    (need_if p condition.NewPort (need_if q condition.NewProcess []))))

-- the test passes for both
abbrev both : (Bool → Bool) → Bool
both test = test true && test false

at_both : (test : Bool → Bool) → both test ≡ true → (b : Bool) → test b ≡ true
at_both test h true = (and_parts (test true) (test false) h).0
at_both test h false = (and_parts (test true) (test false) h).1

-- the test passes for each choice of flags
abbrev every : ((c e v p q : Bool) → Bool) → Bool
every test = both (λ c. both (λ e. both (λ v. both (λ p. both (λ q. test c e v p q)))))

at_every : (test : (c e v p q : Bool) → Bool) → every test ≡ true → (c e v p q : Bool) → test c e v p q ≡ true
at_every test h c e v p q =
    at_both (λ q. test c e v p q) (at_both (λ p. both (λ q. test c e v p q)) (at_both (λ v. both (λ p. both (λ q. test c e v p q)))
    (at_both (λ e. both (λ v. both (λ p. both (λ q. test c e v p q))))
    (at_both (λ c. both (λ e. both (λ v. both (λ p. both (λ q. test c e v p q))))) h c) e) v) p) q

-- the flags are one
abbrev alike : Bool → Bool → Bool
alike true b = b
alike false b = not b

alike_flags : (a b : Bool) → alike a b ≡ true → a ≡ b
alike_flags true true h = refl
alike_flags true false h = absurd (false≢true h)
alike_flags false true h = absurd (false≢true h)
alike_flags false false h = refl

-- five flags that are the same give the same needs
same_flags : (c e v p q c2 e2 v2 p2 q2 : Bool) → (alike c c2 && (alike e e2 && (alike v v2 && (alike p p2 && alike q q2)))) ≡ true
    → flags c e v p q ≡ flags c2 e2 v2 p2 q2
same_flags c e v p q c2 e2 v2 p2 q2 h =
    let one = and_parts (alike c c2) _ h in
    let two = and_parts (alike e e2) _ one.1 in
    let three = and_parts (alike v v2) _ two.1 in
    let four = and_parts (alike p p2) (alike q q2) three.1 in
    λ i. flags (alike_flags c c2 one.0 i) (alike_flags e e2 two.0 i) (alike_flags v v2 three.0 i) (alike_flags p p2 four.0 i) (alike_flags q q2 four.1 i)

-- ---- the byte

-- the needs whose bits are in the byte
abbrev pub needs_at : ℕ → List Condition
needs_at b = flags (b % 2 == 1) (b / 2 % 2 == 1) (b / 4 % 2 == 1) (b / 8 % 2 == 1) (b / 16 % 2 == 1)

again : ℕ → Bool
again b = needs_byte (needs_at b) == b

-- nothing of the byte is lost
pub needs_of_byte : (b : ℕ) → is_needs_byte b ≡ true → needs_byte (needs_at b) ≡ b
unfolding again all_below
needs_of_byte b h = eqb-true _ _ (below again 32 b refl (ltb-true b 32 h))

-- the needs of flags are in order
pub are_needs-value : (n : Needs) → are_needs (needs_value n) ≡ true
are_needs-value n = at_every (λ c e v p q. are_needs (flags c e v p q)) refl n.channel n.event n.eventpair n.port n.process

-- ---- needs in order are those of flags

abbrev InOrder : ℕ → List Condition → Type 0
InOrder n needs = ascend_from n (map condition_number needs) ≡ true

numbered : (c : Condition) → condition_numbered (condition_number c) ≡ Some c
numbered condition.NewAny = refl
numbered _ = refl

number_most : (c : Condition) → condition_number c ≤ 7
number_most condition.NewAny = omega arith
number_most _ = omega arith

-- the first of needs that come behind n is the condition with the next number, or all come behind that
step : (d : Condition) (n : ℕ) → condition_number d ≡ n + 1 → (needs : List Condition) → InOrder n needs
    → (b : Bool) × (rest : List Condition) × InOrder (n + 1) rest × (needs ≡ need_if b d rest)
step d n is [] h = (false, [], refl, refl)
step d n is (c ∷ needs) h =
    let parts = and_parts (nat_lt n (condition_number c)) _ h in
    let above : n < condition_number c = ltb-true n (condition_number c) parts.0 in
    elim (cases_Bool (condition_number c == n + 1))
    as (λ _. (b : Bool) × (rest : List Condition) × InOrder (n + 1) rest × (c ∷ needs ≡ need_if b d rest)) [
      | inl here ↦
          let number : condition_number c ≡ n + 1 = eqb-true _ _ here in
          let one : c ≡ d = same_Some c d (sym (numbered c) ∙ (ap condition_numbered (number ∙ sym is) ∙ numbered d)) in
          (true, needs, rw number at parts.1, ap (λ (x : Condition). x ∷ needs) one)
      | inr apart ↦ (false, c ∷ needs, and_from _ _ (lt-ltb (n + 1) (condition_number c) (grind (arith, above, apart))) parts.1, refl)
    ]

none_behind : (needs : List Condition) → InOrder 7 needs → needs ≡ []
none_behind [] h = refl
none_behind (c ∷ needs) h =
    let above : 7 < condition_number c = ltb-true 7 (condition_number c) (and_parts _ _ h).0 in
    let most : condition_number c ≤ 7 = number_most c in
    absurd (omega (arith, above, most))

-- some flags have just these needs
flagged : (needs : List Condition) → are_needs needs ≡ true → (n : Needs) × (needs ≡ needs_value n)
flagged needs h =
    let c = step condition.NewChannel 2 refl needs h in
    let e = step condition.NewEvent 3 refl c.1 c.2 in
    let v = step condition.NewEventpair 4 refl e.1 e.2 in
    let p = step condition.NewPort 5 refl v.1 v.2 in
    let q = step condition.NewProcess 6 refl p.1 p.2 in (
      record { channel = c.0; event = e.0; eventpair = v.0; port = p.0; process = q.0 },
      c.3 ∙ ap (need_if c.0 condition.NewChannel) (e.3 ∙ ap (need_if e.0 condition.NewEvent) (v.3 ∙ ap (need_if v.0 condition.NewEventpair)
          (p.3 ∙ ap (need_if p.0 condition.NewPort) (q.3 ∙ ap (need_if q.0 condition.NewProcess) (none_behind q.1 q.2))))),
    )

-- what is kept by a byte of needs
pub record FitsByte (needs : List Condition) : Type 0 where
  pub valid : is_needs_byte (needs_byte needs) ≡ true
  pub again : needs_at (needs_byte needs) ≡ needs

flags_fit : (c e v p q : Bool) → FitsByte (flags c e v p q)
flags_fit c e v p q = record {
  valid = at_every (λ c e v p q. is_needs_byte (needs_byte (flags c e v p q))) refl c e v p q;
  again = same_flags _ _ _ _ _ c e v p q (at_every (λ c e v p q. let b = needs_byte (flags c e v p q) in
      alike (b % 2 == 1) c && (alike (b / 2 % 2 == 1) e && (alike (b / 4 % 2 == 1) v && (alike (b / 8 % 2 == 1) p && alike (b / 16 % 2 == 1) q))))
      refl c e v p q);
}

pub needs_fit : (needs : List Condition) → are_needs needs ≡ true → FitsByte needs
needs_fit needs h = let (n, is) = flagged needs h in rw is (flags_fit n.channel n.event n.eventpair n.port n.process)

-- ---- needs that are named

-- which of them are named
abbrev named_flags : List Condition → List Condition
named_flags named = flags (is_among named condition.NewChannel) (is_among named condition.NewEvent) (is_among named condition.NewEventpair)
    (is_among named condition.NewPort) (is_among named condition.NewProcess)

needs_named-flags : (named : List Condition) → needs_named named ≡ named_flags named
needs_named-flags named =
    one (is_among named condition.NewChannel) _ _ _ (one (is_among named condition.NewEvent) _ _ _ (one (is_among named condition.NewEventpair) _ _ _
    (one (is_among named condition.NewPort) _ _ _ (one (is_among named condition.NewProcess) _ _ _ refl))))
  where
    one : (b : Bool) (c : Condition) (xs ys : List Condition) → xs ≡ ys → (if b then c ∷ xs else xs) ≡ need_if b c ys
    one true c xs ys e = ap (λ (r : List Condition). c ∷ r) e
    one false c xs ys e = e

-- the flags name themselves
flags_again : (c e v p q : Bool) → needs_named (flags c e v p q) ≡ flags c e v p q
flags_again c e v p q =
    needs_named-flags (flags c e v p q) ∙ same_flags _ _ _ _ _ c e v p q (at_every (λ c e v p q. let named = flags c e v p q in
    alike (is_among named condition.NewChannel) c && (alike (is_among named condition.NewEvent) e && (alike (is_among named condition.NewEventpair) v
    && (alike (is_among named condition.NewPort) p && alike (is_among named condition.NewProcess) q)))) refl c e v p q)

-- needs in order name themselves
pub needs_named-needs : (needs : List Condition) → are_needs needs ≡ true → needs_named needs ≡ needs
needs_named-needs needs h = let (n, is) = flagged needs h in rw is (flags_again n.channel n.event n.eventpair n.port n.process)
