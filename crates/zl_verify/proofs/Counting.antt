-- What is over by counting instructions is over by counting edges, and the other way round.
use Rattle.zl_verify.proofs.Common.{AreCountersAt, Bool, Cause, Edge, Err, Follow, Image, IsOver, IsTrue, IsTyping, List, None, Ok, OneOf, Option}
use Rattle.zl_verify.proofs.Common.{Result, Some, Spot, State, []}
use Rattle.zl_verify.proofs.Common.{arith, call_at, false, if◌then◌else◌, inl, inr, is_in_range, is_pause, leads_by, leads_on, length, refl}
use Rattle.zl_verify.proofs.Common.{rule, spots_to, subst, suc, sym, targets_of, true, zero, ℕ, ◌↔◌, ◌∷◌, ◌≡◌, ◌≢◌}
use Rattle.zl_abs.specs.Typing.{Holds}
use Rattle.zl_verify.specs.Over.{Counts, AllCount, IsFollowedBy, IsOverByCount}
use Rattle.zl_verify.proofs.Suiting.{counted_there, goes_somewhere, rule_leads}
use Rattle.zl_verify.proofs.LeadingOn.{leads_on as leads_to_some}
use Rattle.zl_verify.proofs.Walking.{fewer, one_too}

-- ---- one of some spots

any_one : (P : Spot → Type 0) → ((p : Spot) → P p) → (ps : List Spot) → ps ≢ [] → OneOf P ps
any_one P h [] k = absurd (k refl)
any_one P h (p ∷ ps) k = inl (h p)

this_one : (P : Spot → Type 0) (q : Spot) → P q → (ps : List Spot) → OneOf (λ p. p ≡ q) ps → OneOf P ps
this_one P q h [] f = absurd f
this_one P q h (p ∷ ps) f = elim f [ inl e ↦ inl (subst P (sym e) h) | inr k ↦ inr (this_one P q h ps k) ]

record Found (P : Spot → Type 0) (ps : List Spot) : Type 0 where
  spot : Spot
  has : P spot
  among : OneOf (λ p. p ≡ spot) ps

find : (P : Spot → Type 0) (ps : List Spot) → OneOf P ps → Found P ps
find P [] h = absurd h
find P (p ∷ ps) h = elim h as (λ _. Found P (p ∷ ps)) [
  | inl f ↦ record { spot = p; has = f; among = inl refl }
  | inr k ↦ let f = find P ps k in record { spot = f.spot; has = f.has; among = inr f.among }
]

module _ (i : Image) (range : IsTrue (is_in_range i)) (t : ℕ → Option State) where
  -- ---- each that counts leads on

  at_state : (p : Spot) (s : State) → t p.0 ≡ Some s → is_pause (call_at i p.0) ≡ false → leads_on i t p ≡ spots_to i p (targets_of (rule i p.0 s))
  at_state p s e q = rw (e, q) refl

  not_empty : (n : ℕ) (s : State) → is_pause (call_at i n) ≡ false → (r : Result (List Edge) Cause) → rule i n s ≡ r → Holds t r → targets_of r ≢ []
  not_empty n s p (Err c) e h = absurd h
  not_empty n s p (Ok []) e h = absurd (leads_to_some i n s [] p e refl)
  not_empty n s p (Ok (x ∷ xs)) e h = λ z. cc

  pub has_edge : IsTyping i t → (p : Spot) → AreCountersAt i p.0 p.1 → Counts i t p.0 → leads_on i t p ≢ []
  has_edge y p are c =
      rw (at_state p c.state c.mapped c.goes_on)
      (goes_somewhere i range p (targets_of (rule i p.0 c.state)) (rule_leads i range p.0 c.state) are
      (not_empty p.0 c.state c.goes_on (rule i p.0 c.state) refl (y.holds p.0 c.state c.mapped)))

  -- counters that are right stay so along a followed edge
  right_there : (p q : Spot) → AreCountersAt i p.0 p.1 → IsFollowedBy i t p q → AreCountersAt i q.0 q.1
  right_there p q are f =
      counted_there i range p.0 p.1 (targets_of (rule i p.0 f.state)) q (rule_leads i range p.0 f.state) are
      (one_too (λ x. x ≡ q) (λ x. q ≡ x) (λ x e. sym e) (spots_to i p (targets_of (rule i p.0 f.state))) f.edge)

  followed : IsTyping i t → (p : Spot) (ps : List Spot) → AreCountersAt i p.0 p.1 → AllCount i t p ps → Follow (leads_on i t) (length (p ∷ ps)) p
  followed y p [] are c = any_one (λ q. Follow (leads_on i t) zero q) (λ q. tt) (leads_on i t p) (has_edge y p are c)
  followed y p (q ∷ ps) are c =
      let f = c.1 in
      this_one (λ r. Follow (leads_on i t) (length (q ∷ ps)) r) q (followed y q ps (right_there p q are f) (c.2)) (leads_on i t p)
      (rw (at_state p f.state f.mapped (c.0.goes_on)) f.edge)

  -- ---- what is led on from counts

  -- what leads to these spots counts, and they are those of its edges
  record Leads (p : Spot) (ps : List Spot) : Type 0 where
    counts : Counts i t p.0
    same : ps ≡ spots_to i p (targets_of (rule i p.0 counts.state))

  led : (P : Spot → Type 0) (p : Spot) → OneOf P (leads_on i t p) → Leads p (leads_on i t p)
  led P p h = by (t p.0) refl (is_pause (call_at i p.0)) refl h
    where
      by : (o : Option State) → t p.0 ≡ o → (b : Bool) → is_pause (call_at i p.0) ≡ b → OneOf P (spots_to i p (leads_by i p.0 o))
          → Leads p (spots_to i p (leads_by i p.0 o))
      by None e b q h = absurd h
      by (Some s) e true q h = absurd (subst (λ b. OneOf P (spots_to i p (if b then [] else targets_of (rule i p.0 s)))) q h)
      by (Some s) e false q h = record { counts = record { state = s; mapped = e; goes_on = q }; same = rw q refl }

  -- so many instructions stand behind that of the spot
  record Behind (p : Spot) (k : ℕ) : Type 0 where
    behind : List Spot
    long : length behind ≡ k
    count : AllCount i t p behind

  counted : (k : ℕ) (p : Spot) → Follow (leads_on i t) (suc k) p → Behind p k
  counted zero p f = record { behind = []; long = refl; count = (led (λ q. Follow (leads_on i t) zero q) p f).counts }
  counted (suc k) p f =
      let l = led (λ q. Follow (leads_on i t) (suc k) q) p f in
      let x = find (λ q. Follow (leads_on i t) (suc k) q) (leads_on i t p) f in
      let b = counted k x.spot x.has in
      record {
        behind = x.spot ∷ b.behind;
        long = (let e = b.long in omega arith);
        count =
            (l.counts, record { state = l.counts.state; mapped = l.counts.mapped; edge = subst (λ ps. OneOf (λ q. q ≡ x.spot) ps) l.same x.among }, b.count);
      }

  -- in a typing an instruction is over by edges just where it is over by instructions
  pub over_counted : (n : ℕ) → IsTyping i t → (IsOver i t n ↔ IsOverByCount i t n)
  over_counted n y = (there, back)
    where
      there : IsOver i t n → IsOverByCount i t n
      there o = (let b = counted i.budget (n, o.counters) o.follow in
          record { counters = o.counters; are = o.are; behind = b.behind; more = (let e = b.long in omega arith); count = b.count })

      back : IsOverByCount i t n → IsOver i t n
      back c = record {
        counters = c.counters;
        are = c.are;
        follow =
            fewer (leads_on i t) (suc i.budget) (length ((n, c.counters) ∷ c.behind)) (n, c.counters) (let h = c.more in omega arith)
            (followed y (n, c.counters) c.behind c.are c.count);
      }
