-- The invariant of the objects, once jobs and processes were started, killed or given a policy.
use Rattle.zl_objects.proofs.Common.{Body, Bool, Condition, Err, HasPeerHere, HavePlaces, IsKept, IsWhole, List, Listed, Map, None, Object, Ok, OnErr, OnOk}
use Rattle.zl_objects.proofs.Common.{Option, Result, Some, [], all_killed, ap, arith, each, false, get, get-each, has_key, is_at, is_some, is_within_here}
use Rattle.zl_objects.proofs.Common.{killed_body, killed_if, kind_here, kind_in, length, lookup, nat_cmp, none-some, option_map, refl, reserved_in, same_Some}
use Rattle.zl_objects.proofs.Common.{set_value, started, started_body, subst, suc, sum_by-cons, sym, true, update, waits_at, waits_for, waits_in}
use Rattle.zl_objects.proofs.Common.{with_policy_body, with_policy_set, ℕ, ◌∙◌, ◌∷◌, ◌≡◌}
use Rattle.zl_rights.specs.declared.policy.Action.{Action}
use Rattle.zl_objects.specs.declared.object.Body.TheVariants as body
use Rattle.zl_objects.proofs.ByKoid.{written, written_back}
use Rattle.zl_objects.proofs.Listed.{same_listed, updated_listed, updated_or_listed}
use Rattle.zl_objects.proofs.Peers.{peer_stays}
use Rattle.zl_objects.proofs.Whole.{Stays, rebodied_whole, roomy_whole, stays_same}

-- ---- bodies

pub started_same : (b : Body) → Stays b (started_body b)
started_same (body.Process job life) = record { kind = refl; reserved = refl; peer = refl; above = refl }
started_same b = stays_same b

pub policy_same : (c : Condition) (a : Action) (b : Body) → Stays b (with_policy_body c a b)
policy_same c a (body.Job own) = record { kind = refl; reserved = refl; peer = refl; above = refl }
policy_same c a b = stays_same b

pub killed_same : (b : Body) → Stays b (killed_body b)
killed_same (body.Job own) = record { kind = refl; reserved = refl; peer = refl; above = refl }
killed_same (body.Process job life) = record { kind = refl; reserved = refl; peer = refl; above = refl }
killed_same b = stays_same b

-- ---- one of them

module _ {waits : List Listed} where
  pub started_kept : (m n : Map Object) (next room k : ℕ) → IsKept None m next room waits → n ≡ update m k started
      → IsKept None n next room waits
  started_kept m n next room k kept is = record {
    whole = rebodied_whole started_body started_same m n next room k kept.whole is;
    listed = updated_listed started (λ o. refl) waits m n k kept.listed is;
  }

  -- a policy was set, or that was refused
  pub policy_or_same_kept : {A B : Type 0} (c : Condition) (a : Action) (m n : Map Object) (next room k : ℕ) (v w : Object) (r : Result A B)
      → IsKept None m next room waits → OnOk r (w ≡ with_policy_set c a v) → OnErr r (w ≡ v)
      → Some v ≡ lookup (is_at (nat_cmp k)) m → n ≡ set_value (is_at (nat_cmp k)) m w → IsKept None n next room waits
  policy_or_same_kept c a m n next room k v w r kept is other there set = record {
    whole = by_result r is other;
    listed = updated_or_listed (with_policy_set c a) (λ o. refl) waits m n k v w r kept.listed is other there set;
  }
    where
      by_result : {A B : Type 0} (r : Result A B) → OnOk r (w ≡ with_policy_set c a v) → OnErr r (w ≡ v) → IsWhole None n next room
      by_result (Ok x) is other =
          rebodied_whole (with_policy_body c a) (policy_same c a) m n next room k kept.whole (written m n k (with_policy_set c a) v w there is set)
      by_result (Err e) is other = roomy_whole m n next room room kept.whole (written_back m n k v w there other set) (omega arith)

-- ---- all of them

module _ (kills : ℕ → Bool) where
  -- each object that the test passes is killed
  abbrev f : ℕ → Object → Object
  f j o = killed_if (kills j) o

  same_waits : (j : ℕ) (o : Object) → (f j o).signals.waits ≡ o.signals.waits
  same_waits j o = elim (kills j) as (λ b. (killed_if b o).signals.waits ≡ o.signals.waits) [ true ↦ refl | false ↦ refl ]

  stays : (j : ℕ) (o : Object) → Stays o.body (f j o).body
  stays j o = elim (kills j) as (λ b. Stays o.body (killed_if b o).body) [ true ↦ killed_same o.body | false ↦ stays_same o.body ]

  -- what is seen of each object, where the change keeps it
  seen_each : {X : Type 0} (g : Option Object → X) → ((j : ℕ) (o : Object) → g (Some (f j o)) ≡ g (Some o)) → (m : Map Object) (k : ℕ)
      → g (get (each f m) k) ≡ g (get m k)
  seen_each g same m k = ap g (get-each m f k) ∙ by_object (get m k)
    where
      by_object : (o : Option Object) → g (option_map (f k) o) ≡ g o
      by_object None = refl
      by_object (Some o) = same k o

  waits_each : (m : Map Object) (j : ℕ) → waits_at (each f m) j ≡ waits_at m j
  unfolding each
  waits_each [] j = refl
  waits_each (e ∷ m) j =
      let same : waits_for j (f e.0 e.1) ≡ waits_for j e.1 =
      elim (kills e.0) as (λ b. waits_for j (killed_if b e.1) ≡ waits_for j e.1) [ true ↦ refl | false ↦ refl ] in
      omega (
        arith,
        same,
        sum_by-cons (λ (x : ℕ × Object). waits_for j x.1) (e.0, f e.0 e.1) (each f m),
        sum_by-cons (λ (x : ℕ × Object). waits_for j x.1) e m,
        waits_each m j,
      )

  length_each : (m : Map Object) → length (each f m) ≡ length m
  unfolding each
  length_each [] = refl
  length_each (e ∷ m) = ap (λ (n : ℕ). suc n) (length_each m)

  has_each : (m : Map Object) (k : ℕ) → has_key (each f m) k ≡ has_key m k
  has_each = seen_each (λ o. is_some o) (λ j o. refl)

  kind_each : (m : Map Object) (k : ℕ) → kind_here (each f m) k ≡ kind_here m k
  kind_each = seen_each (option_map (λ (o : Object). kind_in o.body)) (λ j o. ap Some (stays j o).kind)

  still : (m : Map Object) (next : ℕ) (b : Body) → HasPeerHere m next b → HasPeerHere (each f m) next b
  still m next b = peer_stays m (each f m) next next b (λ p has. (has.0, λ there. kind_each m p ∙ has.1 (sym (has_each m p) ∙ there)))

  each_whole : (m : Map Object) (next room : ℕ) → IsWhole None m next room → IsWhole None (each f m) next room
  each_whole m next room whole = record {
    below = λ k there. whole.below k (sym (has_each m k) ∙ there);
    peers = λ k o at. by_object k o (get m k) refl (sym (get-each m f k) ∙ at);
    places = places;
    enough = omega (arith, length_each m, whole.enough);
  }
    where
      by_object : (k : ℕ) (o : Object) (q : Option Object) → get m k ≡ q → option_map (f k) (get m k) ≡ Some o → HasPeerHere (each f m) next o.body
      by_object k o None is read = absurd (none-some o (rw is at read))
      by_object k o (Some q) is read =
          subst (λ (x : Object). HasPeerHere (each f m) next x.body) (same_Some (f k q) o (rw is at read))
          (still m next (f k q).body (rw ((stays k q).kind, (stays k q).peer) (whole.peers k q is)))

      places : HavePlaces (each f m)
      places j =
          let reserved : reserved_in (get (each f m) j) ≡ reserved_in (get m j) = seen_each reserved_in (λ i o. (stays i o).reserved) m j in
          omega (arith, waits_each m j, reserved, whole.places j)

  each_kept : {waits : List Listed} (m : Map Object) (next room : ℕ) → IsKept None m next room waits → IsKept None (each f m) next room waits
  each_kept {waits} m next room kept = record {
    whole = each_whole m next room kept.whole;
    listed = same_listed waits m (each f m) (seen_each waits_in (λ j o. same_waits j o) m) kept.listed;
  }

-- a kill
pub killed_kept : {waits : List Listed} (m n : Map Object) (next room task : ℕ) → IsKept None m next room waits → n ≡ all_killed m task
    → IsKept None n next room waits
unfolding all_killed
killed_kept m n next room task kept is = rw is (each_kept (is_within_here m task) m next room kept)
