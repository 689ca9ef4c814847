-- What each process is in, read one after another.
use Rattle.zl_code.proofs.Common.{IsTrue, Map, None, Option, Process, Some, [], and_parts, ap, arith, below_all, cases_Bool, eq-eqb, eqb-true, get, inl, inr}
use Rattle.zl_code.proofs.Common.{is_sorted, length, length-map, map, nat_cmp, nat_tests, none-some, option_map, refl, same_Some, slice_get, sym}
use Rattle.zl_code.proofs.Common.{take, take_all}
use Rattle.zl_code.proofs.Common.{true, zero, suc, ℕ, ◌++◌, ◌+◌, ◌<◌, ◌==◌, ◌∙◌, ◌∷◌, ◌≡◌, ◌≤◌}
use Rattle.std.specs.Ordering.{is_lt}
use Rattle.std.proofs.lemmas.List.{take_more}
use Rattle.std.proofs.lemmas.Option.{get_or_from_slice_get, slice_get-map, slice_get_within}
use Rattle.zl_code.specs.declared.history.ProcState.{ProcState}
use Rattle.zl_calls.specs.World.{Machine, own_here, seen_in, seen_of, state_in}
use Rattle.zl_explore.specs.Orders.{told_in}

module _ {X : Type 0} where
  below_at : (k : ℕ) (m : Map X) (n : ℕ) (e : ℕ × X) → IsTrue (below_all nat_cmp k m) → slice_get m n ≡ Some e → k < e.0
  below_at k [] n e below at = absurd (none-some e at)
  below_at k (y ∷ m) zero e below at =
      let first : IsTrue (is_lt (nat_cmp k y.0)) = (and_parts (is_lt (nat_cmp k y.0)) (below_all nat_cmp k m) below).0 in
      let less : k < y.0 = grind (arith, nat_tests, first) in
      omega (arith, less, ap (λ (z : ℕ × X). z.0) (same_Some y e at))
  below_at k (y ∷ m) (suc n) e below at = below_at k m n e (and_parts (is_lt (nat_cmp k y.0)) (below_all nat_cmp k m) below).1 at

  -- the n-th entry of a map is what stands at its key
  pub get_at : (m : Map X) (n : ℕ) (e : ℕ × X) → IsTrue (is_sorted nat_cmp m) → slice_get m n ≡ Some e → get m e.0 ≡ Some e.1
  unfolding get
  get_at [] n e sorted at = absurd (none-some e at)
  get_at (x ∷ m) zero e sorted at =
      let is : x ≡ e = same_Some x e at in
      let here : (x.0 == e.0) ≡ true = ap (λ (y : ℕ × X). y.0 == e.0) is ∙ eq-eqb e.0 e.0 refl in
      rw here (ap (λ (y : ℕ × X). Some y.1) is)
  get_at (x ∷ m) (suc n) e sorted at = elim (cases_Bool (x.0 == e.0)) as (λ _. get (x ∷ m) e.0 ≡ Some e.1) [
    | inl here ↦ absurd (omega (arith, eqb-true x.0 e.0 here, below_at x.0 m n e (and_parts (below_all nat_cmp x.0 m) (is_sorted nat_cmp m) sorted).0 at))
    | inr apart ↦ rw apart (get_at m n e (and_parts (below_all nat_cmp x.0 m) (is_sorted nat_cmp m) sorted).1 at)
  ]

module _ (m : Machine) (n pid : ℕ) (st : ProcState) (sorted : IsTrue (is_sorted nat_cmp m.world.processes))
    (at : Some pid ≡ slice_get (map (λ p. p.0) m.world.processes) n) (is : st ≡ state_in m pid) where
  -- the n-th process is in what is seen of it
  told_at : slice_get (told_in (own_here m)) n ≡ Some (pid, st)
  told_at = by_entry (slice_get m.world.processes n) refl
    where
      by_entry : (found : Option (ℕ × Process)) → slice_get m.world.processes n ≡ found → slice_get (told_in (own_here m)) n ≡ Some (pid, st)
      by_entry None none =
          absurd (none-some pid (sym (at ∙ (slice_get-map (λ (p : ℕ × Process). p.0) m.world.processes n ∙ ap (option_map (λ (p : ℕ × Process). p.0)) none))))
      by_entry (Some e) some =
          let key : pid ≡ e.0 =
          same_Some pid e.0 (at ∙ (slice_get-map (λ (p : ℕ × Process). p.0) m.world.processes n ∙ ap (option_map (λ (p : ℕ × Process). p.0)) some)) in
          let state : st ≡ seen_in e.1.state =
          is ∙ (ap (λ (k : ℕ). seen_of (get m.world.processes k)) key ∙ ap seen_of (get_at m.world.processes n e sorted some)) in
          slice_get-map (λ (p : ℕ × Process). (p.0, seen_in p.1.state)) m.world.processes n
          ∙ (ap (option_map (λ (p : ℕ × Process). (p.0, seen_in p.1.state))) some ∙ λ i. Some (sym key i, sym state i))

  -- it comes behind those before it
  pub one_more : take (n + 1) (told_in (own_here m)) ≡ take n (told_in (own_here m)) ++ ((pid, st) ∷ [])
  one_more =
      let within : n < length (told_in (own_here m)) = slice_get_within (told_in (own_here m)) n (pid, st) told_at in
      take_more (told_in (own_here m)) n (pid, st) within
      ∙ ap (λ (x : ℕ × ProcState). take n (told_in (own_here m)) ++ (x ∷ [])) (get_or_from_slice_get (told_in (own_here m)) n (pid, st) (pid, st) told_at)

-- all of them
pub all_told : (m : Machine) (n : ℕ) → length m.world.processes ≤ n → take n (told_in (own_here m)) ≡ told_in (own_here m)
all_told m n past =
    take_all n (told_in (own_here m)) (omega (arith, past, length-map {B = ℕ × ProcState} m.world.processes (λ p. (p.0, seen_in p.1.state))))
