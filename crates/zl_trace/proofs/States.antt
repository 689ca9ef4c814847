-- The lines of all processes, one after another.
use Rattle.zl_trace.proofs.Common.{AppendsBeginning, Gathers, IsTrue, List, Machine, Map, None, Option, Process, Some, [], and_parts, ap, arith, below_all}
use Rattle.zl_trace.proofs.Common.{cases_Bool, eq-eqb, eqb-true, flat_map, get, get_or, inl, inr, is_sorted, length, length-map, map, nat_cmp, nat_tests}
use Rattle.zl_trace.proofs.Common.{none-some, refl, same_Some, seen_in, seen_of, slice_get, state_in, state_line, states_of, subst, suc, sym, take, true, zero}
use Rattle.zl_trace.proofs.Common.{ℕ, ◌++◌, ◌+◌, ◌<◌, ◌==◌, ◌∙◌, ◌∷◌, ◌≡◌, ◌≤◌}
use Rattle.zl_code.proofs.Common.{option_map, take_all}
use Rattle.std.specs.Ordering.{is_lt}
use Rattle.std.proofs.lemmas.Option.{slice_get-map, slice_get_within, get_or_from_slice_get}
use Rattle.zl_code.specs.declared.history.ProcState.{ProcState}
use Rattle.zl_trace.proofs.KnownOutput.{gathers_line, begun_line}

module _ {X : Type 0} where
  below_at : (k : ℕ) (m : Map X) (n : ℕ) (e : ℕ × X) → IsTrue (below_all nat_cmp k m) → slice_get m n ≡ Some e → k < e.0
  below_at k [] n e below at = absurd (none-some e at)
  below_at k (y ∷ m) zero e below at =
      let first : IsTrue (is_lt (nat_cmp k y.0)) = (and_parts (is_lt (nat_cmp k y.0)) (below_all nat_cmp k m) below).0 in
      let less : k < y.0 = grind (arith, nat_tests, first) in
      omega (arith, less, ap (λ (z : ℕ × X). z.0) (same_Some y e at))
  below_at k (y ∷ m) (suc n) e below at = below_at k m n e (and_parts (is_lt (nat_cmp k y.0)) (below_all nat_cmp k m) below).1 at

  -- the n-th entry of a map is what stands at its key
  get_at : (m : Map X) (n : ℕ) (e : ℕ × X) → IsTrue (is_sorted nat_cmp m) → slice_get m n ≡ Some e → get m e.0 ≡ Some e.1
  unfolding get
  get_at [] n e sorted at = absurd (none-some e at)
  get_at (x ∷ m) zero e sorted at =
      let is : x ≡ e = same_Some x e at in
      let here : (x.0 == e.0) ≡ true = ap (λ (y : ℕ × X). y.0 == e.0) is ∙ eq-eqb e.0 e.0 refl in
      rw here (ap (λ (y : ℕ × X). Some y.1) is)
  get_at (x ∷ m) (suc n) e sorted at = elim (cases_Bool (x.0 == e.0)) as (λ _. get (x ∷ m) e.0 ≡ Some e.1) [
    | inl here ↦ absurd (omega (arith, eqb-true x.0 e.0 here, below_at x.0 m n e (and_parts (below_all nat_cmp x.0 m) (is_sorted nat_cmp m) sorted).0 at))
    | inr apart ↦ rw apart (get_at m n e (and_parts (below_all nat_cmp x.0 m) (is_sorted nat_cmp m) sorted).1 at)
  ]

abbrev pub line_of : ℕ × ProcState → List ℕ
line_of p = state_line p.0 p.1

-- the n-th process, with what it is in
record IsState (m : Machine) (n pid : ℕ) (st : ProcState) : Type 0 where
  within : n < length (states_of m.world)
  read : get_or (states_of m.world) n (pid, st) ≡ (pid, st)

state_at : (m : Machine) (n pid : ℕ) (st : ProcState) → IsTrue (is_sorted nat_cmp m.world.processes) → Some pid ≡ slice_get (map (λ p. p.0) m.world.processes) n
    → st ≡ state_in m pid → IsState m n pid st
state_at m n pid st sorted at is = by_entry (slice_get m.world.processes n) refl
  where
    by_entry : (o : Option (ℕ × Process)) → slice_get m.world.processes n ≡ o → IsState m n pid st
    by_entry None none =
        absurd (none-some pid (sym (at ∙ (slice_get-map (λ (p : ℕ × Process). p.0) m.world.processes n ∙ ap (option_map (λ (p : ℕ × Process). p.0)) none))))
    by_entry (Some e) some =
        let key : pid ≡ e.0 =
        same_Some pid e.0 (at ∙ (slice_get-map (λ (p : ℕ × Process). p.0) m.world.processes n ∙ ap (option_map (λ (p : ℕ × Process). p.0)) some)) in
        let state : st ≡ seen_in e.1.state =
        is ∙ (ap (λ (k : ℕ). seen_of (get m.world.processes k)) key ∙ ap seen_of (get_at m.world.processes n e sorted some)) in
        let there : slice_get (states_of m.world) n ≡ Some (e.0, seen_in e.1.state) =
        slice_get-map (λ (p : ℕ × Process). (p.0, seen_in p.1.state)) m.world.processes n
        ∙ ap (option_map (λ (p : ℕ × Process). (p.0, seen_in p.1.state))) some in
        record {
          within = slice_get_within (states_of m.world) n (e.0, seen_in e.1.state) there;
          read = get_or_from_slice_get (states_of m.world) n (e.0, seen_in e.1.state) (pid, st) there ∙ (λ i. (sym key i, sym state i));
        }

module _ (m : Machine) (n pid : ℕ) (st : ProcState) (sorted : IsTrue (is_sorted nat_cmp m.world.processes))
    (at : Some pid ≡ slice_get (map (λ p. p.0) m.world.processes) n) (is : st ≡ state_in m pid)
    (a c e : Option (List ℕ)) (b d : List ℕ) (so_far : Gathers a b c d (flat_map line_of (take n (states_of m.world)))) where
  here : IsState m n pid st
  here = state_at m n pid st sorted at is

  pub one_more_state : (after : List ℕ) → Gathers c d e after (state_line pid st) → Gathers a b e after (flat_map line_of (take (n + 1) (states_of m.world)))
  one_more_state after g =
      gathers_line line_of (states_of m.world) n (pid, st) a c e b d after here.within so_far
      (subst (λ (p : ℕ × ProcState). Gathers c d e after (line_of p)) (sym here.read) g)

  pub begun_state : AppendsBeginning c e (d ++ state_line pid st) → AppendsBeginning a e (b ++ flat_map line_of (states_of m.world))
  begun_state g =
      begun_line line_of (states_of m.world) n (pid, st) a c e b d here.within so_far
      (subst (λ (p : ℕ × ProcState). AppendsBeginning c e (d ++ line_of p)) (sym here.read) g)

module _ (m : Machine) (n : ℕ) (a c : Option (List ℕ)) (b d : List ℕ) (so_far : Gathers a b c d (flat_map line_of (take n (states_of m.world)))) where
  pub all_states : length m.world.processes ≤ n → Gathers a b c d (flat_map line_of (states_of m.world))
  all_states past =
      subst (λ (xs : List (ℕ × ProcState)). Gathers a b c d (flat_map line_of xs))
      (take_all n (states_of m.world) (omega (arith, past, length-map {B = ℕ × ProcState} m.world.processes (λ p. (p.0, seen_in p.1.state))))) so_far
