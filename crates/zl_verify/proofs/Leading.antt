-- Where the instructions of a typing lead, from the edges that the code hands out.
use Rattle.zl_verify.proofs.Common.{AreTargets, Bool, Cause, Err, Image, IsPacked, List, None, Ok, Option, Result, Some, State, Targets, [], ap, arith, at}
use Rattle.zl_verify.proofs.Common.{call_at, cond_both, false, flows, if◌then◌else◌, inl, inner, inner_of, inr, is_pause, known, known_by, leads, leads_by}
use Rattle.zl_verify.proofs.Common.{length, length-set, map, option_to_list, passed_on, places, places_at, places_by, refl, rule, slice_get, slice_set}
use Rattle.zl_verify.proofs.Common.{states_of, subst, suc, sym, true, unless_pause, ℕ, ◌++◌, ◌+◌, ◌<◌, ◌∙◌, ◌≡◌, ◌≤◌, ◌⊎◌}
use Rattle.zl_abs.specs.declared.steps.Step.{Step}
use Rattle.zl_abs.specs.declared.steps.Steps.{Steps}
use Rattle.zl_abs.specs.Rule.{Edge as Lead}
use Rattle.zl_abs.specs.Changes.{step_in}
use Rattle.zl_verify.specs.Lists.{within}
use Rattle.zl_verify.specs.Leading.{flow_in, target_in}
use Rattle.zl_verify.proofs.Places.{below_or_not, get_past, set_by}
use Rattle.zl_verify.proofs.Filling.{length_listed, at_listed}

-- ---- one instruction

ends : (t : State) (x y : Option Step) → option_to_list (target_in x) ++ option_to_list (target_in y) ≡ map (λ e. e.0) (step_in t x ++ step_in t y)
ends t None None = refl
ends t None (Some y) = refl
ends t (Some x) None = refl
ends t (Some x) (Some y) = refl

by_pause : (b : Bool) (ns : List ℕ) → unless_pause b ns ≡ (if b then [] else ns)
by_pause true ns = refl
by_pause false ns = refl

pub leads_told : (i : Image) (n : ℕ) (s t : State) (x : Steps) → Ok (step_in t x.jump ++ step_in t x.next) ≡ rule i n s
    → unless_pause (is_pause (call_at i n)) (option_to_list (target_in x.jump) ++ option_to_list (target_in x.next)) ≡ leads_by i n (Some s)
leads_told i n s t x h = rw (← h) (rw (ends t x.jump x.next) (by_pause (is_pause (call_at i n)) (map (λ e. e.0) (step_in t x.jump ++ step_in t x.next))))

pub leads_nowhere : (i : Image) (n : ℕ) (s : State) (c : Cause) → Err c ≡ rule i n s → [] ≡ leads_by i n (Some s)
leads_nowhere i n s c h = rw (← h) (cond_both {A = List ℕ} (is_pause (call_at i n)) [] [] (λ l. [] ≡ l) (λ _. refl) (λ _. refl))

pub inner_told : (numbers : List (Option ℕ)) (o : Option State) (t : State) (x : Steps) (r : Result (List Lead) Cause)
    → Ok (step_in t x.jump ++ step_in t x.next) ≡ r → o ≡ inner numbers (step_in t x.jump ++ step_in t x.next) → o ≡ inner_of numbers r
inner_told numbers o t x r h k = k ∙ ap (inner_of numbers) h

pub inner_none : (numbers : List (Option ℕ)) (c : Cause) (r : Result (List Lead) Cause) → Err c ≡ r → None ≡ inner_of numbers r
inner_none numbers c r h = ap (inner_of numbers) h

-- ---- one instruction after another

-- what holds before this instruction is looked at, where the state that flows to it is this, if it is there
pub record Flowing (i : Image) (numbers : List (Option ℕ)) (kept : List (Option State)) (targets : List Targets) (there : Bool) (s : State)
    (p : ℕ) : Type 0 where
  pub long : length targets ≡ length i.code
  pub same : (n : ℕ) → n < p → places_at targets n ≡ leads_by i n (known i numbers kept n)
  pub packed : (n : ℕ) → n < p → IsPacked (slice_get targets n)
  pub flow : flow_in there s ≡ flows i numbers kept p

pub flow_begins : (i : Image) (numbers : List (Option ℕ)) (kept : List (Option State)) (targets : List Targets) (s : State) → length targets ≡ length i.code
    → Flowing i numbers kept targets false s 0
unfolding flows
flow_begins i numbers kept targets s h = record { long = h; same = λ n k. absurd (omega arith); packed = λ n k. absurd (omega arith); flow = refl }

pub flow_more : (i : Image) (numbers : List (Option ℕ)) (kept : List (Option State)) (targets : List Targets) (b : Bool) (s : State) (p : ℕ)
    → Flowing i numbers kept targets b s p → p < length i.code
    → (b2 : Bool) (s2 : State) → flow_in b2 s2 ≡ known_by kept (flow_in b s) (at numbers p) → (x : Targets) → places x ≡ leads_by i p (flow_in b2 s2)
    → IsPacked (Some x) → (b3 : Bool) (s3 : State) → flow_in b3 s3 ≡ passed_on i numbers p (flow_in b2 s2)
    → Flowing i numbers kept (slice_set targets p x) b3 s3 (p + 1)
unfolding flows
flow_more i numbers kept targets b s p a inside b2 s2 known_is x places_are packed b3 s3 passed_is = record {
  long = length-set targets p x ∙ a.long;
  same = set_by targets p x places_by (λ n ms. n < p + 1 → ms ≡ leads_by i n (known i numbers kept n)) (omega (arith, a.long))
      (λ h. places_are ∙ ap (leads_by i p) there) (λ n d h. a.same n (omega arith));
  packed =
      set_by targets p x (λ o. o) (λ n o. n < p + 1 → IsPacked o) (omega (arith, a.long)) (λ h. packed) (λ n d h. a.packed n (omega arith));
  flow = passed_is ∙ (ap (passed_on i numbers p) there ∙ behind);
}
  where
    there : flow_in b2 s2 ≡ known i numbers kept p
    there = known_is ∙ ap (λ o. known_by kept o (at numbers p)) a.flow

    behind : passed_on i numbers p (known i numbers kept p) ≡ flows i numbers kept (p + 1)
    behind = let e : p + 1 ≡ suc p = omega arith in subst (λ (m : ℕ). passed_on i numbers p (known i numbers kept p) ≡ flows i numbers kept m) (sym e) refl

pub flow_ends : (i : Image) (numbers : List (Option ℕ)) (kept : List (Option State)) (targets : List Targets) (b : Bool) (s : State) (p : ℕ)
    → Flowing i numbers kept targets b s p → length i.code ≤ p → AreTargets i (states_of i numbers kept) targets
flow_ends i numbers kept targets b s p a past = record {
  long = a.long ∙ sym (length_listed (length i.code) (known i numbers kept));
  same = λ n. same n (below_or_not n (length i.code));
  packed = λ n. elim (below_or_not n (length i.code)) [
    | inl h ↦ a.packed n (omega arith)
    | inr h ↦ (let e : slice_get targets n ≡ None = get_past targets n (omega (arith, a.long)) in rw e tt)
  ];
}
  where
    same : (n : ℕ) → (n < length i.code) ⊎ (length i.code ≤ n) → places_at targets n ≡ leads i (at (states_of i numbers kept)) n
    same n (inl h) = a.same n (omega arith) ∙ ap (leads_by i n) (sym (at_listed (length i.code) (known i numbers kept) n h))
    same n (inr h) =
        let e : slice_get targets n ≡ None = get_past targets n (omega (arith, a.long)) in
        let f : at (states_of i numbers kept) n ≡ None =
        ap within (get_past (states_of i numbers kept) n (omega (arith, length_listed (length i.code) (known i numbers kept)))) in
        ap places_by e ∙ ap (leads_by i n) (sym f)
