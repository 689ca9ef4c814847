-- Each process has begun but perhaps those at some places: so it stays, as none becomes unstarted that was made before.
use Rattle.zl_calls.proofs.Common.{Acted, Action, ActsHere, All, All-head, All-tail, Bool, ClosesEnded, EndsBy, HasBegun, HaveBegunBut, IfNone, IfSome}
use Rattle.zl_calls.proofs.Common.{IsSome, List, None, Objects, Option, Outcome, Policed, Process, Site, Some, State, Verdict, ℕ, [], action_asked, answers}
use Rattle.zl_calls.proofs.Common.{ap, arith, awake, cases_Bool, ended_if, ended_within, eq-eqb, eqb-true, exits, false, false≢true, filter, get_or}
use Rattle.zl_calls.proofs.Common.{get_put_other, has_key, inl, inr, is_created, is_over, is_unstarted, is_within_here, left_beside, left_state, length}
use Rattle.zl_calls.proofs.Common.{list_any-append, lives, lives_on, map, none-some, or_parts, reaches, refl, same_Some, set, slice_get, state_value, subst}
use Rattle.zl_calls.proofs.Common.{suc, sym, true, waits, zero, ◌&&◌, ◌++◌, ◌==◌, ◌||◌, ◌∙◌, ◌∷◌, ◌≡◌, ◌⊎◌}
use Rattle.std.proofs.lemmas.Map.Views.{any-filter_same}
use Rattle.zl_objects.specs.Below.{is_one_of}
use Rattle.zl_calls.specs.Makes.{IsFresh}
use Rattle.zl_calls.specs.declared.policy.Verdict.TheVariants as verdict
use Rattle.zl_calls.specs.declared.process.State.TheVariants as state

-- ---- lists

there_again : (p p2 x : Process) (ps : List Process) (place : ℕ) → p ≡ get_or ps place p → slice_get (set ps place p2) place ≡ Some x
    → (x ≡ p2) × (slice_get ps place ≡ Some p)
there_again p p2 x [] place read at = absurd (none-some x at)
there_again p p2 x (y ∷ ps) zero read at = (sym (same_Some p2 x at), ap (λ (q : Process). Some q) (sym read))
there_again p p2 x (y ∷ ps) (suc place) read at = there_again p p2 x ps place read at

-- what stands at a place, where one that was read was changed
pub read_back : (p p2 x : Process) (ps : List Process) (place n : ℕ) → p ≡ get_or ps place p → slice_get (set ps place p2) n ≡ Some x
    → ((x ≡ p2) × (slice_get ps n ≡ Some p)) ⊎ (((place == n) ≡ false) × (slice_get ps n ≡ Some x))
read_back p p2 x ps place n read at =
    elim (cases_Bool (place == n)) as (λ _. ((x ≡ p2) × (slice_get ps n ≡ Some p)) ⊎ (((place == n) ≡ false) × (slice_get ps n ≡ Some x))) [
      | inl here ↦
          let is : place ≡ n = eqb-true place n here in
          let again = there_again p p2 x ps place read (ap (slice_get (set ps place p2)) is ∙ at) in
          inl (again.0, ap (slice_get ps) (sym is) ∙ again.1)
      | inr apart ↦ inr (apart, sym (get_put_other ps place n p2 (λ is. false≢true (sym apart ∙ eq-eqb place n is))) ∙ at)
    ]

pub set_started : (p p2 : Process) → (HasBegun p → HasBegun p2) → (ps : List Process) (place : ℕ) → p ≡ get_or ps place p → (places : List ℕ)
    → HaveBegunBut places ps → HaveBegunBut places (set ps place p2)
set_started p p2 stays ps place read places begun n x at other = elim (read_back p p2 x ps place n read at) as (λ _. HasBegun x) [
  | inl here ↦ subst HasBegun (sym here.0) (stays (begun n p here.1 other))
  | inr apart ↦ begun n x apart.1 other
]

pushed_at : (q x : Process) (ps : List Process) (n : ℕ) → slice_get (ps ++ (q ∷ [])) n ≡ Some x → (slice_get ps n ≡ Some x) ⊎ (length ps ≡ n)
pushed_at q x [] zero at = inr refl
pushed_at q x [] (suc n) at = absurd (none-some x at)
pushed_at q x (y ∷ ps) zero at = inl at
pushed_at q x (y ∷ ps) (suc n) at = elim (pushed_at q x ps n at) as (λ _. (slice_get ps n ≡ Some x) ⊎ (length (y ∷ ps) ≡ suc n)) [
  | inl before ↦ inl before
  | inr here ↦ inr (ap suc here)
]

-- one more comes behind the others, whose place is listed
pub pushed_started : (q : Process) (ps : List Process) (places : List ℕ) → HaveBegunBut places ps
    → HaveBegunBut (places ++ (length ps ∷ [])) (ps ++ (q ∷ []))
pushed_started q ps places begun n x at other =
    let parts = or_parts (is_one_of n places) (is_one_of n (length ps ∷ [])) (sym (list_any-append (λ k. k == n) places (length ps ∷ [])) ∙ other) in
    elim (pushed_at q x ps n at) as (λ _. HasBegun x) [
      | inl before ↦ begun n x before parts.0
      | inr here ↦ absurd (false≢true (sym (or_parts (length ps == n) false parts.1).0 ∙ eq-eqb (length ps) n here))
    ]

mapped_at : (f : Process → Process) (x : Process) (ps : List Process) (n : ℕ) → slice_get (map f ps) n ≡ Some x
    → (y : Process) × (slice_get ps n ≡ Some y) × (x ≡ f y)
mapped_at f x [] n at = absurd (none-some x at)
mapped_at f x (y ∷ ps) zero at = (y, refl, sym (same_Some (f y) x at))
mapped_at f x (y ∷ ps) (suc n) at = mapped_at f x ps n at

pub map_started : (f : Process → Process) → ((q : Process) → HasBegun q → HasBegun (f q)) → (ps : List Process) (places : List ℕ)
    → HaveBegunBut places ps → HaveBegunBut places (map f ps)
map_started f stays ps places begun n x at other =
    let was = mapped_at f x ps n at in subst HasBegun (sym was.2) (stays was.0 (begun n was.0 was.1 other))

-- those places can go at which no process is unstarted
pub kept_started : (ps : List Process) (places : List ℕ) → HaveBegunBut places ps → HaveBegunBut (filter (λ n. is_unstarted (slice_get ps n)) places) ps
kept_started ps places begun n x at other = elim (cases_Bool (is_created (state_value x.state))) as (λ _. HasBegun x) [
  | inl new ↦
      let stays : (k : ℕ) → (k == n) ≡ true → is_unstarted (slice_get ps k) ≡ true =
      λ k here. ap (λ (m : ℕ). is_unstarted (slice_get ps m)) (eqb-true k n here) ∙ (ap is_unstarted at ∙ new) in
      begun n x at (sym (any-filter_same (λ k. k == n) (λ k. is_unstarted (slice_get ps k)) true stays places) ∙ other)
  | inr started ↦ started
]

-- none of those that are ready
pub fresh_started : (ps : List Process) → All IsFresh ps → HaveBegunBut [] ps
fresh_started [] fresh n x at other = absurd (none-some x at)
fresh_started (p ∷ ps) fresh zero x at other =
    subst HasBegun (same_Some p x at) (ap is_created (All-head IsFresh p ps fresh).ready)
fresh_started (p ∷ ps) fresh (suc n) x at other = fresh_started ps (All-tail IsFresh p ps fresh) n x at other

-- ---- kills

pub ended_started : (r : Objects) (task : ℕ) (q : Process) → HasBegun q → HasBegun (ended_within r task q)
ended_started r task q started = by (lives (state_value q.state) && is_within_here r.objects task q.pid)
  where
    by : (b : Bool) → HasBegun (ended_if b q)
    by true = refl
    by false = started

pub closed_started : (p p2 : Process) (r r2 : Objects) → ClosesEnded p r p2 r2 → HasBegun p → HasBegun p2
closed_started _ _ _ _ (lives_on p r lives) started = started
closed_started _ _ _ _ (is_over p p2 r r2 over same none no_last drains ends) started = ap (λ (q : Process). is_created (state_value q.state)) same ∙ started

-- ---- calls

module _ (p p2 : Process) (r r2 : Objects) (o : Outcome) (started : HasBegun p) where
  by_action : (action : Action) (s : Site) → ActsHere action s p r o p2 r2 → HasBegun p2
  by_action (answers A told Does) s acts = ap (λ (q : Process). is_created (state_value q.state)) acts.replied ∙ started
  by_action (waits A told Does Awaits) s (inl answered) = ap (λ (q : Process). is_created (state_value q.state)) answered.replied ∙ started
  by_action (waits A told Does Awaits) s (inr blocks) = ap is_created blocks.state
  by_action (exits code) s acts = ap (λ (q : Process). is_created (state_value q.state)) acts.over.process
  by_action reaches s acts = absurd acts

  pub acted_started : (at : Option Site) → Acted at p r o p2 r2 → HasBegun p2
  acted_started None acts = absurd acts
  acted_started (Some s) acts = by_action (action_asked p.pid s.request) s acts

  policed_started : (s : Site) → Policed s p r o p2 r2 → HasBegun p2
  policed_started s judged = by_verdict judged.verdict judged.ends
    where
      by_verdict : (v : Verdict) → EndsBy v s p r o p2 r2 → HasBegun p2
      by_verdict verdict.Denied ends = ap (λ (q : Process). is_created (state_value q.state)) ends.replied ∙ started
      by_verdict verdict.Killed ends = ap (λ (q : Process). is_created (state_value q.state)) ends.over.process

-- a policy says something of the call, or else nothing has changed
pub judged_started : (p p2 : Process) (r r2 : Objects) (at : Option Site) → IsSome at → (o : Option Outcome)
    → IfSome o (λ x. IfSome at (λ s. Policed s p r x p2 r2)) → IfNone o (p2 ≡ p) → HasBegun p → HasBegun p2
judged_started p p2 r r2 at there None ends same started = subst HasBegun (sym same) started
judged_started p p2 r r2 None none (Some x) ends same started = absurd (elim (false≢true none) [ ])
judged_started p p2 r r2 (Some s) there (Some x) ends same started = policed_started p p2 r r2 x started s ends

-- ---- those that wake

pub awake_started : (given : Option (List ℕ)) (p : Process) → HasBegun p → HasBegun (awake given p)
awake_started None p started = started
awake_started (Some values) p started = refl

-- ---- those that go with their objects

left_started : (there : Bool) (s : State) → is_created (state_value s) ≡ false → left_state there s ≡ s
left_started there state.Created started = absurd (false≢true (sym started))
left_started there _ started = refl

-- a process that is started stays as it is
pub left_alone : (r : Objects) (q : Process) → HasBegun q → left_beside r.objects q ≡ q
left_alone r q started = ap (λ (s : State). record q { state = s }) (left_started _ q.state started)

pub left_twice : (r : Objects) (q : Process) → left_beside r.objects (left_beside r.objects q) ≡ left_beside r.objects q
left_twice r q = ap (λ (s : State). record q { state = s }) (by (has_key r.objects q.pid) q.state)
  where
    by : (there : Bool) (s : State) → left_state there (left_state there s) ≡ left_state there s
    by true state.Created = refl
    by false state.Created = refl
    by there _ = refl

-- all stay as they are, if each does
each_stays : (f : Process → Process) (ps : List Process) → ((n : ℕ) (p : Process) → slice_get ps n ≡ Some p → f p ≡ p) → map f ps ≡ ps
each_stays f [] stays = refl
each_stays f (p ∷ ps) stays = λ i. stays 0 p refl i ∷ each_stays f ps (λ n. stays (suc n)) i

pub all_left_alone : (r : Objects) (ps : List Process) (places : List ℕ) → length places ≡ 0 → HaveBegunBut places ps → map (left_beside r.objects) ps ≡ ps
all_left_alone r ps [] none begun = each_stays (left_beside r.objects) ps (λ n p at. left_alone r p (begun n p at refl))
all_left_alone r ps (k ∷ places) some begun = absurd (omega (arith, some))

pub left_started_too : (r : Objects) (q : Process) → HasBegun q → HasBegun (left_beside r.objects q)
left_started_too r q started = subst HasBegun (sym (left_alone r q started)) started

-- ---- one place after another

-- just those at these places are left to go with their objects
pub record IsLeaving (r : Objects) (before now : List Process) (places : List ℕ) : Type 0 where
  pub same : map (left_beside r.objects) now ≡ map (left_beside r.objects) before
  pub others : (n : ℕ) (p : Process) → slice_get now n ≡ Some p → is_one_of n places ≡ false → left_beside r.objects p ≡ p

module _ (r : Objects) (before now : List Process) where
  pub none_leaving : (places : List ℕ) → HaveBegunBut places before → IsLeaving r before before places
  none_leaving places begun = record { same = refl; others = λ n p at other. left_alone r p (begun n p at other) }

  module _ (place : ℕ) (places : List ℕ) (so_far : IsLeaving r before now (place ∷ places)) where
    pub one_leaving : (p p2 : Process) → p ≡ get_or now place p → p2 ≡ left_beside r.objects p → IsLeaving r before (set now place p2) places
    one_leaving p p2 read left = record {
      same = alike now place read ∙ so_far.same;
      others = λ n x at other. elim (read_back p p2 x now place n read at) as (λ _. left_beside r.objects x ≡ x) [
        | inl here ↦ subst (λ (q : Process). left_beside r.objects q ≡ q) (sym here.0) twice
        | inr apart ↦ so_far.others n x apart.1 (ap (λ (b : Bool). b || is_one_of n places) apart.0 ∙ other)
      ];
    }
      where
        twice : left_beside r.objects p2 ≡ p2
        twice = ap (left_beside r.objects) left ∙ (left_twice r p ∙ sym left)

        alike : (ps : List Process) (place : ℕ) → p ≡ get_or ps place p → map (left_beside r.objects) (set ps place p2) ≡ map (left_beside r.objects) ps
        alike [] place read = refl
        alike (x ∷ ps) zero read = ap (λ (q : Process). q ∷ map (left_beside r.objects) ps) (twice ∙ (left ∙ ap (left_beside r.objects) read))
        alike (x ∷ ps) (suc place) read = ap (λ (qs : List Process). left_beside r.objects x ∷ qs) (alike ps place read)

    -- nobody stands there
    pub none_there : slice_get now place ≡ None → IsLeaving r before now places
    none_there none = record {
      same = so_far.same;
      others = λ n x at other. elim (cases_Bool (place == n)) as (λ _. left_beside r.objects x ≡ x) [
        | inl here ↦ absurd (none-some x (sym none ∙ (ap (slice_get now) (eqb-true place n here) ∙ at)))
        | inr apart ↦ so_far.others n x at (ap (λ (b : Bool). b || is_one_of n places) apart ∙ other)
      ];
    }

  pub all_leaving : (places : List ℕ) → places ≡ [] → IsLeaving r before now places → now ≡ map (left_beside r.objects) before
  all_leaving places none so_far =
      sym (each_stays (left_beside r.objects) now (λ n p at. so_far.others n p at (ap (is_one_of n) none))) ∙ so_far.same
