-- Whether the handles of a statement are those that a checked program declares, and whether its job allows what the program needs.
use Rattle.zl_calls.proofs.Common.{Bool, Entry, Grant, IsTrue, List, Map, None, ObjectValue, Objects, Option, Process, Program, Some, [], action_here, allowed}
use Rattle.zl_calls.proofs.Common.{and-false, and_parts, ap, are_declared, arith, body_in, drop, false, false≢true, get, get_or, get_seen, handle_given}
use Rattle.zl_calls.proofs.Common.{handles_given, has_default_rights, if_default, is_allowing, is_some, job_at, lacks_need, length, list_all, list_any}
use Rattle.zl_calls.proofs.Common.{needs_more, not, option_to_list, refl, suc, sym, true, world_value, zero, ℕ, ◌&&◌, ◌++◌, ◌+◌, ◌<◌, ◌∙◌, ◌∷◌, ◌≡◌, ◌≢◌, ◌≤◌}
use Rattle.zl_code.proofs.Common.{at_drop_more, drop_all}
use Rattle.zl_code.specs.declared.image.Start.{Start}
use Rattle.zl_code.specs.Jobs.{is_declared, is_only_start}
use Rattle.zl_calls.proofs.policy.Policies.{seen_action}

-- ---- handles

-- more are declared than are given, or fewer
miscounted : (ss : List Start) (es : List Entry) → length ss ≢ length es → are_declared ss es ≡ false
miscounted [] [] apart = absurd (apart refl)
miscounted [] (e ∷ es) apart = refl
miscounted (s ∷ ss) [] apart = refl
miscounted (s ∷ ss) (e ∷ es) apart = rw (miscounted ss es (λ same. apart (ap (λ (n : ℕ). suc n) same))) (and-false (is_declared s e))

module _ (objects : Map ObjectValue) where
  -- each of them may be given
  abbrev may_all : List Grant → Bool
  may_all gs = list_all (λ g. is_some (allowed objects g)) gs

  -- a handle that may be given stands before the others
  handle_first : (o : Option Entry) (rest : List Entry) (s : Start) (ss : List Start) → IsTrue (is_some (if_default o))
      → are_declared (s ∷ ss) (option_to_list o ++ rest) ≡ (is_only_start (s ∷ []) (if_default o) && are_declared ss rest)
  handle_first None rest s ss may = absurd (false≢true may)
  handle_first (Some e) rest s ss may = by_test (has_default_rights e) refl may
    where
      by_test : (b : Bool) → has_default_rights e ≡ b → IsTrue (is_some (if_default (Some e)))
          → (is_declared s e && are_declared ss rest) ≡ (is_only_start (s ∷ []) (if_default (Some e)) && are_declared ss rest)
      by_test true is there = rw is refl
      by_test false is there = absurd (false≢true (rw is at there))

  all_given : (gs : List Grant) → IsTrue (may_all gs) → length (handles_given objects gs) ≡ length gs
  all_given [] may = refl
  all_given (g ∷ gs) may =
      by_handle (handle_given g (body_in (get objects g.koid))) (and_parts (is_some (allowed objects g)) _ may).0
      (all_given gs (and_parts (is_some (allowed objects g)) _ may).1)
    where
      by_handle : (o : Option Entry) → IsTrue (is_some (if_default o)) → length (handles_given objects gs) ≡ length gs
          → length (option_to_list o ++ handles_given objects gs) ≡ length (g ∷ gs)
      by_handle None there rest = absurd (false≢true there)
      by_handle (Some e) there rest = ap (λ (n : ℕ). suc n) rest

  one_may : (gs : List Grant) (i : ℕ) (d : Grant) → i < length gs → IsTrue (may_all gs) → IsTrue (is_some (allowed objects (get_or gs i d)))
  one_may [] i d lt may = absurd (omega (arith, lt))
  one_may (g ∷ gs) zero d lt may = (and_parts (is_some (allowed objects g)) _ may).0
  one_may (g ∷ gs) (suc i) d lt may = one_may gs i d (omega (arith, lt)) (and_parts (is_some (allowed objects g)) _ may).1

  pub not_as_many : (ss : List Start) (gs : List Grant) → IsTrue (may_all gs) → length ss ≢ length gs → are_declared ss (handles_given objects gs) ≡ false
  not_as_many ss gs may apart = miscounted ss (handles_given objects gs) (λ same. apart (same ∙ all_given gs may))

  -- from number i on they are those that are declared
  abbrev pub fit_from : List Start → List Grant → ℕ → Bool
  fit_from ss gs i = are_declared (drop i ss) (handles_given objects (drop i gs))

  one_fit : (ss : List Start) (gs : List Grant) (i : ℕ) (s : Start) (g : Grant) → length ss ≡ length gs → i < length gs → IsTrue (may_all gs)
      → fit_from ss gs i ≡ (is_only_start (get_or ss i s ∷ []) (allowed objects (get_or gs i g)) && fit_from ss gs (i + 1))
  one_fit ss gs i s g same lt may =
      at_drop_more (λ (xs : List Start). are_declared xs (handles_given objects (drop i gs))) ss i s (omega (arith, same, lt))
      ∙ (at_drop_more (λ (xs : List Grant). are_declared (get_or ss i s ∷ drop (i + 1) ss) (handles_given objects xs)) gs i g lt
      ∙ handle_first (handle_given (get_or gs i g) (body_in (get objects (get_or gs i g).koid))) (handles_given objects (drop (i + 1) gs)) (get_or ss i s)
      (drop (i + 1) ss) (one_may gs i g lt may))

  module _ (ss : List Start) (gs : List Grant) (i : ℕ) (same : length ss ≡ length gs) (may : IsTrue (may_all gs))
      (so_far : fit_from ss gs i ≡ are_declared ss (handles_given objects gs)) where
    module _ (s : Start) (g : Grant) (lt : i < length gs) where
      pub one_more : is_only_start (get_or ss i s ∷ []) (allowed objects (get_or gs i g)) ≡ true
          → fit_from ss gs (i + 1) ≡ are_declared ss (handles_given objects gs)
      one_more fit = sym (one_fit ss gs i s g same lt may ∙ ap (λ (b : Bool). b && fit_from ss gs (i + 1)) fit) ∙ so_far

      pub one_misfit : is_only_start (get_or ss i s ∷ []) (allowed objects (get_or gs i g)) ≡ false → are_declared ss (handles_given objects gs) ≡ false
      one_misfit misfit = sym so_far ∙ (one_fit ss gs i s g same lt may ∙ ap (λ (b : Bool). b && fit_from ss gs (i + 1)) misfit)

    pub all_fit : length gs ≤ i → are_declared ss (handles_given objects gs) ≡ true
    all_fit past = sym so_far ∙ rw (drop_all i ss (omega (arith, same, past)), drop_all i gs past) refl

-- ---- needs

any_same : {X : Type 0} (f g : X → Bool) (xs : List X) → ((x : X) → f x ≡ g x) → list_any f xs ≡ list_any g xs
any_same f g [] same = refl
any_same f g (x ∷ xs) same = rw (same x, any_same f g xs same) refl

-- what the job's own policy decides is what the definitions see
pub needs_seen : (ps : List Process) (r : Objects) (job : ℕ) (g : Program)
    → lacks_need (world_value ps r) job (Some g) ≡ needs_more (action_here (job_at r.objects job)) (Some g)
needs_seen ps r job g =
    ap (λ (b : Bool). g.checked && b)
    (any_same _ _ g.image.needs (λ c. rw (get_seen r.objects job) (ap (λ a. not (is_allowing a)) (seen_action (get r.objects job) c))))
