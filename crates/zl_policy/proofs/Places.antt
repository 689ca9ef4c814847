-- A row of places and the policy that is set in it.
use Rattle.zl_rights.proofs.Common.{◌≡◌, ℕ, zero, suc, ◌+◌, ◌<◌, ◌||◌, Bool, true, false, not, is_empty, List, [], ◌∷◌, length, map, get_or, slice_set, refl}
use Rattle.zl_rights.proofs.Common.{sym, ap, ◌∙◌, arith, eq-eqb, nat_tests, ne_eqb, Option, Some, None, is_some, list_any, Map, get, put}
use Rattle.std.proofs.lemmas.List.{get_or_default, same_lists}
use Rattle.zl_rights.specs.declared.policy.Action.{Action}
use Rattle.zl_policy.specs.Policies.{actions_from, with_unset}

-- ---- a row of places

-- nothing is set below the first place
below : (n k : ℕ) (places : List (Option Action)) → k < n → get (actions_from n places) k ≡ None
unfolding get actions_from
below n k [] lower = refl
below n k (None ∷ places) lower = below (n + 1) k places (omega (arith, lower))
below n k (Some a ∷ places) lower = grind (arith, nat_tests, below (n + 1) k places, lower)

-- what is set is what stands in the place
set_from_at : (n k j : ℕ) (places : List (Option Action)) → j ≡ n + k → get (actions_from n places) j ≡ get_or places k None
unfolding get actions_from
set_from_at n k j [] is = refl
set_from_at n zero j (None ∷ places) is = below (n + 1) j places (omega (arith, is))
set_from_at n zero j (Some a ∷ places) is = rw (eq-eqb n j (omega (arith, is))) refl
set_from_at n (suc k) j (None ∷ places) is = set_from_at (n + 1) k j places (omega (arith, is))
set_from_at n (suc k) j (Some a ∷ places) is =
    rw (ne_eqb n j (λ same. omega (arith, is, same))) (set_from_at (n + 1) k j places (omega (arith, is)))

-- a condition before the row goes first
put_first : (n j : ℕ) (a : Action) (places : List (Option Action)) → j < n → put (actions_from n places) j a ≡ (j, a) ∷ actions_from n places
unfolding put actions_from
put_first n j a [] lower = refl
put_first n j a (None ∷ places) lower = put_first (n + 1) j a places (omega (arith, lower))
put_first n j a (Some b ∷ places) lower = grind (arith, nat_tests, lower)

-- one place more is set
put_from : (n k j : ℕ) (a : Action) (places : List (Option Action)) → j ≡ n + k → k < length places → get_or places k None ≡ None
    → put (actions_from n places) j a ≡ actions_from n (slice_set places k (Some a))
unfolding put actions_from
put_from n k j a [] is within unset = absurd (omega (arith, within))
put_from n zero j a (None ∷ places) is within unset =
    let here : j ≡ n = omega (arith, is) in
    rw here (put_first (n + 1) n a places (omega arith))
put_from n zero j a (Some b ∷ places) is within unset = cc
put_from n (suc k) j a (None ∷ places) is within unset = put_from (n + 1) k j a places (omega (arith, is)) (omega (arith, within)) unset
put_from n (suc k) j a (Some b ∷ places) is within unset =
    let rest = put_from (n + 1) k j a places (omega (arith, is)) (omega (arith, within)) unset in
    grind (arith, nat_tests, is, rest)

pub set_at : (k : ℕ) (places : List (Option Action)) → get (actions_from 0 places) k ≡ get_or places k None
set_at k places = set_from_at 0 k k places (omega arith)

-- the place of the condition is written
pub set_more : (k : ℕ) (a : Action) (places : List (Option Action)) → k < length places → is_some (get (actions_from 0 places) k) ≡ false
    → actions_from 0 (slice_set places k (Some a)) ≡ with_unset a (actions_from 0 places) k
unfolding with_unset
set_more k a places within unset =
    rw unset (sym (put_from 0 k k a places (omega arith) within (sym (set_at k places) ∙ none (get (actions_from 0 places) k) unset)))
  where
    none : (o : Option Action) → is_some o ≡ false → o ≡ None
    none None h = refl
    none (Some a) h = cc

-- what is set stays
pub set_same : (k : ℕ) (a : Action) (policy : Map Action) → is_some (get policy k) ≡ true → policy ≡ with_unset a policy k
unfolding with_unset
set_same k a policy there = rw there refl

-- ---- what one condition stands for

-- a test of numbers over the conditions that have them
pub any_numbered : {A : Type 0} (number : A → ℕ) (test : ℕ → Bool) (cs : List A) → list_any (λ c. test (number c)) cs ≡ list_any test (map number cs)
any_numbered number test [] = refl
any_numbered number test (c ∷ cs) = ap (λ b. test (number c) || b) (any_numbered number test cs)

-- ---- the whole row

-- an action stands in one of the places just where something is set
pub any_set : (n : ℕ) (places : List (Option Action)) → list_any (λ a. is_some a) places ≡ not (is_empty (actions_from n places))
unfolding actions_from
any_set n [] = refl
any_set n (None ∷ places) = any_set (n + 1) places
any_set n (Some a ∷ places) = refl

-- rows of one length in which the same is set are the same
pub same_rows : (ps qs : List (Option Action)) → length ps ≡ length qs → actions_from 0 ps ≡ actions_from 0 qs → ps ≡ qs
same_rows ps qs long same = same_lists ps qs long (λ k d within.
    get_or_default ps k d None within ∙ (sym (set_at k ps) ∙ ap (λ m. get m k) same ∙ set_at k qs) ∙ get_or_default qs k None d (omega (arith, within, long)))
