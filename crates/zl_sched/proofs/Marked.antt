-- The marks beside the ready list: who isn't marked stands in the list, if it is ready, and nothing else does.
use Rattle.zl_sched.proofs.Common.{Bool, IsTrue, List, Listed, World, [], ap, arith, cases_Bool, eq-eqb, eqb-true, false, false≢true, if◌then◌else◌, inl, inr}
use Rattle.zl_sched.proofs.Common.{is_in, is_process, is_ready, is_ready_or_over, length, length-filter_both, nat_lt, nat_tests, not, others_of, refl, subst}
use Rattle.zl_sched.proofs.Common.{sym, times-other, times-same, times_in, true, ℕ, ◌&&◌, ◌+◌, ◌<◌, ◌==◌, ◌∙◌, ◌∷◌, ◌≡◌, ◌≤◌}
use Rattle.zl_sched.proofs.Counted.{any_counted}
use Rattle.zl_verify.proofs.OwnTable.{other_way}

-- ---- marks that are counted

pub some_mark : (k : ℕ) (out : List ℕ) → is_in k out ≡ true → 0 < times_in k out
some_mark k out is =
    let counted : nat_lt 0 (times_in k out) ≡ true = sym (any_counted (λ q. q == k) out) ∙ is in
    grind (arith, nat_tests, counted)

pub no_mark : (k : ℕ) (out : List ℕ) → is_in k out ≡ false → times_in k out ≡ 0
no_mark k out is =
    let counted : nat_lt 0 (times_in k out) ≡ false = sym (any_counted (λ q. q == k) out) ∙ is in
    grind (arith, nat_tests, counted)

pub counted_mark : (k : ℕ) (out : List ℕ) → 0 < times_in k out → is_in k out ≡ true
counted_mark k out some = any_counted (λ q. q == k) out ∙ grind (arith, nat_tests, some)

pub uncounted_mark : (k : ℕ) (out : List ℕ) → times_in k out ≡ 0 → is_in k out ≡ false
uncounted_mark k out none = any_counted (λ q. q == k) out ∙ grind (arith, nat_tests, none)

-- ---- the list and the marks

-- each ready process that isn't marked stands in the list once, and nothing else does
abbrev pub AreBut : World → List ℕ → List ℕ → Type 0
AreBut w out ready = (k : ℕ) → times_in k ready ≡ (if is_process w is_ready k && not (is_in k out) then 1 else 0)

pub listed_but : (w : World) (ready out : List ℕ) → Listed w ready out → AreBut w out ready
listed_but w ready out listed k = by (is_process w is_ready k) refl (is_in k out) refl
  where
    by : (now : Bool) → is_process w is_ready k ≡ now → (marked : Bool) → is_in k out ≡ marked → times_in k ready ≡ (if now && not marked then 1 else 0)
    by true is true m = omega (arith, listed.once k is, some_mark k out m)
    by true is false m = omega (arith, listed.once k is, no_mark k out m)
    by false is m e = listed.alone k is

pub listed_by : (w : World) (ready out : List ℕ) → AreBut w out ready → ((k : ℕ) → times_in k out ≤ 1)
    → ((k : ℕ) → is_in k out ≡ true → IsTrue (is_process w is_ready_or_over k)) → Listed w ready out
listed_by w ready out are marks marked = record {
  once = λ k is. once_by k is (is_in k out) refl;
  alone = λ k is. are k ∙ rw is refl;
  marks = marks;
  marked = marked;
}
  where
    once_by : (k : ℕ) → is_process w is_ready k ≡ true → (b : Bool) → is_in k out ≡ b → times_in k ready + times_in k out ≡ 1
    once_by k is true m =
        let none : times_in k ready ≡ 0 = are k ∙ rw (is, m) refl in
        omega (arith, none, some_mark k out m, marks k)
    once_by k is false m =
        let one : times_in k ready ≡ 1 = are k ∙ rw (is, m) refl in
        omega (arith, one, no_mark k out m)

-- where nothing is marked
pub listed_alone : (w : World) (ready : List ℕ) → ((k : ℕ) → times_in k ready ≡ (if is_process w is_ready k then 1 else 0)) → Listed w ready []
listed_alone w ready are = record {
  once = λ k is. let one : times_in k ready ≡ 1 = are k ∙ rw is refl in omega (arith, one);
  alone = λ k is. are k ∙ rw is refl;
  marks = λ k. omega arith;
  marked = λ k is. absurd (false≢true is);
}

-- ---- the marks without a process

pub self_unmarked : (p : ℕ) (out : List ℕ) → is_in p (others_of p out) ≡ false
self_unmarked p out = uncounted_mark p (others_of p out) (times-same p out)

pub others_marked : (p k : ℕ) (out : List ℕ) → (k == p) ≡ false → is_in k (others_of p out) ≡ is_in k out
others_marked p k out apart =
    any_counted (λ q. q == k) (others_of p out) ∙ (ap (nat_lt 0) (times-other p k (other_way k p apart) out) ∙ sym (any_counted (λ q. q == k) out))

pub fewer_marks : (p k : ℕ) (out : List ℕ) → times_in k (others_of p out) ≤ times_in k out
fewer_marks p k out = elim (cases_Bool (k == p)) as (λ _. times_in k (others_of p out) ≤ times_in k out) [
  | inl here ↦ let none : times_in k (others_of p out) ≡ 0 = subst (λ (j : ℕ). times_in j (others_of p out) ≡ 0) (sym (eqb-true k p here))
      (times-same p out) in omega (arith, none)
  | inr apart ↦ omega (arith, times-other p k (other_way k p apart) out)
]

-- who is marked without p is another, and was marked
pub left_marked : (p k : ℕ) (out : List ℕ) → is_in k (others_of p out) ≡ true → ((k == p) ≡ false) × (is_in k out ≡ true)
left_marked p k out is = elim (cases_Bool (k == p)) as (λ _. ((k == p) ≡ false) × (is_in k out ≡ true)) [
  | inl here ↦ absurd (false≢true (sym (subst (λ (j : ℕ). is_in j (others_of p out) ≡ false) (sym (eqb-true k p here)) (self_unmarked p out)) ∙ is))
  | inr apart ↦ (apart, sym (others_marked p k out apart) ∙ is)
]

pub shorter : (p : ℕ) (out : List ℕ) → times_in p out + length (others_of p out) ≡ length out
shorter p out = length-filter_both (λ q. q == p) (λ q. not (q == p)) (λ q. refl) out

pub times_self : (p : ℕ) → times_in p (p ∷ []) ≡ 1
times_self p = rw (eq-eqb p p refl) refl

pub times_none : (p k : ℕ) → (k == p) ≡ false → times_in k (p ∷ []) ≡ 0
times_none p k apart = rw (other_way k p apart) refl

-- no process stands twice in the list
pub listed_once : (w : World) (ready out : List ℕ) → Listed w ready out → (k : ℕ) → times_in k ready ≤ 1
listed_once w ready out listed k = by_test (is_process w is_ready k) refl
  where
    by_test : (b : Bool) → is_process w is_ready k ≡ b → times_in k ready ≤ 1
    by_test true is = omega (arith, listed.once k is)
    by_test false is = omega (arith, listed.alone k is)
