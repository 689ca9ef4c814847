-- A table that handles entered one after another: the invariant, the counts, and the same in a process.
use Rattle.zl_calls.proofs.Common.{All, All-head, All-tail, Entry, Handles, IfSome, InsertsEach, IsTable, IsTrue, List, Map, None, Option, ProcessValue, Some}
use Rattle.zl_calls.proofs.Common.{[], ap, arith, cond, count_by, eq-eqb, get, length, may_get, may_get_after, may_get_all, nat_tests, process_with}
use Rattle.zl_calls.proofs.Common.{process_with_all, refl, subst, sum_by-cons, sym, true, ℕ, ◌+◌, ◌==◌, ◌∙◌, ◌∷◌, ◌≡◌, ◌≤◌}
use Rattle.zl_calls.proofs.objects.Counting.{count_put}
use Rattle.zl_calls.proofs.tables.Tables.{found_inserted, inserted_table}
use Rattle.zl_calls.proofs.tables.Taking.{one_longer}
use Rattle.zl_calls.proofs.calls.Answered.{with_table}

-- ---- the table afterwards

pub tables_entered : (t u : Handles) (es : List Entry) (vs : List ℕ) → IsTable t.entries → length t.entries + length es ≤ 1024
    → InsertsEach t es vs u → IsTable u.entries
tables_entered t u [] [] table room so_far = rw so_far table
tables_entered t u [] (y ∷ vs) table room so_far = absurd so_far
tables_entered t u (x ∷ es) [] table room so_far = absurd so_far
tables_entered t u (x ∷ es) (y ∷ vs) table room so_far =
    let longer = one_longer t x y so_far.between so_far.inserts in
    tables_entered so_far.between u es vs (inserted_table t x y so_far.between table (omega (arith, room)) so_far.inserts)
    (omega (arith, room, longer)) so_far.rest

-- what each handle in the table had, and each that entered it, each has that is in it
pub each_entered : (P : Entry → Type 0) (t u : Handles) (es : List Entry) (vs : List ℕ) → InsertsEach t es vs u
    → ((v : ℕ) (e : Entry) → get t.entries v ≡ Some e → P e) → All P es → (v : ℕ) (e : Entry) → get u.entries v ≡ Some e → P e
each_entered P t u [] [] so_far old new v e at = old v e (rw so_far at at)
each_entered P t u [] (y ∷ vs) so_far old new v e at = absurd so_far
each_entered P t u (x ∷ es) [] so_far old new v e at = absurd so_far
each_entered P t u (x ∷ es) (y ∷ vs) so_far old new v e at =
    each_entered P so_far.between u es vs so_far.rest
    (λ k q there. found_inserted (P q) t x y so_far.between so_far.inserts k q there (λ is. subst P is (All-head P x es new)) (old k q))
    (All-tail P x es new) v e at

-- those that entered count too
pub counts_entered : (j : ℕ) (t u : Handles) (es : List Entry) (vs : List ℕ) → InsertsEach t es vs u
    → count_by (λ x. x.1.koid == j) u.entries ≡ count_by (λ x. x.1.koid == j) t.entries + count_by (λ (e : Entry). e.koid == j) es
counts_entered j t u [] [] so_far = rw so_far (omega arith)
counts_entered j t u [] (y ∷ vs) so_far = absurd so_far
counts_entered j t u (x ∷ es) [] so_far = absurd so_far
counts_entered j t u (x ∷ es) (y ∷ vs) so_far =
    let first : count_by (λ h. h.1.koid == j) so_far.between.entries ≡ count_by (λ h. h.1.koid == j) t.entries + cond (x.koid == j) 1 0
    = ap (λ (m : Map Entry). count_by (λ h. h.1.koid == j) m) so_far.inserts.entries ∙ count_put (λ h. h.1.koid == j) t.entries y x so_far.inserts.unused in
    omega (arith, first, counts_entered j so_far.between u es vs so_far.rest, sum_by-cons (λ (e : Entry). cond (e.koid == j) 1 0) x es)

-- ---- the same in a process

pub all_given : (t u : Handles) (es : List Entry) (vs : List ℕ) (q : ProcessValue) → InsertsEach t es vs u
    → process_with_all es vs (with_table t q) ≡ with_table u q
all_given t u [] [] q so_far = ap (λ (x : Handles). with_table x q) (sym so_far)
all_given t u [] (y ∷ vs) q so_far = absurd so_far
all_given t u (x ∷ es) [] q so_far = absurd so_far
all_given t u (x ∷ es) (y ∷ vs) q so_far =
    ap (process_with_all es vs) (λ i. record q { handles = sym so_far.inserts.entries i; last = sym so_far.inserts.last i })
    ∙ all_given so_far.between u es vs q so_far.rest

-- each may get its value
pub all_chosen : (t u : Handles) (es : List Entry) (vs : List ℕ) (q : ProcessValue) → InsertsEach t es vs u → may_get_all (with_table t q) es vs ≡ true
all_chosen t u [] [] q so_far = refl
all_chosen t u [] (y ∷ vs) q so_far = absurd so_far
all_chosen t u (x ∷ es) [] q so_far = absurd so_far
all_chosen t u (x ∷ es) (y ∷ vs) q so_far =
    let first : IsTrue (may_get (with_table t q) y) = may_get_here t.last so_far.inserts.again in
    let next : process_with y x (with_table t q) ≡ with_table so_far.between q =
    λ i. record q { handles = sym so_far.inserts.entries i; last = sym so_far.inserts.last i } in
    rw (first, next) (all_chosen so_far.between u es vs q so_far.rest)
  where
    may_get_here : (last : Option ℕ) → IfSome last (λ l. y ≡ l) → IsTrue (may_get_after last (with_table t q) y)
    may_get_here None free = rw (so_far.inserts.unused) (grind (arith, nat_tests, so_far.inserts.above, so_far.inserts.below))
    may_get_here (Some l) again = eq-eqb y l again
