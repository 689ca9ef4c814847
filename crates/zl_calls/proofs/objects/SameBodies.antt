-- A change of one object that leaves its kind or its body as it is: what the invariant says of those stays.
use Rattle.zl_calls.proofs.Common.{Agrees, AreKeptBut, AreNamed, Body, Bool, Entry, IsNamed, IsTrue, Kind, List, Map, Message, None, Object, Option, Some}
use Rattle.zl_calls.proofs.Common.{StateValue, World, [], ap, body_value, cases_Bool, eqb-true, false, false≢true, get, get-update, has_ended, if◌then◌else◌}
use Rattle.zl_calls.proofs.Common.{inl, inr, is_job_at, is_job_here, is_kept, is_process, is_sorted, job_changed, kind_of, lives, nat_cmp, none-some}
use Rattle.zl_calls.proofs.Common.{option_map, refl, runs, same_Some, slice_index_or, subst, sym, true, update, ℕ, ◌==◌, ◌∙◌, ◌≡◌}
use Rattle.zl_rights.specs.declared.kind.Kind.TheVariants as kind
use Rattle.zl_objects.specs.declared.object.Body.TheVariants as body

-- an object afterwards is one that was there before, perhaps changed
pub found_updated : (f : Object → Object) (os : Map Object) (k : ℕ) (A : Type 0) (j : ℕ) (q : Object) → get (update os k f) j ≡ Some q
    → ((o : Object) → get os j ≡ Some o → IsTrue (k == j) → f o ≡ q → A) → ((k == j) ≡ false → get os j ≡ Some q → A) → A
found_updated f os k A j q at changed same =
    let read : (if k == j then option_map f (get os j) else get os j) ≡ Some q = sym (get-update os k f j) ∙ at in
    elim (cases_Bool (k == j)) as (λ _. A) [ inl here ↦ by_object (get os j) refl here (rw here at read) | inr apart ↦ same apart (rw apart at read) ]
  where
    by_object : (o : Option Object) → get os j ≡ o → IsTrue (k == j) → option_map f o ≡ Some q → A
    by_object None is here read = absurd (none-some q read)
    by_object (Some o) is here read = changed o is here (same_Some (f o) q read)

-- so what is true of the changed object, and of each other, is true of all
pub each_updated : (P : ℕ → Object → Type 0) (f : Object → Object) (os : Map Object) (k : ℕ) → ((o : Object) → get os k ≡ Some o → P k (f o))
    → ((j : ℕ) (q : Object) → (k == j) ≡ false → get os j ≡ Some q → P j q) → (j : ℕ) (q : Object) → get (update os k f) j ≡ Some q → P j q
each_updated P f os k one others j q at = found_updated f os k (P j q) j q at
    (λ o old here is. subst (P j) is (subst (λ (i : ℕ). P i (f o)) (eqb-true k j here)
    (one o (subst (λ (i : ℕ). get os i ≡ Some o) (sym (eqb-true k j here)) old))))
    (λ apart old. others j q apart old)

-- where something keeps each object
pub kept_each : (m : Map Object) → IsTrue (is_sorted nat_cmp m) → ((k : ℕ) (o : Object) → get m k ≡ Some o → IsTrue (is_kept m k o)) → AreKeptBut [] m
kept_each m in_order each = record { in_order = in_order; noted = λ k o at unkept. absurd (false≢true (sym unkept ∙ each k o at)) }

-- an object says the same of its process where that passes the same tests
pub still_agrees : (w w2 : World) (k : ℕ) (b : Body) → ((test : StateValue → Bool) → is_process w2 test k ≡ is_process w test k) → Agrees w k b → Agrees w2 k b
still_agrees w w2 k (body.Job own) same agrees = same runs ∙ agrees
still_agrees w w2 k (body.Process job alive) same agrees =
    record { running = agrees.running ∙ sym (same runs); living = agrees.living ∙ sym (same lives); over = agrees.over ∙ sym (same has_ended) }
still_agrees w w2 k _ same agrees = same runs ∙ agrees

-- the same where it runs, lives and has ended as before
pub alike_agrees : (w w2 : World) (k : ℕ) (b : Body) → is_process w2 runs k ≡ is_process w runs k → is_process w2 lives k ≡ is_process w lives k
    → is_process w2 has_ended k ≡ is_process w has_ended k → Agrees w k b → Agrees w2 k b
alike_agrees w w2 k (body.Job own) runs_on lives_on over_on agrees = runs_on ∙ agrees
alike_agrees w w2 k (body.Process job alive) runs_on lives_on over_on agrees =
    record { running = agrees.running ∙ sym runs_on; living = agrees.living ∙ sym lives_on; over = agrees.over ∙ sym over_on }
alike_agrees w w2 k _ runs_on lives_on over_on agrees = runs_on ∙ agrees

-- what names objects before, names them after
pub still_named : (os os2 : Map Object) → ((e : Entry) → IsNamed os e → IsNamed os2 e) → (queue : List Message) → AreNamed os queue → AreNamed os2 queue
still_named os os2 keep queue all = λ n m within i e inside. keep (slice_index_or (slice_index_or queue n m).handles i e) (all n m within i e inside)

-- ---- one object changes, and stays of its kind

abbrev is_job_kind : Kind → Bool
is_job_kind kind.Job = true
is_job_kind _ = false

-- its kind says whether it is a job
job_by_kind : (b : Body) → is_job_here b ≡ is_job_kind (kind_of (body_value b))
job_by_kind (body.Job own) = refl
job_by_kind _ = refl

module _ (f : Object → Object) (same : (o : Object) → kind_of (body_value (f o).body) ≡ kind_of (body_value o.body)) (os : Map Object) (k : ℕ) where
  pub jobs_kept : (j : ℕ) → is_job_at (update os k f) j ≡ is_job_at os j
  jobs_kept = job_changed f (λ o. job_by_kind (f o).body ∙ (ap is_job_kind (same o) ∙ sym (job_by_kind o.body))) os k

  pub named_kept : (e : Entry) → IsNamed os e → IsNamed (update os k f) e
  named_kept e named = elim (cases_Bool (k == e.koid)) as (λ _. IsNamed (update os k f) e) [
    | inl here ↦ record {
      object = f named.object;
      there = rw (get-update os k f e.koid, here, named.there) refl;
      kind = named.kind ∙ sym (same named.object);
      rights = named.rights;
    }
    | inr apart ↦ record { object = named.object; there = rw (get-update os k f e.koid, apart) named.there; kind = named.kind; rights = named.rights }
  ]

-- ---- one object changes, but not its body

module _ (f : Object → Object) (same : (o : Object) → (f o).body ≡ o.body) (os : Map Object) (k : ℕ) where
  pub named_updated : (e : Entry) → IsNamed os e → IsNamed (update os k f) e
  named_updated = named_kept f (λ o. ap (λ (b : Body). kind_of (body_value b)) (same o)) os k
