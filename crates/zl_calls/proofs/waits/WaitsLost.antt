-- The list of registered waits, as handles and objects go: it loses those alone whose object or port is gone, or whose process ends.
use Rattle.zl_calls.proofs.Common.{All-contains, All-contains_itself, All-filter, Bool, Contains, EndedHere, EndsWaits, IsTrue, KeepsWithout, LeavesListed}
use Rattle.zl_calls.proofs.Common.{List, ListsWithout, None, ObjectEnds, Objects, Option, Releases, Some, Wait, [], and_from, and_parts, ap, cascaded_was}
use Rattle.zl_calls.proofs.Common.{cases_Bool, false, false≢true, filter, filter_passes, get, has_key, has_key-update, if◌then◌else◌, inl, inr, is_made_at}
use Rattle.zl_calls.proofs.Common.{is_there, job_in, not, refl, stays_but, stopped, stopping, subst, sym, true, was_there, ℕ, ◌&&◌, ◌==◌, ◌∙◌, ◌∷◌, ◌≡◌}
use Rattle.zl_objects.proofs.Bare.{has_same}

-- what passes the one test passes the other, which then takes nothing away that counts
pub filter_within : {X : Type 0} (p q : X → Bool) (xs : List X) → ((x : X) → IsTrue (p x) → IsTrue (q x)) → filter p (filter q xs) ≡ filter p xs
filter_within p q [] within = refl
filter_within {X} p q (x ∷ xs) within = elim (cases_Bool (q x)) as (λ _. filter p (filter q (x ∷ xs)) ≡ filter p (x ∷ xs)) [
  | inl there ↦ rw there (ap (λ (ys : List X). if p x then x ∷ ys else ys) (filter_within p q xs within))
  | inr gone ↦ elim (cases_Bool (p x)) as (λ _. filter p (filter q (x ∷ xs)) ≡ filter p (x ∷ xs)) [
    | inl passes ↦ absurd (false≢true (sym gone ∙ within x passes))
    | inr fails ↦ rw (gone, fails) (filter_within p q xs within)
  ]
]

-- what is left was there, and passes the test
pub left_of : {X : Type 0} (test : X → Bool) (xs : List X) (x : X) → Contains (filter test xs) x → Contains xs x × (test x ≡ true)
left_of test xs x left = (
  All-contains (Contains xs) (filter test xs) x (All-filter test (Contains xs) xs (All-contains_itself xs)) left,
  All-contains (λ y. test y ≡ true) (filter test xs) x (filter_passes test xs) left,
)

-- where nothing goes
pub listed_same : {over : ℕ → Bool} (r : Objects) → KeepsWithout over r r
listed_same r = record {
  shrinks = λ k there. there;
  older = λ x there. there;
  listed = record { waits = λ test there. refl; made = refl; asleep = (refl, refl) };
}

-- where more processes may end
pub lists_wide : {over over2 : ℕ → Bool} → ((k : ℕ) → IsTrue (over k) → IsTrue (over2 k)) → (ws : List Wait) (made : ℕ) (old r : Objects)
    → ListsWithout over ws made old r → ListsWithout over2 ws made old r
lists_wide {over} {over2} wider ws made old r lists = record {
  waits = λ test there. lists.waits test (λ x passes.
      let parts = and_parts (not (over2 x.pid)) (is_there r.objects x) (there x passes) in
      and_from (not (over x.pid)) (is_there r.objects x) (narrow x.pid parts.0) parts.1);
  made = lists.made;
  asleep = lists.asleep;
}
  where
    narrow : (k : ℕ) → IsTrue (not (over2 k)) → IsTrue (not (over k))
    narrow k out = elim (cases_Bool (over k)) as (λ _. IsTrue (not (over k))) [
      | inl ends ↦ absurd (false≢true (ap not (sym (wider k ends)) ∙ out))
      | inr stays ↦ rw stays refl
    ]

pub listed_wide : {over over2 : ℕ → Bool} → ((k : ℕ) → IsTrue (over k) → IsTrue (over2 k)) → (r r2 : Objects) → KeepsWithout over r r2 → KeepsWithout over2 r r2
listed_wide wider r r2 keeps = record { shrinks = keeps.shrinks; older = keeps.older; listed = lists_wide wider r.waits r.waits_made r r2 keeps.listed }

-- one after the other
pub listed_then : {over : ℕ → Bool} (r mid r2 : Objects) → KeepsWithout over r mid → KeepsWithout over mid r2 → KeepsWithout over r r2
listed_then {over} r mid r2 first later = record {
  shrinks = λ k there. first.shrinks k (later.shrinks k there);
  older = λ x there. first.older x (later.older x there);
  listed = record {
    waits = λ test there. later.listed.waits test there ∙ first.listed.waits test (λ x passes. earlier x (there x passes));
    made = later.listed.made ∙ first.listed.made;
    asleep = (later.listed.asleep.0 ∙ first.listed.asleep.0, later.listed.asleep.1 ∙ first.listed.asleep.1);
  };
}
  where
    earlier : (x : Wait) → IsTrue (stays_but over r2 x) → IsTrue (stays_but over mid x)
    earlier x stays =
        let both = and_parts (not (over x.pid)) (is_there r2.objects x) stays in
        let parts = and_parts (has_key r2.objects x.object) (has_key r2.objects x.port) both.1 in
        and_from (not (over x.pid)) (is_there mid.objects x) both.0
        (and_from (has_key mid.objects x.object) (has_key mid.objects x.port) (later.shrinks x.object parts.0) (later.shrinks x.port parts.1))

-- as it is left where objects go
leaves : {over : ℕ → Bool} (r r2 : Objects) → LeavesListed r r2 → ((k : ℕ) → IsTrue (has_key r2.objects k) → IsTrue (has_key r.objects k))
    → KeepsWithout over r r2
leaves {over} r r2 left shrinks = record {
  shrinks = shrinks;
  older = λ x there. (left_of (is_there r2.objects) r.waits x (subst (λ (ws : List Wait). Contains ws x) left.waits there)).0;
  listed = record {
    waits = λ test there. ap (filter test) left.waits
        ∙ filter_within test (is_there r2.objects) r.waits (λ x passes. (and_parts (not (over x.pid)) (is_there r2.objects x) (there x passes)).1);
    made = left.made;
    asleep = left.asleep;
  };
}

-- handles go, and with them what nothing keeps
pub listed_gone : {over : ℕ → Bool} (ks loose : List ℕ) (r r2 : Objects) → Releases ks loose r r2 → LeavesListed r r2 → KeepsWithout over r r2
listed_gone ks loose r r2 releases left = leaves r r2 left (was_there r.objects r2.objects (cascaded_was ks r.objects r2.objects releases.cascades))

-- a process ends
pub listed_over : {over : ℕ → Bool} (k : ℕ) (r r2 : Objects) → ObjectEnds k r r2 → LeavesListed r r2 → KeepsWithout over r r2
listed_over {over} k r r2 ends left = by_job (job_in (get r.objects k)) ends
  where
    by_job : (job : Option ℕ) → EndedHere k job r r2 → KeepsWithout over r r2
    by_job None same = rw same (listed_same r)
    by_job (Some job) releases = leaves r r2 left (λ j there.
        sym (has_key-update r.objects k stopped j)
        ∙ was_there (stopping r k).objects r2.objects (cascaded_was [] (stopping r k).objects r2.objects releases.cascades) j there)

-- a handle's waits end, at one object, with the process that made them
pub listed_made : (k pid value : ℕ) (r r2 : Objects) → EndsWaits (is_made_at k pid value) r r2 → KeepsWithout (λ j. j == pid) r r2
listed_made k pid value r r2 ends = record {
  shrinks = λ j there. sym (has_same r.objects r2.objects ends.beside.objects j) ∙ there;
  older = λ x there. (left_of (λ y. not (is_made_at k pid value y)) r.waits x (subst (λ (ws : List Wait). Contains ws x) ends.waits there)).0;
  listed = record {
    waits = λ test there. ap (filter test) ends.waits ∙ filter_within test (λ y. not (is_made_at k pid value y)) r.waits (λ x passes.
        by_other x (and_parts (not (x.pid == pid)) (is_there r2.objects x) (there x passes)).0);
    made = ends.made;
    asleep = ends.asleep;
  };
}
  where
    neither : (b : Bool) → IsTrue (not (b && false))
    neither true = refl
    neither false = refl

    by_other : (x : Wait) → IsTrue (not (x.pid == pid)) → IsTrue (not (is_made_at k pid value x))
    by_other x other = elim (cases_Bool (x.pid == pid)) as (λ _. IsTrue (not (is_made_at k pid value x))) [
      | inl own ↦ absurd (false≢true (ap not (sym own) ∙ other))
      | inr apart ↦ rw apart (neither (x.object == k))
    ]
