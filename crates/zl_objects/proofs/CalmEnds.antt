-- Nothing comes to be due at an object that isn't marked, where a process ends, or it or a job is killed.
use Rattle.zl_objects.proofs.Common.{Body, Bool, IfSome, IsTrue, KeepsCalm, Map, None, Object, Option, Some, ap, arith, bit_or, cases_Bool, eqb-true, false}
use Rattle.zl_objects.proofs.Common.{false≢true, get, has_packet, if◌then◌else◌, inl, inr, is_at, is_child, is_job_below_here, is_koid, is_process_below}
use Rattle.zl_objects.proofs.Common.{is_watched, is_watched_in, keeper_of, killed_if, list_any, lookup, nat_cmp, refl, same_Some, signals_at, subst, sym, true}
use Rattle.zl_objects.proofs.Common.{update, ℕ, ◌==◌, ◌∙◌, ◌≡◌, ◌⊎◌}
use Rattle.zl_objects.proofs.Bodies.{Changed, changed}
use Rattle.zl_objects.proofs.ByKoid.{looked_up}
use Rattle.zl_objects.proofs.Calm.{Follows, Stays, as_asleep, calm_followed, fewer_same, fewer_unmarked, implied_updated, stays_fewer, stays_unwatched}
use Rattle.zl_objects.proofs.CalmChanges.{keeps_body, quiet_body, quiet_calm}
use Rattle.zl_objects.proofs.Index.{MakesNone, job_is_child, process_is_child}

-- what holds of the koid that was found
pub of_keeper : (P : ℕ → Type 0) (q : Option ℕ) (j : ℕ) → IsTrue (is_koid j q) → IfSome q P → P j
of_keeper P None j h holds = absurd (false≢true h)
of_keeper P (Some i) j h holds = subst P (eqb-true i j h) holds

-- what is no child, and wasn't one, passes no test of children
neither : (test : ℕ → Body → Bool) → ((j : ℕ) (b : Body) → IsTrue (test j b) → IsTrue (is_child j b)) → (j : ℕ) (b c : Body) → is_child j b ≡ false
    → is_child j c ≡ false → test j b ≡ test j c
neither test only j b c before after =
    fewer_unmarked (λ i. test i b) (λ i. is_child i b) (λ i. only i b) j before
    ∙ sym (fewer_unmarked (λ i. test i c) (λ i. is_child i c) (λ i. only i c) j after)

-- the object is marked, and then the job of which it was a living child, if something waits there
module _ (f : Object → Object) (none : MakesNone f) (asleep : (o : Object) → (f o).asleep ≡ o.asleep)
    {marked marked2 marked3 : ℕ → Bool} (more : (j : ℕ) → IsTrue (marked j) → IsTrue (marked2 j))
    (more2 : (j : ℕ) → IsTrue (marked2 j) → IsTrue (marked3 j)) (m n : Map Object) (k : ℕ) (is : n ≡ update m k f)
    (own : IsTrue (is_watched_in (get n k)) → IsTrue (marked2 k))
    (v : Object) (found : Some v ≡ lookup (is_at (nat_cmp k)) m)
    (keeper : IfSome (keeper_of v.body) (λ j. IsTrue (is_watched_in (get n j)) → IsTrue (marked3 j))) where
  ended_follows : (j : ℕ) (o : Object) → get n j ≡ Some o → Changed f m k j o → Follows marked marked3 m n j o
  ended_follows j o at c = record {
    before = c.before;
    there = c.there;
    asleep = as_asleep same_asleep;
    unmarked = fewer_unmarked marked marked3 (λ i h. more2 i (more i h)) j;
    still = λ unmarked. by_watched unmarked (cases_Bool (is_watched o)) (cases_Bool (k == j));
  }
    where
      same_asleep : o.asleep ≡ c.before.asleep
      same_asleep =
          ap (λ (x : Object). x.asleep) c.is
          ∙ elim (k == j) as (λ b. (if b then f c.before else c.before).asleep ≡ c.before.asleep) [ true ↦ asleep c.before | false ↦ refl ]

      by_watched : marked3 j ≡ false → IsTrue (is_watched o) ⊎ (is_watched o ≡ false) → IsTrue (k == j) ⊎ ((k == j) ≡ false)
          → Stays (signals_at m j) (signals_at n j) (has_packet (get m j)) (has_packet (get n j)) c.before o
      by_watched unmarked (inr unwatched) this = stays_unwatched _ _ _ _ c.before o (as_asleep same_asleep) unwatched
      by_watched unmarked (inl some) (inl here) =
          absurd (false≢true (sym unmarked ∙ more2 j (subst (λ i. IsTrue (marked2 i)) (eqb-true k j here) (own (rw (eqb-true k j here, at) some)))))
      by_watched unmarked (inl some) (inr apart) =
          let same : o ≡ c.before = c.is ∙ rw apart refl in
          let stays : signals_at n j ≡ signals_at m j =
          rw (at, c.there, same, is) (ap (bit_or c.before.signals.raised) (implied_updated f m k j c.before.body
          (λ x there. neither is_job_below_here job_is_child j (f x).body x.body (no_more x (no_child x there)) (no_child x there))
          (λ x there. neither is_process_below process_is_child j (f x).body x.body (no_more x (no_child x there)) (no_child x there)))) in
          stays_fewer _ _ _ _ c.before o (fewer_same _ _ stays) (λ h. ap (λ q. has_packet q) (at ∙ (ap (λ (x : Object). Some x) same ∙ sym c.there)) ∙ h)
          (λ test h. ap (λ (x : Object). list_any test x.signals.waits) same ∙ h)
        where
          no_child : (x : Object) → get m k ≡ Some x → is_child j x.body ≡ false
          no_child x there = elim (cases_Bool (is_child j x.body)) as (λ _. is_child j x.body ≡ false) [
            | inl child ↦
                let same : v ≡ x = same_Some v x (found ∙ (looked_up m k ∙ there)) in
                absurd (false≢true (sym unmarked ∙ of_keeper _ (keeper_of v.body) j (rw same child) keeper (rw at some)))
            | inr out ↦ out
          ]

          no_more : (x : Object) → is_child j x.body ≡ false → is_child j (f x).body ≡ false
          no_more x out = fewer_unmarked (λ i. is_child i (f x).body) (λ i. is_child i x.body) (λ i. none i x) j out

  pub ended_calm : KeepsCalm marked m marked3 n
  ended_calm next sleepers = calm_followed marked marked3 m n next next sleepers (omega arith) (fewer_unmarked marked marked3 (λ i h. more2 i (more i h)))
      (λ j o at. inl (ended_follows j o at (changed f m k j o (rw is at at))))

-- nothing is killed
pub spared_calm : {marked : ℕ → Bool} (kills : Bool) → kills ≡ false → (m n : Map Object) (k : ℕ) → n ≡ update m k (killed_if kills)
    → KeepsCalm marked m marked n
spared_calm kills spared m n k is next sleepers =
    quiet_calm (killed_if false) (keeps_body (killed_if false) (λ o h. h) (λ o. refl)) (quiet_body (killed_if false) (λ o. refl) (λ o. refl) (λ o test h. h))
    m n k (rw spared at is)
