-- What the objects show of active signals.
use Rattle.zl_objects.proofs.Common.{AreActive, Body, Bool, IsTrue, Map, NO_JOBS, NO_PROCESSES, None, Object, Option, ShowStates, Shows, Some, TERMINATED}
use Rattle.zl_objects.proofs.Common.{World, [], active, ap, bit_or, body_value, get, has_child_job, has_child_process, has_job_below, has_process_below}
use Rattle.zl_objects.proofs.Common.{implied_here, is_job_below_here, is_process, is_process_below, is_process_of, list_any, lives, not, refl, signal_if}
use Rattle.zl_objects.proofs.Common.{signals_at, signals_in, subst, sym, with_objects, ℕ, ◌&&◌, ◌==◌, ◌||◌, ◌∙◌, ◌∷◌, ◌≡◌}
use Rattle.zl_rights.specs.Signals.{implied, is_job_below}
use Rattle.zl_objects.specs.declared.object.Body.TheVariants as body
use Rattle.zl_objects.proofs.Found.{Found, any_found}
use Rattle.zl_objects.proofs.Law.{get_seen, has_seen, any_seen}
use Rattle.zl_rights.proofs.Settling.{same_tests}
use Rattle.zl_rights.proofs.MapTests.{any_at}

module _ (w : World) (m : Map Object) (shows : ShowStates w m) (k : ℕ) where
  -- a living job stands below the job k where the objects say so
  pub job_shown : has_child_job (with_objects w m) k ≡ has_job_below m k
  unfolding has_child_job has_job_below
  job_shown = any_seen (λ e. is_job_below k e.1.body) m ∙ each_same m
    where
      by_body : (b : Body) → is_job_below k (body_value b) ≡ is_job_below_here k b
      by_body (body.Job own) = refl
      by_body _ = refl

      each_same : (n : Map Object) → list_any (λ e. is_job_below k (body_value e.1.body)) n ≡ list_any (λ e. is_job_below_here k e.1.body) n
      each_same [] = refl
      each_same (e ∷ n) = λ i. by_body e.1.body i || each_same n i

  -- the same of a living process
  pub process_shown : has_child_process (with_objects w m) k ≡ has_process_below m k
  unfolding has_child_process has_process_below is_process
  process_shown = any_seen (λ e. is_process_of k e.1.body && is_process w lives e.0) m ∙ same_tests (list_any seen m) (list_any below m) there back
    where
      seen : ℕ × Object → Bool
      seen e = is_process_of k (body_value e.1.body) && is_process w lives e.0

      below : ℕ × Object → Bool
      below e = is_process_below k e.1.body

      same : (j : ℕ) (o : Object) (b : Body) → o.body ≡ b → get m j ≡ Some o → (is_process_of k (body_value b) && is_process w lives j) ≡ is_process_below k b
      same j o (body.Job own) is at = refl
      same j o (body.Process job life) is at =
          let shown : Shows w j (body.Process job life) = subst (Shows w j) is (shows.shown j o at) in
          ap (λ b. (job == k) && b) (sym shown.living)
      same j o _ is at = refl

      there : IsTrue (list_any seen m) → IsTrue (list_any below m)
      there some =
          let f : Found seen m = any_found seen m shows.in_order some in
          any_at below m f.key f.value f.at (sym (same f.key f.value f.value.body refl f.at) ∙ f.passes)

      back : IsTrue (list_any below m) → IsTrue (list_any seen m)
      back some =
          let f : Found below m = any_found below m shows.in_order some in
          any_at seen m f.key f.value f.at (same f.key f.value f.value.body refl f.at ∙ f.passes)

  implied_shown : (o : Object) (b : Body) → o.body ≡ b → get m k ≡ Some o → implied_here m k b ≡ implied (with_objects w m) k (body_value b)
  unfolding is_process
  implied_shown o (body.Job own) is at =
      λ i. bit_or (signal_if TERMINATED own.killed) (bit_or (signal_if NO_JOBS (not (sym job_shown i))) (signal_if NO_PROCESSES (not (sym process_shown i))))
  implied_shown o (body.Process job life) is at =
      let shown : Shows w k (body.Process job life) = subst (Shows w k) is (shows.shown k o at) in
      ap (signal_if TERMINATED) shown.over
  implied_shown o (body.ChannelEnd peer queue) is at = rw (has_seen m peer) refl
  implied_shown o (body.PairEnd peer) is at = rw (has_seen m peer) refl
  implied_shown o _ is at = refl

  shown_at : (q : Option Object) → get m k ≡ q → signals_in m k q ≡ active (with_objects w m) k
  unfolding active
  shown_at None is = rw (get_seen m k, is) refl
  shown_at (Some o) is = rw (get_seen m k, is) (ap (bit_or o.signals.raised) (implied_shown o o.body refl is))

pub are_active : (m : Map Object) (k : ℕ) → AreActive m k (signals_at m k)
are_active m k w shows = shown_at w m shows k (get m k) refl
