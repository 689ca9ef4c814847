-- Nothing comes to be due at an object that isn't marked, where others have gone.
use Rattle.zl_objects.proofs.Common.{AreSameButWaits, Body, Bool, Children, IfSome, IsIndexed, IsTrue, KeepsCalm, Map, NO_JOBS, NO_PROCESSES, Object, Some}
use Rattle.zl_objects.proofs.Common.{TERMINATED, Thins, ap, arith, bit_or, cases_Bool, ending_waits, eqb-true, false, false≢true, get, get-without}
use Rattle.zl_objects.proofs.Common.{has_job_below, has_key, has_packet, has_process_below, implied_here, inl, inr, is_child, is_empty, is_job_below_here}
use Rattle.zl_objects.proofs.Common.{is_process_below, is_watched, is_watched_in, keeper_of, list_any, not, packets_of, peer_of, refl, same_Some, signal_if}
use Rattle.zl_objects.proofs.Common.{signals_at, sym, unreserved, without, ℕ, ◌==◌, ◌∙◌, ◌≡◌}
use Rattle.zl_objects.specs.declared.object.Body.TheVariants as body
use Rattle.zl_objects.proofs.Bare.{IsAlike, alike, any_same, has_same, of_body}
use Rattle.zl_objects.proofs.Bodies.{any_without_at, found_left}
use Rattle.zl_objects.proofs.CalmEnds.{of_keeper}
use Rattle.zl_objects.proofs.Calm.{as_asleep, Follows, Stays, calm_followed, fewer_same, fewer_unmarked, stays_fewer, stays_unwatched}
use Rattle.zl_objects.proofs.Ending.{ending_bare, ending_gone, ending_thins}
use Rattle.zl_objects.proofs.Index.{job_is_child, process_is_child}

module _ {children : Children} (m n : Map Object) (k : ℕ) (gone : Object) (indexed : IsIndexed children m) (there : get m k ≡ Some gone)
    (ended : n ≡ ending_waits k gone (without m k)) where
  same : AreSameButWaits (without m k) n
  same = rw ended (ending_bare k gone (without m k))

  -- a test that it fails is passed as often
  any_left : (test : Body → Bool) → ((b : Body) → test (unreserved b) ≡ test b) → test gone.body ≡ false
      → list_any (λ e. test e.1.body) n ≡ list_any (λ e. test e.1.body) m
  any_left test bare out = any_same (without m k) n same test bare ∙ any_without_at (λ e. test e.1.body) m k gone indexed.in_order there out

  has_other : (p : ℕ) → (k == p) ≡ false → has_key n p ≡ has_key m p
  has_other p apart = has_same (without m k) n same p ∙ rw (get-without m k p, apart) refl

  -- the signals of an object are the same, of which it was neither child nor peer
  implied_left : (j : ℕ) (b : Body) → is_child j gone.body ≡ false → ((p : ℕ) → peer_of b ≡ Some p → (k == p) ≡ false) → implied_here n j b ≡ implied_here m j b
  unfolding has_job_below has_process_below
  implied_left j (body.Job own) child peer =
      λ i. bit_or (signal_if TERMINATED own.killed) (bit_or (signal_if NO_JOBS (not (jobs i))) (signal_if NO_PROCESSES (not (processes i))))
    where
      bare_job : (b : Body) → is_job_below_here j (unreserved b) ≡ is_job_below_here j b
      bare_job (body.Job own) = refl
      bare_job _ = refl

      bare_process : (b : Body) → is_process_below j (unreserved b) ≡ is_process_below j b
      bare_process (body.Job own) = refl
      bare_process _ = refl

      jobs : list_any (λ e. is_job_below_here j e.1.body) n ≡ list_any (λ e. is_job_below_here j e.1.body) m
      jobs = any_left (is_job_below_here j) bare_job
          (fewer_unmarked (λ i. is_job_below_here i gone.body) (λ i. is_child i gone.body) (λ i. job_is_child i gone.body) j child)

      processes : list_any (λ e. is_process_below j e.1.body) n ≡ list_any (λ e. is_process_below j e.1.body) m
      processes = any_left (is_process_below j) bare_process
          (fewer_unmarked (λ i. is_process_below i gone.body) (λ i. is_child i gone.body) (λ i. process_is_child i gone.body) j child)
  implied_left j (body.ChannelEnd p queue) child peer = rw (has_other p (peer p refl)) refl
  implied_left j (body.PairEnd p) child peer = rw (has_other p (peer p refl)) refl
  implied_left j _ child peer = refl

  -- the job of which it was a child is marked, and then its peer, if something waits there
  module _ {marked marked2 marked3 : ℕ → Bool} (more : (j : ℕ) → IsTrue (marked j) → IsTrue (marked2 j))
      (more2 : (j : ℕ) → IsTrue (marked2 j) → IsTrue (marked3 j))
      (keeper : IfSome (keeper_of gone.body) (λ j. IsTrue (is_watched_in (get n j)) → IsTrue (marked2 j)))
      (peer : IfSome (peer_of gone.body) (λ j. IsTrue (is_watched_in (get n j)) → IsTrue (marked3 j))) where
    all_more : (j : ℕ) → IsTrue (marked j) → IsTrue (marked3 j)
    all_more j h = more2 j (more j h)

    module _ (j : ℕ) (o : Object) (at : get n j ≡ Some o) where
      was : IsAlike (without m k) j o
      was = alike (without m k) n same j o at

      thin : Thins m n j o
      thin = rw ended (ending_thins m k gone j o (ending_gone m k gone (λ x is. has_same (without m k) x is k)) (rw ended at at))

      old : was.before ≡ thin.before
      old = same_Some was.before thin.before (sym (found_left m k j was.before was.there).1 ∙ thin.there)

      bodies : unreserved o.body ≡ unreserved thin.before.body
      bodies = was.body ∙ ap (λ (x : Object). unreserved x.body) old

      -- what is marked, if something waits there, isn't unmarked
      no_child : IsTrue (is_watched o) → marked3 j ≡ false → is_child j gone.body ≡ false
      no_child watched unmarked = elim (cases_Bool (is_child j gone.body)) as (λ _. is_child j gone.body ≡ false) [
        | inl child ↦ absurd (false≢true (sym unmarked ∙ more2 j (of_keeper _ (keeper_of gone.body) j child keeper (rw at watched))))
        | inr apart ↦ apart
      ]

      no_peer : IsTrue (is_watched o) → marked3 j ≡ false → (p : ℕ) → peer_of thin.before.body ≡ Some p → (k == p) ≡ false
      no_peer watched unmarked p is = elim (cases_Bool (k == p)) as (λ _. (k == p) ≡ false) [
        | inl here ↦
            let back : peer_of gone.body ≡ Some j =
            indexed.paired j k thin.before gone thin.there there (is ∙ ap (λ (i : ℕ). Some i) (sym (eqb-true k p here))) in
            absurd (false≢true (sym unmarked ∙ (rw back at peer) (rw at watched)))
        | inr apart ↦ apart
      ]

      signals_left : IsTrue (is_watched o) → marked3 j ≡ false → signals_at n j ≡ signals_at m j
      signals_left watched unmarked =
          let before : implied_here n j o.body ≡ implied_here n j thin.before.body =
          of_body (implied_here n j) (λ packets reserved. refl) o.body thin.before.body bodies in
          let raised : o.signals.raised ≡ thin.before.signals.raised = was.raised ∙ ap (λ (x : Object). x.signals.raised) old in
          rw (at, thin.there) (λ i. bit_or (raised i)
          ((before ∙ implied_left j thin.before.body (no_child watched unmarked) (no_peer watched unmarked)) i))

      packets : has_packet (get n j) ≡ has_packet (get m j)
      packets = rw (at, thin.there) (of_body (λ b. not (is_empty (packets_of b))) (λ packets reserved. refl) o.body thin.before.body bodies)

      follows : Follows marked marked3 m n j o
      follows = record {
        before = thin.before;
        there = thin.there;
        asleep = as_asleep thin.asleep;
        unmarked = fewer_unmarked marked marked3 all_more j;
        still = λ unmarked. elim (cases_Bool (is_watched o))
            as (λ _. Stays (signals_at m j) (signals_at n j) (has_packet (get m j)) (has_packet (get n j)) thin.before o) [
              | inl watched ↦ stays_fewer _ _ _ _ thin.before o (fewer_same _ _ (signals_left watched unmarked)) (λ h. packets ∙ h) thin.fewer
              | inr none ↦ stays_unwatched _ _ _ _ thin.before o (as_asleep thin.asleep) none
            ];
      }

    pub gone_calm : KeepsCalm marked m marked3 n
    gone_calm next sleepers =
        calm_followed marked marked3 m n next next sleepers (omega arith) (fewer_unmarked marked marked3 all_more) (λ j o at. inl (follows j o at))
