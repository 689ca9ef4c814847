-- Objects that a statement makes, and that no handle names yet: an event, a port, the two ends of a pair.
use Rattle.zl_calls.proofs.Common.{Agrees, AreSound, Body, Bool, BootCause, Err, IsCauseOf, IsMaking, IsTrue, Library, List, MOST_KOIDS, Made, Makes, Map, None}
use Rattle.zl_calls.proofs.Common.{Object, ObjectValue, Objects, Ok, OnOk, Pair, Process, Result, StateValue, Statement, World, [], ap, arith, body_value}
use Rattle.zl_calls.proofs.Common.{boot_effect, boot_fault, cond, end_to, false, is_in_job, is_killed, is_process, koid_fault, making_pair, may_boot, nat_lt}
use Rattle.zl_calls.proofs.Common.{nat_tests, none-some, queue_held, refl, runs, seen, subst, sym, then_some, true, with_new, with_object, with_pair}
use Rattle.zl_calls.proofs.Common.{world_value, ℕ, ⊤, ◌+◌, ◌<◌, ◌==◌, ◌^◌, ◌∙◌, ◌≡◌, ◌≤◌}
use Rattle.zl_code.specs.declared.boot.BootCause.TheVariants as cause
use Rattle.zl_objects.specs.declared.object.Pair.TheVariants as pair
use Rattle.zl_code.specs.OwnBoot.{own_given}
use Rattle.zl_calls.proofs.objects.Counting.{queues_grown, same_tables}
use Rattle.zl_calls.proofs.objects.Grown.{end_quiet, found_grown, grown_seen, grown_sound, none_queued}

-- ---- one object more

module _ (ps : List Process) (r : Objects) (making : IsMaking ps [] r) (b : Body) where
  abbrev sound : AreSound ps [] r
  sound = making.sound

  abbrev n : ℕ
  n = r.next_koid

  abbrev grown : Objects
  grown = with_new r b 0

  -- no message is in it, and it agrees with there being no such process
  pub grown_making : queue_held b ≡ [] → (((test : StateValue → Bool) → is_process (world_value ps r) test n ≡ false) → Agrees (world_value ps r) n b)
      → IsTrue (is_in_job grown.objects b) → n < 2 ^ 62 → is_killed b ≡ false → IsMaking ps [] grown
  grown_making empty quiet in_job koid unkilled = record {
    sound = grown_sound ps [] r sound b 0 quiet empty in_job koid refl [] (λ j. none (n == j));
    few = λ k. omega (arith, making.few k, same_tables ps r grown k (queues_grown r b 0 k (none_queued k b empty)));
    unwatched = record { none = making.unwatched.none; none_made = making.unwatched.none_made };
    alive = λ j q at. found_grown ps [] r sound b 0 (is_killed q.body ≡ false) j q at
        (λ here is. subst (λ (x : Object). is_killed x.body ≡ false) is unkilled)
        (λ apart old. making.alive j q old);
  }
    where
      none : (t : Bool) → 0 ≡ cond t 0 0 + 0
      none true = refl
      none false = refl

  -- the world is that of the definitions
  pub grown_world : world_value ps grown ≡ with_object (world_value ps r) (body_value b)
  unfolding with_object
  grown_world = sym (ap (λ (os : Map ObjectValue). record (world_value ps r) { objects = os; next_koid = n + 1 }) (grown_seen r b 0 sound.given_objects))

-- ---- the limit

-- where a statement that takes so many koids has enough of them
pub enough_koids : (n count : ℕ) → nat_lt (MOST_KOIDS + 1) (n + count) ≡ false → n + count ≤ 1025
enough_koids n count enough = grind (arith, nat_tests, enough)

-- the cause is that of a statement whose only fault is this test
pub limit_cause : (test : Bool) → test ≡ true → IsCauseOf (then_some test cause.Limit) cause.Limit
limit_cause test is = rw is refl

-- or it has no fault
pub memory_cause : (test : Bool) → test ≡ false → IsCauseOf (then_some test cause.Limit) cause.NoMemory
memory_cause test is = rw is refl

-- the fault of a statement that makes a pair
pub pair_caused : (lib : Library) (before : Made) (pair : Pair) → boot_fault lib (seen before) (making_pair pair)
    ≡ then_some (nat_lt (MOST_KOIDS + 1) (before.objects.next_koid + 2)) cause.Limit
unfolding boot_fault
pair_caused lib before pair.Channel = refl
pair_caused lib before pair.Eventpair = refl

-- ---- the statements

module _ (lib : Library) (before : Made) (making : IsMaking before.processes.items [] before.objects) where
  abbrev k : ℕ
  k = before.objects.next_koid

  abbrev ps2 : List Process
  ps2 = before.processes.items

  -- one that makes one object, and that lacks at most a koid
  pub object_makes : (s : Statement) (b : Body) → boot_fault lib (seen before) s ≡ koid_fault before → IsTrue (may_boot lib (seen before) s [])
      → with_object (seen before) (body_value b) ≡ boot_effect lib (seen before) s []
      → own_given s ≡ [] → queue_held b ≡ [] → (((test : StateValue → Bool) → is_process (seen before) test k ≡ false) → Agrees (seen before) k b)
      → IsTrue (is_in_job (with_new before.objects b 0).objects b) → is_killed b ≡ false
      → (x : Result ⊤ BootCause) (after : Made) → OnOk x (koid_fault before ≡ None) → OnOk x (after ≡ record before { objects = with_new before.objects b 0 })
      → OnOk x (Makes lib s before after)
  object_makes s b faults chosen effect own empty quiet in_job unkilled (Err c) after left made = tt
  object_makes s b faults chosen effect own empty quiet in_job unkilled (Ok done) after left made = record {
    no_fault = faults ∙ left;
    values = [];
    own = sym own;
    chosen = chosen;
    effect = rw made (grown_world ps2 before.objects making b ∙ effect);
    fresh = λ all. rw made all;
    making = rw made (grown_making ps2 before.objects making b empty quiet in_job (by_test (nat_lt (MOST_KOIDS + 1) (k + 1)) refl left) unkilled);
  }
    where
      by_test : (t : Bool) → nat_lt (MOST_KOIDS + 1) (k + 1) ≡ t → then_some t cause.Limit ≡ None → k < 2 ^ 62
      by_test true is h = absurd (none-some _ (sym h))
      by_test false is h = omega (arith, enough_koids k 1 is)

  -- both ends of a pair
  module _ (pair : Pair) (enough : nat_lt (MOST_KOIDS + 1) (k + 2) ≡ false) where
    abbrev first_end : Body
    first_end = end_to pair (k + 1)

    abbrev second_end : Body
    second_end = end_to pair k

    abbrev with_first : Objects
    with_first = with_new before.objects first_end 0

    few : k + 2 ≤ 1025
    few = enough_koids k 2 enough

    first : IsMaking ps2 [] with_first
    first =
        let quiet = end_quiet pair (k + 1) in
        grown_making ps2 before.objects making first_end quiet.empty (λ not. quiet.agrees _ k (not runs)) (quiet.in_job _) (omega (arith, few)) quiet.alive

    both_making : IsMaking ps2 [] (with_pair before.objects pair 0)
    both_making =
        let quiet = end_quiet pair k in
        grown_making ps2 with_first first second_end quiet.empty (λ not. quiet.agrees _ (k + 1) (not runs)) (quiet.in_job _) (omega (arith, few)) quiet.alive

    both_world : world_value ps2 (with_pair before.objects pair 0)
        ≡ with_object (with_object (world_value ps2 before.objects) (body_value first_end)) (body_value second_end)
    both_world =
        grown_world ps2 with_first first second_end
        ∙ ap (λ (w : World). with_object w (body_value second_end)) (grown_world ps2 before.objects making first_end)

  pub pair_makes : (pair : Pair) (after : Objects) → nat_lt (MOST_KOIDS + 1) (k + 2) ≡ false → after ≡ with_pair before.objects pair 0
      → Makes lib (making_pair pair) before (record before { objects = after })
  unfolding boot_fault boot_effect
  pair_makes pair.Channel after enough made = record {
    no_fault = rw enough refl;
    values = [];
    own = refl;
    chosen = refl;
    fresh = λ all. all;
    effect = rw made (both_world pair.Channel enough);
    making = rw made (both_making pair.Channel enough);
  }
  pair_makes pair.Eventpair after enough made = record {
    no_fault = rw enough refl;
    values = [];
    own = refl;
    chosen = refl;
    fresh = λ all. all;
    effect = rw made (both_world pair.Eventpair enough);
    making = rw made (both_making pair.Eventpair enough);
  }
