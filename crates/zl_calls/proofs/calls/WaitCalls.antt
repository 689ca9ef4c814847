-- The calls wait_one and wait_poll, from their table and objects to a step.
use Rattle.zl_calls.proofs.Common.{Bool, Entry, Err, IsConsistent, IsTold, Library, List, Map, None, Object, Objects, Ok, Option, Outcome, Process, Refused}
use Rattle.zl_calls.proofs.Common.{Replies, Result, SignalOf, Signals, Site, Some, Status, Values, WAIT, World, [], active_at, answer_if, any, ap, awaited_by}
use Rattle.zl_calls.proofs.Common.{bits, effect, false, false≢true, first_some, get, gives_ok, gives_refused, granted, handle_operands, if◌then◌else◌}
use Rattle.zl_calls.proofs.Common.{insert_all, is_active_at, is_mask, koid_in, listed, looked_up, may_choose, meets, new_handles, not, object_at}
use Rattle.zl_calls.proofs.Common.{operands_fault, plain_refusal, refl, remove_all, replied, result_err, signals_at, subst, sym, taken_handles, told_by, true}
use Rattle.zl_calls.proofs.Common.{wait_one, wait_poll, wants_nothing, within, world_value, ℕ, ◌∙◌, ◌∷◌, ◌≡◌}
use Rattle.zl_rights.specs.declared.status.Status.TheVariants as status
use Rattle.zl_code.specs.declared.history.Outcome.TheVariants as outcome
use Rattle.zl_calls.specs.declared.calls.wait.PollFault.{PollFault}
use Rattle.zl_calls.specs.declared.calls.wait.PollFault.TheVariants as fault
use Rattle.zl_calls.specs.calls.Wait.{SeesActive, WaitOneDoes, WaitPollDoes, is_seen, polled_at, polled_by, polled_status, told_polled, watched_at, watched_of}
use Rattle.zl_calls.specs.calls.Wait.{watched_values}
use Rattle.zl_calls.specs.declared.calls.wait.Watched.{Watched}
use Rattle.zl_calls.proofs.objects.Active.{signals_active}
use Rattle.zl_calls.proofs.calls.Owned.{own_plain, own_refused}
use Rattle.zl_calls.proofs.calls.Answered.{IsWrite, asking, same_world, table_is}
use Rattle.zl_calls.proofs.calls.DoneCalls.{IsDoneBy, IsCalled, answered_done, called_done}
use Rattle.zl_calls.proofs.calls.Refused.{answers, first_looked_up, is_found}
use Rattle.zl_calls.proofs.processes.Written.{refusal_keeps}

-- ---- what was looked at

-- what is looked at by the handle, where the mask passes so
abbrev watched_if : Map Object → ℕ → Entry → Bool → Result Watched Status
watched_if objects mask e passes =
    if passes then Ok (record { koid = e.koid; mask = record { 0 = mask }; active = record { 0 = signals_at objects e.koid } }) else Err status.InvalidArgs

-- what was found for the mask is the object that the handle h names, and what is active there
record IsWatched (entries : Map Entry) (objects : Map Object) (h mask : ℕ) (x : Watched) : Type 0 where
  koid_is : x.koid ≡ koid_in (get entries h)
  mask_is : x.mask.0 ≡ mask
  active_is : signals_at objects (koid_in (get entries h)) ≡ x.active.0

watched_is : (entries : Map Entry) (objects : Map Object) (h mask : ℕ) (x : Watched) → watched_at entries objects h mask ≡ Ok x
    → IsWatched entries objects h mask x
watched_is entries objects h mask x is = by_found (looked_up entries h [] WAIT) refl is
  where
    by_mask : (e : Entry) (a : Bool) → get entries h ≡ Some e → watched_if objects mask e a ≡ Ok x → IsWatched entries objects h mask x
    by_mask e false at read = absurd cc
    by_mask e true at read =
        let same : record { koid = e.koid; mask = record { 0 = mask }; active = record { 0 = signals_at objects e.koid } } ≡ x = cc in
        record {
          koid_is = sym (ap (λ (y : Watched). y.koid) same) ∙ sym (ap koid_in at);
          mask_is = sym (ap (λ (y : Watched). y.mask.0) same);
          active_is = ap (λ (o : Option Entry). signals_at objects (koid_in o)) at ∙ ap (λ (y : Watched). y.active.0) same;
        }

    by_found : (found : Result Entry Status) → looked_up entries h [] WAIT ≡ found → watched_of objects mask found ≡ Ok x → IsWatched entries objects h mask x
    by_found (Err s) at read = absurd cc
    by_found (Ok e) at read = by_mask e (is_mask mask) (is_found (get entries h) [] WAIT e at) read

-- ---- the refusals

-- the status of an answer other than OK
abbrev why : Result Signals PollFault → Option Status
why (Ok seen) = None
why (Err (fault.TimedOut seen)) = Some status.TimedOut
why (Err (fault.Refused s)) = Some s

-- ---- what is told

-- with this status nothing else is told, or the active signals
abbrev tells_signals : Status → Bool
tells_signals status.TimedOut = true
tells_signals _ = false

-- what is known of the signals by the answer: those that it tells are those of the object k
abbrev IsKnown : Map Object → ℕ → Result Signals PollFault → Type 0
IsKnown objects k (Ok seen) = signals_at objects k ≡ seen.0
IsKnown objects k (Err (fault.TimedOut seen)) = signals_at objects k ≡ seen.0
IsKnown objects k (Err (fault.Refused s)) = tells_signals s ≡ false

polled_known : (entries : Map Entry) (objects : Map Object) (h mask : ℕ) → IsKnown objects (koid_in (get entries h)) (polled_at entries objects h mask)
polled_known entries objects h mask = by_entry (get entries h)
  where
    by_met : (k : ℕ) (seen : Signals) (b : Bool) → signals_at objects k ≡ seen.0 → IsKnown objects k (if b then Ok seen else Err (fault.TimedOut seen))
    by_met k seen true is = is
    by_met k seen false is = is

    by_mask : (e : Entry) (a : Bool) → IsKnown objects e.koid (polled_by (watched_if objects mask e a))
    by_mask e true = by_met e.koid (record { 0 = signals_at objects e.koid }) (meets (signals_at objects e.koid) mask) refl
    by_mask e false = refl

    by_rights : (e : Entry) (a : Bool) → IsKnown objects e.koid (polled_by (watched_of objects mask (if a then Ok e else Err status.AccessDenied)))
    by_rights e true = by_mask e (is_mask mask)
    by_rights e false = refl

    by_entry : (o : Option Entry) → IsKnown objects (koid_in o) (polled_by (watched_of objects mask (granted o [] WAIT)))
    by_entry None = refl
    by_entry (Some e) = by_rights e (within WAIT (bits e.rights))

-- ---- the step

-- a process of the world, before and after its call, which changes nothing but registers, or blocks
module _ {before after : List Process} {r : Objects} {p p2 : Process} (lib : Library) (r2 : Objects) (consistent : IsConsistent before r)
    (write : IsWrite before after p p2)
    (h mask : ℕ) (base : Site) where
  abbrev w : World
  w = world_value before r

  -- ---- wait_one

  abbrev one_site : Site
  one_site = asking (wait_one h mask) base

  refused_one : plain_refusal lib w p.pid (wait_one h mask) ≡ answers (result_err (watched_at p.table.entries r.objects h mask))
  unfolding handle_operands operands_fault listed
  refused_one =
      first_looked_up lib w p.pid p.table.entries (table_is write r) (wait_one h mask)
      (result_err (watched_at p.table.entries r.objects h mask)) h any WAIT None refl (λ s is. rw is refl) (λ e is at. rw is (by_mask e (is_mask mask)))
    where
      by_mask : (e : Entry) (a : Bool) → first_some (answer_if (not a) status.InvalidArgs ∷ []) ≡ answers (result_err (watched_if r.objects mask e a))
      by_mask e true = refl
      by_mask e false = refl

  module _ (x : Watched) (seen : watched_at p.table.entries r.objects h mask ≡ Ok x) where
    named : object_at w p.pid h ≡ x.koid
    named = rw (table_is write r) (sym (watched_is p.table.entries r.objects h mask x seen).koid_is)

    active_seen : active_at w p.pid h ≡ x.active.0
    active_seen =
        rw (table_is write r)
        (sym (signals_active before r consistent (koid_in (get p.table.entries h))) ∙ (watched_is p.table.entries r.objects h mask x seen).active_is)

    met_so : is_seen x ≡ is_active_at w p.pid h mask
    met_so = rw (active_seen, (watched_is p.table.entries r.objects h mask x seen).mask_is) refl

    -- it isn't refused
    pub one_passes : plain_refusal lib w p.pid (wait_one h mask) ≡ None
    one_passes = refused_one ∙ rw seen refl

    -- where no signal of the mask is active, it waits for one
    pub one_waits : is_seen x ≡ false → awaited_by w p.pid (wait_one h mask) ≡ Some (SignalOf x.koid mask)
    one_waits inactive = rw (sym met_so ∙ inactive, named) refl

    one_called : is_seen x ≡ true → p2.table ≡ p.table → r2 ≡ r → Replies one_site status.Ok (watched_values x) p p2
        → IsCalled lib before after r r2 p.pid one_site (outcome.Answered status.Ok)
    unfolding may_choose effect gives_ok gives_refused new_handles insert_all remove_all taken_handles handle_operands
    one_called is_met table objects replies = record {
      calls = (
        Values [],
        rw (one_passes, sym met_so ∙ is_met) (
          rw write.there refl,
          refl,
          same_world write r r2 one_site status.Ok (watched_values x) table objects replies
              ∙ ap (λ (y : ℕ). replied w p.pid one_site status.Ok (y ∷ [])) (sym active_seen),
        ),
      );
      own = λ living. own_plain write r living one_site.request
          (record { none = refl; chosen = refl; made = refl; own = refl }) [] [] refl table;
      keeps = subst (IsConsistent after) (sym objects) (refusal_keeps write r consistent table (ap (λ (q : Process). q.state) replies));
    }

  pub one_done : IsDoneBy lib before after r r2 p p2 one_site (told_by watched_values) (WaitOneDoes h mask)
  unfolding taken_handles handle_operands remove_all gives_refused
  one_done =
      answered_done lib r2 consistent write one_site watched_values (WaitOneDoes h mask) (SeesActive p.table r h mask) wants_nothing
      (result_err (watched_at p.table.entries r.objects h mask)) (λ answer acts. acts) refused_one refl refl (λ answer. refl)
      (λ x sees replies. one_called x sees.seen sees.active sees.table sees.objects replies)

  -- ---- wait_poll

  abbrev poll_site : Site
  poll_site = asking (wait_poll h mask) base

  abbrev polled : Result Signals PollFault
  polled = polled_at p.table.entries r.objects h mask

  refused_now : plain_refusal lib w p.pid (wait_poll h mask) ≡ answers (why polled)
  unfolding handle_operands operands_fault listed
  refused_now =
      first_looked_up lib w p.pid p.table.entries (table_is write r) (wait_poll h mask) (why polled) h any WAIT None refl (λ s is. rw is refl)
      (λ e is at. rw (is, table_is write r, at, ← signals_active before r consistent e.koid) (by_mask e (is_mask mask)))
    where
      by_met : (seen : Signals) (b : Bool)
          → first_some (answer_if (not b) status.TimedOut ∷ []) ≡ answers (why (if b then Ok seen else Err (fault.TimedOut seen)))
      by_met seen true = refl
      by_met seen false = refl

      by_mask : (e : Entry) (a : Bool)
          → first_some (answer_if (not a) status.InvalidArgs ∷ answer_if (not (meets (signals_at r.objects e.koid) mask)) status.TimedOut ∷ [])
          ≡ answers (why (polled_by (watched_if r.objects mask e a)))
      by_mask e true = by_met (record { 0 = signals_at r.objects e.koid }) (meets (signals_at r.objects e.koid) mask)
      by_mask e false = refl

  known : (answer : Result Signals PollFault) → polled ≡ answer → IsKnown r.objects (koid_in (get p.table.entries h)) answer
  known answer is = subst (IsKnown r.objects (koid_in (get p.table.entries h))) is (polled_known p.table.entries r.objects h mask)

  active_now : (seen : Signals) → signals_at r.objects (koid_in (get p.table.entries h)) ≡ seen.0 → active_at w p.pid h ≡ seen.0
  active_now seen is = rw (table_is write r) (sym (signals_active before r consistent (koid_in (get p.table.entries h))) ∙ is)

  nothing_told : (s : Status) → tells_signals s ≡ false → gives_refused w p.pid (wait_poll h mask) s ≡ []
  unfolding gives_refused
  nothing_told status.TimedOut untold = absurd (false≢true (sym untold))
  nothing_told _ untold = refl

  module _ (table : p2.table ≡ p.table) (objects : r2 ≡ r) where
    keeps : p2.state ≡ p.state → IsConsistent after r2
    keeps same = subst (IsConsistent after) (sym objects) (refusal_keeps write r consistent table same)

    -- the active signals are told
    seen_told : (s : Status) (seen : Signals) → signals_at r.objects (koid_in (get p.table.entries h)) ≡ seen.0
        → Replies poll_site s (seen.0 ∷ []) p p2 → world_value after r2 ≡ replied w p.pid poll_site s (active_at w p.pid h ∷ [])
    seen_told s seen is replies =
        same_world write r r2 poll_site s (seen.0 ∷ []) table objects replies ∙ ap (λ (x : ℕ). replied w p.pid poll_site s (x ∷ [])) (sym (active_now seen is))

    by_polled : (answer : Result Signals PollFault) → polled ≡ answer → IsTold poll_site (told_polled answer) p p2
        → IsCalled lib before after r r2 p.pid poll_site (outcome.Answered (polled_status answer))
    unfolding may_choose effect gives_ok gives_refused new_handles insert_all remove_all taken_handles handle_operands
    by_polled (Ok seen) is replies = record {
      calls = (Values [], rw (refused_now, is) (rw write.there refl, refl, seen_told status.Ok seen (known (Ok seen) is) replies));
      own = λ living. own_plain write r living poll_site.request
          (record { none = refl; chosen = refl; made = refl; own = refl }) [] [] refl table;
      keeps = keeps (ap (λ (q : Process). q.state) replies);
    }
    by_polled (Err (fault.TimedOut seen)) is replies = record {
      calls = (Refused, rw (refused_now, is) (refl, seen_told status.TimedOut seen (known (Err (fault.TimedOut seen)) is) replies));
      own = λ living. own_refused write r living poll_site.request table;
      keeps = keeps (ap (λ (q : Process). q.state) replies);
    }
    by_polled (Err (fault.Refused s)) is replies = record {
      calls = (
        Refused,
        rw (refused_now, is) (
          refl,
          same_world write r r2 poll_site s [] table objects replies
              ∙ ap (replied w p.pid poll_site s) (sym (nothing_told s (known (Err (fault.Refused s)) is))),
        ),
      );
      own = λ living. own_refused write r living poll_site.request table;
      keeps = keeps (ap (λ (q : Process). q.state) replies);
    }

  pub poll_done : IsDoneBy lib before after r r2 p p2 poll_site told_polled (WaitPollDoes h mask)
  poll_done ready call next o acts = called_done lib r2 consistent write ready call poll_site next o
      (subst (λ (x : Outcome). IsCalled lib before after r r2 p.pid poll_site x) (sym acts.ends)
      (by_polled acts.acts.table acts.acts.objects acts.answer (sym acts.acts.answered) acts.replied))
