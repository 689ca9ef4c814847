-- The calls on handles, close, dup, replace and handle_info, each from its table and objects to a step.
use Rattle.zl_calls.proofs.Common.{AreSound, AtCall, Bool, CallName, CloseDoes, Closes, DUPLICATE, Does, DupDoes, Dups, Entry, Err, HandleInfoDoes}
use Rattle.zl_calls.proofs.Common.{IsConsistent, IsNamed, IsRefusedBy, IsTable, IsTrue, Library, List, Map, None, Object, ObjectValue, Objects, Ok, Option}
use Rattle.zl_calls.proofs.Common.{PlainCalls, Process, ProcessValue, Ready, Refused, ReplaceDoes, Replaces, Replies, Result, Site, Some, Status, Values, World}
use Rattle.zl_calls.proofs.Common.{[], any, ap, arith, bits, cases_Bool, close, close_answer, coming, cond, copy_of, cpu_answered, default_rights_of, dup}
use Rattle.zl_calls.proofs.Common.{dup_refusal, effect, entry_at, eq-eqb, eqb-true, false, first_some, get, get-put, get-update, get-without, gives_ok}
use Rattle.zl_calls.proofs.Common.{gives_refused, granted, handle_info, handle_operands, handles_to, has_key, has_key-update, has_place, has_room, has_room_in}
use Rattle.zl_calls.proofs.Common.{held_once_more, holding, if◌then◌else◌, info_values, inl, inr, insert_all, is_empty, is_process, is_some, is_sorted}
use Rattle.zl_calls.proofs.Common.{is_sorted-update, length, listed, lives, looked_up, map, may_choose, more_same, narrowed, nat_cmp, nat_lt, nat_tests}
use Rattle.zl_calls.proofs.Common.{new_handles, next_for, no_value, none_raised, not, object_value, on_process, one_value, operands_fault, option_map}
use Rattle.zl_calls.proofs.Common.{option_or, passes, plain_refusal, process_entry, process_value, process_with, process_without, put, refl, remove_all}
use Rattle.zl_calls.proofs.Common.{replace, replace_refusal, replied, result_err, same_Some, same_map, sorted_put, sorted_without, state_value, status_of}
use Rattle.zl_calls.proofs.Common.{subst, sym, table_of, taken, taken_all, taken_handles, told_by, true, update, wants_memory, wants_nothing, with_effect}
use Rattle.zl_calls.proofs.Common.{with_rights, within, without, without_handle, world_value, ℕ, ◌<◌, ◌==◌, ◌^◌, ◌||◌, ◌∙◌, ◌∷◌, ◌≡◌, ◌⊎◌}
use Rattle.zl_code.proofs.Common.{narrowed_within}
use Rattle.zl_rights.specs.declared.status.Status.TheVariants as status
use Rattle.zl_code.specs.declared.history.Outcome.TheVariants as outcome
use Rattle.zl_calls.proofs.objects.SameButWaits.{beside_consistent, beside_world}
use Rattle.zl_rights.proofs.Values.{given_taken}
use Rattle.zl_code.specs.Tests.{info_of}
use Rattle.zl_calls.proofs.calls.Owned.{IsOwn, own_call_of, own_entered, own_plain, own_refused, own_written}
use Rattle.zl_calls.proofs.calls.Answered.{IsWrite, asking, may_get_inserted, replied_inserted, replied_with, replies_none, same_world, table_is}
use Rattle.zl_calls.proofs.calls.DoneCalls.{IsDone, IsDoneBy, IsCalled, answered_done}
use Rattle.zl_calls.proofs.step.FromConsistent.{call_settles, full_counted}
use Rattle.zl_calls.proofs.objects.Counting.{counts_written, sum_update}
use Rattle.zl_calls.proofs.calls.Refused.{answers, any_looked_up, first_looked_up, is_found, one_test, three_tests}
use Rattle.zl_calls.proofs.calls.TakenCalls.{closed, replied_taking, taking_done}
use Rattle.zl_calls.proofs.objects.Settled.{IsSettled, still_settles, sound_of}
use Rattle.zl_calls.proofs.processes.Written.{refusal_keeps, entered, one_entered, same_agrees}
use Rattle.zl_rights.proofs.MapEdits.{length-update}
use Rattle.zl_calls.proofs.lists.Updates.{update_twice, update_unseen}
use Rattle.zl_calls.proofs.objects.Held.{held_value, holding_kept, holding_sound}
use Rattle.zl_calls.proofs.objects.SameBodies.{named_updated}

-- ---- the answer of close

close_refused : (lib : Library) (w : World) (p h : ℕ)
    → plain_refusal lib w p (close h) ≡ (if has_key (table_of w p) h || h == 0 then None else Some (outcome.Answered status.BadHandle))
unfolding plain_refusal handle_operands operands_fault listed
close_refused lib w p h = by_entry (h == 0) (get (table_of w p) h)
  where
    by_entry : (zero : Bool) (o : Option Entry) → first_some (answers (option_or (if zero then None else result_err (granted o any 0)) None) ∷ [])
        ≡ (if is_some o || zero then None else Some (outcome.Answered status.BadHandle))
    by_entry true None = refl
    by_entry true (Some e) = refl
    by_entry false None = refl
    by_entry false (Some e) = rw (none_raised (bits e.rights)) refl

-- a value that is put in again in the place of the old one
put_again : {X : Type 0} (m : Map X) (k : ℕ) (x : X) (f : X → X) → IsTrue (is_sorted nat_cmp m) → get m k ≡ Some x → update m k f ≡ put (without m k) k (f x)
put_again {X} m k x f sorted there =
    same_map (update m k f) (put (without m k) k (f x)) (passes _ (is_sorted-update m k f ∙ sorted))
    (passes _ (sorted_put (without m k) k (f x) (sorted_without m k sorted)))
    (λ j. get-update m k f j ∙ (by_key j (cases_Bool (k == j)) ∙ sym (get-put (without m k) k (f x) j)))
  where
    by_key : (j : ℕ) → IsTrue (k == j) ⊎ ((k == j) ≡ false)
        → (if k == j then option_map f (get m j) else get m j) ≡ (if k == j then Some (f x) else get (without m k) j)
    by_key j (inl here) = rw (here, ← eqb-true k j here, there) refl
    by_key j (inr apart) = rw (apart, get-without m k j, apart) refl

-- a process of the world, before and after its call
module _ {before after : List Process} {r : Objects} {p p2 : Process} (lib : Library) (r2 : Objects) (consistent : IsConsistent before r)
    (write : IsWrite before after p p2) where
  abbrev w : World
  w = world_value before r

  -- ---- close

  module _ (h : ℕ) (base : Site)
      (answer : Status) (is_answer : answer ≡ close_answer p.table.entries h) (table : p2.table ≡ without_handle p.table h)
      (objects : Closes (get p.table.entries h) r r2)
      (replies : Replies (asking (close h) base) answer [] p p2) where
    -- ---- the relation of calls

    abbrev close_site : Site
    close_site = asking (close h) base

    close_ends : world_value after r ≡ replied (taken w p.pid close_site) p.pid close_site answer []
    unfolding remove_all taken_handles handle_operands on_process
    close_ends = replied_taking write (h ∷ []) table w r close_site answer [] (remove_all w p.pid (h ∷ [])) refl refl refl replies

    close_chosen : IsTrue (may_choose w (taken w p.pid close_site) p.pid (close h) [])
    unfolding may_choose new_handles remove_all taken_handles handle_operands on_process
    close_chosen = rw (get-update w.processes p.pid (process_without h) p.pid, eq-eqb p.pid p.pid refl, write.there) refl

    -- and what the lab itself would choose
    calls : (c : PlainCalls lib w p.pid close_site (outcome.Answered answer) (world_value after r))
        × (is_process w lives p.pid ≡ true → IsOwn before after r p.pid (close h) c.0)
    unfolding effect gives_ok gives_refused new_handles insert_all taken_handles handle_operands
    calls = by_test (has_key p.table.entries h || h == 0) (close_refused lib w p.pid h ∙ rw (table_is write r) refl) is_answer
      where
        by_test : (passes : Bool) → plain_refusal lib w p.pid close_site.request ≡ (if passes then None else Some (outcome.Answered status.BadHandle))
            → answer ≡ (if passes then status.Ok else status.BadHandle) → (c : PlainCalls lib w p.pid close_site (outcome.Answered answer)
            (world_value after r)) × (is_process w lives p.pid ≡ true → IsOwn before after r p.pid (close h) c.0)
        by_test true refused same = (
          (Values [], rw refused (close_chosen, ap (λ (x : Status). outcome.Answered x) same, close_ends ∙ rw same refl)),
          λ living. own_entered write r living (close h) [] [] table refl refl refl,
        )
        by_test false refused same = (
          (Refused, rw refused (ap (λ (x : Status). outcome.Answered x) same, close_ends ∙ rw same refl)),
          λ living. own_refused write r living (close h) table,
        )

    -- ---- the step

    closes : IsSettled after r r2
    closes = by_entry (get p.table.entries h) refl objects
      where
        state_same : p2.state ≡ p.state
        state_same = ap (λ (q : Process). q.state) replies

        kept : get p.table.entries h ≡ None → IsConsistent after r
        kept missing = refusal_keeps write r consistent (table ∙ rw missing refl) state_same

        by_entry : (o : Option Entry) → get p.table.entries h ≡ o → Closes o r r2 → IsSettled after r r2
        by_entry None missing same = rw same (record { consistent = kept missing; settles = still_settles after r (kept missing) })
        by_entry (Some e) there releases = closed write (h ∷ []) table r consistent state_same r2 (rw there releases)

    close_answered : (ready : state_value p.state ≡ Ready) (call : CallName) → next_for lib (process_value p) ≡ AtCall call close_site
        → IsDone lib before after r r2 p.pid call (outcome.Answered answer)
    close_answered ready call next = record {
      step = call_settles lib before after r r r2 p call close_site (outcome.Answered answer) write.there ready next calls.0 closes.settles;
      own = own_call_of lib before after r r2 p call close_site (outcome.Answered answer) write.there next (world_value after r) calls.0 calls.1 closes.settles;
      consistent = closes.consistent;
    }

  pub close_done : (h : ℕ) (base : Site)
      → IsDoneBy lib before after r r2 p p2 (asking (close h) base) (told_by no_value) (CloseDoes h)
  close_done h base ready call next o acts =
      rw acts.ends (close_answered h base (status_of acts.answer) acts.acts.answered acts.acts.table acts.acts.objects
      (replies_none (asking (close h) base) p p2 acts.answer acts.replied) ready call next)

  -- ---- dup

  module _ (h asked : ℕ) (base : Site) where
    abbrev dup_site : Site
    dup_site = asking (dup h asked) base

    refused : plain_refusal lib w p.pid dup_site.request ≡ answers (dup_refusal p.table.entries r.objects h asked)
    unfolding handle_operands operands_fault listed has_room
    refused =
        any_looked_up lib w p.pid p.table.entries (table_is write r) dup_site.request (dup_refusal p.table.entries r.objects h asked)
        h DUPLICATE refl (λ is. rw is refl) (λ e at. rw (table_is write r, at, full_counted before r consistent p write.there h e at)
        (three_tests (not (within DUPLICATE (bits e.rights))) (is_empty (with_rights e (narrowed e.rights asked)))
        (not (has_room_in p.table.entries) || not (has_place (get r.objects e.koid))) status.AccessDenied status.InvalidArgs status.NoResources))

    module _ (made : ℕ) (dups : Dups p.table r h asked made p2.table r2) (replies : Replies dup_site status.Ok (made ∷ []) p p2) where
      abbrev k : ℕ
      k = dups.original.koid

      abbrev copy : Entry
      copy = record dups.original { rights = dups.granted }

      -- ---- the relation of calls

      copied : copy_of (entry_at w p.pid h) asked ≡ copy ∷ []
      copied = rw (table_is write r, dups.was, dups.allowed) refl

      rest : (record w { processes = map process_entry after }) ≡ world_value after r2
      rest =
          rw dups.objects (ap (λ (os : Map ObjectValue). record w { processes = map process_entry after; objects = os })
          (sym (update_unseen object_value r.objects k held_once_more held_value)))

      dup_chosen : IsTrue (may_choose w (taken w p.pid dup_site) p.pid (dup h asked) (made ∷ []))
      unfolding taken_handles handle_operands remove_all may_choose new_handles
      dup_chosen = rw (copied, write.there, may_get_inserted p p2 copy made dups.inserts) refl

      dup_ends : world_value after r2
          ≡ replied (with_effect lib w (taken w p.pid dup_site) p.pid (dup h asked) (made ∷ [])) p.pid dup_site status.Ok (made ∷ [])
      unfolding taken_handles handle_operands remove_all new_handles effect insert_all
      dup_ends = rw copied (replied_inserted write r2 dup_site made copy w refl rest dups.inserts replies)

      -- ---- the invariant

      named : IsNamed r.objects dups.original
      named = consistent.named p.pid (process_value p) h dups.original write.there dups.was

      copy_named : IsNamed r.objects copy
      copy_named = record {
        object = named.object;
        there = named.there;
        kind = named.kind;
        rights = narrowed_within dups.original.rights asked dups.granted (default_rights_of dups.original.kind) dups.allowed named.rights;
      }

      room : (o : Object) → get r.objects k ≡ Some o → o.handles < 2 ^ 62
      room o at = let place : IsTrue (nat_lt o.handles (2 ^ 62)) = rw (at) at dups.place in grind (arith, nat_tests, place)

      held : AreSound before ((made, copy) ∷ []) (holding r k)
      unfolding get put
      held = holding_sound before [] r made copy (sound_of before r consistent) refl room

      dup_called : IsCalled lib before after r r2 p.pid dup_site (outcome.Answered status.Ok)
      unfolding gives_ok new_handles taken_handles handle_operands
      dup_called = record {
        calls = (Values (made ∷ []), rw (refused, dups.unrefused) (dup_chosen, refl, dup_ends));
        own = λ living. own_plain write r living dup_site.request
            (record { none = refl; chosen = ap (λ (es : List Entry). length es) copied; made = ap (λ (es : List Entry). length es) copied; own = refl })
            (copy ∷ []) (made ∷ []) refl (record { between = p2.table; inserts = dups.inserts; rest = refl });
        keeps = rw dups.objects (one_entered write copy made dups.inserts (holding r k) held (holding_kept before [] r made copy consistent.kept)
            (ap (λ (q : Process). q.state) replies) dups.room (named_updated held_once_more more_same r.objects k copy copy_named));
      }

    -- ---- the step

    pub dup_done : IsDoneBy lib before after r r2 p p2 dup_site (told_by one_value) (DupDoes h asked)
    unfolding taken_handles handle_operands remove_all gives_refused
    dup_done =
        answered_done lib r2 consistent write dup_site one_value (DupDoes h asked) (Dups p.table r h asked) wants_memory
        (dup_refusal p.table.entries r.objects h asked) (λ answer acts. acts) refused refl refl (λ answer. refl) dup_called

  -- ---- replace

  module _ (h asked : ℕ) (base : Site) where
    abbrev replace_site : Site
    replace_site = asking (replace h asked) base

    replace_refused : plain_refusal lib w p.pid replace_site.request ≡ answers (replace_refusal p.table.entries h asked)
    unfolding handle_operands operands_fault listed
    replace_refused =
        any_looked_up lib w p.pid p.table.entries (table_is write r) replace_site.request (replace_refusal p.table.entries h asked) h 0 refl (λ is. rw is refl)
        (λ e at. rw (table_is write r, at, none_raised (bits e.rights)) (one_test (is_empty (with_rights e (narrowed e.rights asked))) status.InvalidArgs))

    module _ (made : ℕ) (replaces : Replaces p.pid p.table r h asked made p2.table r2) (replies : Replies replace_site status.Ok (made ∷ []) p p2) where
      abbrev narrower : Entry → Entry
      narrower e = record e { rights = replaces.granted }

      abbrev replacement : Entry
      replacement = narrower replaces.original

      before_it : IsTable p.table.entries
      before_it = consistent.tables p.pid (process_value p) write.there

      -- ---- the relation of calls

      -- the process with the new handle in the place of the old one
      abbrev replaced : ProcessValue → ProcessValue
      replaced q = process_with h replacement (process_without h q)

      is_copy : copy_of (entry_at w p.pid h) asked ≡ replacement ∷ []
      is_copy = rw (table_is write r, replaces.was, replaces.allowed) refl

      is_replaced : process_value p2
          ≡ record (replaced (process_value p)) { cpu = cpu_answered replace_site status.Ok (h ∷ []) (replaced (process_value p)).cpu }
      is_replaced = ap process_value replies ∙ rw (replaces.was) (λ i. record (process_value p) {
        cpu = cpu_answered replace_site status.Ok (replaces.same_value i ∷ []) p.cpu;
        handles = entries_again i;
        last = replaces.last i;
      })
        where
          entries_again : p2.table.entries ≡ put (without p.table.entries h) h replacement
          entries_again = replaces.entries ∙ put_again p.table.entries h replaces.original narrower before_it.sorted replaces.was

      replace_chosen : IsTrue (may_choose w (taken w p.pid replace_site) p.pid (replace h asked) [])
      unfolding may_choose remove_all taken_handles handle_operands on_process
      replace_chosen = rw (get-update w.processes p.pid (process_without h) p.pid, eq-eqb p.pid p.pid refl, write.there) refl

      replace_ends : world_value after r2
          ≡ replied (with_effect lib w (taken w p.pid replace_site) p.pid (replace h asked) []) p.pid replace_site status.Ok (h ∷ [])
      unfolding taken_handles handle_operands remove_all new_handles effect insert_all on_process
      replace_ends =
          rw is_copy (replied_with write r2 replace_site status.Ok (h ∷ []) replaced
          (on_process (taken w p.pid replace_site) p.pid (process_with h replacement))
          (update_twice (map process_entry before) p.pid (process_without h) (process_with h replacement)) same_rest is_replaced)
        where
          same_rest : (record (on_process (taken w p.pid replace_site) p.pid (process_with h replacement)) { processes = map process_entry after })
              ≡ world_value after r2
          same_rest = sym (beside_world after r r2 replaces.ends.beside)

      -- ---- the invariant

      replacement_named : IsNamed r.objects replaces.original → IsNamed r.objects replacement
      replacement_named named = record {
        object = named.object;
        there = named.there;
        kind = named.kind;
        rights = narrowed_within replaces.original.rights asked replaces.granted (default_rights_of replaces.original.kind) replaces.allowed named.rights;
      }

      still_named : (v : ℕ) (e : Entry) → get p2.table.entries v ≡ Some e → IsNamed r.objects e
      still_named v e at =
          by_key (cases_Bool (h == v)) (sym (get-update p.table.entries h narrower v) ∙ (ap (λ (m : Map Entry). get m v) (sym replaces.entries) ∙ at))
        where
          old : (x : ℕ) (q : Entry) → get p.table.entries x ≡ Some q → IsNamed r.objects q
          old x q was = consistent.named p.pid (process_value p) x q write.there was

          by_key : IsTrue (h == v) ⊎ ((h == v) ≡ false) → (if h == v then option_map narrower (get p.table.entries v) else get p.table.entries v) ≡ Some e
              → IsNamed r.objects e
          by_key (inl here) read =
              subst (IsNamed r.objects) (same_Some replacement e (rw (here, ← eqb-true h v here, replaces.was) at read))
              (replacement_named (old h replaces.original replaces.was))
          by_key (inr apart) read = old v e (rw apart at read)

      table_again : IsTable p2.table.entries
      table_again = record {
        sorted = rw (replaces.entries, is_sorted-update p.table.entries h narrower) before_it.sorted;
        few = rw (replaces.entries, length-update p.table.entries h narrower) before_it.few;
        values = λ v has. before_it.values v (sym (has_key-update p.table.entries h narrower v) ∙ (rw replaces.entries at has));
      }

      -- as many handles name each object as before
      recounted : (j : ℕ) → handles_to (world_value after r) j ≡ handles_to w j
      recounted j = counts_written before after p p2 r r j 0 write refl
          (rw replaces.entries (sum_update (λ x. cond (x.1.koid == j) 1 0) p.table.entries h 0 replaces.original narrower replaces.was (omega arith)))
          ∙ omega arith

      replace_called : IsCalled lib before after r r2 p.pid replace_site (outcome.Answered status.Ok)
      unfolding gives_ok new_handles taken_handles handle_operands taken_all coming
      replace_called = record {
        calls = (Values [], rw (replace_refused, replaces.unrefused) (replace_chosen, refl, replace_ends));
        own = λ living. own_written write r living replace_site.request [] refl (rw (is_copy, replaces.was) (replaces.free
            ∙ sym (given_taken h p.table.free (before_it.values h (rw replaces.was refl)).0))) refl;
        keeps = beside_consistent after r r2 replaces.ends.beside
            (entered write [] r (sound_of before r consistent) consistent.kept
            (same_agrees write (ap (λ (q : Process). q.state) replies) r) table_again still_named (λ j. omega (arith, recounted j)));
      }

    -- ---- the step

    pub replace_done : IsDoneBy lib before after r r2 p p2 replace_site (told_by one_value) (ReplaceDoes p.pid h asked)
    unfolding taken_handles handle_operands gives_refused
    replace_done ready call next o acts =
        taking_done lib r2 consistent write ready call replace_site next (h ∷ []) refl one_value (Replaces p.pid p.table r h asked) wants_nothing
        (replace_refusal p.table.entries h asked) replace_refused refl (λ answer. refl) replace_called o acts.answer acts.acts acts.replied acts.ends

  -- ---- handle_info

  module _ (h : ℕ) (base : Site) where
    abbrev info_site : Site
    info_site = asking (handle_info h) base

    abbrev found : Result Entry Status
    found = looked_up p.table.entries h [] 0

    info_refused : plain_refusal lib w p.pid (handle_info h) ≡ answers (result_err found)
    unfolding handle_operands operands_fault listed
    info_refused =
        first_looked_up lib w p.pid p.table.entries (table_is write r) (handle_info h) (result_err found) h any 0 None refl (λ s is. rw is refl)
        (λ e is at. rw is refl)

    info_does : (answer : Result Entry Status) → HandleInfoDoes h p.table r answer p2.table r2
        → Does (λ e t2 o2. HandleInfoDoes h p.table r (Ok e) t2 o2) wants_nothing (result_err found) p.table r answer p2.table r2
    info_does (Ok e) acts = record { ok = acts; err = tt; same_table = tt; same_objects = tt }
    info_does (Err s) acts = record {
      ok = tt;
      err = subst (λ (x : Result Entry Status). IsRefusedBy wants_nothing (result_err x) s) acts.answered refl;
      same_table = acts.table;
      same_objects = acts.objects;
    }

    info_called : (e : Entry) → HandleInfoDoes h p.table r (Ok e) p2.table r2 → Replies info_site status.Ok (info_values e) p p2
        → IsCalled lib before after r r2 p.pid info_site (outcome.Answered status.Ok)
    unfolding may_choose effect gives_ok gives_refused new_handles insert_all remove_all taken_handles handle_operands
    info_called e acts replies = record {
      calls = (
        Values [],
        rw (info_refused, ← acts.answered) (
          rw write.there refl,
          refl,
          same_world write r r2 info_site status.Ok (info_values e) acts.table acts.objects replies
              ∙ ap (λ (o : Option Entry). replied w p.pid info_site status.Ok (info_of o)) (sym seen),
        ),
      );
      own = λ living. own_plain write r living info_site.request
          (record { none = refl; chosen = refl; made = refl; own = refl }) [] [] refl acts.table;
      keeps = subst (IsConsistent after) (sym acts.objects) (refusal_keeps write r consistent acts.table (ap (λ (q : Process). q.state) replies));
    }
      where
        seen : entry_at w p.pid h ≡ Some e
        seen = rw (table_is write r) (is_found (get p.table.entries h) [] 0 e (sym acts.answered))

    pub info_done : IsDoneBy lib before after r r2 p p2 info_site (told_by info_values) (HandleInfoDoes h)
    unfolding taken_handles handle_operands remove_all gives_refused
    info_done =
        answered_done lib r2 consistent write info_site info_values (HandleInfoDoes h) (λ e t2 o2. HandleInfoDoes h p.table r (Ok e) t2 o2) wants_nothing
        (result_err found) info_does info_refused refl refl (λ answer. refl) (λ e acts replies. info_called e acts replies)
