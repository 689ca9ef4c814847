-- What each call leaves of handles and objects, if it takes no handle, and of the list of registered waits: replace ends its own, and others end with
-- objects and ports alone.
use Rattle.zl_calls.proofs.Common.{Acted, ActsHere, Body, Bool, CallName, ChanReadDoes, ChanWriteDoes, Does, Entry, Err, Handles, IsRefusedBy, KeepSleepers}
use Rattle.zl_calls.proofs.Common.{List, ListsBut, ListsWithout, MakesOne, MakesPair, None, Object, Objects, Ok, Option, Outcome, Pair, Process, ReadFault}
use Rattle.zl_calls.proofs.Common.{Received, ReplaceDoes, Request, Result, Site, Some, Status, Wait, action_asked, ap, calls_at, chan_create, chan_read_etc}
use Rattle.zl_calls.proofs.Common.{chan_read_slots, chan_write, chan_write_slots, close, dup, event_create, eventpair_create, false, false≢true, filter, get}
use Rattle.zl_calls.proofs.Common.{handle_info, inl, inr, is_empty, is_end, job_create, job_set_policy, keeps_handles, looks_at_waits, name_of, narrowed}
use Rattle.zl_calls.proofs.Common.{next_looks, port_cancel, port_create, port_poll, port_queue, port_wait, process_exit, process_start, refl, replace}
use Rattle.zl_calls.proofs.Common.{replace_refusal_of, signal, signal_peer, status_of, subst, sym, task_kill, then_some, true, true≢false, update, wait_async}
use Rattle.zl_calls.proofs.Common.{wait_one, wait_poll, waits_after, waits_by, wants_nothing, with_new, with_pair, with_rights, ℕ, ⊤, ◌&&◌, ◌==◌, ◌∙◌, ◌≡◌}
use Rattle.zl_code.specs.declared.history.Outcome.TheVariants as outcome
use Rattle.zl_code.specs.declared.history.TraceItem.TheVariants as item
use Rattle.zl_rights.specs.declared.status.Status.TheVariants as status
use Rattle.zl_calls.proofs.calls.Refused.{nothing_wanted}
use Rattle.zl_calls.proofs.waits.WaitsLost.{lists_wide}
use Rattle.zl_calls.proofs.calls.Answered.{asking}

-- a refusal of replace isn't OK
refused_replace : (e : Option Entry) (h asked pid : ℕ) (ws : List Wait) (s : Status) → IsRefusedBy wants_nothing (replace_refusal_of asked e) s
    → waits_after (replace h asked) (outcome.Answered s) pid ws ≡ ws
refused_replace None h asked pid ws s err = rw err refl
refused_replace (Some e) h asked pid ws s err = by_test (is_empty (with_rights e (narrowed e.rights asked))) err
  where
    by_test : (b : Bool) → IsRefusedBy wants_nothing (then_some b status.InvalidArgs) s → waits_after (replace h asked) (outcome.Answered s) pid ws ≡ ws
    by_test true err = rw err refl
    by_test false err = absurd (nothing_wanted s err)

-- ---- a call that takes no handle, and doesn't look at waits

-- it leaves the list as it was
pub record Stays (r r2 : Objects) : Type 0 where
  pub waits : r2.waits ≡ r.waits
  pub made : r2.waits_made ≡ r.waits_made
  pub asleep : KeepSleepers r r2

module _ (p p2 : Process) (r r2 : Objects) where
  -- the objects are these
  stays : (x : Objects) → r2 ≡ x → x.waits ≡ r.waits → x.waits_made ≡ r.waits_made → KeepSleepers r x → Stays r r2
  stays x is same made asleep = record {
    waits = ap (λ (y : Objects). y.waits) is ∙ same;
    made = ap (λ (y : Objects). y.waits_made) is ∙ made;
    asleep = subst (KeepSleepers r) (sym is) asleep;
  }

  unchanged : r2 ≡ r → Stays r r2
  unchanged is = stays r is refl refl (refl, refl)

  -- one of them is as f leaves it
  changed : (k : ℕ) (f : Object → Object) → r2 ≡ record r { objects = update r.objects k f } → Stays r r2
  changed k f is = stays (record r { objects = update r.objects k f }) is refl refl (refl, refl)

  one_made : (b : Body) (made : ℕ) → MakesOne b p.table r made p2.table r2 → Stays r r2
  one_made b made makes = stays (with_new r b 1) makes.objects refl refl (refl, refl)

  pair_made : (pair : Pair) (made : ℕ × ℕ) → MakesPair pair p.table r made p2.table r2 → Stays r r2
  pair_made pair made makes = stays (with_pair r pair 1) makes.objects refl refl (refl, refl)

  -- where it is refused, nothing changes
  does_stay : {A : Type 0} (Done : A → Handles → Objects → Type 0) (wants : Status → Bool) (refusal : Option Status) (answer : Result A Status)
      → Does Done wants refusal p.table r answer p2.table r2 → ((x : A) → Done x p2.table r2 → Stays r r2) → Stays r r2
  does_stay Done wants refusal (Ok x) does done = done x does.ok
  does_stay Done wants refusal (Err s) does done = unchanged does.same_objects

  read_stays : (h room places : ℕ) (answer : Result Received ReadFault) → ChanReadDoes h room places p.table r answer p2.table r2 → Stays r r2
  read_stays h room places (Ok x) does = changed _ _ does.ok.objects
  read_stays h room places (Err s) does = unchanged does.same_objects

  module _ (o : Outcome) (s : Site) where
    abbrev ActsSo : Request → Type 0
    ActsSo request = ActsHere (action_asked p.pid request) (asking request s) p r o p2 r2

    pub request_stays : (request : Request) → keeps_handles (name_of request) ≡ true → looks_at_waits request ≡ false → ActsSo request → Stays r r2
    request_stays (close h) keeps plain acts = absurd (false≢true keeps)
    request_stays (replace h asked) keeps plain acts = absurd (false≢true keeps)
    request_stays (chan_write end bytes hs) keeps plain acts = absurd (false≢true keeps)
    request_stays (chan_write_slots end bytes hs) keeps plain acts = absurd (false≢true keeps)
    request_stays (process_exit code) keeps plain acts = absurd (false≢true keeps)
    request_stays (dup h asked) keeps plain acts = does_stay _ _ _ acts.answer acts.acts (λ x done. changed _ _ done.objects)
    request_stays chan_create keeps plain acts = does_stay _ _ _ acts.answer acts.acts (pair_made _)
    request_stays eventpair_create keeps plain acts = does_stay _ _ _ acts.answer acts.acts (pair_made _)
    request_stays (chan_read_etc h address room places) keeps plain acts = read_stays h room places acts.answer acts.acts
    request_stays (chan_read_slots h address room array places) keeps plain acts = read_stays h room places acts.answer acts.acts
    request_stays (handle_info h) keeps plain acts = unchanged acts.acts.objects
    request_stays event_create keeps plain acts = does_stay _ _ _ acts.answer acts.acts (one_made _)
    request_stays port_create keeps plain acts = does_stay _ _ _ acts.answer acts.acts (one_made _)
    request_stays (job_create j) keeps plain acts = does_stay _ _ _ acts.answer acts.acts (λ x done. one_made _ x done.makes)
    request_stays (signal h clear set) keeps plain acts = does_stay _ _ _ acts.answer acts.acts (λ x done. changed _ _ done.objects)
    request_stays (signal_peer h clear set) keeps plain acts = does_stay _ _ _ acts.answer acts.acts (λ x done. changed _ _ done.objects)
    request_stays (wait_one h mask) keeps plain (inl acts) = does_stay _ _ _ acts.answer acts.acts (λ x done. unchanged done.objects)
    request_stays (wait_one h mask) keeps plain (inr blocks) = unchanged blocks.objects
    request_stays (wait_poll h mask) keeps plain acts = unchanged acts.acts.objects
    request_stays (port_queue port key value) keeps plain acts = does_stay _ _ _ acts.answer acts.acts (λ x done. changed _ _ done.objects)
    request_stays (port_wait port) keeps plain (inl acts) = does_stay _ _ _ acts.answer acts.acts (λ x done. changed _ _ done.objects)
    request_stays (port_wait port) keeps plain (inr blocks) = unchanged blocks.objects
    request_stays (port_poll port) keeps plain acts = does_stay _ _ _ acts.answer acts.acts (λ x done. changed _ _ done.objects)
    request_stays (job_set_policy j mode condition action) keeps plain acts = does_stay _ _ _ acts.answer acts.acts (λ x done. changed _ _ done.objects)
    request_stays (wait_async h port key mask) keeps plain acts = absurd (true≢false plain)
    request_stays (port_cancel port source key) keeps plain acts = absurd (true≢false plain)
    request_stays _ keeps plain acts = absurd acts

    -- ---- any call that doesn't look at waits

    abbrev Listed : Request → Type 0
    Listed request = ListsWithout (λ k. is_end o && (k == p.pid)) (waits_after request o p.pid r.waits) r.waits_made r r2

    lists : r2.waits ≡ r.waits → r2.waits_made ≡ r.waits_made → KeepSleepers r r2 → {over : ℕ → Bool} → ListsWithout over r.waits r.waits_made r r2
    lists same made asleep = record { waits = λ test there. ap (filter test) same; made = made; asleep = asleep }

    -- none ends
    kept : ListsBut r.waits r.waits_made r r2 → ListsWithout (λ k. is_end o && (k == p.pid)) r.waits r.waits_made r r2
    kept = lists_wide (λ k ends. absurd (false≢true ends)) r.waits r.waits_made r r2

    written : (end : ℕ) (bytes hs : List ℕ) (answer : Result ⊤ Status) → ChanWriteDoes end bytes hs p.table r answer p2.table r2
        → Listed (chan_write end bytes hs)
    written end bytes hs (Ok done) does =
        lists (ap (λ (y : Objects). y.waits) does.ok.objects) (ap (λ (y : Objects). y.waits_made) does.ok.objects)
        (subst (KeepSleepers r) (sym does.ok.objects) (refl, refl))
    written end bytes hs (Err s) does = kept does.closed.listed.listed

    by_request : (request : Request) → looks_at_waits request ≡ false → ActsSo request → Listed request
    by_request (close h) plain acts = kept acts.acts.listed.listed
    by_request (replace h asked) plain acts = replaced acts.answer acts.ends acts.acts
      where
        replaced : (answer : Result ℕ Status) → o ≡ outcome.Answered (status_of answer) → ReplaceDoes p.pid h asked p.table r answer p2.table r2
            → Listed (replace h asked)
        replaced (Ok made) ends does = rw ends (record {
          waits = λ test there. ap (filter test) does.ok.ends.waits;
          made = does.ok.ends.made;
          asleep = does.ok.ends.asleep;
        })
        replaced (Err s) ends does = rw (ends, refused_replace (get p.table.entries h) h asked p.pid r.waits s does.err) does.closed.listed.listed
    by_request (chan_write end bytes hs) plain acts = written end bytes hs acts.answer acts.acts
    by_request (chan_write_slots end bytes hs) plain acts = written end bytes hs acts.answer acts.acts
    by_request (process_exit code) plain acts = rw acts.ends (acts.over.waits.keeps.listed)
    by_request (wait_async h port key mask) plain acts = absurd (true≢false plain)
    by_request (port_cancel port source key) plain acts = absurd (true≢false plain)
    by_request (process_start process h word) plain acts = absurd acts
    by_request (task_kill task) plain acts = absurd acts
    by_request request plain acts = let same : Stays r r2 = request_stays request refl refl acts in lists same.waits same.made same.asleep

-- ---- the call that stands next

-- replace ends its own waits where it is done; but for those no call that doesn't look at waits ends any by itself
pub acted_lists : (p p2 : Process) (r r2 : Objects) (pid : ℕ) (o : Outcome) (name : CallName) (at : Option Site) → p.pid ≡ pid
    → next_looks (calls_at name at) ≡ false → Acted at p r o p2 r2
    → ListsWithout (λ k. is_end o && (k == pid)) (waits_by (calls_at name at) (item.Call pid name o) r.waits) r.waits_made r r2
acted_lists p p2 r r2 pid o name None same plain acts = absurd acts
acted_lists p p2 r r2 pid o name (Some s) same plain acts = rw (← same) (by_request p p2 r r2 o s s.request plain acts)
