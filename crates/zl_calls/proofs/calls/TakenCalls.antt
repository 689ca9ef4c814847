-- A call that takes handles: they leave the table of its caller, and close where the call is refused.
use Rattle.zl_calls.proofs.Common.{AreSound, AtCall, Bool, CallName, DoesTaking, Entry, Err, Handles, IsConsistent, IsNamed, IsTable, IsTrue, Library, List}
use Rattle.zl_calls.proofs.Common.{Map, None, Objects, Ok, Option, Outcome, Process, ProcessValue, Ready, Releases, Replies, Result, Site, Some, Status, World}
use Rattle.zl_calls.proofs.Common.{[], ap, arith, cases_Bool, cond, count_by, cpu_answered, eq-eqb, eqb-true, false, false≢true, get, get-put, get-without}
use Rattle.zl_calls.proofs.Common.{given_back, has_key, if◌then◌else◌, inl, inr, is_some, is_sorted, koids_in, length-without, map, may_want, nat_cmp, next_for}
use Rattle.zl_calls.proofs.Common.{none-some, on_process, option_to_list, plain_refusal, process_entry, process_value, process_without, put, refl, remove_all}
use Rattle.zl_calls.proofs.Common.{replied, sorted_put, sorted_without, state_value, status_of, subst, sum_by-cons, sym, taken_from, taken_handles, true}
use Rattle.zl_calls.proofs.Common.{update, values_of, without, without_handle, without_handles, world_value, ℕ, ◌++◌, ◌+◌, ◌==◌, ◌∙◌, ◌∷◌, ◌≡◌, ◌⊎◌}
use Rattle.zl_rights.specs.declared.status.Status.TheVariants as status
use Rattle.zl_code.specs.declared.history.Outcome.TheVariants as outcome
use Rattle.zl_calls.proofs.calls.Answered.{IsWrite, replied_with, with_table}
use Rattle.zl_calls.proofs.objects.Counting.{count_put, count_without}
use Rattle.zl_calls.proofs.calls.DoneCalls.{IsDone, IsCalled, called_done}
use Rattle.zl_calls.proofs.step.FromConsistent.{call_settles}
use Rattle.zl_calls.proofs.calls.Owned.{own_call_of, own_refused}
use Rattle.zl_calls.proofs.calls.Refused.{TellsNothing, answers, refused_calls, refused_own}
use Rattle.zl_calls.proofs.objects.Settled.{IsSettled, settled}
use Rattle.zl_calls.proofs.processes.Stopped.{sound_after}
use Rattle.zl_calls.proofs.lists.Updates.{update_itself, update_twice}

-- ---- one handle leaves a table

-- the map with the entry at the value, if there is one
abbrev put_if : Option Entry → ℕ → Map Entry → Map Entry
put_if None v m = m
put_if (Some e) v m = put m v e

pub left_one : (t : Handles) (h v : ℕ) (e : Entry) → get (without_handle t h).entries v ≡ Some e → get t.entries v ≡ Some e
left_one t h v e at = by_live (has_key t.entries h) at
  where
    by_key : IsTrue (h == v) ⊎ ((h == v) ≡ false) → (if h == v then None else get t.entries v) ≡ Some e → get t.entries v ≡ Some e
    by_key (inl here) read = absurd (none-some e (rw here at read))
    by_key (inr apart) read = rw apart at read

    by_live : (live : Bool) → get (if live then record { entries = without t.entries h; last = Some h; free = given_back h t.free } else t).entries v ≡ Some e
        → get t.entries v ≡ Some e
    by_live true read = by_key (cases_Bool (h == v)) (sym (get-without t.entries h v) ∙ read)
    by_live false read = read

gone_one : (t : Handles) (h : ℕ) → get (without_handle t h).entries h ≡ None
gone_one t h = by_entry (get t.entries h) refl
  where
    by_entry : (o : Option Entry) → get t.entries h ≡ o
        → get (if is_some o then record { entries = without t.entries h; last = Some h; free = given_back h t.free } else t).entries h ≡ None
    by_entry None is = is
    by_entry (Some e) is = get-without t.entries h h ∙ rw (eq-eqb h h refl) refl

table_left : (t : Handles) (h : ℕ) → IsTable t.entries → IsTable (without_handle t h).entries
table_left t h table = by_entry (get t.entries h) refl
  where
    by_value : (v : ℕ) (o : Option Entry) → get (without t.entries h) v ≡ o → IsTrue (is_some o) → (if h == v then None else get t.entries v) ≡ o
        → IsTrue (has_key t.entries v)
    by_value v None is none read = absurd (false≢true none)
    by_value v (Some q) is some read = elim (cases_Bool (h == v)) as (λ _. IsTrue (has_key t.entries v)) [
      | inl here ↦ absurd (none-some q (rw here at read))
      | inr apart ↦ ap is_some (rw apart at read)
    ]

    by_entry : (o : Option Entry) → get t.entries h ≡ o
        → IsTable (if is_some o then record { entries = without t.entries h; last = Some h; free = given_back h t.free } else t).entries
    by_entry None is = table
    by_entry (Some e) is = record {
      sorted = sorted_without t.entries h table.sorted;
      few = omega (arith, table.few, length-without t.entries h table.sorted (rw is refl));
      values = λ v has. table.values v (by_value v (get (without t.entries h) v) refl has (sym (get-without t.entries h v)));
    }

-- ---- handles leave a table one after another

pub tables_left : (hs : List ℕ) (t : Handles) → IsTable t.entries → IsTable (without_handles t hs).entries
tables_left [] t table = table
tables_left (h ∷ hs) t table = tables_left hs (without_handle t h) (table_left t h table)

pub left_there : (hs : List ℕ) (t : Handles) (v : ℕ) (e : Entry) → get (without_handles t hs).entries v ≡ Some e → get t.entries v ≡ Some e
left_there [] t v e at = at
left_there (h ∷ hs) t v e at = left_one t h v e (left_there hs (without_handle t h) v e at)

-- the handles that leave so, by their values
abbrev pub taken_map : Handles → List ℕ → Map Entry
taken_map t [] = []
taken_map t (h ∷ hs) = put_if (get t.entries h) h (taken_map (without_handle t h) hs)

pub sorted_taken : (hs : List ℕ) (t : Handles) → IsTrue (is_sorted nat_cmp (taken_map t hs))
sorted_taken [] t = refl
sorted_taken (h ∷ hs) t = by_entry (get t.entries h) (sorted_taken hs (without_handle t h))
  where
    by_entry : (o : Option Entry) → IsTrue (is_sorted nat_cmp (taken_map (without_handle t h) hs))
        → IsTrue (is_sorted nat_cmp (put_if o h (taken_map (without_handle t h) hs)))
    by_entry None rest = rest
    by_entry (Some e) rest = sorted_put (taken_map (without_handle t h) hs) h e rest

-- a handle that left was there
pub taken_there : (hs : List ℕ) (t : Handles) (v : ℕ) (e : Entry) → get (taken_map t hs) v ≡ Some e → get t.entries v ≡ Some e
unfolding get
taken_there [] t v e at = absurd (none-some e at)
taken_there (h ∷ hs) t v e at = by_entry (get t.entries h) refl (λ there. left_one t h v e (taken_there hs (without_handle t h) v e there)) at
  where
    by_entry : (o : Option Entry) → get t.entries h ≡ o → (get (taken_map (without_handle t h) hs) v ≡ Some e → get t.entries v ≡ Some e)
        → get (put_if o h (taken_map (without_handle t h) hs)) v ≡ Some e → get t.entries v ≡ Some e
    by_entry None is rest read = rest read
    by_entry (Some x) is rest read = by_key (cases_Bool (h == v)) (sym (get-put (taken_map (without_handle t h) hs) h x v) ∙ read)
      where
        by_key : IsTrue (h == v) ⊎ ((h == v) ≡ false) → (if h == v then Some x else get (taken_map (without_handle t h) hs) v) ≡ Some e
            → get t.entries v ≡ Some e
        by_key (inl here) found = subst (λ (j : ℕ). get t.entries j ≡ Some e) (eqb-true h v here) (is ∙ rw here at found)
        by_key (inr apart) found = rest (rw apart at found)

-- none leaves twice
not_twice : (hs : List ℕ) (t : Handles) (h : ℕ) → get (taken_map (without_handle t h) hs) h ≡ None
not_twice hs t h = by_entry (get (taken_map (without_handle t h) hs) h) refl
  where
    by_entry : (o : Option Entry) → get (taken_map (without_handle t h) hs) h ≡ o → o ≡ None
    by_entry None is = refl
    by_entry (Some e) is = absurd (none-some e (sym (gone_one t h) ∙ taken_there hs (without_handle t h) h e is))

-- what left isn't counted any more
pub fewer_left : (test : ℕ × Entry → Bool) (hs : List ℕ) (t : Handles) → IsTable t.entries
    → count_by test t.entries ≡ count_by test (without_handles t hs).entries + count_by test (taken_map t hs)
fewer_left test [] t table = omega arith
fewer_left test (h ∷ hs) t table = by_entry (get t.entries h) refl (fewer_left test hs (without_handle t h) (table_left t h table))
  where
    left : List (ℕ × Entry)
    left = taken_map (without_handle t h) hs

    by_entry : (o : Option Entry) → get t.entries h ≡ o → count_by test (without_handle t h).entries
        ≡ count_by test (without_handles (without_handle t h) hs).entries + count_by test (taken_map (without_handle t h) hs) → count_by test t.entries
        ≡ count_by test (without_handles (without_handle t h) hs).entries + count_by test (put_if o h (taken_map (without_handle t h) hs))
    by_entry None is rest =
        let same : without_handle t h ≡ t = rw is refl in
        let counts : count_by test (without_handle t h).entries ≡ count_by test t.entries = ap (λ (x : Handles). count_by test x.entries) same in
        omega (arith, rest, counts)
    by_entry (Some e) is rest =
        let one : count_by test t.entries ≡ count_by test (without_handle t h).entries + cond (test (h, e)) 1 0 =
        count_without test t.entries h e table.sorted is ∙ rw is refl in
        omega (arith, rest, one, count_put test (taken_map (without_handle t h) hs) h e (not_twice hs t h))

-- the handles that left, in their order, name what those name by their values
pub same_koids : (k : ℕ) (hs : List ℕ) (t : Handles)
    → count_by (λ j. j == k) (koids_in (taken_from t hs)) ≡ count_by (λ (x : ℕ × Entry). x.1.koid == k) (taken_map t hs)
same_koids k [] t = refl
same_koids k (h ∷ hs) t = by_entry (get t.entries h) (same_koids k hs (without_handle t h))
  where
    by_entry : (o : Option Entry) → count_by (λ j. j == k) (koids_in (taken_from (without_handle t h) hs))
        ≡ count_by (λ (x : ℕ × Entry). x.1.koid == k) (taken_map (without_handle t h) hs)
        → count_by (λ j. j == k) (koids_in (option_to_list o ++ taken_from (without_handle t h) hs))
        ≡ count_by (λ (x : ℕ × Entry). x.1.koid == k) (put_if o h (taken_map (without_handle t h) hs))
    by_entry None rest = rest
    by_entry (Some e) rest = omega (
      arith,
      rest,
      sum_by-cons (λ (j : ℕ). cond (j == k) 1 0) e.koid (koids_in (taken_from (without_handle t h) hs)),
      count_put (λ (x : ℕ × Entry). x.1.koid == k) (taken_map (without_handle t h) hs) h e (not_twice hs t h),
    )

-- ---- the same in a world

-- the process without the handles at these values
abbrev pub process_without_all : List ℕ → ProcessValue → ProcessValue
process_without_all [] q = q
process_without_all (h ∷ hs) q = process_without_all hs (process_without h q)

pub removed : (hs : List ℕ) (w : World) (p : ℕ) → remove_all w p hs ≡ on_process w p (process_without_all hs)
unfolding remove_all on_process
removed [] w p = ap (λ (ps : Map ProcessValue). record w { processes = ps }) (sym (update_itself w.processes p))
removed (h ∷ hs) w p =
    removed hs (on_process w p (process_without h)) p
    ∙ ap (λ (ps : Map ProcessValue). record w { processes = ps }) (update_twice w.processes p (process_without h) (process_without_all hs))

without_one : (h : ℕ) (t : Handles) (q : ProcessValue) → process_without h (with_table t q) ≡ with_table (without_handle t h) q
without_one h t q = by_live (has_key t.entries h)
  where
    by_live : (live : Bool) → (if live then record (with_table t q) { handles = without t.entries h; last = Some h } else with_table t q)
        ≡ record q {
          handles = (if live then record { entries = without t.entries h; last = Some h; free = given_back h t.free } else t).entries;
          last = (if live then record { entries = without t.entries h; last = Some h; free = given_back h t.free } else t).last;
        }
    by_live true = refl
    by_live false = refl

without_all : (hs : List ℕ) (t : Handles) (q : ProcessValue) → process_without_all hs (with_table t q) ≡ with_table (without_handles t hs) q
without_all [] t q = refl
without_all (h ∷ hs) t q = ap (process_without_all hs) (without_one h t q) ∙ without_all hs (without_handle t h) q

-- ---- the call of a process

-- p2 is the process p after a call that took the handles at hs
module _ {before after : List Process} {p p2 : Process} (write : IsWrite before after p p2) (hs : List ℕ) (table : p2.table ≡ without_handles p.table hs) where
  -- the world after the answer, from one without the handles
  pub replied_taking : (w : World) (r2 : Objects) (s : Site) (answer : Status) (values : List ℕ) (middle : World)
      → w.processes ≡ map process_entry before → middle.processes ≡ (remove_all w p.pid hs).processes
      → (record middle { processes = map process_entry after }) ≡ world_value after r2 → Replies s answer values p p2
      → world_value after r2 ≡ replied middle p.pid s answer values
  unfolding on_process
  replied_taking w r2 s answer values middle same so_far rest replies =
      replied_with write r2 s answer values (process_without_all hs) middle
      (so_far ∙ (ap (λ (v : World). v.processes) (removed hs w p.pid) ∙ ap (λ (ps : Map ProcessValue). update ps p.pid (process_without_all hs)) same)) rest is
    where
      left : process_without_all hs (process_value p) ≡ with_table (without_handles p.table hs) (process_value p)
      left = without_all hs p.table (process_value p)

      is : process_value p2
          ≡ record (process_without_all hs (process_value p)) { cpu = cpu_answered s answer values (process_without_all hs (process_value p)).cpu }
      is = ap process_value replies ∙ (rw (table, left) refl)

  module _ (r : Objects) (consistent : IsConsistent before r) (same_state : p2.state ≡ p.state) where
    old_table : IsTable p.table.entries
    old_table = consistent.tables p.pid (process_value p) write.there

    pub new_table : IsTable p2.table.entries
    new_table = rw table (tables_left hs p.table old_table)

    -- a handle that is left was there
    pub was_there : (v : ℕ) (e : Entry) → get p2.table.entries v ≡ Some e → get p.table.entries v ≡ Some e
    was_there v e at = left_there hs p.table v e (ap (λ (t : Handles). get t.entries v) (sym table) ∙ at)

    pub named_before : (v : ℕ) (e : Entry) → get p.table.entries v ≡ Some e → IsNamed r.objects e
    named_before v e at = consistent.named p.pid (process_value p) v e write.there at

    pub fewer : (j : ℕ) → count_by (λ x. x.1.koid == j) p.table.entries
        ≡ count_by (λ x. x.1.koid == j) p2.table.entries + count_by (λ (x : ℕ × Entry). x.1.koid == j) (taken_map p.table hs)
    fewer j = fewer_left (λ x. x.1.koid == j) hs p.table old_table ∙ rw table refl

    -- they have left the table, and count still
    pub taken_sound : AreSound after (taken_map p.table hs) r
    taken_sound = sound_after write r consistent (taken_map p.table hs) new_table fewer (λ v e at. named_before v e (was_there v e at)) same_state

    -- the handles close
    pub closed : (r2 : Objects) → Releases (koids_in (taken_from p.table hs)) [] r r2 → IsSettled after r r2
    closed r2 releases =
        settled after (taken_map p.table hs) r taken_sound (sorted_taken hs p.table) (λ v e at. named_before v e (taken_there hs p.table v e at))
        (koids_in (taken_from p.table hs)) (λ k. same_koids k hs p.table) r2 releases.cascades (releases.keeps [] consistent.kept) releases.koids

-- ---- the step

-- a ready process of the world, at a call that takes the handles at hs and is either done or refused
module _ {before after : List Process} {r : Objects} {p p2 : Process} (lib : Library) (r2 : Objects) (consistent : IsConsistent before r)
    (write : IsWrite before after p p2)
    (ready : state_value p.state ≡ Ready)
    (call : CallName) (s : Site) (next : next_for lib (process_value p) ≡ AtCall call s) (hs : List ℕ) (takes : taken_handles s.request ≡ hs) where
  abbrev w : World
  w = world_value before r

  module _ {A : Type 0} (values : A → List ℕ) (Done : A → Handles → Objects → Type 0) (wants : Status → Bool) (o : Option Status)
      (refused : plain_refusal lib w p.pid s.request ≡ answers o) (wanting : wants ≡ may_want s.request) (nothing : TellsNothing lib w p.pid s)
      (done : (x : A) → Done x p2.table r2 → Replies s status.Ok (values x) p p2 → IsCalled lib before after r r2 p.pid s (outcome.Answered status.Ok)) where
    refused_done : (answer : Status) → DoesTaking Done wants o hs p.table r (Err answer) p2.table r2 → Replies s answer [] p p2
        → IsDone lib before after r r2 p.pid call (outcome.Answered answer)
    unfolding on_process
    refused_done answer does replies =
        let left : IsSettled after r r2 = closed write hs does.closed.table r consistent (ap (λ (q : Process). q.state) replies) r2 does.closed.objects in
        record {
          step = call_settles lib before after r r r2 p call s (outcome.Answered answer) write.there ready next
              (refused_calls lib w p.pid s wants o answer (world_value after r) nothing refused wanting does.err answered) left.settles;
          own = own_call_of lib before after r r2 p call s (outcome.Answered answer) write.there next (world_value after r)
              (refused_calls lib w p.pid s wants o answer (world_value after r) nothing refused wanting does.err answered)
              (λ living. refused_own lib w p.pid s before after r wants o answer (world_value after r) nothing refused wanting does.err answered
              (own_refused write r living s.request (does.closed.table ∙ ap (without_handles p.table) (sym takes)))) left.settles;
          consistent = left.consistent;
        }
      where
        rest : (record (remove_all w p.pid hs) { processes = map process_entry after }) ≡ world_value after r
        rest = rw (removed hs w p.pid) refl

        answered : world_value after r ≡ replied (remove_all w p.pid (taken_handles s.request)) p.pid s answer []
        answered = rw takes (replied_taking write hs does.closed.table w r s answer [] (remove_all w p.pid hs) refl refl rest replies)

    by_answer : (answer : Result A Status) → DoesTaking Done wants o hs p.table r answer p2.table r2
        → Replies s (status_of answer) (values_of values answer) p p2 → IsDone lib before after r r2 p.pid call (outcome.Answered (status_of answer))
    by_answer (Ok x) does replies = called_done lib r2 consistent write ready call s next (outcome.Answered status.Ok) (done x does.ok replies)
    by_answer (Err answer) does replies = refused_done answer does replies

    pub taking_done : (ends : Outcome) (answer : Result A Status) → DoesTaking Done wants o hs p.table r answer p2.table r2
        → Replies s (status_of answer) (values_of values answer) p p2
        → ends ≡ outcome.Answered (status_of answer) → IsDone lib before after r r2 p.pid call ends
    taking_done ends answer does replies is = subst (λ (x : Outcome). IsDone lib before after r r2 p.pid call x) (sym is) (by_answer answer does replies)
