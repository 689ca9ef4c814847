-- One process more, with its handles: what was made goes on being what the definitions make.
use Rattle.zl_calls.proofs.Common.{Agrees, All, All-append, All-cons, All-nil, AreNamed, AreSound, Bool, Entry, Err, Found, Gives, Grant, Image, IsBare}
use Rattle.zl_calls.proofs.Common.{IsMaking, IsNamed, IsTable, IsTrue, Library, List, Made, Makes, Message, None, Object, Objects, Ok, OnOk, Option, Process}
use Rattle.zl_calls.proofs.Common.{ProcessBody, ProcessValue, Program, Result, Some, State, StateValue, World, [], any_found, ap, arith, body_in, boot_effect}
use Rattle.zl_calls.proofs.Common.{boot_fault, can_start, cases_Bool, coming, cond, count_by, count_by-le-length, counted_any, cpu_given, created_process}
use Rattle.zl_calls.proofs.Common.{eqb-true, false, false≢true, get, handles_given, handles_to, has_ended, inl, inr, is_in_job, is_job_at, is_job_body}
use Rattle.zl_calls.proofs.Common.{is_killed, is_process, is_some, length, length-append, list_any, lives, map, may_get_all, new_object, none-some, option_map}
use Rattle.zl_calls.proofs.Common.{or_right, process_entry, process_given, process_value, process_with, process_with_all, put, queue_held, refl, root_alone}
use Rattle.zl_calls.proofs.Common.{runs, same_Some, seen, set_from, slice_get, slice_set, started_cpu, started_process, started_with, state_value, subst, suc}
use Rattle.zl_calls.proofs.Common.{sym, taken_all, true, with_handles, with_new, with_object, with_process, world_value, zero, ℕ, ⊤, ◌++◌, ◌+◌, ◌<◌, ◌==◌, ◌∙◌}
use Rattle.zl_calls.proofs.Common.{◌∷◌, ◌≡◌, ◌≤◌}
use Rattle.std.specs.Result.{is_err}
use Rattle.zl_code.specs.declared.boot.Statement.TheVariants as statement
use Rattle.zl_code.specs.Starting.{blank_cpu}
use Rattle.zl_code.proofs.CanStart.{CanStart, started_with_all, started_may_get}
use Rattle.zl_jobs.specs.Jobs.{root_job as job_value}
use Rattle.zl_objects.specs.declared.object.Body.TheVariants as body
use Rattle.zl_objects.specs.declared.object.Life.TheVariants as life
use Rattle.zl_calls.specs.Makes.{IsFresh}
use Rattle.zl_code.proofs.OwnValues.{taken_fresh}
use Rattle.zl_calls.specs.declared.process.State.TheVariants as state
use Rattle.zl_calls.proofs.boot.BootFaults.{job_seen}
use Rattle.zl_calls.proofs.objects.Grown.{found_grown, grown_seen, job_grown}
use Rattle.zl_calls.proofs.processes.OneProcess.{counts, new_is, process_sound, processes_are}

-- ---- one process more

module _ (ps : List Process) (p : Process) (r : Objects) (making : IsMaking ps p.table.entries r) (job : ℕ) (pid : p.pid ≡ r.next_koid)
    (ready : runs (state_value p.state) ≡ true) (table : IsTable p.table.entries)
    (names : (v : ℕ) (e : Entry) → get p.table.entries v ≡ Some e → IsNamed r.objects e) (in_job : IsTrue (is_job_at r.objects job))
    (left : r.next_koid ≤ 1024) where
  abbrev sound : AreSound ps p.table.entries r
  sound = making.sound

  abbrev n : ℕ
  n = r.next_koid

  abbrev grown : Objects
  grown = with_new r (body.Process job life.Running) 0

  abbrev after : List Process
  after = ps ++ p ∷ []

  none_of_its_own : ◌≡◌ {A = ℕ} (count_by (λ h. h.1.koid == n) p.table.entries) 0
  none_of_its_own = by_count _ refl
    where
      named_new : IsTrue (list_any (λ h. h.1.koid == n) p.table.entries) → ⊥
      named_new some =
          let handle : Found (λ h. h.1.koid == n) p.table.entries = any_found (λ h. h.1.koid == n) p.table.entries table.sorted some in
          let named : IsNamed r.objects handle.value = names handle.key handle.value handle.at in
          omega (arith, sound.given_objects handle.value.koid (rw named.there refl), eqb-true handle.value.koid n handle.passes)

      by_count : (c : ℕ) → count_by (λ h. h.1.koid == n) p.table.entries ≡ c → ◌≡◌ {A = ℕ} c 0
      by_count zero is = refl
      by_count (suc c) is = absurd (named_new (counted_any (λ h. h.1.koid == n) p.table.entries (omega (arith, is))))

  -- the object says of it what holds
  agrees_new : Agrees (world_value after grown) n (body.Process job life.Running)
  agrees_new = record { running = sym (is runs ∙ ready); living = sym (is lives ∙ alive p.state ready); over = sym (is has_ended ∙ not_over p.state ready) }
    where
      is : (test : StateValue → Bool) → is_process (world_value after grown) test n ≡ test (state_value p.state)
      is = new_is ps p.table.entries r sound p pid job life.Running 0

      alive : (s : State) → runs (state_value s) ≡ true → lives (state_value s) ≡ true
      alive state.Ready h = refl
      alive (state.Blocked awaited registers) h = refl
      alive _ h = absurd (false≢true h)

      not_over : (s : State) → runs (state_value s) ≡ true → has_ended (state_value s) ≡ false
      not_over state.Ready h = refl
      not_over (state.Blocked awaited registers) h = refl
      not_over _ h = absurd (false≢true h)

  grown_sound : AreSound after [] grown
  grown_sound = process_sound ps p.table.entries r sound p pid job life.Running 0 table names agrees_new
      (or_right (job == 0) _ (job_grown ps p.table.entries r sound (body.Process job life.Running) 0 job in_job)) (omega (arith, left))
      none_of_its_own [] (λ j. all (n == j) (count_by (λ h. h.1.koid == j) p.table.entries))
    where
      all : (t : Bool) (c : ℕ) → c + 0 ≡ cond t 0 0 + c
      all true c = omega arith
      all false c = omega arith

  pub still_making : IsMaking after [] grown
  still_making = record {
    sound = grown_sound;
    few = λ k.
        let own : count_by (λ (h : ℕ × Entry). h.1.koid == k) p.table.entries ≤ length p.table.entries =
        count_by-le-length (λ h. h.1.koid == k) p.table.entries in
        let one_more : length after ≡ length ps + 1 = length-append ps (p ∷ []) in
        omega (arith, own, table.few, making.few k, counts ps p.table.entries r sound p pid job life.Running 0 k, one_more);
    unwatched = record { none = making.unwatched.none; none_made = making.unwatched.none_made };
    alive = λ j q at. found_grown ps p.table.entries r sound (body.Process job life.Running) 0 (is_killed q.body ≡ false) j q at
        (λ here is. subst (λ (x : Object). is_killed x.body ≡ false) is refl)
        (λ apart old. making.alive j q old);
  }

  -- the world is that of the definitions
  pub process_seen : (w : World) (q : ProcessValue) → process_value p ≡ q → world_value ps r ≡ w
      → world_value after grown ≡ with_process (with_object w (ProcessBody job)) w.next_koid q
  unfolding with_object
  process_seen w q is same =
      (λ i. record (world_value ps r) {
        processes = (processes_are ps p.table.entries r sound p pid job life.Running 0 ∙ ap (put (map process_entry ps) n) is) i;
        objects = sym (grown_seen r (body.Process job life.Running) 0 sound.given_objects) i;
        next_koid = n + 1;
      })
      ∙ ap (λ (x : World). with_process (with_object x (ProcessBody job)) x.next_koid q) same

-- ---- the process that starts

-- a register that is written first may be written last
set_apart : (xs : List ℕ) (i j v w : ℕ) → (i ≡ j → ⊥) → slice_set (slice_set xs j w) i v ≡ slice_set (slice_set xs i v) j w
set_apart [] i j v w apart = refl
set_apart (x ∷ xs) zero zero v w apart = absurd (apart refl)
set_apart (x ∷ xs) zero (suc j) v w apart = refl
set_apart (x ∷ xs) (suc i) zero v w apart = refl
set_apart (x ∷ xs) (suc i) (suc j) v w apart = ap (λ (rest : List ℕ). x ∷ rest) (set_apart xs i j v w (λ same. apart (ap (λ (k : ℕ). suc k) same)))

word_first : (n : ℕ) (vs registers : List ℕ) (word : ℕ) → 1 < n → set_from n vs (slice_set registers 1 word) ≡ slice_set (set_from n vs registers) 1 word
word_first n [] registers word above = refl
word_first n (v ∷ vs) registers word above =
    ap (set_from (n + 1) vs) (set_apart registers n 1 v word (λ same. omega (arith, above, same)))
    ∙ word_first (n + 1) vs (slice_set registers n v) word (omega arith)

word_before : (vs registers : List ℕ) (word : ℕ) → with_handles vs (slice_set registers 1 word) ≡ slice_set (with_handles vs registers) 1 word
word_before [] registers word = refl
word_before (v ∷ vs) registers word =
    ap (set_from 2 vs) (set_apart registers 0 1 v word (λ same. omega (arith, same))) ∙ word_first 2 vs (slice_set registers 0 v) word (omega arith)

-- handles don't touch the Cpu
cpu_stays : (es : List Entry) (vs : List ℕ) (q : ProcessValue) → (process_with_all es vs q).cpu ≡ q.cpu
cpu_stays [] vs q = refl
cpu_stays (e ∷ es) [] q = refl
cpu_stays (e ∷ es) (v ∷ vs) q = cpu_stays es vs (process_with v e q)

given_is_started : (es : List Entry) (vs : List ℕ) (word : ℕ) (q : ProcessValue)
    → process_given es vs (started_with [] word q) ≡ started_with vs word (process_with_all es vs q)
given_is_started es vs word q = rw (started_with_all es vs [] word q, cpu_stays es vs q, word_before vs q.cpu.registers word) refl

-- ---- the statement

pub done : {E : Type 0} (r : Result ⊤ E) (P : Type 0) → false ≡ is_err r → OnOk r P → P
done (Ok x) P fine h = h
done (Err e) P fine h = absurd (false≢true fine)

-- a process that is to start, before it has its handles
pub record IsBegun (p : Process) (r : Objects) (program word : ℕ) (image : Image) : Type 0 where
  pub pid : p.pid ≡ r.next_koid
  pub program_is : p.program ≡ program
  pub cpu : p.cpu ≡ started_cpu image word
  pub ready : p.state ≡ state.Ready
  pub bare : IsBare p

-- the Cpu of a process goes by the image alone
blank_by : (o : Option Program) (image : Image) → option_map (λ g. g.image) o ≡ Some image
    → blank_cpu o ≡ blank_cpu (Some (record { checked = false; image = image }))
blank_by None image there = absurd (none-some image there)
blank_by (Some g) image there = ap (λ (i : Image). blank_cpu (Some (record { checked = false; image = i }))) (same_Some g.image image there)

begun_value : (lib : Library) (p : Process) (r : Objects) (program word : ℕ) (image : Image) → IsBegun p r program word image
    → option_map (λ g. g.image) (slice_get lib program) ≡ Some image → process_value p ≡ started_with [] word (created_process lib program)
begun_value lib p r program word image begun there = λ i. record {
  program = begun.program_is i;
  cpu = cpu_is i;
  state = state_value (begun.ready i);
  handles = begun.bare.no_handles i;
  last = begun.bare.none_removed i;
}
  where
    cpu_is : p.cpu ≡ cpu_given [] word (blank_cpu (slice_get lib program))
    cpu_is = begun.cpu ∙ ap (cpu_given [] word) (sym (blank_by (slice_get lib program) image there))

pub makes : (lib : Library) (before mid after : Made) (job program word : ℕ) (gs : List Grant) (image : Image) (p p2 : Process)
    → option_map (λ g. g.image) (slice_get lib program) ≡ Some image → boot_fault lib (seen before) (statement.Process job program word gs) ≡ None
    → IsBegun p before.objects program word image → Gives gs before p mid p2
    → after.processes.items ≡ mid.processes.items ++ p2 ∷ [] → after.objects ≡ with_new mid.objects (body.Process job life.Running) 0
    → Makes lib (statement.Process job program word gs) before after
unfolding boot_effect
makes lib before mid after job program word gs image p p2 there fine begun gives processes objects =
    let ps : List Process = mid.processes.items in
    let can : CanStart lib (seen before) job program gs = can_start lib (seen before) job program word gs fine in
    let es : List Entry = handles_given (seen before).objects gs in
    let first : process_value p ≡ started_with [] word (created_process lib program) = begun_value lib p before.objects program word image begun there in
    let value : process_value p2 ≡ started_process lib program es gives.values word =
    gives.is ∙ (ap (process_given es gives.values) first ∙ given_is_started es gives.values word (created_process lib program)) in
    let koid : mid.objects.next_koid ≡ before.objects.next_koid = ap (λ (w : World). w.next_koid) gives.same in
    let pid : p2.pid ≡ mid.objects.next_koid = gives.pid ∙ (begun.pid ∙ sym koid) in
    let ready : runs (state_value p2.state) ≡ true = ap (λ (q : ProcessValue). runs q.state) value ∙ refl in
    let in_job : IsTrue (is_job_at mid.objects.objects job) =
    sym (job_seen ps mid.objects job) ∙ (ap (λ (w : World). is_job_body (body_in (get w.objects job))) gives.same ∙ can.in_job) in
    let left : mid.objects.next_koid ≤ 1024 = omega (arith, koid, can.koid) in
    record {
      no_fault = fine;
      values = gives.values;
      own = gives.own ∙ ap (coming (length gs)) begun.bare.offers_first;
      chosen = sym (started_may_get es gives.values [] word (created_process lib program))
          ∙ subst (λ (q : ProcessValue). IsTrue (may_get_all q es gives.values)) first gives.chosen;
      effect = rw (processes, objects) (process_seen ps p2 mid.objects gives.making job pid ready gives.table gives.named in_job left (seen before)
          (started_process lib program es gives.values word) value gives.same);
      making = rw (processes, objects) (still_making ps p2 mid.objects gives.making job pid ready gives.table gives.named in_job left);
      fresh = λ all. rw (processes, gives.processes) (All-append IsFresh before.processes.items (p2 ∷ []) all
          (All-cons IsFresh p2 [] (record {
            ready = ap (λ (q : ProcessValue). q.state) value ∙ refl;
            free = gives.free ∙ (ap (taken_all (length gs)) begun.bare.offers_first ∙ (taken_fresh (length gs) 0
                ∙ ap (λ n. record { freed = []; made = n }) (omega (arith, gives.few))));
          }) (All-nil IsFresh)));
    }

-- ---- the root job alone

abbrev root_job : Object
root_job = new_object (body.Job job_value) 0

pub starts_making : IsMaking [] [] root_alone
unfolding get is_process handles_to
starts_making = record {
  sound = record {
    processes_in_order = refl;
    objects_in_order = refl;
    given_processes = λ k there. absurd (false≢true there);
    given_objects = λ k there. root (λ j o. j < 2) (omega arith) k (get root_alone.objects k) refl there;
    koids = omega arith;
    above_zero = omega arith;
    no_zero = λ k there. root (λ j o. 0 < j) (omega arith) k (get root_alone.objects k) refl there;
    tables = λ k q at. absurd (none-some q at);
    named = λ k q v e at there. absurd (none-some q at);
    queued =
        λ k o at. found (λ j x. AreNamed root_alone.objects (queue_held x.body)) (All-nil (λ (x : Message). All (IsNamed root_alone.objects) x.handles)) k o at;
    counted = λ k o at. found (λ j x. x.handles ≡ handles_to (world_value [] root_alone) j + 0) refl k o at;
    agrees = λ k o at. found (λ j x. Agrees (world_value [] root_alone) j x.body) refl k o at;
    in_jobs = λ k o at. found (λ j x. IsTrue (is_in_job root_alone.objects x.body)) refl k o at;
  };
  few = λ k. omega arith;
  unwatched = record { none = refl; none_made = refl };
  alive = λ k o at. found (λ j x. is_killed x.body ≡ false) refl k o at;
}
  where
    found : (P : ℕ → Object → Type 0) → P 1 root_job → (k : ℕ) (o : Object) → get root_alone.objects k ≡ Some o → P k o
    found P at_root k o at = elim (cases_Bool (1 == k)) as (λ _. P k o) [
      | inl here ↦ subst (λ (j : ℕ). P j o) (eqb-true 1 k here) (subst (P 1) (same_Some root_job o (rw here at at)) at_root)
      | inr apart ↦ absurd (none-some o (rw apart at at))
    ]

    root : (P : ℕ → Object → Type 0) → P 1 root_job → (k : ℕ) (o : Option Object) → get root_alone.objects k ≡ o → IsTrue (is_some o) → P k root_job
    root P at_root k None is h = absurd (false≢true h)
    root P at_root k (Some o) is h = found (λ j x. P j root_job) at_root k o is
