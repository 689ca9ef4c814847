-- A process was started with a handle of another: the invariant of all processes and of the objects holds afterwards.
use Rattle.zl_calls.proofs.Common.{Agrees, AreBlocked, AreNamed, Body, Bool, Created, Entry, Inserts, IsConsistent, IsNamed, IsTable, IsTrue, Kind, List, Map}
use Rattle.zl_calls.proofs.Common.{Object, Objects, Process, ProcessValue, Ready, Some, State, StateValue, [], ap, arith, body_value, cases_Bool, cond}
use Rattle.zl_calls.proofs.Common.{count_by, eq-eqb, false, false≢true, get, handles_to, has_ended, has_key, has_key-update, has_living_child_here, inl, inr}
use Rattle.zl_calls.proofs.Common.{is_above, is_blocked, is_child, is_created, is_in_job, is_kept, is_process, is_sorted-update, keeper_of, kept_all, kind_of}
use Rattle.zl_calls.proofs.Common.{list_any, lives, map, object_value, or_cases, or_left, or_right, process_entry, process_value, queue_held, queued_to, refl}
use Rattle.zl_calls.proofs.Common.{runs, same_Some, same_in_job, started, started_body, starting, state_value, stays_alone, subst, sum_by, sym, true, update}
use Rattle.zl_calls.proofs.Common.{without_handle, world_value, ℕ, ◌+◌, ◌==◌, ◌||◌, ◌∙◌, ◌∷◌, ◌≡◌}
use Rattle.zl_rights.specs.declared.kind.Kind.TheVariants as kind
use Rattle.zl_objects.specs.declared.object.Body.TheVariants as body
use Rattle.zl_objects.specs.declared.object.Life.TheVariants as life
use Rattle.zl_calls.specs.declared.process.State.TheVariants as state
use Rattle.zl_calls.proofs.calls.Answered.{IsWrite}
use Rattle.zl_calls.proofs.waking.BlockedLists.{still_blocked}
use Rattle.zl_calls.proofs.objects.Counting.{count_put, count_without, counts_fewer, counts_written, queues}
use Rattle.zl_calls.proofs.objects.SameBodies.{each_updated, kept_each, still_agrees, still_named, jobs_kept, named_kept}
use Rattle.zl_calls.proofs.tables.Tables.{found_inserted, inserted_table}
use Rattle.zl_calls.proofs.calls.TakenCalls.{left_there, tables_left}
use Rattle.zl_calls.proofs.lists.Updates.{update_unseen}
use Rattle.zl_calls.proofs.processes.Written.{after_is, found_after, get_after, same_states}

-- ---- what a process is once it was started

pub started_seen : (b : Body) → body_value (started_body b) ≡ body_value b
started_seen (body.Job own) = refl
started_seen _ = refl

started_queue : (b : Body) → queue_held (started_body b) ≡ queue_held b
started_queue (body.Job own) = refl
started_queue _ = refl

started_kind : (o : Object) → kind_of (body_value (started o).body) ≡ kind_of (body_value o.body)
started_kind o = ap kind_of (started_seen o.body)

-- it stands in the same job
started_keeper : (b : Body) → keeper_of (started_body b) ≡ keeper_of b
started_keeper (body.Job own) = refl
started_keeper (body.Process job life.Created) = refl
started_keeper (body.Process job life.Running) = refl
started_keeper (body.Process job life.Ended) = refl
started_keeper _ = refl

-- ---- among the objects

module _ (m : Map Object) (k : ℕ) where
  abbrev begun : Map Object
  begun = update m k started

  named_begun : (e : Entry) → IsNamed m e → IsNamed begun e
  named_begun = named_kept started started_kind m k

  in_job_begun : (b : Body) → IsTrue (is_in_job m b) → IsTrue (is_in_job begun b)
  in_job_begun b h = same_in_job m begun (jobs_kept started started_kind m k) b ∙ h

  in_job_started : (b : Body) → IsTrue (is_in_job m b) → IsTrue (is_in_job begun (started_body b))
  in_job_started b h = ap (is_above begun) (started_keeper b) ∙ in_job_begun b h

child_begun : (m : Map Object) (k job : ℕ) → has_living_child_here (update m k started) job ≡ has_living_child_here m job
unfolding update has_living_child_here
child_begun [] k job = refl
child_begun (e ∷ m) k job =
    elim (cases_Bool (e.0 == k)) as (λ _. list_any (λ x. is_child job x.1.body) (update (e ∷ m) k started) ≡ list_any (λ x. is_child job x.1.body) (e ∷ m)) [
      | inl here ↦ rw (here, started_keeper e.1.body) refl
      | inr apart ↦ rw apart (ap (λ b. is_child job e.1.body || b) (child_begun m k job))
    ]

alone_begun : (m : Map Object) (k j : ℕ) (b : Body) → stays_alone (update m k started) j b ≡ stays_alone m j b
alone_begun m k j (body.Job own) = child_begun m k j
alone_begun m k j _ = refl

-- what stays alone does so once it was started
alone_started : (m : Map Object) (k j : ℕ) (b : Body) → IsTrue (stays_alone m j b) → IsTrue (stays_alone (update m k started) j (started_body b))
alone_started m k j (body.Job own) h = child_begun m k j ∙ h
alone_started m k j (body.Process job life.Created) h = refl
alone_started m k j (body.Process job life.Running) h = refl
alone_started m k j _ h = h

-- ---- states

abbrev is_task : Kind → Bool
is_task kind.Process = true
is_task _ = false

pub created_state : (s : State) → is_created (state_value s) ≡ true → state_value s ≡ Created
created_state state.Created h = refl
created_state _ h = absurd (false≢true h)

-- ---- the invariant

-- the process child begins with a handle that leaves the process p
module _ (ps mid after : List Process) (child begins p p2 : Process) (one : IsWrite ps mid child begins) (two : IsWrite mid after p p2)
    (there : get (map process_entry ps) p.pid ≡ Some (process_value p)) (r : Objects) (consistent : IsConsistent ps r)
    (named : Entry) (is_named : IsNamed r.objects named) (task : named.kind ≡ kind.Process) (pid : child.pid ≡ named.koid)
    (created : state_value child.state ≡ Created) (bare : child.table.entries ≡ []) (ready : state_value begins.state ≡ Ready) (state_is : p2.state ≡ p.state)
    (h value : ℕ) (e : Entry) (given : get p.table.entries h ≡ Some e) (inserts : Inserts child.table e value begins.table)
    (table : p2.table ≡ without_handle p.table h) where
  abbrev k : ℕ
  k = child.pid

  abbrev r2 : Objects
  r2 = starting r k

  -- ---- tables

  child_table : IsTable child.table.entries
  child_table = consistent.tables child.pid (process_value child) one.there

  begins_table : IsTable begins.table.entries
  begins_table = inserted_table child.table e value begins.table child_table (rw bare (omega arith)) inserts

  old_table : IsTable p.table.entries
  old_table = consistent.tables p.pid (process_value p) there

  p2_table : IsTable p2.table.entries
  p2_table = rw table (tables_left (h ∷ []) p.table old_table)

  abbrev IsTableOf : ProcessValue → Type 0
  IsTableOf q = IsTable q.handles

  tables_now : (j : ℕ) (q : ProcessValue) → get (map process_entry after) j ≡ Some q → IsTableOf q
  tables_now j q at = found_after two (IsTableOf q) j q at (λ is. subst IsTableOf is p2_table)
      (λ old. found_after one (IsTableOf q) j q old (λ is. subst IsTableOf is begins_table) (λ older. consistent.tables j q older))

  -- ---- names

  still : (x : Entry) → IsNamed r.objects x → IsNamed r2.objects x
  still = named_begun r.objects k

  in_caller : (v : ℕ) (x : Entry) → get p.table.entries v ≡ Some x → IsNamed r2.objects x
  in_caller v x at = still x (consistent.named p.pid (process_value p) v x there at)

  in_p2 : (v : ℕ) (x : Entry) → get p2.table.entries v ≡ Some x → IsNamed r2.objects x
  in_p2 v x at = in_caller v x (left_there (h ∷ []) p.table v x (ap (λ t. get t.entries v) (sym table) ∙ at))

  in_begins : (v : ℕ) (x : Entry) → get begins.table.entries v ≡ Some x → IsNamed r2.objects x
  in_begins v x at = found_inserted (IsNamed r2.objects x) child.table e value begins.table inserts v x at
      (λ is. subst (λ (y : Entry). IsNamed r2.objects y) is (in_caller h e given))
      (λ old. still x (consistent.named child.pid (process_value child) v x one.there old))

  named_now : (j : ℕ) (q : ProcessValue) (v : ℕ) (x : Entry) → get (map process_entry after) j ≡ Some q → get q.handles v ≡ Some x → IsNamed r2.objects x
  named_now j q v x at inside = found_after two (IsNamed r2.objects x) j q at (λ is. in_p2 v x (ap (λ (y : ProcessValue). get y.handles v) is ∙ inside))
      (λ old. found_after one (IsNamed r2.objects x) j q old (λ is. in_begins v x (ap (λ (y : ProcessValue). get y.handles v) is ∙ inside))
      (λ older. still x (consistent.named j q v x older inside)))

  -- ---- counts

  same_queues : (j : ℕ) → queues r2.objects j ≡ queues r.objects j
  same_queues j = ap (λ os. sum_by (λ o. queued_to j o.1.body) os)
      (update_unseen object_value r.objects k started (λ o. ap (λ b. record (object_value o) { body = b }) (started_seen o.body)))

  abbrev so_many : ℕ → ℕ
  so_many j = cond (e.koid == j) 1 0

  counts : (j : ℕ) → handles_to (world_value after r2) j ≡ handles_to (world_value ps r) j
  counts j =
      let more : count_by (λ x. x.1.koid == j) begins.table.entries ≡ count_by (λ x. x.1.koid == j) child.table.entries + so_many j
      = ap (λ (m : Map Entry). count_by (λ x. x.1.koid == j) m) inserts.entries ∙ count_put (λ x. x.1.koid == j) child.table.entries value e inserts.unused in
      let fewer : count_by (λ x. x.1.koid == j) p.table.entries ≡ count_by (λ x. x.1.koid == j) (without_handle p.table h).entries + so_many j
      = count_without (λ x. x.1.koid == j) p.table.entries h e old_table.sorted given ∙ rw given refl in
      let left : count_by (λ x. x.1.koid == j) p.table.entries ≡ count_by (λ x. x.1.koid == j) p2.table.entries + so_many j = rw table fewer in
      omega (
        arith,
        counts_written ps mid child begins r r2 j (so_many j) one (same_queues j) more,
        counts_fewer mid after p p2 r2 r2 j (so_many j) two refl left,
      )

  -- ---- states

  same_after : (j : ℕ) (test : StateValue → Bool) → is_process (world_value after r2) test j ≡ is_process (world_value mid r2) test j
  same_after j test = same_states two state_is r2 r2 j test

  now : (test : StateValue → Bool) → is_process (world_value mid r2) test k ≡ test Ready
  unfolding is_process
  now test = rw (get_after one k, eq-eqb k k refl) (ap test ready)

  before : (test : StateValue → Bool) → is_process (world_value ps r) test k ≡ test Created
  unfolding is_process
  before test = rw one.there (ap test created)

  others : (j : ℕ) → (k == j) ≡ false → (test : StateValue → Bool) → is_process (world_value mid r2) test j ≡ is_process (world_value ps r) test j
  unfolding is_process
  others j apart test = rw (get_after one j, apart) refl

  agrees_now : (b : Body) → kind_of (body_value b) ≡ kind.Process → Agrees (world_value ps r) k b → Agrees (world_value mid r2) k (started_body b)
  agrees_now (body.Process job life.Created) same agrees = record { running = sym (now runs); living = sym (now lives); over = sym (now has_ended) }
  agrees_now (body.Process job life.Running) same agrees = absurd (false≢true (sym (agrees.running ∙ before runs)))
  agrees_now (body.Process job life.Ended) same agrees = absurd (false≢true (agrees.living ∙ before lives))
  agrees_now _ same agrees = absurd (false≢true (ap is_task same))

  -- the object of the child is that of a process
  is_its : (o : Object) → get r.objects k ≡ Some o → kind_of (body_value o.body) ≡ kind.Process
  is_its o at =
      let same : is_named.object ≡ o = same_Some is_named.object o (sym is_named.there ∙ (ap (get r.objects) (sym pid) ∙ at)) in
      ap (λ (x : Object). kind_of (body_value x.body)) (sym same) ∙ (sym is_named.kind ∙ task)

  -- ---- all of it

  pub start_keeps : IsConsistent after r2
  start_keeps = record {
    processes_in_order = rw (
      after_is two,
      is_sorted-update (map process_entry mid) p.pid (λ _. process_value p2),
      after_is one,
      is_sorted-update (map process_entry ps) child.pid (λ _. process_value begins),
    ) consistent.processes_in_order;
    given_processes = λ j has. consistent.given_processes j
        (sym (has_key-update (map process_entry ps) child.pid (λ _. process_value begins) j)
        ∙ (ap (λ (m : Map ProcessValue). has_key m j) (sym (after_is one)) ∙ (sym (has_key-update (map process_entry mid) p.pid (λ _. process_value p2) j)
        ∙ (ap (λ (m : Map ProcessValue). has_key m j) (sym (after_is two)) ∙ has))));
    given_objects = λ j has. consistent.given_objects j (sym (has_key-update r.objects k started j) ∙ has);
    koids = consistent.koids;
    above_zero = consistent.above_zero;
    no_zero = λ j has. consistent.no_zero j (sym (has_key-update r.objects k started j) ∙ has);
    tables = tables_now;
    named = named_now;
    queued = each_updated (λ j q. AreNamed r2.objects (queue_held q.body)) started r.objects k
        (λ o old. rw (started_queue o.body) (still_named r.objects r2.objects still (queue_held o.body) (consistent.queued k o old)))
        (λ j q apart old. still_named r.objects r2.objects still (queue_held q.body) (consistent.queued j q old));
    counted = each_updated (λ j q. q.handles ≡ handles_to (world_value after r2) j) started r.objects k
        (λ o old. consistent.counted k o old ∙ sym (counts k)) (λ j q apart old. consistent.counted j q old ∙ sym (counts j));
    agrees = λ j q at. still_agrees (world_value mid r2) (world_value after r2) j q.body (same_after j)
        (each_updated (λ i x. Agrees (world_value mid r2) i x.body) started r.objects k
        (λ o old. agrees_now o.body (is_its o old) (consistent.agrees k o old))
        (λ i x apart old. still_agrees (world_value ps r) (world_value mid r2) i x.body (others i apart) (consistent.agrees i x old)) j q at);
    in_jobs = each_updated (λ j q. IsTrue (is_in_job r2.objects q.body)) started r.objects k
        (λ o old. in_job_started r.objects k o.body (consistent.in_jobs k o old))
        (λ j q apart old. in_job_begun r.objects k q.body (consistent.in_jobs j q old));
    kept = kept_each r2.objects (rw (is_sorted-update r.objects k started) consistent.kept.in_order)
        (each_updated (λ j q. IsTrue (is_kept r2.objects j q)) started r.objects k
        (λ o old. kept_started k o (kept_all r.objects consistent.kept k o old))
        (λ j q apart old. rw (alone_begun r.objects k j q.body) (kept_all r.objects consistent.kept j q old)));
  }
    where
      kept_started : (j : ℕ) (o : Object) → IsTrue (is_kept r.objects j o) → IsTrue (is_kept r2.objects j (started o))
      kept_started j o kept = elim (or_cases _ (stays_alone r.objects j o.body) kept) as (λ _. IsTrue (is_kept r2.objects j (started o))) [
        | inl held ↦ or_left _ _ held
        | inr alone ↦ or_right _ _ (alone_started r.objects k j o.body alone)
      ]

  -- ---- the list of the blocked

  pub start_blocked : is_blocked (state_value p.state) ≡ false → (blocked : List ℕ) → AreBlocked ps blocked → AreBlocked after blocked
  start_blocked unblocked blocked are =
      still_blocked two unblocked (ap (λ (s : State). is_blocked (state_value s)) state_is ∙ unblocked) blocked
      (still_blocked one (ap is_blocked created) (ap is_blocked ready) blocked are)
