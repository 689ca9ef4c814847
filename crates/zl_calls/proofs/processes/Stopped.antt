-- A process loses handles, or ends: the invariant but for what keeps the objects, and what nothing may keep then.
use Rattle.zl_calls.proofs.Common.{Agrees, AreKeptBut, AreNamed, AreSound, Body, Bool, Ended, EndedHere, Entry, IsConsistent, IsNamed, IsTable, IsTrue, List}
use Rattle.zl_calls.proofs.Common.{Map, None, Object, ObjectEnds, ObjectValue, Objects, Option, Process, ProcessValue, Releases, Some, StateValue, [], ap}
use Rattle.zl_calls.proofs.Common.{arith, body_value, cases_Bool, count_by, eq-eqb, eqb-true, false, get, handles_to, has_ended, has_key, has_key-update, inl}
use Rattle.zl_calls.proofs.Common.{inr, is_in_job, is_process, is_sorted-update, job_in, job_of, kind_of, lives, map, none-some, object_entry, object_value}
use Rattle.zl_calls.proofs.Common.{process_entry, process_value, queue_held, queued_to, refl, runs, same_in_job, stopped, stopped_body, stopped_loose, stopping}
use Rattle.zl_calls.proofs.Common.{subst, sum_by, sym, update, world_value, ℕ, ℤ, ◌+◌, ◌<◌, ◌==◌, ◌∙◌, ◌∷◌, ◌≡◌}
use Rattle.zl_objects.specs.declared.object.Body.TheVariants as body
use Rattle.zl_calls.specs.declared.process.State.TheVariants as state
use Rattle.zl_calls.proofs.calls.Answered.{IsWrite}
use Rattle.zl_calls.proofs.lists.Updates.{update_unseen}
use Rattle.zl_calls.proofs.objects.Counting.{counts_fewer, queues}
use Rattle.zl_calls.proofs.objects.SameBodies.{each_updated, still_agrees, still_named, jobs_kept, named_kept}
use Rattle.zl_calls.proofs.objects.Settled.{sound_of}
use Rattle.zl_calls.proofs.processes.Written.{after_is, get_after, found_after, same_agrees, written_sound}
use Rattle.zl_calls.proofs.tables.Taking.{none_goes}

-- ---- the table of the process has lost the handles m

module _ {before after : List Process} {p p2 : Process} (write : IsWrite before after p p2) (r : Objects) (consistent : IsConsistent before r) (m : Map Entry)
    (table : IsTable p2.table.entries)
    (fewer : (j : ℕ) → count_by (λ h. h.1.koid == j) p.table.entries ≡ count_by (λ h. h.1.koid == j) p2.table.entries + count_by (λ h. h.1.koid == j) m)
    (named : (v : ℕ) (e : Entry) → get p2.table.entries v ≡ Some e → IsNamed r.objects e) where
  pub still_given : (k : ℕ) → IsTrue (has_key (map process_entry after) k) → k < r.next_koid
  still_given k there =
      consistent.given_processes k (sym (has_key-update (map process_entry before) p.pid (λ _. process_value p2) k) ∙ rw (after_is write) at there)

  pub sound_after : p2.state ≡ p.state → AreSound after m r
  sound_after same = written_sound write [] m r (sound_of before r consistent) (same_agrees write same r) table named
      (λ k. omega (arith, counts_fewer before after p p2 r r k (count_by (λ h. h.1.koid == k) m) write refl (fewer k)))

  -- ---- the process has ended too

  abbrev ended : Objects
  ended = stopping r p.pid

  same_kind : (o : Object) → object_value (stopped o) ≡ object_value o
  same_kind o = ap (λ b. record (object_value o) { body = b }) (by_body o.body)
    where
      by_body : (b : Body) → body_value (stopped_body b) ≡ body_value b
      by_body (body.Job own) = refl
      by_body _ = refl

  entries_stopped : map object_entry ended.objects ≡ map object_entry r.objects
  entries_stopped = update_unseen object_value r.objects p.pid stopped same_kind

  pub seen_stopped : world_value after ended ≡ world_value after r
  seen_stopped = ap (λ (os : Map ObjectValue). record (world_value after r) { objects = os }) entries_stopped

  same_queues : (j : ℕ) → queues ended.objects j ≡ queues r.objects j
  same_queues j = ap (λ (os : Map ObjectValue). sum_by (λ o. queued_to j o.1.body) os) entries_stopped

  still_kind : (o : Object) → kind_of (body_value (stopped o).body) ≡ kind_of (body_value o.body)
  still_kind o = ap (λ (x : ObjectValue). kind_of x.body) (same_kind o)

  pub named_stopped : (e : Entry) → IsNamed r.objects e → IsNamed ended.objects e
  named_stopped = named_kept stopped still_kind r.objects p.pid

  in_job_stopped : (b : Body) → IsTrue (is_in_job r.objects b) → IsTrue (is_in_job ended.objects b)
  in_job_stopped b h = same_in_job r.objects ended.objects (jobs_kept stopped still_kind r.objects p.pid) b ∙ h

  module _ (code : ℤ) (over : p2.state ≡ state.Ended code) where
    now : (test : StateValue → Bool) → is_process (world_value after ended) test p.pid ≡ test (Ended code)
    unfolding is_process
    now test = rw (get_after write p.pid, eq-eqb p.pid p.pid refl, over) refl

    others_now : (j : ℕ) → (p.pid == j) ≡ false → (test : StateValue → Bool)
        → is_process (world_value after ended) test j ≡ is_process (world_value before r) test j
    unfolding is_process
    others_now j apart test = rw (get_after write j, apart) refl

    stopped_agrees : (b : Body) → Agrees (world_value after ended) p.pid (stopped_body b)
    stopped_agrees (body.Job own) = now runs
    stopped_agrees (body.Process job alive) = record { running = sym (now runs); living = sym (now lives); over = sym (now has_ended) }
    stopped_agrees _ = now runs

    same_queue : (b : Body) → queue_held (stopped_body b) ≡ queue_held b
    same_queue (body.Job own) = refl
    same_queue _ = refl

    pub sound_stopped : AreSound after m ended
    sound_stopped = record {
      processes_in_order = rw (after_is write, is_sorted-update (map process_entry before) p.pid (λ _. process_value p2)) consistent.processes_in_order;
      objects_in_order = rw (is_sorted-update r.objects p.pid stopped) consistent.kept.in_order;
      given_processes = still_given;
      given_objects = λ j has. consistent.given_objects j (sym (has_key-update r.objects p.pid stopped j) ∙ has);
      koids = consistent.koids;
      above_zero = consistent.above_zero;
      no_zero = λ j has. consistent.no_zero j (sym (has_key-update r.objects p.pid stopped j) ∙ has);
      tables = λ k q at. found_after write (IsTable q.handles) k q at
          (λ is. subst (λ (x : ProcessValue). IsTable x.handles) is table) (consistent.tables k q);
      named = λ k q v e at there. found_after write (IsNamed ended.objects e) k q at
          (λ is. named_stopped e (named v e (ap (λ (x : ProcessValue). get x.handles v) is ∙ there)))
          (λ old. named_stopped e (consistent.named k q v e old there));
      queued = each_updated (λ j q. AreNamed ended.objects (queue_held q.body)) stopped r.objects p.pid
          (λ o old. rw (same_queue o.body) (still_named r.objects ended.objects named_stopped (queue_held o.body) (consistent.queued p.pid o old)))
          (λ j q apart old. still_named r.objects ended.objects named_stopped (queue_held q.body) (consistent.queued j q old));
      counted = each_updated (λ j q. q.handles ≡ handles_to (world_value after ended) j + count_by (λ h. h.1.koid == j) m) stopped r.objects p.pid
          (λ o old. recounted p.pid o old) (λ j q apart old. recounted j q old);
      agrees = each_updated (λ j q. Agrees (world_value after ended) j q.body) stopped r.objects p.pid (λ o old. stopped_agrees o.body)
          (λ j q apart old. still_agrees (world_value before r) (world_value after ended) j q.body (others_now j apart) (consistent.agrees j q old));
      in_jobs = each_updated (λ j q. IsTrue (is_in_job ended.objects q.body)) stopped r.objects p.pid
          (λ o old. of_stopped o.body (consistent.in_jobs p.pid o old)) (λ j q apart old. in_job_stopped q.body (consistent.in_jobs j q old));
    }
      where
        recounted : (j : ℕ) (o : Object) → get r.objects j ≡ Some o → o.handles ≡ handles_to (world_value after ended) j + count_by (λ h. h.1.koid == j) m
        recounted j o old =
            consistent.counted j o old ∙ counts_fewer before after p p2 r ended j (count_by (λ h. h.1.koid == j) m) write (same_queues j) (fewer j)

        of_stopped : (b : Body) → IsTrue (is_in_job r.objects b) → IsTrue (is_in_job ended.objects (stopped_body b))
        of_stopped (body.Process job alive) h = refl
        of_stopped (body.Job own) h = in_job_stopped (body.Job own) h
        of_stopped _ h = refl

-- ---- the object of a process that has ended

same_body : (o : Object) (b : Body) → o.body ≡ b → stopped_body b ≡ b → stopped o ≡ o
same_body o b is stays =
    ap (λ (x : Body). record o { body = stopped_body x }) is
    ∙ (ap (λ (x : Body). record o { body = x }) stays ∙ ap (λ (x : Body). record o { body = x }) (sym is))

-- what is no process stays as it is
not_stopped : (m : Map Object) (k : ℕ) → job_in (get m k) ≡ None → update m k stopped ≡ m
unfolding get update
not_stopped [] k none = refl
not_stopped (e ∷ m) k none = elim (cases_Bool (e.0 == k)) as (λ _. update (e ∷ m) k stopped ≡ e ∷ m) [
  | inl here ↦ rw here (λ i. (sym (eqb-true e.0 k here) i, by_body e.1 e.1.body refl (rw here at none) i) ∷ m)
  | inr apart ↦ rw apart (ap (λ (rest : Map Object). e ∷ rest) (not_stopped m k (rw apart at none)))
]
  where
    by_body : (o : Object) (b : Body) → o.body ≡ b → job_of b ≡ None → stopped o ≡ o
    by_body o (body.Job own) is none = same_body o (body.Job own) is refl
    by_body o (body.Process job alive) is none = absurd (none-some job (sym none))
    by_body o b is none = same_body o b is refl

-- what the end of the process k lets go: perhaps its object and its job
pub record IsOver (k : ℕ) (r r2 : Objects) : Type 0 where
  pub loose : List ℕ
  pub kept : AreKeptBut loose (stopping r k).objects
  pub releases : Releases [] loose (stopping r k) r2

pub over : (k : ℕ) (r r2 : Objects) → AreKeptBut [] r.objects → ObjectEnds k r r2 → IsOver k r r2
over k r r2 kept ends = by_job (job_in (get r.objects k)) refl ends
  where
    by_job : (job : Option ℕ) → job_in (get r.objects k) ≡ job → EndedHere k job r r2 → IsOver k r r2
    by_job (Some job) is releases = record { loose = job ∷ k ∷ []; kept = stopped_loose r k job is kept; releases = releases }
    by_job None is same =
        let still : stopping r k ≡ r = ap (λ (m : Map Object). record r { objects = m }) (not_stopped r.objects k is) in
        record {
          loose = [];
          kept = subst (λ (x : Objects). AreKeptBut [] x.objects) (sym still) kept;
          releases = subst (λ (x : Objects). Releases [] [] x r2) (sym still) (rw same (none_goes r));
        }
