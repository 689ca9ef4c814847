-- One object becomes another that is of its kind and is kept as it was: what the invariant says of the objects.
use Rattle.zl_calls.proofs.Common.{Agrees, AreKeptBut, AreNamed, AreSound, Body, Entry, IsConsistent, IsNamed, IsTrue, List, Map, Message, Object, Objects}
use Rattle.zl_calls.proofs.Common.{Process, Some, World, [], alone_changed, ap, body_value, count_by, false, get, handles_to, has_key-update, inl, inr}
use Rattle.zl_calls.proofs.Common.{is_child, is_in_job, is_kept, is_process, is_sorted-update, kept_all, kind_of, nat_lt, or_cases, or_left, or_right}
use Rattle.zl_calls.proofs.Common.{queue_held, queued_to, refl, same_in_job, stays_alone, subst, sum_by, sym, update, world_value, ℕ, ◌+◌, ◌==◌, ◌∙◌, ◌≡◌}
use Rattle.zl_objects.specs.declared.object.Body.TheVariants as body
use Rattle.zl_calls.proofs.objects.Counting.{queues_kept, same_tables}
use Rattle.zl_calls.proofs.objects.SameBodies.{each_updated, jobs_kept, kept_each, named_kept, still_agrees, still_named}
use Rattle.zl_calls.proofs.objects.Settled.{consistent_of, sound_of}

-- a body that is of the kind of another, and as much a job and a living process
pub record IsAlike (b c : Body) : Type 0 where
  pub kind : kind_of (body_value c) ≡ kind_of (body_value b)
  pub living : (j : ℕ) → is_child j c ≡ is_child j b
  pub in_job : (m : Map Object) → is_in_job m c ≡ is_in_job m b
  pub alone : (m : Map Object) (k : ℕ) → stays_alone m k c ≡ stays_alone m k b
  pub agrees : (w : World) (k : ℕ) → Agrees w k b → Agrees w k c

pub alike_itself : (b : Body) → IsAlike b b
alike_itself b = record { kind = refl; living = λ j. refl; in_job = λ m. refl; alone = λ m k. refl; agrees = λ w k same. same }

-- a change that leaves the body of each object alike
abbrev pub KeepsKind : (Object → Object) → Type 0
KeepsKind f = (o : Object) → IsAlike o.body (f o).body

-- so does one that leaves it as it is
pub same_kind : (f : Object → Object) → ((o : Object) → (f o).body ≡ o.body) → KeepsKind f
same_kind f same o = subst (IsAlike o.body) (sym (same o)) (alike_itself o.body)

-- handles in queues are counted by what queue a body has
queued_in : (j : ℕ) (b : Body) → queued_to j (body_value b) ≡ sum_by (λ m. count_by (λ h. h.koid == j) m.handles) (queue_held b)
queued_in j (body.ChannelEnd peer queue) = refl
queued_in j _ = refl

module _ (f : Object → Object) (same : KeepsKind f) where
  -- ---- among the others

  module _ (m : Map Object) (k : ℕ) where
    in_job_too : (b : Body) → is_in_job (update m k f) b ≡ is_in_job m b
    in_job_too b = same_in_job m (update m k f) (jobs_kept f (λ o. (same o).kind) m k) b

    pub named_still : (e : Entry) → IsNamed m e → IsNamed (update m k f) e
    named_still = named_kept f (λ o. (same o).kind) m k

    -- what kept it keeps it still, where a handle that held it does
    pub kept_still : ((o : Object) → IsTrue (nat_lt 0 o.handles) → IsTrue (nat_lt 0 (f o).handles)) → AreKeptBut [] m → AreKeptBut [] (update m k f)
    kept_still held kept = kept_each (update m k f) (rw (is_sorted-update m k f) kept.in_order)
        (each_updated (λ j q. IsTrue (is_kept (update m k f) j q)) f m k
        (λ o old. still o (kept_all m kept k o old)) (λ j q apart old. rw (alone_too j q.body) (kept_all m kept j q old)))
      where
        alone_too : (j : ℕ) (b : Body) → stays_alone (update m k f) j b ≡ stays_alone m j b
        alone_too = alone_changed f (λ j o. (same o).living j) m k

        still : (o : Object) → IsTrue (is_kept m k o) → IsTrue (is_kept (update m k f) k (f o))
        still o kept = elim (or_cases (nat_lt 0 o.handles) (stays_alone m k o.body) kept) as (λ _. IsTrue (is_kept (update m k f) k (f o))) [
          | inl holds ↦ or_left (nat_lt 0 (f o).handles) (stays_alone (update m k f) k (f o).body) (held o holds)
          | inr alone ↦ or_right (nat_lt 0 (f o).handles) (stays_alone (update m k f) k (f o).body)
              (rw ((same o).alone (update m k f) k, alone_too k o.body) alone)
        ]

  -- ---- the invariant

  module _ (ps : List Process) (r : Objects) (k : ℕ) where
    abbrev changed : Objects
    changed = record r { objects = update r.objects k f }

    -- the handles m counted beside those in tables and queues, and m2 do now
    pub changed_sound : (m m2 : Map Entry) → AreSound ps m r
        → ((o : Object) → get r.objects k ≡ Some o → AreNamed (update r.objects k f) (queue_held (f o).body)) → ((o : Object) → get r.objects k ≡ Some o
        → (f o).handles ≡ handles_to (world_value ps (record r { objects = update r.objects k f })) k + count_by (λ h. h.1.koid == k) m2)
        → ((j : ℕ) (o : Object) → (k == j) ≡ false → get r.objects j ≡ Some o
        → o.handles ≡ handles_to (world_value ps (record r { objects = update r.objects k f })) j + count_by (λ h. h.1.koid == j) m2)
        → AreSound ps m2 (record r { objects = update r.objects k f })
    unfolding is_process
    changed_sound m m2 sound queue own others = record {
      processes_in_order = sound.processes_in_order;
      objects_in_order = rw (is_sorted-update r.objects k f) sound.objects_in_order;
      given_processes = sound.given_processes;
      given_objects = λ j there. sound.given_objects j (sym (has_key-update r.objects k f j) ∙ there);
      koids = sound.koids;
      above_zero = sound.above_zero;
      no_zero = λ j there. sound.no_zero j (sym (has_key-update r.objects k f j) ∙ there);
      tables = sound.tables;
      named = λ j p v e at there. named_still r.objects k e (sound.named j p v e at there);
      queued = each_updated (λ j q. AreNamed changed.objects (queue_held q.body)) f r.objects k queue
          (λ j q apart old. still_named r.objects changed.objects (named_still r.objects k) (queue_held q.body) (sound.queued j q old));
      counted = each_updated (λ j q. q.handles ≡ handles_to (world_value ps changed) j + count_by (λ h. h.1.koid == j) m2) f r.objects k own others;
      agrees = λ j q at. still_agrees (world_value ps r) (world_value ps changed) j q.body (λ test. refl)
          (each_updated (λ i x. Agrees (world_value ps r) i x.body) f r.objects k
          (λ o old. (same o).agrees (world_value ps r) k (sound.agrees k o old)) (λ i x apart old. sound.agrees i x old) j q at);
      in_jobs = each_updated (λ j q. IsTrue (is_in_job changed.objects q.body)) f r.objects k
          (λ o old. rw ((same o).in_job changed.objects, in_job_too r.objects k o.body) (sound.in_jobs k o old))
          (λ j q apart old. rw (in_job_too r.objects k q.body) (sound.in_jobs j q old));
    }

    module _ (handles : (o : Object) → (f o).handles ≡ o.handles) where
      -- where the object is held as often as before
      pub recounted_sound : (m m2 : Map Entry) → AreSound ps m r
          → ((o : Object) → get r.objects k ≡ Some o → AreNamed (update r.objects k f) (queue_held (f o).body))
          → ((j : ℕ) → handles_to (world_value ps (record r { objects = update r.objects k f })) j + count_by (λ h. h.1.koid == j) m2
          ≡ handles_to (world_value ps r) j + count_by (λ h. h.1.koid == j) m) → AreSound ps m2 (record r { objects = update r.objects k f })
      recounted_sound m m2 sound queue counts = changed_sound m m2 sound queue
          (λ o old. handles o ∙ (sound.counted k o old ∙ sym (counts k)))
          (λ j o apart old. sound.counted j o old ∙ sym (counts j))

      pub recounted_kept : AreKeptBut [] r.objects → AreKeptBut [] (update r.objects k f)
      recounted_kept = kept_still r.objects k (λ o held. rw (handles o) held)

  -- ---- where its queue stays too

  module _ (quiet : (o : Object) → queue_held (f o).body ≡ queue_held o.body) (ps : List Process) (r : Objects) (k : ℕ) where
    pub same_handles : (j : ℕ) → handles_to (world_value ps (record r { objects = update r.objects k f })) j ≡ handles_to (world_value ps r) j
    same_handles j = same_tables ps r (record r { objects = update r.objects k f }) j (queues_kept f j as_queued r.objects k)
      where
        as_queued : (o : Object) → queued_to j (body_value (f o).body) ≡ queued_to j (body_value o.body)
        as_queued o = queued_in j (f o).body
            ∙ (ap (λ (q : List Message). sum_by (λ m. count_by (λ h. h.koid == j) m.handles) q) (quiet o) ∙ sym (queued_in j o.body))

    pub quiet_named : ((j : ℕ) (o : Object) → get r.objects j ≡ Some o → AreNamed r.objects (queue_held o.body)) → (o : Object)
        → get r.objects k ≡ Some o → AreNamed (update r.objects k f) (queue_held (f o).body)
    quiet_named queued o at = subst (AreNamed (update r.objects k f)) (sym (quiet o))
        (still_named r.objects (update r.objects k f) (named_still r.objects k) (queue_held o.body) (queued k o at))

    module _ (handles : (o : Object) → (f o).handles ≡ o.handles) where
      pub quiet_sound : (m : Map Entry) → AreSound ps m r → AreSound ps m (record r { objects = update r.objects k f })
      quiet_sound m sound = recounted_sound ps r k handles m m sound (quiet_named sound.queued)
          (λ j. ap (λ (n : ℕ). n + count_by (λ (h : ℕ × Entry). h.1.koid == j) m) (same_handles j))

      pub quiet_consistent : IsConsistent ps r → IsConsistent ps (record r { objects = update r.objects k f })
      quiet_consistent consistent =
          consistent_of ps (record r { objects = update r.objects k f }) (quiet_sound [] (sound_of ps r consistent))
          (recounted_kept ps r k handles consistent.kept)
