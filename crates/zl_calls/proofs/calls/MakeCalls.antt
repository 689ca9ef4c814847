-- A call that makes one object: how it is refused, and what is left of the world and of the invariant. Each call that makes one goes by it.
use Rattle.zl_calls.proofs.Common.{Agrees, Body, Bool, CallBy, Entry, Inserts, IsConsistent, IsNamed, IsTrue, Library, List, MakeDoes, MakesOne, Map, None}
use Rattle.zl_calls.proofs.Common.{Object, ObjectValue, Objects, Process, Replies, Site, Some, StateValue, Values, World, [], answer_if, ap, arith, body_value}
use Rattle.zl_calls.proofs.Common.{false, first_some, get, has_room_in, is_in_job, is_process, kind_in, length, map, may_get, may_want, nat_le, nat_tests}
use Rattle.zl_calls.proofs.Common.{new_entry, new_object, none-some, not, on_process, one_value, plain_refusal, process_entry, process_value, process_with}
use Rattle.zl_calls.proofs.Common.{queue_held, refl, replied, room_refusal, sym, then_some, told_by, true, wants_memory, with_new, with_object, world_value, ℕ}
use Rattle.zl_calls.proofs.Common.{◌&&◌, ◌+◌, ◌<◌, ◌^◌, ◌∙◌, ◌∷◌, ◌≡◌}
use Rattle.zl_rights.specs.declared.status.Status.TheVariants as status
use Rattle.zl_code.specs.declared.history.Outcome.TheVariants as outcome
use Rattle.zl_objects.specs.declared.object.Body.TheVariants as body
use Rattle.zl_calls.proofs.calls.Owned.{IsMaker, own_plain}
use Rattle.zl_calls.proofs.calls.Answered.{IsWrite, may_get_inserted, replied_inserted}
use Rattle.zl_calls.proofs.calls.DoneCalls.{IsCalled, IsDoneBy, answered_done}
use Rattle.zl_calls.proofs.objects.Grown.{IsGrowing, grown_one, grown_seen, growing_none, there_grown}
use Rattle.zl_calls.proofs.calls.Refused.{TellsNothing, answers, one_test}
use Rattle.zl_calls.proofs.objects.Settled.{sound_of}
use Rattle.zl_calls.proofs.processes.Written.{one_entered}

-- ---- the answer

-- where nothing else refuses it
pub room_refused : (entries : Map Entry) (next_koid : ℕ)
    → first_some (answer_if (not (has_room_in entries && nat_le (next_koid + 1) (2 ^ 62))) status.NoResources ∷ []) ≡ answers (room_refusal entries next_koid)
room_refused entries next_koid = one_test (not (has_room_in entries && nat_le (next_koid + 1) (2 ^ 62))) status.NoResources

-- where it isn't refused so, there is place in the table, and a koid is left
pub record HasRoom (entries : Map Entry) (next_koid : ℕ) : Type 0 where
  pub place : length entries < 1024
  pub koid : next_koid < 2 ^ 62

pub has_left : (entries : Map Entry) (next_koid : ℕ) → room_refusal entries next_koid ≡ None → HasRoom entries next_koid
has_left entries next_koid unrefused = by_tests (has_room_in entries) (nat_le (next_koid + 1) (2 ^ 62)) refl refl unrefused
  where
    by_tests : (room koid : Bool) → has_room_in entries ≡ room → nat_le (next_koid + 1) (2 ^ 62) ≡ koid
        → then_some (not (room && koid)) status.NoResources ≡ None → HasRoom entries next_koid
    by_tests false koid is_room is_koid h = absurd (none-some _ (sym h))
    by_tests true false is_room is_koid h = absurd (none-some _ (sym h))
    by_tests true true is_room is_koid h = record { place = grind (arith, nat_tests, is_room); koid = grind (arith, nat_tests, is_koid) }

-- ---- the new object

-- its first handle names it
pub new_named : (b : Body) (os : Map Object) (k : ℕ) → get os k ≡ Some (new_object b 1) → IsNamed os (new_entry k (kind_in b))
new_named (body.Job own) os k there = record { object = _; there = there; kind = refl; rights = refl }
new_named _ os k there = record { object = _; there = there; kind = refl; rights = refl }

-- it has entered the table of a process
pub first_entered : (before after : List Process) (p p2 : Process) (write : IsWrite before after p p2) → p2.state ≡ p.state
    → (r : Objects) (b : Body) (made : ℕ) (inserts : Inserts p.table (new_entry r.next_koid (kind_in b)) made p2.table)
    → length p.table.entries < 1024 → IsGrowing before ((made, new_entry r.next_koid (kind_in b)) ∷ []) (with_new r b 1)
    → get (with_new r b 1).objects r.next_koid ≡ Some (new_object b 1) → IsConsistent after (with_new r b 1)
first_entered before after p p2 write state r b made inserts place growing there =
    one_entered write (new_entry r.next_koid (kind_in b)) made inserts (with_new r b 1) growing.sound growing.kept state place
    (new_named b (with_new r b 1).objects r.next_koid there)

-- ---- a process of the world, before and after its call

module _ {before after : List Process} {r : Objects} {p p2 : Process} (lib : Library) (r2 : Objects) (consistent : IsConsistent before r)
    (write : IsWrite before after p p2)
    (s : Site) (b : Body) where
  abbrev w : World
  w = world_value before r

  abbrev n : ℕ
  n = r.next_koid

  abbrev entry : Entry
  entry = new_entry n (kind_in b)

  abbrev grown : Objects
  grown = with_new r b 1

  abbrev with_one : World
  with_one = with_object w (body_value b)

  -- the call does so much to its world, if the new handle may get the value
  abbrev Makes : ℕ → Type 0
  Makes made = IsTrue (may_get (process_value p) made)
      → world_value after r2 ≡ replied (on_process with_one p.pid (process_with made entry)) p.pid s status.Ok (made ∷ [])
      → CallBy lib w p.pid s (Values (made ∷ [])) None (outcome.Answered status.Ok) (world_value after r2)

  -- what the object is agrees with there being no such process, no message is in it, and it stands in a job that is there
  module _ (quiet : ((test : StateValue → Bool) → is_process w test n ≡ false) → Agrees w n b) (empty : queue_held b ≡ [])
      (in_job : IsTrue (is_in_job grown.objects b)) where
    module _ (made : ℕ) (makes : MakesOne b p.table r made p2.table r2) (replies : Replies s status.Ok (made ∷ []) p p2) where
      -- ---- the relation of calls

      made_rest : (record with_one { processes = map process_entry after }) ≡ world_value after r2
      unfolding with_object
      made_rest = rw makes.objects (ap (λ (os : Map ObjectValue). record w { processes = map process_entry after; objects = os; next_koid = n + 1 })
          (grown_seen r b 1 consistent.given_objects))

      made_ends : world_value after r2 ≡ replied (on_process with_one p.pid (process_with made entry)) p.pid s status.Ok (made ∷ [])
      unfolding with_object
      made_ends = replied_inserted write r2 s made entry with_one refl made_rest makes.inserts replies

      -- ---- the invariant

      room : HasRoom p.table.entries n
      room = has_left p.table.entries n makes.unrefused

      made_keeps : IsConsistent after r2
      made_keeps = rw makes.objects (first_entered before after p p2 write (ap (λ (q : Process). q.state) replies) r b made makes.inserts room.place
          (grown_one before [] r (growing_none before r consistent) b quiet empty in_job room.koid refl (made, entry) refl)
          (there_grown before [] r (sound_of before r consistent) b 1))

      pub made_called : IsMaker w p.pid s.request 1 → plain_refusal lib w p.pid s.request ≡ None → Makes made → IsCalled lib before after r r2 p.pid s
          (outcome.Answered status.Ok)
      made_called maker unrefused by = record {
        calls = (Values (made ∷ []), rw unrefused (by (may_get_inserted p p2 entry made makes.inserts) made_ends));
        own = λ living. own_plain write r living s.request maker (entry ∷ []) (made ∷ []) refl
            (record { between = p2.table; inserts = makes.inserts; rest = refl });
        keeps = made_keeps;
      }

    -- ---- the step of a call that nothing else refuses

    pub made_done : plain_refusal lib w p.pid s.request ≡ answers (room_refusal p.table.entries n) → wants_memory ≡ may_want s.request
        → IsMaker w p.pid s.request 1 → TellsNothing lib w p.pid s → ((made : ℕ) → Makes made)
        → IsDoneBy lib before after r r2 p p2 s (told_by one_value) (MakeDoes b)
    made_done refused wanting maker nothing by =
        answered_done lib r2 consistent write s one_value (MakeDoes b) (MakesOne b p.table r) wants_memory (room_refusal p.table.entries n)
        (λ answer acts. acts) refused wanting maker.none nothing
        (λ made makes replies. made_called made makes replies maker (refused ∙ ap answers makes.unrefused) (by made))
