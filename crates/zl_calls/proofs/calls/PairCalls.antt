-- Calls that make both ends of a pair, chan_create and eventpair_create: how they are refused, and what is left of the world and of the invariant.
use Rattle.zl_calls.proofs.Common.{Body, Bool, CallBy, ChanCreateDoes, Entry, Handles, Inserts, IsConsistent, IsNamed, IsTable, IsTrue, Library, List}
use Rattle.zl_calls.proofs.Common.{MakePairDoes, MakesPair, Map, None, ObjectValue, Objects, Pair, Process, Replies, Site, Some, Values, World, [], and_parts}
use Rattle.zl_calls.proofs.Common.{answer_if, ap, arith, body_value, chan_create, cond, count_by, effect, end_to, eventpair_create, false, first_some, get}
use Rattle.zl_calls.proofs.Common.{gives_ok, gives_refused, handle_operands, handles_to, has_koids, has_room, insert_all, kind_of_pair, length, listed, map}
use Rattle.zl_calls.proofs.Common.{may_choose, may_get_all, may_want, nat_le, nat_tests, ne_eqb, new_entry, new_handles, new_object, none-some, not}
use Rattle.zl_calls.proofs.Common.{object_value, on_process, operands_fault, pair_refusal, plain_refusal, process_entry, process_value, process_with, put, refl}
use Rattle.zl_calls.proofs.Common.{remove_all, replied, runs, subst, sum_by-cons, sym, taken_handles, then_some, told_by, true, two_values, wants_memory}
use Rattle.zl_calls.proofs.Common.{with_new, with_object, world_value, ℕ, ◌&&◌, ◌+◌, ◌==◌, ◌^◌, ◌∙◌, ◌∷◌, ◌≡◌, ◌≤◌}
use Rattle.zl_rights.specs.declared.status.Status.TheVariants as status
use Rattle.zl_code.specs.declared.history.Outcome.TheVariants as outcome
use Rattle.zl_objects.specs.declared.object.Pair.TheVariants as pair
use Rattle.zl_calls.specs.calls.Event.{EventpairCreateDoes}
use Rattle.zl_calls.proofs.calls.Owned.{IsMaker, own_plain}
use Rattle.zl_calls.proofs.calls.Answered.{IsWrite, asking, may_get_both, replied_inserted_two, table_is}
use Rattle.zl_calls.proofs.objects.Counting.{count_put, counts_written}
use Rattle.zl_calls.proofs.calls.DoneCalls.{IsDoneBy, IsCalled, answered_done}
use Rattle.zl_calls.proofs.objects.Grown.{IsGrowing, end_kind, end_quiet, end_rights, grown_named, grown_one, grown_seen, growing_none, there_grown}
use Rattle.zl_calls.proofs.objects.Settled.{sound_of}
use Rattle.zl_calls.proofs.calls.Refused.{TellsNothing, answers, one_test}
use Rattle.zl_calls.proofs.tables.Tables.{inserted_table, found_inserted}
use Rattle.zl_calls.proofs.tables.Taking.{one_longer}
use Rattle.zl_calls.proofs.processes.Written.{entered, same_agrees}

koids_left : (entries : Map Entry) (n : ℕ) → pair_refusal entries n ≡ None → n + 2 ≤ 2 ^ 62
koids_left entries n unrefused = by_test (nat_le (length entries + 2) 1024 && nat_le (n + 2) (2 ^ 62)) refl unrefused
  where
    by_test : (b : Bool) → (nat_le (length entries + 2) 1024 && nat_le (n + 2) (2 ^ 62)) ≡ b → then_some (not b) status.NoResources ≡ None → n + 2 ≤ 2 ^ 62
    by_test true is none =
        let fits : IsTrue (nat_le (n + 2) (2 ^ 62)) = (and_parts (nat_le (length entries + 2) 1024) (nat_le (n + 2) (2 ^ 62)) is).1 in
        grind (arith, nat_tests, fits)
    by_test false is none = absurd (none-some status.NoResources (sym none))

counted_inserted : (test : ℕ × Entry → Bool) (t : Handles) (e : Entry) (v : ℕ) (t2 : Handles) → Inserts t e v t2
    → count_by test t2.entries ≡ count_by test t.entries + cond (test (v, e)) 1 0
counted_inserted test t e v t2 inserts = ap (λ (m : Map Entry). count_by test m) inserts.entries ∙ count_put test t.entries v e inserts.unused

-- a process of the world, before and after its call
module _ {before after : List Process} {r : Objects} {p p2 : Process} (lib : Library) (r2 : Objects) (consistent : IsConsistent before r)
    (write : IsWrite before after p p2) where
  abbrev w : World
  w = world_value before r

  abbrev n : ℕ
  n = r.next_koid

  module _ (s : Site) (pair : Pair) where
    abbrev first_end : Body
    first_end = end_to pair (n + 1)

    abbrev second_end : Body
    second_end = end_to pair n

    abbrev first : Entry
    first = new_entry n (kind_of_pair pair)

    abbrev second : Entry
    second = new_entry (n + 1) (kind_of_pair pair)

    -- the objects with the first end, and with both
    abbrev with_first : Objects
    with_first = with_new r first_end 1

    abbrev with_both : Objects
    with_both = with_new with_first second_end 1

    abbrev with_ends : World
    with_ends = with_object (with_object w (body_value first_end)) (body_value second_end)

    -- the call does so much to its world, if the new handles may get the values
    abbrev Makes : ℕ × ℕ → Type 0
    Makes made = IsTrue (may_get_all (process_value p) (first ∷ second ∷ []) (two_values made)) → world_value after r2
        ≡ replied (on_process (on_process with_ends p.pid (process_with made.0 first)) p.pid (process_with made.1 second)) p.pid s status.Ok (two_values made)
        → CallBy lib w p.pid s (Values (two_values made)) None (outcome.Answered status.Ok) (world_value after r2)

    module _ (made : ℕ × ℕ) (makes : MakesPair pair p.table r made p2.table r2) (replies : Replies s status.Ok (two_values made) p p2) where
      koids : n + 2 ≤ 2 ^ 62
      koids = koids_left p.table.entries n makes.unrefused

      growing : IsGrowing before ((made.0, first) ∷ []) with_first
      growing =
          let quiet = end_quiet pair (n + 1) in
          grown_one before [] r (growing_none before r consistent) first_end (λ not. quiet.agrees w n (not runs)) quiet.empty (quiet.in_job with_first.objects)
          (omega (arith, koids)) refl (made.0, first) refl

      growing_both : IsGrowing before ((made.1, second) ∷ (made.0, first) ∷ []) with_both
      growing_both =
          let quiet = end_quiet pair n in
          grown_one before ((made.0, first) ∷ []) with_first growing second_end
          (λ not. quiet.agrees (world_value before with_first) (n + 1) (not runs)) quiet.empty (quiet.in_job with_both.objects)
          (omega (arith, koids)) apart (made.1, second) refl
        where
          other : (n == n + 1) ≡ false
          other = ne_eqb n (n + 1) (omega arith)

          apart : ◌≡◌ {A = ℕ} (count_by (λ (h : ℕ × Entry). h.1.koid == n + 1) ((made.0, first) ∷ [])) 0
          apart = sum_by-cons (λ (h : ℕ × Entry). cond (h.1.koid == n + 1) 1 0) (made.0, first) [] ∙ rw other refl

      -- ---- the relation of calls

      rest : (record with_ends { processes = map process_entry after }) ≡ world_value after r2
      unfolding with_object
      rest = rw makes.objects (ap (λ (os : Map ObjectValue). record w { processes = map process_entry after; objects = os; next_koid = n + 1 + 1 })
          (ap (λ (os : Map ObjectValue). put os (n + 1) (object_value (new_object second_end 1))) (grown_seen r first_end 1 consistent.given_objects)
          ∙ grown_seen with_first second_end 1 growing.sound.given_objects))

      chosen : IsTrue (may_get_all (process_value p) (first ∷ second ∷ []) (two_values made))
      chosen = may_get_both p makes.between p2.table first second made.0 made.1 makes.first makes.second

      both_ends : world_value after r2
          ≡ replied (on_process (on_process with_ends p.pid (process_with made.0 first)) p.pid (process_with made.1 second)) p.pid s status.Ok (two_values made)
      unfolding with_object
      both_ends = replied_inserted_two write r2 s made.0 made.1 first second makes.between with_ends refl rest makes.first makes.second replies

      -- ---- the invariant

      still : (e : Entry) → IsNamed r.objects e → IsNamed with_both.objects e
      still e named = grown_named before ((made.0, first) ∷ []) with_first growing.sound second_end 1 e
          (grown_named before [] r (sound_of before r consistent) first_end 1 e named)

      first_named : IsNamed with_both.objects first
      first_named = grown_named before ((made.0, first) ∷ []) with_first growing.sound second_end 1 first (record {
        object = new_object first_end 1;
        there = there_grown before [] r (sound_of before r consistent) first_end 1;
        kind = end_kind pair (n + 1);
        rights = end_rights pair;
      })

      second_named : IsNamed with_both.objects second
      second_named = record {
        object = new_object second_end 1;
        there = there_grown before ((made.0, first) ∷ []) with_first growing.sound second_end 1;
        kind = end_kind pair n;
        rights = end_rights pair;
      }

      named : (v : ℕ) (e : Entry) → get p2.table.entries v ≡ Some e → IsNamed with_both.objects e
      named v e at = found_inserted (IsNamed with_both.objects e) makes.between second made.1 p2.table makes.second v e at
          (λ is. subst (λ (x : Entry). IsNamed with_both.objects x) is second_named)
          (λ early. found_inserted (IsNamed with_both.objects e) p.table first made.0 makes.between makes.first v e early
          (λ is. subst (λ (x : Entry). IsNamed with_both.objects x) is first_named)
          (λ old. still e (consistent.named p.pid (process_value p) v e write.there old)))

      table : IsTable p2.table.entries
      table = inserted_table makes.between second made.1 p2.table
          (inserted_table p.table first made.0 makes.between (consistent.tables p.pid (process_value p) write.there)
          (omega (arith, makes.room)) makes.first)
          (omega (arith, makes.room, one_longer p.table first made.0 makes.between makes.first)) makes.second

      counts : (j : ℕ) → handles_to (world_value after with_both) j
          ≡ handles_to (world_value before with_both) j + count_by (λ (h : ℕ × Entry). h.1.koid == j) ((made.1, second) ∷ (made.0, first) ∷ [])
      counts j = counts_written before after p p2 with_both with_both j _ write refl
          (omega (
            arith,
            counted_inserted (λ h. h.1.koid == j) p.table first made.0 makes.between makes.first,
            counted_inserted (λ h. h.1.koid == j) makes.between second made.1 p2.table makes.second,
            sum_by-cons (λ (h : ℕ × Entry). cond (h.1.koid == j) 1 0) (made.1, second) ((made.0, first) ∷ []),
            sum_by-cons (λ (h : ℕ × Entry). cond (h.1.koid == j) 1 0) (made.0, first) [],
          ))

      pair_called : IsMaker w p.pid s.request 2 → plain_refusal lib w p.pid s.request ≡ None → Makes made → IsCalled lib before after r r2 p.pid s
          (outcome.Answered status.Ok)
      pair_called maker unrefused by = record {
        calls = (Values (two_values made), rw unrefused (by chosen both_ends));
        own = λ living. own_plain write r living s.request maker (first ∷ second ∷ []) (two_values made) refl (record {
          between = makes.between;
          inserts = makes.first;
          rest = record { between = p2.table; inserts = makes.second; rest = refl };
        });
        keeps = rw makes.objects (entered write ((made.1, second) ∷ (made.0, first) ∷ []) with_both growing_both.sound growing_both.kept
            (same_agrees write (ap (λ (q : Process). q.state) replies) with_both) table named counts);
      }

    -- ---- the step

    pair_done : plain_refusal lib w p.pid s.request ≡ answers (pair_refusal p.table.entries n) → wants_memory ≡ may_want s.request → IsMaker w p.pid s.request 2
        → TellsNothing lib w p.pid s → ((made : ℕ × ℕ) → Makes made) → IsDoneBy lib before after r r2 p p2 s (told_by two_values) (MakePairDoes pair)
    pair_done refused wanting maker nothing by =
        answered_done lib r2 consistent write s two_values (MakePairDoes pair) (MakesPair pair p.table r) wants_memory (pair_refusal p.table.entries n)
        (λ answer acts. acts) refused wanting maker.none nothing
        (λ made makes replies. pair_called made makes replies maker (refused ∙ ap answers makes.unrefused) (by made))

  -- where nothing else refuses it
  pair_refused : first_some (answer_if (not (nat_le (length p.table.entries + 2) 1024 && nat_le (n + 2) (2 ^ 62))) status.NoResources ∷ [])
      ≡ answers (pair_refusal p.table.entries n)
  pair_refused = one_test (not (nat_le (length p.table.entries + 2) 1024 && nat_le (n + 2) (2 ^ 62))) status.NoResources

  -- ---- the two calls

  module _ (base : Site) where
    pub chan_create_done : IsDoneBy lib before after r r2 p p2 (asking chan_create base) (told_by two_values) ChanCreateDoes
    unfolding plain_refusal handle_operands operands_fault listed has_room has_koids taken_handles remove_all gives_refused may_choose
        new_handles effect insert_all gives_ok
    chan_create_done = pair_done (asking chan_create base) pair.Channel (rw (table_is write r) pair_refused) refl
        (record { none = refl; chosen = refl; made = refl; own = refl }) (λ answer. refl)
        (λ made may ends. (rw (write.there, may) refl, refl, ends))

    pub eventpair_done : IsDoneBy lib before after r r2 p p2 (asking eventpair_create base) (told_by two_values) EventpairCreateDoes
    unfolding plain_refusal handle_operands operands_fault listed has_room has_koids taken_handles remove_all gives_refused may_choose
        new_handles effect insert_all gives_ok
    eventpair_done = pair_done (asking eventpair_create base) pair.Eventpair (rw (table_is write r) pair_refused) refl
        (record { none = refl; chosen = refl; made = refl; own = refl }) (λ answer. refl)
        (λ made may ends. (rw (write.there, may) refl, refl, ends))
