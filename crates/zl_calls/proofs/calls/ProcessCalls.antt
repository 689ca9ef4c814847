-- The calls on processes: the end of a process, by process_exit or because it is stuck, to a step up to where processes wake.
use Rattle.zl_calls.proofs.Common.{AtCall, CallName, Ended, Ends, Entry, Free, FreeBy, IsActed, IsConsistent, IsNamed, IsStuck, IsTable, Library, List, Map}
use Rattle.zl_calls.proofs.Common.{Objects, PlainCalls, Process, ProcessValue, Ready, Releases, STUCK, Settles, Site, Some, State, Values, World, [], ap, arith}
use Rattle.zl_calls.proofs.Common.{coming, count_by, effect, ended, entered_free, false, false≢true, free_at, free_entry, get, handle_operands, insert_all}
use Rattle.zl_calls.proofs.Common.{is_process, listed, lives, map, may_choose, new_handles, next_for, none-some, on_process, operands_fault, plain_refusal}
use Rattle.zl_calls.proofs.Common.{process_exit, process_value, refl, releases_then, remove_all, signed_word, state_value, stopping, subst, sym, taken_handles}
use Rattle.zl_calls.proofs.Common.{true, world_value, ℕ, ℤ, ◌+◌, ◌==◌, ◌∙◌, ◌≡◌}
use Rattle.zl_code.specs.declared.history.Outcome.TheVariants as outcome
use Rattle.zl_code.specs.declared.history.TraceItem.TheVariants as item
use Rattle.zl_calls.specs.declared.process.State.TheVariants as state
use Rattle.zl_code.specs.Effects.{process_ended as process_over}
use Rattle.zl_calls.proofs.calls.Answered.{IsWrite, asking}
use Rattle.zl_calls.proofs.calls.DoneCalls.{IsDone}
use Rattle.zl_calls.proofs.calls.Owned.{IsOwn, own_call_of, own_in}
use Rattle.zl_calls.proofs.processes.Freed.{free_written}
use Rattle.zl_calls.proofs.step.FromConsistent.{call_settles}
use Rattle.zl_calls.proofs.processes.Departed.{settled_world}
use Rattle.zl_calls.proofs.objects.Settled.{AreGone, IsSettled, drained, settled}
use Rattle.zl_calls.proofs.processes.Stopped.{IsOver, named_stopped, over, seen_stopped, sound_stopped}

module _ {before after : List Process} {r : Objects} {p p2 : Process} (lib : Library) (r2 : Objects) (consistent : IsConsistent before r)
    (write : IsWrite before after p p2) (code : ℤ)
    (ends : Ends code p r p2 r2) (ready : state_value p.state ≡ Ready) where
  abbrev w : World
  w = world_value before r

  no_table : IsTable p2.table.entries
  unfolding get
  no_table = record {
    sorted = rw (ends.no_handle) refl;
    few = rw (ends.no_handle) (omega arith);
    values = λ v has. absurd (false≢true (rw (ends.no_handle) at has));
  }

  old_table : IsTable p.table.entries
  old_table = consistent.tables p.pid (process_value p) write.there

  ended_state : p2.state ≡ state.Ended code
  ended_state = ap (λ (q : Process). q.state) ends.process

  none_left : (j : ℕ)
      → count_by (λ h. h.1.koid == j) p.table.entries ≡ count_by (λ h. h.1.koid == j) p2.table.entries + count_by (λ h. h.1.koid == j) p.table.entries
  none_left j = rw (ends.no_handle) (omega arith)

  none_named : (v : ℕ) (e : Entry) → get p2.table.entries v ≡ Some e → IsNamed r.objects e
  unfolding get
  none_named v e at = absurd (none-some e (rw (ends.no_handle) at at))

  left : IsSettled after (stopping r p.pid) r2
  left =
      let out : IsOver p.pid r ends.between = over p.pid r ends.between consistent.kept ends.over in
      let gone : AreGone p.table.entries ends.between r2 = drained p.table.entries ends.between r2 old_table.sorted ends.closes in
      let all : Releases gone.koids out.loose (stopping r p.pid) r2 =
      releases_then [] gone.koids out.loose (stopping r p.pid) ends.between r2 out.releases gone.releases in
      settled after p.table.entries (stopping r p.pid)
      (sound_stopped write r consistent p.table.entries no_table none_left none_named code ended_state) old_table.sorted
      (λ v e at. named_stopped write r consistent p.table.entries no_table none_left none_named e
      (consistent.named p.pid (process_value p) v e write.there at))
      gone.koids gone.counts r2 all.cascades (all.keeps [] out.kept) all.koids

  pub ends_keeps : IsConsistent after r2
  ends_keeps = left.consistent

  pub settles : Settles (world_value after r) (settled_world after r2)
  settles =
      subst (λ (x : World). Settles x (settled_world after r2)) (seen_stopped write r consistent p.table.entries no_table none_left none_named) left.settles

  -- the world after the effect alone
  pub ended_is : world_value after r ≡ ended w p.pid code
  unfolding ended on_process
  ended_is = ap (λ (ps : Map ProcessValue). record w { processes = ps }) (write.writes (process_over code) is)
    where
      is : process_value p2 ≡ process_over code (process_value p)
      is = ap process_value ends.process ∙ (rw ready (λ i. record (process_value p) { state = Ended code; handles = ends.no_handle i; last = ends.no_last i }))

  -- others keep their values
  pub over_free : (f : ℕ → Free) → ((k : ℕ) → (p.pid == k) ≡ false → f k ≡ free_at (map free_entry before) k) → FreeBy after f
  over_free f others = free_written write f (λ goes. absurd (false≢true (sym (ap (λ (x : State). lives (state_value x)) ended_state) ∙ goes))) others

  -- ---- a stuck process

  pub stuck_steps : code ≡ STUCK → next_for lib (process_value p) ≡ IsStuck → IsActed lib w p.pid (item.Stuck p.pid) (settled_world after r2)
  stuck_steps is next = record {
    process = process_value p;
    is_there = write.there;
    is_ready = ready;
    acted = world_value after r;
    acts = rw next (refl, ended_is ∙ ap (ended w p.pid) is);
    settles = settles;
  }

  -- ---- process_exit

  module _ (n : ℕ) (is : code ≡ signed_word n) (base : Site) where
    abbrev s : Site
    s = asking (process_exit n) base

    exit_calls : (c : PlainCalls lib w p.pid s (outcome.Ended code) (world_value after r)) ×
        (is_process w lives p.pid ≡ true → IsOwn before after r p.pid s.request c.0)
    unfolding plain_refusal handle_operands operands_fault listed may_choose new_handles insert_all remove_all taken_handles effect coming
    exit_calls = (
      (Values [], (rw write.there refl, ap outcome.Ended is, ended_is ∙ ap (ended w p.pid) is)),
      λ living.
          (refl, over_free (entered_free (own_in before r) p.pid s.request) (λ k apart. rw apart refl)),
    )

    pub exit_done : (call : CallName) → next_for lib (process_value p) ≡ AtCall call s → IsDone lib before after r r2 p.pid call (outcome.Ended code)
    exit_done call next = record {
      step = call_settles lib before after r r r2 p call s (outcome.Ended code) write.there ready next exit_calls.0 settles;
      own = own_call_of lib before after r r2 p call s (outcome.Ended code) write.there next (world_value after r) exit_calls.0 exit_calls.1 settles;
      consistent = ends_keeps;
    }
