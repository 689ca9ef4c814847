-- The call process_start where it is done: in the world it is what the definitions make of it.
use Rattle.zl_calls.proofs.Common.{IsToldIn, IsTrue, Library, List, Map, None, Objects, Ok, Reach, PlainCalls, Process, ProcessValue, Site, Some, StartsProcess}
use Rattle.zl_calls.proofs.Common.{StateValue, TRANSFER, Values, WRITE, [], ap, cases_Bool, cpu_answered, eqb-true, false, get, get_put_other, inl, inr}
use Rattle.zl_calls.proofs.Common.{is_created, is_ready, is_sorted, is_sorted-update, looked_up, map, nat_cmp, no_value, parts, process_entry, process_start}
use Rattle.zl_calls.proofs.Common.{process_value, process_with, process_without, refl, same_Some, slice_get, slice_set, start_refusal, started_with}
use Rattle.zl_calls.proofs.Common.{state_value, subst, sym, told_by, true, update, without_handle, world_value, ℕ, ◌==◌, ◌∙◌, ◌∷◌, ◌≡◌, ◌≢◌}
use Rattle.zl_rights.specs.declared.kind.Kind.TheVariants as kind
use Rattle.zl_rights.specs.declared.status.Status.TheVariants as status
use Rattle.zl_code.specs.declared.history.Outcome.TheVariants as outcome
use Rattle.zl_calls.proofs.calls.Answered.{IsWrite, asking}
use Rattle.zl_calls.proofs.parts.StartCalls.{caller_is, child_is, start_calls, writes_at}
use Rattle.zl_calls.proofs.parts.StartParts.{get_set, not_both, set_apart, set_twice}

module _ {lib : Library} {ps : List Process} {r : Objects} {blocked : List ℕ} {place process h word : ℕ} {p : Process} {all1 all2 : Reach}
    (base : Site) (is_caller : slice_get ps place ≡ Some p) (ready : is_ready (state_value p.state) ≡ true)
    (sorted : IsTrue (is_sorted nat_cmp (map process_entry ps))) (does : StartsProcess lib (parts ps r blocked) place process h word all1)
    (tells : IsToldIn (asking (process_start process h word) base) place (told_by no_value (Ok tt)) all1 all2) where
  abbrev s : Site
  s = asking (process_start process h word) base

  same_caller : does.caller ≡ p
  same_caller = same_Some does.caller p (sym does.is_caller.is_there ∙ is_caller)

  not_same : does.child ≢ p
  not_same is = not_both p.state (subst (λ (q : Process). is_created (state_value q.state) ≡ true) is does.is_created) ready

  apart : does.at_place ≢ place
  apart same = not_same (same_Some does.child p (sym does.is_child ∙ (ap (slice_get ps) same ∙ is_caller)))

  -- the caller, as it is in the end
  abbrev p2 : Process
  p2 = record p { table = without_handle p.table h; cpu = cpu_answered s status.Ok [] p.cpu }

  after_is : does.after ≡ record p { table = without_handle p.table h }
  after_is = does.is_caller.same ∙ (λ i. record (same_caller i) { table = (does.table ∙ ap (λ (q : Process). without_handle q.table h) same_caller) i })

  caller_there : slice_get all1.processes place ≡ Some does.after
  caller_there =
      ap (λ (qs : List Process). slice_get qs place) does.processes
      ∙ (get_put_other (slice_set ps place does.after) does.at_place place does.started apart ∙ get_set ps place does.caller does.after does.is_caller.is_there)

  told_is : (record tells.caller { cpu = cpu_answered s status.Ok [] tells.caller.cpu }) ≡ p2
  told_is =
      let one : tells.caller ≡ record p { table = without_handle p.table h } =
      same_Some tells.caller does.after (sym tells.is_there ∙ caller_there) ∙ after_is in
      λ i. record (one i) { cpu = cpu_answered s status.Ok [] (one i).cpu }

  pub all_is : all2.processes ≡ slice_set (slice_set ps does.at_place does.started) place p2
  all_is =
      tells.processes ∙ ((λ i. slice_set (does.processes i) place (told_is i))
      ∙ (ap (λ (qs : List Process). slice_set qs place p2) (set_apart ps place does.at_place does.after does.started (λ e. apart (sym e)))
      ∙ set_twice (slice_set ps does.at_place does.started) place does.after p2))

  pub child_write : IsWrite ps (slice_set ps does.at_place does.started) does.child does.started
  child_write = writes_at ps does.at_place does.child does.started sorted does.is_child (ap (λ (q : Process). q.pid) does.starts)

  still_sorted : IsTrue (is_sorted nat_cmp (map process_entry (slice_set ps does.at_place does.started)))
  still_sorted =
      rw (child_write.writes (λ _. process_value does.started) refl, is_sorted-update (map process_entry ps) does.child.pid (λ _. process_value does.started))
      sorted

  pub caller_write : IsWrite (slice_set ps does.at_place does.started) (slice_set (slice_set ps does.at_place does.started) place p2) p p2
  caller_write =
      writes_at (slice_set ps does.at_place does.started) place p p2 still_sorted (get_put_other ps does.at_place place does.started apart ∙ is_caller) refl

  caller_held : get (map process_entry ps) p.pid ≡ Some (process_value p)
  caller_held = (writes_at ps place p p sorted is_caller refl).there

  pub other_pid : (p.pid == does.named.koid) ≡ false
  other_pid = elim (cases_Bool (p.pid == does.named.koid)) as (λ _. (p.pid == does.named.koid) ≡ false) [
    | inl here ↦
        let same : does.child.pid ≡ p.pid = does.pid ∙ sym (eqb-true p.pid does.named.koid here) in
        let one : process_value does.child ≡ process_value p =
        same_Some (process_value does.child) (process_value p) (sym child_write.there ∙ (ap (λ (k : ℕ). get (map process_entry ps) k) same ∙ caller_held)) in
        absurd (not_both p.state (subst (λ (x : StateValue). is_created x ≡ true) (ap (λ (q : ProcessValue). q.state) one) does.is_created) ready)
    | inr apart ↦ apart
  ]

  pub is_named : looked_up p.table.entries process (kind.Process ∷ []) WRITE ≡ Ok does.named
  is_named = subst (λ (q : Process). looked_up q.table.entries process (kind.Process ∷ []) WRITE ≡ Ok does.named) same_caller does.is_named

  pub is_given : looked_up p.table.entries h [] TRANSFER ≡ Ok does.given
  is_given = subst (λ (q : Process). looked_up q.table.entries h [] TRANSFER ≡ Ok does.given) same_caller does.is_given

  child_held : get (map process_entry ps) does.named.koid ≡ Some (process_value does.child)
  child_held = subst (λ (k : ℕ). get (map process_entry ps) k ≡ Some (process_value does.child)) does.pid child_write.there

  abbrev caller_now : ProcessValue → ProcessValue
  caller_now q = record (process_without h q) { cpu = cpu_answered s status.Ok [] (process_without h q).cpu }

  abbrev child_now : ProcessValue → ProcessValue
  child_now q = process_with does.value does.given (started_with (does.value ∷ []) word q)

  caller_seen : process_value p2 ≡ caller_now (process_value p)
  caller_seen =
      caller_is lib ps r p caller_held process h word base does.named does.given is_named is_given other_pid does.child does.started child_held
      does.value does.inserts p2 refl

  child_seen : process_value does.started ≡ child_now (process_value does.child)
  child_seen =
      child_is lib ps r p caller_held process h word base does.named does.given is_named is_given other_pid does.child does.started child_held
      does.value does.inserts does.starts

  processes_are : map process_entry all2.processes ≡ update (update (map process_entry ps) does.named.koid child_now) p.pid caller_now
  processes_are =
      ap (λ (qs : List Process). map process_entry qs) all_is ∙ (caller_write.writes caller_now caller_seen
      ∙ ap (λ (m : Map ProcessValue). update m p.pid caller_now)
      (child_write.writes child_now child_seen ∙ ap (λ (k : ℕ). update (map process_entry ps) k child_now) does.pid))

  -- the call of the definitions
  pub start_relates : (c : PlainCalls lib (world_value ps r) p.pid s (outcome.Answered status.Ok) (world_value all2.processes all2.objects))
      × (c.0 ≡ Values (does.value ∷ []))
  start_relates =
      subst (λ (x : Objects). (c : PlainCalls lib (world_value ps r) p.pid s (outcome.Answered status.Ok) (world_value all2.processes x))
      × (c.0 ≡ Values (does.value ∷ []))) (sym (tells.objects ∙ does.objects))
      (start_calls lib ps r p caller_held process h word base does.named does.given is_named is_given other_pid does.child does.started
      child_held does.value does.inserts (subst (λ (q : Process). start_refusal lib ps q.table.entries process h ≡ None) same_caller does.unrefused)
      all2.processes does.child.pid processes_are)
