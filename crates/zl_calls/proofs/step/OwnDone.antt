-- What a process did is the lab's own, where its choice is.
use Rattle.zl_calls.proofs.Common.{Acts, AtCall, Bool, CallBy, CallName, Choice, FreeBy, IsActed, IsOwnDone, IsStuck, Library, List, Moves, None, Objects}
use Rattle.zl_calls.proofs.Common.{Option, Outcome, OwnWorld, Process, ProcessValue, Refused, Request, Settles, Settles-exists, Settles-unique, Site, Some}
use Rattle.zl_calls.proofs.Common.{Status, TraceItem, Values, Wants, World, ap, call_here, close, entered_free, false, false≢true, free_at, free_entry, get}
use Rattle.zl_calls.proofs.Common.{left_free, map, new_handles, next_for, none-some, own_beside, own_values, process_entry, process_value, refl, refusal}
use Rattle.zl_calls.proofs.Common.{same_Some, settled, subst, sym, tells_want, true, ℕ, ◌∙◌, ◌≡◌}
use Rattle.zl_code.proofs.Common.{Next, after_ok, after_refusal, ok_outcome}
use Rattle.zl_code.specs.Calls.{grows, wanted}
use Rattle.zl_code.specs.OwnSteps.{own_act, own_call}
use Rattle.zl_code.specs.declared.history.Outcome.TheVariants as outcome
use Rattle.zl_code.specs.declared.history.TraceItem.TheVariants as item
use Rattle.zl_rights.specs.declared.status.Status.TheVariants as status
use Rattle.zl_code.specs.OwnHistory.{is_want}
use Rattle.zl_calls.proofs.calls.Owned.{IsOwn, own_in}
use Rattle.zl_calls.proofs.processes.Departed.{left_all}
use Rattle.zl_calls.proofs.processes.Freed.{left_free_by}

-- what follows is what the lab leaves
own_settled : (acted own w2 : World) → Settles acted w2 → acted ≡ own → w2 ≡ settled own
own_settled acted own w2 settles same = Settles-unique acted w2 (settled acted) settles (Settles-exists acted) ∙ ap settled same

-- the same is chosen beside waits
same_values : (before : List Process) (r : Objects) (blocked : List ℕ) (pid : ℕ) (request : Request)
    → own_values (own_in before r) pid request ≡ own_values (own_beside before r blocked) pid request
unfolding new_handles
same_values before r blocked pid (close h) = refl
same_values before r blocked pid _ = refl

same_entered : (before : List Process) (r : Objects) (blocked : List ℕ) (pid : ℕ) (request : Request)
    → entered_free (own_in before r) pid request ≡ entered_free (own_beside before r blocked) pid request
unfolding new_handles
same_entered before r blocked pid (close h) = refl
same_entered before r blocked pid _ = refl

pub same_beside : (before after : List Process) (r : Objects) (blocked : List ℕ) (pid : ℕ) (request : Request)
    → FreeBy after (entered_free (own_in before r) pid request) → FreeBy after (entered_free (own_beside before r blocked) pid request)
same_beside before after r blocked pid request by = rw (← same_entered before r blocked pid request) by

module _ (lib : Library) (before after : List Process) (r : Objects) (blocked : List ℕ) (pid : ℕ) where
  abbrev o : OwnWorld
  o = own_beside before r blocked

  -- a call by its choice
  by_choice : (call : CallName) (s : Site) (ends : Outcome) (acted w2 : World) → Settles acted w2 → tells_want (item.Call pid call ends) ≡ false
      → (choice : Choice) (refused : Option Outcome) → CallBy lib o.world pid s choice refused ends acted → IsOwn before after r pid s.request choice
      → (w2 ≡ settled (own_call lib o pid call s refused).world) × (item.Call pid call ends ≡ (own_call lib o pid call s refused).item)
      × FreeBy after (own_call lib o pid call s refused).free
  by_choice call s ends acted w2 settles plain Refused (Some a) by own =
      (own_settled acted (after_refusal o.world pid s a) w2 settles by.1, ap (item.Call pid call) by.0, own)
  by_choice call s ends acted w2 settles plain (Values vs) None by own = (
    own_settled acted (after_ok lib o.world pid s (own_values o pid s.request) (ok_outcome o.world pid s.request)) w2 settles
        (by.2 ∙ ap (λ us. after_ok lib o.world pid s us (ok_outcome o.world pid s.request)) (own.0 ∙ same_values before r blocked pid s.request)),
    ap (item.Call pid call) by.1,
    rw (← same_entered before r blocked pid s.request) own.1,
  )
  by_choice call s ends acted w2 settles plain (Wants want) None by own = absurd (never (grows s.request) want by.0 by.1)
    where
      never : (memory : Bool) (want : Status) → wanted memory want ≡ true → ends ≡ outcome.Answered want → ⊥
      never memory status.NoMemory may is = false≢true (sym plain ∙ ap is_want is)
      never memory _ may is = absurd (false≢true may)
  by_choice call s ends acted w2 settles plain _ _ by own = absurd by

  pub call_own : (call : CallName) (s : Site) (ends : Outcome) (acted w2 : World) → (choice : Choice)
      → CallBy lib o.world pid s choice (refusal lib o.world pid s.request) ends acted → IsOwn before after r pid s.request choice
      → Settles acted w2 → tells_want (item.Call pid call ends) ≡ false → IsOwnDone lib o pid (AtCall call s) (item.Call pid call ends) w2 after
  call_own call s ends acted w2 choice by own settles plain =
      let done = by_choice call s ends acted w2 settles plain choice (refusal lib o.world pid s.request) by own in
      record { world = done.0; item = done.1; free = done.2 }

  -- one that blocks, whatever it would give to new handles
  pub blocked_own : (call : CallName) (s : Site) (acted w2 : World) → (choice : Choice)
      → CallBy lib o.world pid s choice (refusal lib o.world pid s.request) outcome.Blocked acted → FreeBy after (left_free o pid s.request)
      → FreeBy after (entered_free o pid s.request) → Settles acted w2 → IsOwnDone lib o pid (AtCall call s) (item.Call pid call outcome.Blocked) w2 after
  blocked_own call s acted w2 choice by left entered settles =
      let done = by_ends choice (refusal lib o.world pid s.request) by in
      record { world = own_settled acted _ w2 settles done.0; item = done.1; free = done.2 }
    where
      blocked_answers : (want : Status) → outcome.Blocked ≡ outcome.Answered want → ⊥
      blocked_answers want e = cc

      by_ends : (choice : Choice) (refused : Option Outcome) → CallBy lib o.world pid s choice refused outcome.Blocked acted
          → (acted ≡ (own_call lib o pid call s refused).world) × (item.Call pid call outcome.Blocked ≡ (own_call lib o pid call s refused).item) × FreeBy after
          (own_call lib o pid call s refused).free
      by_ends Refused (Some a) by = (by.1, ap (item.Call pid call) by.0, left)
      by_ends (Values vs) None by = (
        by.2 ∙ subst (λ (e : Outcome). after_ok lib o.world pid s vs e ≡ after_ok lib o.world pid s (own_values o pid s.request) e) by.1 refl,
        ap (item.Call pid call) by.1,
        entered,
      )
      by_ends (Wants want) None by = absurd (blocked_answers want by.1)
      by_ends _ _ by = absurd by

  -- what isn't a call
  pub plain_own : (n : Next) (x : TraceItem) (acted w2 : World) → call_here n ≡ None → Acts lib o.world pid n x acted → Settles acted w2
      → FreeBy after (free_at (map free_entry before)) → IsOwnDone lib o pid n x w2 after
  plain_own (Moves c) x acted w2 none acts settles by = record { world = own_settled acted _ w2 settles acts.1; item = acts.0; free = by }
  plain_own IsStuck x acted w2 none acts settles by = record { world = own_settled acted _ w2 settles acts.1; item = acts.0; free = by }
  plain_own (AtCall call s) x acted w2 none acts settles by = absurd (none-some call (sym none))

  -- what is refused
  pub refused_of : (call : CallName) (s : Site) (x : TraceItem) (w2 : World) → IsActed lib o.world pid x w2 → (q : ProcessValue)
      → get (map process_entry before) pid ≡ Some q → next_for lib q ≡ AtCall call s → (e : Outcome) → refusal lib o.world pid s.request ≡ Some e
      → FreeBy after (left_free o pid s.request) → IsOwnDone lib o pid (AtCall call s) x w2 after
  refused_of call s x w2 did q at next e refused free = by_acts
      (subst (λ (n : Next). Acts lib o.world pid n x did.acted) (ap (next_for lib) (same_Some did.process q (sym did.is_there ∙ at)) ∙ next) did.acts)
    where
      by_choice_so : (ends : Outcome) → x ≡ item.Call pid call ends → (choice : Choice) → CallBy lib o.world pid s choice (Some e) ends did.acted
          → IsOwnDone lib o pid (AtCall call s) x w2 after
      by_choice_so ends is Refused by =
          let done = subst (λ (f : Option Outcome). (w2 ≡ settled (own_call lib o pid call s f).world) × (x ≡ (own_call lib o pid call s f).item)
          × FreeBy after (own_call lib o pid call s f).free) (sym refused)
          (own_settled did.acted (after_refusal o.world pid s e) w2 did.settles by.1, is ∙ ap (item.Call pid call) by.0, free) in
          record { world = done.0; item = done.1; free = done.2 }
      by_choice_so ends is _ by = absurd by

      by_acts : Acts lib o.world pid (AtCall call s) x did.acted → IsOwnDone lib o pid (AtCall call s) x w2 after
      by_acts (ends, is, calls) = by_choice_so ends is calls.0
          (subst (λ (f : Option Outcome). CallBy lib o.world pid s calls.0 f ends did.acted) refused calls.1)

  pub plain_of : (x : TraceItem) (w2 : World) → IsActed lib o.world pid x w2 → (q : ProcessValue) → get (map process_entry before) pid ≡ Some q
      → call_here (next_for lib q) ≡ None → FreeBy after (free_at (map free_entry before)) → IsOwnDone lib o pid (next_for lib q) x w2 after
  plain_of x w2 did q at none by =
      plain_own (next_for lib q) x did.acted w2 none
      (subst (λ (y : ProcessValue). Acts lib o.world pid (next_for lib y) x did.acted)
      (same_Some did.process q (sym did.is_there ∙ at)) did.acts) did.settles by

-- so it is of the process that was looked up, once processes have gone with their objects
pub own_so : (lib : Library) (ps after : List Process) (r r2 : Objects) (blocked : List ℕ) (pid : ℕ) (p : Process) (x : TraceItem) (w2 : World)
    → get (map process_entry ps) pid ≡ Some (process_value p)
    → IsOwnDone lib (own_beside ps r blocked) pid (next_for lib (process_value p)) x w2 after → (q : ProcessValue) → get (map process_entry ps) pid ≡ Some q
    → IsOwnDone lib (own_beside ps r blocked) pid (next_for lib q) x w2 (left_all after r2)
own_so lib ps after r r2 blocked pid p x w2 there done q at =
    subst (λ (y : ProcessValue). IsOwnDone lib (own_beside ps r blocked) pid (next_for lib y) x w2 (left_all after r2))
    (same_Some (process_value p) q (sym there ∙ at))
    (record {
      world = done.world;
      item = done.item;
      free = left_free_by r2.objects after (own_act lib (own_beside ps r blocked) pid (next_for lib (process_value p))).free done.free;
    })
