-- A call that looks at registered waits: it is done beside them and any blocked processes, or refused with nothing changed.
use Rattle.zl_calls.proofs.Common.{Bool, Does, Err, Handles, IsConsistent, Library, List, Objects, Ok, Option, Outcome, Process, Replies, Result, Site, Status}
use Rattle.zl_calls.proofs.Common.{Wait, World, [], ap, may_want, plain_refusal, remove_all, replied, replied_among, status_of, subst, sym, taken}
use Rattle.zl_calls.proofs.Common.{taken_handles, values_of, with_waiters, without_handles, world_blocked, world_value, ℕ, ◌∙◌, ◌≡◌}
use Rattle.zl_rights.specs.declared.status.Status.TheVariants as status
use Rattle.zl_code.specs.declared.history.Outcome.TheVariants as outcome
use Rattle.zl_calls.proofs.calls.Answered.{IsWrite, same_world}
use Rattle.zl_calls.proofs.calls.DoneCalls.{IsCalledAmong}
use Rattle.zl_calls.proofs.calls.Owned.{own_refused}
use Rattle.zl_calls.proofs.calls.Refused.{TellsNothing, answers, refused_calls, refused_own}
use Rattle.zl_calls.proofs.processes.Written.{refusal_keeps}

-- a process of the world, before and after its call
module _ {before after : List Process} {r : Objects} {p p2 : Process} (lib : Library) (r2 : Objects) (consistent : IsConsistent before r)
    (write : IsWrite before after p p2)
    (s : Site) where
  -- the world afterwards, from the one without waits
  pub ends_among : (blocked : List ℕ) (middle : World) (waits : List Wait) (made : ℕ) (answer : Status) (values : List ℕ)
      → world_value after r2 ≡ replied middle p.pid s answer values → r2.waits ≡ waits → r2.waits_made ≡ made
      → world_blocked after r2 blocked ≡ replied (with_waiters middle waits made blocked) p.pid s answer values
  ends_among blocked middle waits made answer values ends listed counted =
      (λ i. with_waiters (ends i) (listed i) (counted i) blocked) ∙ sym (replied_among p.pid waits made blocked middle s answer values)

  module _ {A : Type 0} (values : A → List ℕ) (Done : A → Handles → Objects → Type 0) (wants : Status → Bool) (o : Option Status)
      (refused : (blocked : List ℕ) → plain_refusal lib (world_blocked before r blocked) p.pid s.request ≡ answers o)
      (wanting : (blocked : List ℕ) → wants ≡ may_want s.request)
      (takes_none : taken_handles s.request ≡ [])
      (nothing : (blocked : List ℕ) → TellsNothing lib (world_blocked before r blocked) p.pid s)
      (done : (x : A) → Done x p2.table r2 → Replies s status.Ok (values x) p p2
      → IsCalledAmong lib before after r r2 p.pid s (outcome.Answered status.Ok)) where
    ends : (blocked : List ℕ) (answer : Status) → Does Done wants o p.table r (Err answer) p2.table r2 → Replies s answer [] p p2
        → world_blocked after r2 blocked ≡ replied (taken (world_blocked before r blocked) p.pid s) p.pid s answer []
    unfolding remove_all
    ends blocked answer does replies =
        ends_among blocked (world_value before r) r.waits r.waits_made answer [] (same_world write r r2 s answer [] does.same_table does.same_objects replies)
        (ap (λ (x : Objects). x.waits) does.same_objects) (ap (λ (x : Objects). x.waits_made) does.same_objects)
        ∙ ap (λ (hs : List ℕ). replied (remove_all (world_blocked before r blocked) p.pid hs) p.pid s answer []) (sym takes_none)

    by_answer : (answer : Result A Status) → Does Done wants o p.table r answer p2.table r2 → Replies s (status_of answer) (values_of values answer) p p2
        → IsCalledAmong lib before after r r2 p.pid s (outcome.Answered (status_of answer))
    by_answer (Ok x) does replies = done x does.ok replies
    by_answer (Err answer) does replies = record {
      calls =
          λ blocked. refused_calls lib (world_blocked before r blocked) p.pid s wants o answer (world_blocked after r2 blocked) (nothing blocked)
          (refused blocked) (wanting blocked) does.err (ends blocked answer does replies);
      own = λ living blocked. refused_own lib (world_blocked before r blocked) p.pid s before after r wants o answer (world_blocked after r2 blocked)
          (nothing blocked)
          (refused blocked) (wanting blocked) does.err (ends blocked answer does replies)
          (own_refused write r living s.request (does.same_table ∙ ap (without_handles p.table) (sym takes_none)));
      keeps = subst (IsConsistent after) (sym does.same_objects)
          (refusal_keeps write r consistent does.same_table (ap (λ (q : Process). q.state) replies));
    }

    pub answered_among : (ends : Outcome) (answer : Result A Status) → Does Done wants o p.table r answer p2.table r2
        → Replies s (status_of answer) (values_of values answer) p p2
        → ends ≡ outcome.Answered (status_of answer) → IsCalledAmong lib before after r r2 p.pid s ends
    answered_among ends answer does replies is = subst (λ (x : Outcome). IsCalledAmong lib before after r r2 p.pid s x) (sym is) (by_answer answer does replies)
