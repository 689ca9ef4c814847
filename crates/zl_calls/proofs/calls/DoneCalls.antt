-- That a call is done: it is a step up to where processes wake, and the invariant holds afterwards.
use Rattle.zl_calls.proofs.Common.{AtCall, Bool, CallName, Does, Err, Handles, IsActed, IsAnswered, IsConsistent, Library, List, Objects, Ok, Option, Outcome}
use Rattle.zl_calls.proofs.Common.{PlainCalls, Process, Ready, Replies, Result, Site, Status, Told, World, [], ap, is_process, lives, may_want, next_for}
use Rattle.zl_calls.proofs.Common.{plain_refusal, process_value, remove_all, replied, state_value, status_of, subst, sym, taken, taken_handles, told_by, true}
use Rattle.zl_calls.proofs.Common.{values_of, without_handles, world_blocked, world_value, ℕ, ◌∙◌, ◌≡◌}
use Rattle.zl_rights.specs.declared.status.Status.TheVariants as status
use Rattle.zl_code.specs.declared.history.Outcome.TheVariants as outcome
use Rattle.zl_code.specs.declared.history.TraceItem.TheVariants as item
use Rattle.zl_calls.proofs.calls.Answered.{IsWrite, same_world}
use Rattle.zl_calls.proofs.step.FromConsistent.{IsFree, call_settles}
use Rattle.zl_calls.proofs.processes.Departed.{settled_world}
use Rattle.zl_calls.proofs.calls.Owned.{IsOwn, IsOwnCall, own_call_of, own_refused}
use Rattle.zl_calls.proofs.calls.Refused.{TellsNothing, answers, refused_calls, refused_own}
use Rattle.zl_calls.proofs.objects.Settled.{still_settles}
use Rattle.zl_calls.proofs.processes.Written.{refusal_keeps}

-- where no policy has a say, the call is a step up to where processes wake; and the invariant holds afterwards
pub record IsDone (lib : Library) (before after : List Process) (r r2 : Objects) (pid : ℕ) (call : CallName) (ends : Outcome) : Type 0 where
  pub step : IsFree lib (world_value before r) pid call → IsActed lib (world_value before r) pid (item.Call pid call ends) (settled_world after r2)
  pub own : IsOwnCall lib before after r r2 pid call ends
  pub consistent : IsConsistent after r2

-- the call in its world, and the invariant
pub record IsCalled (lib : Library) (before after : List Process) (r r2 : Objects) (pid : ℕ) (s : Site) (ends : Outcome) : Type 0 where
  pub calls : PlainCalls lib (world_value before r) pid s ends (world_value after r2)
  pub own : is_process (world_value before r) lives pid ≡ true → IsOwn before after r pid s.request calls.0
  pub keeps : IsConsistent after r2

-- the call beside registered waits and any blocked processes, and the invariant
pub record IsCalledAmong (lib : Library) (before after : List Process) (r r2 : Objects) (pid : ℕ) (s : Site) (ends : Outcome) : Type 0 where
  pub calls : (blocked : List ℕ) → PlainCalls lib (world_blocked before r blocked) pid s ends (world_blocked after r2 blocked)
  pub own : is_process (world_value before r) lives pid ≡ true → (blocked : List ℕ) → IsOwn before after r pid s.request (calls blocked).0
  pub keeps : IsConsistent after r2

-- a ready process at the call of the site that is answered so has done it
abbrev pub IsDoneBy : {A : Type 0} → Library → (before after : List Process) (r r2 : Objects) (p p2 : Process) → Site → (A → Told)
    → (Handles → Objects → A → Handles → Objects → Type 0) → Type 0
IsDoneBy lib before after r r2 p p2 s told Acts =
    state_value p.state ≡ Ready → (call : CallName) → next_for lib (process_value p) ≡ AtCall call s → (o : Outcome) → IsAnswered told Acts s p r o p2 r2
    → IsDone lib before after r r2 p.pid call o

-- a process of the world, before and after its call
module _ {before after : List Process} {r : Objects} {p p2 : Process} (lib : Library) (r2 : Objects) (consistent : IsConsistent before r)
    (write : IsWrite before after p p2) where
  abbrev w : World
  w = world_value before r

  -- a call after which all is held
  pub called_done : state_value p.state ≡ Ready → (call : CallName) (s : Site) → next_for lib (process_value p) ≡ AtCall call s → (ends : Outcome)
      → IsCalled lib before after r r2 p.pid s ends → IsDone lib before after r r2 p.pid call ends
  called_done ready call s next ends called = record {
    step = call_settles lib before after r r2 r2 p call s ends write.there ready next called.calls
        (still_settles after r2 called.keeps);
    own = own_call_of lib before after r r2 p call s ends write.there next (world_value after r2) called.calls called.own (still_settles after r2 called.keeps);
    consistent = called.keeps;
  }

  -- a call that takes no handle and is either done or refused
  module _ {A : Type 0} (s : Site) (values : A → List ℕ) (Acts : Handles → Objects → Result A Status → Handles → Objects → Type 0)
      (Done : A → Handles → Objects → Type 0) (wants : Status → Bool) (o : Option Status)
      (does : (answer : Result A Status) → Acts p.table r answer p2.table r2 → Does Done wants o p.table r answer p2.table r2)
      (refused : plain_refusal lib w p.pid s.request ≡ answers o) (wanting : wants ≡ may_want s.request) (takes_none : taken_handles s.request ≡ [])
      (nothing : TellsNothing lib w p.pid s)
      (done : (x : A) → Done x p2.table r2 → Replies s status.Ok (values x) p p2 → IsCalled lib before after r r2 p.pid s (outcome.Answered status.Ok)) where
    taken_none : taken w p.pid s ≡ w
    unfolding remove_all
    taken_none = ap (remove_all w p.pid) takes_none

    ends : (answer : Status) → Does Done wants o p.table r (Err answer) p2.table r2 → Replies s answer [] p p2
        → world_value after r2 ≡ replied (taken w p.pid s) p.pid s answer []
    ends answer does replies =
        same_world write r r2 s answer [] does.same_table does.same_objects replies ∙ ap (λ (v : World). replied v p.pid s answer []) (sym taken_none)

    by_answer : (answer : Result A Status) → Does Done wants o p.table r answer p2.table r2 → Replies s (status_of answer) (values_of values answer) p p2
        → IsCalled lib before after r r2 p.pid s (outcome.Answered (status_of answer))
    by_answer (Ok x) does replies = done x does.ok replies
    by_answer (Err answer) does replies = record {
      calls = refused_calls lib w p.pid s wants o answer (world_value after r2) nothing refused wanting does.err (ends answer does replies);
      own = λ living. refused_own lib w p.pid s before after r wants o answer (world_value after r2) nothing refused wanting does.err (ends answer does replies)
          (own_refused write r living s.request (does.same_table ∙ ap (without_handles p.table) (sym takes_none)));
      keeps = subst (IsConsistent after) (sym does.same_objects)
          (refusal_keeps write r consistent does.same_table (ap (λ (q : Process). q.state) replies));
    }

    pub answered_done : IsDoneBy lib before after r r2 p p2 s (told_by values) Acts
    answered_done ready call next ends acts =
        called_done ready call s next ends (subst (λ (x : Outcome). IsCalled lib before after r r2 p.pid s x) (sym acts.ends)
        (by_answer acts.answer (does acts.answer acts.acts) acts.replied))
