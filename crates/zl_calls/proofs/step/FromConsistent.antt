-- What follows from the invariant of the world, and that it makes a call a step up to where processes wake.
use Rattle.zl_calls.proofs.Common.{AtCall, CallBy, CallName, Calls, Entry, IsActed, IsConsistent, IsNamed, Library, List, Objects, Option, Outcome, PlainCalls}
use Rattle.zl_calls.proofs.Common.{Process, ProcessValue, Ready, Settles, Site, Some, World, arith, get, handles_to, has_place, map, nat_le, nat_tests}
use Rattle.zl_calls.proofs.Common.{next_for, not, plain_refusal, process_entry, process_value, refl, refusal, state_value, subst, sym, world_value, ℕ, ◌^◌, ◌≡◌}
use Rattle.zl_code.specs.Calls.{Choice}
use Rattle.zl_code.specs.declared.history.TraceItem.TheVariants as item
use Rattle.zl_calls.proofs.processes.Departed.{settled_world}

-- ---- what follows from the invariant

module _ (ps : List Process) (r : Objects) (consistent : IsConsistent ps r) where
  abbrev w : World
  w = world_value ps r

  pub full_counted : (p : Process) → get w.processes p.pid ≡ Some (process_value p) → (h : ℕ) (e : Entry) → get p.table.entries h ≡ Some e
      → nat_le (2 ^ 62) (handles_to w e.koid) ≡ not (has_place (get r.objects e.koid))
  full_counted p there h e at =
      let named : IsNamed r.objects e = consistent.named p.pid (process_value p) h e there at in
      rw (named.there, ← consistent.counted e.koid named.object named.there) (grind (arith, nat_tests))

-- ---- a call is a step, up to where processes wake

-- at the call no policy has a say
abbrev pub IsFree : Library → World → ℕ → CallName → Type 0
IsFree lib w p call =
    (q : ProcessValue) (s : Site) → get w.processes p ≡ Some q → next_for lib q ≡ AtCall call s → refusal lib w p s.request ≡ plain_refusal lib w p s.request

-- a call of which no policy has a say is one of the definitions
pub freely : (lib : Library) (w : World) (p : ℕ) (s : Site) (ends : Outcome) (w2 : World) → refusal lib w p s.request ≡ plain_refusal lib w p s.request
    → PlainCalls lib w p s ends w2 → Calls lib w p s ends w2
freely lib w p s ends w2 free calls = (calls.0, subst (λ (o : Option Outcome). CallBy lib w p s calls.0 o ends w2) (sym free) calls.1)

-- with what is true of its choice
pub freely_so : (P : Choice → Type 0) (lib : Library) (w : World) (p : ℕ) (s : Site) (ends : Outcome) (w2 : World)
    → refusal lib w p s.request ≡ plain_refusal lib w p s.request → (calls : PlainCalls lib w p s ends w2) → P calls.0 →
    (c : Calls lib w p s ends w2) × P c.0
freely_so P lib w p s ends w2 free calls own = ((calls.0, subst (λ (o : Option Outcome). CallBy lib w p s calls.0 o ends w2) (sym free) calls.1), own)

-- a call, and what isn't held any more goes
pub call_settles : (lib : Library) (before after : List Process) (r acted r2 : Objects) (p : Process) (call : CallName) (s : Site) (ends : Outcome)
    → get (map process_entry before) p.pid ≡ Some (process_value p) → state_value p.state ≡ Ready → next_for lib (process_value p) ≡ AtCall call s
    → PlainCalls lib (world_value before r) p.pid s ends (world_value after acted) → Settles (world_value after acted) (settled_world after r2)
    → IsFree lib (world_value before r) p.pid call → IsActed lib (world_value before r) p.pid (item.Call p.pid call ends) (settled_world after r2)
call_settles lib before after r acted r2 p call s ends there ready next calls settles free = record {
  process = process_value p;
  is_there = there;
  is_ready = ready;
  acted = world_value after acted;
  acts = rw next (ends, refl, freely lib (world_value before r) p.pid s ends (world_value after acted) (free (process_value p) s there next) calls);
  settles = settles;
}
