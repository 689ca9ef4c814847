-- The lab's own step: the one step that it does of those that a process may do.
use Rattle.std.specs.Prelude.{ℕ, Option, None, Some, if◌then◌else◌}
use Rattle.zl_rights.specs.Common.{get, World, Process, STUCK, is_ready, wakes}
use Rattle.zl_rights.specs.Settled.{settled}
use Rattle.zl_rights.specs.Values.{Free}
use Rattle.zl_code.specs.declared.history.CallName.{CallName}
use Rattle.zl_code.specs.declared.history.Outcome.{Outcome}
use Rattle.zl_code.specs.declared.history.TraceItem.{TraceItem}
use Rattle.zl_code.specs.declared.history.TraceItem.TheVariants as item
use Rattle.zl_code.specs.Image.{Library}
use Rattle.zl_code.specs.Request.{Site}
use Rattle.zl_code.specs.Refusals.{refusal}
use Rattle.zl_code.specs.Calls.{after_ok, after_refusal, ok_outcome}
use Rattle.zl_code.specs.Effects.{ended, on_process}
use Rattle.zl_code.specs.Steps.{AtCall, IsStuck, Moves, Next, next_for}
use Rattle.zl_code.specs.Own.{OwnWorld, entered_free, free_at, free_in, left_free, own_values}

-- what a process did: the world, the values of each process, and the item
pub record OwnAct : Type 0 where
  pub world : World
  pub free : ℕ → Free
  pub item : TraceItem

-- a call, which is refused so, or else gives its new handles the values that come
abbrev pub own_call : Library → OwnWorld → ℕ → CallName → Site → Option Outcome → OwnAct
own_call lib o p call s (Some answer) = record {
  world = after_refusal o.world p s answer;
  free = left_free o p s.request;
  item = item.Call p call answer;
}
own_call lib o p call s None = record {
  world = after_ok lib o.world p s (own_values o p s.request) (ok_outcome o.world p s.request);
  free = entered_free o p s.request;
  item = item.Call p call (ok_outcome o.world p s.request);
}

-- what stands next for the process
abbrev pub own_act : Library → OwnWorld → ℕ → Next → OwnAct
own_act lib o p (Moves c) = record { world = on_process o.world p (λ q. record q { cpu = c }); free = free_at o.free; item = item.Run p 1 }
own_act lib o p (AtCall call s) = own_call lib o p call s (refusal lib o.world p s.request)
own_act lib o p IsStuck = record { world = ended o.world p STUCK; free = free_at o.free; item = item.Stuck p }

-- what follows: what isn't held goes, and processes wake
abbrev pub own_ending : World → World
own_ending w = wakes (settled w)

abbrev pub own_behind : OwnAct → OwnWorld × TraceItem
own_behind a = (record { world = own_ending a.world; free = free_in (own_ending a.world) a.free }, a.item)

-- the own step of the process that was looked up, if it is ready
abbrev pub own_of : Library → OwnWorld → ℕ → Option Process → Option (OwnWorld × TraceItem)
own_of lib o p None = None
own_of lib o p (Some q) = if is_ready q.state then Some (own_behind (own_act lib o p (next_for lib q))) else None

-- the own step of the process, if it is there and ready
abbrev pub own_step : Library → OwnWorld → ℕ → Option (OwnWorld × TraceItem)
own_step lib o p = own_of lib o p (get o.world.processes p)
