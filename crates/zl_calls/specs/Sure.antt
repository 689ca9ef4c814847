-- What is known of the calls of a checked program before they are done. No public clause cites this module.
use Rattle.std.specs.Prelude.{◌≡◌, ◌≢◌, Bool, true, false, [], Option, Some, None, IfSome, slice_get}
use Rattle.zl_code.specs.Common.{Library, Map, Program, Site, site_of}
use Rattle.zl_code.specs.Refusals.{handle_operands}
use Rattle.zl_code.specs.Steps.{IsStuck}
use Rattle.zl_code.specs.declared.instr.CallInstr.{CallInstr}
use Rattle.zl_rights.specs.declared.entry.Entry.{Entry}
use Rattle.zl_objects.specs.Objects.{Objects}
use Rattle.zl_calls.specs.Policed.{operands_fault, verdict_on}
use Rattle.zl_calls.specs.World.{CallsNext, stands_next}
use Rattle.zl_calls.specs.declared.process.Process.{Process}

-- no handle operand of the call at this site has a fault
abbrev pub IsFaultless : Map Entry → Option Site → Type 0
IsFaultless entries at = IfSome at (λ s. operands_fault entries [] (handle_operands s.request) ≡ None)

-- the policy of the process's job doesn't end it
abbrev pub IsUnpoliced : Process → Objects → Option Site → Type 0
IsUnpoliced p r at = IfSome at (λ s. verdict_on p.table.entries r.objects p.pid s.request ≡ None)

-- both are so
pub record IsSure (p : Process) (r : Objects) (at : Option Site) : Type 0 where
  pub faultless : IsFaultless p.table.entries at
  pub unpoliced : IsUnpoliced p r at

-- the process isn't stuck, and each call is sure that stands next for it
pub record CallsSurely (lib : Library) (p : Process) (r : Objects) : Type 0 where
  pub goes : stands_next lib p ≢ IsStuck
  pub sure : (call : CallInstr) → CallsNext lib p call → IsSure p r (site_of call p.cpu)

-- the program that was looked up was checked
abbrev pub is_checked : Option Program → Bool
is_checked None = false
is_checked (Some g) = g.checked

-- where the program of the process was checked, its calls are sure
abbrev pub IsSureIfChecked : Library → Process → Objects → Type 0
IsSureIfChecked lib p r = is_checked (slice_get lib p.program) ≡ true → CallsSurely lib p r
