-- What the law of the local steps of a process says.
use Rattle.std.specs.Prelude.{ℕ, ◌≡◌, Option}
use Rattle.zl_rights.specs.Common.{World, Cpu, Process}
use Rattle.zl_code.specs.Image.{Image}
use Rattle.zl_code.specs.Effects.{on_process}
use Rattle.zl_abs.specs.States.{State}
use Rattle.zl_verify.specs.Steps.{OneOf, leads_on}
use Rattle.zl_verify.specs.Conforms.{Conforms}

-- With the Cpu c the process p of w, which is q, stands at the end of a followed edge, with the counters there, and conforms.
pub record GoesOn (i : Image) (t : ℕ → Option State) (w : World) (p : ℕ) (q : Process) (c : Cpu) : Type 0 where
  pub follows : OneOf (λ s. (c.counter, c.counters) ≡ s) (leads_on i t (q.cpu.counter, q.cpu.counters))
  pub conforms : Conforms i t (on_process w p (λ x. record x { cpu = c })) p (record q { cpu = c })
