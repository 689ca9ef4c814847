use Rattle.zl_code.proofs.Common.{IfOk, List, ap, subst, sym, ℕ, ◌∙◌, ◌≡◌}
use Rattle.zl_calls.specs.World.{own_here}
use Rattle.zl_explore.specs.Running.{ready_of}
use Rattle.zl_explore.proofs.Turns.{ready_same}
use Rattle.zl_explore.proofs.running.RunningMachine.ready.Goals as goal

pub returns : goal.returns
returns c = subst (λ (ks : List ℕ). IfOk c.ready_pids.result (λ pids. pids.items ≡ ks))
    (sym (ready_same (own_here c.self.inside.world)) ∙ ap ready_of c.self.view_is) c.ready_pids.ensures
