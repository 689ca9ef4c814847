use Rattle.zl_code.proofs.Common.{IfOk, ap, subst, sym, ◌∙◌, ◌≡◌}
use Rattle.zl_calls.specs.World.{own_here}
use Rattle.zl_explore.specs.Orders.{told_in}
use Rattle.zl_explore.proofs.Turns.{told_same}
use Rattle.zl_explore.proofs.running.Running.states.Goals as goal

pub returns : goal.returns
returns c = subst (λ (told : _). IfOk c.states_of.result (λ states. states.items ≡ told))
    (sym (told_same (own_here c.self.inside.world)) ∙ ap (λ m. told_in (own_here m)) c.self.view_is) c.states_of.ensures
