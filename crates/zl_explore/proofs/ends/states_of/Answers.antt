use Rattle.zl_code.proofs.Common.{ap, arith, List, [], ℕ, ◌++◌, ◌∙◌, ◌∷◌, sym}
use Rattle.zl_code.specs.declared.history.ProcState.{ProcState}
use Rattle.zl_explore.proofs.ToldStates.{all_told, one_more}
use Rattle.zl_explore.proofs.ends.states_of.Goals as goal

pub loop-n-preserved : goal.loop-n-preserved
loop-n-preserved c =
    c.in_ok-push.ensures.items
    ∙ (ap (λ (x : List (ℕ × ProcState)). x ++ ((c.in-Some.pid, c.state_of.result) ∷ [])) c.loop-n.invariant
    ∙ sym (one_more c.args.world.now c.loop-n.n c.in-Some.pid c.state_of.result c.process_at.ensures.in_order (sym c.in-Some.is ∙ c.process_at.ensures.koid)
    c.state_of.ensures))

pub returns : goal.returns
returns c = c.loop-n.invariant ∙ all_told c.args.world.now c.loop-n.n (omega arith)
