use Rattle.zl_calls.proofs.Common.{arith, ◌≤◌}
use Rattle.zl_calls.proofs.parts.KillLists.{nobody, none_after, whichever}
use Rattle.zl_calls.proofs.calls.kill.place_from.Goals as goal

pub returns-in_err-place-clause-missing : goal.returns-in_err-place-clause-missing
returns-in_err-place-clause-missing c =
    whichever c.from_residual.result _
    (λ n p at same. absurd (nobody c.args.processes.now.list.items c.args.koid c.args.processes.now.in_order c.in_err-place.ensures.found n p at same))

pub returns-then-place-from-clause-missing : goal.returns-then-place-from-clause-missing
returns-then-place-from-clause-missing c = λ n p at same.
    let most : n ≤ c.in_ok-place.place =
    none_after c.args.processes.now.list.items c.args.processes.now.in_order c.args.koid c.in_ok-place.place c.in_ok-place.ensures.first n p at same in
    omega (arith, most, c.if-place-from.true)
