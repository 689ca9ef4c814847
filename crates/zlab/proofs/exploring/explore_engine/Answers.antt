use Rattle.zlab.proofs.Answering.{both_ok, is_bounded, mapped_err, mapped_ok}
use Rattle.zlab.proofs.Common.{on_err}
use Rattle.zlab.proofs.Explored.{ends_begin, ends_explore, refusal_explores, refusal_explores_begun}
use Rattle.zlab.specs.Ends.{sought_by}
use Rattle.zlab.specs.Exploring.{unexplored}
use Rattle.zl_calls.specs.World.{own_here}
use Rattle.zl_explore.proofs.Still.{still_boot}
use Rattle.zlab.proofs.exploring.explore_engine.Goals as goal

pub returns-in_err-input-clause-err : goal.returns-in_err-input-clause-err
returns-in_err-input-clause-err g c = on_err c.from_residual.result unexplored

pub returns-in_err-world-clause-err : goal.returns-in_err-world-clause-err
returns-in_err-world-clause-err g c = on_err c.from_residual-in_err-world.result unexplored

pub begin-requires : goal.begin-requires
begin-requires g c = is_bounded _ _ c.in_ok-input.ensures.ok.holds

pub returns-in-World-clause-ok : goal.returns-in-World-clause-ok
returns-in-World-clause-ok g c =
    let input = c.in_ok-input.ensures.ok in
    let begun = rw c.in-World.is at (c.in_ok-world.ensures.ok input.bytes input.holds) in
    mapped_ok c.write_ends-ended.result _ _
    (λ v wrote. ends_explore _ input.bytes (record { those_told = input.those_told }) (sought_by c.args.asked) c.in-World.world c.in-World.limit begun v _ _ wrote)
    c.write_ends-ended.ensures.ok

pub returns-in-World-clause-err : goal.returns-in-World-clause-err
returns-in-World-clause-err g c =
    let input = c.in_ok-input.ensures.ok in
    let begun = rw c.in-World.is at (c.in_ok-world.ensures.ok input.bytes input.holds) in
    mapped_err c.write_ends-ended.result _ _
    (ends_begin _ input.bytes (record { those_told = input.those_told }) (sought_by c.args.asked) c.in-World.world c.in-World.limit begun _ _)
    c.write_ends-ended.ensures.err

pub returns-in-Refused-clause-ok : goal.returns-in-Refused-clause-ok
returns-in-Refused-clause-ok g c =
    let input = c.in_ok-input.ensures.ok in
    let first = rw c.in-Refused.is at (c.in_ok-world.ensures.ok input.bytes input.holds) in
    both_ok c.write_refusal.result _ _ _
    (λ v is wrote. refusal_explores _ input.bytes (record { those_told = input.those_told }) (sought_by c.args.asked) c.in-Refused.fault first v _ _ is wrote)
    c.write_refusal.ensures.verdict c.write_refusal.ensures.ok

pub returns-in-Refused-clause-err : goal.returns-in-Refused-clause-err
returns-in-Refused-clause-err g c =
    let input = c.in_ok-input.ensures.ok in
    let first = rw c.in-Refused.is at (c.in_ok-world.ensures.ok input.bytes input.holds) in
    mapped_err c.write_refusal.result _ _
    (refusal_explores_begun _ input.bytes (record { those_told = input.those_told }) (sought_by c.args.asked) c.in-Refused.fault first _ _) c.write_refusal.ensures.err

pub write_ends-ended-requires : goal.write_ends-ended-requires
write_ends-ended-requires g c =
    let input = c.in_ok-input.ensures.ok in
    let begun = rw c.in-World.is at (c.in_ok-world.ensures.ok input.bytes input.holds) in
    still_boot c.in-World.world.programs begun.said.statements (own_here c.in-World.world) begun.boots.boots begun.own
