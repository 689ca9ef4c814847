use Rattle.zlab.proofs.Answering.{mapped_err, mapped_ok}
use Rattle.zlab.proofs.Common.{on_err}
use Rattle.zlab.specs.Ends.{no_end}
use Rattle.zlab.proofs.ends.write_ends.Goals as goal

pub returns-in_err-text-clause-err : goal.returns-in_err-text-clause-err
returns-in_err-text-clause-err g c = on_err c.from_residual.result no_end

pub returns-in_err-search-clause-err : goal.returns-in_err-search-clause-err
returns-in_err-search-clause-err g c = on_err c.from_residual-in_err-search.result no_end

pub write_found-requires : goal.write_found-requires
write_found-requires g c = c.in_ok-search.ensures.told

pub returns-clause-ok : goal.returns-clause-ok
returns-clause-ok g c = mapped_ok c.write_found.result _ _
    (λ v wrote. rw (c.in_ok-search.ensures.bad, c.in_ok-search.ensures.never, c.in_ok-search.ensures.part, c.in_ok-search.ensures.most) at
    (wrote c.args.world c.requires c.in_ok-search.ensures.root)) c.write_found.ensures.ok

pub returns-clause-err : goal.returns-clause-err
returns-clause-err g c = mapped_err c.write_found.result _ _
    (λ begun. rw (c.in_ok-search.ensures.bad, c.in_ok-search.ensures.never, c.in_ok-search.ensures.part, c.in_ok-search.ensures.most) at
    (begun c.args.world c.requires c.in_ok-search.ensures.root)) c.write_found.ensures.err
