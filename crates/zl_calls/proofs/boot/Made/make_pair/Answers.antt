use Rattle.zl_calls.proofs.Common.{sym, ◌∙◌}
use Rattle.zl_calls.proofs.boot.BootObjects.{pair_caused, pair_makes, limit_cause, memory_cause}
use Rattle.zl_calls.proofs.boot.Made.make_pair.Goals as goal

pub returns-then-lacks_koids-clause-err : goal.returns-then-lacks_koids-clause-err
returns-then-lacks_koids-clause-err c =
    λ lib. rw (pair_caused lib c.args.self.now c.args.pair) (limit_cause _ (sym c.lacks_koids.ensures ∙ c.if-lacks_koids.true))

pub returns-in-Ok-clause-ok : goal.returns-in-Ok-clause-ok
returns-in-Ok-clause-ok c =
    λ lib. pair_makes lib c.args.self.now c.requires c.args.pair c.create_pair.new.self (sym c.lacks_koids.ensures ∙ c.if-lacks_koids.false)
    (c.in-Ok.ensures {u = tt}).created

pub returns-in-Err-clause-err : goal.returns-in-Err-clause-err
returns-in-Err-clause-err c = λ lib. rw (pair_caused lib c.args.self.now c.args.pair) (memory_cause _ (sym c.lacks_koids.ensures ∙ c.if-lacks_koids.false))
