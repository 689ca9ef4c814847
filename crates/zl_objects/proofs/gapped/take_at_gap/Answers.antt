use Rattle.zl_objects.proofs.Common.{rules}
use Rattle.zl_objects.proofs.Parts.{taken_last}
use Rattle.zl_objects.proofs.gapped.take_at_gap.Goals as goal

pub returns-then-place-len-clause-taken : goal.returns-then-place-len-clause-taken
returns-then-place-len-clause-taken c =
    taken_last _ c.move_back.new.before.items c.move_back.new.after.items c.pop_back.new.self.items c.args.place c.pop_back.result
    c.move_back.ensures.items (search rules) c.pop_back.ensures.items (search rules)
