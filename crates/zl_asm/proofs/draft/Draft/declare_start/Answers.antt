use Rattle.zl_asm.proofs.Common.{ap, arith, held_by, inr, length}
use Rattle.zl_asm.proofs.DraftHolds.{starts_held}
use Rattle.zl_asm.proofs.DraftRefuses.{start_refused}
use Rattle.zl_asm.proofs.draft.Draft.declare_start.Goals as goal

pub returns-then-starts-ge-MOST_STARTS-clause-refused : goal.returns-then-starts-ge-MOST_STARTS-clause-refused
returns-then-starts-ge-MOST_STARTS-clause-refused c =
    inr (start_refused (held_by c.args.self.now) c.args.start (omega (arith, ap length c.starts.ensures.value)))

pub returns-clause-held : goal.returns-clause-held
returns-clause-held c = starts_held (held_by c.args.self.now) c.push_start.new.self c.args.start (c.in_ok-push_start.ensures {u = tt}).ok c.requires.first
