use Rattle.zl_interp.proofs.Common.{ap, ◌+◌}
use Rattle.std.specs.Prelude.{not}
use Rattle.zl_interp.proofs.Marked.{block_unmarked}
use Rattle.zl_interp.proofs.bursts.has_block.Goals as goal

pub returns-then-not-is_any_marked : goal.returns-then-not-is_any_marked
returns-then-not-is_any_marked c = (
  λ _. block_unmarked c.args.code.now c.args.own.now c.args.marks.now c.args.start (c.args.start + 64)
      (c.is_any_marked.ensures c.if-not-is_any_marked.true),
  λ _. ap not c.if-not-is_any_marked.true,
)
