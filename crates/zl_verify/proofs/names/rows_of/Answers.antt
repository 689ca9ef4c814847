use Rattle.std.proofs.Common.{rules}
use Rattle.zl_verify.proofs.Common.{arith, length, ◌≡◌}
use Rattle.zl_code.specs.Limits.{register_count}
use Rattle.zl_verify.proofs.NextNamed.{more_rows}
use Rattle.zl_verify.proofs.names.rows_of.Goals as goal

pub loop-back-preserved : goal.loop-back-preserved
loop-back-preserved c =
    let kept = c.loop-back.invariant in
    let wide : length c.row_of-last.result ≡ register_count = search rules in
    rw c.in_ok-push-2.ensures.items
    (more_rows c.args.image.now c.len-size.result c.loop-back.back c.loop-back.rows.items c.row_of-last.result kept.0 (omega arith) kept.3 wide
    c.row_of-last.ensures kept.6)
