use Rattle.zl_command.proofs.Common.{ExplainsUnsignedError, HasUnsignedDigitsIfOk, ParsesUnsigned, arith, codes, found_of, subst, sym, ◌∙◌}
use Rattle.std.proofs.Common.{◌≤◌}
use Rattle.zl_command.proofs.ValueRows.{reads_or}
use Rattle.zl_command.proofs.command.from.Goals as goal

pub returns : goal.returns
returns c =
    let read = reads_or _ (λ t r. ParsesUnsigned 32 10 t r × ExplainsUnsignedError 10 t r × HasUnsignedDigitsIfOk t r) 32 0 1000
    (λ t r gives. gives.0) (omega arith) (found_of c.args.matches.now) (codes "from") c.get_one.result c.get_one.ensures.value c.get_one.ensures.none
    c.requires 6 (omega arith) (omega arith) in
    record {
      value = c.unwrap_or.ensures ∙ read.0;
      within = subst (λ n. n ≤ 1000) (sym c.unwrap_or.ensures) read.2;
    }
