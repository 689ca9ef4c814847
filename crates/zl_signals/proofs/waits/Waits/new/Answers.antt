use Rattle.zl_rights.proofs.Common.{arith, nat_cmp}
use Rattle.zl_signals.specs.Indexed.{handle_cmp, handle_of, keyed_cmp, keyed_of, port_of}
use Rattle.zl_signals.proofs.Indexed.{none_indexed}
use Rattle.zl_signals.proofs.Numbered.{empty_below, empty_firsts, nothing_at}
use Rattle.zl_signals.proofs.waits.Waits.new.Goals as goal

pub invariant_of-result : goal.invariant_of-result
invariant_of-result c = record {
  ordered = c.new.ensures.ordered;
  few = omega arith;
  below = empty_below c.new.result c.new.ensures.empty;
  indexed =
      let none = nothing_at c.new.result c.new.ensures.empty in (
        none_indexed handle_cmp handle_of _ _ c.new-2.ensures.handles none,
        none_indexed keyed_cmp keyed_of _ _ c.new-2.ensures.keys none,
        none_indexed nat_cmp port_of _ _ c.new-2.ensures.ports none,
      );
  first = empty_firsts c.new.result c.new.ensures.empty;
}
