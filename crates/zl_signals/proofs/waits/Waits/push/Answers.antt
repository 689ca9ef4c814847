use Rattle.zl_rights.proofs.Common.{arith, ne_eqb, refl, Some, sym, true, ◌≡◌}
use Rattle.zl_signals.specs.Numbered.{NO_WAIT, number_of, wait_by}
use Rattle.zl_signals.proofs.Entries.{comes_last}
use Rattle.zl_signals.proofs.Indexed.{indexes_follow, sets_back, still_indexed}
use Rattle.zl_signals.proofs.Numbered.{absent, as_before, own, pushed_below, pushed_firsts}
use Rattle.zl_signals.proofs.Results.{if_err, unless_err}
use Rattle.zl_signals.proofs.waits.Waits.push.Goals as goal

pub invariant_of-self : goal.invariant_of-self
invariant_of-self c =
    let old = c.args.self.now in
    record {
      ordered = old.ordered;
      few = old.few;
      below = old.below;
      indexed = still_indexed old.by_number old.made old.below old.indexes c.insert.new.self c.args.watch
          (if_err c.insert.result _ c.insert.ensures.taken_back (sym (c.if-is_err.ensures {u = tt}).value)) old.indexed;
      first = old.first;
    }

pub invariant_of-self-then-is_err-2 : goal.invariant_of-self-then-is_err-2
invariant_of-self-then-is_err-2 c =
    let old = c.args.self.now in
    let same = if_err c.insert-2.result _ c.insert-2.ensures.err (sym (c.if-is_err-2.ensures {u = tt}).value) in
    record {
      ordered = c.insert-2.ensures.ordered;
      few = old.few;
      below = rw same old.below;
      indexed = rw same (still_indexed old.by_number old.made old.below old.indexes c.remove.new.self c.args.watch
          (sets_back old.indexes c.insert.new.self c.remove.new.self c.args.watch old.made
          (unless_err c.insert.result _ c.insert.ensures.ok (sym (c.if-is_err.ensures {u = tt}).value)) c.remove.ensures) old.indexed);
      first = rw same old.first;
    }

pub invariant_of-self-2 : goal.invariant_of-self-2
invariant_of-self-2 c =
    let old = c.args.self.now in
    let same = (unless_err c.insert-2.result _ c.insert-2.ensures.updates (sym (c.if-is_err-2.ensures {u = tt}).value)).0 in
    let some : number_of old.made ≡ Some old.made = rw (ne_eqb old.made NO_WAIT c.if-number.false) refl in
    record {
      ordered = c.insert-2.ensures.ordered;
      few = omega (arith, old.few, c.if-number.false);
      below = pushed_below old.by_number c.insert-2.new.self old.made c.args.watch same old.below;
      indexed = indexes_follow old.indexes c.insert.new.self (wait_by old.by_number) (wait_by c.insert-2.new.self) c.args.watch old.made true
          (unless_err c.insert.result _ c.insert.ensures.ok (sym (c.if-is_err.ensures {u = tt}).value))
          (as_before old.by_number c.insert-2.new.self old.made c.args.watch same old.below) (rw (absent old.by_number old.made old.below) tt)
          (own old.by_number c.insert-2.new.self old.made c.args.watch same old.below) old.indexed;
      first = pushed_firsts old.by_number c.insert-2.new.self old.made c.args.watch same old.below old.firsts c.note.new.firsts some c.note.ensures old.first;
    }

pub returns-clause-ok : goal.returns-clause-ok
returns-clause-ok c =
    let old = c.args.self.now in
    rw (unless_err c.insert-2.result _ c.insert-2.ensures.entries (sym (c.if-is_err-2.ensures {u = tt}).value))
    (comes_last old.made c.args.watch old.by_number.entries old.ordered old.below)
