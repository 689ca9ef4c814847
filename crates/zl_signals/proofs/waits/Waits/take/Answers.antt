use Rattle.zl_rights.proofs.Common.{false, refl, Some, sym, ◌∙◌, ◌≡◌}
use Rattle.zl_signals.specs.Numbered.{NO_WAIT, number_of, wait_by}
use Rattle.zl_signals.proofs.Indexed.{indexes_follow}
use Rattle.zl_signals.proofs.Numbered.{for_own, found_first, goes_first, gone, is_number, lower, none_found, none_goes, others, taken_below, taken_firsts}
use Rattle.zl_signals.proofs.waits.Waits.take.Goals as goal

pub returns-in_err-number-clause-earliest : goal.returns-in_err-number-clause-earliest
returns-in_err-number-clause-earliest c p first =
    c.from_residual.ensures ∙ sym (none_found p c.args.self.now.by_number c.args.self.now.ordered (rw (c.in_err-number.was {u = tt}) at first))

pub returns-in_err-number-clause-rest : goal.returns-in_err-number-clause-rest
returns-in_err-number-clause-rest c p first =
    none_goes p c.args.self.now.by_number c.args.self.now.ordered (rw (c.in_err-number.was {u = tt}) at first)

pub invariant_of-self : goal.invariant_of-self
invariant_of-self c =
    let old = c.args.self.now in
    let same = (c.in_err-wait.ensures {u = tt}).unchanged in
    record {
      ordered = c.remove.ensures.ordered;
      few = old.few;
      below = rw same old.below;
      indexed = rw same old.indexed;
      first = rw same old.first;
    }

pub move_on-requires-clause-own : goal.move_on-requires-clause-own
move_on-requires-clause-own c =
    let old = c.args.self.now in
    let there : wait_by old.by_number c.in_ok-number.number ≡ Some c.in_ok-wait.wait = sym (c.in_ok-wait.ensures {u = tt}).value in
    for_own old.by_number (lower old.by_number old.made NO_WAIT old.few old.below) c.in_ok-number.number c.in_ok-wait.wait old.firsts there old.first

pub invariant_of-self-2 : goal.invariant_of-self-2
invariant_of-self-2 c =
    let old = c.args.self.now in
    let same = (c.in_ok-wait.ensures {u = tt}).updates.0 in
    let there : wait_by old.by_number c.in_ok-number.number ≡ Some c.in_ok-wait.wait = sym (c.in_ok-wait.ensures {u = tt}).value in
    let some : number_of c.in_ok-number.number ≡ Some c.in_ok-number.number = is_number old.by_number (lower old.by_number old.made NO_WAIT old.few old.below)
    c.in_ok-number.number c.in_ok-wait.wait there in
    record {
      ordered = c.remove.ensures.ordered;
      few = old.few;
      below = taken_below old.by_number c.remove.new.self c.in_ok-number.number same old.made old.below;
      indexed = indexes_follow old.indexes c.remove-2.new.self (wait_by old.by_number) (wait_by c.remove.new.self) c.in_ok-wait.wait c.in_ok-number.number false
          c.remove-2.ensures (others old.by_number c.remove.new.self c.in_ok-number.number same) (rw there refl)
          (gone old.by_number c.remove.new.self c.in_ok-number.number same) old.indexed;
      first = taken_firsts old.by_number c.remove.new.self c.in_ok-number.number same old.firsts c.move_on.new.firsts some c.move_on.ensures old.first;
    }

pub returns-clause-earliest : goal.returns-clause-earliest
returns-clause-earliest c p first =
    (c.in_ok-wait.ensures {u = tt}).value
    ∙ found_first p c.args.self.now.by_number c.args.self.now.ordered c.in_ok-number.number (rw (c.in_ok-number.was {u = tt}) at first)

pub returns-clause-rest : goal.returns-clause-rest
returns-clause-rest c p first =
    rw ((c.in_ok-wait.ensures {u = tt}).entries)
    (goes_first p c.args.self.now.by_number c.args.self.now.ordered c.in_ok-number.number (rw (c.in_ok-number.was {u = tt}) at first))
