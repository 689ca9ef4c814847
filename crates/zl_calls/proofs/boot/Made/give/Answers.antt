use Rattle.zl_calls.proofs.Common.{Grant, None, World, allowed, ap, get_or, seen, sym, ◌∙◌}
use Rattle.zl_calls.proofs.boot.BootGiving.{none_given, turn_given, all_given, one_allowed}
use Rattle.zl_calls.proofs.boot.Made.give.Goals as goal

abbrev no_grant : Grant
no_grant = record { koid = 0; rights = None }

pub loop-number-init : goal.loop-number-init
loop-number-init c = none_given c.args.self.now c.args.process.now c.requires.making c.requires.bare

pub unreachable-requires : goal.unreachable-requires
unreachable-requires c =
    one_allowed (seen c.args.self.now).objects c.args.handles.now c.loop-number.number no_grant c.loop-number-test.true c.requires.may
    (ap (λ (w : World). allowed w.objects (get_or c.args.handles.now c.loop-number.number no_grant)) (sym c.loop-number.invariant.same)
    ∙ (sym c.handle.ensures ∙ c.in_default.is))

pub loop-number-preserved : goal.loop-number-preserved
loop-number-preserved c =
    rw (c.hold.ensures.held, c.give.ensures)
    (turn_given c.args.handles.now c.loop-number.number no_grant c.args.self.now c.loop-number.self c.args.process.now c.loop-number.process
    c.loop-number-test.true c.loop-number.invariant
    c.requires.place c.requires.few c.in-Some.entry (sym c.handle.ensures ∙ c.in-Some.is) c.in-Ok.value c.insert.new.self (c.in-Ok.ensures {u = tt}).ok)

pub returns-clause-ok : goal.returns-clause-ok
returns-clause-ok c =
    all_given c.args.handles.now c.loop-number.number c.args.self.now c.loop-number.self c.args.process.now c.loop-number.process c.loop-number-test.false
    c.loop-number.invariant
