use Rattle.std.proofs.Common.{None, refl}
use Rattle.zl_explore.specs.declared.met.Slot.{Slot}
use Rattle.zl_explore.proofs.Meeting.{one_live, one_met}
use Rattle.zl_explore.proofs.met.Met.new.Goals as goal

pub invariant_of-result : goal.invariant_of-result
invariant_of-result g c =
    let first : Slot _ = record { live = None; from = 0; by = 0 } in
    one_live g.M.Machine.next c.args.start _ _ first c.new-slots.ensures.items c.in_ok-push.ensures.items refl

pub returns : goal.returns
returns g c =
    let first : Slot _ = record { live = None; from = 0; by = 0 } in
    one_met g.M.Machine.next c.args.start _ _ first c.new-slots.ensures.items c.in_ok-push.ensures.items refl refl
