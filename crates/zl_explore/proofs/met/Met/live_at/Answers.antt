use Rattle.std.proofs.Common.{List, Some, refl, slice_get, subst, ◌≡◌}
use Rattle.std.proofs.lemmas.Option.{slice_get_read}
use Rattle.zl_explore.specs.declared.met.Slot.{Slot}
use Rattle.zl_explore.proofs.Meeting.{live_here}
use Rattle.zl_explore.proofs.met.Met.live_at.Goals as goal

pub returns-in-Some : goal.returns-in-Some
returns-in-Some g c =
    let read = (c.in_ok-at.ensures {u = tt}).lookup in
    let s = c.in_ok-at.field-0.now in
    live_here _ c.self.inside.slots.items c.self.invariant c.args.self.now.items (λ i. (c.self.view_is i).items) c.args.place s c.in-Some.at
    c.deref-in-Some.result.now
    (subst (λ (slots : List (Slot _)). slice_get slots c.args.place ≡ Some s) c.deref.ensures.value
    (slice_get_read c.deref.result.now _ c.args.place s refl read.3.0 (read.3.1 s))) c.in-Some.is c.deref-in-Some.ensures
