use Rattle.zl_objects.proofs.Common.{Wait, ap, is_entry_to, is_sorted-update, refl, sym, update, without_given, without_port_waits, ◌∙◌}
use Rattle.zl_objects.proofs.Lists.{none_first}
use Rattle.zl_objects.proofs.Unlisted.{known_first, known_less, none_found_left, none_known, none_taken, one_ended, rest_same, shorter, taken}
use Rattle.zl_objects.proofs.releasing.end_port.Goals as goal

pub loop-wait-init : goal.loop-wait-init
loop-wait-init c = record {
  in_order = c.requires.in_order;
  ended = refl;
  others = refl;
  known = known_first c.args.port c.args.waits.now.entries.items c.args.by_koid.now.entries c.requires.listed;
  made = refl;
}

pub loop-wait-smaller : goal.loop-wait-smaller
loop-wait-smaller c =
    let x = taken c.loop-wait.waits.entries.items c.in-Some.wait (sym c.in-Some.is ∙ c.take_given.ensures.earliest) in
    rw c.take_given.ensures.entries (shorter (is_entry_to c.args.port) c.loop-wait.waits.entries.items x.one x.is)

pub loop-wait-preserved : goal.loop-wait-preserved
loop-wait-preserved c =
    let x = taken c.loop-wait.waits.entries.items c.in-Some.wait (sym c.in-Some.is ∙ c.take_given.ensures.earliest) in
    let at = ap (λ (w : Wait). update c.loop-wait.by_koid.entries w.object (without_port_waits c.args.port)) (sym x.wait) in
    record {
      in_order = rw c.end_at.ensures (is_sorted-update c.loop-wait.by_koid.entries _ _ ∙ c.loop-wait.invariant.in_order);
      ended = one_ended c.args.port c.loop-wait.by_koid.entries c.loop-wait.invariant.in_order c.in-Some.wait.object c.end_at.new.by_koid.entries
          c.end_at.ensures ∙ c.loop-wait.invariant.ended;
      others = ap (without_given c.args.port) c.take_given.ensures.entries
          ∙ (rest_same (is_entry_to c.args.port) c.loop-wait.waits.entries.items ∙ c.loop-wait.invariant.others);
      known = rw c.take_given.ensures.entries (known_less c.args.port c.loop-wait.by_koid.entries c.loop-wait.waits.entries.items x.one
          c.end_at.new.by_koid.entries x.is c.loop-wait.invariant.known (c.end_at.ensures ∙ at));
      made = c.take_given.ensures.made ∙ c.loop-wait.invariant.made;
    }

pub returns-clause-ended : goal.returns-clause-ended
returns-clause-ended c =
    sym (none_known c.args.port c.loop-wait.by_koid.entries c.loop-wait.invariant.in_order c.loop-wait.waits.entries.items
    (none_taken c.args.port c.loop-wait.waits.entries.items (sym c.in_default.is ∙ c.take_given.ensures.earliest)) c.loop-wait.invariant.known)
    ∙ c.loop-wait.invariant.ended

pub returns-clause-entries : goal.returns-clause-entries
returns-clause-entries c =
    let none = none_taken c.args.port c.loop-wait.waits.entries.items (sym c.in_default.is ∙ c.take_given.ensures.earliest) in
    c.take_given.ensures.entries ∙ (none_first (is_entry_to c.args.port) c.loop-wait.waits.entries.items none
    ∙ (sym (none_found_left (is_entry_to c.args.port) c.loop-wait.waits.entries.items none) ∙ c.loop-wait.invariant.others))
