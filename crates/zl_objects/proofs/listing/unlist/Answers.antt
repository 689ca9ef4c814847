use Rattle.zl_objects.proofs.Common.{All-filter, Listed, Some, ap, filter, find, not, option_map, sym, without_first, ◌<◌, ◌==◌, ◌∙◌, ◌≡◌}
use Rattle.zl_signals.proofs.Takes.{all_stay, none_found}
use Rattle.zl_objects.proofs.Parts.{first_taken}
use Rattle.zl_objects.proofs.PortWaits.{removed_found}
use Rattle.zl_objects.proofs.Rising.{first_is_only, rises_left}
use Rattle.zl_objects.proofs.listing.unlist.Goals as goal

taken : (c : goal.After-remove-2)
    → (c.remove.result ≡ find (λ x. x.order == c.args.order) c.args.waits.now.entries.items)
    × (c.remove.new.self.items ≡ without_first (λ x. x.order == c.args.order) c.args.waits.now.entries.items)
taken c =
    first_taken (λ x. x.order == c.args.order) c.args.waits.now.entries.items c.remove.new.self.items c.in_ok-place.place c.remove.result
    (sym c.place_of.ensures ∙ c.in_ok-place.was {u = tt}) c.remove.ensures.some c.remove.ensures.taken

left : (c : goal.After-remove-2) → c.remove.new.self.items ≡ filter (λ x. not (x.order == c.args.order)) c.args.waits.now.entries.items
left c = (taken c).1 ∙ first_is_only c.args.order c.args.waits.now.entries.items c.args.waits.now.rising

found : (c : goal.After-remove-2) → Some c.in_ok-listed.listed ≡ find (λ x. x.order == c.args.order) c.args.waits.now.entries.items
found c = sym (c.in_ok-listed.was {u = tt}) ∙ (taken c).0

pub invariant_of-waits-2 : goal.invariant_of-waits-2
invariant_of-waits-2 c =
    let list = c.args.waits.now in
    rw (left c) record {
      rising = rises_left (λ x. not (x.order == c.args.order)) list.entries.items list.rising;
      below = All-filter (λ x. not (x.order == c.args.order)) (λ x. x.order < list.made) list.entries.items list.below;
      found = removed_found list.by_port list.entries.items list.found list.rising list.made list.below c.remove-2.new.self c.args.order c.in_ok-listed.listed
          (sym (found c)) c.remove-2.ensures;
    }

pub returns-clause-wait : goal.returns-clause-wait
returns-clause-wait c = ap (option_map (λ (x : Listed). x.wait)) (found c.before.before)

pub returns-clause-entries : goal.returns-clause-entries
returns-clause-entries c = left c.before.before

pub returns-in_err-place-clause-wait : goal.returns-in_err-place-clause-wait
returns-in_err-place-clause-wait c =
    c.from_residual.ensures ∙ sym (ap (option_map (λ (x : Listed). x.wait)) (none_found (λ x. x.order == c.args.order) c.args.waits.now.entries.items
    (sym c.place_of.ensures ∙ c.in_err-place.was {u = tt})))

pub returns-in_err-place-clause-entries : goal.returns-in_err-place-clause-entries
returns-in_err-place-clause-entries c =
    all_stay (λ x. x.order == c.args.order) c.args.waits.now.entries.items (sym c.place_of.ensures ∙ c.in_err-place.was {u = tt})
    ∙ first_is_only c.args.order c.args.waits.now.entries.items c.args.waits.now.rising
