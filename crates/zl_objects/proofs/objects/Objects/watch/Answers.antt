use Rattle.zl_objects.proofs.Common.{ap, at_port, filter, not, refl, sym, update, watch_of, watched, with_place, ◌==◌, ◌∙◌, ◌≡◌}
use Rattle.zl_objects.proofs.CalmChanges.{keeps_watched, marked_calm, port_calm}
use Rattle.zl_objects.proofs.Kept.{watched_kept}
use Rattle.zl_objects.proofs.Index.{kept_indexed, port_indexed}
use Rattle.zl_objects.proofs.PortWaits.{listed_back}
use Rattle.zl_objects.proofs.Whole.{if_err, unless_err}
use Rattle.zl_objects.proofs.objects.Objects.watch.Goals as goal

pub invariant_of-store-2 : goal.invariant_of-store-2
invariant_of-store-2 c =
    let order = c.self.inside.store.waits.made in
    let stands = unless_err c.stand.result _ c.stand.ensures.ok (sym (c.if-is_err.ensures {u = tt}).value) in
    record {
      kept = watched_kept order c.args.wait _ _ _ _ _
          (rw (← c.self.view_is) at c.requires.port) (rw (← c.self.view_is) at c.requires.there) c.self.inside.store.kept stands c.in_ok-push.ensures.entries;
      calm = marked_calm c.add_if.ensures.more (watched (watch_of order c.args.wait)) (keeps_watched _)
          (update c.self.inside.store.by_koid.entries c.args.wait.port (at_port with_place)) c.stand.new.by_koid.entries c.args.wait.object
          (c.add_if.ensures.wanted refl) stands
          (port_calm with_place (λ p h. h) c.self.inside.store.by_koid.entries _ c.args.wait.port refl c.self.inside.store.calm);
      indexed = kept_indexed _ (keeps_watched (watch_of order c.args.wait)) c.args.wait.object
          (port_indexed with_place c.args.wait.port c.self.inside.store.indexed refl) stands;
    }

-- ---- memory was refused for the wait at its object

same_objects : (c : goal.After-take_back) → c.stand.new.by_koid.entries ≡ c.self.inside.store.by_koid.entries
same_objects c = if_err c.stand.result _ c.stand.ensures.unchanged (sym (c.if-is_err.ensures {u = tt}).value)

same_list : (c : goal.After-take_back) → c.take_back.new.self.entries.items ≡ c.self.inside.store.waits.entries.items
same_list c =
    c.take_back.ensures.entries ∙ (ap (filter (λ x. not (x.order == c.self.inside.store.waits.made))) c.in_ok-push.ensures.entries
    ∙ listed_back c.self.inside.store.waits.made c.args.wait c.self.inside.store.waits.entries.items c.self.inside.store.waits.below)

pub invariant_of-store-then-is_err : goal.invariant_of-store-then-is_err
invariant_of-store-then-is_err c =
    let was = c.self.inside.store in rw (same_objects c, same_list c) record { kept = was.kept; calm = was.calm; indexed = was.indexed }

pub returns-then-is_err-clause-unchanged : goal.returns-then-is_err-clause-unchanged
returns-then-is_err-clause-unchanged c = rw (same_objects c.before, same_list c.before, c.take_back.ensures.made) c.self.view_is
