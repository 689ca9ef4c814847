use Rattle.zl_objects.proofs.Common.{Port, ap, at_port, meets, refl, rules, sym, wait_at, watch_holds, with_packet, without_place, ◌∙◌}
use Rattle.std.proofs.Common.{option_map}
use Rattle.zl_objects.proofs.CalmChanges.{keeps_port, unless_wanted, unwatched_calm, watched_after, written_calm}
use Rattle.zl_objects.proofs.Index.{port_indexed, unwatched_indexed}
use Rattle.zl_objects.proofs.Kept.{gone_kept, gone_seen, none_out_kept, none_out_seen}
use Rattle.zl_objects.proofs.Listed.{found_seen}
use Rattle.zl_objects.proofs.Places.{place_there}
use Rattle.zl_objects.proofs.Whole.{one_out_whole}
use Rattle.zl_objects.proofs.objects.Objects.fire.Goals as goal

pub invariant_of-store : goal.invariant_of-store
invariant_of-store c =
    record {
      kept = none_out_kept c.args.koid (λ x. meets c.args.active.0 x.mask) c.self.inside.store.kept c.take_holding.ensures.rest
          (sym c.take_holding.ensures.earliest ∙ c.in_err-wait.was {u = tt});
      calm = unwatched_calm (watch_holds c.args.active.0) c.self.inside.store.by_koid.entries
          c.take_holding.new.by_koid.entries c.args.koid c.take_holding.ensures.rest c.self.inside.store.calm;
      indexed = unwatched_indexed (watch_holds c.args.active.0) c.args.koid c.self.inside.store.indexed c.take_holding.ensures.rest;
    }

pub queue_signal-requires : goal.queue_signal-requires
queue_signal-requires c =
    place_there c.in_ok-wait.wait c.take_holding.new.by_koid.entries
    ((one_out_whole (watch_holds c.args.active.0) _ _ _ _ c.args.koid c.self.inside.store.kept.whole c.take_holding.ensures.rest c.in_ok-wait.wait
    (sym c.take_holding.ensures.earliest ∙ c.in_ok-wait.was {u = tt})).places)

pub invariant_of-store-2 : goal.invariant_of-store-2
invariant_of-store-2 c =
    let gives : Port → Port = λ p. with_packet (without_place p) c.packet_of.result in
    record {
      kept = gone_kept c.args.koid (λ x. meets c.args.active.0 x.mask) c.self.inside.store.kept c.take_holding.ensures.rest c.self.inside.store.waits.rising
          (sym c.take_holding.ensures.earliest ∙ c.in_ok-wait.was {u = tt}) c.unlist.ensures.entries gives (λ p. refl) c.queue_signal.new.by_koid.entries
          c.queue_signal.ensures;
      calm = written_calm c.add_if.ensures.more (at_port gives) (keeps_port gives) c.take_holding.new.by_koid.entries c.queue_signal.new.by_koid.entries
          c.in_ok-wait.wait.port (λ o at unmarked. unless_wanted _ c.is_watched.result c.add_if.ensures.wanted unmarked _ (watched_after (at_port gives)
          c.take_holding.new.by_koid.entries c.in_ok-wait.wait.port c.is_watched.result o at (rw c.queue_signal.ensures at c.is_watched.ensures)))
          c.queue_signal.ensures
          (unwatched_calm (watch_holds c.args.active.0) c.self.inside.store.by_koid.entries
          c.take_holding.new.by_koid.entries c.args.koid c.take_holding.ensures.rest c.self.inside.store.calm);
      indexed = port_indexed gives c.in_ok-wait.wait.port
          (unwatched_indexed (watch_holds c.args.active.0) c.args.koid c.self.inside.store.indexed c.take_holding.ensures.rest) c.queue_signal.ensures;
    }

pub returns-in_err-wait-clause-rest : goal.returns-in_err-wait-clause-rest
returns-in_err-wait-clause-rest c =
    let seen = none_out_seen c.args.koid (λ x. meets c.args.active.0 x.mask) c.self.inside.store.kept c.take_holding.ensures.rest
    (sym c.take_holding.ensures.earliest ∙ c.in_err-wait.was {u = tt}) in
    search rules

pub returns-clause-rest : goal.returns-clause-rest
returns-clause-rest c =
    let seen = gone_seen c.args.koid (λ x. meets c.args.active.0 x.mask) c.self.inside.store.kept c.take_holding.ensures.rest c.self.inside.store.waits.rising
    (sym c.take_holding.ensures.earliest ∙ c.in_ok-wait.was {u = tt}) c.unlist.ensures.entries in
    search rules

pub returns-in_err-wait-clause-listed : goal.returns-in_err-wait-clause-listed
returns-in_err-wait-clause-listed c =
    rw (← c.self.view_is)
    (ap (option_map (wait_at c.args.koid)) (c.from_residual.ensures ∙ (sym (c.in_err-wait.was {u = tt}) ∙ c.take_holding.ensures.earliest))
    ∙ sym (found_seen c.args.koid (λ x. meets c.args.active.0 x.mask) c.self.inside.store.waits.entries.items c.self.inside.store.by_koid.entries
    c.self.inside.store.kept.listed))

pub returns-clause-listed : goal.returns-clause-listed
returns-clause-listed c =
    rw (← c.self.view_is) (ap (option_map (wait_at c.args.koid)) (sym (c.in_ok-wait.was {u = tt}) ∙ c.take_holding.ensures.earliest)
    ∙ sym (found_seen c.args.koid (λ x. meets c.args.active.0 x.mask) c.self.inside.store.waits.entries.items c.self.inside.store.by_koid.entries
    c.self.inside.store.kept.listed))
