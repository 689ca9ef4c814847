use Rattle.zl_objects.proofs.Common.{is_at_port, refl, rules, sym, without_place, ◌==◌, ◌∙◌}
use Rattle.zl_objects.proofs.CalmChanges.{port_calm, unwatched_calm}
use Rattle.zl_objects.proofs.Index.{port_indexed, unwatched_indexed}
use Rattle.zl_objects.proofs.Kept.{gone_kept, gone_seen, none_out_kept, none_out_seen}
use Rattle.zl_objects.proofs.objects.Objects.unwatch_port.Goals as goal

pub invariant_of-store : goal.invariant_of-store
invariant_of-store c = record {
  kept = none_out_kept c.args.koid (λ x. x.port == c.args.port) c.self.inside.store.kept c.take_port.ensures.rest
      (sym c.take_port.ensures.earliest ∙ c.in_err-wait.was {u = tt});
  calm = unwatched_calm (is_at_port c.args.port) _ _ c.args.koid
      c.take_port.ensures.rest c.self.inside.store.calm;
  indexed = unwatched_indexed (is_at_port c.args.port) c.args.koid c.self.inside.store.indexed c.take_port.ensures.rest;
}

pub invariant_of-store-2 : goal.invariant_of-store-2
invariant_of-store-2 c = record {
  kept = gone_kept c.args.koid (λ x. x.port == c.args.port) c.self.inside.store.kept c.take_port.ensures.rest c.self.inside.store.waits.rising
      (sym c.take_port.ensures.earliest ∙ c.in_ok-wait.was {u = tt}) c.unlist.ensures.entries without_place (λ p. refl) c.give_back.new.by_koid.entries
      c.give_back.ensures;
  calm = port_calm without_place (λ p h. h) c.take_port.new.by_koid.entries
      c.give_back.new.by_koid.entries c.in_ok-wait.wait.port c.give_back.ensures
      (unwatched_calm (is_at_port c.args.port) _ _ c.args.koid
      c.take_port.ensures.rest c.self.inside.store.calm);
  indexed = port_indexed without_place c.in_ok-wait.wait.port
      (unwatched_indexed (is_at_port c.args.port) c.args.koid c.self.inside.store.indexed c.take_port.ensures.rest)
      c.give_back.ensures;
}

pub returns-in_err-wait-clause-rest : goal.returns-in_err-wait-clause-rest
returns-in_err-wait-clause-rest c =
    let seen = none_out_seen c.args.koid (λ x. x.port == c.args.port) c.self.inside.store.kept c.take_port.ensures.rest
    (sym c.take_port.ensures.earliest ∙ c.in_err-wait.was {u = tt}) in
    search rules

pub returns-clause-rest : goal.returns-clause-rest
returns-clause-rest c =
    let seen = gone_seen c.args.koid (λ x. x.port == c.args.port) c.self.inside.store.kept c.take_port.ensures.rest c.self.inside.store.waits.rising
    (sym c.take_port.ensures.earliest ∙ c.in_ok-wait.was {u = tt}) c.unlist.ensures.entries in
    search rules
