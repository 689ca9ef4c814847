use Rattle.zl_objects.proofs.Common.{SignalState, ap, refl, sym, ◌∙◌}
use Rattle.zl_objects.proofs.Ending.{fewer_waits, given_back, none_to_give}
use Rattle.zl_objects.proofs.Unlisted.{all_out, one_more_out}
use Rattle.zl_objects.proofs.releasing.give_all_back.Goals as goal

pub loop-wait-init : goal.loop-wait-init
loop-wait-init c = record { back = refl; out = λ k. record { own = λ all. all; others = λ all. refl }; made = refl }

pub loop-wait-smaller : goal.loop-wait-smaller
loop-wait-smaller c =
    fewer_waits c.loop-wait.signals.waits c.take_wait.new.self.waits c.in-Some.wait (sym c.take_wait.ensures.first ∙ c.in-Some.is)
    (ap (λ (s : SignalState). s.waits) c.take_wait.ensures.rest)

pub loop-wait-preserved : goal.loop-wait-preserved
loop-wait-preserved c = record {
  back =
      given_back c.loop-wait.signals.waits c.take_wait.new.self.waits c.in-Some.wait c.loop-wait.by_koid.entries c.give_back.new.by_koid.entries
      (sym c.take_wait.ensures.first ∙ c.in-Some.is) (ap (λ (s : SignalState). s.waits) c.take_wait.ensures.rest) c.give_back.ensures
      ∙ c.loop-wait.invariant.back;
  out = one_more_out c.in-Some.wait c.loop-wait.invariant.out c.loop-wait.waits.rising (sym c.take_wait.ensures.first ∙ c.in-Some.is)
      (ap (λ (s : SignalState). s.waits) c.take_wait.ensures.rest) c.unlist.ensures.entries;
  made = c.unlist.ensures.made ∙ c.loop-wait.invariant.made;
}

pub returns-clause-places : goal.returns-clause-places
returns-clause-places c =
    sym (none_to_give c.loop-wait.signals.waits c.loop-wait.by_koid.entries (sym c.take_wait.ensures.first ∙ c.in_default.is)) ∙ c.loop-wait.invariant.back

pub returns-clause-entries : goal.returns-clause-entries
returns-clause-entries c = λ k. all_out k (c.loop-wait.invariant.out k) (sym c.take_wait.ensures.first ∙ c.in_default.is)
