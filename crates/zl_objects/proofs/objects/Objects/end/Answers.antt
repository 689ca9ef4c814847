use Rattle.zl_objects.proofs.Common.{Objects, Some, [], ap, filter, get, is_there, job_in, refl, sym, ◌∙◌, ◌≡◌}
use Rattle.zl_objects.proofs.Listed.{all_seen}
use Rattle.zl_objects.proofs.Released.{both_left, both_released, cascades_of, waits_left}
use Rattle.zl_objects.proofs.Shedding.{sheds_listed, sheds_then}
use Rattle.zl_objects.proofs.objects.Objects.end.Goals as goal

pub returns-in-Some-clause-ends : goal.returns-in-Some-clause-ends
returns-in-Some-clause-ends c =
    let job : job_in (get c.args.self.now.objects c.args.pid) ≡ Some c.in-Some.job = rw (← c.self.view_is) (sym c.job_of.ensures ∙ c.in-Some.is) in
    rw job (rw (← c.stop.ensures, ← c.self-in-Some.view_is)
    (both_released c.remove_unkept.ensures.goes c.remove_unkept-in-Some.ensures.goes
    (c.remove_unkept-in-Some.ensures.sheds.next_koid ∙ c.remove_unkept.ensures.sheds.next_koid)))

pub returns-in-Some-clause-waits : goal.returns-in-Some-clause-waits
returns-in-Some-clause-waits c =
    let job : job_in (get c.args.self.now.objects c.args.pid) ≡ Some c.in-Some.job = rw (← c.self.view_is) (sym c.job_of.ensures ∙ c.in-Some.is) in
    rw job (rw (← ap (λ (r : Objects). r.objects) (c.self-in-Some.view_is ∙ c.stop.ensures))
    (waits_left (both_left c.remove_unkept.ensures.goes c.remove_unkept-in-Some.ensures.goes) c.self-in-Some.inside.store.kept.whole.places))

pub returns-in-Some-clause-places : goal.returns-in-Some-clause-places
returns-in-Some-clause-places c = c.remove_unkept-in-Some.new.self.kept.whole.places

pub returns-in_default-clause-places : goal.returns-in_default-clause-places
returns-in_default-clause-places c = rw (← c.self.view_is) c.self.inside.store.kept.whole.places

pub returns-in_default-clause-waits : goal.returns-in_default-clause-waits
returns-in_default-clause-waits c = rw (← c.self.view_is, sym c.job_of.ensures ∙ c.in_default.is) tt

pub returns-in_default-clause-listed : goal.returns-in_default-clause-listed
returns-in_default-clause-listed c = rw (← c.self.view_is) record {
  waits = sym (all_seen c.self.inside.store.waits.entries.items c.self.inside.store.by_koid.entries c.self.inside.store.kept.whole.places
      c.self.inside.store.kept.listed);
  made = refl;
  asleep = (refl, refl);
}

pub returns-in-Some-clause-listed : goal.returns-in-Some-clause-listed
returns-in-Some-clause-listed c =
    let stop = c.self-in-Some.view_is ∙ c.stop.ensures in
    let left = sheds_listed (sheds_then c.remove_unkept.ensures.sheds (cascades_of [] _ _ _ _ c.remove_unkept-in-Some.ensures.goes)
    c.remove_unkept-in-Some.ensures.sheds) in
    record {
      waits = left.waits ∙ ap (λ (r : Objects). filter (is_there c.remove_unkept-in-Some.new.self.by_koid.entries) r.waits) stop;
      made = left.made ∙ ap (λ (r : Objects). r.waits_made) stop;
      asleep = (left.asleep.0 ∙ ap (λ (r : Objects). r.sleepers) stop, left.asleep.1 ∙ ap (λ (r : Objects). r.crowded) stop);
    }
