use Rattle.zl_objects.proofs.Common.{[], refl, ◌∷◌}
use Rattle.zl_objects.proofs.Law.{leaves_largest}
use Rattle.zl_objects.proofs.Released.{left_by, released, waits_left}
use Rattle.zl_objects.proofs.Shedding.{sheds_listed}
use Rattle.zl_objects.proofs.objects.Objects.remove_unheld.Goals as goal

pub returns-clause-releases : goal.returns-clause-releases
returns-clause-releases c = rw (← c.self.view_is) (released c.remove_unkept.ensures.goes refl c.remove_unkept.ensures.sheds.next_koid)

pub returns-clause-largest : goal.returns-clause-largest
returns-clause-largest c = leaves_largest [] (c.args.koid ∷ []) c.args.self.now _ (returns-clause-releases c)

pub returns-clause-waits : goal.returns-clause-waits
returns-clause-waits c = rw (← c.self.view_is) (waits_left (left_by c.remove_unkept.ensures.goes) c.self.inside.store.kept.whole.places)

pub returns-clause-places : goal.returns-clause-places
returns-clause-places c = c.remove_unkept.new.self.kept.whole.places

pub returns-clause-listed : goal.returns-clause-listed
returns-clause-listed c = rw (← c.self.view_is) (sheds_listed c.remove_unkept.ensures.sheds)
