use Rattle.zl_objects.proofs.Common.{[], arith}
use Rattle.zl_objects.proofs.Released.{cascades_of}
use Rattle.zl_objects.proofs.Shedding.{sheds_none, sheds_then}
use Rattle.zl_objects.proofs.Sweeps.{sweep_begins, sweep_ends, sweep_goes_on}
use Rattle.zl_objects.proofs.store.Store.sweep.Goals as goal

pub loop-koid-init : goal.loop-koid-init
loop-koid-init c = record { sweeps = sweep_begins c.args.self.now.by_koid.entries; none = c.requires; sheds = sheds_none c.args.self.now }

-- each koid lies below the next one
pub overflow_add-from : goal.overflow_add-from
overflow_add-from c = omega (arith, c.loop-koid.self.kept.whole.below c.in-Some.koid (c.in-Some.ensures {u = tt}).next.there)

pub loop-koid-preserved : goal.loop-koid-preserved
loop-koid-preserved c = record {
  sweeps = sweep_goes_on c.args.self.now.by_koid.entries c.loop-koid.self.by_koid.entries c.remove_unkept.new.self.by_koid.entries c.loop-koid.from
      c.in-Some.koid c.loop-koid.invariant.sweeps (c.in-Some.ensures {u = tt}).next c.remove_unkept.ensures.goes;
  none = c.remove_unkept.ensures.none;
  sheds = sheds_then c.loop-koid.invariant.sheds (cascades_of [] _ _ _ _ c.remove_unkept.ensures.goes) c.remove_unkept.ensures.sheds;
}

pub returns-clause-goes : goal.returns-clause-goes
returns-clause-goes c =
    sweep_ends c.args.self.now.by_koid.entries c.loop-koid.self.by_koid.entries c.loop-koid.from c.loop-koid.invariant.sweeps
    (c.in_default.ensures {u = tt}).next
