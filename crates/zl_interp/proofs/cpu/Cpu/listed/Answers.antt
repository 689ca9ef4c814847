use Rattle.zl_interp.proofs.Common.{arith, common_steps, ◌∙◌}
use Rattle.zl_interp.proofs.Listing.{read_step}
use Rattle.zl_interp.proofs.cpu.Cpu.listed.Goals as goal

pub loop-place-preserved : goal.loop-place-preserved
loop-place-preserved c =
    let so_far = c.loop-place.invariant in (
      grind (arith, common_steps, so_far.0),
      omega (arith, so_far.1),
      so_far.2 ∙ rw c.register.ensures (read_step c.args.self.now.registers c.loop-place.values c.args.handles.now.places c.loop-place.count c.loop-place.place
          c.in-Some.register (c.in-Some.ensures {u = tt}) (omega (arith, so_far.0, so_far.1))),
    )
