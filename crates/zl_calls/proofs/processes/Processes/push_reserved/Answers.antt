use Rattle.zl_calls.proofs.Common.{arith, length, ℕ, ◌≡◌}
use Rattle.zl_calls.proofs.processes.Started.{pushed_started}
use Rattle.zl_calls.proofs.processes.Processes.push_reserved.Goals as goal

pub invariant_of-self : goal.invariant_of-self
invariant_of-self c =
    let place : ◌≡◌ {A = ℕ} c.len.result (length c.args.self.now.list.items) = omega (arith, c.len.ensures, c.args.self.now.list.ok.0) in
    record {
      in_order = rw c.push_reserved-2.ensures.items c.requires.in_order;
      started = rw (c.push_reserved-2.ensures.items, c.push_reserved.ensures.items, place)
          (pushed_started c.args.process c.args.self.now.list.items c.args.self.now.unstarted.items c.args.self.now.started);
    }
