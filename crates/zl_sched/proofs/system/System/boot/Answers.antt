use Rattle.zl_sched.proofs.Common.{[], ap, arith, boot_sound, length, rules, ◌≡◌}
use Rattle.zl_sched.proofs.Marked.{listed_alone}
use Rattle.zl_sched.proofs.Queued.{by_koid_ready}
use Rattle.zl_sched.proofs.system.System.boot.Goals as goal

pub invariant_of-result : goal.invariant_of-result
invariant_of-result c =
    let none : c.new.result.items ≡ [] = search rules in (
      record {
        legal = search rules;
        listed = rw ((c.in-Ok.ensures {u = tt}).items, none)
            (listed_alone c.in_ok-world.world.world _
            (by_koid_ready c.in_ok-world.world.world
            (boot_sound c.args.library c.args.boot.statements.items c.in_ok-world.world.world (c.in_ok-world.ensures {u = tt}).ok)));
      },
      omega (arith, (c.in-Ok.ensures {u = tt}).room, ap length none),
    )
