use Rattle.zl_calls.proofs.Common.{AreBlocked, IsBoot, arith, boot_awake, boot_covered, free_entry, map, sym, world_blocked, ◌∙◌}
use Rattle.zl_code.proofs.ProgramsKept.{boot_programs}
use Rattle.zl_calls.proofs.boot.BootBlocked.{booted_boots, booted_sound, booted_world, none_blocked}
use Rattle.zl_calls.proofs.waking.Ordered.{none_ordered}
use Rattle.zl_calls.proofs.waking.StillBlocked.{none_sought}
use Rattle.zl_calls.proofs.world.World.boot.Goals as goal

boots : (c : goal.After-result-1) → IsBoot c.args.library c.args.boot.now.statements.items
    (world_blocked c.in_ok-processes.field-0.processes.items c.in_ok-processes.field-0.objects c.in-Ok.blocked.items)
boots c = booted_boots c.args.library c.args.boot.now.statements.items c.in_ok-processes.field-0.processes.items c.in_ok-processes.field-0.objects
    c.in-Ok.blocked.items
    c.in_ok-processes.ensures.ok c.in_ok-processes.ensures.unwatched ((c.in-Ok.ensures {u = tt}).items)

are : (c : goal.After-result-1) → AreBlocked c.in_ok-processes.field-0.processes.items c.in-Ok.blocked.items
are c = none_blocked c.args.library c.args.boot.now.statements.items c.in_ok-processes.field-0.processes.items c.in_ok-processes.field-0.objects
    c.in-Ok.blocked.items
    c.in_ok-processes.ensures.ok ((c.in-Ok.ensures {u = tt}).items)

pub invariant_of-result : goal.invariant_of-result
invariant_of-result c = record {
  in_order = c.in_ok-processes.ensures.consistent.processes_in_order;
  started = rw c.new.ensures.items c.in_ok-processes.ensures.started;
}

pub invariant_of-result-2 : goal.invariant_of-result-2
invariant_of-result-2 c = record {
  consistent = c.in_ok-processes.ensures.consistent;
  sound =
      booted_sound c.args.library c.args.boot.now.statements.items c.in_ok-processes.field-0.processes.items c.in_ok-processes.field-0.objects
      c.in-Ok.blocked.items
      c.in_ok-processes.ensures.ok c.in_ok-processes.ensures.unwatched ((c.in-Ok.ensures {u = tt}).items);
  are_blocked = are c;
  sought = none_sought c.in_ok-processes.field-0.processes.items c.in_ok-processes.field-0.objects c.in-Ok.blocked.items
      ((c.in-Ok.ensures {u = tt}).items) (are c);
  ordered = none_ordered c.in_ok-processes.field-0.processes.items c.in_ok-processes.field-0.objects c.in-Ok.blocked.items
      ((c.in-Ok.ensures {u = tt}).items) (are c);
  awake = boot_awake c.args.library c.args.boot.now.statements.items _ (boots c);
  programs = boot_programs c.args.library c.args.boot.now.statements.items _ (boots c);
  verified = c.len-2.ensures.verified;
  covered = boot_covered c.args.library c.len-2.ensures.verified c.args.boot.now.statements.items _
      (record { images = c.len-2.ensures.verified.images; words = c.in_ok-processes.ensures.words; boots = boots c });
  room = omega (arith, (c.in-Ok.ensures {u = tt}).exact, c.len.ensures, c.in_ok-processes.field-0.processes.ok.0);
}

pub returns-clause-own : goal.returns-clause-own
returns-clause-own c =
    let world = booted_world c.in_ok-processes.field-0.processes.items c.in_ok-processes.field-0.objects c.in-Ok.blocked.items
    c.in_ok-processes.ensures.unwatched ((c.in-Ok.ensures {u = tt}).items) in
    (λ i. record { world = sym world i; free = map free_entry c.in_ok-processes.field-0.processes.items }) ∙ c.in_ok-processes.ensures.own
