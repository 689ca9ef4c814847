use Rattle.zl_calls.proofs.Common.{process_value, refl}
use Rattle.zl_calls.specs.Turns.{IsTurn}
use Rattle.zl_calls.proofs.step.Advancing.{listed_there, made_passes, none_ready, read_there, ready_there, they_stand}
use Rattle.zl_calls.proofs.step.Covered.{able_there}
use Rattle.zl_calls.proofs.step.StepItems.{machine_value}
use Rattle.zl_calls.proofs.world.World.turn.Goals as goal

pub unreachable-requires : goal.unreachable-requires
unreachable-requires c =
    none_ready c.self.inside.library c.self.inside.parts.processes.list.items c.self.inside.parts.objects c.self.inside.parts.blocked.items c.args.pid
    (c.in_default.ensures {u = tt}).found (rw (← c.self.view_is) at c.requires)

pub unreachable-requires-in_default-shared : goal.unreachable-requires-in_default-shared
unreachable-requires-in_default-shared c =
    listed_there c.self.inside.library c.index-process.result.now.program (c.in_default-shared.ensures {u = tt}).missing
    (c.self.invariant.programs c.args.pid (process_value c.index-process.result.now)
    (read_there c.self.inside.parts.processes.list.items c.args.pid c.in-Some.place c.index-process.result.now
    (c.in-Some.ensures {u = tt}).found c.index-process.ensures))

pub new-requires : goal.new-requires
new-requires c =
    let there = read_there c.self.inside.parts.processes.list.items c.args.pid c.in-Some.place c.index-process.result.now (c.in-Some.ensures {u = tt}).found
    c.index-process.ensures in
    record {
      able = able_there c.self.inside.library c.self.invariant.verified c.self.inside.parts.processes.list.items c.self.inside.parts.objects
          c.self.inside.parts.blocked.items c.args.pid c.index-process.result.now _ c.self.invariant.sound c.self.invariant.covered there
          (ready_there c.self.inside.library c.self.inside.parts.processes.list.items c.self.inside.parts.objects c.self.inside.parts.blocked.items c.args.pid
          c.index-process.result.now there (rw (← c.self.view_is) at c.requires)) (c.in-Some-shared.ensures {u = tt}).found;
    }

pub returns : goal.returns
returns c =
    rw (← c.self.view_is)
    (made_passes (IsTurn (machine_value c.self.inside.library c.self.inside.parts.processes.list.items c.self.inside.parts.objects
    c.self.inside.parts.blocked.items)
    c.args.pid) _ c.new.result c.new.ensures (record {
      pid_is = refl;
      stands = they_stand c.self.inside.library c.self.inside.parts.processes.list.items c.self.inside.parts.objects c.self.inside.parts.blocked.items
          c.args.pid
          c.index-process.result.now (read_there c.self.inside.parts.processes.list.items c.args.pid c.in-Some.place c.index-process.result.now
          (c.in-Some.ensures {u = tt}).found c.index-process.ensures) _ _ (c.in-Some-shared.ensures {u = tt}).found refl;
    }))
