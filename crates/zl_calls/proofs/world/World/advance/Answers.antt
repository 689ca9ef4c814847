use Rattle.zl_calls.proofs.Common.{Cpu, Process, Program, Some, Stands, after_locals, ap, free_entry, get, is_ready, length-set, map, on_process, position}
use Rattle.zl_calls.proofs.Common.{process_entry, process_value, refl, slice_get, state_value, sym, true, world_blocked, ◌==◌, ◌∙◌, ◌≡◌}
use Rattle.zl_calls.proofs.step.Advancing.{advances, advanced_programs, advanced_sound, cpu_stands, program_stands, read_there, ready_there}
use Rattle.zl_calls.proofs.step.Covered.{advanced_covered}
use Rattle.zl_calls.proofs.step.LocalMoves.{moved_awake, moved_keeps, moved_list, moved_world}
use Rattle.zl_calls.proofs.step.Performing.{AtTurn, turn_at, unblocked, write_of}
use Rattle.zl_calls.proofs.step.StepItems.{machine_value}
use Rattle.zl_calls.proofs.waking.Ordered.{written_ordered}
use Rattle.zl_calls.proofs.waking.StillBlocked.{written_sought}
use Rattle.zl_calls.proofs.processes.Freed.{set_unseen}
use Rattle.zl_calls.proofs.processes.Started.{set_started}
use Rattle.zl_calls.proofs.world.World.advance.Goals as goal

module _ (c : goal.After-self-1) where
  abbrev p : Process
  p = c.index_mut-process.result.now

  abbrev p2 : Process
  p2 = record p { cpu = c.move_to.new.cpu }

  first : Some c.in-Some.place ≡ position (λ q. q.pid == c.args.done.pid) c.self.inside.parts.processes.list.items
  first = rw c.pid.ensures at (c.in-Some.ensures {u = tt}).first

  found : get (map process_entry c.self.inside.parts.processes.list.items) c.args.done.pid ≡ Some (process_value p)
  found = read_there c.self.inside.parts.processes.list.items c.args.done.pid c.in-Some.place p
      (rw c.pid.ensures at (c.in-Some.ensures {u = tt}).found) c.index_mut-process.ensures.value

  abbrev g : Program
  g = c.requires.fits.program

  stands : Stands (machine_value c.self.inside.library c.self.inside.parts.processes.list.items c.self.inside.parts.objects c.self.inside.parts.blocked.items)
      c.args.done.pid g c.args.done.from
  stands = rw (← c.self.view_is) at c.requires.fits.stands

  program : slice_get c.self.inside.library p.program ≡ Some g
  program = program_stands c.self.inside.library c.self.inside.parts.processes.list.items c.self.inside.parts.objects c.self.inside.parts.blocked.items
      c.args.done.pid p found g c.args.done.from stands

  cpu : p.cpu ≡ c.args.done.from
  cpu = cpu_stands c.self.inside.library c.self.inside.parts.processes.list.items c.self.inside.parts.objects c.self.inside.parts.blocked.items
      c.args.done.pid p found g c.args.done.from stands

  ready : is_ready (state_value p.state) ≡ true
  ready = ready_there c.self.inside.library c.self.inside.parts.processes.list.items c.self.inside.parts.objects c.self.inside.parts.blocked.items
      c.args.done.pid p found (rw (← c.self.view_is) at c.requires.ready)

  turn : AtTurn c.self.inside.parts.processes.list.items c.self.inside.parts.objects c.self.inside.parts.blocked.items c.args.done.pid c.in-Some.place p
  turn = turn_at c.self.inside.parts.processes.list.items c.self.inside.parts.objects c.self.inside.parts.blocked.items c.args.done.pid c.in-Some.place p
      c.self.invariant.consistent c.self.invariant.are_blocked c.self.invariant.sound first c.index_mut-process.ensures.value ready

  follows : after_locals g.image c.args.done.ran p.cpu ≡ Some p2.cpu
  follows = ap (after_locals g.image c.args.done.ran) cpu
      ∙ (c.ran.ensures.follows.follows g.image c.requires.fits.matches ∙ ap (λ (d : Cpu). Some d) (sym c.move_to.ensures))

pub invariant_of-self-inside : goal.invariant_of-self-inside
invariant_of-self-inside c = record {
  in_order = (moved_keeps (turn c) (p2 c) refl).processes_in_order;
  started = set_started c.index_mut-process.result.now (p2 c) (λ h. h) c.self.inside.parts.processes.list.items c.in-Some.place
      c.index_mut-process.ensures.value _
      c.self.inside.parts.processes.started;
}

-- the world with that counter, before it is put back
abbrev written : goal.After-self-2-1 → goal.After-self-1
written c = c.before

pub invariant_of-self : goal.invariant_of-self
invariant_of-self c = record {
  consistent = moved_keeps (turn (written c)) (p2 (written c)) refl;
  sound = advanced_sound (turn (written c)) c.self.inside.library c.self.invariant.awake (g (written c)) (program (written c)) c.args.done.ran
      (p2 (written c)) refl (follows (written c));
  are_blocked = moved_list (turn (written c)) (p2 (written c)) refl;
  sought = written_sought (write_of (turn (written c)) (p2 (written c)) refl) c.self.inside.parts.objects (unblocked (turn (written c)))
      c.self.invariant.sought;
  ordered = written_ordered (write_of (turn (written c)) (p2 (written c)) refl) c.self.inside.parts.objects c.self.inside.parts.blocked.items
      (unblocked (turn (written c))) (unblocked (turn (written c))) c.self.invariant.ordered;
  room = rw (length-set c.self.inside.parts.processes.list.items c.in-Some.place (p2 (written c))) c.self.invariant.room;
  awake = moved_awake (turn (written c)) (p2 (written c)) refl c.self.invariant.awake;
  programs = advanced_programs (turn (written c)) c.self.inside.library c.self.invariant.awake (g (written c)) (program (written c))
      c.args.done.ran (p2 (written c)) refl (follows (written c)) c.self.invariant.programs;
  verified = c.self.invariant.verified;
  covered = advanced_covered c.self.inside.library c.self.invariant.verified (turn (written c)) c.self.invariant.awake (g (written c))
      (program (written c)) c.args.done.ran (p2 (written c)) refl (follows (written c)) c.self.invariant.covered;
}

pub returns-clause-cpu : goal.returns-clause-cpu
returns-clause-cpu c =
    let world = moved_world (turn (written c)) (p2 (written c)) refl
    ∙ ap (λ (d : Cpu). on_process (world_blocked c.self.inside.parts.processes.list.items c.self.inside.parts.objects c.self.inside.parts.blocked.items)
    c.args.done.pid
    (λ q. record q { cpu = d })) c.move_to.ensures in
    let free = set_unseen free_entry c.self.inside.parts.processes.list.items c.in-Some.place (p (written c))
    (p2 (written c)) c.index_mut-process.ensures.value refl in
    rw (← c.self.view_is) (λ i. record { programs = c.self.inside.library; world = world i; free = free i })

pub returns-clause-steps : goal.returns-clause-steps
returns-clause-steps c =
    rw (← c.self.view_is) (advances (turn (written c)) c.self.inside.library c.self.invariant.awake (g (written c)) (program (written c)) c.args.done.ran
    (p2 (written c)) refl (follows (written c)))
