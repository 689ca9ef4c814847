use Rattle.zl_calls.proofs.Common.{World, ap, arith, can_start, length, length-map, nat_tests, process_entry, refl, seen, sym, ◌∙◌, ◌≡◌}
use Rattle.zl_calls.specs.declared.process.State.TheVariants as state
use Rattle.zl_calls.proofs.boot.BootFaults.{rights_are}
use Rattle.zl_calls.proofs.boot.BootMaking.{makes}
use Rattle.zl_calls.proofs.boot.Made.make_process.Goals as goal

pub give-requires-clause-place : goal.give-requires-clause-place
give-requires-clause-place c =
    let can = can_start c.args.library.now (seen c.args.self.now) c.args.job c.args.program c.args.word c.args.handles.now
    ((c.in_ok-image.ensures {u = tt}).fault c.args.word) in
    let count : length (seen c.args.self.now).processes ≡ length c.args.self.now.processes.items = length-map c.args.self.now.processes.items process_entry in
    omega (arith, count, can.place)

pub give-requires-clause-few : goal.give-requires-clause-few
give-requires-clause-few c =
    (can_start c.args.library.now (seen c.args.self.now) c.args.job c.args.program c.args.word c.args.handles.now
    ((c.in_ok-image.ensures {u = tt}).fault c.args.word)).few

pub give-requires-clause-may : goal.give-requires-clause-may
give-requires-clause-may c =
    let can = can_start c.args.library.now (seen c.args.self.now) c.args.job c.args.program c.args.word c.args.handles.now
    ((c.in_ok-image.ensures {u = tt}).fault c.args.word) in
    sym (rights_are (seen c.args.self.now).objects c.args.handles.now can.known) ∙ can.rights

pub create-requires-clause-koid : goal.create-requires-clause-koid
create-requires-clause-koid c =
    let can = can_start c.args.library.now (seen c.args.self.now) c.args.job c.args.program c.args.word c.args.handles.now
    ((c.in_ok-image.ensures {u = tt}).fault c.args.word) in
    let gives = (c.in_ok-give.ensures {u = tt}).ok in
    let koid : c.give.new.self.objects.next_koid ≡ c.args.self.now.objects.next_koid = ap (λ (w : World). w.next_koid) gives.same in
    grind (arith, nat_tests, koid, can.koid)

pub returns-clause-ok : goal.returns-clause-ok
returns-clause-ok c =
    makes c.args.library.now c.args.self.now c.give.new.self (record { processes = c.push.new.self; objects = c.create.new.self }) c.args.job c.args.program
    c.args.word c.args.handles.now c.in_ok-image.image.now
    (record { pid = c.end_of_koids.result; program = c.args.program; state = state.Ready; cpu = c.in-Ok.cpu; table = c.new-2.result }) c.give.new.process
    (c.in_ok-image.ensures {u = tt}).image ((c.in_ok-image.ensures {u = tt}).fault c.args.word)
    (record {
      pid = c.end_of_koids.ensures;
      program_is = refl;
      cpu = c.in-Ok.ensures {u = tt};
      ready = refl;
      bare = record { no_handles = c.new-2.ensures.entries; none_removed = c.new-2.ensures.last; offers_first = c.new-2.ensures.free };
    })
    ((c.in_ok-give.ensures {u = tt}).ok)
    (rw (c.if-is_err.ensures {u = tt}).negation at c.push.ensures.items) c.in-Ok-create.ensures.created
