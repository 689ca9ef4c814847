use Rattle.zl_calls.proofs.Common.{Library, ap, arith, length, subst, sym, vec_capacity, ◌≡◌, ◌≤◌}
use Rattle.zl_calls.specs.Blocked.{IsWhole}
use Rattle.zl_calls.specs.Calling.{parts_in}
use Rattle.zl_calls.specs.calls.Task.{Reach}
use Rattle.zl_calls.proofs.world.World.copy.Goals as goal

pub invariant_of-result : goal.invariant_of-result
invariant_of-result c =
    let new = c.in_ok-copy-2.field-0 in
    let old = c.self.inside.parts in
    let whole = c.self.invariant in
    let same : parts_in new ≡ parts_in old = c.in_ok-copy-2.ensures.parts in
    let long : length new.processes.list.items ≡ length old.processes.list.items = ap (λ (x : Reach). length x.processes) same in
    let room : length new.processes.list.items ≤ vec_capacity new.blocked = c.in_ok-copy-2.ensures.room in
    subst (λ (lib : Library). IsWhole lib new.processes.list.items new.objects new.blocked.items (vec_capacity new.blocked)) (sym c.in_ok-copy.ensures)
    (subst (λ (x : Reach). IsWhole c.self.inside.library x.processes x.objects x.blocked (vec_capacity new.blocked)) (sym same) (record {
      consistent = whole.consistent;
      sound = whole.sound;
      are_blocked = whole.are_blocked;
      sought = whole.sought;
      ordered = whole.ordered;
      room = omega (arith, long, room);
      awake = whole.awake;
      programs = whole.programs;
      verified = whole.verified;
      covered = whole.covered;
    }))
