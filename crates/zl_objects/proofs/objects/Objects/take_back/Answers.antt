use Rattle.zl_objects.proofs.Popped.{taken_back}
use Rattle.zl_objects.proofs.objects.Objects.take_back.Goals as goal

pub invariant_of-store : goal.invariant_of-store
invariant_of-store c =
    let popped = c.pop_last.ensures in
    let was = c.self.inside.store in
    let left = taken_back {marks = was.marks} {marks2 = c.mark_watched.new.marks} was.by_koid c.pop_last.new.self was.next_koid c.args.koid
    c.pop_last.result (record { kept = was.kept; calm = was.calm; indexed = was.indexed })
    (rw (← c.self.view_is) at c.requires.newest) (rw (← c.self.view_is) at c.requires.alone) (rw (← c.self.view_is) at c.requires.unreserved)
    (rw (← c.self.view_is) at c.requires.unwatched) (rw (← c.self.view_is) at c.requires.there) (rw (← c.self.view_is) at c.requires.unslept)
    c.remove.ensures popped.variant popped.value popped.greatest popped.removal c.mark_watched.ensures.more
    (rw c.parent_at-job.ensures at c.mark_watched.ensures.wanted) in
    record { kept = left.kept; calm = left.calm; indexed = left.indexed }
