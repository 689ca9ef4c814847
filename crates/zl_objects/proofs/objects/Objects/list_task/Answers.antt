use Rattle.std.proofs.lemmas.List.Sorted.{IsNonDecreasingBy-from_sort}
use Rattle.zl_objects.proofs.Descending.{has_moved}
use Rattle.zl_objects.proofs.objects.Objects.list_task.Goals as goal

pub returns-clause-task : goal.returns-clause-task
returns-clause-task c = rw (← c.self.view_is) (λ all. has_moved _ _ _ _ c.sort_unstable.ensures.permutation (c.list_task-whole.ensures all))

pub returns-clause-rising : goal.returns-clause-rising
returns-clause-rising c = IsNonDecreasingBy-from_sort (λ k. k) c.sort_unstable.new.self.items c.sort_unstable.ensures.sorted
