-- The task that a kill names, as it is listed.
use Rattle.zl_calls.proofs.Common.{Bool, CallInstr, Cpu, Entry, IfSome, Map, NotesTask, Object, Objects, Some, Taken, ap, call_row, false, get}
use Rattle.zl_calls.proofs.Common.{has_its_memory, koid_in, map, object_entry, reg, same_Some, site_at, site_in, site_named, site_of, slice_index, subst, sym}
use Rattle.zl_calls.proofs.Common.{then_some, true, ℕ, ◌==◌, ◌∙◌, ◌≡◌}
use Rattle.zl_code.specs.declared.history.CallName.TheVariants as name
use Rattle.zl_objects.specs.Below.{HasTask}
use Rattle.zl_objects.specs.declared.below.TaskList.{TaskList}
use Rattle.zl_calls.specs.Killed.{ListsTask, task_of}
use Rattle.zl_calls.proofs.parts.KillWorlds.{same_within}

-- what the objects list is what the world sees
pub lists_seen : (m : Map Object) (task : ℕ) (list : TaskList) → (list.whole ≡ true → (task == 0) ≡ false)
    → (list.whole ≡ true → HasTask m task list.koids.items)
    → ListsTask (map object_entry m) task list
lists_seen m task list some has whole k within = (has whole).within k (sym (same_within m task (some whole) k) ∙ within)

-- the task is that of the second register
pub task_noted : (i : CallInstr) (c : Cpu) (entries : Map Entry) (r : Objects) (t : Taken)
    → ListsTask (map object_entry r.objects) (koid_in (get entries (reg c (slice_index i.registers 1)))) t.killed → NotesTask i.name (site_of i c) entries r t
task_noted i c entries r t lists is =
    subst (λ o. IfSome o (λ s. (task : ℕ) → task_of entries s.request ≡ Some task → ListsTask (map object_entry r.objects) task t.killed))
    (sym (site_named i c ∙ ap (λ m. site_in m i c) is)) (by (has_its_memory (call_row name.TaskKill).ending i c))
  where
    by : (b : Bool) → IfSome (then_some b (site_at name.TaskKill i c))
        (λ s. (task : ℕ) → task_of entries s.request ≡ Some task → ListsTask (map object_entry r.objects) task t.killed)
    by true = λ task asked. subst (λ k. ListsTask (map object_entry r.objects) k t.killed) (same_Some _ task asked) lists
    by false = tt
