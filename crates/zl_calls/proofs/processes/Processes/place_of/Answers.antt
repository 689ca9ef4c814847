use Rattle.zl_calls.proofs.Common.{Process, Some, process_value, rules, ◌∙◌}
use Rattle.std.proofs.lemmas.List.Sorted.{answers_always}
use Rattle.zl_objects.proofs.Searching.{searched}
use Rattle.zl_calls.proofs.processes.Near.{near_first}
use Rattle.zl_calls.proofs.processes.Written.{place_is}
use Rattle.zl_calls.proofs.processes.Processes.place_of.Goals as goal

-- the closure gives a process's pid
pub returns-clause-first : goal.returns-clause-first
returns-clause-first c =
    let facts = c.binary_search_by_key.ensures in
    let by_pid = facts.position (λ p. p.pid) (answers_always _ _ _ (λ f a r g called. search rules)) in
    rw (← c.deref.ensures.value)
    (c.ok.ensures.value ∙ searched (λ (p : Process). p.pid) process_value c.args.pid c.deref.result.now _
    (rw c.deref.ensures.value c.args.self.now.in_order) facts.bound by_pid)

pub returns-clause-found : goal.returns-clause-found
returns-clause-found c = place_is c.args.self.now.list.items c.args.pid c.ok.result (returns-clause-first c)

pub returns-then-is_near-clause-first : goal.returns-then-is_near-clause-first
returns-then-is_near-clause-first c =
    near_first c.args.self.now.list.items c.args.pid c.args.self.now.near c.args.self.now.in_order (c.is_near.ensures.0 c.if-is_near.true)

pub returns-then-is_near-clause-found : goal.returns-then-is_near-clause-found
returns-then-is_near-clause-found c =
    place_is c.args.self.now.list.items c.args.pid (Some c.args.self.now.near) (returns-then-is_near-clause-first c)
