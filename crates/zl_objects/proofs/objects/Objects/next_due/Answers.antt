use Rattle.zl_objects.proofs.Common.{ap, holds_now, is_marked, listed_value, option_map, sym, ℕ, ◌∙◌}
use Rattle.zl_objects.proofs.Earliest.{before_seen, due_seen, earliest_is}
use Rattle.zl_objects.proofs.Lists.{any_taken}
use Rattle.zl_objects.proofs.objects.Objects.next_due.Goals as goal

pub first_holding-requires-clause-before : goal.first_holding-requires-clause-before
first_holding-requires-clause-before c =
    sym (any_taken (holds_now c.self.inside.store.by_koid.entries) listed_value c.args.from c.self.inside.store.waits.entries.items)
    ∙ rw (← c.self.view_is) at c.requires

pub returns-in_default-clause-object : goal.returns-in_default-clause-object
returns-in_default-clause-object c =
    rw (← c.self.view_is) (c.first_holding.ensures.object ∙ sym (due_seen c.self.inside.store.by_koid.entries c.self.inside.store.waits.entries.items))

pub returns-in_default-clause-before : goal.returns-in_default-clause-before
returns-in_default-clause-before c =
    rw (← c.self.view_is) (before_seen c.self.inside.store.by_koid.entries c.self.inside.store.waits.entries.items c.first_holding.result
    c.first_holding.ensures.before)

pub returns-in_err-koid-clause-object : goal.returns-in_err-koid-clause-object
returns-in_err-koid-clause-object c =
    rw (← c.self.view_is) (ap (option_map (λ (e : ℕ × ℕ). e.1)) (c.from_residual.ensures ∙ c.in_err-koid.ensures {u = tt})
    ∙ earliest_is c.self.inside.store.by_koid.entries c.self.inside.store.waits.entries.items c.self.inside.store.waits.rising c.self.inside.store.kept.listed
    (is_marked c.self.inside.store.marks) c.in-Some.koids.now (c.in-Some.ensures {u = tt}) c.self.inside.store.calm.waits)

pub returns-clause-object : goal.returns-clause-object
returns-clause-object c =
    rw (← c.self.view_is) (ap (option_map (λ (e : ℕ × ℕ). e.1)) (c.in_ok-koid.ensures {u = tt})
    ∙ earliest_is c.self.inside.store.by_koid.entries c.self.inside.store.waits.entries.items c.self.inside.store.waits.rising c.self.inside.store.kept.listed
    (is_marked c.self.inside.store.marks) c.in-Some.koids.now (c.in-Some.ensures {u = tt}) c.self.inside.store.calm.waits)
