use Rattle.zl_objects.proofs.Common.{Some, is_at, lookup, nat_cmp, rules, set_value, with_policy_set, ◌≡◌}
use Rattle.zl_objects.proofs.ByKoid.{written_back}
use Rattle.zl_objects.proofs.Refusable.{when_err}
use Rattle.zl_objects.proofs.CalmChanges.{keeps_policy, policy_calm}
use Rattle.zl_objects.proofs.Tasks.{policy_or_same_kept}
use Rattle.zl_objects.proofs.Index.{kept_or_indexed}
use Rattle.zl_objects.proofs.objects.Objects.set_policy.Goals as goal

pub invariant_of-self-inside-2 : goal.invariant_of-self-inside-2
invariant_of-self-inside-2 c =
    let there : Some c.in-Some.object.now ≡ lookup (is_at (nat_cmp c.args.job)) c.self.inside.store.by_koid.entries = search rules in
    let set : (c.get_mut.follows.lender c.set_policy.new.self).entries
    ≡ set_value (is_at (nat_cmp c.args.job)) c.self.inside.store.by_koid.entries c.set_policy.new.self = search rules in
    record {
      kept = policy_or_same_kept c.args.condition c.args.action _ _ _ _ c.args.job c.in-Some.object.now c.set_policy.new.self c.set_policy.result
          c.self.inside.store.kept c.set_policy.ensures.ok c.set_policy.ensures.unchanged there set;
      calm = policy_calm c.args.condition c.args.action c.self.inside.store.by_koid.entries (c.get_mut.follows.lender c.set_policy.new.self).entries c.args.job
          c.in-Some.object.now c.set_policy.new.self c.set_policy.result c.set_policy.ensures.ok c.set_policy.ensures.unchanged there set
          c.self.inside.store.calm;
      indexed = kept_or_indexed (with_policy_set c.args.condition c.args.action) (keeps_policy c.args.condition c.args.action) c.args.job
          c.in-Some.object.now c.set_policy.new.self c.set_policy.result c.self.inside.store.indexed c.set_policy.ensures.ok c.set_policy.ensures.unchanged
          there set;
    }

pub returns-clause-unchanged : goal.returns-clause-unchanged
returns-clause-unchanged c =
    let there : Some c.in-Some.object.now ≡ lookup (is_at (nat_cmp c.args.job)) c.self.inside.store.by_koid.entries = search rules in
    let set : (c.get_mut.follows.lender c.set_policy.new.self).entries
    ≡ set_value (is_at (nat_cmp c.args.job)) c.self.inside.store.by_koid.entries c.set_policy.new.self = search rules in
    when_err (c.set_policy.new.self ≡ c.in-Some.object.now) _ c.set_policy.result
    (λ is. rw (written_back c.self.inside.store.by_koid.entries _ c.args.job c.in-Some.object.now c.set_policy.new.self there is set) c.self.view_is)
    c.set_policy.ensures.unchanged
