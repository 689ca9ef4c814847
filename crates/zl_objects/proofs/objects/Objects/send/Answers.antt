use Rattle.zl_objects.proofs.Common.{Some, is_at, lookup, nat_cmp, refl, rules, sent, set_value, ◌≡◌}
use Rattle.zl_objects.proofs.ByKoid.{written, written_back}
use Rattle.zl_objects.proofs.Refusable.{when_err, when_ok}
use Rattle.zl_objects.proofs.CalmChanges.{found_or_same_calm, keeps_sent}
use Rattle.zl_objects.proofs.Kept.{sent_or_same_kept}
use Rattle.zl_objects.proofs.Index.{kept_or_indexed}
use Rattle.zl_objects.proofs.objects.Objects.send.Goals as goal

pub invariant_of-self-inside-2 : goal.invariant_of-self-inside-2
invariant_of-self-inside-2 c =
    let there : Some c.in-Some.end.now ≡ lookup (is_at (nat_cmp c.args.koid)) c.self.inside.store.by_koid.entries = search rules in
    let set : (c.get_mut.follows.lender c.send-sent.new.self).entries ≡ set_value (is_at (nat_cmp c.args.koid)) c.self.inside.store.by_koid.entries
    c.send-sent.new.self =
    search rules in
    record {
      kept = sent_or_same_kept _ _ _ _ c.args.koid c.args.message c.in-Some.end.now c.send-sent.new.self c.send-sent.result
          c.self.inside.store.kept
          c.send-sent.ensures.ok c.send-sent.ensures.unchanged there set;
      calm = found_or_same_calm c.add_if.ensures.more (sent c.args.message) (keeps_sent c.args.message) c.self.inside.store.by_koid.entries
          (c.get_mut.follows.lender c.send-sent.new.self).entries c.args.koid c.in-Some.end.now c.send-sent.new.self there
          c.is_watched.result c.is_watched.ensures c.add_if.ensures.wanted c.send-sent.result c.send-sent.ensures.ok c.send-sent.ensures.unchanged set
          c.self.inside.store.calm;
      indexed = kept_or_indexed (sent c.args.message) (keeps_sent c.args.message) c.args.koid c.in-Some.end.now c.send-sent.new.self
          c.send-sent.result c.self.inside.store.indexed c.send-sent.ensures.ok c.send-sent.ensures.unchanged there set;
    }

pub returns-clause-sent : goal.returns-clause-sent
returns-clause-sent c =
    let there : Some c.in-Some.end.now ≡ lookup (is_at (nat_cmp c.args.koid)) c.self.inside.store.by_koid.entries = search rules in
    let set : (c.get_mut.follows.lender c.send-sent.new.self).entries ≡ set_value (is_at (nat_cmp c.args.koid)) c.self.inside.store.by_koid.entries
    c.send-sent.new.self =
    search rules in
    when_ok (c.send-sent.new.self ≡ sent c.args.message c.in-Some.end.now) _ c.send-sent.result
    (λ is. rw (
      written c.self.inside.store.by_koid.entries _ c.args.koid (sent c.args.message) c.in-Some.end.now c.send-sent.new.self there is set,
      ←
          c.self.view_is,
    ) refl)
    c.send-sent.ensures.ok

pub returns-clause-unchanged : goal.returns-clause-unchanged
returns-clause-unchanged c =
    let there : Some c.in-Some.end.now ≡ lookup (is_at (nat_cmp c.args.koid)) c.self.inside.store.by_koid.entries = search rules in
    let set : (c.get_mut.follows.lender c.send-sent.new.self).entries ≡ set_value (is_at (nat_cmp c.args.koid)) c.self.inside.store.by_koid.entries
    c.send-sent.new.self =
    search rules in
    when_err (c.send-sent.new.self ≡ c.in-Some.end.now) _ c.send-sent.result
    (λ is. rw (written_back c.self.inside.store.by_koid.entries _ c.args.koid c.in-Some.end.now c.send-sent.new.self there is set) c.self.view_is)
    c.send-sent.ensures.unchanged
