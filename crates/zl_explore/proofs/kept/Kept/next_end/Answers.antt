use Rattle.zl_code.proofs.Common.{Some, arith, subst, sym, ◌+◌, ◌∙◌, ◌≡◌, ◌≤◌}
use Rattle.zl_explore.specs.Kept.{IsWhole, search_of, told_of}
use Rattle.zl_explore.specs.declared.kept.Kept.{Kept}
use Rattle.zl_explore.proofs.Keeping.{leads_from, lists_same, whole_doubling}
use Rattle.zl_explore.proofs.kept.Kept.next_end.Goals as goal

pub returns-in-Some-clause-leads : goal.returns-in-Some-clause-leads
returns-in-Some-clause-leads c =
    leads_from (Some c.in-Some.next) (search_of c.args.self.now) (search_of c.loop.self) c.loop.invariant.1 (λ i. (c.loop.invariant.3 i).bad.items)
    (lists_same c.args.self.now c.loop.self c.loop.invariant.3)
    (c.in-Some.ensures {u = tt}).leads

pub returns-then-self-len-clause-leads : goal.returns-then-self-len-clause-leads
returns-then-self-len-clause-leads c =
    leads_from (Some c.all.result) (search_of c.args.self.now) (search_of c.loop.self) c.loop.invariant.1 (λ i. (c.loop.invariant.3 i).bad.items)
    (lists_same c.args.self.now c.loop.self c.loop.invariant.3)
    c.all.ensures.leads

pub returns-clause-leads : goal.returns-clause-leads
returns-clause-leads c =
    leads_from (Some c.all-2.result) (search_of c.args.self.now) (search_of c.loop.self) c.loop.invariant.1 (λ i. (c.loop.invariant.3 i).bad.items)
    (lists_same c.args.self.now c.loop.self c.loop.invariant.3)
    c.all-2.ensures.leads

pub returns-then-is_doubled-clause-whole : goal.returns-then-is_doubled-clause-whole
returns-then-is_doubled-clause-whole c =
    subst IsWhole (sym c.is_doubled.ensures) (whole_doubling c.widen_one.new.self c.is_doubled.new.self.doubling c.widen_one.ensures.whole)

pub loop-preserved : goal.loop-preserved
loop-preserved c =
    let now = c.widen_one.new.self in
    let went = c.widen_one.ensures in
    let before = c.loop.invariant in
    let moved : now.widened ≡ c.loop.self.widened + 1 = rw c.in_default.is at went.moves in
    let told : told_of now ≡ told_of c.loop.self = rw c.in_default.is at went.told in
    subst (λ (k : Kept). IsWhole k × (k.root ≡ c.args.self.now.root) × (k.part ≡ c.args.self.now.part) × (k.never ≡ c.args.self.now.never)
    × (told_of k ≡ told_of c.args.self.now) × (k.most ≡ c.args.self.now.most) × (k.widened ≡ c.loop.counter + 1)
    × (c.args.self.now.widened ≤ k.widened)) (sym c.is_doubled.ensures) (
      whole_doubling now c.is_doubled.new.self.doubling went.whole,
      went.root ∙ before.1,
      went.part ∙ before.2,
      went.never ∙ before.3,
      told ∙ before.4,
      went.most ∙ before.5,
      omega (arith, moved, before.6),
      omega (arith, moved, before.7),
    )
