use Rattle.std.proofs.Common.{rules, ap, sym, ◌∙◌}
use Rattle.std.proofs.lemmas.Iterator.{YieldsList-from_slice, YieldsList-from_zip, same_from_all}
use Rattle.zl_policy.specs.Policies.{actions_from}
use Rattle.zl_policy.proofs.Places.{same_rows}
use Rattle.zl_policy.proofs.policy.Policy.is_same.Goals as goal

pub returns : goal.returns
returns c =
    let long = c.self.invariant ∙ sym c.other.invariant in
    let rows = same_from_all {s = c.zip.result} c.all.new.self _ c.all.result c.self.inside.actions c.other.inside.actions c.all.ensures.ran
    (YieldsList-from_zip (YieldsList-from_slice _ (rw c.zip.ensures.first c.iter.ensures.rest))
    (YieldsList-from_slice _ (rw c.zip.ensures.second c.iter-2.ensures.rest))) long (λ x q k. search rules) (λ x q k. search rules) in (
      λ yes_. sym c.self.view_is ∙ ap (actions_from 0) (rows.0 yes_) ∙ c.other.view_is,
      λ same. rows.1 (same_rows _ _ long (c.self.view_is ∙ same ∙ sym c.other.view_is)),
    )
