use Rattle.zl_rights.proofs.Common.{refl}
use Rattle.std.proofs.lemmas.List.Elements.{same_from_all_zip}
use Rattle.std.proofs.lemmas.Map.Entries.{entries_from_clone}
use Rattle.zl_signals.proofs.waits.Waits.copy.Goals as goal

pub invariant_of-result : goal.invariant_of-result
invariant_of-result c =
    let old = c.args.self.now in
    let same = entries_from_clone _ _ (λ k l h. h) (λ x y h. h) _ _ (c.in_ok-clone.ensures {u = tt}).cases in
    let indexes = (c.in_ok-clone-2.ensures {u = tt}).cases in
    let handles = same_from_all_zip _ _ _ indexes.0 (λ x y h i. ((h.0.0 i, h.0.1 i), h.1 i)) in
    let keyed = same_from_all_zip _ _ _ indexes.1.0 (λ x y h i. ((h.0.0 i, h.0.1 i, h.0.2 i, h.0.3 i), h.1 i)) in
    let ports = same_from_all_zip _ _ _ indexes.1.1 (λ x y h i. (h.0 i, h.1 i)) in
    record {
      ordered = rw same old.ordered;
      few = old.few;
      below = rw same old.below;
      indexed = rw (same, handles, keyed, ports) old.indexed;
      first = rw same old.first;
    }

pub returns : goal.returns
returns c = rw (entries_from_clone _ _ (λ k l h. h) (λ x y h. h) _ _ (c.in_ok-clone.ensures {u = tt}).cases) refl
