use Rattle.std.proofs.lemmas.List.Elements.{same_from_all_zip}
use Rattle.zl_objects.proofs.Kept.{roomy_kept}
use Rattle.zl_objects.proofs.store.Store.copy.Goals as goal

pub invariant_of-result-clause-kept : goal.invariant_of-result-clause-kept
invariant_of-result-clause-kept c =
    let objects = c.in_ok-copied_objects.ensures {u = tt} in
    let room = (c.in_ok-copied.ensures {u = tt}).room in
    rw (c.in_ok-copy.ensures {u = tt}).entries (roomy_kept _ _ _ _ _ c.args.self.now.kept objects room)

pub invariant_of-result-clause-calm : goal.invariant_of-result-clause-calm
invariant_of-result-clause-calm c =
    let marks = c.in_ok-copy-3.ensures {u = tt} in
    rw (c.in_ok-copied_objects.ensures {u = tt}, (c.in_ok-copy-2.ensures {u = tt}).list, marks.koids, marks.all) c.args.self.now.calm

pub invariant_of-result-clause-indexed : goal.invariant_of-result-clause-indexed
invariant_of-result-clause-indexed c =
    let cases = (c.in_ok-clone.ensures {u = tt}).cases in
    let pairs = same_from_all_zip _ _ _ cases.0 (λ x y h i. (h.0 i, h.1 i)) in
    let jobs = same_from_all_zip _ _ _ cases.1.0 (λ x y h i. (h.0 i, h.1 i)) in
    let processes = same_from_all_zip _ _ _ cases.1.1 (λ x y h i. (h.0 i, h.1 i)) in
    rw (pairs, jobs, processes, c.in_ok-copied_objects.ensures {u = tt}) c.args.self.now.indexed
