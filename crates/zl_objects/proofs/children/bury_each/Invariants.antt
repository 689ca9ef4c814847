use Rattle.zl_objects.proofs.Common.{IsBuried, IsIndexed, IsTrue, get, is_one_of, take, ℕ}
use Rattle.zl_objects.proofs.children.bury_each.Given as goal

abbrev pub invariant-loop-koid : goal.invariant-loop-koid
invariant-loop-koid l = record {
  indexed : IsIndexed l.children l.by_koid.entries;
  buried : (k : ℕ) → IsTrue (is_one_of k (take l.koid-index l.koids)) → IsBuried l.children k (get l.by_koid.entries k);
}
