-- Koids are given once: what a step may do to them.
use Rattle.std.specs.Prelude.{ℕ, ◌≡◌, ◌<◌, ◌≤◌, false, Some, IsTrue}
use Rattle.zl_rights.specs.Common.{get, has_key, World, Object, kind_of}

-- each object has a koid that was given
pub record HasGivenKoids (w : World) : Type 0 where
  pub below : (k : ℕ) → IsTrue (has_key w.objects k) → k < w.next_koid

-- from w to w2 no koid is given twice, and no object changes its kind
pub record KeepsKoids (w w2 : World) : Type 0 where
  -- the least koid that was not given yet doesn't fall
  pub next_koid : w.next_koid ≤ w2.next_koid
  -- an object of w2 that isn't in w has a koid that was not given in w
  pub new_koid : (k : ℕ) → IsTrue (has_key w2.objects k) → has_key w.objects k ≡ false → w.next_koid ≤ k
  -- an object of both has one kind
  pub same_kind : (k : ℕ) (before after : Object) → get w.objects k ≡ Some before → get w2.objects k ≡ Some after
      → kind_of after.body ≡ kind_of before.body
