-- Items that begin with others.
use Rattle.zl_sched.proofs.Common.{Bool, IsTrue, List, TraceItem, ap, drop, length, sym, take, take-append-drop, take-append_seam, ◌++◌, ◌∙◌, ◌≡◌}
use Rattle.std.specs.Prelude.{◌↔◌}
use Rattle.zl_sched.specs.Opening.{Begins}

pub begins : (first items : List TraceItem) (b : Bool) → (IsTrue b ↔ take (length first) items ≡ first) → (IsTrue b ↔ Begins first items)
begins first items b same = (
  λ h. (drop (length first) items, sym (take-append-drop (length first) items) ∙ ap (λ (xs : List TraceItem). xs ++ drop (length first) items) (same.0 h)),
  λ there. same.1 (ap (λ (xs : List TraceItem). take (length first) xs) there.1 ∙ take-append_seam first there.0),
)
