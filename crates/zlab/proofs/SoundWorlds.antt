-- In every world of a history from a boot world handles are sound, and name objects of their kind.
use Rattle.zlab.proofs.Common.{InEachWorld, IsBoot, IsLegalHistory, IsSound, Library, List, Statement, TraceItem}
use Rattle.zl_code.proofs.Common.{World}
use Rattle.zl_code.proofs.SoundRuns.{history_keeps}

pub always_sound : (lib : Library) (statements : List Statement) (boot w : World) (items : List TraceItem) → IsBoot lib statements boot
    → (legal : IsLegalHistory lib boot items w) → InEachWorld IsSound lib boot items w legal
always_sound = history_keeps IsSound (λ w sound. sound)
