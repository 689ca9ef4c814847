-- The names of causes, as answers have them.
use Rattle.std.specs.Prelude.{ℕ, List, codes}
use Rattle.zl_abs.specs.declared.cause.Cause.{Cause}
use Rattle.zl_abs.specs.declared.cause.Cause.TheVariants as rule
use Rattle.zl_verify.specs.declared.refusal.RefusalCause.{RefusalCause}
use Rattle.zl_verify.specs.declared.refusal.RefusalCause.TheVariants as cause

-- each cause for which a rule doesn't hold by its name
abbrev pub rule_cause_name : Cause → List ℕ
rule_cause_name rule.NotLive = codes "NotLive"
rule_cause_name rule.WrongKind = codes "WrongKind"
rule_cause_name rule.LacksRight = codes "LacksRight"
rule_cause_name rule.Leak = codes "Leak"
rule_cause_name rule.NotWord = codes "NotWord"
rule_cause_name rule.MemoryRange = codes "MemoryRange"
rule_cause_name rule.BadJump = codes "BadJump"
rule_cause_name rule.FallsOff = codes "FallsOff"
rule_cause_name rule.UndeclaredNeed = codes "UndeclaredNeed"
rule_cause_name rule.IllegalOp = codes "IllegalOp"

-- each cause of a refusal by its name
abbrev pub cause_name : RefusalCause → List ℕ
cause_name (cause.Rule c) = rule_cause_name c
cause_name cause.JoinConflict = codes "JoinConflict"
cause_name cause.Budget = codes "Budget"
cause_name cause.NoMemory = codes "NoMemory"
