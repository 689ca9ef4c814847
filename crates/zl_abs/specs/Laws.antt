-- What the laws of the order, of the join and of the rules say.
use Rattle.std.specs.Prelude.{◌≡◌, ◌⊎◌, List, [], ◌∷◌, Option, Some, None, Result, Ok, Err, IsTrue}
use Rattle.zl_abs.specs.declared.value.AbsVal.{AbsVal}
use Rattle.zl_abs.specs.declared.cause.Cause.{Cause}
use Rattle.zl_abs.specs.Values.{below}
use Rattle.zl_abs.specs.States.{State, all_below}
use Rattle.zl_abs.specs.Rule.{Edge}

-- ---- the join

-- d is above what the join gives, which is something
abbrev pub IsAboveJoin : AbsVal → Option AbsVal → Type 0
IsAboveJoin d None = ⊥
IsAboveJoin d (Some c) = IsTrue (below c d)

-- what the join gives, if it gives something, is above a
abbrev pub JoinIsAbove : AbsVal → Option AbsVal → Type 0
JoinIsAbove a None = Unit {0}
JoinIsAbove a (Some c) = IsTrue (below a c)

-- the same of states
abbrev pub AllAboveJoin : State → Option State → Type 0
AllAboveJoin d None = ⊥
AllAboveJoin d (Some c) = IsTrue (all_below c d)

abbrev pub JoinIsAllAbove : State → Option State → Type 0
JoinIsAllAbove a None = Unit {0}
JoinIsAllAbove a (Some c) = IsTrue (all_below a c)

-- ---- the rules

-- the edge is one of these, with a state below that one's
abbrev pub IsAmong : List Edge → Edge → Type 0
IsAmong [] e = ⊥
IsAmong (f ∷ fs) e = ((e.0 ≡ f.0) × IsTrue (all_below e.1 f.1)) ⊎ IsAmong fs e

abbrev pub AreAmong : List Edge → List Edge → Type 0
AreAmong fs [] = Unit {0}
AreAmong fs (e ∷ es) = IsAmong fs e × AreAmong fs es

-- where the upper rule holds, the lower holds too, and each of its edges is one of the upper's with a state below
abbrev pub RuleBelow : Result (List Edge) Cause → Result (List Edge) Cause → Type 0
RuleBelow r (Err c) = Unit {0}
RuleBelow (Err c) (Ok fs) = ⊥
RuleBelow (Ok es) (Ok fs) = AreAmong fs es
