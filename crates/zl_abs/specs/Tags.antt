-- Tags on registers.
use Rattle.std.specs.Prelude.{Bool, true, false}
use Rattle.zl_abs.specs.declared.value.AbsVal.{AbsVal}
use Rattle.zl_abs.specs.declared.value.AbsVal.TheVariants.{KindOf, RightsOf}

-- the value is a tag, on whatever register
abbrev pub is_tag : AbsVal → Bool
is_tag (KindOf s) = true
is_tag (RightsOf s) = true
is_tag _ = false
