-- What the rule of an instruction gives, by a name that crates above can use.
use Rattle.zl_abs.specs.Ways.{Ways}

-- the state on each of the two edges, where it is followed
abbrev pub Outcome : Type 0
Outcome = Ways
