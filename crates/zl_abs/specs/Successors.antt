-- The edges that the code hands out, as a list.
use Rattle.std.specs.Prelude.{List, [], ◌∷◌, ◌++◌, Option, Some, None, Result, Ok, Err}
use Rattle.zl_abs.specs.declared.cause.Cause.{Cause}
use Rattle.zl_abs.specs.declared.rules.Edge.{Edge as OneEdge}
use Rattle.zl_abs.specs.declared.rules.Successors.{Successors}
use Rattle.zl_abs.specs.Rule.{Edge}

-- the edge, if it is followed
abbrev pub edge_in : Option OneEdge → List Edge
edge_in None = []
edge_in (Some e) = (e.target, e.state) ∷ []

abbrev pub edge_told : Result (Option OneEdge) Cause → Result (List Edge) Cause
edge_told (Ok e) = Ok (edge_in e)
edge_told (Err c) = Err c

-- the edges that are followed, the jump first, or the cause
abbrev pub edges_told : Result Successors Cause → Result (List Edge) Cause
edges_told (Ok s) = Ok (edge_in s.jump ++ edge_in s.next)
edges_told (Err c) = Err c
