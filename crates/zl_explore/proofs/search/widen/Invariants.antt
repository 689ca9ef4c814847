use Rattle.zl_explore.specs.Nodes.{Grows}
use Rattle.zl_explore.specs.Quiet.{TurnsQuiet}
use Rattle.zl_explore.proofs.Edging.{EdgesGrow}
use Rattle.zl_explore.proofs.search.widen.Given as goal

abbrev pub invariant-loop-pid : goal.invariant-loop-pid
invariant-loop-pid g l =
    Grows g.M.Machine.ready g.M.Machine.next l.initial.nodes.items l.place l.fn.pids l.pid-index l.nodes.items
    × TurnsQuiet g.M.Machine.ready g.M.Machine.tells l.bad l.initial.nodes.items l.place l.fn.pids l.pid-index
    × EdgesGrow g.M.Machine.ready g.M.Machine.next l.initial.nodes.items l.place l.fn.pids l.initial.course.edges.items l.pid-index l.nodes.items
    l.course.edges.items
