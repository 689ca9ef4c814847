use Rattle.zl_trace.proofs.Common.{Gathers, flat_map, item_line, take}
use Rattle.zl_trace.proofs.writing.add_lines.Given as goal

abbrev pub invariant-loop-item : goal.invariant-loop-item
invariant-loop-item g l =
    Gathers (g.W.Write.contents l.initial.writer) (take l.initial.page.end l.initial.page.bytes) (g.W.Write.contents l.writer) (take l.page.end l.page.bytes)
    (flat_map item_line (take l.item-index l.items))
