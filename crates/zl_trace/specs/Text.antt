-- The text of a trace: a line for each item, for each process, and for the end.
use Rattle.std.specs.Prelude.{ℕ, List, ◌++◌, map, codes}
use Rattle.std.specs.List.{flat_map}
use Rattle.zl_code.specs.Common.{World, call_name}
use Rattle.std.specs.Fmt.{decimal, signed_decimal}
use Rattle.zl_rights.specs.Names.{status_name}
use Rattle.zl_code.specs.declared.history.CallName.{CallName}
use Rattle.zl_code.specs.declared.history.Outcome.{Outcome}
use Rattle.zl_code.specs.declared.history.Outcome.TheVariants as outcome
use Rattle.zl_code.specs.declared.history.TraceItem.{TraceItem}
use Rattle.zl_code.specs.declared.history.TraceItem.TheVariants as item
use Rattle.zl_code.specs.declared.history.ProcState.{ProcState}
use Rattle.zl_code.specs.declared.history.ProcState.TheVariants as state
use Rattle.zl_calls.specs.World.{seen_in}
use Rattle.zl_sched.specs.System.{System}
use Rattle.zl_sched.specs.declared.system.End.{End}
use Rattle.zl_sched.specs.declared.system.End.TheVariants as end

-- the line of a call: the process, the call, and how it ends
abbrev pub call_line : ℕ → CallName → Outcome → List ℕ
call_line pid c (outcome.Answered status) = decimal pid ++ (codes " " ++ (call_name c ++ (codes " " ++ (status_name status ++ codes "\n"))))
call_line pid c outcome.Blocked = decimal pid ++ (codes " " ++ (call_name c ++ codes " blocked\n"))
call_line pid c (outcome.Ended code) = decimal pid ++ (codes " " ++ (call_name c ++ (codes " ended " ++ (signed_decimal code ++ codes "\n"))))

-- the line of an item
abbrev pub item_line : TraceItem → List ℕ
item_line (item.Run pid count) = decimal pid ++ (codes " run " ++ (decimal count ++ codes "\n"))
item_line (item.Call pid c o) = call_line pid c o
item_line (item.Stuck pid) = decimal pid ++ codes " stuck\n"

-- the line that says what a process is in
abbrev pub state_line : ℕ → ProcState → List ℕ
state_line pid state.Created = codes "process " ++ (decimal pid ++ codes " created\n")
state_line pid state.Ready = codes "process " ++ (decimal pid ++ codes " ready\n")
state_line pid state.Blocked = codes "process " ++ (decimal pid ++ codes " blocked\n")
state_line pid (state.Ended code) = codes "process " ++ (decimal pid ++ (codes " ended " ++ (signed_decimal code ++ codes "\n")))
state_line pid state.Gone = codes "process " ++ (decimal pid ++ codes " gone\n")

-- the last line
abbrev pub end_line : End → List ℕ
end_line end.Schedule = codes "end schedule\n"
end_line end.Limit = codes "end limit\n"
end_line end.Memory = codes "end memory\n"
end_line end.Quiet = codes "end quiet\n"

-- the items in their order, then the processes with what each is in, then the end
unfoldable pub history_text : List TraceItem → List (ℕ × ProcState) → End → List ℕ
history_text items processes e = flat_map item_line items ++ (flat_map (λ p. state_line p.0 p.1) processes ++ end_line e)

-- every process ever made, by koid, with what it is in
abbrev pub states_of : World → List (ℕ × ProcState)
states_of w = map (λ p. (p.0, seen_in p.1.state)) w.processes

-- the text of a system's trace, where its run ended so
abbrev pub trace_text : System → End → List ℕ
trace_text s e = history_text s.items (states_of s.machine.world) e
