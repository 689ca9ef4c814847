use Rattle.zl_calls.proofs.Common.{All, All-cons, All-filter, All-nil, IsNoted, [], arith, common_steps, false, handle_operands, map, reg, slice_index, subst}
use Rattle.zl_calls.proofs.Common.{sym, taken_handles, used, ◌∙◌, ◌≡◌}
use Rattle.zl_code.specs.declared.history.CallName.TheVariants as name
use Rattle.zl_calls.proofs.calls.WriteCalls.{takes_listed}
use Rattle.zl_calls.proofs.tables.TakenBy.{notes_at, notes_none}
use Rattle.zl_calls.proofs.step.taken.Taken.note_call.Goals as goal

pub returns-in-Close : goal.returns-in-Close
unfolding taken_handles handle_operands
returns-in-Close c =
    let value : c.register.result ≡ reg c.args.process.now.cpu (slice_index c.args.call.now.registers 1) = grind (arith, common_steps) in
    notes_at c.args.call.now c.args.process.now.cpu name.Close c.args.process.now.table.entries c.note.new.self c.in-Close.is
    (All-cons (IsNoted c.args.process.now.table.entries c.note.new.self) _ [] (rw value at c.note.ensures.noted)
    (All-nil (IsNoted c.args.process.now.table.entries c.note.new.self)))

pub returns-in-Replace : goal.returns-in-Replace
unfolding taken_handles handle_operands
returns-in-Replace c =
    let value : c.register-in-Replace.result ≡ reg c.args.process.now.cpu (slice_index c.args.call.now.registers 1) = grind (arith, common_steps) in
    notes_at c.args.call.now c.args.process.now.cpu name.Replace c.args.process.now.table.entries c.note-in-Replace.new.self c.in-Replace.is
    (All-cons (IsNoted c.args.process.now.table.entries c.note-in-Replace.new.self) _ [] (rw value at c.note-in-Replace.ensures.noted)
    (All-nil (IsNoted c.args.process.now.table.entries c.note-in-Replace.new.self)))

pub returns-in-ProcessStart : goal.returns-in-ProcessStart
unfolding taken_handles handle_operands
returns-in-ProcessStart c =
    let value : c.register-in-ProcessStart.result ≡ reg c.args.process.now.cpu (slice_index c.args.call.now.registers 2) = grind (arith, common_steps) in
    notes_at c.args.call.now c.args.process.now.cpu name.ProcessStart c.args.process.now.table.entries c.note-in-ProcessStart.new.self c.in-ProcessStart.is
    (All-cons (IsNoted c.args.process.now.table.entries c.note-in-ProcessStart.new.self) _ [] (rw value at c.note-in-ProcessStart.ensures.noted)
    (All-nil (IsNoted c.args.process.now.table.entries c.note-in-ProcessStart.new.self)))

pub returns-in-ChanWrite : goal.returns-in-ChanWrite
returns-in-ChanWrite c =
    notes_at c.args.call.now c.args.process.now.cpu name.ChanWrite c.args.process.now.table.entries c.note_each.new.self c.in-ChanWrite.is
    (subst (All (IsNoted c.args.process.now.table.entries c.note_each.new.self))
    (rw c.handles.ensures at c.listed-count.ensures.values ∙ sym (takes_listed _ _ (map (reg c.args.process.now.cpu) (used c.args.call.now.last))))
    c.note_each.ensures)

pub returns-in-ChanWriteSlots : goal.returns-in-ChanWriteSlots
unfolding taken_handles handle_operands
returns-in-ChanWriteSlots c =
    notes_at c.args.call.now c.args.process.now.cpu name.ChanWriteSlots c.args.process.now.table.entries c.note_each-in-ChanWriteSlots.new.self
    c.in-ChanWriteSlots.is
    (subst (All (IsNoted c.args.process.now.table.entries c.note_each-in-ChanWriteSlots.new.self)) (c.sent_places.ensures ∙ sym (takes_listed 0 [] _))
    (All-filter _ (IsNoted c.args.process.now.table.entries c.note_each-in-ChanWriteSlots.new.self) _ c.note_each-in-ChanWriteSlots.ensures))

pub returns-in_default : goal.returns-in_default
returns-in_default c =
    notes_none c.args.call.now c.args.process.now.cpu c.args.process.now.table.entries (record c.args.self.now { handles = c.clear.new.self; all = false })
    c.in_default.not-Close c.in_default.not-Replace c.in_default.not-ChanWrite c.in_default.not-ChanWriteSlots
    c.in_default.not-ProcessStart
