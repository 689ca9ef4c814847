use Rattle.zl_code.proofs.Common.{None, ap, arith, option_map, row_named, row_value, sym, ◌≡◌}
use Rattle.zl_code.proofs.InstrTable.{laid_out, row_by_name, not_here, no_row, other_name, no_name}
use Rattle.zl_code.proofs.layout.Row.named.Goals as goal

pub loop-opcode-preserved-in_default : goal.loop-opcode-preserved-in_default
loop-opcode-preserved-in_default c =
    not_here c.args.name.now c.loop-opcode.opcode c.loop-opcode.invariant (λ r. no_row _ r c.args.name.now (c.in_default.ensures {u = tt}).row)

pub loop-opcode-preserved : goal.loop-opcode-preserved
loop-opcode-preserved c =
    not_here c.args.name.now c.loop-opcode.opcode c.loop-opcode.invariant
    (λ r. other_name (row_value c.in-Some.row) _ _ r (c.in-Some.ensures {u = tt}).row (rw (← c.as_bytes.ensures.value) (c.if-eq.ensures {u = tt})))

pub returns-then-eq-clause-row : goal.returns-then-eq-clause-row
returns-then-eq-clause-row c =
    row_by_name (row_value c.in-Some.row) _ _ (c.in-Some.ensures {u = tt}).row (rw (← c.as_bytes.ensures.value) (c.if-eq.ensures {u = tt}))

pub returns-then-eq-clause-layout : goal.returns-then-eq-clause-layout
returns-then-eq-clause-layout c = laid_out c.in-Some.row _ (returns-then-eq-clause-row c)

missing : (c : goal.After-loop-opcode) → row_named c.args.name.now ≡ None
missing c = no_name c.args.name.now (λ r e. omega (arith, c.loop-opcode-test.false, c.loop-opcode.invariant r e))

pub returns-clause-row : goal.returns-clause-row
returns-clause-row c = sym (missing c)

pub returns-clause-layout : goal.returns-clause-layout
returns-clause-layout c = ap (option_map _) (sym (missing c))
