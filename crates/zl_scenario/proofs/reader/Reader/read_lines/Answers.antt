use Rattle.zl_scenario.proofs.Common.{ℕ, ◌+◌, length, eqb, rules, ap, lines_of, line_faulty, program_refused}
use Rattle.std.proofs.lemmas.Iterator.Consumers.{YieldsList-so_far, YieldsList-turn, YieldsList-end, YieldsList-from_enumerate}
use Rattle.std.proofs.lemmas.Iterator.Splits.{YieldsList-from_slice_split}
use Rattle.zl_asm.proofs.Numbered.{lines_so_far, lines_all}
use Rattle.zl_scenario.proofs.ReadingOn.{turn_by, one_more, at_fault, at_last}
use Rattle.zl_scenario.proofs.reader.Reader.read_lines.Goals as goal

pub returns-in-Err-Refused : goal.returns-in-Err-Refused
returns-in-Err-Refused c =
    let chain = YieldsList-from_enumerate (YieldsList-from_slice_split _ (λ b. eqb b 10) c.args.text.now (cc) (cc) (cc) (λ x b q k. search rules)) (cc) in
    let front = YieldsList-so_far chain c.loop-index.yielded _ c.loop-index.yielded_by in
    let turn = YieldsList-turn chain c.loop-index.yielded _ c.loop-index.yielded_by _ _ (c.in-Some.index, c.in-Some.line) c.in-Some.is c.next.ensures.steps in
    let at = turn_by (lines_of c.args.text.now) (length c.loop-index.yielded) c.in-Some.index c.in-Some.line.now turn.0 turn.1 in
    let told = rw c.in-Err-Refused.field-0-is at (c.in-Err-Refused.ensures {u = tt}).answer in
    let kept = rw c.in-Err-Refused.field-0-is at (c.in-Err-Refused.ensures {u = tt}).unchanged in
    let reads = at_fault _ (lines_of c.args.text.now) c.args.self.now c.loop-index.self (length c.loop-index.yielded) c.in-Some.index c.in-Some.line.now _
    c.loop-index.invariant
    (lines_so_far (λ l. l.now) (lines_of c.args.text.now) c.loop-index.yielded front) at
    (λ rest. line_faulty (c.in-Some.index + 1) c.loop-index.self c.in-Some.line.now rest c.in-Err-Refused.fault told.0 told.1) in
    rw (kept, c.in_line.ensures, c.told_line-told.ensures, c.in-Err-Refused.fault-is) reads

pub returns-in-Err-Unaccepted : goal.returns-in-Err-Unaccepted
returns-in-Err-Unaccepted c =
    let chain = YieldsList-from_enumerate (YieldsList-from_slice_split _ (λ b. eqb b 10) c.args.text.now (cc) (cc) (cc) (λ x b q k. search rules)) (cc) in
    let front = YieldsList-so_far chain c.loop-index.yielded _ c.loop-index.yielded_by in
    let turn = YieldsList-turn chain c.loop-index.yielded _ c.loop-index.yielded_by _ _ (c.in-Some.index, c.in-Some.line) c.in-Some.is c.next.ensures.steps in
    let at = turn_by (lines_of c.args.text.now) (length c.loop-index.yielded) c.in-Some.index c.in-Some.line.now turn.0 turn.1 in
    let told = rw c.in-Err-Unaccepted.field-0-is at (c.in-Err-Unaccepted.ensures {u = tt}).answer in
    let kept = rw c.in-Err-Unaccepted.field-0-is at (c.in-Err-Unaccepted.ensures {u = tt}).unchanged in
    let reads = at_fault _ (lines_of c.args.text.now) c.args.self.now c.loop-index.self (length c.loop-index.yielded) c.in-Some.index c.in-Some.line.now _
    c.loop-index.invariant
    (lines_so_far (λ l. l.now) (lines_of c.args.text.now) c.loop-index.yielded front) at
    (λ rest. program_refused (c.in-Some.index + 1) c.loop-index.self c.in-Some.line.now rest told) in
    rw (kept, c.in_line-in-Err-Unaccepted.ensures, c.new.ensures, c.told_line-told.ensures) reads

pub loop-index-preserved : goal.loop-index-preserved
loop-index-preserved c =
    let chain = YieldsList-from_enumerate (YieldsList-from_slice_split _ (λ b. eqb b 10) c.args.text.now (cc) (cc) (cc) (λ x b q k. search rules)) (cc) in
    let turn = YieldsList-turn chain c.loop-index.yielded _ c.loop-index.yielded_by _ _ (c.in-Some.index, c.in-Some.line) c.in-Some.is c.next.ensures.steps in
    let at = turn_by (lines_of c.args.text.now) (length c.loop-index.yielded) c.in-Some.index c.in-Some.line.now turn.0 turn.1 in
    let told = (c.in-Ok.ensures {u = tt}).answer in
    one_more (λ l. l.now) c.args.self.now c.loop-index.self c.read_line.new.self c.loop-index.yielded (c.in-Some.index, c.in-Some.line)
    (c.in-Some.index + 1) c.loop-index.invariant (ap (λ (n : ℕ). n + 1) at.number) told.0 told.1

pub returns : goal.returns
returns c =
    let chain = YieldsList-from_enumerate (YieldsList-from_slice_split _ (λ b. eqb b 10) c.args.text.now (cc) (cc) (cc) (λ x b q k. search rules)) (cc) in
    let whole = YieldsList-end chain c.loop-index.yielded _ c.loop-index.yielded_by _ _ c.in-None.is c.next.ensures.steps in
    rw c.fault_at_end.ensures (at_last _ (lines_of c.args.text.now) c.args.self.now c.loop-index.self (length c.loop-index.yielded) c.loop-index.invariant
    (lines_all (λ l. l.now) (lines_of c.args.text.now) c.loop-index.yielded whole.0))
