use Rattle.zl_calls.proofs.Common.{IsCauseOf, List, Makes, Statement, ap, boot_fault, get_or, most_word, seen, subst, word_of, ◌∙◌, ◌≤◌}
use Rattle.zl_calls.proofs.boot.BootRun.{none_made, one_more, all_small, first_fault, limit_fault, none_reached, own_booted, some_reached}
use Rattle.zl_calls.proofs.processes.Started.{fresh_started}
use Rattle.zl_calls.proofs.boot.booted.Goals as goal

pub returns-in_default-clause-reached : goal.returns-in_default-clause-reached
returns-in_default-clause-reached c = rw c.fault_at.ensures (λ wants. none_reached c.args.library.now c.args.boot.now.statements.items)

pub returns-in-Err-clause-reached : goal.returns-in-Err-clause-reached
returns-in-Err-clause-reached c =
    let statements = c.deref-statement-items.ensures.value in
    rw c.fault_at-in-Err.ensures (λ wants. some_reached c.args.library.now c.args.boot.now.statements.items c.loop-number.number c.loop-number.made
    (rw statements at c.loop-number-test.true) c.loop-number.invariant)

pub loop-number-init : goal.loop-number-init
loop-number-init c = none_made c.args.library.now c.in-Ok.made (c.in-Ok.ensures {u = tt}).no_process (c.in-Ok.ensures {u = tt}).root

pub returns-in-Err-clause-err : goal.returns-in-Err-clause-err
returns-in-Err-clause-err c =
    let statements = c.deref-statement-items.ensures.value in
    rw c.fault_at-in-Err.ensures
    (first_fault c.args.library.now c.args.boot.now.statements.items c.args.boot.now.limit c.loop-number.number c.statement-item.result c.loop-number.made
    c.in-Err.cause
    (rw statements at c.loop-number-test.true) c.loop-number.invariant
    (subst (λ (s : Statement). IsCauseOf (boot_fault c.args.library.now (seen c.loop-number.made) s) c.in-Err.cause)
    (c.statement-item.is ∙ ap (λ (ss : List Statement). get_or ss c.loop-number.number c.statement-item.result) statements) (c.in-Err.ensures {u = tt}).err))

pub loop-number-preserved : goal.loop-number-preserved
loop-number-preserved c =
    let statements = c.deref-statement-items.ensures.value in
    one_more c.args.library.now c.args.boot.now.statements.items c.loop-number.number c.statement-item.result c.loop-number.made c.make.new.self
    (rw statements at c.loop-number-test.true) c.loop-number.invariant
    (subst (λ (s : Statement). Makes c.args.library.now s c.loop-number.made c.make.new.self)
    (c.statement-item.is ∙ ap (λ (ss : List Statement). get_or ss c.loop-number.number c.statement-item.result) statements)
    (c.in_default-make.ensures {u = tt}).ok)
    (subst (λ (s : Statement). word_of s ≤ most_word) (c.statement-item.is
    ∙ ap (λ (ss : List Statement). get_or ss c.loop-number.number c.statement-item.result) statements) (c.in_default-make.ensures {u = tt}).word)

pub returns-then-boot-gt-MOST_ITEMS-clause-err : goal.returns-then-boot-gt-MOST_ITEMS-clause-err
returns-then-boot-gt-MOST_ITEMS-clause-err c =
    let statements = c.deref-statement-items.ensures.value in
    rw (c.fault_at-then-boot-gt-MOST_ITEMS.ensures, c.len.ensures, c.args.boot.now.statements.ok.0)
    (λ other. limit_fault c.args.library.now c.args.boot.now.statements.items c.args.boot.now.limit c.loop-number.number c.loop-number.made
    (rw statements at c.loop-number-test.false) c.loop-number.invariant c.if-boot-gt-MOST_ITEMS.true)

pub returns-clause-words : goal.returns-clause-words
returns-clause-words c =
    let statements = c.deref-statement-items.ensures.value in
    all_small c.args.library.now c.args.boot.now.statements.items c.loop-number.number c.loop-number.made (rw statements at c.loop-number-test.false)
    c.loop-number.invariant

pub returns-clause-own : goal.returns-clause-own
returns-clause-own c =
    let statements = c.deref-statement-items.ensures.value in
    own_booted c.args.library.now c.args.boot.now.statements.items c.loop-number.number c.loop-number.made c.settle.new.self
    (rw statements at c.loop-number-test.false) c.loop-number.invariant c.settle.ensures.settles c.settle.ensures.same_processes

pub returns-clause-started : goal.returns-clause-started
returns-clause-started c = rw c.settle.ensures.same_processes (fresh_started c.loop-number.made.processes.items c.loop-number.invariant.fresh)
