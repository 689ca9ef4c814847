use Rattle.zl_asm.proofs.Common.{Some, ap, held_by, line_value, map, ◌∙◌}
use Rattle.zl_asm.specs.declared.line.Line.{Line}
use Rattle.zl_asm.proofs.DraftHolds.{blank_held}
use Rattle.zl_asm.proofs.DraftLines.{said_by, read_by, said_in_range}
use Rattle.zl_asm.proofs.draft.Draft.read_line.Goals as goal

pub declare-requires : goal.declare-requires
declare-requires c =
    let said = rw c.version.ensures at (c.in_ok-line_of.ensures {u = tt}).ok ∙ ap (λ (l : Line). Some (line_value l)) c.in-Declares.is in
    record { in_range = said_in_range _ _ c.in-Declares.directive said }

pub returns-in-Blank-clause-read : goal.returns-in-Blank-clause-read
returns-in-Blank-clause-read c =
    let cut = ap (map (λ word. word.now)) c.deref.ensures.value ∙ c.in_ok-split_words.ensures {u = tt} in
    let said = rw c.version.ensures at (c.in_ok-line_of.ensures {u = tt}).ok ∙ ap (λ (l : Line). Some (line_value l)) c.in-Blank.is in
    (_, said_by _ c.args.line.now _ _ (cc) cut said, blank_held (held_by c.args.self.now))

pub returns-in_ok-declare-in-Declares-clause-read : goal.returns-in_ok-declare-in-Declares-clause-read
returns-in_ok-declare-in-Declares-clause-read c =
    let cut = ap (map (λ word. word.now)) c.deref.ensures.value ∙ c.in_ok-split_words.ensures {u = tt} in
    let said = rw c.version.ensures at (c.in_ok-line_of.ensures {u = tt}).ok ∙ ap (λ (l : Line). Some (line_value l)) c.in-Declares.is in
    (_, said_by _ c.args.line.now _ _ (cc) cut said, (c.in_ok-declare-in-Declares.ensures {u = tt}).held)

pub returns-in-Label-clause-read : goal.returns-in-Label-clause-read
returns-in-Label-clause-read c =
    let cut = ap (map (λ word. word.now)) c.deref.ensures.value ∙ c.in_ok-split_words.ensures {u = tt} in
    let said = rw c.version.ensures at (c.in_ok-line_of.ensures {u = tt}).ok ∙ ap (λ (l : Line). Some (line_value l)) c.in-Label.is in
    read_by c.push_label.result (held_by c.args.self.now) (held_by c.push_label.new.self) c.args.line.now _ _ (cc) cut said c.push_label.ensures.held

pub returns-in_ok-push_source-in-Code-clause-read : goal.returns-in_ok-push_source-in-Code-clause-read
returns-in_ok-push_source-in-Code-clause-read c =
    let cut = ap (map (λ word. word.now)) c.deref.ensures.value ∙ c.in_ok-split_words.ensures {u = tt} in
    let said = rw c.version.ensures at (c.in_ok-line_of.ensures {u = tt}).ok ∙ ap (λ (l : Line). Some (line_value l)) c.in-Code.is in
    (_, said_by _ c.args.line.now _ _ (cc) cut said, (c.in_ok-push_source-in-Code.ensures {u = tt}).held)
