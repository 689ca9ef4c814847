use Rattle.zl_asm.proofs.Common.{SourceLine, ap, arith, held_by, inr, is_some, kept_value, length-map, refl, sym, ◌∙◌}
use Rattle.zl_asm.proofs.Labels.{lookup_is}
use Rattle.zl_asm.proofs.DraftAdds.{label_added, none_by}
use Rattle.zl_asm.proofs.DraftRefuses.{label_refused}
use Rattle.indexmap.proofs.CallerLemmas.{insert_entry-new}
use Rattle.zl_asm.proofs.draft.Draft.push_label.Goals as goal

pub returns-then-contains_key-clause-refused : goal.returns-then-contains_key-clause-refused
returns-then-contains_key-clause-refused c =
    inr (label_refused (held_by c.args.self.now) c.args.name.now
    (ap is_some (sym (lookup_is c.args.self.now.labels.entries c.args.name.now)) ∙ sym c.if-contains_key.ensures))

pub returns-clause-held : goal.returns-clause-held
returns-clause-held c =
    let absent = none_by _ c.if-contains_key.ensures in
    let free = sym (lookup_is c.args.self.now.labels.entries c.args.name.now) ∙ absent in
    let entries = (c.in_ok-insert.ensures {u = tt}).entries ∙ insert_entry-new _ c.args.self.now.labels c.args.name c.len.result absent in
    label_added (held_by c.args.self.now) _ c.insert.new.self.entries c.args.name c.len.result entries refl
    (omega (arith, length-map c.args.self.now.sources.items (λ (s : SourceLine). kept_value s.kept))) free
