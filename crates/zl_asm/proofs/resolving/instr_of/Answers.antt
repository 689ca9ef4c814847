use Rattle.zl_asm.proofs.Common.{Some, ap, is_fine, kept_value, labels_shown, option_copied, resolved, sym, ◌∙◌, ◌≡◌}
use Rattle.std.proofs.lemmas.Bool.{not_from_true}
use Rattle.std.proofs.lemmas.Result.{IfOk-weaker, IfErr-weaker}
use Rattle.zl_asm.specs.declared.resolving.Kept.{Kept}
use Rattle.zl_asm.proofs.DraftGives.{resolved_by}
use Rattle.zl_asm.proofs.resolving.instr_of.Goals as goal

whole : (c : goal.After-decoded) → resolved (labels_shown c.args.labels.now.entries) (kept_value c.args.kept.now) ≡ Some c.with_target.result
whole c =
    ap (λ (k : Kept). resolved (labels_shown c.args.labels.now.entries) (kept_value k)) c.in-Open.is
    ∙ resolved_by c.args.labels.now.entries c.in-Open.bytes c.in-Open.label _ (sym c.get.ensures.value ∙ ap option_copied c.in-Some.is)
    ∙ ap Some (sym c.with_target.ensures)

pub returns-in-Some-clause-found : goal.returns-in-Some-clause-found
returns-in-Some-clause-found c = IfOk-weaker c.decoded.result _ _ (λ i same. whole c ∙ ap Some (sym same)) c.decoded.ensures.bytes

pub returns-in-Some-clause-refused : goal.returns-in-Some-clause-refused
returns-in-Some-clause-refused c =
    IfErr-weaker c.decoded.result _ _ (λ _ fault. ap (is_fine c.args.version c.args.raw) (whole c) ∙ not_from_true _ fault) c.decoded.ensures.refused

pub returns-in-None-clause-refused : goal.returns-in-None-clause-refused
returns-in-None-clause-refused c =
    ap (λ (k : Kept). is_fine c.args.version c.args.raw (resolved (labels_shown c.args.labels.now.entries) (kept_value k))) c.in-Open.is
    ∙ ap (is_fine c.args.version c.args.raw)
    (resolved_by c.args.labels.now.entries c.in-Open.bytes c.in-Open.label _ (sym c.get.ensures.value ∙ ap option_copied c.in-None.is))
