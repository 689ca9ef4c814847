use Rattle.zl_command.proofs.Common.{ap, codes, found_of, map, refl, subst, sym, ◌∙◌, ◌≡◌}
use Rattle.std.proofs.Common.{◌<◌}
use Rattle.std.specs.Prelude.{length}
use Rattle.std.proofs.lemmas.List.{length-map}
use Rattle.clap.proofs.WalkLemmas.{raw_values-rows}
use Rattle.zl_command.proofs.CommandLine.{words_found}
use Rattle.zl_command.proofs.command.bad.Goals as goal

pub returns-then-found-gt-MOST_BAD-clause-usage : goal.returns-then-found-gt-MOST_BAD-clause-usage
returns-then-found-gt-MOST_BAD-clause-usage c usage =
    let same = words_found c.get_strs.result _ _ refl (c.get_strs.ensures ∙ raw_values-rows (found_of c.args.matches.now) (codes "bad")) in
    let words_are = ap (λ s. map (λ w. w.now) s.now) c.unwrap_or-found.ensures ∙ same in
    let long : 16 < length c.unwrap_or-found.result.now = c.if-found-gt-MOST_BAD.true in
    subst (λ n. 16 < n) (sym (length-map c.unwrap_or-found.result.now (λ w. w.now)) ∙ ap length words_are) long

pub returns-clause-value : goal.returns-clause-value
returns-clause-value c =
    let same = words_found c.get_strs.result _ _ refl (c.get_strs.ensures ∙ raw_values-rows (found_of c.args.matches.now) (codes "bad")) in
    let copied : c.in_ok-to_vec.field-0.items ≡ c.unwrap_or-found.result.now = c.in_ok-to_vec.ensures.items_if_clones_equal (λ x y e. e) in
    ap (map (λ w. w.now)) (copied ∙ ap (λ s. s.now) c.unwrap_or-found.ensures) ∙ same
