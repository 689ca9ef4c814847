use Rattle.std.proofs.Common.{ap, rules, ◌∙◌}
use Rattle.std.specs.Prelude.{◌==◌, ℕ, List, length, filter, not, nat_eq}
use Rattle.std.proofs.lemmas.Iterator.Consumers.{YieldsList-end}
use Rattle.std.proofs.lemmas.Iterator.Splits.{YieldsList-from_slice_split}
use Rattle.zl_lines.proofs.words.split_words.Goals as goal

pub returns : goal.returns
returns c =
    let whole = YieldsList-end (YieldsList-from_slice_split _ (λ b. nat_eq b 32) c.args.line.now (cc) (cc) (cc) (λ x b q k. search rules)) c.loop-word.yielded _
    c.loop-word.yielded_by _ _ c.in-None.is c.next.ensures.steps in
    c.loop-word.invariant ∙ ap (λ (x : List (List ℕ)). filter (λ w. not (length w == 0)) x) whole.0
