use Rattle.zl_asm.proofs.Common.{List, [], eqb, held_by, inl, inr, length, lines_of, map-append, rules, subst, sym, ℕ, ◌∙◌, ◌∷◌}
use Rattle.std.proofs.lemmas.Iterator.Consumers.{YieldsList-so_far, YieldsList-turn, YieldsList-end, YieldsList-from_enumerate}
use Rattle.std.proofs.lemmas.Iterator.Splits.{YieldsList-from_slice_split}
use Rattle.zl_asm.proofs.Numbered.{lines_so_far, lines_all}
use Rattle.zl_asm.proofs.ListingText.{SoFar, so_far-none, so_far-more, so_far-all, stops_at, cut_at}
use Rattle.zl_asm.proofs.assembling.read_lines.Goals as goal

pub loop-index-init : goal.loop-index-init
loop-index-init c = so_far-none (held_by c.new-draft.result) c.new-draft.ensures.nothing_said

pub returns-in-Err-clause-refused : goal.returns-in-Err-clause-refused
returns-in-Err-clause-refused c =
    let chain = YieldsList-from_enumerate (YieldsList-from_slice_split _ (λ b. eqb b 10) c.args.text.now (cc) (cc) (cc) (λ x b q k. search rules)) (cc) in
    let front = YieldsList-so_far chain c.loop-index.yielded _ c.loop-index.yielded_by in
    let turn = YieldsList-turn chain c.loop-index.yielded _ c.loop-index.yielded_by _ _ (c.in-Some.index, c.in-Some.line) c.in-Some.is c.next.ensures.steps in
    let cut = cut_at (lines_of c.args.text.now) (length c.loop-index.yielded) c.in-Some.index c.in-Some.line.now turn.0 turn.1 in
    let before = subst (λ (ls : List (List ℕ)). SoFar ls (held_by c.loop-index.draft))
    (lines_so_far (λ l. l.now) (lines_of c.args.text.now) c.loop-index.yielded front) c.loop-index.invariant in
    elim ((c.in-Err.ensures {u = tt}).refused) [
      | inl starved ↦ inl (c.in_line.ensures ∙ starved)
      | inr stops ↦ inr (stops_at c.args.text.now _ _ c.in-Some.line.now (held_by c.loop-index.draft) cut before stops)
    ]

pub loop-index-preserved : goal.loop-index-preserved
loop-index-preserved c =
    subst (λ (ls : List (List ℕ)). SoFar ls (held_by c.read_line.new.self))
    (sym (map-append (λ x. x.1.now) c.loop-index.yielded ((c.in-Some.index, c.in-Some.line) ∷ [])))
    (so_far-more _ c.in-Some.line.now (held_by c.loop-index.draft) (held_by c.read_line.new.self) c.loop-index.invariant (c.in_default.ensures {u = tt}).read)

pub returns-clause-read : goal.returns-clause-read
returns-clause-read c =
    let chain = YieldsList-from_enumerate (YieldsList-from_slice_split _ (λ b. eqb b 10) c.args.text.now (cc) (cc) (cc) (λ x b q k. search rules)) (cc) in
    let whole = YieldsList-end chain c.loop-index.yielded _ c.loop-index.yielded_by _ _ c.in-None.is c.next.ensures.steps in
    so_far-all c.args.text.now (held_by c.loop-index.draft)
    (subst (λ (ls : List (List ℕ)). SoFar ls (held_by c.loop-index.draft)) (lines_all (λ l. l.now) (lines_of c.args.text.now) c.loop-index.yielded whole.0)
    c.loop-index.invariant)
