use Rattle.zl_trace.proofs.Common.{AreLinesOf, IsFirstWrong, List, [], ap, item_lines_from, length, lines_of, map, map-append, nat_eq, rules, subst, sym, ℕ}
use Rattle.zl_trace.proofs.Common.{◌++◌, ◌+◌, ◌∙◌, ◌∷◌, ◌≡◌}
use Rattle.std.proofs.lemmas.Iterator.Consumers.{YieldsList-so_far, YieldsList-turn, YieldsList-end, YieldsList-from_enumerate}
use Rattle.std.proofs.lemmas.Iterator.Splits.{YieldsList-from_slice_split}
use Rattle.zl_trace.proofs.Numbered.{all_yielded, next_by}
use Rattle.zl_trace.proofs.ReadOn.{ReadOn, all_read, ended, passed, taken, wrong}
use Rattle.zl_trace.proofs.reading.read_bytes.Goals as goal

pub returns-in-End-clause-ok : goal.returns-in-End-clause-ok
returns-in-End-clause-ok c =
    let chain = YieldsList-from_enumerate (YieldsList-from_slice_split _ (λ b. nat_eq b 10) c.args.text.now (cc) (cc) (cc) (λ x b q k. search rules)) (cc) in
    let front = YieldsList-so_far chain c.loop-index.yielded _ c.loop-index.yielded_by in
    let turn = YieldsList-turn chain c.loop-index.yielded _ c.loop-index.yielded_by _ _ (c.in-Some.index, c.in-Some.line) c.in-Some.is c.next.ensures.steps in
    let next = next_by (λ l. l.now) (lines_of c.args.text.now) c.loop-index.yielded c.in-Some.index c.in-Some.line.now front turn.0 turn.1 in
    let says = rw c.in-End.is at (c.in_ok-read_line.ensures {u = tt}) in
    subst (λ (lines : List (List ℕ)). AreLinesOf (item_lines_from 1 lines) c.loop-index.items.items) (sym next.cut)
    (ended (map (λ x. x.1.now) c.loop-index.yielded) c.loop-index.items.items c.loop-index.invariant c.in-Some.line.now next.rest says)

pub loop-index-preserved-in-Nothing : goal.loop-index-preserved-in-Nothing
loop-index-preserved-in-Nothing c =
    let says = rw c.in-Nothing.is at (c.in_ok-read_line.ensures {u = tt}) in
    subst (λ (lines : List (List ℕ)). ReadOn lines c.loop-index.items.items)
    (sym (map-append (λ x. x.1.now) c.loop-index.yielded ((c.in-Some.index, c.in-Some.line) ∷ [])))
    (passed (map (λ x. x.1.now) c.loop-index.yielded) c.loop-index.items.items c.loop-index.invariant c.in-Some.line.now says.0 says.1)

pub loop-index-preserved : goal.loop-index-preserved
loop-index-preserved c =
    let says = rw c.in-Item.is at (c.in_ok-read_line.ensures {u = tt}) in
    let items : c.push.new.self.items ≡ c.loop-index.items.items ++ (c.in-Item.item ∷ []) = search rules in
    rw items (subst (λ (lines : List (List ℕ)). ReadOn lines (c.loop-index.items.items ++ (c.in-Item.item ∷ [])))
    (sym (map-append (λ x. x.1.now) c.loop-index.yielded ((c.in-Some.index, c.in-Some.line) ∷ [])))
    (taken (map (λ x. x.1.now) c.loop-index.yielded) c.loop-index.items.items c.loop-index.invariant c.in-Some.line.now c.in-Item.item says.0 says.1 says.2))

pub returns-in-Wrong-clause-syntax : goal.returns-in-Wrong-clause-syntax
returns-in-Wrong-clause-syntax c line is =
    let named : c.in-Some.index + 1 ≡ line = cc in
    let chain = YieldsList-from_enumerate (YieldsList-from_slice_split _ (λ b. nat_eq b 10) c.args.text.now (cc) (cc) (cc) (λ x b q k. search rules)) (cc) in
    let front = YieldsList-so_far chain c.loop-index.yielded _ c.loop-index.yielded_by in
    let turn = YieldsList-turn chain c.loop-index.yielded _ c.loop-index.yielded_by _ _ (c.in-Some.index, c.in-Some.line) c.in-Some.is c.next.ensures.steps in
    let next = next_by (λ l. l.now) (lines_of c.args.text.now) c.loop-index.yielded c.in-Some.index c.in-Some.line.now front turn.0 turn.1 in
    let says = rw c.in-Wrong.is at (c.in_ok-read_line.ensures {u = tt}) in
    let at_line : length (map (λ x. x.1.now) c.loop-index.yielded) + 1 ≡ line = ap (λ (n : ℕ). n + 1) (sym next.number) ∙ named in
    subst (IsFirstWrong c.args.text.now) at_line
    (wrong c.args.text.now (map (λ x. x.1.now) c.loop-index.yielded) next.rest c.loop-index.items.items c.in-Some.line.now c.loop-index.invariant next.cut
    says.0 says.1 says.2)

pub returns-clause-ok : goal.returns-clause-ok
returns-clause-ok c =
    let chain = YieldsList-from_enumerate (YieldsList-from_slice_split _ (λ b. nat_eq b 10) c.args.text.now (cc) (cc) (cc) (λ x b q k. search rules)) (cc) in
    let whole = YieldsList-end chain c.loop-index.yielded _ c.loop-index.yielded_by _ _ c.in-None.is c.next.ensures.steps in
    subst (λ (lines : List (List ℕ)). AreLinesOf (item_lines_from 1 lines) c.loop-index.items.items)
    (all_yielded (λ l. l.now) (lines_of c.args.text.now) c.loop-index.yielded whole.0)
    (all_read (map (λ x. x.1.now) c.loop-index.yielded) c.loop-index.items.items c.loop-index.invariant)
