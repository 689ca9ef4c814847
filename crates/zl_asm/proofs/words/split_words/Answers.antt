use Rattle.zl_asm.proofs.Common.{arith, get_or, length, map, map-append, words_of, ◌<◌, ◌≢◌}
use Rattle.std.proofs.lemmas.Result.{IfOk-equal}
use Rattle.zl_asm.proofs.WordsSplit.{after_semicolon, after_space, after_comma, after_letter, at_line_end}
use Rattle.zl_asm.proofs.words.split_words.Goals as goal
use Rattle.zl_asm.proofs.words.split_words.Goals.{in-32+in_ok-push_word-in-32, in-44+in_ok-push_word-in-44+in_ok-push-in-44, in_default}

pub returns-in-59 : goal.returns-in-59
returns-in-59 c =
    IfOk-equal c.push_word.result _ _ _ c.push_word.ensures
    (after_semicolon (map (λ w. w.now) c.loop-i.words.items) (words_of c.args.line.now) c.args.line.now c.loop-i.start c.loop-i.i
    (omega arith) c.in-59.is c.loop-i.invariant.so_far)

pub loop-i-preserved : goal.loop-i-preserved
loop-i-preserved c =
    let said = map (λ w. w.now) c.loop-i.words.items in
    let whole = words_of c.args.line.now in
    let within : c.loop-i.i < length c.args.line.now = omega arith in
    elim c.match-byte.branch [
      | in-32+in_ok-push_word-in-32 w ↦ record {
        starts = omega (arith, w.start-is);
        so_far =
            rw (w.words-is, w.start-is, w.in_ok-push_word-in-32.ensures)
            (after_space said whole c.args.line.now c.loop-i.start c.loop-i.i within w.in-32.is c.loop-i.invariant.so_far);
      }
      | in-44+in_ok-push_word-in-44+in_ok-push-in-44 w ↦ record {
        starts = omega (arith, w.start-is);
        so_far =
            rw (w.words-is, w.start-is, w.in_ok-push-in-44.ensures.items, map-append, w.in_ok-push_word-in-44.ensures)
            (after_comma said whole c.args.line.now c.loop-i.start c.loop-i.i within w.in-44.is c.loop-i.invariant.so_far);
      }
      | in_default w ↦ record {
        starts = omega (arith, w.start-is, c.loop-i.invariant.starts);
        so_far =
            let p : get_or c.args.line.now c.loop-i.i 0 ≢ 59 = omega arith in
            let q : get_or c.args.line.now c.loop-i.i 0 ≢ 32 = omega arith in
            let r : get_or c.args.line.now c.loop-i.i 0 ≢ 44 = omega arith in
            rw (w.words-is, w.start-is)
            (after_letter said whole c.args.line.now c.loop-i.start c.loop-i.i c.loop-i.invariant.starts within p q r c.loop-i.invariant.so_far);
      }
    ]

pub returns : goal.returns
returns c =
    IfOk-equal c.push_word-2.result _ _ _ c.push_word-2.ensures
    (at_line_end (map (λ w. w.now) c.loop-i.words.items) (words_of c.args.line.now) c.args.line.now c.loop-i.start c.loop-i.i
    (omega arith) c.loop-i.invariant.so_far)
