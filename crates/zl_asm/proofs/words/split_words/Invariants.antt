use Rattle.zl_asm.proofs.Common.{drop, map, take, words_from, words_of, ◌++◌, ◌-◌, ◌≡◌, ◌≤◌}
use Rattle.zl_asm.proofs.words.split_words.Given as goal

abbrev pub invariant-loop-i : goal.invariant-loop-i
invariant-loop-i l = record {
  starts : l.start ≤ l.i;
  so_far : map (λ w. w.now) l.words.items ++ words_from (take (l.i - l.start) (drop l.start l.line)) (drop l.i l.line) ≡ words_of l.line;
}
