use Rattle.std.specs.Prelude.{◌≡◌, ◌==◌, filter, length, map, not}
use Rattle.zl_lines.proofs.words.split_words.Given as goal

abbrev pub invariant-loop-word : goal.invariant-loop-word
invariant-loop-word l = map (λ w. w.now) l.words.items ≡ filter (λ w. not (length w == 0)) (map (λ w. w.now) l.yielded)
