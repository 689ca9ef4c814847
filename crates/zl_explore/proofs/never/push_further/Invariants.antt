use Rattle.std.proofs.Common.{string_bytes, take, ◌++◌, ◌≡◌}
use Rattle.std.specs.List.{flat_map}
use Rattle.zl_explore.specs.Facts.{further_words}
use Rattle.zl_explore.proofs.never.push_further.Given as goal

abbrev pub invariant-loop-fact : goal.invariant-loop-fact
invariant-loop-fact l = string_bytes l.text ≡ string_bytes l.initial.text ++ flat_map further_words (take l.fact-index l.more)
