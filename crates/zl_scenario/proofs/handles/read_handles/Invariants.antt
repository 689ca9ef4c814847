use Rattle.zl_scenario.proofs.Common.{◌≡◌, ◌++◌, drop, all_of, handle_of}
use Rattle.std.specs.Option.{option_map}
use Rattle.zl_asm.specs.Values.{texts}
use Rattle.zl_scenario.proofs.handles.read_handles.Given as goal

abbrev pub invariant-loop-word : goal.invariant-loop-word
invariant-loop-word l = all_of handle_of (texts l.words) ≡ option_map (λ more. l.handles ++ more) (all_of handle_of (texts (drop l.word-index l.words)))
