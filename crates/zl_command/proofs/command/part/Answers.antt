use Rattle.zl_command.proofs.Common.{codes, found_of, ◌∙◌}
use Rattle.clap.proofs.WalkLemmas.{first_value-rows}
use Rattle.zl_command.proofs.command.part.Goals as goal

pub returns : goal.returns
returns c = c.get_str.ensures ∙ first_value-rows (found_of c.args.matches.now) (codes "part")
