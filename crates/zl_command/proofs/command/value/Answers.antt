use Rattle.zl_command.proofs.Common.{ap, found_of, is_some, option_map, sym, ◌∙◌}
use Rattle.clap.proofs.WalkLemmas.{first_value-rows}
use Rattle.zl_command.proofs.CommandLine.{mapped_some}
use Rattle.zl_command.proofs.command.value.Goals as goal

pub unwrap-requires : goal.unwrap-requires
unwrap-requires c =
    mapped_some _ c.get_str.result ∙ (ap is_some (c.get_str.ensures ∙ first_value-rows (found_of c.args.matches.now) c.args.name.now) ∙ c.requires)

pub returns : goal.returns
returns c = sym (first_value-rows (found_of c.args.matches.now) c.args.name.now) ∙ (sym c.get_str.ensures ∙ ap (option_map (λ s. s.now)) c.unwrap.ensures)
