use Rattle.zl_scenario.proofs.Common.{◌∙◌, ap, arith, spelling, Program, with_program}
use Rattle.zl_interp.specs.Program.{program_value}
use Rattle.zl_scenario.proofs.Programs.{ranges_by, said_more, passed}
use Rattle.zl_scenario.proofs.block.read_program.Goals as goal

pub push_program-requires-clause-in_range : goal.push_program-requires-clause-in_range
push_program-requires-clause-in_range c =
    ranges_by (program_value c.in_ok-program.program) c.args.checked c.in_ok-image.image c.in_ok-program.ensures.0 c.in_ok-image.ensures.in_range

pub returns-clause-answer : goal.returns-clause-answer
returns-clause-answer c =
    let gives = c.in_ok-image.ensures.answer in
    let verified = c.in_ok-program.ensures in
    let added = c.in_ok-push_program.ensures ∙ ap (λ (p : Program). with_program c.args.draft.now p.checked (spelling p.image)) verified.0 in (
      said_more c.args.checked c.in_ok-image.image _ gives c.args.draft.now c.push_program.new.self
          (omega (arith, c.programs.ensures, c.if-programs-ge-MOST_PROGRAMS.false)) added,
      passed c.args.checked c.in_ok-image.image _ gives c.in_ok-image.ensures.in_range verified.1,
    )
