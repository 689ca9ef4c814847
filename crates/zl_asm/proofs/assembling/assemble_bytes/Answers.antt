use Rattle.zl_asm.proofs.Common.{held_by}
use Rattle.zl_asm.proofs.ListingText.{found_by, none_by, only_by}
use Rattle.zl_asm.proofs.assembling.assemble_bytes.Goals as goal

pub returns-clause-found : goal.returns-clause-found
returns-clause-found c =
    found_by c.into_image.result c.args.text.now (held_by c.in_ok-read_lines.field-0) (c.in_ok-read_lines.ensures {u = tt}).read c.into_image.ensures.given
    c.into_image.ensures.in_range

pub returns-clause-none : goal.returns-clause-none
returns-clause-none c =
    none_by c.into_image.result c.args.text.now (held_by c.in_ok-read_lines.field-0) (c.in_ok-read_lines.ensures {u = tt}).read c.into_image.ensures.refused

pub returns-clause-only : goal.returns-clause-only
returns-clause-only c =
    let read = (c.in_ok-read_lines.ensures {u = tt}).read in
    only_by c.into_image.result c.args.text.now
    (found_by c.into_image.result c.args.text.now (held_by c.in_ok-read_lines.field-0) read c.into_image.ensures.given c.into_image.ensures.in_range)
    (none_by c.into_image.result c.args.text.now (held_by c.in_ok-read_lines.field-0) read c.into_image.ensures.refused)
