use Rattle.zl_objects.proofs.Common.{arith, length-append, rules, ◌∙◌}
use Rattle.zl_objects.proofs.Parts.{taken_behind}
use Rattle.zl_objects.proofs.gapped.take_out.Goals as goal

pub returns-else-place-first-clause-taken : goal.returns-else-place-first-clause-taken
returns-else-place-first-clause-taken c =
    taken_behind c.args.before.now.items c.args.after.now.items c.remove-else-place-first.new.self.items c.len-first.result c.args.place
    c.remove-else-place-first.result (c.len-first.ensures ∙ c.args.before.now.ok.0) (search rules) (c.remove-else-place-first.ensures.variant.1 (omega (
      arith,
      c.requires.inside,
      length-append c.args.before.now.items c.args.after.now.items,
      c.len-first.ensures,
      c.args.before.now.ok.0,
      c.args.after.now.ok.0,
      c.if-place-first.false,
    )))
    c.remove-else-place-first.ensures.value c.remove-else-place-first.ensures.items
