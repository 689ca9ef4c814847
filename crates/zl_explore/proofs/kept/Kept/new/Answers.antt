use Rattle.zl_code.proofs.Common.{ap, refl, subst, sym, ◌∙◌}
use Rattle.zl_calls.specs.World.{Machine}
use Rattle.zl_explore.specs.GoingAhead.{start_of}
use Rattle.zl_explore.specs.Parts.{parted}
use Rattle.zl_explore.specs.Private.{RestsStill}
use Rattle.zl_explore.specs.declared.met.Node.{Node}
use Rattle.zl_explore.specs.declared.part.Parted.{Parted}
use Rattle.zl_explore.proofs.Keeping.{whole_one}
use Rattle.zl_explore.proofs.Private.{rests_start}
use Rattle.zl_explore.proofs.kept.Kept.new.Goals as goal

pub returns-clause-whole : goal.returns-clause-whole
returns-clause-whole c =
    let first : Node (Parted Machine) = record { at = c.new-start.result; from = 0; by = 0 } in
    whole_one _ first (subst RestsStill (sym c.new-root.ensures) (rests_start c.args.world c.requires))
    (c.in_ok-nodes.ensures {u = tt})
    (c.new-start.ensures ∙ ap (parted c.args.part) (c.in_ok-begin.ensures.next ∙ ap start_of c.in_ok-copy.ensures)) refl c.new-3.ensures.items
