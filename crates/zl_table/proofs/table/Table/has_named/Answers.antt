use Rattle.std.proofs.Common.{rules}
use Rattle.std.specs.Prelude.{◌==◌, ◌&&◌}
use Rattle.std.proofs.lemmas.Iterator.Consumers.{YieldsList-from_first}
use Rattle.std.proofs.lemmas.Iterator.Search.{any_from_yields_List}
use Rattle.zl_rights.proofs.Common.{◌∙◌}
use Rattle.zl_rights.specs.declared.entry.Entry.{Entry}
use Rattle.zl_rights.specs.Numbers.{bits, within}
use Rattle.slab.specs.Slab.{entries_from}
use Rattle.zl_table.proofs.Named.{any_from}
use Rattle.zl_table.proofs.table.Table.has_named.Goals as goal

pub returns : goal.returns
returns c =
    rw (← c.self.view_is)
    (any_from_yields_List (λ e. (e.1.koid == c.args.koid) && within (bits c.args.rights) (bits e.1.rights)) _ _ _ c.any.ensures.ran
    (YieldsList-from_first _ _ (entries_from 0 c.self.inside.slots.slots) c.iter.ensures.rest) (λ x b q k. search rules)
    ∙ any_from (λ (e : Entry). (e.koid == c.args.koid) && within (bits c.args.rights) (bits e.rights)) 0 1 c.self.inside.slots.slots)
