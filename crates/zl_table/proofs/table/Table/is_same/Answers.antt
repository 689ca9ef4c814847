use Rattle.std.proofs.Common.{rules}
use Rattle.zl_rights.proofs.Common.{◌≡◌, ap, false≢true, sym, ◌∙◌}
use Rattle.zl_table.proofs.Compared.{same_reversed}
use Rattle.zl_table.proofs.table.Table.is_same.Goals as goal

pub returns-then-ne-2 : goal.returns-then-ne-2
returns-then-ne-2 c = (
  λ no. absurd (false≢true no),
  λ same.
      let freed : c.self.inside.freed.items ≡ c.other.inside.freed.items =
      same_reversed _ _ (ap (λ t. t.free.freed) (c.self.view_is ∙ same ∙ sym c.other.view_is)) in
      search rules,
)
