use Rattle.zl_rights.proofs.Common.{refl, ◌≡◌, Some, is_some, sym, ap, ◌∙◌}
use Rattle.slab.specs.Slab.{get as slot_at}
use Rattle.slab.proofs.SlabLemmas.{Updates-with_value}
use Rattle.zl_rights.proofs.MapEdits.{update_missing}
use Rattle.zl_table.proofs.Stored.{at_key, rewrites, rewritten}
use Rattle.zl_table.proofs.table.Table.rewrite.Goals as goal

pub returns-in_default-clause-live : goal.returns-in_default-clause-live
returns-in_default-clause-live c =
    rw (← c.self.view_is) (sym (ap is_some (at_key c.self.inside.slots _ _ _ _ c.self.invariant _ _ c.key_of.ensures.above c.key_of.ensures.zero ∙ sym
    (c.in_default.ensures {u = tt}).value)))

pub returns-in_default-clause-entries : goal.returns-in_default-clause-entries
returns-in_default-clause-entries c =
    rw (← c.self.view_is) (sym (update_missing _ _ _ (at_key c.self.inside.slots _ _ _ _ c.self.invariant _ _ c.key_of.ensures.above c.key_of.ensures.zero
    ∙ sym (c.in_default.ensures {u = tt}).value)))

pub returns-clause-live : goal.returns-clause-live
returns-clause-live c =
    rw (← c.self.view_is) (sym (ap is_some (at_key c.self.inside.slots _ _ _ _ c.self.invariant _ _ c.key_of.ensures.above c.key_of.ensures.zero ∙ sym
    (c.in-Some.ensures {u = tt}).value)))

pub returns-clause-entries : goal.returns-clause-entries
returns-clause-entries c =
    let there : slot_at c.self.inside.slots c.key_of.result ≡ Some c.in-Some.entry.now = sym (c.in-Some.ensures {u = tt}).value in
    rw (← c.self.view_is) (rewrites c.self.inside.slots _ _ _ _ c.self.invariant _ _ _ c.in-Some.entry.now _ c.key_of.ensures.above c.key_of.ensures.zero
    there (Updates-with_value _ _ _ (rw there refl)))

pub invariant_of-self-2 : goal.invariant_of-self-2
invariant_of-self-2 c =
    let there : slot_at c.self.inside.slots c.key_of.result ≡ Some c.in-Some.entry.now = sym (c.in-Some.ensures {u = tt}).value in
    rewritten _ _ _ _ _ c.self.invariant _ _ _ c.in-Some.entry.now
    (λ entry. record entry { rights = c.args.rights }) c.key_of.ensures.above c.key_of.ensures.zero there
    (Updates-with_value _ _ _ (rw there refl))
