-- The process that a start names, as it is noted.
use Rattle.zl_calls.proofs.Common.{Bool, CallInstr, Cpu, Entry, IfSome, Map, NotesChild, Some, Taken, ap, call_row, child_of, false, get, has_its_memory}
use Rattle.zl_calls.proofs.Common.{koid_in, reg, site_at, site_in, site_named, site_of, slice_index, subst, sym, then_some, true, ◌∙◌, ◌≡◌}
use Rattle.zl_code.specs.declared.history.CallName.TheVariants as name

-- the child is that of the second register
pub child_noted : (i : CallInstr) (c : Cpu) (entries : Map Entry) (t : Taken) → t.started ≡ koid_in (get entries (reg c (slice_index i.registers 1)))
    → NotesChild i.name (site_of i c) entries t
child_noted i c entries t noted is =
    subst (λ o. IfSome o (λ s. child_of entries s.request ≡ Some t.started)) (sym (site_named i c ∙ ap (λ m. site_in m i c) is))
    (by (has_its_memory (call_row name.ProcessStart).ending i c))
  where
    by : (b : Bool) → IfSome (then_some b (site_at name.ProcessStart i c)) (λ s. child_of entries s.request ≡ Some t.started)
    by true = ap Some (sym noted)
    by false = tt
