-- A step that ends its process: no wait of it is left, and all else that was there is left still.
use Rattle.zl_calls.proofs.Common.{Action, ActsHere, Exits, IsTrue, List, Objects, Outcome, Process, Site, [], action_asked, and_parts, answers, ap, eq-eqb}
use Rattle.zl_calls.proofs.Common.{eqb-true, exits, false, false≢true, get, has_handle, inl, inr, is_end, map, process_entry, reaches, refl, subst, sym, true}
use Rattle.zl_calls.proofs.Common.{waits, ℕ, ℤ, ◌&&◌, ◌==◌, ◌∙◌, ◌≡◌}
use Rattle.zl_calls.proofs.calls.Answered.{IsWrite}
use Rattle.zl_calls.proofs.processes.Departed.{handles_left, left_all}
use Rattle.zl_calls.proofs.processes.Written.{get_after}

-- ---- the call ends its caller

-- it is an exit
pub acted_exits : (a : Action) (s : Site) (p p2 : Process) (r r2 : Objects) (o : Outcome) → ActsHere a s p r o p2 r2 → is_end o ≡ true
    → (code : ℤ) × Exits code p r o p2 r2
acted_exits (answers A told Does) s p p2 r r2 o acts ends = absurd (false≢true (sym (ap is_end acts.ends) ∙ ends))
acted_exits (waits A told Does Awaits) s p p2 r r2 o (inl acts) ends = absurd (false≢true (sym (ap is_end acts.ends) ∙ ends))
acted_exits (waits A told Does Awaits) s p p2 r r2 o (inr blocks) ends = absurd (false≢true (sym (ap is_end blocks.ends) ∙ ends))
acted_exits (exits code) s p p2 r r2 o acts ends = (code, acts)
acted_exits reaches s p p2 r r2 o acts ends = absurd acts

-- and leaves it no handle
pub acted_over : (p p2 : Process) (r r2 : Objects) (o : Outcome) (s : Site) → ActsHere (action_asked p.pid s.request) s p r o p2 r2 → is_end o ≡ true
    → p2.table.entries ≡ []
acted_over p p2 r r2 o s acts ends = (acted_exits (action_asked p.pid s.request) s p p2 r r2 o acts ends).1.over.no_handle

module _ {before after : List Process} {p p2 : Process} (write : IsWrite before after p p2) (r2 : Objects) where
  pub over_none : p2.table.entries ≡ [] → (k v : ℕ) → IsTrue (k == p.pid) → has_handle (get (map process_entry (left_all after r2)) k) v ≡ false
  unfolding get
  over_none none k v own = handles_left after r2 k v ∙ rw (get_after write k, eq-eqb p.pid k (sym (eqb-true k p.pid own)), none) refl

  pub ended_none : (o : Outcome) (pid : ℕ) → p.pid ≡ pid → (is_end o ≡ true → p2.table.entries ≡ []) → (k v : ℕ) → IsTrue (is_end o && (k == pid))
      → has_handle (get (map process_entry (left_all after r2)) k) v ≡ false
  ended_none o pid same none k v both =
      let parts = and_parts (is_end o) (k == pid) both in over_none (none parts.0) k v (subst (λ j. IsTrue (k == j)) (sym same) parts.1)
