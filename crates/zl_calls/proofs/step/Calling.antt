-- A call in the midst of all processes, step by step: its policy, then what reaches others, then what it does by itself.
use Rattle.zl_calls.proofs.Common.{Acted, CallActs, CallInstr, CalledAmong, CallsNext, IfNone, IfSome, IsReachedBy, IsSome, IsTrue, Library, List, None}
use Rattle.zl_calls.proofs.Common.{Objects, Option, Outcome, Reach, Policed, Process, Reaches, Site, Some, acts, ap, false≢true, get_or, is_sorted, length, map}
use Rattle.zl_calls.proofs.Common.{nat_cmp, parts, process_entry, refl, same_Some, set, site_of, slice_get, slice_get-get_or, subst, sym, verdict_on, ℕ, ◌<◌}
use Rattle.zl_calls.proofs.Common.{◌∙◌, ◌≡◌}
use Rattle.zl_calls.specs.Reaching.{policed, reaches}
use Rattle.zl_calls.proofs.policy.PolicedSteps.{same_pid}
use Rattle.zl_calls.proofs.processes.InOrder.{set_in_order}

-- the caller p stands at the place, and its call has a site
module _ (lib : Library) (ps : List Process) (r : Objects) (b : List ℕ) (place : ℕ) (p : Process) (within : place < length ps)
    (read : p ≡ get_or ps place p) where
  pub is_there : slice_get ps place ≡ Some p
  is_there = slice_get-get_or ps place p within ∙ ap (λ (q : Process). Some q) (sym read)

  -- who is read there once more is there, and is the same
  pub again_there : (ps1 : List Process) (q : Process) → ps1 ≡ ps → q ≡ get_or ps1 place q → slice_get ps place ≡ Some q
  again_there ps1 q same again =
      slice_get-get_or ps place q within ∙ ap (λ (x : Process). Some x) (sym (again ∙ ap (λ (xs : List Process). get_or xs place q) same))

  pub same_caller : (ps1 : List Process) (q : Process) → ps1 ≡ ps → q ≡ get_or ps1 place q → q ≡ p
  same_caller ps1 q same again = same_Some q p (sym (again_there ps1 q same again) ∙ is_there)

  -- what is true of it is true of the caller
  pub of_caller : (P : Process → Type 0) → P p → (caller : Process) → slice_get ps place ≡ Some caller → P caller
  of_caller P here caller at = subst P (same_Some p caller (sym is_there ∙ at)) here

  module _ (call : CallInstr) (has_site : (caller : Process) → slice_get ps place ≡ Some caller → IsSome (site_of call caller.cpu)) where
    abbrev Done : Outcome → Reach → Process → Type 0
    Done o all2 q = IsReachedBy (site_of call q.cpu) (λ s. CallActs lib place q s (parts ps r b) o all2)

    pub policed_acts : (o : Outcome) (p2 : Process) (r2 : Objects) → IfSome (site_of call p.cpu) (λ s. Policed s p r o p2 r2) → (caller : Process)
        → slice_get ps place ≡ Some caller → Done o (parts (set ps place p2) r2 b) caller
    policed_acts o p2 r2 ends = of_caller (Done o (parts (set ps place p2) r2 b)) (by_site (site_of call p.cpu) (has_site p is_there) ends)
      where
        by_site : (at : Option Site) → IsSome at → IfSome at (λ s. Policed s p r o p2 r2)
            → IsReachedBy at (λ s. CallActs lib place p s (parts ps r b) o (parts (set ps place p2) r2 b))
        by_site None none ends = absurd (elim (false≢true none) [ ])
        by_site (Some s) there ends = policed p2 (record { processes = refl; blocked = refl }) ends

    -- it leaves the list in order, as where the policy says nothing
    pub policed_order : (o : Option Outcome) (p2 : Process) (r2 : Objects) → IfSome o (λ x. IfSome (site_of call p.cpu) (λ s. Policed s p r x p2 r2))
        → IfNone o (p2 ≡ p) → IsTrue (is_sorted nat_cmp (map process_entry ps)) → IsTrue (is_sorted nat_cmp (map process_entry (set ps place p2)))
    policed_order o p2 r2 ends same = set_in_order p p2 (by_outcome o ends same) ps place read
      where
        by_site : (at : Option Site) → IsSome at → (x : Outcome) → IfSome at (λ s. Policed s p r x p2 r2) → p2.pid ≡ p.pid
        by_site None none x ends = absurd (elim (false≢true none) [ ])
        by_site (Some s) there x ends = same_pid s p p2 r r2 x ends

        by_outcome : (o : Option Outcome) → IfSome o (λ x. IfSome (site_of call p.cpu) (λ s. Policed s p r x p2 r2)) → IfNone o (p2 ≡ p) → p2.pid ≡ p.pid
        by_outcome None ends same = ap (λ (q : Process). q.pid) same
        by_outcome (Some x) ends same = by_site (site_of call p.cpu) (has_site p is_there) x ends

    -- the policy says nothing
    module _ (none : IfSome (site_of call p.cpu) (λ s. verdict_on p.table.entries r.objects p.pid s.request ≡ None)) where
      pub reached_acts : (ps1 : List Process) (r1 : Objects) → ps1 ≡ ps → r1 ≡ r → (o : Outcome) (all2 : Reach)
          → ((caller : Process) → slice_get ps1 place ≡ Some caller
          → IsReachedBy (site_of call caller.cpu) (λ s. Reaches lib place caller s (parts ps1 r1 b) o all2))
          → (caller : Process) → slice_get ps place ≡ Some caller → Done o all2 caller
      reached_acts ps1 r1 same_list same_objects o all2 reached =
          let here = reached p (ap (λ (xs : List Process). slice_get xs place) same_list ∙ is_there) in
          of_caller (Done o all2) (by_site (site_of call p.cpu) none
          (subst (λ (x : Objects). IsReachedBy (site_of call p.cpu) (λ s. Reaches lib place p s (parts ps x b) o all2)) same_objects
          (subst (λ (xs : List Process). IsReachedBy (site_of call p.cpu) (λ s. Reaches lib place p s (parts xs r1 b) o all2)) same_list here)))
        where
          by_site : (at : Option Site) → IfSome at (λ s. verdict_on p.table.entries r.objects p.pid s.request ≡ None)
              → IsReachedBy at (λ s. Reaches lib place p s (parts ps r b) o all2) → IsReachedBy at (λ s. CallActs lib place p s (parts ps r b) o all2)
          by_site None none reached = reached
          by_site (Some s) none reached = reaches none reached

      pub acted_acts : (ps1 : List Process) (r1 : Objects) (b1 : List ℕ) → ps1 ≡ ps → r1 ≡ r → b1 ≡ b → (q : Process) → q ≡ p
          → (o : Outcome) (p2 : Process) (r2 : Objects)
          → Acted (site_of call q.cpu) q r1 o p2 r2 → (caller : Process) → slice_get ps place ≡ Some caller → Done o (parts (set ps1 place p2) r2 b1) caller
      acted_acts ps1 r1 b1 same_list same_objects same_blocked q same o p2 r2 acted =
          rw (same_list, same_blocked) (of_caller (Done o (parts (set ps place p2) r2 b))
          (by_site (site_of call p.cpu) none (rw (same, same_objects) at acted)))
        where
          by_site : (at : Option Site) → IfSome at (λ s. verdict_on p.table.entries r.objects p.pid s.request ≡ None) → Acted at p r o p2 r2
              → IsReachedBy at (λ s. CallActs lib place p s (parts ps r b) o (parts (set ps place p2) r2 b))
          by_site None none acted = acted
          by_site (Some s) none acted = acts p2 none (record { processes = refl; blocked = refl }) acted

  -- the call that stands next is done so
  pub called_among : (call : CallInstr) (o : Outcome) (all2 : Reach) → CallsNext lib p call
      → ((caller : Process) → slice_get ps place ≡ Some caller → IsReachedBy (site_of call caller.cpu) (λ s. CallActs lib place caller s (parts ps r b) o all2))
      → (caller : Process) → slice_get ps place ≡ Some caller → CalledAmong lib place caller (parts ps r b) call.name o all2
  called_among call o all2 next done = of_caller (λ q. CalledAmong lib place q (parts ps r b) call.name o all2)
      (by_site (site_of call p.cpu) refl (done p is_there))
    where
      by_site : (at : Option Site) → site_of call p.cpu ≡ at → IsReachedBy at (λ s. CallActs lib place p s (parts ps r b) o all2)
          → CalledAmong lib place p (parts ps r b) call.name o all2
      by_site None is done = absurd done
      by_site (Some s) is done = record { call = call; next = next; named = refl; site = s; at_site = is; acts = done }
