-- The waits of a process end as its handles close: what is left of the list was made by none of those that have closed.
use Rattle.zl_calls.proofs.Common.{AreBeside, Bool, Contains, EndsOwn, EndsWaits, Entry, Handles, IsTrue, KeepsListed, KeepsWithout, LeavesListed, List, Map}
use Rattle.zl_calls.proofs.Common.{Objects, Releases, Removes, Some, Wait, [], and_from, ap, cases_Bool, eq-eqb, eqb-true, false, false≢true, filter, get}
use Rattle.zl_calls.proofs.Common.{get-without, inl, inr, is_empty, is_made_at, none-some, not, refl, same_Some, subst, sym, true, ℕ, ◌==◌, ◌∙◌, ◌∷◌, ◌≡◌, ◌⊎◌}
use Rattle.zl_objects.specs.Release.{waits_end}
use Rattle.zl_objects.proofs.Bare.{still_kept}
use Rattle.zl_calls.proofs.objects.SameButWaits.{beside_same}
use Rattle.zl_calls.proofs.waits.WaitsLost.{left_of, listed_gone, listed_made, listed_same, listed_then}

-- where no wait is registered none ends
pub none_end : (test : Wait → Bool) (r : Objects) → is_empty r.waits ≡ true → EndsWaits test r r
none_end test r none = record { beside = beside_same r; waits = nothing r.waits none; made = refl; asleep = (refl, refl) }
  where
    nothing : (ws : List Wait) → is_empty ws ≡ true → ws ≡ filter (λ x. not (test x)) ws
    nothing [] none = refl
    nothing (x ∷ ws) none = absurd (false≢true none)

-- waits may end before handles go
pub beside_releases : (ks loose : List ℕ) (r mid r2 : Objects) → AreBeside r mid → Releases ks loose mid r2 → Releases ks loose r r2
beside_releases ks loose r mid r2 beside releases = record {
  cascades = waits_end ks r.objects mid.objects r2.objects beside.objects releases.cascades;
  keeps = λ others kept. releases.keeps others (still_kept r.objects mid.objects beside.objects _ kept);
  koids = releases.koids ∙ beside.koids;
}

-- so far: a wait that is left, and was made by one of the handles, was made by one that is still in the table
pub record IsEndingOwn (pid : ℕ) (entries : Map Entry) (old : Objects) (left : Map Entry) (now : Objects) : Type 0 where
  pub keeps : KeepsWithout (λ k. k == pid) old now
  pub still : (x : Wait) (e : Entry) → x.pid ≡ pid → get entries x.value ≡ Some e → e.koid ≡ x.object → Contains now.waits x → get left x.value ≡ Some e

module _ (pid : ℕ) (entries : Map Entry) (old : Objects) where
  pub own_starts : IsEndingOwn pid entries old entries old
  own_starts = record { keeps = listed_same old; still = λ x e own at names there. at }

  -- one handle more closes, once the waits have ended that were made by it
  pub own_ends : (t : Handles) (value : ℕ) (e : Entry) (t2 : Handles) (now mid r2 : Objects) → IsEndingOwn pid entries old t.entries now
      → Removes t value e t2 → EndsWaits (is_made_at e.koid pid value) now mid → Releases (e.koid ∷ []) [] mid r2 → LeavesListed mid r2
      → IsEndingOwn pid entries old t2.entries r2
  own_ends t value e t2 now mid r2 so_far removes ends releases left = record {
    keeps = listed_then old now r2 so_far.keeps
        (listed_then now mid r2 (listed_made e.koid pid value now mid ends) (listed_gone (e.koid ∷ []) [] mid r2 releases left));
    still = λ x d own at names there.
        let gone : KeepsListed mid r2 = listed_gone (e.koid ∷ []) [] mid r2 releases left in
        let before = left_of (λ y. not (is_made_at e.koid pid value y)) now.waits x
        (subst (λ (ws : List Wait). Contains ws x) ends.waits (gone.older x there)) in
        by_value x d own names (so_far.still x d own at names before.0) before.1 (cases_Bool (value == x.value));
  }
    where
      by_value : (x : Wait) (d : Entry) → x.pid ≡ pid → d.koid ≡ x.object → get t.entries x.value ≡ Some d → not (is_made_at e.koid pid value x) ≡ true
          → IsTrue (value == x.value) ⊎ ((value == x.value) ≡ false) → get t2.entries x.value ≡ Some d
      by_value x d own names at left (inl here) =
          let same : e ≡ d = same_Some e d (sym removes.was ∙ (ap (get t.entries) (eqb-true value x.value here) ∙ at)) in
          let made : is_made_at e.koid pid value x ≡ true =
          and_from _ _ (eq-eqb x.object e.koid (sym (ap (λ (y : Entry). y.koid) same ∙ names)))
          (and_from _ _ (eq-eqb x.pid pid own) (eq-eqb x.value value (sym (eqb-true value x.value here)))) in
          absurd (false≢true (ap not (sym made) ∙ left))
      by_value x d own names at left (inr apart) = rw removes.entries (get-without t.entries value x.value ∙ rw apart at)

  pub own_ended : (t : Handles) (now : Objects) → t.entries ≡ [] → IsEndingOwn pid entries old t.entries now → EndsOwn pid entries old now
  unfolding get
  own_ended t now none so_far = record { keeps = so_far.keeps; gone = λ x e own at names there. none-some e (rw none at (so_far.still x e own at names there)) }

-- the process has ended before that
pub own_over : (pid : ℕ) (entries : Map Entry) (old mid r2 : Objects) → KeepsWithout (λ k. k == pid) old mid → EndsOwn pid entries mid r2
    → EndsOwn pid entries old r2
own_over pid entries old mid r2 over ends = record { keeps = listed_then old mid r2 over ends.keeps; gone = ends.gone }
