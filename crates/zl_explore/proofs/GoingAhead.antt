-- Turns of one instruction that stand behind others.
use Rattle.std.proofs.Common.{Bool, List, [], ap, append-nil, refl, subst, sym, ℕ, ◌++◌, ◌∙◌, ◌∷◌, ◌≡◌}
use Rattle.std.proofs.lemmas.List.{append_assoc}
use Rattle.zl_calls.specs.World.{Machine}
use Rattle.zl_explore.specs.GoesAhead.{all_ahead, gone_ahead}
use Rattle.zl_explore.specs.GoingAhead.{Takes}
use Rattle.zl_explore.specs.Paths.{IsIn, IsPath, after}
use Rattle.zl_explore.specs.Running.{ready_of, turned}

module _ {S : Type 0} (ready : S → List ℕ) (next : S → ℕ → S) where
  path_both : (turns more : List ℕ) (s : S) → IsPath ready next s turns → IsPath ready next (after ready next s turns) more
      → IsPath ready next s (turns ++ more) × (after ready next s (turns ++ more) ≡ after ready next (after ready next s turns) more)
  unfolding after IsPath
  path_both [] more s path rest = (rest, refl)
  path_both (p ∷ turns) more s path rest = let both = path_both turns more (next s p) path.1 rest in ((path.0, both.0), both.1)

  -- one more goes ahead
  pub ahead_more : (is_private : S → ℕ → Bool) (most : ℕ) (ps : List ℕ) (s : S) (p : ℕ) → all_ahead next is_private most s (ps ++ (p ∷ []))
      ≡ gone_ahead next is_private most (all_ahead next is_private most s ps) p
  unfolding all_ahead
  ahead_more is_private most [] s p = refl
  ahead_more is_private most (q ∷ ps) s p = ahead_more is_private most ps (gone_ahead next is_private most s q) p

pub takes_none : (s t : Machine) (old : List ℕ) → t ≡ s → Takes s old old t
unfolding after IsPath
takes_none s t old same = record { more = []; items = sym (append-nil old); is_path = tt; leads = sym same }

pub takes_more : (s t : Machine) (old new more : List ℕ) → new ≡ old ++ more → IsPath ready_of turned s more → after ready_of turned s more ≡ t
    → Takes s old new t
takes_more s t old new more items path leads = record { more = more; items = items; is_path = path; leads = leads }

pub takes_one : (s t : Machine) (old new : List ℕ) (p : ℕ) → new ≡ old ++ (p ∷ []) → IsIn (ready_of s) p → t ≡ turned s p → Takes s old new t
unfolding after IsPath
takes_one s t old new p items is_in is = takes_more s t old new (p ∷ []) items (is_in, tt) (sym is)

pub takes_both : (s t u : Machine) (a b c : List ℕ) → Takes s a b t → Takes t b c u → Takes s a c u
takes_both s t u a b c first second =
    let both = path_both ready_of turned first.more second.more s first.is_path
    (subst (λ x. IsPath ready_of turned x second.more) (sym first.leads) second.is_path) in record {
      more = first.more ++ second.more;
      items = second.items ∙ (ap (λ (x : List ℕ). x ++ second.more) first.items ∙ append_assoc a first.more second.more);
      is_path = both.0;
      leads = both.1 ∙ (ap (λ x. after ready_of turned x second.more) first.leads ∙ second.leads);
    }
