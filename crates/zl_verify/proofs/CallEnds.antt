-- A call is refused, wants memory, or is done. What is so behind each of these is so behind the call.
use Rattle.zl_verify.proofs.Common.{CallBy, Calls, Choice, IsTrue, Library, List, None, Option, Outcome, Refused, Site, Some, Status, Values, Wants, World}
use Rattle.zl_verify.proofs.Common.{after_ok, after_refusal, may_choose, may_want, ok_outcome, refl, refusal, taken, true, ℕ, ◌≡◌}
use Rattle.zl_code.specs.declared.history.Outcome.TheVariants as outcome

module _ (lib : Library) (w : World) (p : ℕ) (t : Site) (Q : Outcome → World → Type 0)
    (refused : (o : Outcome) → refusal lib w p t.request ≡ Some o → Q o (after_refusal w p t o))
    (wants : (want : Status) → IsTrue (may_want t.request want) → Q (outcome.Answered want) (after_refusal w p t (outcome.Answered want)))
    (done : refusal lib w p t.request ≡ None → (vs : List ℕ) → may_choose w (taken w p t) p t.request vs ≡ true
    → Q (ok_outcome w p t.request) (after_ok lib w p t vs (ok_outcome w p t.request))) where
  by_choice : (choice : Choice) (r : Option Outcome) → refusal lib w p t.request ≡ r → (answer : Outcome) (w2 : World) → CallBy lib w p t choice r answer w2
      → Q answer w2
  by_choice Refused (Some o) is answer w2 (told, same) = rw (told, same) (refused o is)
  by_choice (Wants want) None is answer w2 (may, told, same) = rw (told, same) (wants want may)
  by_choice (Values vs) None is answer w2 (may, told, same) = rw (told, same) (done is vs may)
  by_choice _ _ is answer w2 h = absurd h

  pub call_ends : (answer : Outcome) (w2 : World) → Calls lib w p t answer w2 → Q answer w2
  call_ends answer w2 (choice, h) = by_choice choice (refusal lib w p t.request) refl answer w2 h
