use Rattle.zl_rights.proofs.Common.{◌≡◌, Bool, false, false≢true, List, [], ◌∷◌, Option, None, Some, none-some, same_Some, refl, sym, slice_get, is_some, ◌∙◌}
use Rattle.std.specs.Prelude.{option_map}
use Rattle.std.specs.List.{list_any}
use Rattle.zl_objects.specs.Listed.{wait_value}
use Rattle.zl_tests.proofs.quiet_tests.look.Goals.{in-Some+else-is_some+else-intersects, in_default}
use Rattle.zl_tests.proofs.quiet_tests.look.Goals as goal

-- of a list without a first element none passes
of_none : {X : Type 0} (test : X → Bool) (xs : List X) → None ≡ slice_get xs 0 → list_any test xs ≡ false
of_none test [] first = refl
of_none test (x ∷ xs) first = absurd (none-some x first)

-- nor of a list without a second one, where the first doesn't
of_one : {A X : Type 0} (test : X → Bool) (xs : List X) (x : X) (f : A → X) (o : Option A) → Some x ≡ slice_get xs 0 → option_map f o ≡ slice_get xs 1
    → is_some o ≡ false → test x ≡ false → list_any test xs ≡ false
of_one test [] x f o first second alone none = refl
of_one test (y ∷ []) x f o first second alone none = rw (← same_Some x y first, none) refl
of_one test (y ∷ z ∷ xs) x f None first second alone none = absurd (none-some z second)
of_one test (y ∷ z ∷ xs) x f (Some a) first second alone none = absurd (false≢true (sym alone))

pub calm-requires-clause-waits : goal.calm-requires-clause-waits
calm-requires-clause-waits c = elim c.match-wait_at.branch [
  | in-Some+else-is_some+else-intersects w ↦
      of_one _ c.take_all_due.new.objects.waits _ wait_value w.wait_at-in-Some.result w.in-Some.ensures.wait w.wait_at-in-Some.ensures.wait
      (sym w.is_some.ensures ∙ w.if-is_some.false)
      (rw (← w.signals_of.ensures.signals) (sym (w.intersects.ensures tt) ∙ w.if-intersects.false))
  | in_default w ↦ of_none _ c.take_all_due.new.objects.waits w.in_default.ensures.wait
]
