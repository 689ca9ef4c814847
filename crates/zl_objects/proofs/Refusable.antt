-- What holds once a step that may be refused was done, or was refused.
use Rattle.zl_objects.proofs.Common.{Err, Ok, OnErr, OnOk, Result}

module _ {A B : Type 0} (P Q : Type 0) where
  pub when_ok : (r : Result A B) → (P → Q) → OnOk r P → OnOk r Q
  when_ok (Ok x) f h = f h
  when_ok (Err e) f h = tt

  pub when_err : (r : Result A B) → (P → Q) → OnErr r P → OnErr r Q
  when_err (Ok x) f h = tt
  when_err (Err e) f h = f h
