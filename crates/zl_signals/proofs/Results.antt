-- What holds of a result, where it is known whether it is a fault.
use Rattle.zl_rights.proofs.Common.{Err, Ok, OnOk, Result, false, false≢true, sym, true, ◌≡◌}
use Rattle.std.specs.Prelude.{OnErr, is_err}

-- a result that is no fault
pub unless_err : {A B : Type 0} (r : Result A B) (P : Type 0) → OnOk r P → is_err r ≡ false → P
unless_err (Ok x) P h out = h
unless_err (Err e) P h out = absurd (false≢true (sym out))

-- a result that is a fault
pub if_err : {A B : Type 0} (r : Result A B) (P : Type 0) → OnErr r P → is_err r ≡ true → P
if_err (Ok x) P h out = absurd (false≢true out)
if_err (Err e) P h out = h
