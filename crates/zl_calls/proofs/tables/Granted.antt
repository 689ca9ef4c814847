-- What is looked up without a fault: it is live, and it is what stands there.
use Rattle.zl_calls.proofs.Common.{Bool, Entry, Err, IsOk, IsTrue, Kind, List, Map, None, Ok, Option, Result, Some, Status, [], bits, close_answer, false, get}
use Rattle.zl_calls.proofs.Common.{granted, has_key, if◌then◌else◌, is_some, looked_up, option_or, refl, result_err, takes, true, within, ℕ, ◌==◌, ◌||◌, ◌≡◌}
use Rattle.zl_rights.specs.declared.status.Status.TheVariants as status
use Rattle.zl_code.specs.Refusals.{taking}
use Rattle.zl_calls.specs.Policed.{fault_after}

-- ---- faults, one after another

-- the first of two faults is none, and the look-up before another one found something
pub finds : (x : Result Entry Status) (rest : Option Status) → option_or (result_err x) rest ≡ None → IsOk x
finds (Ok e) rest none = refl
finds (Err s) rest none = absurd cc

pub behind : (x : Option Status) (rest : Option Status) → option_or x rest ≡ None → rest ≡ None
behind None rest none = none
behind (Some s) rest none = absurd cc

-- the second of two look-ups
pub second : (x y : Result Entry Status) → option_or (result_err x) (option_or (result_err y) None) ≡ None → IsOk y
second x y none = finds y None (behind (result_err x) (option_or (result_err y) None) none)

-- ---- a look-up

module _ (m : Map Entry) (value : ℕ) (kinds : List Kind) (needed : ℕ) (ok : IsOk (looked_up m value kinds needed)) where
  pub is_live : IsTrue (has_key m value)
  is_live = by (get m value) ok
    where
      by : (o : Option Entry) → IsOk (granted o kinds needed) → is_some o ≡ true
      by None ok = absurd cc
      by (Some e) ok = refl

  abbrev tested : Entry → Bool → Bool → Result Entry Status
  tested e of_kind has_rights = if of_kind then (if has_rights then Ok e else Err status.AccessDenied) else Err status.WrongType

  pub is_granted : (e : Entry) → get m value ≡ Some e → Ok e ≡ looked_up m value kinds needed
  is_granted e at = rw at (by (takes kinds e.kind) (within needed (bits e.rights)) (rw at at ok))
    where
      by : (a b : Bool) → IsOk (tested e a b) → Ok e ≡ tested e a b
      by true true ok = refl
      by true false ok = absurd cc
      by false b ok = absurd cc

-- ---- closing

-- a value without a fault is closed
pub closes_well : (m : Map Entry) (value : ℕ) → option_or (fault_after m [] (record (taking value [] 0) { may_be_zero = true })) None ≡ None
    → close_answer m value ≡ status.Ok
closes_well m value = by (value == 0) (get m value)
  where
    by : (zero : Bool) (o : Option Entry) → option_or (if zero then None else result_err (granted o [] 0)) None ≡ None
        → (if is_some o || zero then status.Ok else status.BadHandle) ≡ status.Ok
    by true None none = refl
    by true (Some e) none = refl
    by false None none = absurd cc
    by false (Some e) none = refl
