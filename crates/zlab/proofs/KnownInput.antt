-- What has been read so far, of a reader that may tell its bytes.
use Rattle.zlab.proofs.Common.{Consumes, IsInputOf, List, MOST_INPUT, None, Option, Some, ap, arith, length, length-take, refl, sym, take}
use Rattle.zlab.proofs.Common.{take_all, ℕ, ◌+◌, ◌<◌, ◌∙◌, ◌≡◌, ◌≤◌}
use Rattle.zl_code.proofs.Common.{take_at}
use Rattle.zlab.specs.Input.{IsFrontOf}
use Rattle.zlab.specs.declared.input.Input.TheVariants as input

-- where as much was read, it is the front
pub front_full : (most : ℕ) (told left : Option (List ℕ)) (taken : List ℕ) → Consumes told left taken → length taken ≡ most → IsFrontOf most told taken
front_full most None left taken consumed full = record { bytes = taken; those_told = tt; is_front = sym (take_all most taken (omega (arith, full))) }
front_full most (Some all) None taken consumed full = absurd consumed
front_full most (Some all) (Some rest) taken consumed full = record {
  bytes = all;
  those_told = refl;
  is_front = sym (ap (take most) consumed ∙ take_at taken rest most full);
}

-- of a front that has more, the whole is longer still
pub too_long : (told : Option (List ℕ)) (front : List ℕ) → IsFrontOf (MOST_INPUT + 1) told front → MOST_INPUT < length front → IsInputOf told input.TooLong
too_long told front is more = record {
  bytes = is.bytes;
  those_told = is.those_told;
  holds = omega (arith, more, ap length is.is_front, length-take (MOST_INPUT + 1) is.bytes);
}

-- a front that has no more is all of it
pub all_read : (told : Option (List ℕ)) (front : List ℕ) (is : IsFrontOf (MOST_INPUT + 1) told front) → length front ≤ MOST_INPUT → front ≡ is.bytes
all_read told front is short =
    is.is_front ∙ take_all (MOST_INPUT + 1) is.bytes (omega (arith, short, ap length is.is_front, length-take (MOST_INPUT + 1) is.bytes))
