-- The waits at an object by their numbers, and what leads to them. No public clause cites this module.
use Rattle.std.specs.Prelude.{ℕ, ◌≡◌, ◌^◌, ◌-◌, ◌<◌, ◌≤◌, Bool, true, false, ◌==◌, nat_lt, List, slice_index, Option, Some, None, if◌then◌else◌}
use Rattle.std.specs.BTreeMap.{BTreeMap, get}
use Rattle.std.specs.Option.{option_map}
use Rattle.std.specs.Ordering.{nat_cmp}
use Rattle.zl_rights.specs.Numbers.{meets}
use Rattle.zl_signals.specs.declared.watch.Watch.{Watch}

-- the waits by their numbers
abbrev pub Numbered : Type 0
Numbered = BTreeMap ℕ Watch

-- the wait with the number n
abbrev pub wait_by : Numbered → ℕ → Option Watch
wait_by m n = get nat_cmp m n

-- ---- the first that passes

-- n stands before the number, if there is one
abbrev pub is_before : ℕ → Option ℕ → Bool
is_before n None = true
is_before n (Some k) = nat_lt n k

-- from the number `from` on, this is the number of the first wait that passes the test, if one does
abbrev pub IsFirstFrom : ℕ → (Watch → Bool) → Numbered → Option ℕ → Type 0
IsFirstFrom from p m o =
    ((n : ℕ) (x : Watch) → wait_by m n ≡ Some x → from ≤ n → is_before n o ≡ true → p x ≡ false)
    × ((n : ℕ) → o ≡ Some n → (from ≤ n) × (option_map p (wait_by m n) ≡ Some true))

-- this is the number of the first wait that passes the test, if one does
abbrev pub IsFirst : (Watch → Bool) → Numbered → Option ℕ → Type 0
IsFirst p m o = IsFirstFrom 0 p m o

-- ---- by signal

-- the number that no wait has
abbrev pub NO_WAIT : ℕ
NO_WAIT = 2 ^ 64 - 1

-- a number, where one stands there
abbrev pub number_of : ℕ → Option ℕ
number_of n = if n == NO_WAIT then None else Some n

-- the wait is for a signal of this set
abbrev pub is_for : ℕ → Watch → Bool
is_for signals x = meets x.mask.0 signals

-- of each signal this has the number of the first wait for it
abbrev pub AreFirsts : List ℕ → Numbered → Type 0
AreFirsts firsts m = (i : ℕ) → i < 32 → IsFirst (is_for (2 ^ i)) m (number_of (slice_index firsts i))

-- ---- each wait

-- the numbers are below this
abbrev pub AreBelow : ℕ → Numbered → Type 0
AreBelow made m = (n : ℕ) (x : Watch) → wait_by m n ≡ Some x → n < made
