-- What becomes of the numbers of the first waits for each signal. No public clause cites this module.
use Rattle.std.specs.Prelude.{ℕ, ◌≡◌, ◌^◌, ◌<◌, ◌≤◌, ◌≢◌, true, false, ◌&&◌, ◌==◌, List, slice_index, if◌then◌else◌}
use Rattle.zl_rights.specs.Numbers.{meets}
use Rattle.zl_signals.specs.Numbered.{is_for, number_of, IsFirstFrom, NO_WAIT, Numbered}

-- the second set is the first without the bit at this place
abbrev pub IsWithout : (signals place signals2 : ℕ) → Type 0
IsWithout signals place signals2 =
    (meets signals2 (2 ^ place) ≡ false) × ((i : ℕ) → i < 32 → i ≢ place → meets signals2 (2 ^ i) ≡ meets signals (2 ^ i))
    × (meets signals (2 ^ place) ≡ true → signals2 < signals)

-- the number is the least of those at the signals of this set
abbrev pub IsLeast : List ℕ → ℕ → ℕ → Type 0
IsLeast firsts active least =
    ((i : ℕ) → i < 32 → meets active (2 ^ i) ≡ true → least ≤ slice_index firsts i)
    × ((least == NO_WAIT) ≡ false → (i : ℕ) × (i < 32) × (meets active (2 ^ i) ≡ true) × (slice_index firsts i ≡ least))

-- the number of the first wait for the signal with the bit i, where one with this number and mask comes behind all others
abbrev pub noted : (mask number i first : ℕ) → ℕ
noted mask number i first = if (first == NO_WAIT) && meets mask (2 ^ i) then number else first

-- so it is at each signal
abbrev pub AreNoted : (mask number : ℕ) → List ℕ → List ℕ → Type 0
AreNoted mask number firsts firsts2 = (i : ℕ) → i < 32 → slice_index firsts2 i ≡ noted mask number i (slice_index firsts i)

-- where the first wait for these signals had this number, it is the first from there on, and else the same as before
abbrev pub IsMoved : Numbered → (number signals first first2 : ℕ) → Type 0
IsMoved m number signals first first2 =
    ((first == number) ≡ true → IsFirstFrom number (is_for signals) m (number_of first2)) × ((first == number) ≡ false → first2 ≡ first)

-- so it is at each signal
abbrev pub AreMoved : Numbered → ℕ → List ℕ → List ℕ → Type 0
AreMoved m number firsts firsts2 = (i : ℕ) → i < 32 → IsMoved m number (2 ^ i) (slice_index firsts i) (slice_index firsts2 i)

-- the number stands at signals of this mask only
abbrev pub IsForOwn : (mask number : ℕ) → List ℕ → Type 0
IsForOwn mask number firsts = (i : ℕ) → i < 32 → (slice_index firsts i == number) ≡ true → meets mask (2 ^ i) ≡ true
