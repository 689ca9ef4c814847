-- Abstract states: a value for each register. Their order, the least state above two, and the start.
use Rattle.std.specs.Prelude.{ℕ, ◌≡◌, ◌+◌, IsTrue, Bool, true, false, ◌&&◌, ◌==◌, List, [], ◌∷◌, map, replicate, length, Option, Some, None, slice_index_or, slice_set, if◌then◌else◌}
use Rattle.std.specs.Option.{option_map}
use Rattle.zl_code.specs.declared.image.Start.{Start}
use Rattle.zl_code.specs.Limits.{register_count}
use Rattle.zl_code.specs.Image.{Image}
use Rattle.zl_abs.specs.declared.value.AbsVal.{AbsVal}
use Rattle.zl_abs.specs.declared.value.AbsVal.TheVariants.{Word, Has, KindOf, RightsOf}
use Rattle.zl_abs.specs.Values.{ANY, below, joined, bound_of, untagged}

-- a value for each register
abbrev pub State : Type 0
State = List AbsVal

-- ---- the order and the join, register by register

unfoldable pub all_below : State → State → Bool
all_below [] [] = true
all_below (a ∷ s) (b ∷ t) = below a b && all_below s t
all_below _ _ = false

-- one more value in front, where both are there
abbrev pub cons_if : Option AbsVal → Option State → Option State
cons_if (Some v) (Some s) = Some (v ∷ s)
cons_if _ _ = None

-- the least state above both, or nothing where none is
unfoldable pub all_joined : State → State → Option State
all_joined [] [] = Some []
all_joined (a ∷ s) (b ∷ t) = cons_if (joined a b) (all_joined s t)
all_joined _ _ = None

-- ---- registers

-- the value of a register
abbrev pub value_at : State → ℕ → AbsVal
value_at s r = slice_index_or s r (Word 0)

-- what the register may be at most, if it holds a word
abbrev pub bound_at : State → ℕ → Option ℕ
bound_at s r = bound_of (value_at s r)

-- the register is written: it becomes v, and no tag names it any more
unfoldable pub with_value : State → ℕ → AbsVal → State
with_value s r v = map (untagged r) (slice_set s r v)

-- more is known of the register: tags on it stay
abbrev pub refined : State → ℕ → AbsVal → State
refined s r v = slice_set s r v

-- the registers get these values, one after another
unfoldable pub with_all : State → List (ℕ × AbsVal) → State
with_all s [] = s
with_all s (x ∷ xs) = with_all (with_value s x.0 x.1) xs

-- ---- what a state is

-- a tag may name the register that has this value
abbrev pub can_be_named : AbsVal → Bool
can_be_named (Word m) = m == 0
can_be_named (Has maybe k r) = true
can_be_named _ = false

-- the register becomes v; where nothing can be named there any more, tags on it become any word
abbrev pub raised_at : State → ℕ → AbsVal → State
raised_at s r v = if can_be_named v then refined s r v else with_value s r v

-- the least such state in which the register has what it had and this, if there is one
abbrev pub risen : State → ℕ → AbsVal → Option State
risen s r v = if below v (value_at s r) then Some s else option_map (raised_at s r) (joined (value_at s r) v)

-- the tag, if it is one, names a register that is 0 or has a handle
abbrev pub is_named_well : State → AbsVal → Bool
is_named_well s (KindOf r) = can_be_named (value_at s r)
is_named_well s (RightsOf r) = can_be_named (value_at s r)
is_named_well s v = true

-- there is a value for each register, and tags name registers that are 0 or have a handle
pub record IsState (s : State) : Type 0 where
  pub long : length s ≡ register_count
  pub tags : (r : ℕ) → IsTrue (is_named_well s (value_at s r))

-- ---- the start

-- a handle as it is declared
abbrev pub start_value : Start → AbsVal
start_value x = Has false x.kind x.rights

-- the registers of the handles behind the first, from r on
abbrev pub starts_from : ℕ → List Start → List (ℕ × AbsVal)
starts_from r [] = []
starts_from r (x ∷ xs) = (r, start_value x) ∷ starts_from (r + 1) xs

-- the first handle stands in register 0, a word in register 1, further handles from register 2 on
abbrev pub start_results : List Start → List (ℕ × AbsVal)
start_results [] = (1, Word ANY) ∷ []
start_results (x ∷ xs) = (0, start_value x) ∷ (1, Word ANY) ∷ starts_from 2 xs

-- what a process of the program starts with
unfoldable pub start_state : Image → State
start_state i = with_all (replicate register_count (Word 0)) (start_results i.starts)
