-- Where instructions may lead whatever is known at them, by the code alone. No public clause cites this module.
use Rattle.std.specs.Prelude.{ℕ, ◌≡◌, ◌+◌, ◌<◌, ◌&&◌, List, ◌++◌, length, Option, Some, None, nat_lt, if◌then◌else◌, slice_get}
use Rattle.std.specs.Bool.{then_some}
use Rattle.std.specs.Option.{option_to_list}
use Rattle.zl_code.specs.declared.instr.LocalInstr.{LocalInstr}
use Rattle.zl_code.specs.declared.instr.LocalInstr.TheVariants as local
use Rattle.zl_code.specs.Image.{Image, local_at, call_at}
use Rattle.zl_code.specs.Jumps.{jump}
use Rattle.zl_abs.specs.LocalRules.{goes_round_again}
use Rattle.zl_abs.specs.States.{State}
use Rattle.zl_verify.specs.Lists.{at}
use Rattle.zl_verify.specs.Nested.{places_at, IsPacked}
use Rattle.zl_verify.specs.Leading.{unless_pause}
use Rattle.zl_verify.specs.declared.steps.Longest.{Longest}
use Rattle.zl_verify.specs.declared.steps.Targets.{Targets}
use Rattle.zl_verify.specs.Peaks.{numbers_by}
use Rattle.zl_verify.specs.Steps.{is_pause, IsStepBound}

-- where the local instruction may lead besides the next one: an endrep behind its rep, and a jump to its target
abbrev pub may_jump : LocalInstr → Option ℕ
may_jump (local.EndRep rep) = Some (rep + 1)
may_jump x = jump x

-- where the n-th instruction leads besides the next one: an endrep back, if its block is gone round again and code is behind it
abbrev pub jump_in : Image → ℕ → Option LocalInstr → Option ℕ
jump_in i n None = None
jump_in i n (Some (local.EndRep rep)) = then_some (nat_lt (n + 1) (length i.code) && goes_round_again i.code rep) (rep + 1)
jump_in i n (Some x) = jump x

-- the place, if code of this length has it
abbrev pub place_within : ℕ → Option ℕ → Option ℕ
place_within size None = None
place_within size (Some n) = if nat_lt n size then Some n else None

-- where the n-th instruction may lead, if it is no pause: where it jumps, and to the next one
abbrev pub onward : Image → ℕ → Option LocalInstr → List ℕ
onward i n o = option_to_list (place_within (length i.code) (jump_in i n o)) ++ option_to_list (place_within (length i.code) (Some (n + 1)))

-- where the n-th instruction may lead
abbrev pub ahead : Image → ℕ → List ℕ
ahead i n = unless_pause (is_pause (call_at i n)) (onward i n (local_at i n))

-- each of the first p is where the instruction may lead
pub record AreAhead (i : Image) (targets : List Targets) (p : ℕ) : Type 0 where
  pub long : length targets ≡ length i.code
  pub same : (n : ℕ) → n < p → places_at targets n ≡ ahead i n
  pub packed : (n : ℕ) → n < p → IsPacked (slice_get targets n)

-- the pairs stand for a step bound, whatever is known at the instructions
pub record BoundsAll (i : Image) (pairs : List (Option Longest)) : Type 0 where
  pub bound : (states : List (Option State)) → length states ≡ length i.code → IsStepBound i (at states) (numbers_by i pairs)
