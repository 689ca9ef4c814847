-- How a call examines its handle operands, and what the policy of its job says to faults and to new objects.
use Rattle.std.specs.List.{list_any}
use Rattle.std.specs.Prelude.{ℕ, Bool, ◌&&◌, ◌==◌, List, [], ◌∷◌, Option, Some, None, Result, Ok, Err, if◌then◌else◌}
use Rattle.zl_rights.specs.Common.{World}
use Rattle.zl_rights.specs.LookUp.{granted}
use Rattle.zl_rights.specs.Numbers.{BY_POLICY}
use Rattle.zl_rights.specs.declared.entry.Entry.{Entry}
use Rattle.zl_rights.specs.declared.kind.Kind.{Kind}
use Rattle.zl_rights.specs.declared.policy.Action.{Action}
use Rattle.zl_rights.specs.declared.policy.Action.TheVariants as action
use Rattle.zl_rights.specs.declared.policy.Condition.{Condition}
use Rattle.zl_rights.specs.declared.policy.Condition.TheVariants as condition
use Rattle.zl_rights.specs.declared.status.Status.{Status}
use Rattle.zl_rights.specs.declared.status.Status.TheVariants as status
use Rattle.zl_code.specs.declared.history.Outcome.{Outcome}
use Rattle.zl_code.specs.declared.history.Outcome.TheVariants as outcome
use Rattle.zl_code.specs.First.{first_some}
use Rattle.zl_code.specs.Tests.{action_of, entry_at, parent_of}

-- ---- policy

-- the answer, unless the action kills the caller for it
abbrev pub ends_if_kill : Action → Outcome → Outcome
ends_if_kill action.Kill o = outcome.Ended BY_POLICY
ends_if_kill _ o = o

-- a fault, or the end where the policy of the caller's job kills for it
abbrev pub faults : World → ℕ → Condition → Status → Option Outcome
faults w p c s = Some (ends_if_kill (action_of w (parent_of w p) c) (outcome.Answered s))

-- how the action keeps a caller from making an object, if it does
abbrev pub unless_allowed : Action → Option Outcome
unless_allowed action.Allow = None
unless_allowed action.Deny = Some (outcome.Answered status.AccessDenied)
unless_allowed action.Kill = Some (outcome.Ended BY_POLICY)

-- what the policy of the caller's job says to making such an object
unfoldable pub creates : World → ℕ → Condition → Option Outcome
creates w p c = unless_allowed (action_of w (parent_of w p) c)

-- the same of a call; one that makes no object asks no policy
abbrev pub by_policy : World → ℕ → Option Condition → Option Outcome
by_policy w p None = None
by_policy w p (Some c) = creates w p c

-- ---- handle operands

-- A handle operand: its value, the kinds and rights that it needs, and whether the call takes it away.
pub record Operand : Type 0 where
  pub value : ℕ
  -- none: any kind
  pub kinds : List Kind
  pub needed : ℕ
  -- gone on every answer
  pub is_taken : Bool
  -- 0 passes, and names nothing
  pub may_be_zero : Bool

-- handles of any kind will do
abbrev pub any : List Kind
any = []

-- what a look-up comes to in a call: where there is no handle, or one of the wrong kind, a policy may end the process
abbrev pub by_look_up : World → ℕ → Result Entry Status → Option Outcome
by_look_up w p (Ok e) = None
by_look_up w p (Err status.BadHandle) = faults w p condition.BadHandle status.BadHandle
by_look_up w p (Err status.WrongType) = faults w p condition.WrongObject status.WrongType
by_look_up w p (Err s) = Some (outcome.Answered s)

-- the fault of a handle operand
abbrev pub operand_of : World → ℕ → List Kind → ℕ → Option Entry → Option Outcome
operand_of w p kinds needed e = by_look_up w p (granted e kinds needed)

-- the handle h has to be live, of such a kind, and with the needed rights
unfoldable pub operand : World → ℕ → List Kind → ℕ → ℕ → Option Outcome
operand w p kinds needed h = operand_of w p kinds needed (entry_at w p h)

-- the value is one of these
abbrev pub contains : List ℕ → ℕ → Bool
contains xs x = list_any (λ y. y == x) xs

-- the fault of an operand, where the call has taken the values that were seen
abbrev pub operand_after : World → ℕ → List ℕ → Operand → Option Outcome
operand_after w p seen o =
    if o.may_be_zero && (o.value == 0) then None
    else (if o.is_taken && contains seen o.value then faults w p condition.BadHandle status.BadHandle
    else operand w p o.kinds o.needed o.value)

-- the values taken so far, and this one if it is taken too
abbrev pub seen_after : List ℕ → Operand → List ℕ
seen_after seen o = if o.is_taken then o.value ∷ seen else seen

-- from left to right, where a taken value that was taken before isn't live any more
unfoldable pub examined : World → ℕ → List ℕ → List Operand → Option Outcome
examined w p seen [] = None
examined w p seen (o ∷ os) = first_some (operand_after w p seen o ∷ examined w p (seen_after seen o) os ∷ [])
