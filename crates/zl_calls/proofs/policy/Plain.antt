-- Calls on which no policy has a say: their answers follow from the caller's table and from the listed answers.
use Rattle.std.specs.Prelude.{ℕ, [], ◌∷◌, Option, Some, None}
use Rattle.zl_code.proofs.Common.{World, handle_operands, listed, table_of}
use Rattle.zl_code.specs.CallTable.{Request}
use Rattle.zl_code.specs.Calls.{CallBy, Choice}
use Rattle.zl_code.specs.First.{first_some}
use Rattle.zl_code.specs.Image.{Library}
use Rattle.zl_code.specs.Request.{Site}
use Rattle.zl_code.specs.declared.history.Outcome.{Outcome}
use Rattle.zl_code.specs.declared.history.Outcome.TheVariants as outcome
use Rattle.zl_rights.specs.declared.status.Status.{Status}
use Rattle.zl_calls.specs.Policed.{operands_fault}

-- the status is answered
abbrev pub answers : Option Status → Option Outcome
answers None = None
answers (Some s) = Some (outcome.Answered s)

-- The answer of a call other than OK: the fault of the first handle operand that has one, from left to right, then the listed answers.
unfoldable pub plain_refusal : Library → World → ℕ → Request → Option Outcome
plain_refusal lib w p request = first_some (answers (operands_fault (table_of w p) [] (handle_operands request)) ∷ listed lib w p request)

-- the call of p in w may end so, with w2
abbrev pub PlainCalls : Library → World → ℕ → Site → Outcome → World → Type 0
PlainCalls lib w p s answer w2 = (choice : Choice) × CallBy lib w p s choice (plain_refusal lib w p s.request) answer w2
