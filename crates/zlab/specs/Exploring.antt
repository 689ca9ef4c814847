-- What the engine of a search over all orders answers to a scenario.
use Rattle.std.specs.Prelude.{ℕ, ◌≡◌, List, Option, None}
use Rattle.std.specs.Io.KnownBytes.{Appends}
use Rattle.zl_code.specs.Common.{Library}
use Rattle.zl_code.specs.Headline.{IsSizedBoot}
use Rattle.zl_code.specs.OwnBoot.{own_boot}
use Rattle.zl_calls.specs.World.{Machine, own_here}
use Rattle.zl_scenario.specs.Causes.{cause_name}
use Rattle.zl_scenario.specs.Reading.{Lists, AreAccepted}
use Rattle.zl_scenario.specs.Reads.{IsRead}
use Rattle.zl_scenario.specs.Scenario.{Scenario}
use Rattle.zl_scenario.specs.declared.cause.LineFault.{LineFault}
use Rattle.zl_trace.specs.Output.{AppendsBeginning}
use Rattle.zlab.specs.declared.exploring.Begun.{Begun}
use Rattle.zlab.specs.declared.exploring.Begun.TheVariants as begun
use Rattle.zlab.specs.declared.fault.Verdict.{Verdict}
use Rattle.zlab.specs.declared.fault.Verdict.TheVariants as verdict
use Rattle.zlab.specs.Ends.{IsSearchText, Sought}
use Rattle.zlab.specs.Engine.{IsFirstFault, IsTextOf}
use Rattle.zlab.specs.Input.{FitsInput}
use Rattle.zlab.specs.Text.{refused_line}

-- The lines are those of a search over all orders of the scenario in the text, from the lab's own boot world, for what is asked. Neither the
-- text nor a line of it is at fault; its schedule doesn't count.
pub record IsSearchOf (text : List ℕ) (asked : Sought) (v : Verdict) (lines : List ℕ) : Type 0 where
  pub fits : FitsInput text
  pub said : Scenario
  pub read : IsRead text (record { said = said; fault = None })
  -- its programs with their marks; each checked one has a typing and a step bound of it
  pub library : Library
  pub programs : Lists said.programs library
  pub accepted : AreAccepted library
  pub boots : IsSizedBoot library said.statements (own_boot library said.statements).world
  pub is_text : IsSearchText library (own_boot library said.statements) asked said.limit v lines

-- the lines are the answer to the text
pub data IsExplored (text : List ℕ) (asked : Sought) : Verdict → List ℕ → Type 0 where
  ends : (v : Verdict) (lines : List ℕ) → IsSearchOf text asked v lines → IsExplored text asked v lines
  refusal : (fault : LineFault) → IsFirstFault text fault → IsExplored text asked verdict.Refused (refused_line fault.line (cause_name fault.cause))

-- the writer got the answer to what a reader had
pub record Explores (told : Option (List ℕ)) (asked : Sought) (v : Verdict) (old new : Option (List ℕ)) : Type 0 where
  pub text : List ℕ
  pub is_text : IsTextOf told text
  pub lines : List ℕ
  pub is_answer : IsExplored text asked v lines
  pub written : Appends old new lines

-- the writer got a beginning of such an answer, or nothing
pub data BeginsExplored (told : Option (List ℕ)) (asked : Sought) (old : Option (List ℕ)) : Option (List ℕ) → Type 0 where
  unexplored : BeginsExplored told asked old old
  some_explored : (text : List ℕ) (v : Verdict) (lines : List ℕ) (new : Option (List ℕ)) → IsTextOf told text → IsExplored text asked v lines
      → AppendsBeginning old new lines → BeginsExplored told asked old new

-- ---- what the parts of the engine do

-- the machine stands in the lab's own boot world of the text, whose limit is this one
pub record IsBegun (text : List ℕ) (m : Machine) (limit : ℕ) : Type 0 where
  pub fits : FitsInput text
  pub said : Scenario
  pub read : IsRead text (record { said = said; fault = None })
  pub programs : Lists said.programs m.programs
  pub accepted : AreAccepted m.programs
  pub boots : IsSizedBoot m.programs said.statements m.world
  pub own : own_here m ≡ own_boot m.programs said.statements
  pub limit_is : limit ≡ said.limit

-- what the text leads to, before the search
abbrev pub Begins : List ℕ → Begun → Type 0
Begins text (begun.World m limit) = IsBegun text m limit
Begins text (begun.Refused fault) = IsFirstFault text fault
