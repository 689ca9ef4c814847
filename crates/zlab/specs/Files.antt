-- A scenario and a schedule from two readers, as one input of the step engine.
use Rattle.std.specs.Prelude.{ℕ, ◌≡◌, ◌-◌, ◌==◌, Bool, List, ◌++◌, codes, length, Option, slice_get, if◌then◌else◌}
use Rattle.std.specs.Option.{unwrap_or}
use Rattle.zlab.specs.declared.fault.Verdict.{Verdict}
use Rattle.zlab.specs.declared.input.Input.{Input}
use Rattle.zlab.specs.Engine.{AnswersSome, BeginsSome, IsTextOf}
use Rattle.zlab.specs.Input.{Holds}

-- the last line of the text ends with a line feed; where there is no byte, no line is left open
abbrev pub is_ended : List ℕ → Bool
is_ended text = unwrap_or (slice_get text (length text - 1)) 10 == 10

-- the text with an end of its last line
abbrev pub ended : List ℕ → List ℕ
ended text = if is_ended text then text else text ++ codes "\n"

-- the scenario and the schedule, with a line `--` between them
abbrev pub joined_files : List ℕ → List ℕ → List ℕ
joined_files scenario schedule = ended scenario ++ (codes "--\n" ++ schedule)

-- the text is that of a scenario and a schedule which two readers had, as far as they tell
pub record AreJoined (told_scenario told_schedule : Option (List ℕ)) (text : List ℕ) : Type 0 where
  pub scenario : List ℕ
  pub schedule : List ℕ
  pub is_scenario : IsTextOf told_scenario scenario
  pub is_schedule : IsTextOf told_schedule schedule
  pub is_joined : text ≡ joined_files scenario schedule

-- the input is that of both readers
pub record IsInputOfFiles (told_scenario told_schedule : Option (List ℕ)) (read : Input) : Type 0 where
  pub text : List ℕ
  pub are_joined : AreJoined told_scenario told_schedule text
  pub holds : Holds text read

-- what was read of both is the input of the two texts
abbrev pub JoinsInputs : (scenario schedule read : Input) → Type 0
JoinsInputs scenario schedule read = (a b : List ℕ) → Holds a scenario → Holds b schedule → Holds (joined_files a b) read

-- the writer got an answer to what both readers had
abbrev pub AnswersFiles : (told_scenario told_schedule : Option (List ℕ)) → Verdict → (old new : Option (List ℕ)) → Type 0
AnswersFiles told_scenario told_schedule = AnswersSome (AreJoined told_scenario told_schedule)

-- the writer got a beginning of such an answer, or nothing
abbrev pub BeginsFiles : (told_scenario told_schedule old new : Option (List ℕ)) → Type 0
BeginsFiles told_scenario told_schedule = BeginsSome (AreJoined told_scenario told_schedule)
