-- What the engine of a run on threads answers to a scenario.
use Rattle.std.specs.Prelude.{ℕ, ◌≡◌, ◌<◌, ◌≤◌, ◌-◌, false, List, length, Option, Some, None}
use Rattle.std.specs.Io.KnownBytes.{Appends}
use Rattle.zl_code.specs.Common.{World, is_process, is_ready, Library, IsLegalHistory, IsSound}
use Rattle.zl_code.specs.declared.boot.Statement.{Statement}
use Rattle.zl_code.specs.declared.history.TraceItem.{TraceItem}
use Rattle.zl_code.specs.Headline.{IsSizedBoot, CoveredGoWell}
use Rattle.zl_scenario.specs.declared.cause.LineFault.{LineFault}
use Rattle.zl_scenario.specs.Causes.{cause_name}
use Rattle.zl_sched.specs.declared.system.End.{End}
use Rattle.zl_sched.specs.declared.system.End.TheVariants as end
use Rattle.zl_sched.specs.Opening.{GoesOn, opening_of}
use Rattle.zl_sched.specs.System.{System, AreSafe}
use Rattle.zl_pool.specs.declared.pool.RunEnd.{RunEnd}
use Rattle.zl_pool.specs.declared.pool.RunEnd.TheVariants as run
use Rattle.zl_trace.specs.Output.{AppendsBeginning}
use Rattle.zl_trace.specs.Text.{states_of, history_text, trace_text}
use Rattle.zlab.specs.declared.fault.Verdict.{Verdict}
use Rattle.zlab.specs.declared.fault.Verdict.TheVariants as verdict
use Rattle.zlab.specs.declared.running.Started.{Started}
use Rattle.zlab.specs.declared.running.Started.TheVariants as started
use Rattle.zlab.specs.Engine.{InEachWorld, IsFirstFaultBy, IsOwnHistory, IsTextOf}
use Rattle.zlab.specs.Replay.{IsScenarioOf, fault_alone}
use Rattle.zlab.specs.Text.{refused_line}

-- ---- a trace

-- where a run rests: quiet only where no process is ready, at the limit only with less than two free places, else for want of memory
abbrev pub RestsBy : ℕ → List TraceItem → World → End → Type 0
RestsBy limit items w end.Quiet = (k : ℕ) → is_process w is_ready k ≡ false
RestsBy limit items w end.Limit = limit - length items < 2
RestsBy limit items w end.Memory = Unit {0}
RestsBy limit items w end.Schedule = ⊥

-- The items are a legal history from a boot world of the scenario in the text, within the limit, behind which a run rests so. Neither
-- the text nor a line of it is at fault.
pub record IsThreadRunOf (text : List ℕ) (limit : ℕ) (items : List TraceItem) (w : World) (e : End) : Type 0 where
  -- its programs with their marks; each checked one has a typing and a step bound of it
  pub library : Library
  pub statements : List Statement
  pub scenario : IsScenarioOf text library statements
  pub boot : World
  pub boots : IsSizedBoot library statements boot
  pub legal : IsLegalHistory library boot items w
  -- no process of a checked program is answered BAD_HANDLE, WRONG_TYPE or ACCESS_DENIED, is stuck, ended by a policy or past its
  -- budget, until somebody kills it
  pub covered : CoveredGoWell library boot items
  -- no two handles stand at one place, none has a right that its kind doesn't give, and each names an object that is there
  pub sound : InEachWorld IsSound library boot items w legal
  pub own : IsOwnHistory library statements boot items w
  pub room : length items ≤ limit
  pub rests : RestsBy limit items w e

-- ---- the answer

-- the lines are the answer to the text
pub data IsRunAnswer (text : List ℕ) (limit : ℕ) : Verdict → List ℕ → Type 0 where
  run_trace : (items : List TraceItem) (w : World) (e : End) → IsThreadRunOf text limit items w e
      → IsRunAnswer text limit verdict.Done (history_text items (states_of w) e)
  run_refusal : (fault : LineFault) → IsFirstFaultBy fault_alone text fault
      → IsRunAnswer text limit verdict.Refused (refused_line fault.line (cause_name fault.cause))

-- the writer got the answer to what a reader had
pub record AnswersRun (told : Option (List ℕ)) (limit : ℕ) (v : Verdict) (old new : Option (List ℕ)) : Type 0 where
  pub text : List ℕ
  pub is_text : IsTextOf told text
  pub lines : List ℕ
  pub is_answer : IsRunAnswer text limit v lines
  pub written : Appends old new lines

-- the writer got a beginning of such an answer, or nothing
pub data BeginsRunAnswer (told : Option (List ℕ)) (limit : ℕ) (old : Option (List ℕ)) : Option (List ℕ) → Type 0 where
  not_begun : BeginsRunAnswer told limit old old
  begun : (text : List ℕ) (v : Verdict) (lines : List ℕ) (new : Option (List ℕ)) → IsTextOf told text → IsRunAnswer text limit v lines
      → AppendsBeginning old new lines → BeginsRunAnswer told limit old new

-- ---- what the parts of the engine do

-- the system is one of the scenario alone, with this limit
pub record IsOfScenario (text : List ℕ) (limit : ℕ) (s : System) : Type 0 where
  pub scenario : IsScenarioOf text s.machine.programs s.statements
  pub limit_is : s.limit ≡ limit

-- what the text leads to, before the first step
abbrev pub StartsAlone : List ℕ → ℕ → Started → Type 0
StartsAlone text limit (started.Ready s) = IsOfScenario text limit s
StartsAlone text limit (started.Refused fault) = IsFirstFaultBy fault_alone text fault

-- the end that a trace has where a run on threads ends so; there is no trace of another system
abbrev pub end_named : RunEnd → Option End
end_named run.Quiet = Some end.Quiet
end_named run.Limit = Some end.Limit
end_named run.NoMemory = Some end.Memory
end_named run.Mixed = None

-- a system that goes on from s rests so, and the lines are those of its trace
pub record IsRunFrom (s : System) (lines : List ℕ) : Type 0 where
  pub last : System
  pub end : End
  pub goes_on : GoesOn (opening_of s) last
  pub safe : AreSafe last
  pub rests : RestsBy last.limit last.items last.machine.world end
  pub lines_are : lines ≡ trace_text last end

-- the writer got the trace of such a system
pub record WritesThreads (s : System) (old new : Option (List ℕ)) : Type 0 where
  pub lines : List ℕ
  pub is_run : IsRunFrom s lines
  pub written : Appends old new lines

-- the writer got a beginning of such a trace, or nothing
pub data BeginsThreads (s : System) (old : Option (List ℕ)) : Option (List ℕ) → Type 0 where
  no_trace : BeginsThreads s old old
  some_trace : (lines : List ℕ) (new : Option (List ℕ)) → IsRunFrom s lines → AppendsBeginning old new lines → BeginsThreads s old new
