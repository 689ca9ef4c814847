-- From what the parts of the engine do to the answer to a text.
use Rattle.zlab.proofs.Common.{Answers, AnswersInput, AnswersSome, Appends, AppendsBeginning, BeginsAnswer, BeginsFiles, BeginsInput, BeginsReader, BeginsRun}
use Rattle.zlab.proofs.Common.{BeginsSome, End, EndsBy, Err, Holds, IfOk, IsAnswer, IsBounded, IsFirstFault, IsLegalHistory, IsRun, IsRunOf, IsStart}
use Rattle.zlab.proofs.Common.{IsTextOf, LineFault, List, None, Ok, OnOk, Option, Result, Some, System, TraceItem, Verdict, Walks, WritesRun, [], ap, arith}
use Rattle.zlab.proofs.Common.{beginning, cause_name, history_text, joined_files, length, no_line, nothing, refl, refusal, refused_line, room_of, some_lines}
use Rattle.zlab.proofs.Common.{states_of, subst, sym, too_long, trace, turns_of, ℕ, ◌++◌, ◌∙◌, ◌≡◌}
use Rattle.std.specs.Prelude.{OnErr}
use Rattle.zl_scenario.specs.declared.cause.Cause.TheVariants as cause
use Rattle.zlab.specs.declared.fault.Verdict.TheVariants as verdict
use Rattle.zlab.specs.declared.input.Input.{Input}
use Rattle.zlab.specs.declared.input.Input.TheVariants as input
use Rattle.zlab.specs.Assembling.{BeginsAssembly, nothing_written}
use Rattle.zl_code.specs.Own.{OwnWorld}
use Rattle.zl_code.specs.OwnHistory.{OwnHistory}
use Rattle.zl_calls.specs.World.{own_here}
use Rattle.zl_sched.proofs.Legal.{ends_legal}
use Rattle.zlab.proofs.SoundWorlds.{always_sound}
use Rattle.zl_scenario.proofs.Programs.{are_verified}
use Rattle.zl_verify.proofs.CoveredRuns.{covered_go_well}

-- ---- facts of a result

module _ {A E : Type 0} where
  pub both_ok : (r : Result A E) (P R : A → Type 0) (Q : Type 0) → ((v : A) → P v → Q → R v) → IfOk r P → OnOk r Q → IfOk r R
  both_ok (Ok v) P R Q gives p q = gives v p q
  both_ok (Err e) P R Q gives p q = tt

  pub mapped_err : (r : Result A E) (P Q : Type 0) → (P → Q) → OnErr r P → OnErr r Q
  mapped_err (Ok v) P Q gives p = tt
  mapped_err (Err e) P Q gives p = gives p

  pub mapped_ok : (r : Result A E) (P R : A → Type 0) → ((v : A) → P v → R v) → IfOk r P → IfOk r R
  mapped_ok (Ok v) P R gives p = gives v p
  mapped_ok (Err e) P R gives p = tt

-- ---- a run

module _ (text : List ℕ) (s : System) (pairs : List (ℕ × ℕ)) (start : IsStart text s pairs) where
  run_of : (e : End) (last : System) (walks : Walks s (turns_of pairs) e last) → IsRunOf text walks.more last.machine.world e
  run_of e last walks = record {
    fits = start.fits;
    said = start.said;
    read = start.read;
    library = s.machine.programs;
    programs = start.programs;
    accepted = start.accepted;
    boot = s.machine.world;
    boots = start.boots;
    legal = legal;
    sound = always_sound s.machine.programs start.said.statements s.machine.world last.machine.world walks.more start.boots.boots legal;
    covered = covered_go_well s.machine.programs start.said.statements s.machine.world
        (are_verified s.machine.programs start.boots.images start.accepted) start.boots
        walks.more;
    own = record {
      begins = ap (λ (o : OwnWorld). o.world) start.own;
      free = last.machine.free;
      own = subst (λ (o : OwnWorld). OwnHistory s.machine.programs o walks.more (own_here last.machine)) start.own walks.own;
    };
    room = omega (arith, walks.room, start.limit, ap length start.items);
    ends = subst (λ (turns : List (ℕ × ℕ)). EndsBy s.machine.programs s.machine.world (turns_of turns) start.said.limit walks.more
        last.machine.world e) start.schedule
        (subst (λ (limit : ℕ). EndsBy s.machine.programs s.machine.world (turns_of pairs) limit walks.more last.machine.world e) room walks.ends);
  }
    where
      legal : IsLegalHistory s.machine.programs s.machine.world walks.more last.machine.world
      legal = ends_legal s.machine.programs s.machine.world (turns_of pairs) (room_of s) walks.more last.machine.world e walks.ends

      room : room_of s ≡ start.said.limit
      room = omega (arith, start.limit, ap length start.items)

  answer_of : (lines : List ℕ) → IsRun s pairs lines → IsAnswer text verdict.Done lines
  answer_of lines run =
      let items : run.walks.more ≡ run.last.items = sym (run.walks.adds.items ∙ ap (λ (xs : List TraceItem). xs ++ run.walks.more) start.items) in
      subst (IsAnswer text verdict.Done) (ap (λ (xs : List TraceItem). history_text xs (states_of run.last.machine.world) run.end) items ∙ sym run.lines_are)
      (trace run.walks.more run.last.machine.world run.end (run_of run.end run.last run.walks))

  pub run_answers : (v : Verdict) (old new : Option (List ℕ)) → v ≡ verdict.Done → WritesRun s pairs old new → Answers text v old new
  run_answers v old new is wrote = record { lines = wrote.lines; is_answer = rw is (answer_of wrote.lines wrote.is_run); written = wrote.written }

  pub run_begins : (old new : Option (List ℕ)) → BeginsRun s pairs old new → BeginsAnswer text old new
  run_begins old _ no_line = nothing
  run_begins old _ (some_lines lines new run begun) = beginning verdict.Done lines new (answer_of lines run) begun

-- ---- a refusal

module _ (text : List ℕ) (fault : LineFault) (first : IsFirstFault text fault) where
  pub refusal_answers : (v : Verdict) (old new : Option (List ℕ)) → v ≡ verdict.Refused → Appends old new (refused_line fault.line (cause_name fault.cause))
      → Answers text v old new
  refusal_answers v old new is wrote =
      record { lines = refused_line fault.line (cause_name fault.cause); is_answer = rw is (refusal fault first); written = wrote }

  pub refusal_begins : (old new : Option (List ℕ)) → AppendsBeginning old new (refused_line fault.line (cause_name fault.cause)) → BeginsAnswer text old new
  refusal_begins old new begun = beginning verdict.Refused (refused_line fault.line (cause_name fault.cause)) new (refusal fault first) begun

-- ---- what a reader had

abbrev TOO_LONG : LineFault
TOO_LONG = record { line = 0; cause = cause.Limit }

module _ (read : Input) (old new : Option (List ℕ)) where
  pub long_answers : (v : Verdict) → read ≡ input.TooLong → v ≡ verdict.Refused → Appends old new (refused_line 0 (cause_name cause.Limit))
      → AnswersInput read v old new
  long_answers v long refused wrote text holds = refusal_answers text TOO_LONG (too_long (rw long at holds)) v old new refused wrote

  pub long_begins : read ≡ input.TooLong → AppendsBeginning old new (refused_line 0 (cause_name cause.Limit)) → BeginsInput read old new
  long_begins long begun text holds = refusal_begins text TOO_LONG (too_long (rw long at holds)) old new begun

-- of a text that isn't
module _ (read : Input) (items : List ℕ) (same : (text : List ℕ) → Holds text read → items ≡ text) (old new : Option (List ℕ)) where
  pub text_answers : (v : Verdict) → Answers items v old new → AnswersInput read v old new
  text_answers v answers text holds = subst (λ t. Answers t v old new) (same text holds) answers

  pub text_begins : BeginsAnswer items old new → BeginsInput read old new
  text_begins begun text holds = subst (λ t. BeginsAnswer t old new) (same text holds) begun

-- a text that was read is bounded
pub is_bounded : (text : List ℕ) (read : Input) → Holds text read → IsBounded read
is_bounded text (input.Text bytes) holds = rw holds.0 holds.1
is_bounded text input.TooLong holds = tt

-- where the answer to what was read is known, so is that to the text of which it was read
module _ {IsSource : List ℕ → Type 0} (text : List ℕ) (read : Input) (is_text : IsSource text) (holds : Holds text read) (old new : Option (List ℕ)) where
  pub source_answers : (v : Verdict) → AnswersInput read v old new → AnswersSome IsSource v old new
  source_answers v answers = record { text = text; is_text = is_text; answers = answers text holds }

  pub source_begins : BeginsInput read old new → BeginsSome IsSource old new
  source_begins begins = record { text = text; is_text = is_text; begins = begins text holds }

-- the text that a reader had, or any where it tells none
abbrev text_of : Option (List ℕ) → List ℕ
text_of None = []
text_of (Some left) = left

-- it is such a text
is_text_of : (told : Option (List ℕ)) → IsTextOf told (text_of told)
is_text_of None = record { those_told = tt }
is_text_of (Some left) = record { those_told = refl }

-- where nothing is written, it is a beginning of an answer
pub reader_unanswered : (told old : Option (List ℕ)) → BeginsReader told old old
reader_unanswered told old = record { text = text_of told; is_text = is_text_of told; begins = nothing }

-- the same with two readers
pub files_unanswered : (told_scenario told_schedule old : Option (List ℕ)) → BeginsFiles told_scenario told_schedule old old
files_unanswered told_scenario told_schedule old = record {
  text = joined_files (text_of told_scenario) (text_of told_schedule);
  is_text = record {
    scenario = text_of told_scenario;
    schedule = text_of told_schedule;
    is_scenario = is_text_of told_scenario;
    is_schedule = is_text_of told_schedule;
    is_joined = refl;
  };
  begins = nothing;
}

-- the same with two writers
pub text_unanswered : (told old_image old_line : Option (List ℕ)) → BeginsAssembly told old_image old_image old_line old_line
text_unanswered told old_image old_line = record { text = text_of told; is_text = is_text_of told; begins = nothing_written }
