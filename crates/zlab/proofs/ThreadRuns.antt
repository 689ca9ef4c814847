-- What a scenario alone leads to, and the text of a run on threads.
use Rattle.zlab.proofs.Common.{Appends, AppendsBeginning, BootCause, FirstFault, End, FitsInput, IsBoot, IsFirstFaultBy, IsInOrder, IsRead}
use Rattle.zlab.proofs.Common.{IsScenario}
use Rattle.zlab.proofs.Common.{IsStatementFault, IsTextOf, Library, LineFault, List, None, Option, Reading, Some, Statement, System, Verdict, arith, at_limit}
use Rattle.zlab.proofs.Common.{at_statement, cause_name, fault_alone, line_cause, no_trace, not_begun, refl, refused_line, slice_index_or, subst, sym}
use Rattle.zlab.proofs.Common.{trace_text, ℕ, ◌∙◌, ◌≡◌, ◌≤◌}
use Rattle.std.specs.Prelude.{IfSome, IfNone}
use Rattle.std.specs.Option.{unwrap_or}
use Rattle.zl_code.proofs.Common.{World}
use Rattle.zl_code.specs.Common.{MOST_ITEMS}
use Rattle.zl_code.specs.declared.boot.BootCause.TheVariants as boot
use Rattle.zl_scenario.specs.declared.reading.Scenario.{Scenario as Made}
use Rattle.zl_sched.specs.Opening.{GoesOn, Opening, opening_of}
use Rattle.zl_sched.specs.System.{AreSafe}
use Rattle.zl_pool.specs.declared.pool.RunEnd.{RunEnd}
use Rattle.zl_pool.specs.declared.pool.RunEnd.TheVariants as run
use Rattle.zl_pool.specs.Pool.{EndsRun}
use Rattle.zlab.specs.declared.fault.Verdict.TheVariants as verdict
use Rattle.zlab.specs.Running.{AnswersRun, BeginsRunAnswer, BeginsThreads, IsOfScenario, IsRunAnswer, IsRunFrom, RestsBy, WritesThreads, begun, end_named}
use Rattle.zlab.specs.Running.{run_refusal, run_trace, some_trace}
use Rattle.zlab.proofs.Booting.{statement_fault}
use Rattle.zlab.proofs.ReplayFound.{fault_of_reading, fault_of_statement}
use Rattle.zlab.proofs.SoundWorlds.{always_sound}

-- ---- the scenario

-- where the limit isn't too large, a statement's fault is the same with any other
fault_with : (lib : Library) (ss : List Statement) (a b n : ℕ) (c : BootCause) → a ≤ MOST_ITEMS → FirstFault lib ss a n c → FirstFault lib ss b n c
fault_with lib ss a b _ _ within (at_statement made n s c boots at faulty) = at_statement made n s c boots at faulty
fault_with lib ss a b _ _ within (at_limit made boots above) = absurd (omega (arith, within, above))

module _ (text : List ℕ) (fits : FitsInput text) (scenario : Made) (reading : Reading) (reads : IsRead text reading)
    (is : IsScenario reading.said scenario) (order : IsInOrder reading) where
  -- a fault of reading, or an earlier one of a statement
  pub first_of_both : (earlier : Option LineFault) (fault : LineFault)
      → IfSome earlier (IsStatementFault scenario.library scenario.boot.statements.items scenario.boot.limit scenario.lines.items)
      → IfNone earlier ((w : World) × IsBoot scenario.library scenario.boot.statements.items w)
      → fault_alone reading ≡ Some fault → IsFirstFaultBy fault_alone text (unwrap_or earlier fault)
  first_of_both (Some first) fault found none faulty = fault_of_statement text fits scenario reading reads is order first found
  first_of_both None fault found none faulty = fault_of_reading text fits scenario reading reads is order none.0 fault none.1 faulty

  module _ (limit : ℕ) (within : limit ≤ MOST_ITEMS) where
    pub first_of_statements : (n : ℕ) (found : BootCause) (fault : LineFault)
        → ((found ≡ boot.NoMemory → ⊥) → FirstFault scenario.library scenario.boot.statements.items limit n found)
        → line_cause found ≡ Some fault.cause → fault.line ≡ slice_index_or scenario.lines.items n 0 → IsFirstFaultBy fault_alone text fault
    first_of_statements n found fault first named line = statement_fault text fits scenario reading reads is order n found fault
        (λ other. fault_with scenario.library scenario.boot.statements.items limit scenario.boot.limit n found within (first other)) named line

-- ---- a run

some_is : (a b : End) → ◌≡◌ {A = Option End} (Some a) (Some b) → a ≡ b
some_is a b e = cc

-- each end is one where a run rests so
rests : (o : Opening) (ended : RunEnd) (e : End) (last : System) → EndsRun o ended last → end_named ended ≡ Some e
    → GoesOn o last × RestsBy last.limit last.items last.machine.world e
rests o run.Quiet e last (on, idle) is = rw (sym (some_is _ _ is)) (on, idle.none_ready)
rests o run.Limit e last (on, room) is = rw (sym (some_is _ _ is)) (on, room)
rests o run.NoMemory e last on is = rw (sym (some_is _ _ is)) (on, tt)
rests o run.Mixed e last not is = cc

module _ (s last : System) (ended : RunEnd) (e : End) (ends : EndsRun (opening_of s) ended last) (safe : AreSafe last) (is : end_named ended ≡ Some e) where
  is_run : IsRunFrom s (trace_text last e)
  is_run =
      let rested = rests (opening_of s) ended e last ends is in
      record { last = last; end = e; goes_on = rested.0; safe = safe; rests = rested.1; lines_are = refl }

  -- all of its text
  pub threads_written : (a b : Option (List ℕ)) → Appends a b (trace_text last e) → WritesThreads s a b
  threads_written a b written = record { lines = trace_text last e; is_run = is_run; written = written }

  -- a beginning of it
  pub threads_begun : (a b : Option (List ℕ)) → AppendsBeginning a b (trace_text last e) → BeginsThreads s a b
  threads_begun a b started = some_trace (trace_text last e) b is_run started

-- ---- the answer

module _ (told : Option (List ℕ)) (text : List ℕ) (is_text : IsTextOf told text) (limit : ℕ) where
  module _ (s : System) (of : IsOfScenario text limit s) where
    answer_of : (lines : List ℕ) → IsRunFrom s lines → IsRunAnswer text limit verdict.Done lines
    answer_of lines ran = subst (IsRunAnswer text limit verdict.Done) (sym ran.lines_are) (run_trace ran.last.items ran.last.machine.world ran.end (record {
      library = ran.last.machine.programs;
      statements = ran.last.statements;
      scenario = rw (ran.goes_on.programs, ran.goes_on.statements) of.scenario;
      boot = ran.safe.legal.boot;
      boots = ran.safe.legal.sized;
      legal = ran.safe.legal.history;
      covered = ran.safe.covered;
      sound = always_sound ran.last.machine.programs ran.last.statements ran.safe.legal.boot ran.last.machine.world ran.last.items ran.safe.legal.boots.boots
          ran.safe.legal.history;
      own = record { begins = ran.safe.legal.begins; free = ran.last.machine.free; own = ran.safe.legal.own };
      room = omega (arith, ran.safe.legal.room, ran.goes_on.limit, of.limit_is);
      rests = subst (λ (most : ℕ). RestsBy most ran.last.items ran.last.machine.world ran.end) (ran.goes_on.limit ∙ of.limit_is) ran.rests;
    }))

    pub run_answers : (v : Verdict) (old new : Option (List ℕ)) → v ≡ verdict.Done → WritesThreads s old new → AnswersRun told limit v old new
    run_answers v old new is wrote = record {
      text = text;
      is_text = is_text;
      lines = wrote.lines;
      is_answer = rw is (answer_of wrote.lines wrote.is_run);
      written = wrote.written;
    }

    pub run_begins : (old new : Option (List ℕ)) → BeginsThreads s old new → BeginsRunAnswer told limit old new
    run_begins old _ no_trace = not_begun
    run_begins old _ (some_trace lines new ran started) = begun text verdict.Done lines new is_text (answer_of lines ran) started

  module _ (fault : LineFault) (first : IsFirstFaultBy fault_alone text fault) where
    pub refusal_answers : (v : Verdict) (old new : Option (List ℕ)) → v ≡ verdict.Refused
        → Appends old new (refused_line fault.line (cause_name fault.cause)) → AnswersRun told limit v old new
    refusal_answers v old new is wrote = record {
      text = text;
      is_text = is_text;
      lines = refused_line fault.line (cause_name fault.cause);
      is_answer = rw is (run_refusal fault first);
      written = wrote;
    }

    pub refusal_begins : (old new : Option (List ℕ)) → AppendsBeginning old new (refused_line fault.line (cause_name fault.cause))
        → BeginsRunAnswer told limit old new
    refusal_begins old new started = begun text verdict.Refused (refused_line fault.line (cause_name fault.cause)) new is_text (run_refusal fault first) started
