-- What comes of a scenario and a trace, from what their parts give.
use Rattle.zlab.proofs.Common.{FitsInput, IsBoot, IsFirstFaultBy, IsInOrder, IsRead, IsScenario, IsStatementFault, LineFault, List, MOST_INPUT, None}
use Rattle.zlab.proofs.Common.{Reading, Some, Statement, TraceItem, ap, arith, fault_alone, length, length-take, of_reading, subst, take_all}
use Rattle.zlab.proofs.Common.{too_long, ℕ, ◌+◌, ◌<◌, ◌∙◌, ◌≡◌, ◌≤◌}
use Rattle.zl_code.specs.Common.{World}
use Rattle.zl_trace.specs.Reading.{AreLinesOf, IsFirstWrong, item_lines_of}
use Rattle.zl_scenario.specs.declared.cause.Cause.TheVariants as cause
use Rattle.zlab.specs.declared.replaying.Replayed.{Replayed}
use Rattle.zlab.specs.declared.replaying.Replayed.TheVariants as replayed
use Rattle.zl_scenario.specs.declared.reading.Scenario.{Scenario as Made}
use Rattle.zlab.specs.Replay.{Boots, Comes, HasItems, IsScenarioOf, IsTraceFault, IsTrueOf, MOST_TRACE, trace_front}
use Rattle.zlab.specs.Replay.{wrong, too_long as trace_too_long}
use Rattle.zlab.proofs.Booting.{statement_fault}
use Rattle.zlab.proofs.SoundWorlds.{always_sound}
use Rattle.zl_scenario.proofs.Programs.{are_verified}
use Rattle.zl_verify.proofs.CoveredRuns.{covered_go_well}

-- ---- the scenario

module _ (text : List ℕ) (fits : FitsInput text) (scenario : Made) (reading : Reading) (reads : IsRead text reading) (is : IsScenario reading.said scenario)
    (order : IsInOrder reading) where
  pub fault_of_statement : (fault : LineFault) → IsStatementFault scenario.library scenario.boot.statements.items scenario.boot.limit scenario.lines.items fault
      → IsFirstFaultBy fault_alone text fault
  fault_of_statement fault faulty =
      statement_fault text fits scenario reading reads is order faulty.number faulty.found fault (λ _. faulty.first) faulty.named faulty.line

  pub fault_of_reading : (w : World) (fault : LineFault) → IsBoot scenario.library scenario.boot.statements.items w → fault_alone reading ≡ Some fault
      → IsFirstFaultBy fault_alone text fault
  fault_of_reading w fault boots faulty =
      of_reading reading scenario.library w fault fits reads is.programs
      (subst (λ (ss : List Statement). IsBoot scenario.library ss w) is.statements boots) faulty

  -- reading finds no fault
  module _ (no_fault : fault_alone reading ≡ None) where
    scenario_of : IsScenarioOf text scenario.library scenario.boot.statements.items
    scenario_of =
        record { fits = fits; reading = reading; read = reads; no_fault = no_fault; programs = is.programs; accepted = is.accepted; same = is.statements }

    pub boots_of : (w : World) → IsBoot scenario.library scenario.boot.statements.items w → Boots text
    boots_of w boots = record { library = scenario.library; statements = scenario.boot.statements.items; scenario = scenario_of; boot = w; boots = boots }

    pub comes_of : (trace : List ℕ) (items : List TraceItem) (found : Replayed) → HasItems trace items
        → Comes scenario.library scenario.boot.statements.items scenario.boot.limit scenario.lines.items items found → IsTrueOf text trace found
    comes_of trace items (replayed.All n) has (count, (last, done)) = (
      items,
      has,
      count,
      record {
        library = scenario.library;
        statements = scenario.boot.statements.items;
        scenario = scenario_of;
        boot = done.boot;
        boots = done.sized;
        last = last.world;
        legal = done.legal;
        covered = covered_go_well scenario.library scenario.boot.statements.items done.boot (are_verified scenario.library done.sized.images is.accepted)
            done.sized items;
        sound = always_sound scenario.library scenario.boot.statements.items done.boot last.world items done.sized.boots done.legal;
        own = record { begins = done.begins; free = last.free; own = done.own };
      },
    )
    comes_of trace items (replayed.Differs n) has differs = (
      items,
      has,
      record {
        library = scenario.library;
        statements = scenario.boot.statements.items;
        scenario = scenario_of;
        limit = scenario.boot.limit;
        differs = differs;
      },
    )
    comes_of trace items (replayed.Refused fault) has faulty = fault_of_statement fault faulty
    comes_of trace items (replayed.RefusedTrace fault) has none = absurd none

-- more bytes than an input may have
pub fault_of_length : (text : List ℕ) → MOST_INPUT < length text → IsFirstFaultBy fault_alone text (record { line = 0; cause = cause.Limit })
fault_of_length text long = too_long long

-- ---- the trace

pub long_trace : (front trace : List ℕ) → front ≡ trace_front trace → MOST_TRACE < length front → IsTraceFault trace (record { line = 0; cause = cause.Limit })
long_trace front trace is long = trace_too_long (omega (arith, long, ap length is, length-take (MOST_TRACE + 1) trace))

module _ (front trace : List ℕ) (is : front ≡ trace_front trace) (short : length front ≤ MOST_TRACE) where
  fits_trace : length trace ≤ MOST_TRACE
  fits_trace = omega (arith, short, ap length is, length-take (MOST_TRACE + 1) trace)

  all_read : front ≡ trace
  all_read = is ∙ take_all (MOST_TRACE + 1) trace (omega (arith, fits_trace))

  pub has_items : (items : List TraceItem) → AreLinesOf (item_lines_of front) items → HasItems trace items
  has_items items lines = record { fits = fits_trace; lines = subst (λ (bytes : List ℕ). AreLinesOf (item_lines_of bytes) items) all_read lines }

  pub wrong_line : (n : ℕ) → IsFirstWrong front n → IsTraceFault trace (record { line = n; cause = cause.Syntax })
  wrong_line n first = wrong n fits_trace (subst (λ (bytes : List ℕ). IsFirstWrong bytes n) all_read first)
