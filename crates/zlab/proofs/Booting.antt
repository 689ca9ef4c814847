-- What the text leads to before the first step.
use Rattle.zlab.proofs.Common.{BootCause, FirstFault, FitsInput, IsBoot, IsFirstFault, IsFirstFaultBy, IsInOrder, IsRead, IsScenario, IsStart, LineFault, List}
use Rattle.zlab.proofs.Common.{None, Option, Reading, Some, Statement, System, [], ap, arith, at_limit, at_statement, get_or, length, line_cause, none-some}
use Rattle.zlab.proofs.Common.{of_reading, of_statement, slice_get, slice_get-get_or, slice_index_or, subst, sym, ℕ, ◌<◌, ◌∙◌, ◌≡◌}
use Rattle.zl_code.proofs.Common.{World}
use Rattle.zl_code.specs.Headline.{IsSizedBoot}
use Rattle.zl_code.specs.OwnBoot.{own_boot}
use Rattle.zl_calls.specs.World.{Machine, own_here}
use Rattle.std.proofs.lemmas.Option.{slice_get_within}
use Rattle.zl_code.specs.declared.boot.BootCause.TheVariants as boot
use Rattle.zl_scenario.specs.declared.cause.Cause.{Cause}
use Rattle.zlab.specs.Exploring.{IsBegun}
use Rattle.zl_scenario.specs.declared.reading.Scenario.{Scenario as Made}

-- only a want of memory has no line
other_than_memory : (found : BootCause) (c : Cause) → line_cause found ≡ Some c → found ≡ boot.NoMemory → ⊥
other_than_memory found c named is = none-some c (sym (ap line_cause is) ∙ named)

module _ (text : List ℕ) (fits : FitsInput text) (scenario : Made) (reading : Reading) (reads : IsRead text reading) (is : IsScenario reading.said scenario)
    (order : IsInOrder reading) where
  line_at : (n line : ℕ) → n < length reading.said.statements → line ≡ slice_index_or scenario.lines.items n 0 → slice_get reading.said.lines n ≡ Some line
  line_at n line some read =
      slice_get-get_or reading.said.lines n 0 (omega (arith, some, order.placed))
      ∙ ap (λ (x : ℕ). Some x) (sym (read ∙ ap (λ (xs : List ℕ). get_or xs n 0) is.lines))

  pub statement_fault : {fault_of : Reading → Option LineFault} (n : ℕ) (found : BootCause) (fault : LineFault)
      → ((found ≡ boot.NoMemory → ⊥) → FirstFault scenario.library scenario.boot.statements.items scenario.boot.limit n found)
      → line_cause found ≡ Some fault.cause → fault.line ≡ slice_index_or scenario.lines.items n 0 → IsFirstFaultBy fault_of text fault
  statement_fault n found fault first named read =
      let faulty : FirstFault scenario.library reading.said.statements reading.said.limit n found
      = subst (λ (limit : ℕ). FirstFault scenario.library reading.said.statements limit n found) is.limit
      (subst (λ (ss : List Statement). FirstFault scenario.library ss scenario.boot.limit n found) is.statements
      (first (other_than_memory found fault.cause named))) in
      of_statement reading scenario.library n found fault fits reads is.programs faulty (line_at n fault.line (at_first n found faulty) read) named
    where
      at_first : (n : ℕ) (found : BootCause) → FirstFault scenario.library reading.said.statements reading.said.limit n found
          → n < length reading.said.statements
      at_first _ _ (at_statement made n s c boots at faulty) = slice_get_within reading.said.statements n s at
      at_first _ _ (at_limit made boots above) = absurd (omega (arith, above, order.limit))

  pub reading_fault : (w : World) (fault : LineFault) → IsBoot scenario.library scenario.boot.statements.items w → reading.fault ≡ Some fault
      → IsFirstFault text fault
  reading_fault w fault boots faulty =
      of_reading reading scenario.library w fault fits reads is.programs
      (subst (λ (ss : List Statement). IsBoot scenario.library ss w) is.statements boots) faulty

  pub is_start : (s : System) (pairs : List (ℕ × ℕ)) → reading.fault ≡ None → s.machine.programs ≡ scenario.library
      → IsSizedBoot scenario.library scenario.boot.statements.items s.machine.world
      → own_here s.machine ≡ own_boot scenario.library scenario.boot.statements.items
      → s.items ≡ [] → s.out ≡ [] → s.limit ≡ scenario.boot.limit → pairs ≡ scenario.schedule.items → IsStart text s pairs
  is_start s pairs no_fault programs boots own items out limit schedule = record {
    fits = fits;
    said = reading.said;
    read = subst (λ (f : Option LineFault). IsRead text (record { said = reading.said; fault = f })) no_fault reads;
    programs = rw programs is.programs;
    accepted = rw programs is.accepted;
    boots = rw programs (subst (λ (ss : List Statement). IsSizedBoot scenario.library ss s.machine.world) is.statements boots);
    own = rw programs (own ∙ ap (own_boot scenario.library) is.statements);
    items = items;
    out = out;
    limit = limit ∙ is.limit;
    schedule = schedule ∙ is.schedule;
  }

  pub is_begun : (m : Machine) → reading.fault ≡ None → m.programs ≡ scenario.library
      → IsSizedBoot scenario.library scenario.boot.statements.items m.world
      → own_here m ≡ own_boot scenario.library scenario.boot.statements.items → IsBegun text m scenario.boot.limit
  is_begun m no_fault programs boots own = record {
    fits = fits;
    said = reading.said;
    read = subst (λ (f : Option LineFault). IsRead text (record { said = reading.said; fault = f })) no_fault reads;
    programs = rw programs is.programs;
    accepted = rw programs is.accepted;
    boots = rw programs (subst (λ (ss : List Statement). IsSizedBoot scenario.library ss m.world) is.statements boots);
    own = rw programs (own ∙ ap (own_boot scenario.library) is.statements);
    limit_is = is.limit;
  }
