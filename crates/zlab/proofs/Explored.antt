-- From what a search has written to the answer to a text.
use Rattle.zlab.proofs.Common.{Appends, AppendsBeginning, IsFirstFault, IsTextOf, LineFault, List, Option, Verdict, ap, cause_name, refused_line, subst, ℕ, ◌≡◌}
use Rattle.zl_code.specs.Headline.{IsSizedBoot}
use Rattle.zl_code.specs.Own.{OwnWorld}
use Rattle.zl_calls.specs.World.{Machine, own_here}
use Rattle.zlab.specs.Ends.{BeginsEnds, IsSearchText, Sought, WritesEnds, no_end, some_ends}
use Rattle.zlab.specs.Exploring.{BeginsExplored, Explores, IsBegun, IsSearchOf, ends, refusal, some_explored, unexplored}
use Rattle.zlab.specs.declared.fault.Verdict.TheVariants as verdict

module _ (told : Option (List ℕ)) (text : List ℕ) (is_text : IsTextOf told text) (asked : Sought) where
  module _ (m : Machine) (limit : ℕ) (begun : IsBegun text m limit) where
    search_of : (v : Verdict) (lines : List ℕ) → IsSearchText m.programs (own_here m) asked limit v lines → IsSearchOf text asked v lines
    search_of v lines search = record {
      fits = begun.fits;
      said = begun.said;
      read = begun.read;
      library = m.programs;
      programs = begun.programs;
      accepted = begun.accepted;
      boots = subst (IsSizedBoot m.programs begun.said.statements) (ap (λ (o : OwnWorld). o.world) begun.own) begun.boots;
      is_text = subst (λ o. IsSearchText m.programs o asked begun.said.limit v lines) begun.own
          (subst (λ (most : ℕ). IsSearchText m.programs (own_here m) asked most v lines) begun.limit_is search);
    }

    pub ends_explore : (v : Verdict) (old new : Option (List ℕ)) → WritesEnds m.programs (own_here m) asked limit v old new → Explores told asked v old new
    ends_explore v old new wrote = record {
      text = text;
      is_text = is_text;
      lines = wrote.lines;
      is_answer = ends v wrote.lines (search_of v wrote.lines wrote.is_text);
      written = wrote.written;
    }

    pub ends_begin : (old new : Option (List ℕ)) → BeginsEnds m.programs (own_here m) asked limit old new → BeginsExplored told asked old new
    ends_begin old _ no_end = unexplored
    ends_begin old _ (some_ends v lines new search started) = some_explored text v lines new is_text (ends v lines (search_of v lines search)) started

  module _ (fault : LineFault) (first : IsFirstFault text fault) where
    pub refusal_explores : (v : Verdict) (old new : Option (List ℕ)) → v ≡ verdict.Refused
        → Appends old new (refused_line fault.line (cause_name fault.cause)) → Explores told asked v old new
    refusal_explores v old new is wrote = record {
      text = text;
      is_text = is_text;
      lines = refused_line fault.line (cause_name fault.cause);
      is_answer = rw is (refusal fault first);
      written = wrote;
    }

    pub refusal_explores_begun : (old new : Option (List ℕ)) → AppendsBeginning old new (refused_line fault.line (cause_name fault.cause))
        → BeginsExplored told asked old new
    refusal_explores_begun old new started =
        some_explored text verdict.Refused (refused_line fault.line (cause_name fault.cause)) new is_text (refusal fault first) started
