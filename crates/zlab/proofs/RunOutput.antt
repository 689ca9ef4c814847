-- What a writer got of the text of a run.
use Rattle.zlab.proofs.Common.{Appends, AppendsBeginning, BeginsRun, End, IsRun, List, Option, System, Walks, WritesRun, refl, some_lines, trace_text}
use Rattle.zlab.proofs.Common.{turns_of, ℕ}

module _ (s last : System) (pairs : List (ℕ × ℕ)) (e : End) (walks : Walks s (turns_of pairs) e last) where
  is_run : IsRun s pairs (trace_text last e)
  is_run = record { last = last; end = e; walks = walks; lines_are = refl }

  -- all of it
  pub run_written : (a b : Option (List ℕ)) → Appends a b (trace_text last e) → WritesRun s pairs a b
  run_written a b written = record { lines = trace_text last e; is_run = is_run; written = written }

  -- a beginning of it
  pub run_begun : (a b : Option (List ℕ)) → AppendsBeginning a b (trace_text last e) → BeginsRun s pairs a b
  run_begun a b begun = some_lines (trace_text last e) b is_run begun
