-- Worked examples of what a trace text holds, by computation.
use Rattle.zl_trace.proofs.Common.{AreLinesOf, [], arith, codes, digits, item_lines_of, pos, refl, rules, ◌∷◌, ◌≡◌}
use Rattle.zl_rights.specs.declared.status.Status.TheVariants as status
use Rattle.zl_code.specs.declared.history.CallName.TheVariants as call
use Rattle.zl_code.specs.declared.history.Outcome.TheVariants as outcome
use Rattle.zl_code.specs.declared.history.TraceItem.TheVariants as item
unfoldable use Rattle.zl_trace.specs.Reading.{item_lines_from}

-- a comment, an empty line, spaces between words, and all behind the first line that begins with `process`
lines : item_lines_of (codes "# of two\n3 run 2\n\n4  signal OK \n3 wait_one blocked\nprocess 3 blocked\n5 stuck")
    ≡ (2, codes "3 run 2") ∷ (4, codes "4  signal OK ") ∷ (5, codes "3 wait_one blocked") ∷ []
unfolding item_lines_from
lines = refl

-- the items whose lines these are
items : AreLinesOf
    ((2, codes "3 run 2") ∷ (4, codes "4  signal OK ") ∷ (5, codes "3 wait_one blocked") ∷ (6, codes "12 process_exit ended 7") ∷ (7, codes "5 stuck") ∷ [])
    (item.Run 3 2 ∷ item.Call 4 call.Signal (outcome.Answered status.Ok) ∷ item.Call 3 call.WaitOne outcome.Blocked
    ∷ item.Call 12 call.ProcessExit (outcome.Ended (pos 7)) ∷ item.Stuck 5 ∷ [])
unfolding digits
items = (
  record { has_line = (omega arith, omega arith, omega arith); same = refl },
  (
    record { has_line = (omega arith, tt); same = refl },
    (
      record { has_line = (omega arith, tt); same = refl },
      (record { has_line = (omega arith, search rules); same = refl }, (record { has_line = omega arith; same = refl }, tt)),
    ),
  ),
)

-- `end` ends the items, and so does a line that only begins with these letters
ended : item_lines_of (codes "endless") ≡ []
unfolding item_lines_from
ended = refl

-- a line that begins with a space before `process` is to be that of an item
spaced_process : item_lines_of (codes " process 3 gone") ≡ (1, codes " process 3 gone") ∷ []
unfolding item_lines_from
spaced_process = refl
