-- Where as many handles name an object as may, and where as many waits were registered, by computation.
use Rattle.std.proofs.Common.{arith}
use Rattle.zl_code.proofs.Common.{ChannelEnd, Entry, EventBody, None, SAME_RIGHTS, Some, World, [], cond, dup, examined, false, fold, get, handle_operands}
use Rattle.zl_code.proofs.Common.{handles_to, has_room, listed, nat_le, operand, refl, refusal, replicate, suc, true, zero, ℕ, ◌+◌, ◌-◌, ◌==◌, ◌^◌, ◌∙◌, ◌∷◌}
use Rattle.zl_code.proofs.Common.{◌≡◌}
use Rattle.zl_rights.specs.declared.status.Status.TheVariants as status
use Rattle.zl_code.specs.declared.history.Outcome.TheVariants as outcome
use Rattle.zl_code.specs.Tests.{answer_if}
use Rattle.zl_code.specs.First.{first_some}
use Rattle.zl_objects.specs.declared.object.Object.{Object}
use Rattle.zl_objects.specs.Objects.{Objects, has_place, held_once_more}
use Rattle.zl_objects.specs.Listed.{may_register_here}
use Rattle.zl_code.proofs.RowsWords.{Refuses, Passes, world_of, process_of, event_with, FIRST_RIGHTS}

-- Process 2 has a handle to event 3, and in the queue of the end 4 there is a message with so many more.
abbrev held : ℕ → World
held n = record (world_of [] (process_of [] ((7, event_with FIRST_RIGHTS) ∷ []) None)) {
  objects =
      (3, record { body = EventBody; raised = 0 })
      ∷ (4, record { body = ChannelEnd 5 (record { bytes = []; handles = replicate n (event_with 0) } ∷ []); raised = 0 })
      ∷ [];
}

counted : (n before : ℕ) → fold (λ (m : ℕ) (h : Entry). m + cond (h.koid == 3) 1 0) before (replicate n (event_with 0)) ≡ before + n
counted zero before = omega arith
counted (suc n) before = counted n (before + 1) ∙ omega arith

all_held : (n : ℕ) → handles_to (held n) 3 ≡ n + 1
unfolding handles_to
all_held n = omega (arith, counted n 0)

-- The number of handles to the event alone says how dup is refused.
counts_alone : (n : ℕ) → refusal [] (held n) 2 (dup 7 SAME_RIGHTS) ≡ first_some (answer_if (nat_le (2 ^ 62) (handles_to (held n) 3)) status.NoResources ∷ [])
unfolding refusal listed examined handle_operands operand has_room get
counts_alone n = refl

refused_by : (n : ℕ) → refusal [] (held n) 2 (dup 7 SAME_RIGHTS) ≡ first_some (answer_if (nat_le (2 ^ 62) (n + 1)) status.NoResources ∷ [])
refused_by n = rw (counts_alone n, all_held n) refl

rows_of_handles :
    -- No other handle to it is possible.
    (Refuses (held (2 ^ 62 - 1)) (dup 7 SAME_RIGHTS) (outcome.Answered status.NoResources))
    -- One more is.
    × (Passes (held (2 ^ 62 - 2)) (dup 7 SAME_RIGHTS))
rows_of_handles = (refused_by (2 ^ 62 - 1), refused_by (2 ^ 62 - 2))

rows_of_objects :
    -- By the object itself one handle more is possible below 2^62.
    ((o : Object) → has_place (Some (record o { handles = 2 ^ 62 })) ≡ false)
    × ((o : Object) → has_place (Some (record o { handles = 2 ^ 62 - 1 })) ≡ true)
    -- No more are counted then.
    × ((o : Object) → (held_once_more (record o { handles = 2 ^ 62 })).handles ≡ 2 ^ 62)
    × ((o : Object) → (held_once_more (record o { handles = 2 ^ 62 - 1 })).handles ≡ 2 ^ 62)
    -- So it is with the waits that were ever registered.
    × ((r : Objects) → may_register_here (record r { waits_made = 2 ^ 62 }) ≡ false)
    × ((r : Objects) → may_register_here (record r { waits_made = 2 ^ 62 - 1 }) ≡ true)
rows_of_objects = (λ o. refl, λ o. refl, λ o. refl, λ o. refl, λ r. refl, λ r. refl)
