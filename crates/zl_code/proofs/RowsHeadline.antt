-- The words of the headline on worked examples: where runs begin, which answers are faults, which ends are own, what counts against a budget,
-- who is covered, by the boot or by a call, who never is, and what going well refuses.
use Rattle.zl_code.specs.Image.{blank_image}
use Rattle.zl_code.proofs.Common.{BY_POLICY, Entry, EndsItself, GoesWell, HasNoFault, Image, IsBoot, IsNotStuck, IsSizedBoot}
use Rattle.zl_code.proofs.Common.{KeepsBudget, KeepsProcesses, Library, List, MayEnd, None, Option, Process, Program, Runs, Some, Start}
use Rattle.zl_code.proofs.Common.{Statement, TraceItem, World, [], ap, append_assoc, are_declared, arith, boot_effect, false, flat_map}
use Rattle.zl_code.proofs.Common.{flat_map-append, get, inl, inr, is_fault, length, length-append, negsuc, none-some, pos, refl}
use Rattle.zl_code.proofs.Common.{rights_of, same_Some, single, slice_get, subst, sym, true, true≢false, ℕ, ℤ, ◌++◌, ◌+◌, ◌∙◌, ◌∷◌, ◌≡◌}
use Rattle.zl_rights.specs.declared.kind.Kind.TheVariants as kind
use Rattle.zl_rights.specs.declared.status.Status.TheVariants as status
use Rattle.zl_code.specs.declared.boot.Statement.TheVariants as statement
use Rattle.zl_code.specs.declared.history.CallName.TheVariants as name
use Rattle.zl_code.specs.declared.history.Outcome.TheVariants as outcome
use Rattle.zl_code.specs.declared.history.TraceItem.TheVariants as item
use Rattle.zl_code.specs.Headline.{IsCoveredFrom, StartsChild, WasStarted, by_boot, by_call}
use Rattle.zl_code.specs.Starting.{program_in, program_of}
use Rattle.zl_code.proofs.Running.{computing}
use Rattle.zl_code.proofs.SoundRuns.{runs_keep_processes}
use Rattle.zl_code.proofs.Stored.{boot, image, is_boot, library, statements}
use Rattle.zl_code.proofs.AwakeRuns.{runs_joined}

-- ---- where a run begins

-- no process starts with a word of 65 bits
wide_word : (lib : Library) (w : World) → IsSizedBoot lib (statement.Process 1 0 0x1_0000_0000_0000_0000 [] ∷ []) w → ⊥
wide_word lib w b = let (few, rest) = b.words in absurd (omega (arith, few))

an_event : ℕ → Entry
an_event rights = record { koid = 5; kind = kind.Event; rights = rights_of rights }

declared : List Start
declared = record { kind = Some kind.Event; rights = rights_of 16384 } ∷ []

-- more rights will do, fewer won't, and no handle may be missing
more_rights : are_declared declared (an_event 20480 ∷ []) ≡ true
unfolding declared an_event
more_rights = refl

fewer_rights : are_declared declared (an_event 4096 ∷ []) ≡ false
unfolding declared an_event
fewer_rights = refl

no_handle : are_declared declared [] ≡ false
unfolding declared
no_handle = refl

-- ---- what items tell

bad_handle : is_fault status.BadHandle ≡ true
bad_handle = refl

wrong_type : is_fault status.WrongType ≡ true
wrong_type = refl

denied : is_fault status.AccessDenied ≡ true
denied = refl

peer_closed : is_fault status.PeerClosed ≡ false
peer_closed = refl

exit_ends : MayEnd name.ProcessExit (pos 7)
exit_ends = inl refl

close_ends : MayEnd name.Close (pos 0) → ⊥
close_ends (inl is) = cc
close_ends (inr (is, code)) = cc

magnitude : ℤ → ℕ
magnitude (pos n) = n
magnitude (negsuc n) = n

-- a policy ends its process at any call with a code of its own
policy_ends : MayEnd name.TaskKill BY_POLICY → ⊥
unfolding magnitude
policy_ends (inl is) = cc
policy_ends (inr (is, code)) = let bad : ◌≡◌ {A = ℕ} 1025 1023 = ap magnitude code in absurd (omega (arith, bad))

-- process 7 may have no fault, be ended by no close, and not be stuck
own_fault : HasNoFault 7 (item.Call 7 name.Close (outcome.Answered status.BadHandle)) → ⊥
own_fault h = true≢false (h refl)

own_end : EndsItself 7 (item.Call 7 name.Close (outcome.Ended (pos 0))) → ⊥
own_end h = close_ends (h refl)

own_stuck : IsNotStuck 7 (item.Stuck 7) → ⊥
own_stuck h = h refl

-- others may
others_fault : HasNoFault 8 (item.Call 7 name.Close (outcome.Answered status.BadHandle))
others_fault is = absurd (omega (arith, is))

others_end : EndsItself 8 (item.Call 7 name.Close (outcome.Ended (pos 0)))
others_end is = absurd (omega (arith, is))

others_stuck : IsNotStuck 8 (item.Stuck 7)
others_stuck is = omega (arith, is)

-- ---- the budget

-- process 7 does two instructions and waits; then two more, of which one is a call
two_and_two : List TraceItem
two_and_two = item.Run 7 2 ∷ item.Call 7 name.WaitOne outcome.Blocked ∷ item.Run 7 1 ∷ item.Call 7 name.Close (outcome.Answered status.Ok) ∷ []

keeps_2 : KeepsBudget 2 7 2 two_and_two
unfolding two_and_two
keeps_2 = tt

not_1 : KeepsBudget 1 7 1 two_and_two → ⊥
unfolding two_and_two
not_1 h = h

-- what others do doesn't count
others_free : KeepsBudget 0 8 0 two_and_two
unfolding two_and_two
others_free = tt

-- a look at a port isn't a wait
poll_counts : KeepsBudget 1 7 1 (item.Call 7 name.PortPoll (outcome.Answered status.Ok) ∷ item.Run 7 1 ∷ []) → ⊥
poll_counts h = h

-- ---- who is covered by a call

-- the caller starts a process
abbrev pub started_by : ℕ → TraceItem
started_by caller = item.Call caller name.ProcessStart (outcome.Answered status.Ok)

-- Behind these items the caller starts the process p, whose program is listed as checked: so p is covered from there on.
pub covered_by_call : (lib : Library) (boot v end : World) (before more : List TraceItem) (caller p : ℕ) (i : Image) (q : Process)
    → Runs lib boot (flat_map single before) v → Runs lib v (started_by caller ∷ flat_map single more) end → get v.processes caller ≡ Some q
    → StartsChild lib v caller q p → program_of lib v p ≡ Some (record { checked = true; image = i })
    → IsCoveredFrom lib boot (before ++ (started_by caller ∷ more)) i p (length before + 1) more
covered_by_call lib boot v end before more caller p i q first (w, step, rest) there child program =
    let last : List TraceItem = started_by caller ∷ [] in
    let same : q ≡ step.process = same_Some q step.process (sym there ∙ step.is_there) in
    record {
      items = before ++ last;
      parts = sym (append_assoc before last more);
      place = length-append before last;
      world = w;
      comes = subst (λ (xs : List TraceItem). Runs lib boot xs w) (sym (flat_map-append single before last))
          (runs_joined lib boot (flat_map single before) v last w first (w, step, refl));
      started = by_call before v caller refl first step (subst (λ (c : Process). StartsChild lib v caller c p) same child) program;
      after = end;
      goes = rest;
    }

-- ---- who is never covered

module _ (lib : Library) (p : ℕ) (g : Program) (unmarked : g.checked ≡ false) where
  not_marked : (o : Option Program) (i : Image) → o ≡ Some g → o ≡ Some (record { checked = true; image = i }) → ⊥
  not_marked o i is marked =
      let same : g ≡ record { checked = true; image = i } = same_Some g _ (sym is ∙ marked) in
      true≢false (sym (ap (λ (x : Program). x.checked) same) ∙ unmarked)

  runs_it_still : (boot v : World) (o : Option Process) → KeepsProcesses boot v → get boot.processes p ≡ o → program_in lib o ≡ Some g
      → program_of lib v p ≡ Some g
  runs_it_still boot v None keeps there is = absurd (none-some g is)
  runs_it_still boot v (Some q) keeps there is =
      let (later, stays, same) = keeps p q there in
      ap (program_in lib) stays ∙ (ap (slice_get lib) same ∙ is)

  -- Behind a boot that makes p of a program that isn't marked, p is covered in no history, whatever the image and the items.
  never_covered : (statements : List Statement) (boot : World) → IsBoot lib statements boot → program_of lib boot p ≡ Some g
      → (history : List TraceItem) (i : Image) (n : ℕ) (more : List TraceItem) → IsCoveredFrom lib boot history i p n more → ⊥
  never_covered statements boot boots is history i n more c = by c.items c.world c.started
    where
      by : (items : List TraceItem) (w : World) → WasStarted lib boot items i w p → ⊥
      by items w (by_boot none same program) = not_marked (program_of lib boot p) i is program
      by items w (by_call before v caller split run step child program) =
          let keeps : KeepsProcesses boot v = runs_keep_processes lib statements boot boot v [] (flat_map single before) boots refl run in
          not_marked (program_of lib v p) i (runs_it_still boot v (get boot.processes p) keeps refl is) program

-- The process of the stored run isn't covered, in any history of its boot.
stored_is_never_covered : (history : List TraceItem) (i : Image) (n : ℕ) (more : List TraceItem) → IsCoveredFrom library boot history i 2 n more → ⊥
unfolding computing boot_effect
stored_is_never_covered = never_covered library 2 (record { checked = false; image = image }) refl statements boot is_boot refl

-- ---- who goes well

-- an image with this budget
abbrev with_budget : ℕ → Image
with_budget budget = record blank_image { budget = budget }

-- three instructions in one item, and the exit
abbrev three_and_exit : List TraceItem
three_and_exit = item.Run 5 3 ∷ item.Call 5 name.ProcessExit (outcome.Ended (pos 7)) ∷ []

goes_well : GoesWell (with_budget 3) 5 three_and_exit
goes_well = record { no_fault = (tt, (tt, tt)); ends_itself = (tt, (λ is. inl refl, tt)); not_stuck = (tt, (tt, tt)); budget = tt }

-- not with a smaller budget
budget_too_small : GoesWell (with_budget 2) 5 three_and_exit → ⊥
budget_too_small g = g.budget

-- nor with an item that is a fault, ends it, or leaves it stuck
fault_isnt_well : GoesWell (with_budget 3) 5 (item.Run 5 3 ∷ item.Call 5 name.Close (outcome.Answered status.WrongType) ∷ []) → ⊥
fault_isnt_well g = true≢false (g.no_fault.1.0 refl)

killed_isnt_well : GoesWell (with_budget 3) 5 (item.Run 5 2 ∷ item.Call 5 name.Close (outcome.Ended BY_POLICY) ∷ []) → ⊥
killed_isnt_well g = elim (g.ends_itself.1.0 refl) as (λ _. ⊥) [ inl is ↦ cc | inr both ↦ cc ]

stuck_isnt_well : GoesWell (with_budget 3) 5 (item.Run 5 3 ∷ item.Stuck 5 ∷ []) → ⊥
stuck_isnt_well g = g.not_stuck.1.0 refl

-- nor with one instruction more than the budget, at once or behind a wait
too_many_at_once : GoesWell (with_budget 3) 5 (item.Run 5 4 ∷ []) → ⊥
too_many_at_once g = g.budget

too_many_behind_a_wait : GoesWell (with_budget 3) 5 (item.Call 5 name.WaitOne outcome.Blocked ∷ item.Run 5 4 ∷ []) → ⊥
too_many_behind_a_wait g = g.budget
