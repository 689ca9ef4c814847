-- Each covered process of a history goes well from its start on.
use Rattle.zl_verify.proofs.Common.{CoveredGoWell, HasStepBound, Image, IsSizedBoot, IsStarted, IsVerified, Library, List, None, Option, Process, Program, Some}
use Rattle.zl_verify.proofs.Common.{Statement, TraceItem, WasStarted, World, by_boot, by_call, flat_map, get, none-some, program_in, program_of, refl, single}
use Rattle.zl_verify.proofs.Common.{slice_get, subst, sym, true, ℕ, ◌≡◌}
use Rattle.zl_code.proofs.JoinedItems.{joined_go_well}
use Rattle.zl_verify.proofs.BootStarts.{boot_is_proper}
use Rattle.zl_verify.proofs.ChildStarts.{child_starts_in_run}
use Rattle.zl_verify.proofs.Headline.{headline}

-- the program stands in the library
listed : (lib : Library) (o : Option Process) (g : Program) → program_in lib o ≡ Some g → (n : ℕ) × (slice_get lib n ≡ Some g)
listed lib None g is = absurd (none-some g is)
listed lib (Some q) g is = (q.program, is)

module _ (lib : Library) (statements : List Statement) (boot : World) (verified : IsVerified lib) (begins : IsSizedBoot lib statements boot) where
  module _ (i : Image) (p : ℕ) where
    bound_of : (v : World) → program_of lib v p ≡ Some (record { checked = true; image = i }) → HasStepBound i
    bound_of v is = let (n, at) = listed lib (get v.processes p) (record { checked = true; image = i }) is in verified.bounds n i at

    has_bound : (items : List TraceItem) (w : World) → WasStarted lib boot items i w p → HasStepBound i
    has_bound items w (by_boot none is program) = bound_of boot program
    has_bound items w (by_call before v caller is run step child program) = bound_of v program

    was_started : (items : List TraceItem) (w : World) → WasStarted lib boot items i w p → IsStarted lib i w p
    was_started items w (by_boot none is program) = subst (λ v. IsStarted lib i v p) (sym is) (boot_is_proper lib statements boot begins p i program)
    was_started items w (by_call before v caller is run step child program) =
        child_starts_in_run lib v caller _ w (record {
          statements = statements;
          boot = boot;
          items = flat_map single before;
          begins = begins;
          run = run;
          step
              = step;
        }) i p refl child program

  pub covered_go_well : (history : List TraceItem) → CoveredGoWell lib boot history
  covered_go_well history i p n more c =
      let b = has_bound i p c.items c.world c.started in
      (joined_go_well i p more).1
      (headline i b.states b.steps b.typing b.bound lib statements boot c.world c.after (flat_map single c.items) (flat_map single more) p begins c.comes
      (was_started i p c.items c.world c.started) c.goes)
