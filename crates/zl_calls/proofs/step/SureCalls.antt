-- What is known of the calls of a checked program, as its process is as its typing says: no operand has a fault, and no policy ends them.
use Rattle.zl_calls.proofs.Common.{AtCall, CallName, CallsSurely, Image, IsAsTyped, IsCovered, IsStuck, IsSure, IsSureIfChecked, IsVerified, Library, List}
use Rattle.zl_calls.proofs.Common.{None, Objects, Option, Process, Program, Site, Some, World, ap, calls_at, is_checked, next_for, not_stuck, process_value}
use Rattle.zl_calls.proofs.Common.{program_in, refl, runs, site_of, slice_get, subst, sym, true, world_blocked, ℕ, ◌∙◌, ◌≡◌, ◌≢◌}
use Rattle.zl_verify.specs.CallLaws.{StandsAtCall}
use Rattle.zl_verify.proofs.OwnCalls.{operands_pass, policy_passes}
use Rattle.zl_verify.proofs.SizedWorlds.{queues_sized}
use Rattle.zl_calls.proofs.policy.Freedom.{is_seen}
use Rattle.zl_calls.proofs.policy.Policies.{IsSeen, faultless, unjudged}
use Rattle.zl_calls.proofs.step.Performing.{AtTurn, is_caller, itself, ready}

module _ {ps : List Process} {r : Objects} {blocked : List ℕ} {pid place : ℕ} {p : Process} (turn : AtTurn ps r blocked pid place p) (lib : Library)
    (v : IsVerified lib) (covered : IsCovered lib (world_blocked ps r blocked)) where
  abbrev w : World
  w = world_blocked ps r blocked

  seen : IsSeen w p.pid p.table.entries r.objects
  seen = is_seen lib ps r turn.consistent blocked turn.sound p (itself turn).there turn.ready w refl refl

  -- its program was checked, and has this image
  module _ (i : Image) (listed : slice_get lib p.program ≡ Some (record { checked = true; image = i })) where
    typed : IsAsTyped i w p.pid (process_value p)
    typed = covered.typed p.pid (process_value p) i (itself turn).there (ap runs (ready turn)) listed

    goes : next_for lib (process_value p) ≢ IsStuck
    goes stuck =
        not_stuck i typed.typing w p.pid (process_value p) (program_in lib p.program (record { checked = true; image = i }) v.images listed) typed.types
        turn.sound.handles (itself turn).there typed.conforms (rw listed at stuck)

    stands_at : (name : CallName) (s : Site) → next_for lib (process_value p) ≡ AtCall name s → StandsAtCall i typed.typing w p.pid (process_value p) name s
    stands_at name s next = record {
      range = program_in lib p.program (record { checked = true; image = i }) v.images listed;
      typing = typed.types;
      sound = turn.sound;
      sized = queues_sized w covered.sized;
      there = (itself turn).there;
      ready = ready turn;
      conforms = typed.conforms;
      next = rw listed at next;
    }

    sure_at : (name : CallName) (at : Option Site) → next_for lib (process_value p) ≡ calls_at name at → IsSure p r at
    sure_at name None next = record { faultless = tt; unpoliced = tt }
    sure_at name (Some s) next =
        let stands = stands_at name s next in
        let passes = operands_pass i typed.typing w p.pid (process_value p) name s stands in
        let allowed = policy_passes i typed.typing w p.pid (process_value p) name s stands in
        record {
          faultless = faultless lib w p.pid p.table.entries r.objects seen s.request passes allowed;
          unpoliced = unjudged lib w p.pid p.table.entries r.objects seen s.request passes allowed;
        }

  by_program : (o : Option Program) → slice_get lib p.program ≡ o → is_checked o ≡ true → CallsSurely lib p r
  by_program None listed checked = absurd cc
  by_program (Some g) listed checked =
      let at : slice_get lib p.program ≡ Some (record { checked = true; image = g.image }) =
      listed ∙ ap (λ b. Some (record { checked = b; image = g.image })) checked in
      record { goes = goes g.image at; sure = λ call next. sure_at g.image at call.name (site_of call p.cpu) next }

  -- it is so for whoever is read at its place
  pub sure_calls : (caller : Process) → slice_get ps place ≡ Some caller → IsSureIfChecked lib caller r
  sure_calls caller at = subst (λ q. IsSureIfChecked lib q r) (sym (is_caller turn caller at)) (by_program (slice_get lib p.program) refl)
