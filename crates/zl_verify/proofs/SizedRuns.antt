-- Every world of a run from a boot world, and of a legal history from one, is sized.
use Rattle.zl_verify.proofs.Common.{ANY, Acts, AllByRecursion, AtCall, Bool, Boots, CallInstr, ChannelEnd, Cpu, Entry, EventBody, IfSome, Image, Instr, IsSized}
use Rattle.zl_verify.proofs.Common.{IsSizedBoot, IsSizedCpu, IsSizedObject, IsSound, IsStuck, IsTrue, JobBody, Library, List, Moves, Next, None, Object, Option}
use Rattle.zl_verify.proofs.Common.{PairEnd, PortBody, Process, ProcessBody, Runs, STUCK, Site, Some, Statement, Step, Throughout, TraceItem, World, []}
use Rattle.zl_verify.proofs.Common.{body_of, boot_effect, boot_sound, both, calls_at, created_process, false, flat_map, get, handles_given, if◌then◌else◌}
use Rattle.zl_verify.proofs.Common.{in_range_at, instr_at, is_in_range, is_instr_in_range, is_known, is_local_in_range, job_within, local_effect, local_parts}
use Rattle.zl_verify.proofs.Common.{may_boot, moves, next_at, next_for, next_in, next_of, none-some, origin, pid_of, process_with, process_with_all, ranges}
use Rattle.zl_verify.proofs.Common.{refl, same_Some, setting, single, site_of, slice_get, step_sound, subst, suc, true, with_object, word_of, zero, ℕ, ⊤, ◌+◌}
use Rattle.zl_verify.proofs.Common.{◌==◌, ◌∷◌, ◌≡◌, ◌≤◌}
use Rattle.zl_code.specs.Steps.{IsLegalHistory}
use Rattle.zl_code.specs.declared.boot.Statement.TheVariants as statement
use Rattle.zl_code.specs.declared.instr.Instr.TheVariants as instr
use Rattle.zl_verify.proofs.SizedCpus.{blank_sized, started_sized, local_sized}
use Rattle.zl_verify.proofs.SizedWorlds.{pair_sized, object_sized, process_sized, new_process_sized, ended_sized, new_object_sized, settled_sized, wakes_sized}
use Rattle.zl_verify.proofs.SizedCalls.{policy_set_sized, IsSizedRequest, request_sized, chosen_small, empty_sized, call_sized}

-- ---- what stands next

-- a local instruction leads to a sized Cpu, and a call asks for what is sized
abbrev IsSizedNext : Next → Type 0
IsSizedNext (Moves c) = IsSizedCpu c
IsSizedNext (AtCall call s) = IsSizedRequest s.request
IsSizedNext IsStuck = ⊤

next_sized : (i : Image) (c : Cpu) → is_in_range i ≡ true → IsSizedCpu c → IsSizedNext (next_at i c)
unfolding next_at
next_sized i c range h = by (instr_at i c.counter) (in_range_at i.version i.raw i.code c.counter (ranges i range).code)
  where
    moved : (o : Option Cpu) → IfSome o IsSizedCpu → IsSizedNext (moves o)
    moved None k = tt
    moved (Some d) k = k

    called : (x : CallInstr) (o : Option Site) → site_of x c ≡ o → IsSizedNext (calls_at x.name o)
    called x None is = tt
    called x (Some t) is = request_sized c h x t is

    by : (o : Option Instr) → IfSome o (λ x. is_instr_in_range i.version i.raw x ≡ true) → IsSizedNext (next_of o c)
    by (Some (instr.Local x)) r = moved (local_effect x c) (local_sized c h x (both (is_known i.version (local_parts x).opcode) (is_local_in_range x) r).1)
    by (Some (instr.Call x)) r = called x (site_of x c) refl
    by _ r = tt

library_sized : (lib : Library) → AllByRecursion (λ g. IsTrue (is_in_range g.image)) lib → (n : ℕ) (c : Cpu) → IsSizedCpu c
    → IsSizedNext (next_in (slice_get lib n) c)
library_sized [] range n c h = tt
library_sized (g ∷ lib) (range, ranges) zero c h = next_sized g.image c range h
library_sized (g ∷ lib) (range, ranges) (suc n) c h = library_sized lib ranges n c h

-- ---- steps

module _ (lib : Library) (images : AllByRecursion (λ g. IsTrue (is_in_range g.image)) lib) where
  act_sized : (w : World) (p : ℕ) (q : Process) → get w.processes p ≡ Some q → IsSound w → IsSized w → (n : Next) → IsSizedNext n → (x : TraceItem) (w2 : World)
      → Acts lib w p n x w2 → IsSized w2
  act_sized w p q there sound s (Moves c) fits x w2 a = rw a.1 (process_sized w p (λ (y : Process). record y { cpu = c }) (λ y k. fits) s)
  act_sized w p q there sound s (AtCall call t) fits x w2 (o, e, c) = call_sized lib w p sound s t fits o w2 c
  act_sized w p q there sound s IsStuck fits x w2 a = rw a.1 (ended_sized w p STUCK s)

  -- the world right after what the process does
  pub acted_sized : (w : World) (p : ℕ) (x : TraceItem) (after : World) → IsSound w → IsSized w → (step : Step lib w p x after) → IsSized step.acted
  acted_sized w p x after sound s step =
      act_sized w p step.process step.is_there sound s (next_for lib step.process)
      (library_sized lib images step.process.program step.process.cpu (s.cpus p step.process step.is_there)) x step.acted step.acts

  pub step_sized : (w : World) (p : ℕ) (x : TraceItem) (after : World) → IsSound w → IsSized w → Step lib w p x after → IsSized after
  step_sized w p x after sound s step =
      rw step.ends_awake (wakes_sized step.settled (settled_sized step.acted step.settled step.settles (acted_sized w p x after sound s step)))

  run_sized : (w : World) (items : List TraceItem) (after : World) → IsSound w → IsSized w → Runs lib w items after → IsSized after
  run_sized w [] after sound s e = rw e s
  run_sized w (x ∷ items) after sound s (mid, step, rest) =
      run_sized mid items after (step_sound lib w (pid_of x) x mid sound step) (step_sized w (pid_of x) x mid sound s step) rest

  throughout_sized : (Q : World → Type 0) → ((w : World) → IsSized w → Q w) → (w : World) (items : List TraceItem) (after : World) → IsSound w → IsSized w
      → (run : Runs lib w items after) → Throughout Q lib w items after run
  throughout_sized Q of w [] after sound s e = of w s
  throughout_sized Q of w (x ∷ items) after sound s (mid, step, rest) =
      (of w s, throughout_sized Q of mid items after (step_sound lib w (pid_of x) x mid sound step) (step_sized w (pid_of x) x mid sound s step) rest)

-- ---- boots

holding_sized : (es : List Entry) (vs : List ℕ) (q : Process) → IsSizedCpu q.cpu → IsSizedCpu (process_with_all es vs q).cpu
holding_sized [] vs q k = k
holding_sized (e ∷ es) [] q k = k
holding_sized (e ∷ es) (v ∷ vs) q k = holding_sized es vs (process_with v e q) k

statement_sized : (lib : Library) (w : World) (s : Statement) (vs : List ℕ) → word_of s ≤ ANY → IsTrue (may_boot lib w s vs) → IsSized w
    → IsSized (boot_effect lib w s vs)
unfolding boot_effect
statement_sized lib w (statement.Process job program word handles) vs few may s =
    new_process_sized (with_object w (ProcessBody job)) w.next_koid _
    (started_sized vs word (process_with_all (handles_given w.objects handles) vs (created_process lib program)).cpu
    (chosen_small (created_process lib program) (handles_given w.objects handles) vs (λ v is. absurd (none-some v is)) may) few
    (holding_sized (handles_given w.objects handles) vs (created_process lib program) (blank_sized (slice_get lib program))))
    (new_object_sized w (ProcessBody job) (empty_sized _ refl refl) s)
statement_sized lib w (statement.Job parent) vs few may s = new_object_sized w (job_within parent (body_of w parent)) (empty_sized _ refl refl) s
statement_sized lib w (statement.Policy job condition action) vs few may s =
    object_sized w job _ (λ o k. policy_set_sized (setting condition action) o.body o.raised k) s
statement_sized lib w statement.Event vs few may s = new_object_sized w EventBody (empty_sized _ refl refl) s
statement_sized lib w statement.Port vs few may s = new_object_sized w (PortBody []) (empty_sized _ refl refl) s
statement_sized lib w statement.Channel vs few may s =
    pair_sized w (ChannelEnd (w.next_koid + 1) []) (ChannelEnd w.next_koid []) (empty_sized _ refl refl) (empty_sized _ refl refl) s
statement_sized lib w statement.Eventpair vs few may s =
    pair_sized w (PairEnd (w.next_koid + 1)) (PairEnd w.next_koid) (empty_sized _ refl refl) (empty_sized _ refl refl) s

boots_sized : (lib : Library) (w : World) (statements : List Statement) (after : World) → AllByRecursion (λ s. word_of s ≤ ANY) statements → IsSized w
    → Boots lib w statements after → IsSized after
boots_sized lib w [] after few s e = rw e s
boots_sized lib w (st ∷ statements) after (one, few) s (vs, fine, may, rest) =
    boots_sized lib (boot_effect lib w st vs) statements after few (statement_sized lib w st vs one may s) rest

origin_sized : IsSized origin
unfolding get
origin_sized = record { cpus = λ p q there. absurd (none-some q there); kept = λ k o there. by k o (1 == k) there; waits = tt }
  where
    root : Object
    root = record { body = JobBody 0 1 [] false; raised = 0 }

    by : (k : ℕ) (o : Object) (b : Bool) → (if b then Some root else None) ≡ Some o → IsSizedObject o.body o.raised
    by k o true is = subst (λ (x : Object). IsSizedObject x.body x.raised) (same_Some root o is) (empty_sized root.body refl refl)
    by k o false is = absurd (none-some o is)

pub boot_sized : (lib : Library) (statements : List Statement) (w : World) → IsSizedBoot lib statements w → IsSized w
boot_sized lib statements w b = settled_sized b.boots.made w b.boots.settles (boots_sized lib origin statements b.boots.made b.words origin_sized b.boots.boots)

-- ---- runs and histories from a boot world

-- the last world of a run
pub world_sized : (lib : Library) (statements : List Statement) (boot after : World) (items : List TraceItem) → IsSizedBoot lib statements boot
    → Runs lib boot items after → IsSized after
world_sized lib statements boot after items b run =
    run_sized lib b.images boot items after (boot_sound lib statements boot b.boots) (boot_sized lib statements boot b) run

module _ (Q : World → Type 0) (of : (w : World) → IsSized w → Q w) (lib : Library) (statements : List Statement) (boot after : World)
    (b : IsSizedBoot lib statements boot) where
  pub runs_keep : (items : List TraceItem) → Runs lib boot items after → Q after
  runs_keep items run = of after (world_sized lib statements boot after items b run)

  pub histories_keep : (history : List TraceItem) → (legal : IsLegalHistory lib boot history after)
      → Throughout Q lib boot (flat_map single history) after legal.run × Q after
  histories_keep history legal = (
    throughout_sized lib b.images Q of boot (flat_map single history) after (boot_sound lib statements boot b.boots)
        (boot_sized lib statements boot b) legal.run,
    runs_keep (flat_map single history) legal.run,
  )
