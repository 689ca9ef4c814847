use Rattle.zl_calls.proofs.Common.{List, Process, Settles, [], arith, refl, subst, world_value, ℕ, ◌+◌, ◌-◌, ◌≡◌}
use Rattle.zl_calls.proofs.boot.BootConsistent.{all_swept, none_swept, one_swept}
use Rattle.zl_calls.proofs.processes.Started.{all_left_alone, fresh_started}
use Rattle.zl_calls.proofs.boot.Made.settle.Goals as goal

pub loop-koid-init : goal.loop-koid-init
loop-koid-init c = record {
  swept = rw c.end_of_koids-koid.ensures (none_swept c.args.self.now.processes.items c.args.self.now.objects c.requires.making);
  processes = refl;
}

pub loop-koid-preserved : goal.loop-koid-preserved
loop-koid-preserved c =
    let koid : c.loop-koid.koid ≡ c.loop-koid.koid - 1 + 1 = omega (arith, c.loop-koid-test.true) in
    record {
      swept = one_swept c.args.self.now.objects c.loop-koid.self.objects c.remove_unheld.new.self (c.loop-koid.koid - 1)
          (rw koid at c.loop-koid.invariant.swept) c.remove_unheld.ensures.releases c.remove_unheld.ensures.listed;
      processes = c.loop-koid.invariant.processes;
    }

all : (c : goal.After-loop-koid) → ◌≡◌ {A = ℕ} c.loop-koid.koid 0
all c = omega (arith, c.loop-koid-test.false)

-- all are ready, so that none goes
pub returns-clause-settles : goal.returns-clause-settles
returns-clause-settles c =
    rw c.loop-koid.invariant.processes
    (subst (λ (ps : List Process). Settles (world_value c.args.self.now.processes.items c.args.self.now.objects) (world_value ps c.loop-koid.self.objects))
    (all_left_alone c.loop-koid.self.objects c.args.self.now.processes.items [] refl (fresh_started c.args.self.now.processes.items c.requires.fresh))
    ((all_swept c.args.self.now.processes.items c.args.self.now.objects c.loop-koid.self.objects c.requires.making
    (rw (all c) at c.loop-koid.invariant.swept)).settles))

pub returns-clause-consistent : goal.returns-clause-consistent
returns-clause-consistent c =
    rw c.loop-koid.invariant.processes
    (all_swept c.args.self.now.processes.items c.args.self.now.objects c.loop-koid.self.objects c.requires.making
    (rw (all c) at c.loop-koid.invariant.swept)).consistent

pub returns-clause-unwatched : goal.returns-clause-unwatched
returns-clause-unwatched c = (rw (all c) at c.loop-koid.invariant.swept).unwatched c.requires.making.unwatched
