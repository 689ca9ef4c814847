use Rattle.std.proofs.Common.{rules, [], refl, sym}
use Rattle.std.proofs.lemmas.List.{append-nil}
use Rattle.zl_sched.specs.Opening.{GoesOn, opening_of}
use Rattle.zl_sched.specs.System.{System}
use Rattle.zl_pool.specs.Pool.{EndsRun}
use Rattle.zl_pool.proofs.pool.run_in_bursts.Goals.{in-Ok, in-Err}
use Rattle.zl_pool.proofs.pool.run_in_bursts.Goals as goal

-- a system goes on from where it is
from_itself : (s : System) → GoesOn (opening_of s) s
from_itself s = record { programs = refl; statements = refl; limit = refl; items = ([], sym (append-nil s.items)) }

pub returns-clause-end : goal.returns-clause-end
returns-clause-end g c = elim c.match-opening.branch as (λ _. EndsRun (opening_of c.args.system) c.match-opening.after.1 c.match-opening.after.0) [
  | in-Ok w ↦ search rules
  | in-Err w ↦ rw w.after-is (from_itself c.args.system)
]
