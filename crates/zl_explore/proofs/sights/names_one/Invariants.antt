use Rattle.zl_calls.specs.World.{own_here}
use Rattle.zl_explore.specs.Bad.{IsOne}
use Rattle.zl_explore.specs.Sights.{IsAbout, Sight, sights_in}
use Rattle.std.proofs.Common.{ℕ}
use Rattle.zl_explore.proofs.Lists.{NoneHolds}
use Rattle.zl_explore.proofs.sights.names_one.Given as goal

abbrev pub invariant-loop-n : goal.invariant-loop-n
invariant-loop-n l = NoneHolds (sights_in (own_here l.world)).processes (λ (s : ℕ × Sight). IsOne l.bad.pid s.0 × IsAbout l.bad.what s.1) l.n
