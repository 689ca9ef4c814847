use Rattle.zl_code.proofs.Common.{Some, arith, false≢true, get, length-map, refl, sym, ℕ, ◌∙◌}
use Rattle.zl_calls.specs.World.{own_here}
use Rattle.zl_explore.specs.Bad.{IsOne}
use Rattle.zl_explore.specs.Sights.{IsAbout, Sight, sight_of, sights_in}
use Rattle.zl_explore.proofs.Lists.{none_at_all, none_more}
use Rattle.zl_explore.proofs.Seeing.{sight_at}
use Rattle.zl_explore.proofs.sights.names_one.Goals as goal
use Rattle.zl_explore.proofs.sights.names_one.Goals.{else-is_pid-via-else-is_pid, else-is_pid-via-then-is_pid+else-is_about}

pub returns-then-is_about : goal.returns-then-is_about
returns-then-is_about c =
    let m = c.args.world.now in (
      λ so. record {
        process = (c.in-Some.pid, sight_of (get m.world.processes c.in-Some.pid));
        is_in = (c.loop-n.n, sight_at m c.loop-n.n c.in-Some.pid c.process_at.ensures.in_order (sym c.in-Some.is ∙ c.process_at.ensures.koid));
        is_one = (c.if-is_pid.ensures {u = tt}).0 refl;
        is_about = (c.if-is_about.ensures {u = tt}).0 refl;
      },
      λ seen. refl,
    )

pub loop-n-preserved : goal.loop-n-preserved
loop-n-preserved c =
    let m = c.args.world.now in
    none_more (sights_in (own_here m)).processes (λ (s : ℕ × Sight). IsOne c.args.bad.pid s.0 × IsAbout c.args.bad.what s.1) c.loop-n.n _
    (sight_at m c.loop-n.n c.in-Some.pid c.process_at.ensures.in_order (sym c.in-Some.is ∙ c.process_at.ensures.koid))
    (λ is. elim c.else-is_pid.branch [
      | else-is_pid-via-then-is_pid+else-is_about w ↦ false≢true ((w.if-is_about.ensures {u = tt}).1 is.1)
      | else-is_pid-via-else-is_pid w ↦ false≢true ((w.if-is_pid.ensures {u = tt}).1 is.0)
    ]) c.loop-n.invariant

pub returns : goal.returns
returns c =
    let m = c.args.world.now in (
      λ so. absurd (false≢true so),
      λ seen. absurd (none_at_all (sights_in (own_here m)).processes (λ (s : ℕ × Sight). IsOne c.args.bad.pid s.0 × IsAbout c.args.bad.what s.1) c.loop-n.n
          (omega (
            arith,
            c.loop-n-test.false,
            c.process_count-n-end.ensures,
            length-map {B = ℕ × Sight} m.world.processes (λ e. (e.0, sight_of (Some e.1))),
          )) c.loop-n.invariant seen.process seen.is_in (seen.is_one, seen.is_about)),
    )
