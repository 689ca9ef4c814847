use Rattle.zl_sched.proofs.Common.{[], false≢true, length, rules, sym, ◌==◌, ◌∙◌, ◌≡◌}
use Rattle.zl_sched.proofs.MarksMoved.{empty_by, empty_there, empty_where_idle, idle_where_empty}
use Rattle.zl_sched.proofs.system.System.idle.Goals as goal

pub returns-then-is_empty-clause-idle : goal.returns-then-is_empty-clause-idle
returns-then-is_empty-clause-idle c =
    let none_ready : c.self.inside.ready.items ≡ [] = empty_by c.self.inside.ready.items c.is_empty.result (search rules) c.if-is_empty.true in
    let out_is : c.is_empty-then-is_empty.result ≡ (length c.self.inside.out.items == 0) = search rules in (
      λ so. rw (← c.self.view_is) (record {
        none_ready = idle_where_empty c.self.inside.world.world c.self.inside.ready.items c.self.inside.out.items c.self.invariant.0.listed none_ready
            (empty_by c.self.inside.out.items c.is_empty-then-is_empty.result out_is so);
        none_out = empty_by c.self.inside.out.items c.is_empty-then-is_empty.result out_is so;
      }),
      λ idle. empty_there c.self.inside.out.items c.is_empty-then-is_empty.result out_is (rw (← c.self.view_is) at idle.none_out),
    )

pub returns-else-is_empty-clause-idle : goal.returns-else-is_empty-clause-idle
returns-else-is_empty-clause-idle c = (
  λ so. absurd (false≢true (sym c.if-is_empty.false ∙ so)),
  λ idle. empty_where_idle c.self.inside.world.world c.self.inside.ready.items c.self.inside.out.items c.self.invariant.0.listed c.is_empty.result
      (search rules) (rw (← c.self.view_is) at idle.none_ready),
)
