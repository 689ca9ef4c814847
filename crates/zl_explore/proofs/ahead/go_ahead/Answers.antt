use Rattle.zl_code.proofs.Common.{IsTrue, ap, refl, replicate, sym, ◌++◌, ◌∙◌, ◌≡◌}
use Rattle.zl_calls.specs.Turns.{Fits}
use Rattle.zl_calls.specs.World.{is_ready_in}
use Rattle.zl_explore.specs.GoingAhead.{ahead, most_ahead}
use Rattle.zl_explore.specs.Running.{rested_machine}
use Rattle.zl_explore.proofs.Bursts.{Gone, burst_goes, fits_of, stays}
use Rattle.zl_explore.proofs.GoingAhead.{takes_more, takes_none}
use Rattle.zl_explore.proofs.ahead.go_ahead.Goals as goal

pub returns-then-not-is_ready-clause-next : goal.returns-then-not-is_ready-clause-next
returns-then-not-is_ready-clause-next c = stays c.args.world.now c.args.pid most_ahead (sym c.is_ready.ensures ∙ c.if-not-is_ready.true)

pub returns-then-not-is_ready-clause-taken : goal.returns-then-not-is_ready-clause-taken
returns-then-not-is_ready-clause-taken c = takes_none _ _ _ refl

pub advance-requires-clause-fits : goal.advance-requires-clause-fits
advance-requires-clause-fits c =
    let of = c.burst-done.ensures in
    fits_of c.args.world.now c.args.pid c.in_ok-turn.turn c.burst-done.result c.in_ok-turn.ensures of.process of.from of.version of.agrees

is_pid : (c : goal.After-drop-advance) → c.burst-done.result.pid ≡ c.args.pid
is_pid c = c.burst-done.ensures.process ∙ c.in_ok-turn.ensures.pid_is

gone : (c : goal.After-drop-advance) → Gone c.args.world.now c.advance.new.self most_ahead c.burst-done.result.pid c.burst-done.result.ran
unfolding most_ahead
gone c =
    let of = c.burst-done.ensures in
    let ready : IsTrue (is_ready_in c.args.world.now c.burst-done.result.pid) =
    ap (is_ready_in c.args.world.now) (is_pid c) ∙ (sym c.is_ready.ensures ∙ c.if-not-is_ready.false) in
    let fits : Fits c.args.world.now c.burst-done.result =
    fits_of c.args.world.now c.args.pid c.in_ok-turn.turn c.burst-done.result c.in_ok-turn.ensures of.process of.from of.version of.agrees in
    burst_goes c.args.world.now c.advance.new.self c.burst-done.result 10000 c.requires ready fits of.follows of.within of.whole c.advance.ensures.cpu
    c.advance.ensures.steps

pub returns-clause-still : goal.returns-clause-still
returns-clause-still c = (gone c).still

pub returns-clause-next : goal.returns-clause-next
returns-clause-next c = (gone c).next ∙ ap (ahead (rested_machine c.args.world.now)) (is_pid c)

pub returns-clause-taken : goal.returns-clause-taken
returns-clause-taken c =
    takes_more (rested_machine c.args.world.now) (rested_machine c.advance.new.self) _ _ (replicate c.burst-done.result.ran c.burst-done.result.pid)
    (c.in_ok-push_times.ensures ∙ λ i. c.args.taken.now.items ++ replicate (c.ran.ensures.count i) (sym (is_pid c) i)) (gone c).is_path (gone c).leads
