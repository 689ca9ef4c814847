use Rattle.zl_trace.proofs.Replayed.{RanOn}
use Rattle.zl_trace.proofs.replaying.repeat_run.Given as goal

abbrev pub invariant-loop-turn : goal.invariant-loop-turn
invariant-loop-turn l = RanOn l.pid l.initial.world l.turn l.world
