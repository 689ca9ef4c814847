use Rattle.std.proofs.Common.{◌≡◌, ◌++◌}
use Rattle.std.specs.VecDeque.Iter.{deque_iter_rest}
use Rattle.zl_channel.proofs.channel_end.ChannelEnd.copy.Given as goal

-- the messages that were copied, and those to come, are all of them
abbrev pub invariant-loop-message : goal.invariant-loop-message
invariant-loop-message l = l.queue.items ++ deque_iter_rest l.message-iterator ≡ l.self
