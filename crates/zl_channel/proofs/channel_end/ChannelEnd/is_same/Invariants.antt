use Rattle.std.proofs.Common.{◌≡◌, take}
use Rattle.zl_channel.proofs.channel_end.ChannelEnd.is_same.Given as goal

abbrev pub invariant-loop-n : goal.invariant-loop-n
invariant-loop-n l = take l.n l.self ≡ take l.n l.other
