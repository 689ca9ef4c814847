use Rattle.std.proofs.Common.{sym}
use Rattle.zl_channel.proofs.Draining.{drained}
use Rattle.zl_channel.proofs.channel_end.ChannelEnd.drain.Goals as goal

pub returns-clause-some : goal.returns-clause-some
returns-clause-some c =
    let within = rw c.iter.ensures.rest at (c.in_ok-place.ensures {u = tt}).bound in
    let at = rw (← c.behind-self.view_is) at (sym c.index_mut.ensures.value) in
    rw (← c.self.view_is) (drained _ _ _ _ _ _ within at c.pop.ensures.items)
