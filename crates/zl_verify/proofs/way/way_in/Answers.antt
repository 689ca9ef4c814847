use Rattle.zl_verify.proofs.way.way_in.Goals as goal

pub longest_ways-requires : goal.longest_ways-requires
longest_ways-requires c = rw c.deref.ensures.value (c.in-Ok.ensures {u = tt}).nested
