use Rattle.zlab.proofs.Common.{◌++◌, take, arith, length-append, length-take}
use Rattle.std.proofs.KnownBytes.{Consumes-trans}
use Rattle.zlab.proofs.KnownInput.{front_full}
use Rattle.zlab.proofs.input.read_front.Goals as goal

pub returns-then-is_err-clause-taken : goal.returns-then-is_err-clause-taken
returns-then-is_err-clause-taken g c =
    let front = c.loop-block.text.items in
    let more = take c.in-Ok.count c.read.new.buf in
    record {
      taken = front ++ more;
      consumed = Consumes-trans _ _ _ _ _ c.loop-block.invariant.consumed c.in-Ok.ensures.bytes.0;
      at_most = omega (arith, length-append front more, c.in-Ok.ensures.bound, length-take c.min-room.result c.loop-block.block);
    }

pub returns-clause-ok : goal.returns-clause-ok
returns-clause-ok g c = front_full _ _ _ _ c.loop-block.invariant.consumed (omega arith)
