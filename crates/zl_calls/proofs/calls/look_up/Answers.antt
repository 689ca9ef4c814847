use Rattle.zl_calls.proofs.Common.{bits, refl}
use Rattle.zl_calls.proofs.tables.Granted.{is_granted, is_live}
use Rattle.zl_calls.proofs.tables.Tables.{empty_refuses}
use Rattle.zl_calls.proofs.calls.look_up.Goals as goal

pub entry-requires : goal.entry-requires
entry-requires g c =
    record { live = is_live c.args.table.now.entries c.args.value c.args.kinds.now (bits c.args.rights) (c.requires.sure (rw c.if-not-this.true refl)) }

pub returns-then-not-this : goal.returns-then-not-this
returns-then-not-this g c =
    is_granted c.args.table.now.entries c.args.value c.args.kinds.now (bits c.args.rights) (c.requires.sure (rw c.if-not-this.true refl))
    c.entry.result c.entry.ensures

pub returns-then-live-eq0 : goal.returns-then-live-eq0
returns-then-live-eq0 g c =
    empty_refuses c.args.table.now.entries c.args.value (bits c.args.rights) c.len-live.result c.args.kinds.now c.len-live.ensures.count c.if-live-eq0.true
