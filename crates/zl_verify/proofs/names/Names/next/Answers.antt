use Rattle.zl_verify.proofs.Common.{length, slice_index, slice_index_or, ◌-◌, ◌≡◌}
use Rattle.zl_verify.proofs.NextNamed.{next_at}
use Rattle.zl_verify.proofs.names.Names.next.Goals as goal

pub returns : goal.returns
returns c =
    let row = c.index.ensures in
    let wide = c.from-2.ensures in
    let place = c.from.ensures in
    let number = c.number.ensures.value in
    let size = c.len.ensures.value in
    let e : c.from-2.result ≡ slice_index c.index.result.now c.args.register = cc in
    let f : c.index.result.now ≡ slice_index_or c.args.self.now.rows.items (length c.args.image.now.code - 1 - c.args.place) c.index.result.now = cc in
    let below = c.number.ensures.below in
    let inside = c.requires.inside in
    rw e (next_at _ _ c.requires.names c.args.place c.args.register inside (rw number at below) c.index.result.now f)
