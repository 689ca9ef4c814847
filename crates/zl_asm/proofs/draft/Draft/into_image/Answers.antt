use Rattle.zl_asm.proofs.Common.{arith, held_by, inl, inr}
use Rattle.zl_asm.proofs.DraftGives.{gives_image, gives_none}
use Rattle.zl_asm.proofs.PairedCode.{joined_in_range, joined_length}
use Rattle.zl_asm.proofs.draft.Draft.into_image.Goals as goal

pub set_code-requires-clause-in_range : goal.set_code-requires-clause-in_range
set_code-requires-clause-in_range c =
    let r = c.in_ok-code.ensures {u = tt} in
    rw ((c.in-Ok.ensures {u = tt}).joined, c.deref.ensures.value) (joined_in_range _ _ c.in_ok-code.code.items r.few r.whole.in_range)

pub set_code-requires-clause-most : goal.set_code-requires-clause-most
set_code-requires-clause-most c =
    let r = c.in_ok-code.ensures {u = tt} in
    rw ((c.in-Ok.ensures {u = tt}).joined, c.deref.ensures.value) (omega (arith, joined_length c.in_ok-code.code.items, r.few))

pub returns-in-Ok-clause-given : goal.returns-in-Ok-clause-given
returns-in-Ok-clause-given c =
    let r = c.in_ok-code.ensures {u = tt} in
    let nested = c.in-Ok.ensures {u = tt} in
    gives_image (held_by c.args.self) c.in_ok-code.code.items c.set_code.new.self r.whole r.few
    (rw (nested.joined, c.deref.ensures.value) at nested.keeps) (rw (nested.joined, c.deref.ensures.value) at c.set_code.ensures) c.len.ensures.in_range

pub returns-in-Ok-clause-in_range : goal.returns-in-Ok-clause-in_range
returns-in-Ok-clause-in_range c = c.len.ensures.in_range

pub returns-in-Err-clause-refused : goal.returns-in-Err-clause-refused
returns-in-Err-clause-refused c =
    let r = c.in_ok-code.ensures {u = tt} in
    elim (c.in-Err.ensures {u = tt}).refused [
      | inl starved ↦ inl starved
      | inr broken ↦ inr (gives_none (held_by c.args.self) c.in_ok-code.code.items r.whole r.few (rw c.deref.ensures.value at broken))
    ]
