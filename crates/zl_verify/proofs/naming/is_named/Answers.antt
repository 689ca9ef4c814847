use Rattle.zl_verify.proofs.Common.{sym}
use Rattle.zl_verify.proofs.NextNamed.{call_keeps, local_keeps}
use Rattle.zl_verify.proofs.naming.is_named.Goals as goal

pub returns-in-Some : goal.returns-in-Some
returns-in-Some c = λ h. local_keeps c.args.image.now c.args.place c.args.register c.in-Some.local (sym c.in-Some.ensures.value) (c.is_named_in_local.ensures h)

pub returns-in-Some-call_at : goal.returns-in-Some-call_at
returns-in-Some-call_at c =
    λ h. call_keeps c.args.image.now c.args.place c.args.register c.in-Some-call_at.call (sym c.in-Some-call_at.ensures.value) (c.is_named_in_call.ensures h)
