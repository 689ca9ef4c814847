use Rattle.zl_calls.proofs.Common.{refl}
use Rattle.zl_calls.proofs.boot.BootFaults.{handle_seen}
use Rattle.zl_calls.proofs.boot.Made.handle.Goals as goal

pub returns-in_err-kind : goal.returns-in_err-kind
returns-in_err-kind c = rw (c.from_residual.ensures, handle_seen c.args.self.now.objects.objects c.args.grant, ← c.in_err-kind.ensures {u = tt}) refl

pub returns-in_err-rights : goal.returns-in_err-rights
returns-in_err-rights c =
    rw (
      c.from_residual-in_err-rights.ensures,
      handle_seen c.args.self.now.objects.objects c.args.grant,
      ← c.in_ok-kind.ensures {u = tt},
      ← c.in_err-rights.ensures {u = tt},
    ) refl

pub returns : goal.returns
returns c = rw (handle_seen c.args.self.now.objects.objects c.args.grant, ← c.in_ok-kind.ensures {u = tt}, ← c.in_ok-rights.ensures {u = tt}) refl
