use Rattle.zl_calls.proofs.Common.{are_declared, handles_given, seen, ◌≡◌}
use Rattle.zl_calls.proofs.boot.BootDeclared.{fit_from}
use Rattle.zl_calls.proofs.boot.Made.are_declared.Given as goal

abbrev pub invariant-loop-number : goal.invariant-loop-number
invariant-loop-number l = fit_from (seen l.self).objects l.starts l.handles l.number
    ≡ are_declared l.starts (handles_given (seen l.self).objects l.handles)
