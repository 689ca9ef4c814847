-- The kind with a number.
use Rattle.zl_abs.proofs.Common.{IfNone, IfSome, Kind, None, Option, Some, kind_number, kind_numbered, ne_eqb, refl, sym, ℕ, ◌≡◌, ◌≢◌}
use Rattle.zl_rights.specs.declared.kind.Kind.TheVariants as kind

again : (k : Kind) → Some k ≡ kind_numbered (kind_number k)
again kind.Process = refl
again _ = refl

pub kind_found : (n : ℕ) (o : Option Kind) → IfSome o (λ k. kind_number k ≡ n) → IfNone o ((k : Kind) → kind_number k ≢ n) → o ≡ kind_numbered n
kind_found n (Some k) found missing = rw (sym found) (again k)
kind_found n None found missing =
    rw (
      ne_eqb 1 n (missing kind.Process),
      ne_eqb 4 n (missing kind.Channel),
      ne_eqb 5 n (missing kind.Event),
      ne_eqb 6 n (missing kind.Port),
      ne_eqb 16 n (missing kind.Eventpair),
      ne_eqb 17 n (missing kind.Job),
    ) refl
