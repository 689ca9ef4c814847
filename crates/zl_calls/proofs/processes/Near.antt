-- Whoever stands at a place is the first with its number.
use Rattle.zl_calls.proofs.Common.{IsTrue, List, Process, Some, [], arith, get_or, is_sorted, length, map, nat_cmp, none-some, position, process_entry}
use Rattle.zl_calls.proofs.Common.{process_value, same_Some, slice_get, suc, sym, zero, ℕ, ◌<◌, ◌==◌, ◌∷◌, ◌≡◌}
use Rattle.std.specs.declared.result.Result.TheVariants.{Ok}
use Rattle.std.specs.declared.cmp.Ordering.TheVariants.{Equal}
use Rattle.std.specs.Cmp.{nat_cmp_is}
use Rattle.zl_objects.proofs.Searching.{searched}

abbrev pids : List Process → List ℕ
pids ps = map (λ (p : Process). p.pid) ps

within : (ps : List Process) (n pid : ℕ) → slice_get (pids ps) n ≡ Some pid → n < length ps
within [] n pid is = absurd (none-some pid is)
within (p ∷ ps) zero pid is = omega arith
within (p ∷ ps) (suc n) pid is = omega (arith, within ps n pid is)

at_near : (ps : List Process) (n pid : ℕ) (d : Process) → slice_get (pids ps) n ≡ Some pid → (get_or ps n d).pid ≡ pid
at_near [] n pid d is = absurd (none-some pid is)
at_near (p ∷ ps) zero pid d is = same_Some p.pid pid is
at_near (p ∷ ps) (suc n) pid d is = at_near ps n pid d is

pub near_first : (ps : List Process) (pid n : ℕ) → IsTrue (is_sorted nat_cmp (map process_entry ps)) → slice_get (pids ps) n ≡ Some pid
    → Some n ≡ position (λ p. p.pid == pid) ps
near_first ps pid n rising is =
    searched (λ (p : Process). p.pid) process_value pid ps (Ok n) rising (within ps n pid is)
    (λ d. sym (nat_cmp_is (get_or ps n d).pid pid Equal (at_near ps n pid d is)))
