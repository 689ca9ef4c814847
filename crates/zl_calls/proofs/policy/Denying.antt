-- A call that a policy denies is answered in the registers that its row writes.
use Rattle.zl_calls.proofs.Common.{CallInstr, CallName, Condition, Cpu, IfSome, List, Objects, Option, Process, Some, [], answered, ap, call_row, cpu_answered}
use Rattle.zl_calls.proofs.Common.{if◌then◌else◌, is_some, is_written, refl, site_at, site_named, site_of, status_magnitude, sym, those, ℕ, ◌∙◌, ◌∷◌, ◌≡◌}
use Rattle.zl_code.specs.declared.history.CallName.TheVariants as name
use Rattle.zl_code.specs.declared.history.Outcome.TheVariants as outcome
use Rattle.zl_rights.specs.declared.status.Status.TheVariants as status
use Rattle.zl_calls.specs.Policed.{IsDenied}
use Rattle.zl_calls.proofs.policy.Examining.{if_there}

abbrev told_at : CallName → List ℕ → List ℕ → Cpu → Cpu
told_at n rs last c = cpu_answered (site_at n (record { name = n; registers = rs; last = last }) c) status.AccessDenied [] c

abbrev told_by_row : CallName → List ℕ → Cpu → Cpu
told_by_row n rs c = answered c (those is_written (call_row n).fields 0 rs) (status_magnitude status.AccessDenied ∷ [])

-- a call that makes an object takes nothing, and is told in no list
denied_if_making : (n : CallName) (rs last : List ℕ) (c : Cpu)
    → (if is_some (call_row n).condition then told_at n rs last c else c) ≡ (if is_some (call_row n).condition then told_by_row n rs c else c)
denied_if_making name.Close rs last c = refl
denied_if_making _ rs last c = refl

denied_cpu : (n : CallName) (rs last : List ℕ) (c : Cpu) (k : Condition) → (call_row n).condition ≡ Some k → told_at n rs last c ≡ told_by_row n rs c
denied_cpu n rs last c k making =
    ap (λ (o : Option Condition). if is_some o then told_at n rs last c else c) (sym making) ∙ denied_if_making n rs last c
    ∙ ap (λ (o : Option Condition). if is_some o then told_by_row n rs c else c) making

-- a call that makes an object is denied by its answer
pub denied_there : (i : CallInstr) (p p2 : Process) (r : Objects) (k : Condition) → (call_row i.name).condition ≡ Some k
    → p2 ≡ record p { cpu = answered p.cpu (those is_written (call_row i.name).fields 0 i.registers) (status_magnitude status.AccessDenied ∷ []) }
    → IfSome (site_of i p.cpu) (λ s. IsDenied s p r (outcome.Answered status.AccessDenied) p2 r)
denied_there i p p2 r k making after =
    let told = ap (λ c. record p { cpu = c }) (sym (denied_cpu i.name i.registers i.last p.cpu k making)) in
    rw (site_named i p.cpu) (if_there _ (site_at i.name i p.cpu) (λ s. IsDenied s p r (outcome.Answered status.AccessDenied) p2 r)
    (rw after (record { ends = refl; replied = told; table = refl; objects = refl })))
