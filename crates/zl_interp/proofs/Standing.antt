-- What stands next, by the instruction at the counter.
use Rattle.zl_interp.proofs.Common.{Cpu, IfNone, IfSome, Image, Instr, IsStuck, None, Option, Site, Some, ap, call_row, calls_at, false, false≢true}
use Rattle.zl_interp.proofs.Common.{has_its_memory, is_some, local_effect, moves, next_at, next_of, none-some, refl, same_Some, site_of, sym, true, ◌∙◌, ◌≡◌}
use Rattle.zl_code.specs.declared.history.CallName.{CallName}
use Rattle.zl_code.specs.declared.instr.CallInstr.{CallInstr}
use Rattle.zl_code.specs.declared.instr.Instr.TheVariants as instr
use Rattle.zl_code.specs.Image.{instr_at, call_at, call_in, local_at, local_in}
use Rattle.zl_verify.proofs.Sites.{has_site}
use Rattle.zl_interp.specs.Next.{IsStuckOrCalls, StandsNext, call_here}

-- ---- a call

call_of : (i : Option Instr) (c : Cpu) (x : CallInstr) → call_in i ≡ Some x → next_of i c ≡ calls_at x.name (site_of x c)
call_of (Some (instr.Call y)) c x there = ap (λ (z : CallInstr). calls_at z.name (site_of z c)) (same_Some y x there)
call_of _ c x there = absurd (none-some x there)

-- the call at the counter stands next where its operands can be read, and else none does
module _ (i : Image) (c : Cpu) (x : CallInstr) (there : call_at i c.counter ≡ Some x) where
  pub comes : next_at i c ≡ calls_at x.name (site_of x c)
  unfolding next_at
  comes = call_of (instr_at i c.counter) c x there

  pub call_stands : has_its_memory (call_row x.name).ending x c ≡ true → StandsNext i c x
  call_stands has = by (site_of x c) refl (has_site x c ∙ has)
    where
      by : (s : Option Site) → site_of x c ≡ s → is_some s ≡ true → StandsNext i c x
      by None at has = absurd (false≢true has)
      by (Some s) at has = record { site = s; at_site = at; next = comes ∙ ap (calls_at x.name) at }

  pub call_missing : has_its_memory (call_row x.name).ending x c ≡ false → call_here (next_at i c) ≡ None
  call_missing none = ap call_here comes ∙ by (site_of x c) (has_site x c ∙ none)
    where
      by : (s : Option Site) → is_some s ≡ false → call_here (calls_at x.name s) ≡ None
      by None none = refl
      by (Some s) none = absurd (false≢true (sym none))

moves_name_none : (o : Option Cpu) → call_here (moves o) ≡ None
moves_name_none None = refl
moves_name_none (Some c) = refl

no_call_by : (i : Option Instr) (c : Cpu) → call_in i ≡ None → call_here (next_of i c) ≡ None
no_call_by None c none = refl
no_call_by (Some (instr.Local x)) c none = moves_name_none (local_effect x c)
no_call_by (Some (instr.Call x)) c none = absurd (none-some x (sym none))
no_call_by (Some (instr.Unknown bytes)) c none = refl

-- where no call stands in the code, none stands next
pub no_call : (i : Image) (c : Cpu) → call_at i c.counter ≡ None → call_here (next_at i c) ≡ None
unfolding next_at
no_call i c none = no_call_by (instr_at i c.counter) c none

-- ---- a local instruction

moves_by : (i : Option Instr) (c : Cpu) → IfSome (local_in i) (λ x. next_of i c ≡ moves (local_effect x c))
moves_by (Some (instr.Local x)) c = refl
moves_by _ c = tt

-- the local instruction at the counter stands next
pub local_moves : (i : Image) (c : Cpu) → IfSome (local_at i c.counter) (λ x. next_at i c ≡ moves (local_effect x c))
unfolding next_at
local_moves i c = moves_by (instr_at i c.counter) c

stuck_by : (i : Option Instr) (c : Cpu) → IfNone (local_in i) (IsStuckOrCalls (next_of i c))
stuck_by None c = λ no_call. refl
stuck_by (Some (instr.Local x)) c = tt
stuck_by (Some (instr.Call x)) c = λ no_call. by_site x.name (site_of x c) no_call
  where
    by_site : (n : CallName) (s : Option Site) → call_here (calls_at n s) ≡ None → calls_at n s ≡ IsStuck
    by_site n None no_call = refl
    by_site n (Some s) no_call = absurd (none-some n (sym no_call))
stuck_by (Some (instr.Unknown bytes)) c = λ no_call. refl

-- where no local instruction stands in the code, none stands next
pub no_local : (i : Image) (c : Cpu) → IfNone (local_at i c.counter) (IsStuckOrCalls (next_at i c))
unfolding next_at
no_local i c = stuck_by (instr_at i c.counter) c
