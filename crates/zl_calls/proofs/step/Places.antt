-- Where a process stands in the list, and what stands next for it.
use Rattle.zl_calls.proofs.Common.{CallInstr, CallsNext, IsSome, Library, List, None, Option, Process, ProcessValue, Program, Site, Some, ap, arith, call_at}
use Rattle.zl_calls.proofs.Common.{call_here, call_row, calls_at, false, false≢true, get_or, get_or_from_slice_get, has_its_memory, is_some, length, map}
use Rattle.zl_calls.proofs.Common.{next_for, process_entry, process_value, refl, site_of, slice_get, slice_get-map, slice_get_read, stands_next, subst, sym}
use Rattle.zl_calls.proofs.Common.{true, ℕ, ◌<◌, ◌^◌, ◌∙◌, ◌≡◌}
use Rattle.zl_interp.proofs.Standing.{comes, no_call}
use Rattle.zl_verify.proofs.Sites.{has_site}

-- ---- reads of the list

pub pid_at : (ps : List Process) (n : ℕ) (p : Process) → n < length ps → p ≡ get_or ps n p → Some p.pid ≡ slice_get (map (λ e. e.0) (map process_entry ps)) n
pid_at ps n p lt is = simp slice_get-map (rw (slice_get_read ps (length ps) n p refl lt is) refl)

-- ---- what stands next

-- the process runs the program g
module _ (lib : Library) (p : ProcessValue) (g : Program) (runs : slice_get lib p.program ≡ Some g) where
  -- a call that stands at the counter stands next for the process, if it has a site
  pub calls_next : (x : CallInstr) → call_at g.image p.cpu.counter ≡ Some x → next_for lib p ≡ calls_at x.name (site_of x p.cpu)
  calls_next x there = rw runs (comes g.image p.cpu x there)

  -- and where none does, none stands next
  pub no_call_next : call_at g.image p.cpu.counter ≡ None → call_here (next_for lib p) ≡ None
  no_call_next none = rw runs (no_call g.image p.cpu none)

-- the call stands next for the process, if it has a site
module _ (lib : Library) (p : ProcessValue) (x : CallInstr) (next : next_for lib p ≡ calls_at x.name (site_of x p.cpu)) where
  pub none_without_site : has_its_memory (call_row x.name).ending x p.cpu ≡ false → call_here (next_for lib p) ≡ None
  none_without_site none = ap call_here next ∙ by (site_of x p.cpu) (has_site x p.cpu ∙ none)
    where
      by : (s : Option Site) → is_some s ≡ false → call_here (calls_at x.name s) ≡ None
      by None h = refl
      by (Some s) h = absurd (false≢true (sym h))

-- the process that was read at the place stands at the call
module _ (lib : Library) (ps : List Process) (place : ℕ) (q : Process) (read : q ≡ get_or ps place q) (x : CallInstr) (next : CallsNext lib q x)
    (p : Process) (at : slice_get ps place ≡ Some p) where
  same : (q2 : Process) → q2 ≡ get_or ps place q2 → q2 ≡ p
  same q2 read2 = read2 ∙ get_or_from_slice_get ps place p q2 at

  pub none_at : (q2 : Process) → q2 ≡ get_or ps place q2 → has_its_memory (call_row x.name).ending x q2.cpu ≡ false → call_here (stands_next lib p) ≡ None
  none_at q2 read2 none =
      none_without_site lib (process_value p) x (subst (λ (r : Process). CallsNext lib r x) (same q read) next)
      (subst (λ (r : Process). has_its_memory (call_row x.name).ending x r.cpu ≡ false) (same q2 read2) none)

  pub site_at : (q2 : Process) → q2 ≡ get_or ps place q2 → has_its_memory (call_row x.name).ending x q2.cpu ≡ true → IsSome (site_of x p.cpu)
  site_at q2 read2 has = has_site x p.cpu ∙ subst (λ (r : Process). has_its_memory (call_row x.name).ending x r.cpu ≡ true) (same q2 read2) has

  pub counter_at : q.cpu.counter < 4096 → p.cpu.counter < 2 ^ 32
  counter_at few = let within : p.cpu.counter < 4096 = subst (λ (r : Process). r.cpu.counter < 4096) (same q read) few in omega (arith, within)
