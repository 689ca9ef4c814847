-- A call as it stands at its instruction. By its name a call goes by a row that is known, so that its site computes.
use Rattle.zl_verify.proofs.Common.{Bool, CallInstr, CallName, Cpu, List, Site, Some, ap, call_row, false, has_its_memory, is_some, refl, same_Some, site_of}
use Rattle.zl_verify.proofs.Common.{subst, sym, then_some, true, ℕ, ◌∙◌, ◌≡◌}
use Rattle.zl_code.specs.Request.{site_at}
use Rattle.zl_code.proofs.CallRows.{site_named}

-- a call by its parts, which a lemma by cases of the name takes
abbrev pub call : CallName → List ℕ → List ℕ → CallInstr
call n registers last = record { name = n; registers = registers; last = last }

-- P is true of the site of the call
abbrev pub AtSite : Cpu → CallInstr → (Site → Type 0) → Type 0
AtSite c x P = P (site_at x.name x c)

-- what is true by the name of a call is true of its site
pub of_site : (c : Cpu) (x : CallInstr) (t : Site) → site_of x c ≡ Some t → (P : Site → Type 0) → AtSite c x P → P t
of_site c x t is P h = by (has_its_memory (call_row x.name).ending x c) (sym (site_named x c) ∙ is)
  where
    by : (there : Bool) → then_some there (site_at x.name x c) ≡ Some t → P t
    by true e = subst P (same_Some _ t e) h
    by false e = cc

-- a call has a site just where its memory is there
pub has_site : (x : CallInstr) (c : Cpu) → is_some (site_of x c) ≡ has_its_memory (call_row x.name).ending x c
has_site x c = ap is_some (site_named x c) ∙ by (has_its_memory (call_row x.name).ending x c)
  where
    by : (there : Bool) → is_some (then_some there (site_at x.name x c)) ≡ there
    by true = refl
    by false = refl
