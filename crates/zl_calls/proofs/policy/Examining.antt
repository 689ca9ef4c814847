-- What a policy is asked goes by the row of the call: its condition, and the faults of its handle operands from left to right.
use Rattle.zl_calls.proofs.Common.{Bool, CallInstr, CallName, Condition, Cpu, Entry, Err, IfSome, List, Map, None, Object, Ok, Option, Result, Row, Site, Some}
use Rattle.zl_calls.proofs.Common.{Status, TRANSFER, Verdict, WRITE, [], action_here, ap, arith, array_in, call_row, condition_of, consumes, contains, drop}
use Rattle.zl_calls.proofs.Common.{emptied_count, false, fault_of, field_of, fields_fault, filled_among, flat_map, get, get_or, handle_operands, if◌then◌else◌}
use Rattle.zl_calls.proofs.Common.{job_at, job_in, last_fault, length, list_refusal, looked_up, map, operand_by, operands_fault, option_or, refl, reg}
use Rattle.zl_calls.proofs.Common.{result_err, site_at, site_named, site_of, slice_index, subst, suc, sym, then_some, true, used, verdict_by, verdict_in}
use Rattle.zl_calls.proofs.Common.{verdict_on, zero, ℕ, ◌++◌, ◌<◌, ◌==◌, ◌||◌, ◌∙◌, ◌∷◌, ◌≡◌, ◌≤◌}
use Rattle.std.proofs.Math.Bool.{or_comm}
use Rattle.std.proofs.lemmas.List.Recursion.{or_push}
use Rattle.zl_code.specs.declared.history.CallName.TheVariants as name
use Rattle.zl_rights.specs.declared.kind.Kind.TheVariants as kind
use Rattle.zl_rights.specs.declared.status.Status.TheVariants as status
use Rattle.std.proofs.lemmas.List.{drop_all}
use Rattle.zl_code.specs.Asked.{given_in, listed_values}
use Rattle.zl_code.specs.declared.layout.Ending.{Ending}
use Rattle.zl_code.specs.declared.layout.Field.{Field}
use Rattle.zl_calls.specs.FieldFaults.{field_fault}

-- a site that may not be there
pub if_there : (there : Bool) (s : Site) (P : Site → Type 0) → P s → IfSome (then_some there s) P
if_there true s P holds = holds
if_there false s P holds = tt

-- the fault of an answer, by either word
pub same_fault : {A : Type 0} (answer : Result A Status) → fault_of answer ≡ result_err answer
same_fault (Ok x) = refl
same_fault (Err s) = refl

module _ (entries : Map Entry) where
  -- each handle of a list, where the values that were seen are those before it
  pub list_fault : (seen before hs : List ℕ) → ((v : ℕ) → contains seen v ≡ contains before v)
      → list_refusal entries before hs ≡ operands_fault entries seen (flat_map (operand_by (consumes [] TRANSFER)) hs)
  unfolding operands_fault
  list_fault seen before [] same = refl
  list_fault seen before (h ∷ hs) same =
      λ k. option_or (if sym (same h) k then Some status.BadHandle else same_fault (looked_up entries h [] TRANSFER) k)
      (list_fault (h ∷ seen) (before ++ h ∷ []) hs more k)
    where
      more : (v : ℕ) → contains (h ∷ seen) v ≡ contains (before ++ h ∷ []) v
      more v =
          ap (λ b. (h == v) || b) (same v) ∙ or_comm (h == v) (contains before v)
          ∙ sym (or_push (λ xs. contains xs v) (λ y. y == v) refl (λ x xs. refl) before h)

  -- one field more was examined, and its register has no fault
  pub one_examined : (c : Cpu) (rs : List ℕ) (in_list : Option Status) (d : Field) (fs : List Field) (n k : ℕ) → k < length fs
      → field_fault entries (field_of (get_or fs k d)) (reg c (slice_index rs n)) ≡ None
      → fields_fault entries c (map field_of (drop k fs)) n rs in_list ≡ fields_fault entries c (map field_of (drop (suc k) fs)) (suc n) rs in_list
  one_examined c rs in_list d [] n k within none = absurd (omega (arith, within))
  one_examined c rs in_list d (g ∷ fs) n zero within none = rw none refl
  one_examined c rs in_list d (g ∷ fs) n (suc k) within none = one_examined c rs in_list d fs n k (omega (arith, within)) none

  -- all fields were examined, and behind them come these handles
  pub behind_all : (c : Cpu) (i : CallInstr) (fs : List Field) (n : ℕ) (e other : Ending) (hs : List ℕ) → length fs ≤ n → e ≡ other
      → hs ≡ listed_values other (given_in other i c)
      → (let in_list = last_fault entries c e i in
      fields_fault entries c (map field_of fs) 0 i.registers in_list ≡ fields_fault entries c (map field_of (drop n fs)) n i.registers in_list)
      → list_refusal entries [] hs ≡ fields_fault entries c (map field_of fs) 0 i.registers (last_fault entries c e i)
  behind_all c i fs n e other hs past is same so_far =
      ap (list_refusal entries []) same ∙ ((λ k. last_fault entries c (sym is k) i) ∙ sym (so_far ∙ rw (drop_all n fs past) refl))

  -- the first fault of a call of the row
  abbrev pub row_fault : Row → CallInstr → Cpu → Option Status
  row_fault r i c = fields_fault entries c r.fields 0 i.registers (last_fault entries c r.ending i)

  -- this is true of the condition and the first fault of the site
  abbrev pub AtSite : (Option Condition → Option Status → Type 0) → Site → Type 0
  AtSite P s = P (condition_of s.request) (operands_fault entries [] (handle_operands s.request))

  -- what is true of those by the row of the call is true of those of its site
  by_name : (n : CallName) (rs last : List ℕ) (c : Cpu) (P : Option Condition → Option Status → Type 0)
      → (let i : CallInstr = record { name = n; registers = rs; last = last } in
      P (call_row n).condition (row_fault (call_row n) i c) → AtSite P (site_at n i c))
  unfolding handle_operands operands_fault
  by_name name.ChanWrite rs last c P holds =
      subst (λ f. P None (option_or (result_err (looked_up entries (reg c (slice_index rs 1)) (kind.Channel ∷ []) WRITE)) f))
      (list_fault [] [] (map (reg c) (used last)) (λ v. refl)) holds
  by_name name.ChanWriteSlots rs last c P holds =
      let i : CallInstr = record { name = name.ChanWriteSlots; registers = rs; last = last } in
      subst (λ f. P None (option_or (result_err (looked_up entries (reg c (slice_index rs 1)) (kind.Channel ∷ []) WRITE)) f))
      (list_fault [] [] (filled_among (emptied_count i c) (array_in i c)) (λ v. refl)) holds
  by_name _ rs last c P holds = holds

  pub at_row : (i : CallInstr) (c : Cpu) (P : Option Condition → Option Status → Type 0) → P (call_row i.name).condition (row_fault (call_row i.name) i c)
      → IfSome (site_of i c) (AtSite P)
  at_row i c P holds =
      subst (λ s. IfSome s (AtSite P)) (sym (site_named i c)) (if_there _ (site_at i.name i c) (AtSite P) (by_name i.name i.registers i.last c P holds))

  -- what the policy of the process's job says by the row of a call, it says of its site
  pub judged : (objects : Map Object) (pid job : ℕ) (i : CallInstr) (c : Cpu) (r : Row) (says : Option Verdict) (f : Option Status)
      → Some job ≡ job_in (get objects pid) → r ≡ call_row i.name → f ≡ row_fault r i c
      → says ≡ verdict_by (action_here (job_at objects job)) f r.condition → IfSome (site_of i c) (λ s. says ≡ verdict_on entries objects pid s.request)
  judged objects pid job i c r says f is row fault same =
      at_row i c (λ made f. says ≡ verdict_in objects (job_in (get objects pid)) f made) (rw (← is, ← row, ← fault) same)
