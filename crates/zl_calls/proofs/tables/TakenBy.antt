-- The handles that a call takes, by its name: a call that isn't named here takes none.
use Rattle.zl_calls.proofs.Common.{All, All-nil, Bool, CallInstr, CallName, Cpu, Entry, IfSome, IsNoted, IsTrue, Map, None, NotesFor, Option, Some, Taken, []}
use Rattle.zl_calls.proofs.Common.{ap, call_row, false, get, handle_operands, has_its_memory, has_noted, refl, site_at, site_in, site_named, site_of, subst}
use Rattle.zl_calls.proofs.Common.{sym, taken_handles, then_some, true, ℕ, ◌∙◌, ◌≡◌, ◌≢◌}
use Rattle.zl_code.specs.declared.history.CallName.TheVariants as name

-- where the call has this name, and its handles are noted
pub notes_at : (i : CallInstr) (c : Cpu) (n : CallName) (entries : Map Entry) (t : Taken) → i.name ≡ n
    → All (IsNoted entries t) (taken_handles (site_at n i c).request) → NotesFor (site_of i c) entries t
notes_at i c n entries t is noted =
    subst (λ o. NotesFor o entries t) (sym (site_named i c ∙ ap (λ m. site_in m i c) is)) (by (has_its_memory (call_row n).ending i c))
  where
    by : (b : Bool) → NotesFor (then_some b (site_at n i c)) entries t
    by true = noted
    by false = tt

-- the calls that take no handle, unless they end their caller
none_taken : (n : CallName) (i : CallInstr) (c : Cpu) → n ≢ name.Close → n ≢ name.Replace → n ≢ name.ChanWrite → n ≢ name.ChanWriteSlots
    → n ≢ name.ProcessStart → taken_handles (site_at n i c).request ≡ []
unfolding taken_handles handle_operands
none_taken name.Close i c close replace write slots start = absurd (close refl)
none_taken name.Replace i c close replace write slots start = absurd (replace refl)
none_taken name.ChanWrite i c close replace write slots start = absurd (write refl)
none_taken name.ChanWriteSlots i c close replace write slots start = absurd (slots refl)
none_taken name.ProcessStart i c close replace write slots start = absurd (start refl)
none_taken _ i c close replace write slots start = refl

pub notes_none : (i : CallInstr) (c : Cpu) (entries : Map Entry) (t : Taken) → i.name ≢ name.Close → i.name ≢ name.Replace → i.name ≢ name.ChanWrite
    → i.name ≢ name.ChanWriteSlots → i.name ≢ name.ProcessStart → NotesFor (site_of i c) entries t
notes_none i c entries t close replace write slots start =
    notes_at i c i.name entries t refl
    (subst (All (IsNoted entries t)) (sym (none_taken i.name i c close replace write slots start)) (All-nil (IsNoted entries t)))

-- what is noted stays so
pub more_noted : (entries : Map Entry) (t t2 : Taken) (v : ℕ) → ((n k : ℕ) → IsTrue (has_noted t n k) → IsTrue (has_noted t2 n k)) → IsNoted entries t v
    → IsNoted entries t2 v
more_noted entries t t2 v more noted = by (get entries v) noted
  where
    by : (o : Option Entry) → IfSome o (λ e. IsTrue (has_noted t v e.koid)) → IfSome o (λ e. IsTrue (has_noted t2 v e.koid))
    by None noted = tt
    by (Some e) noted = more v e.koid noted
