-- The answers other than OK, where no policy has a say: they follow from the caller's table and from counts.
use Rattle.zl_calls.proofs.Common.{Bool, Entry, Err, FreeBy, IsRefusedBy, IsTrue, Kind, Library, List, Map, None, Objects, Ok, Option, Outcome, PlainCalls}
use Rattle.zl_calls.proofs.Common.{Process, Refused, Request, Result, Site, Some, Status, Wants, World, [], answer_if, ap, bits, false, false≢true, first_some}
use Rattle.zl_calls.proofs.Common.{get, gives_refused, granted, handle_operands, if◌then◌else◌, left_free, listed, looked_up, may_want, not, operands_fault}
use Rattle.zl_calls.proofs.Common.{option_or, plain_refusal, refl, replied, result_err, subst, sym, table_of, taken, takes, then_some, true, wants_nothing}
use Rattle.zl_calls.proofs.Common.{within, ℕ, ◌∙◌, ◌∷◌, ◌≡◌}
use Rattle.zl_rights.specs.declared.status.Status.TheVariants as status
use Rattle.zl_code.specs.declared.history.Outcome.TheVariants as outcome
use Rattle.zl_calls.proofs.calls.Owned.{IsOwn, own_in}
pub use Rattle.zl_calls.proofs.policy.Plain.{answers}

-- ---- handles that were looked up

-- one that was found is there, and of one of the kinds
found_of_kind : (o : Option Entry) (kinds : List Kind) (needed : ℕ) (e : Entry) → granted o kinds needed ≡ Ok e → (o ≡ Some e) × (takes kinds e.kind ≡ true)
found_of_kind None kinds needed e found = absurd cc
found_of_kind (Some x) kinds needed e found = by_tests (takes kinds x.kind) (within needed (bits x.rights)) refl found
  where
    by_tests : (a b : Bool) → takes kinds x.kind ≡ a
        → ◌≡◌ {A = Result Entry Status} (if a then (if b then Ok x else Err status.AccessDenied) else Err status.WrongType) (Ok e)
        → (Some x ≡ Some e) × (takes kinds e.kind ≡ true)
    by_tests true true is h =
        let same : x ≡ e = cc in
        (ap (λ (y : Entry). Some y) same, subst (λ (y : Entry). takes kinds y.kind ≡ true) same is)
    by_tests true false is h = absurd cc
    by_tests false b is h = absurd cc

pub is_found : (o : Option Entry) (kinds : List Kind) (needed : ℕ) (e : Entry) → granted o kinds needed ≡ Ok e → o ≡ Some e
is_found o kinds needed e found = (found_of_kind o kinds needed e found).0

pub is_of_kind : (o : Option Entry) (kinds : List Kind) (needed : ℕ) (e : Entry) → granted o kinds needed ≡ Ok e → takes kinds e.kind ≡ true
is_of_kind o kinds needed e found = (found_of_kind o kinds needed e found).1

-- ---- tests in their order

pub one_test : (a : Bool) (s : Status) → first_some (answer_if a s ∷ []) ≡ answers (then_some a s)
one_test true s = refl
one_test false s = refl

pub two_tests : (a b : Bool) (s t : Status) → first_some (answer_if a s ∷ answer_if b t ∷ []) ≡ answers (option_or (then_some a s) (then_some b t))
two_tests true b s t = refl
two_tests false b s t = one_test b t

pub three_tests : (a b c : Bool) (s t u : Status)
    → first_some (answer_if a s ∷ answer_if b t ∷ answer_if c u ∷ []) ≡ answers (option_or (then_some a s) (option_or (then_some b t) (then_some c u)))
three_tests true b c s t u = refl
three_tests false b c s t u = two_tests b c t u

-- ---- handle operands, and the tests behind them

-- a look-up comes before others, and before the tests
behind_look_up : (x : Result Entry Status) (others o : Option Status) (tests : List (Option Outcome)) → ((s : Status) → x ≡ Err s → o ≡ Some s)
    → ((e : Entry) → x ≡ Ok e → first_some (answers others ∷ tests) ≡ answers o) → first_some (answers (option_or (result_err x) others) ∷ tests) ≡ answers o
behind_look_up (Ok e) others o tests fails found = found e refl
behind_look_up (Err s) others o tests fails found = ap answers (sym (fails s refl))

-- the process has these handles; o is the answer other than OK
module _ (lib : Library) (w : World) (p : ℕ) (entries : Map Entry) (table : table_of w p ≡ entries) (request : Request) (o : Option Status) where
  -- a call that looks a handle up, and behind it others
  pub first_looked_up : (h : ℕ) (kinds : List Kind) (needed : ℕ) (others : Option Status)
      → operands_fault entries [] (handle_operands request) ≡ option_or (result_err (looked_up entries h kinds needed)) others
      → ((s : Status) → looked_up entries h kinds needed ≡ Err s → o ≡ Some s)
      → ((e : Entry) → looked_up entries h kinds needed ≡ Ok e → get entries h ≡ Some e → first_some (answers others ∷ listed lib w p request) ≡ answers o)
      → plain_refusal lib w p request ≡ answers o
  unfolding plain_refusal
  first_looked_up h kinds needed others fault fails found =
      (λ i. first_some (answers (operands_fault (table i) [] (handle_operands request)) ∷ listed lib w p request))
      ∙ (ap (λ (f : Option Status). first_some (answers f ∷ listed lib w p request)) fault
      ∙ behind_look_up (looked_up entries h kinds needed) others o (listed lib w p request) fails
      (λ e is. found e is (is_found (get entries h) kinds needed e is)))

  -- one handle of any kind, where just its rights are tested
  pub any_looked_up : (h needed : ℕ) → operands_fault entries [] (handle_operands request) ≡ option_or (result_err (looked_up entries h [] needed)) None
      → (get entries h ≡ None → o ≡ Some status.BadHandle) → ((e : Entry) → get entries h ≡ Some e
      → first_some (answer_if (not (within needed (bits e.rights))) status.AccessDenied ∷ listed lib w p request) ≡ answers o)
      → plain_refusal lib w p request ≡ answers o
  unfolding plain_refusal
  any_looked_up h needed fault none found =
      (λ i. first_some (answers (operands_fault (table i) [] (handle_operands request)) ∷ listed lib w p request))
      ∙ (ap (λ (f : Option Status). first_some (answers f ∷ listed lib w p request)) fault ∙ by_entry (get entries h) refl)
    where
      by_rights : (b : Bool) (e : Entry)
          → first_some (answers (option_or (result_err (if b then Ok e else Err status.AccessDenied)) None) ∷ listed lib w p request)
          ≡ first_some (answer_if (not b) status.AccessDenied ∷ listed lib w p request)
      by_rights true e = refl
      by_rights false e = refl

      by_entry : (x : Option Entry) → get entries h ≡ x
          → first_some (answers (option_or (result_err (granted x [] needed)) None) ∷ listed lib w p request) ≡ answers o
      by_entry None is = ap answers (sym (none is))
      by_entry (Some e) is = by_rights (within needed (bits e.rights)) e ∙ found e is

  -- a call that looks two handles up
  pub both_looked_up : (h j : ℕ) (kinds others : List Kind) (needed more : ℕ) → operands_fault entries [] (handle_operands request)
      ≡ option_or (result_err (looked_up entries h kinds needed)) (option_or (result_err (looked_up entries j others more)) None)
      → ((s : Status) → looked_up entries h kinds needed ≡ Err s → o ≡ Some s)
      → ((e : Entry) (s : Status) → looked_up entries h kinds needed ≡ Ok e → looked_up entries j others more ≡ Err s → o ≡ Some s)
      → ((e f : Entry) → looked_up entries h kinds needed ≡ Ok e → looked_up entries j others more ≡ Ok f → get entries h ≡ Some e → get entries j ≡ Some f
      → first_some (listed lib w p request) ≡ answers o) → plain_refusal lib w p request ≡ answers o
  both_looked_up h j kinds others needed more fault fails also found =
      first_looked_up h kinds needed (option_or (result_err (looked_up entries j others more)) None) fault fails
      (λ e is there. behind_look_up (looked_up entries j others more) None o (listed lib w p request) (λ s. also e s is)
      (λ f are. found e f is are there (is_found (get entries j) others more f are)))

-- ---- an answer that refuses the call, or is that for a want

pub nothing_wanted : (s : Status) → IsTrue (wants_nothing s) → ⊥
nothing_wanted status.NoMemory want = false≢true want
nothing_wanted _ want = false≢true want

module _ (lib : Library) (w : World) (p : ℕ) (s : Site) where
  -- where a refusal tells no more than the status
  abbrev pub TellsNothing : Type 0
  TellsNothing = (answer : Status) → gives_refused w p s.request answer ≡ []

  pub refused_calls : (wants : Status → Bool) (o : Option Status) (answer : Status) (w2 : World) → TellsNothing → plain_refusal lib w p s.request ≡ answers o
      → wants ≡ may_want s.request → IsRefusedBy wants o answer → w2 ≡ replied (taken w p s) p s answer [] → PlainCalls lib w p s (outcome.Answered answer) w2
  refused_calls wants (Some r) answer w2 nothing refused may by is =
      (Refused, rw refused (ap (λ (x : Status). outcome.Answered x) by, is ∙ rw (by, nothing r) refl))
  refused_calls wants None answer w2 nothing refused may by is =
      (Wants answer, rw refused (ap (λ (f : Status → Bool). f answer) (sym may) ∙ by, refl, is ∙ rw (nothing answer) refl))

  -- the choice is the lab's own, where the values are those that are left
  pub refused_own : (before after : List Process) (r : Objects) (wants : Status → Bool) (o : Option Status) (answer : Status) (w2 : World)
      (nothing : TellsNothing)
      (refused : plain_refusal lib w p s.request ≡ answers o) (may : wants ≡ may_want s.request) (by : IsRefusedBy wants o answer)
      (is : w2 ≡ replied (taken w p s) p s answer []) → FreeBy after (left_free (own_in before r) p s.request)
      → IsOwn before after r p s.request (refused_calls wants o answer w2 nothing refused may by is).0
  unfolding refused_calls
  refused_own before after r wants (Some why) answer w2 nothing refused may by is free = free
  refused_own before after r wants None answer w2 nothing refused may by is free = tt
