-- A slow search for a typing, to hold worked programs against the rules.
use Rattle.zl_abs.proofs.Common.{Bool, Cause, Edge, Err, Image, Instr, List, None, Ok, Option, Result, Some, State, [], all_below, all_joined, are_distinct}
use Rattle.zl_abs.proofs.Common.{below, bounds_of, call_rule, examined_all, false, if◌then◌else◌, imm_of, joined, least_from, length, local_parts, local_rule}
use Rattle.zl_abs.proofs.Common.{nat_lt, replicate, row_of, rule_with, slice_get, slice_set, start_state, suc, true, uses_of, with_all, with_value, zero, ℕ}
use Rattle.zl_abs.proofs.Common.{◌&&◌, ◌+◌, ◌∷◌}
use Rattle.zl_abs.specs.declared.cause.Cause.TheVariants as cause

abbrev Found : Type 0
Found = List (Option State)

-- what the search comes to: a typing, a rule that doesn't hold at a place, or two ways with no state above both
pub data Verdict : Type 0 where
  Typed : Verdict
  Refused : (place : ℕ) (cause : Cause) → Verdict
  Conflicts : (place : ℕ) → Verdict
  Unfinished : Verdict

abbrev Search : Type 0
Search = Result Found Verdict

abbrev put : Found → ℕ → Option State → Search
put f n None = Err (Conflicts n)
put f n (Some s) = Ok (slice_set f n (Some s))

abbrev merged : Found → ℕ → State → Option (Option State) → Search
merged f n s None = Err (Conflicts n)
merged f n s (Some None) = Ok (slice_set f n (Some s))
merged f n s (Some (Some t)) = put f n (all_joined t s)

abbrev with_edges : List Edge → Search → Search
with_edges [] f = f
with_edges (e ∷ es) (Err v) = Err v
with_edges (e ∷ es) (Ok f) = with_edges es (merged f e.0 e.1 (slice_get f e.0))

abbrev by_rule : ℕ → Result (List Edge) Cause → Found → Search
by_rule n (Err c) f = Err (Refused n c)
by_rule n (Ok es) f = with_edges es (Ok f)

abbrev at_place : List ℕ → Image → ℕ → Option (Option State) → Found → Search
at_place bounds i n (Some (Some s)) f = by_rule n (rule_with bounds i n s) f
at_place bounds i n _ f = Ok f

abbrev one_by_one : List ℕ → Image → ℕ → List Instr → Search → Search
one_by_one bounds i n [] f = f
one_by_one bounds i n (x ∷ xs) (Err v) = Err v
one_by_one bounds i n (x ∷ xs) (Ok f) = one_by_one bounds i (n + 1) xs (at_place bounds i n (slice_get f n) f)

abbrev rounds : ℕ → List ℕ → Image → Search → Search
rounds zero bounds i f = f
rounds (suc n) bounds i f = rounds n bounds i (one_by_one bounds i 0 i.code f)

-- the state at a place is above
abbrev is_above : Option (Option State) → State → Bool
is_above (Some (Some t)) s = all_below s t
is_above _ s = false

abbrev all_lead : Found → List Edge → Bool
all_lead f [] = true
all_lead f (e ∷ es) = is_above (slice_get f e.0) e.1 && all_lead f es

abbrev leads_on : Found → Result (List Edge) Cause → Bool
leads_on f (Err c) = false
leads_on f (Ok es) = all_lead f es

abbrev is_typed_at : List ℕ → Image → Found → ℕ → Option State → Bool
is_typed_at bounds i f n None = true
is_typed_at bounds i f n (Some s) = leads_on f (rule_with bounds i n s)

abbrev are_typed_from : List ℕ → Image → Found → ℕ → Found → Bool
are_typed_from bounds i f n [] = true
are_typed_from bounds i f n (o ∷ rest) = is_typed_at bounds i f n o && are_typed_from bounds i f (n + 1) rest

abbrev told : List ℕ → Image → Search → Verdict
told bounds i (Err v) = v
told bounds i (Ok f) = if are_typed_from bounds i f 0 f then Typed else Unfinished

abbrev begun : Image → Search
begun i = if nat_lt 0 (length i.code) then Ok (slice_set (replicate (length i.code) None) 0 (Some (start_state i))) else Err (Refused 0 cause.FallsOff)

-- what four rounds over the code come to
abbrev pub verdict : Image → Verdict
verdict i = told (bounds_of i.code) i (rounds 4 (bounds_of i.code) i (begun i))

-- names what has to unfold
unfoldable pub searching : Unit {0}
unfolding below joined all_below all_joined with_value with_all start_state imm_of least_from local_rule call_rule uses_of examined_all are_distinct rule_with
    row_of local_parts
searching = tt
