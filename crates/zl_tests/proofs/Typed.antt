-- A typing of an image and a step bound of it, found and tested by computation, where an instruction is led to from one place alone.
use Rattle.zl_code.proofs.Common.{◌≡◌, ◌+◌, ◌-◌, ◌==◌, ◌&&◌, ℕ, zero, suc, arith, Bool, true, false, IsTrue, List, [], ◌∷◌, refl, subst, replicate, length}
use Rattle.zl_code.proofs.Common.{list_all, and_parts, eqb-true, ltb-true, nat_lt, Option, Some, None, Result, Ok, Err}
use Rattle.std.specs.Prelude.{slice_get, slice_set, slice_index_or}
use Rattle.zl_code.specs.declared.instr.Instr.{Instr}
use Rattle.zl_code.specs.declared.blocks.Mark.{Mark}
use Rattle.zl_code.specs.declared.blocks.Mark.TheVariants as mark
use Rattle.zl_code.specs.Blocks.{marks_of}
use Rattle.zl_code.specs.Image.{Image}
use Rattle.zl_code.specs.Instructions.{row_of}
use Rattle.zl_code.specs.Limits.{register_count}
use Rattle.zl_code.specs.Spells.{local_parts}
use Rattle.zl_abs.specs.declared.cause.Cause.{Cause}
use Rattle.zl_abs.specs.declared.value.AbsVal.{AbsVal}
use Rattle.zl_abs.specs.declared.value.AbsVal.TheVariants.{Word}
use Rattle.zl_abs.specs.Values.{below, joined}
use Rattle.zl_abs.specs.States.{State, IsState, is_named_well, all_below, all_joined, with_value, with_all, start_state}
use Rattle.zl_abs.specs.Bounds.{bounds_of, imm_of, least_from}
use Rattle.zl_abs.specs.Rule.{Edge}
use Rattle.zl_abs.specs.LocalRules.{local_rule}
use Rattle.zl_abs.specs.CallRules.{examined_all, are_distinct, uses_of, call_rule}
use Rattle.zl_abs.specs.Typing.{AllLead, Holds, IsAbove, IsTyping, rule_with}
use Rattle.zl_verify.specs.Lists.{at}
use Rattle.zl_verify.specs.Steps.{AllBelow, IsStepBound, leads, leads_by, spots}

abbrev pub Found : Type 0
Found = List (Option State)

-- ---- what is found

abbrev with_edges : List Edge → Found → Found
with_edges [] f = f
with_edges (e ∷ es) f = with_edges es (slice_set f e.0 (Some e.1))

abbrev by_rule : Result (List Edge) Cause → Found → Found
by_rule (Err c) f = f
by_rule (Ok es) f = with_edges es f

abbrev led_from : List ℕ → Image → ℕ → Option State → Found → Found
led_from bounds i n None f = f
led_from bounds i n (Some s) f = by_rule (rule_with bounds i n s) f

abbrev one_by_one : List ℕ → Image → ℕ → List Instr → Found → Found
one_by_one bounds i n [] f = f
one_by_one bounds i n (x ∷ xs) f = one_by_one bounds i (n + 1) xs (led_from bounds i n (at f n) f)

-- the states that the edges lead to, from the first instruction to the last
abbrev pub found : Image → Found
found i = one_by_one (bounds_of i.code) i 0 i.code (slice_set (replicate (length i.code) None) 0 (Some (start_state i)))

-- ---- a test of each thing that a list has

abbrev all_from : {A : Type 0} → (ℕ → A → Bool) → ℕ → List (Option A) → Bool
all_from test n [] = true
all_from test n (None ∷ xs) = all_from test (n + 1) xs
all_from test n (Some a ∷ xs) = test n a && all_from test (n + 1) xs

passed_from : {A : Type 0} (test : ℕ → A → Bool) (n : ℕ) (xs : List (Option A)) → IsTrue (all_from test n xs) → (k : ℕ) (a : A) → at xs k ≡ Some a
    → IsTrue (test (n + k) a)
passed_from test n [] h k a is = cc
passed_from test n (None ∷ xs) h zero a is = cc
passed_from test n (Some b ∷ xs) h zero a is =
    let same : b ≡ a = cc in
    let here : n ≡ n + zero = omega arith in
    subst (λ (m : ℕ). IsTrue (test m a)) here (subst (λ c. IsTrue (test n c)) same (and_parts (test n b) _ h).0)
passed_from test n (None ∷ xs) h (suc k) a is =
    let further : n + 1 + k ≡ n + suc k = omega arith in
    subst (λ (m : ℕ). IsTrue (test m a)) further (passed_from test (n + 1) xs h k a is)
passed_from test n (Some b ∷ xs) h (suc k) a is =
    let further : n + 1 + k ≡ n + suc k = omega arith in
    subst (λ (m : ℕ). IsTrue (test m a)) further (passed_from test (n + 1) xs (and_parts (test n b) _ h).1 k a is)

passed : {A : Type 0} (test : ℕ → A → Bool) (xs : List (Option A)) → IsTrue (all_from test 0 xs) → (k : ℕ) (a : A) → at xs k ≡ Some a → IsTrue (test k a)
passed test xs h k a is =
    let here : 0 + k ≡ k = omega arith in
    subst (λ (m : ℕ). IsTrue (test m a)) here (passed_from test 0 xs h k a is)

-- ---- states

abbrev is_state : State → Bool
is_state s = (length s == register_count) && list_all (is_named_well s) s

named_at : (s : State) (xs : List AbsVal) → IsTrue (list_all (is_named_well s) xs) → (r : ℕ) → IsTrue (is_named_well s (slice_index_or xs r (Word 0)))
named_at s [] h r = refl
named_at s (v ∷ xs) h zero = (and_parts (is_named_well s v) _ h).0
named_at s (v ∷ xs) h (suc r) = named_at s xs (and_parts (is_named_well s v) _ h).1 r

state_by : (s : State) → IsTrue (is_state s) → IsState s
state_by s h =
    let both = and_parts (length s == register_count) _ h in
    record { long = eqb-true (length s) register_count both.0; tags = named_at s s both.1 }

-- ---- edges

abbrev is_above : Option State → State → Bool
is_above None s = false
is_above (Some t) s = all_below s t

abbrev all_lead : Found → List Edge → Bool
all_lead f [] = true
all_lead f (e ∷ es) = is_above (at f e.0) e.1 && all_lead f es

abbrev leads_on : Found → Result (List Edge) Cause → Bool
leads_on f (Err c) = false
leads_on f (Ok es) = all_lead f es

above_by : (o : Option State) (s : State) → IsTrue (is_above o s) → IsAbove o s
above_by None s h = cc
above_by (Some t) s h = h

all_lead_by : (f : Found) (es : List Edge) → IsTrue (all_lead f es) → AllLead (at f) es
all_lead_by f [] h = tt
all_lead_by f (e ∷ es) h =
    let both = and_parts (is_above (at f e.0) e.1) _ h in
    (above_by (at f e.0) e.1 both.0, all_lead_by f es both.1)

holds_by : (f : Found) (r : Result (List Edge) Cause) → IsTrue (leads_on f r) → Holds (at f) r
holds_by f (Err c) h = cc
holds_by f (Ok es) h = all_lead_by f es h

-- ---- a typing

abbrev fits : List ℕ → Image → Found → ℕ → State → Bool
fits bounds i f n s = is_state s && leads_on f (rule_with bounds i n s)

abbrev pub is_typing : Image → Found → Bool
is_typing i f = is_above (at f 0) (start_state i) && all_from (fits (bounds_of i.code) i f) 0 f

pub IsTyping-by : (i : Image) (f : Found) → IsTrue (is_typing i f) → IsTyping i (at f)
IsTyping-by i f h = record {
  begins = above_by (at f 0) (start_state i) both.0;
  state = λ n s is. state_by s (and_parts (is_state s) _ (here n s is)).0;
  holds = λ n s is. holds_by f (rule_with (bounds_of i.code) i n s) (and_parts (is_state s) _ (here n s is)).1;
}
  where
    both : IsTrue (is_above (at f 0) (start_state i)) × IsTrue (all_from (fits (bounds_of i.code) i f) 0 f)
    both = and_parts (is_above (at f 0) (start_state i)) _ h

    here : (n : ℕ) (s : State) → at f n ≡ Some s → IsTrue (fits (bounds_of i.code) i f n s)
    here = passed (fits (bounds_of i.code) i f) f both.1

-- ---- a step bound, where there is no block and no edge leads back

-- one less at each instruction than at the one before, from the budget on
abbrev pub numbers : Image → ℕ → List ℕ → ℕ
numbers i n cs = i.budget - n

abbrev is_plain : Option Mark → Bool
is_plain (Some (mark.Rep imm end)) = false
is_plain (Some (mark.EndRep rep)) = false
is_plain _ = true

abbrev are_below : Image → ℕ → List ℕ → Bool
are_below i k [] = true
are_below i k (m ∷ ms) = nat_lt (i.budget - m) k && are_below i k ms

abbrev falls_at : Image → Found → ℕ → State → Bool
falls_at i f n s = is_plain (slice_get (marks_of i.code) n) && are_below i (i.budget - n) (leads i (at f) n)

below_by : (i : Image) (o : Option Mark) (n k : ℕ) (cs ms : List ℕ) → IsTrue (is_plain o) → IsTrue (are_below i k ms) → AllBelow (numbers i) k (spots o n cs ms)
below_by i o n k cs [] p h = tt
below_by i None n k cs (m ∷ ms) p h =
    let both = and_parts (nat_lt (i.budget - m) k) _ h in
    (ltb-true (i.budget - m) k both.0, below_by i None n k cs ms p both.1)
below_by i (Some mark.Plain) n k cs (m ∷ ms) p h =
    let both = and_parts (nat_lt (i.budget - m) k) _ h in
    (ltb-true (i.budget - m) k both.0, below_by i (Some mark.Plain) n k cs ms p both.1)
below_by i (Some _) n k cs (m ∷ ms) p h = cc

abbrev pub is_step_bound : Image → Found → Bool
is_step_bound i f = all_from (falls_at i f) 0 f

pub IsStepBound-by : (i : Image) (f : Found) → IsTrue (is_step_bound i f) → IsStepBound i (at f) (numbers i)
IsStepBound-by i f h = record {
  within = λ n s cs is are. omega arith;
  falls = λ n cs are. by n cs (at f n) refl;
}
  where
    by : (n : ℕ) (cs : List ℕ) (o : Option State) → at f n ≡ o
        → AllBelow (numbers i) (i.budget - n) (spots (slice_get (marks_of i.code) n) n cs (leads_by i n o))
    by n cs None is = tt
    by n cs (Some s) is =
        let both = and_parts (is_plain (slice_get (marks_of i.code) n)) _ (passed (falls_at i f) f h n s is) in
        below_by i (slice_get (marks_of i.code) n) n (i.budget - n) cs _ both.0 (rw is at both.1)

-- names what has to unfold for both to compute
unfoldable pub typing : Unit {0}
unfolding below joined all_below all_joined with_value with_all start_state imm_of least_from local_rule call_rule uses_of examined_all are_distinct rule_with
    row_of local_parts
typing = tt
