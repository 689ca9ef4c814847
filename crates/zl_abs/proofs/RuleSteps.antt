-- The rule of the instruction at a place, by what stands there.
use Rattle.zl_abs.proofs.Common.{Bool, CallInstr, Err, Image, Instr, IsTrue, List, LocalInstr, None, Option, Some, State, [], and_parts, and_then, arith}
use Rattle.zl_abs.proofs.Common.{call_in, call_rule, edges, instr_at, is_call_in_range, is_in_range, is_instr_in_range, length, list_all, local_in, local_rule}
use Rattle.zl_abs.proofs.Common.{none-some, ranges, refl, rule_by, rule_with, same_Some, slice_get, suc, sym, target_of, true, zero, ℕ, ◌<◌, ◌∷◌, ◌≡◌, ◌≤◌}
use Rattle.zl_code.specs.declared.image.Version.{Version}
use Rattle.zl_code.specs.declared.instr.Instr.TheVariants as instr
use Rattle.zl_abs.specs.declared.cause.Cause.TheVariants as cause
use Rattle.std.proofs.lemmas.Option.{slice_get_past}

local_by : (bounds : List ℕ) (i : Image) (n : ℕ) (s : State) (o : Option Instr) (x : LocalInstr) → Some x ≡ local_in o
    → rule_by bounds i n s o ≡ and_then (local_rule bounds i x s) (edges (length i.code) n (target_of x))
local_by bounds i n s None x e = absurd (none-some x (sym e))
local_by bounds i n s (Some (instr.Local y)) x e = let p : x ≡ y = same_Some x y e in rw p refl
local_by bounds i n s (Some (instr.Call y)) x e = absurd (none-some x (sym e))
local_by bounds i n s (Some (instr.Unknown y)) x e = absurd (none-some x (sym e))

pub local_there : (bounds : List ℕ) (i : Image) (n : ℕ) (s : State) (x : LocalInstr) → Some x ≡ local_in (instr_at i n)
    → rule_with bounds i n s ≡ and_then (local_rule bounds i x s) (edges (length i.code) n (target_of x))
unfolding rule_with
local_there bounds i n s x e = local_by bounds i n s (instr_at i n) x e

call_by : (bounds : List ℕ) (i : Image) (n : ℕ) (s : State) (o : Option Instr) (x : CallInstr) → Some x ≡ call_in o
    → rule_by bounds i n s o ≡ and_then (call_rule bounds i x s) (edges (length i.code) n 0)
call_by bounds i n s None x e = absurd (none-some x (sym e))
call_by bounds i n s (Some (instr.Call y)) x e = let p : x ≡ y = same_Some x y e in rw p refl
call_by bounds i n s (Some (instr.Local y)) x e = absurd (none-some x (sym e))
call_by bounds i n s (Some (instr.Unknown y)) x e = absurd (none-some x (sym e))

pub call_there : (bounds : List ℕ) (i : Image) (n : ℕ) (s : State) (x : CallInstr) → Some x ≡ call_in (instr_at i n)
    → rule_with bounds i n s ≡ and_then (call_rule bounds i x s) (edges (length i.code) n 0)
unfolding rule_with
call_there bounds i n s x e = call_by bounds i n s (instr_at i n) x e

get_some : {A : Type 0} (xs : List A) (n : ℕ) → n < length xs → None ≡ slice_get xs n → ⊥
get_some [] n h e = absurd (omega arith)
get_some (x ∷ xs) zero h e = none-some x e
get_some (x ∷ xs) (suc n) h e = get_some xs n (omega arith) e

unknown_by : (bounds : List ℕ) (i : Image) (n : ℕ) (s : State) (o : Option Instr) → (None ≡ o → ⊥) → None ≡ local_in o → None ≡ call_in o
    → rule_by bounds i n s o ≡ Err cause.IllegalOp
unknown_by bounds i n s None h e k = absurd (h refl)
unknown_by bounds i n s (Some (instr.Local y)) h e k = absurd (none-some y e)
unknown_by bounds i n s (Some (instr.Call y)) h e k = absurd (none-some y k)
unknown_by bounds i n s (Some (instr.Unknown y)) h e k = refl

pub unknown_there : (bounds : List ℕ) (i : Image) (n : ℕ) (s : State) → n < length i.code → None ≡ local_in (instr_at i n) → None ≡ call_in (instr_at i n)
    → Err cause.IllegalOp ≡ rule_with bounds i n s
unfolding rule_with
unknown_there bounds i n s h e k = sym (unknown_by bounds i n s (instr_at i n) (get_some i.code n h) e k)

pub nothing_there : (bounds : List ℕ) (i : Image) (n : ℕ) (s : State) → length i.code ≤ n → Err cause.FallsOff ≡ rule_with bounds i n s
unfolding rule_with
nothing_there bounds i n s h = rw (slice_get_past i.code n h) refl

-- ---- a call of an image is in range

one_of : (v : Version) (raw : Bool) (code : List Instr) (n : ℕ) (x : CallInstr) → list_all (is_instr_in_range v raw) code ≡ true
    → Some x ≡ call_in (slice_get code n) → IsTrue (is_call_in_range x)
one_of v raw [] n x h e = absurd (none-some x (sym e))
one_of v raw (instr.Call y ∷ code) zero x h e =
    let p : x ≡ y = same_Some x y e in
    rw p ((and_parts _ _ ((and_parts (is_instr_in_range v raw (instr.Call y)) (list_all (is_instr_in_range v raw) code) h).0)).1)
one_of v raw (instr.Local y ∷ code) zero x h e = absurd (none-some x (sym e))
one_of v raw (instr.Unknown y ∷ code) zero x h e = absurd (none-some x (sym e))
one_of v raw (y ∷ code) (suc n) x h e = one_of v raw code n x ((and_parts (is_instr_in_range v raw y) (list_all (is_instr_in_range v raw) code) h).1) e

pub call_in_range : (i : Image) (n : ℕ) (x : CallInstr) → IsTrue (is_in_range i) → Some x ≡ call_in (instr_at i n) → IsTrue (is_call_in_range x)
call_in_range i n x h e = one_of i.version i.raw i.code n x (ranges i h).code e
