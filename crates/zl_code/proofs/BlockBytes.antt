-- The bytes of an instruction in range are to blocks what it is, and jump where it does.
use Rattle.zl_code.proofs.Common.{Bool, CallInstr, CallName, Instr, List, LocalInstr, None, Option, Some, [], and_parts, ap, arith, call_bytes, call_row}
use Rattle.zl_code.proofs.Common.{eqb-true, false, if◌then◌else◌, instr_bytes, is_instr_in_range, is_local_in_range, is_some}
use Rattle.zl_code.proofs.Common.{layout_of, list_all, local_bytes, local_parts, ltb-true, map, nat_lt, ne_eqb, not, number_at, refl, row_of}
use Rattle.zl_code.proofs.Common.{slice_index, true, ℕ, ◌<◌, ◌==◌, ◌||◌, ◌∙◌, ◌∷◌, ◌≡◌}
use Rattle.std.specs.List.{list_any}
use Rattle.zl_code.specs.Blocks.{are_blocks, mark_of, marks_of}
use Rattle.zl_code.specs.Instructions.{Layout, is_known, is_new, layout_at}
use Rattle.zl_code.specs.Jumps.{jump_of}
use Rattle.zl_code.specs.Spells.{jump_in, jumps, keep_blocks, mark_in}
use Rattle.zl_code.specs.declared.blocks.Mark.TheVariants as mark
use Rattle.zl_code.specs.declared.image.Version.{Version}
use Rattle.zl_code.specs.declared.image.Version.TheVariants as version
use Rattle.zl_code.specs.declared.history.CallName.TheVariants as name
use Rattle.zl_code.specs.declared.instr.Instr.TheVariants as instr
use Rattle.zl_code.specs.declared.instr.LocalInstr.TheVariants as local
use Rattle.zl_code.proofs.ImageTable.{both_and, target_and, word_again}

-- ---- local instructions

local_mark : (v : Version) (x : LocalInstr) → is_known v (local_parts x).opcode ≡ true → is_local_in_range x ≡ true
    → mark_in v (local_bytes x) ≡ mark_of (instr.Local x)
unfolding local_parts
local_mark version.One (local.Rep imm end) k h = cc
local_mark version.One (local.EndRep rep) k h = cc
local_mark version.Two (local.Rep imm end) k h = let p = both_and imm end [] h in λ j. mark.Rep (word_again imm p.0 j) (word_again end p.1 j)
local_mark version.Two (local.EndRep rep) k h = ap mark.EndRep (word_again rep (target_and rep [] h).0)
local_mark version.One _ k h = refl
local_mark version.Two _ k h = refl

local_jump : (x : LocalInstr) → is_local_in_range x ≡ true → jump_in (local_bytes x) ≡ jump_of (instr.Local x)
unfolding local_parts
local_jump (local.Jump target) h = ap Some (word_again target (target_and target [] h).0)
local_jump (local.JumpZero a target) h = ap Some (word_again target (target_and target (a ∷ []) h).0)
local_jump (local.JumpNotZero a target) h = ap Some (word_again target (target_and target (a ∷ []) h).0)
local_jump (local.JumpEqual a imm target) h = ap Some (word_again target (both_and imm target (a ∷ []) h).1)
local_jump (local.JumpNotEqual a imm target) h = ap Some (word_again target (both_and imm target (a ∷ []) h).1)
local_jump (local.JumpBelow a imm target) h = ap Some (word_again target (both_and imm target (a ∷ []) h).1)
local_jump (local.JumpNotBelow a imm target) h = ap Some (word_again target (both_and imm target (a ∷ []) h).1)
local_jump (local.JumpHas a imm target) h = ap Some (word_again target (both_and imm target (a ∷ []) h).1)
local_jump (local.JumpHasNot a imm target) h = ap Some (word_again target (both_and imm target (a ∷ []) h).1)
local_jump _ h = refl

-- ---- calls

no_block : (n : CallName) → ((call_row n).opcode == 26 ≡ false) × ((call_row n).opcode == 27 ≡ false)
no_block name.Close = (refl, refl)
no_block _ = (refl, refl)

no_jump : (n : CallName) → list_any (λ opcode. (call_row n).opcode == opcode) jumps ≡ false
no_jump name.Close = refl
no_jump _ = refl

call_mark : (v : Version) (i : CallInstr) → mark_in v (call_bytes i) ≡ mark.Plain
call_mark version.One i = refl
call_mark version.Two i = let n = no_block i.name in rw (n.0, n.1) refl

-- ---- what the version doesn't know

-- where the opcode has no row it is none of these, each of which has one
none_of : (n : ℕ) (ks : List ℕ) → list_all (λ k. is_some (layout_of k)) ks ≡ true → layout_of n ≡ None → list_any (λ k. n == k) ks ≡ false
none_of n [] all none = refl
none_of n (k ∷ ks) all none =
    let p = and_parts (is_some (layout_of k)) (list_all (λ k. is_some (layout_of k)) ks) all in by p.0 (n == k) refl (none_of n ks p.1 none)
  where
    by : is_some (layout_of k) ≡ true → (b : Bool) → (n == k) ≡ b → list_any (λ k. n == k) ks ≡ false → (b || list_any (λ k. n == k) ks) ≡ false
    by there true e rest =
        let z : is_some (layout_of n) ≡ true = ap (λ (m : ℕ). is_some (layout_of m)) (eqb-true n k e) ∙ there in
        let y : is_some (layout_of n) ≡ false = ap is_some none in cc
    by there false e rest = rest

jumps_known : list_all (λ k. is_some (layout_of k)) jumps ≡ true
unfolding row_of
jumps_known = refl

blocks_known : list_all (λ k. is_some (layout_of k)) (26 ∷ 27 ∷ []) ≡ true
unfolding row_of
blocks_known = refl

-- an opcode above 87 is none of these, which are below
none_above : (n : ℕ) (ks : List ℕ) → list_all (λ k. nat_lt k 88) ks ≡ true → 87 < n → list_any (λ k. n == k) ks ≡ false
none_above n [] all above = refl
none_above n (k ∷ ks) all above =
    let p = and_parts (nat_lt k 88) (list_all (λ k. nat_lt k 88) ks) all in
    let below = ltb-true k 88 p.0 in
    rw (ne_eqb n k (λ e. omega (arith, below, above, e)), none_above n ks p.1 above) refl

no_jump_new : (n : ℕ) → is_new n ≡ true → list_any (λ k. n == k) jumps ≡ false
no_jump_new n h = by (n == 26) refl (n == 27) refl (nat_lt 87 n) refl h
  where
    by : (p : Bool) → (n == 26) ≡ p → (q : Bool) → (n == 27) ≡ q → (r : Bool) → nat_lt 87 n ≡ r → (p || (q || r)) ≡ true → list_any (λ k. n == k) jumps ≡ false
    by true e q f r g h = rw (eqb-true n 26 e) refl
    by false e true f r g h = rw (eqb-true n 27 f) refl
    by false e false f true g h = none_above n jumps refl (ltb-true 87 n g)
    by false e false f false g h = cc

unknown_jump : (v : Version) (n : ℕ) → layout_at v n ≡ None → list_any (λ k. n == k) jumps ≡ false
unknown_jump version.Two n none = none_of n jumps jumps_known none
unknown_jump version.One n none = by (is_new n) refl none
  where
    by : (b : Bool) → is_new n ≡ b → (if not b then layout_of n else None) ≡ None → list_any (λ k. n == k) jumps ≡ false
    by true e none = no_jump_new n e
    by false e none = none_of n jumps jumps_known none

pub unknown_mark : (v : Version) (bytes : List ℕ) → layout_at v (slice_index bytes 0) ≡ None → mark_in v bytes ≡ mark.Plain
unknown_mark version.One bytes none = refl
unknown_mark version.Two bytes none =
    by (slice_index bytes 0 == 26) (slice_index bytes 0 == 27) (none_of (slice_index bytes 0) (26 ∷ 27 ∷ []) blocks_known none)
  where
    by : (p q : Bool) → (p || (q || false)) ≡ false
        → (if p then mark.Rep (number_at bytes 8 4) (number_at bytes 12 4) else if q then mark.EndRep (number_at bytes 12 4) else mark.Plain) ≡ mark.Plain
    by true q h = cc
    by false true h = cc
    by false false h = refl

-- ---- each instruction

not_there : (o : Option Layout) → not (is_some o) ≡ true → o ≡ None
not_there None h = refl
not_there (Some l) h = cc

unknown_layout : (v : Version) (raw : Bool) (bytes : List ℕ) → is_instr_in_range v raw (instr.Unknown bytes) ≡ true → layout_at v (slice_index bytes 0) ≡ None
unknown_layout v raw bytes h = not_there (layout_at v (slice_index bytes 0)) (and_parts _ _ (and_parts _ _ (and_parts raw _ h).1).1).1

pub mark_again : (v : Version) (raw : Bool) (x : Instr) → is_instr_in_range v raw x ≡ true → mark_in v (instr_bytes x) ≡ mark_of x
mark_again v raw (instr.Local x) h = let p = and_parts (is_known v (local_parts x).opcode) (is_local_in_range x) h in local_mark v x p.0 p.1
mark_again v raw (instr.Call x) h = call_mark v x
mark_again v raw (instr.Unknown bytes) h = unknown_mark v bytes (unknown_layout v raw bytes h)

jump_again : (v : Version) (raw : Bool) (x : Instr) → is_instr_in_range v raw x ≡ true → jump_in (instr_bytes x) ≡ jump_of x
jump_again v raw (instr.Local x) h = local_jump x (and_parts (is_known v (local_parts x).opcode) (is_local_in_range x) h).1
jump_again v raw (instr.Call x) h = rw (no_jump x.name) refl
jump_again v raw (instr.Unknown bytes) h = rw (unknown_jump v (slice_index bytes 0) (unknown_layout v raw bytes h)) refl

pub each_again : {X : Type 0} (f : List ℕ → X) (g : Instr → X) (test : Instr → Bool) → ((x : Instr) → test x ≡ true → f (instr_bytes x) ≡ g x)
    → (code : List Instr) → list_all test code ≡ true → map f (map instr_bytes code) ≡ map g code
each_again f g test again [] h = refl
each_again f g test again (x ∷ code) h =
    let p = and_parts (test x) (list_all test code) h in λ k. again x p.0 k ∷ each_again f g test again code p.1 k

-- the bytes of a code keep the block rule just if the code does
pub blocks_again : (v : Version) (raw : Bool) (code : List Instr) → list_all (is_instr_in_range v raw) code ≡ true
    → keep_blocks v (map instr_bytes code) ≡ are_blocks (marks_of code) (map jump_of code)
blocks_again v raw code h =
    λ k. are_blocks (each_again (mark_in v) mark_of (is_instr_in_range v raw) (mark_again v raw) code h k)
    (each_again jump_in jump_of (is_instr_in_range v raw) (jump_again v raw) code h k)
