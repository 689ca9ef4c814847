-- The bytes of a code whose blocks are paired.
use Rattle.zl_asm.proofs.Common.{Bool, Instr, List, None, Option, Some, Version, [], and_from, and_parts, ap, arith, instr_bytes}
use Rattle.zl_asm.proofs.Common.{is_instr_in_range, is_known, led_to, length, list_all, lt-ltb, length-map, map, paired, partner_by, refl, suc, true}
use Rattle.zl_asm.proofs.Common.{unwrap_or, zero, ℕ, ◌+◌, ◌<◌}
use Rattle.zl_asm.proofs.Common.{◌∙◌, ◌∷◌, ◌≡◌, ◌≤◌}
use Rattle.std.specs.Prelude.{slice_get}
unfoldable use Rattle.zl_asm.proofs.Common.{end_among, local_parts, paired_from}
use Rattle.zl_code.proofs.BlockBytes.{each_again, mark_again}
use Rattle.zl_code.proofs.Common.{is_32_bits, same_Some}
use Rattle.zl_code.proofs.ImageTable.{both_and, target_and}
use Rattle.zl_code.proofs.Nesting.{opens, whole}
use Rattle.zl_code.specs.Blocks.{blocks_at, head_of, mark_of, marks_of}
use Rattle.zl_code.specs.Spells.{is_local_in_range, mark_in}
use Rattle.zl_code.specs.declared.blocks.Mark.{Mark}
use Rattle.zl_code.specs.declared.instr.Instr.TheVariants as instr
use Rattle.zl_code.specs.declared.instr.LocalInstr.TheVariants as local
use Rattle.std.proofs.lemmas.Bool.{cond_both}
use Rattle.zl_asm.specs.Listing.{closes}
use Rattle.zl_asm.specs.Paired.{joined_code, joined_to}
unfoldable use Rattle.zl_asm.specs.Paired.{joined_from}

-- ---- their bytes

led_again : (x : Instr) (home closed : Option ℕ) → led_to (partner_by (mark_of x) home closed) (instr_bytes x) ≡ instr_bytes (joined_to x home closed)
unfolding local_parts
led_again (instr.Local (local.Rep imm end)) home None = refl
led_again (instr.Local (local.Rep imm end)) home (Some n) = refl
led_again (instr.Local (local.EndRep rep)) None closed = refl
led_again (instr.Local (local.EndRep rep)) (Some n) closed = refl
led_again (instr.Local _) home closed = refl
led_again (instr.Call x) home closed = refl
led_again (instr.Unknown bytes) home closed = refl

all_led : (v : Version) (raw : Bool) (marks : List Mark) (n : ℕ) (code : List Instr) → list_all (is_instr_in_range v raw) code ≡ true
    → paired_from v marks n (map instr_bytes code) ≡ map instr_bytes (joined_from marks n code)
unfolding paired_from joined_from
all_led v raw marks n [] h = refl
all_led v raw marks n (x ∷ code) h =
    let p = and_parts (is_instr_in_range v raw x) (list_all (is_instr_in_range v raw) code) h in
    let home = head_of (blocks_at marks n) in
    let closed = end_among marks n (length marks) in
    λ i. (ap (λ (m : Mark). led_to (partner_by m home closed) (instr_bytes x)) (mark_again v raw x p.0) ∙ led_again x home closed) i
    ∷ all_led v raw marks (suc n) code p.1 i

pub paired_bytes : (v : Version) (raw : Bool) (code : List Instr) → list_all (is_instr_in_range v raw) code ≡ true
    → paired v (map instr_bytes code) ≡ map instr_bytes (joined_code code)
paired_bytes v raw code h =
    ap (λ (marks : List Mark). paired_from v marks 0 (map instr_bytes code)) (each_again (mark_in v) mark_of (is_instr_in_range v raw)
    (mark_again v raw) code h)
    ∙ all_led v raw (marks_of code) 0 code h

-- ---- their ranges

-- the number, if there is one, has 32 bits
abbrev IsSmall : Option ℕ → Type 0
IsSmall o = (n : ℕ) → o ≡ Some n → n < 4294967296

small_by : (o : Option ℕ) (n : ℕ) → is_32_bits n ≡ true → IsSmall o → is_32_bits (unwrap_or o n) ≡ true
small_by None n h s = h
small_by (Some m) n h s = lt-ltb m 4294967296 (s m refl)

joined_fits : (v : Version) (raw : Bool) (x : Instr) (home closed : Option ℕ) → is_instr_in_range v raw x ≡ true → IsSmall home → IsSmall closed
    → is_instr_in_range v raw (joined_to x home closed) ≡ true
unfolding local_parts
joined_fits v raw (instr.Local (local.Rep imm end)) home closed h s t =
    let p = and_parts (is_known v 26) (is_local_in_range (local.Rep imm end)) h in
    let q = both_and imm end [] p.1 in
    and_from _ _ p.0 (and_from _ _ (and_from _ _ q.0 (small_by closed end q.1 t)) refl)
joined_fits v raw (instr.Local (local.EndRep rep)) home closed h s t =
    let p = and_parts (is_known v 27) (is_local_in_range (local.EndRep rep)) h in
    and_from _ _ p.0 (and_from _ _ (small_by home rep (target_and rep [] p.1).0 s) refl)
joined_fits v raw (instr.Local _) home closed h s t = h
joined_fits v raw (instr.Call x) home closed h s t = h
joined_fits v raw (instr.Unknown bytes) home closed h s t = h

ends_within : (marks : List Mark) (r k n : ℕ) → end_among marks r k ≡ Some n → n < k
unfolding end_among
ends_within marks r zero n e = cc
ends_within marks r (suc k) n e = cond_both (closes (slice_get marks k) (head_of (blocks_at marks k)) r) (Some k) (end_among marks r k)
    (λ o. o ≡ Some n → n < suc k)
    (λ _ f. let same : k ≡ n = same_Some k n f in omega arith) (λ _ f. let below = ends_within marks r k n f in omega arith) e

all_fit : (v : Version) (raw : Bool) (marks : List Mark) (n : ℕ) (code : List Instr) → length marks ≤ 4096 → n + length code ≤ 4096
    → list_all (is_instr_in_range v raw) code ≡ true → list_all (is_instr_in_range v raw) (joined_from marks n code) ≡ true
unfolding joined_from
all_fit v raw marks n [] few le h = refl
all_fit v raw marks n (x ∷ code) few le h =
    let p = and_parts (is_instr_in_range v raw x) (list_all (is_instr_in_range v raw) code) h in
    and_from _ _ (joined_fits v raw x _ _ p.0
    (λ r e. let b = (whole marks n r (blocks_at marks n) (opens marks n) e).0 in omega arith)
    (λ k e. let b = ends_within marks n (length marks) k e in omega arith))
    (all_fit v raw marks (suc n) code few (omega arith) p.1)

pub joined_in_range : (v : Version) (raw : Bool) (code : List Instr) → length code ≤ 4096 → list_all (is_instr_in_range v raw) code ≡ true
    → list_all (is_instr_in_range v raw) (joined_code code) ≡ true
joined_in_range v raw code few h = all_fit v raw (marks_of code) 0 code (let n = length-map code mark_of in omega arith) (omega arith) h

joined_long : (marks : List Mark) (n : ℕ) (code : List Instr) → length (joined_from marks n code) ≡ length code
unfolding joined_from
joined_long marks n [] = refl
joined_long marks n (x ∷ code) = ap suc (joined_long marks (suc n) code)

pub joined_length : (code : List Instr) → length (joined_code code) ≡ length code
joined_length code = joined_long (marks_of code) 0 code
