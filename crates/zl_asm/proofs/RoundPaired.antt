-- A code whose reps and endreps have lost their targets is paired to itself.
use Rattle.zl_asm.proofs.Common.{Bool, Instr, List, None, Option, Some, Version, [], and_from, and_parts, ap, arith, end_among, eq-eqb, append_assoc}
use Rattle.zl_asm.proofs.Common.{cases_eq, if◌then◌else◌, inl, inr, instr_bytes}
use Rattle.zl_asm.proofs.Common.{is_instr_in_range, is_known, length, length-append, length-map, list_all, map, ne_eqb, option_map, refl, suc, sym, true}
use Rattle.zl_asm.proofs.Common.{zero, ℕ, ◌++◌, ◌<◌, ◌∙◌, ◌∷◌, ◌≡◌, ◌≢◌}
use Rattle.std.specs.Prelude.{slice_get}
use Rattle.std.proofs.lemmas.Option.{slice_get-map, slice_get_within}
unfoldable use Rattle.zl_asm.proofs.Common.{local_parts}
use Rattle.zl_code.proofs.BlockBytes.{mark_again}
use Rattle.zl_code.proofs.ImageTable.{both_and}
use Rattle.zl_code.proofs.Nesting.{blocks}
use Rattle.zl_code.proofs.Pairing.{erased, innermost, its_end, only_end, same_blocks}
use Rattle.zl_code.specs.Blocks.{all_nest, blocks_at, head_of, mark_of, marks_of}
use Rattle.zl_code.specs.Spells.{is_local_in_range}
use Rattle.zl_code.specs.declared.blocks.Mark.{Mark}
use Rattle.zl_code.specs.declared.blocks.Mark.TheVariants as mark
use Rattle.zl_code.specs.declared.instr.Instr.TheVariants as instr
use Rattle.zl_code.specs.declared.instr.LocalInstr.TheVariants as local
use Rattle.zl_asm.specs.Listing.{closes}
use Rattle.zl_asm.specs.Paired.{joined_code, joined_to}
unfoldable use Rattle.zl_asm.specs.Paired.{joined_from}
use Rattle.zl_asm.proofs.RoundInstr.{untargeted, untargeted_by}

-- the instruction as its text has it
abbrev pub erased_instr : Instr → Instr
erased_instr (instr.Local (local.Rep imm end)) = instr.Local (local.Rep imm 0)
erased_instr (instr.Local (local.EndRep rep)) = instr.Local (local.EndRep 0)
erased_instr x = x

-- ---- what it keeps

erased_fits : (v : Version) (raw : Bool) (x : Instr) → is_instr_in_range v raw x ≡ true → is_instr_in_range v raw (erased_instr x) ≡ true
unfolding local_parts
erased_fits v raw (instr.Local (local.Rep imm end)) h =
    let p = and_parts (is_known v 26) (is_local_in_range (local.Rep imm end)) h in
    and_from _ _ p.0 (and_from _ _ (and_from _ _ (both_and imm end [] p.1).0 refl) refl)
erased_fits v raw (instr.Local (local.EndRep rep)) h = and_from _ _ (and_parts (is_known v 27) (is_local_in_range (local.EndRep rep)) h).0 refl
erased_fits v raw (instr.Local _) h = h
erased_fits v raw (instr.Call x) h = h
erased_fits v raw (instr.Unknown bytes) h = h

pub all_erased : (v : Version) (raw : Bool) (code : List Instr) → list_all (is_instr_in_range v raw) code ≡ true
    → list_all (is_instr_in_range v raw) (map erased_instr code) ≡ true
all_erased v raw [] h = refl
all_erased v raw (x ∷ code) h =
    let p = and_parts (is_instr_in_range v raw x) (list_all (is_instr_in_range v raw) code) h in
    and_from _ _ (erased_fits v raw x p.0) (all_erased v raw code p.1)

-- its bytes are those that the text gives
untargeted_instr : (x : Instr) → untargeted_by (mark_of x) (instr_bytes x) ≡ instr_bytes (erased_instr x)
unfolding local_parts
untargeted_instr (instr.Local (local.Rep imm end)) = refl
untargeted_instr (instr.Local (local.EndRep rep)) = refl
untargeted_instr (instr.Local _) = refl
untargeted_instr (instr.Call x) = refl
untargeted_instr (instr.Unknown bytes) = refl

pub untargeted_code : (v : Version) (raw : Bool) (code : List Instr) → list_all (is_instr_in_range v raw) code ≡ true
    → map (untargeted v) (map instr_bytes code) ≡ map instr_bytes (map erased_instr code)
untargeted_code v raw [] h = refl
untargeted_code v raw (x ∷ code) h =
    let p = and_parts (is_instr_in_range v raw x) (list_all (is_instr_in_range v raw) code) h in
    λ i. (ap (λ (m : Mark). untargeted_by m (instr_bytes x)) (mark_again v raw x p.0) ∙ untargeted_instr x) i ∷ untargeted_code v raw code p.1 i

-- ---- its blocks

erased_mark : (x : Instr) → mark_of (erased_instr x) ≡ erased (mark_of x)
erased_mark (instr.Local (local.Rep imm end)) = refl
erased_mark (instr.Local (local.EndRep rep)) = refl
erased_mark (instr.Local _) = refl
erased_mark (instr.Call x) = refl
erased_mark (instr.Unknown bytes) = refl

erased_marks : (code : List Instr) → marks_of (map erased_instr code) ≡ map erased (marks_of code)
erased_marks [] = refl
erased_marks (x ∷ code) = λ i. erased_mark x i ∷ erased_marks code i

slice_get_at : {X : Type 0} (front back : List X) (x : X) → slice_get (front ++ x ∷ back) (length front) ≡ Some x
slice_get_at [] back x = refl
slice_get_at (y ∷ front) back x = slice_get_at front back x

module _ (marks : List Mark) (nest : all_nest marks (length marks) ≡ true) where
  -- the end of a rep is found
  found : (n imm e : ℕ) → slice_get marks n ≡ Some (mark.Rep imm e) → (k : ℕ) → e < k → end_among (map erased marks) n k ≡ Some e
  unfolding end_among
  found n imm e q zero l = absurd (omega arith)
  found n imm e q (suc k) l =
      rw (slice_get-map erased marks k, same_blocks marks k) (elim (cases_eq k e) [
        | inl s ↦
            let ends : slice_get marks k ≡ Some (mark.EndRep n) = ap (slice_get marks) s ∙ (blocks marks nest n imm e q).ends in
            let home : head_of (blocks_at marks k) ≡ Some n = ap (λ (x : ℕ). head_of (blocks_at marks x)) s ∙ its_end marks nest n imm e q in
            let same = eq-eqb n n refl in
            rw (ends, home, same) (ap Some s)
        | inr d ↦ other (slice_get marks k) refl (head_of (blocks_at marks k)) refl (found n imm e q k (omega arith)) d
      ])
    where
      other : (o : Option Mark) → slice_get marks k ≡ o → (p : Option ℕ) → head_of (blocks_at marks k) ≡ p → end_among (map erased marks) n k ≡ Some e
          → k ≢ e → (if closes (option_map erased o) p n then Some k else end_among (map erased marks) n k) ≡ Some e
      other (Some (mark.EndRep r)) i (Some h) j rest d = elim (cases_eq h n) [
        | inl s ↦ absurd (d (only_end marks nest n imm e k r q i (j ∙ ap Some s)))
        | inr t ↦ let no = ne_eqb h n t in rw no rest
      ]
      other (Some (mark.EndRep r)) i None j rest d = rest
      other (Some (mark.Rep imm end)) i p j rest d = rest
      other (Some mark.Plain) i p j rest d = rest
      other None i p j rest d = rest

  one_again : (n : ℕ) (x : Instr) → slice_get marks n ≡ Some (mark_of x)
      → joined_to (erased_instr x) (head_of (blocks_at (map erased marks) n)) (end_among (map erased marks) n (length (map erased marks))) ≡ x
  one_again n (instr.Local (local.Rep imm end)) q =
      let within = slice_get_within marks end (mark.EndRep n) (blocks marks nest n imm end q).ends in
      rw (found n imm end q (length (map erased marks)) (omega (arith, length-map marks erased))) refl
  one_again n (instr.Local (local.EndRep rep)) q = rw (same_blocks marks n, innermost marks nest n rep q) refl
  one_again n (instr.Local _) q = refl
  one_again n (instr.Call x) q = refl
  one_again n (instr.Unknown bytes) q = refl

  all_again : (front code : List Instr) (n : ℕ) → marks ≡ marks_of (front ++ code) → n ≡ length front
      → joined_from (map erased marks) n (map erased_instr code) ≡ code
  unfolding joined_from
  all_again front [] n e l = refl
  all_again front (x ∷ code) n e l =
      let here : slice_get marks n ≡ Some (mark_of x) =
      (λ i. slice_get (e i) (l i)) ∙ slice_get-map mark_of (front ++ x ∷ code) (length front) ∙ ap (option_map mark_of) (slice_get_at front code x) in
      let next : marks ≡ marks_of ((front ++ x ∷ []) ++ code) = e ∙ ap marks_of (sym (append_assoc front (x ∷ []) code)) in
      λ i. one_again n x here i ∷ all_again (front ++ x ∷ []) code (suc n) next (omega (arith, length-append front (x ∷ []))) i

pub erased_again : (code : List Instr) → all_nest (marks_of code) (length (marks_of code)) ≡ true → joined_code (map erased_instr code) ≡ code
erased_again code nest =
    ap (λ (marks : List Mark). joined_from marks 0 (map erased_instr code)) (erased_marks code) ∙ all_again (marks_of code) nest [] code 0 refl refl
