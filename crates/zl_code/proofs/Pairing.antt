-- Where a rep and an endrep lead follows from where they stand: a text needs no targets of theirs.
use Rattle.zl_code.proofs.Common.{List, None, Option, Some, ap, length, map, option_map, refl, same_Some, slice_get, subst, suc, sym, true, zero, ℕ, ◌∙◌, ◌≡◌}
use Rattle.std.proofs.lemmas.Option.{slice_get-map}
use Rattle.zl_code.specs.declared.blocks.Mark.{Mark}
use Rattle.zl_code.specs.declared.blocks.Mark.TheVariants as mark
use Rattle.zl_code.specs.Blocks.{all_nest, blocks_at, end_in, head_of, imm_of, opened}
use Rattle.zl_code.proofs.Nesting.{begins, blocks}

-- the mark without its target
abbrev pub erased : Mark → Mark
erased (mark.Rep imm end) = mark.Rep imm 0
erased (mark.EndRep rep) = mark.EndRep 0
erased mark.Plain = mark.Plain

opened_same : (o : Option Mark) (n : ℕ) (rs : List ℕ) → opened (option_map erased o) n rs ≡ opened o n rs
opened_same (Some (mark.Rep imm end)) n rs = refl
opened_same (Some (mark.EndRep rep)) n rs = refl
opened_same (Some mark.Plain) n rs = refl
opened_same None n rs = refl

-- the blocks that a place is in don't depend on targets
pub same_blocks : (marks : List Mark) (n : ℕ) → blocks_at (map erased marks) n ≡ blocks_at marks n
unfolding blocks_at
same_blocks marks zero = refl
same_blocks marks (suc n) = rw (slice_get-map erased marks n, same_blocks marks n) (opened_same (slice_get marks n) n (blocks_at marks n))

module _ (marks : List Mark) (nest : all_nest marks (length marks) ≡ true) where
  -- the innermost block at the end of a rep is its own
  pub its_end : (n imm e : ℕ) → slice_get marks n ≡ Some (mark.Rep imm e) → head_of (blocks_at marks e) ≡ Some n
  its_end n imm e q = ap head_of (blocks marks nest n imm e q).inside

  -- an endrep leads to the innermost block that it is in
  pub innermost : (e r : ℕ) → slice_get marks e ≡ Some (mark.EndRep r) → head_of (blocks_at marks e) ≡ Some r
  innermost e r q = its_end r (imm_of marks r) e (begins marks nest e r q)

  -- and a rep to the one endrep of which it is the innermost block
  pub only_end : (n imm e f r : ℕ) → slice_get marks n ≡ Some (mark.Rep imm e) → slice_get marks f ≡ Some (mark.EndRep r)
      → head_of (blocks_at marks f) ≡ Some n → f ≡ e
  only_end n imm e f r q p h =
      let s : r ≡ n = same_Some r n (sym (innermost f r p) ∙ h) in
      ap end_in (sym (subst (λ (k : ℕ). slice_get marks k ≡ Some (mark.Rep (imm_of marks k) f)) s (begins marks nest f r p)) ∙ q)
