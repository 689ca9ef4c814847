use Rattle.zl_verify.proofs.Common.{lengths, nat_le, or_most, sym, ◌∙◌}
use Rattle.zl_code.proofs.Flat.{never_in_blocks}
use Rattle.zl_verify.proofs.Peaking.{flat_peaks, position_read}
use Rattle.zl_verify.proofs.peaks.over.Goals as goal

pub returns-then-is_flat : goal.returns-then-is_flat
returns-then-is_flat c = record {
  peaks = lengths c.args.most c.args.pairs.now;
  are = flat_peaks _ _ _ _ c.requires.nested c.requires.longest
      (never_in_blocks c.args.image.now.code (sym c.is_flat.ensures ∙ c.if-is_flat.true));
  first = c.first_long.ensures ∙ position_read (λ o. (or_most c.args.most o).within) (nat_le c.args.most) c.args.pairs.now;
}
