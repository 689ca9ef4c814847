use Rattle.zl_code.proofs.Common.{Image, ap, refl, sym, ◌∙◌}
use Rattle.zl_code.proofs.Same.{same_fields}
use Rattle.zl_code.proofs.image.Image.is_same.Goals as goal

pub returns : goal.returns
returns c = (
  λ so. same_fields c.args.self.now c.args.other.now c.code.ensures.in_range c.code-2.ensures.in_range
      ((c.if-not-has_same_header.ensures {u = tt}).0 refl) ((c.if-not-declares_same.ensures {u = tt}).0 refl)
      (rw (c.code.ensures.value, c.code-2.ensures.value) at (c.is_same_code.ensures.same so)),
  λ e. c.is_same_code.ensures.itself (c.code.ensures.value ∙ ap (λ (i : Image). i.code) e ∙ sym c.code-2.ensures.value),
)
