use Rattle.zl_interp.proofs.Common.{Agrees, CanStand, Image, IsTrue, ap, arc_value, marked, program_value, refl, subst, sym, ◌↔◌, ◌∙◌, ◌≡◌}
use Rattle.zl_interp.proofs.Marked.{marked_agrees}
use Rattle.zl_interp.proofs.Spelled.{can_stand, same_test}
use Rattle.zl_interp.proofs.bursts.Done.agrees.Goals as goal

pub returns-then-are_same_versions : goal.returns-then-are_same_versions
returns-then-are_same_versions c =
    let own : Image = (program_value (arc_value c.self.inside.program)).image in
    let places = marked own.code c.self.inside.work.value.marks.items in
    let own_is : c.image-own.result.now ≡ own = rw c.deref.ensures at c.image-own.ensures in
    let same : c.args.image.now.version ≡ own.version =
    sym c.version.ensures ∙ ((c.if-are_same_versions.ensures {u = tt}).0 refl ∙ (c.version-2.ensures ∙ ap (λ (i : Image). i.version) own_is)) in
    let can : CanStand c.args.image.now.version places = subst (λ v. CanStand v places) (sym same)
    (can_stand own places (rw own_is at c.code-then-are_same_versions.ensures.in_range) (marked_agrees own.code c.self.inside.work.value.marks.items)) in
    let test : IsTrue c.has_marked.result ↔ Agrees c.args.image.now.code places =
    same_test c.args.image.now places c.code.ensures.in_range can (IsTrue c.has_marked.result)
    (rw (
      c.code.ensures.value,
      c.code-then-are_same_versions.ensures.value,
      own_is,
      c.deref-then-are_same_versions-2.ensures.value,
      c.deref-then-are_same_versions.ensures,
    ) at c.has_marked.ensures) in
    rw (← c.self.view_is) (λ p. record { version = same; agrees = test.0 p }, λ m. test.1 m.agrees)
