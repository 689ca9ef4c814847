-- Rights that are narrowed stay within what the first ones were within.
use Rattle.std.proofs.Common.{◌≡◌, ◌⊎◌, inl, inr, ℕ, false, ◌==◌, sym, ap, subst, ◌∙◌, Some, IsTrue, eq-eqb}
use Rattle.std.specs.Prelude.{bit_and}
use Rattle.std.proofs.lemmas.Bool.{cases_Bool, eqb-true}
use Rattle.std.proofs.lemmas.Nat.{and_assoc}
use Rattle.std.proofs.lemmas.Option.{none-some, same_Some}
use Rattle.zl_rights.specs.declared.rights.Rights.{Rights}
use Rattle.zl_rights.specs.Numbers.{bits, within, narrowed, rights_of, SAME_RIGHTS}

part_of : (a b c : ℕ) → IsTrue (within a b) → IsTrue (within b c) → IsTrue (within a c)
part_of a b c first second =
    let ab : bit_and b a ≡ a = eqb-true (bit_and b a) a first in
    let bc : bit_and c b ≡ b = eqb-true (bit_and c b) b second in
    eq-eqb (bit_and c a) a (ap (λ (x : ℕ). bit_and c x) (sym ab) ∙ (sym (and_assoc a c b) ∙ (ap (λ (x : ℕ). bit_and x a) bc ∙ ab)))

-- a copy has the rights of its original, or a part of them
pub narrowed_within : (have : Rights) (asked : ℕ) (granted : Rights) (whole : ℕ) → narrowed have asked ≡ Some granted → IsTrue (within (bits have) whole)
    → IsTrue (within (bits granted) whole)
narrowed_within have asked granted whole allowed inside = by_same (cases_Bool (asked == SAME_RIGHTS))
  where
    by_part : ((asked == SAME_RIGHTS) ≡ false) → IsTrue (within asked (bits have)) ⊎ (within asked (bits have) ≡ false) → IsTrue (within (bits granted) whole)
    by_part other (inl part) =
        let is : rights_of asked ≡ granted = same_Some (rights_of asked) granted (rw (other, part) at allowed) in
        subst (λ (r : Rights). IsTrue (within (bits r) whole)) is (part_of asked (bits have) whole part inside)
    by_part other (inr apart) = absurd (none-some granted (rw (other, apart) at allowed))

    by_same : IsTrue (asked == SAME_RIGHTS) ⊎ ((asked == SAME_RIGHTS) ≡ false) → IsTrue (within (bits granted) whole)
    by_same (inl same) =
        let is : have ≡ granted = same_Some have granted (rw same at allowed) in
        subst (λ (r : Rights). IsTrue (within (bits r) whole)) is inside
    by_same (inr other) = by_part other (cases_Bool (within asked (bits have)))
