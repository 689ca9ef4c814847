-- Instructions with the same bytes are the same, where they can stand in an image.
use Rattle.zl_interp.proofs.Common.{Agrees, Bool, CanStand, HasBytes, Image, Instr, IsTrue, List, None, Option, Some, [], and_parts, ap, instr_bytes}
use Rattle.zl_interp.proofs.Common.{is_in_range, is_instr_in_range, list_all, none-some, option_map, refl, same_Some, slice_get, suc, sym, true, zero, ℕ, ◌↔◌}
use Rattle.zl_interp.proofs.Common.{◌∙◌, ◌∷◌, ◌≡◌}
use Rattle.zl_code.specs.declared.image.Version.{Version}
use Rattle.zl_code.proofs.ImageRanges.{also_raw, ranges}
use Rattle.zl_code.proofs.ImageTable.{instr_fits, read_instr}

each : (v : Version) (raw : Bool) (code : List Instr) (n : ℕ) (x : Instr) → list_all (is_instr_in_range v raw) code ≡ true → slice_get code n ≡ Some x
    → is_instr_in_range v true x ≡ true
each v raw [] n x all at = absurd (none-some x at)
each v raw (y ∷ ys) zero x all at =
    ap (is_instr_in_range v true) (sym (same_Some y x at))
    ∙ also_raw v raw y (and_parts (is_instr_in_range v raw y) (list_all (is_instr_in_range v raw) ys) all).0
each v raw (y ∷ ys) (suc n) x all at = each v raw ys n x (and_parts (is_instr_in_range v raw y) (list_all (is_instr_in_range v raw) ys) all).1 at

-- an instruction of an image can stand in one of its version
pub stands_there : (i : Image) (n : ℕ) (x : Instr) → IsTrue (is_in_range i) → slice_get i.code n ≡ Some x → is_instr_in_range i.version true x ≡ true
stands_there i n x range at = each i.version i.raw i.code n x (ranges i range).code at

one : (v : Version) (x y : Instr) → is_instr_in_range v true x ≡ true → is_instr_in_range v true y ≡ true → instr_bytes x ≡ instr_bytes y → x ≡ y
one v x y in_x in_y same = sym (instr_fits v true x in_x).again ∙ (ap (read_instr v) same ∙ (instr_fits v true y in_y).again)

-- what agrees with an image can stand in one
pub can_stand : (i : Image) (places : List (Option Instr)) → IsTrue (is_in_range i) → Agrees i.code places → CanStand i.version places
can_stand i places range agrees = record { stands = λ n x at. stands_there i n x range (agrees.filled n x at) }

module _ (i : Image) (places : List (Option Instr)) (range : IsTrue (is_in_range i)) where
  pub spelled : Agrees i.code places → HasBytes i.code places
  spelled agrees = record { long = agrees.long; bytes = λ n x at. ap (option_map instr_bytes) (agrees.filled n x at) }

  pub by_bytes : CanStand i.version places → HasBytes i.code places → Agrees i.code places
  by_bytes can has = record { long = has.long; filled = λ n x at. by n x at (slice_get i.code n) refl (has.bytes n x at) }
    where
      by : (n : ℕ) (x : Instr) → slice_get places n ≡ Some (Some x) → (o : Option Instr) → slice_get i.code n ≡ o
          → option_map instr_bytes o ≡ Some (instr_bytes x) → slice_get i.code n ≡ Some x
      by n x at None is same = absurd (none-some (instr_bytes x) same)
      by n x at (Some y) is same = is ∙ ap Some
          (one i.version y x (stands_there i n y range is) (can.stands n x at) (same_Some (instr_bytes y) (instr_bytes x) same))

-- so a test of the bytes is one of the instructions
pub same_test : (i : Image) (places : List (Option Instr)) → IsTrue (is_in_range i) → CanStand i.version places → (passes : Type 0)
    → passes ↔ HasBytes i.code places → passes ↔ Agrees i.code places
same_test i places range can passes test = (λ p. by_bytes i places range can (test.0 p), λ a. test.1 (spelled i places range a))
