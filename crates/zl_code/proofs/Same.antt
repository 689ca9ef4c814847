-- Images with the same fields are the same.
use Rattle.zl_code.proofs.Common.{Image, IsTrue, [], body_bytes, bytes_of, if◌then◌else◌, is_in_range, length, magic, needs_byte, refl, spelling, ◌++◌, ◌+◌}
use Rattle.zl_code.proofs.Common.{◌∷◌, ◌≡◌}
use Rattle.zl_code.specs.Spells.{version_number}
use Rattle.zl_code.specs.Same.{DeclaresSame, HasSameHeader, HasSameNeeds, HaveSameBytes}
use Rattle.zl_code.proofs.ImageWhole.{spells_one}

same_byte : (i j : Image) → HasSameNeeds i j → needs_byte i.needs ≡ needs_byte j.needs
same_byte i j n = λ k. (if n.channels k then 1 else 0) + ((if n.events k then 2 else 0) + ((if n.eventpairs k then 4 else 0)
    + ((if n.ports k then 8 else 0) + (if n.processes k then 16 else 0))))

same_spelling : (i j : Image) → HasSameHeader i j → DeclaresSame i j → HaveSameBytes i.code j.code → spelling i ≡ spelling j
same_spelling i j h d code = λ k.
    (magic
    ++ ((version_number (h.version k) ∷ (if h.raw k then 1 else 0) ∷ [])
    ++ (bytes_of 2 (code.count k)
    ++ (bytes_of 4 (h.memory k)
    ++ (bytes_of 4 (h.budget k)
    ++ (same_byte i j h.needs k ∷ length (d.starts k) ∷ length (d.slots k) ∷ 0 ∷ []))))))
    ++ body_bytes (d.starts k) (d.slots k) (code.bytes k)

-- as they have one spelling
pub same_fields : (i j : Image) → IsTrue (is_in_range i) → IsTrue (is_in_range j) → HasSameHeader i j → DeclaresSame i j → HaveSameBytes i.code j.code → i ≡ j
same_fields i j in_i in_j h d code =
    spells_one (spelling i) i j (record { same = refl; in_range = in_i }) (record { same = same_spelling i j h d code; in_range = in_j })
