-- What holds of each row of the table of instructions.
use Rattle.zl_asm.proofs.Common.{Bool, List, None, Row, Some, [], and_parts, codes, eqb-true, false, if◌then◌else◌, is_some, is_word, label_of, leb-true}
use Rattle.zl_asm.proofs.Common.{length}
use Rattle.zl_asm.proofs.Common.{list_all, nat_le, nat_lt, not, not-true, refl, row_among, row_named, row_of, rows, starts_with, subst, true, ℕ, ◌&&◌, ◌==◌}
use Rattle.zl_asm.proofs.Common.{◌∷◌, ◌≡◌, ◌≤◌}
use Rattle.zl_code.proofs.InstrTable.{row_named-of}
use Rattle.zl_asm.proofs.Labels.{alone_none}
use Rattle.zl_asm.proofs.RoundSource.{is_aimed}
use Rattle.zl_asm.proofs.RoundWords.{is_plain_word}

-- what holds of a row
pub record RowFits (row : Row) (opcode : ℕ) : Type 0 where
  pub same : row.opcode ≡ opcode
  pub named : row_named row.name ≡ Some row
  pub plain : is_plain_word row.name ≡ true
  pub no_point : starts_with ◌==◌ row.name (codes ".") ≡ false
  pub few : length row.fields ≤ 7
  pub no_label : label_of row.name ≡ None
  pub no_target : nat_lt 87 opcode ≡ true → is_aimed row.ending ≡ false

-- a call of version 2 has no target
abbrev ends_well : Row → Bool
ends_well row = if nat_lt 87 row.opcode then not (is_aimed row.ending) else true

abbrev test : Row → Bool
test row =
    is_plain_word row.name
    && (not (starts_with ◌==◌ row.name (codes ".")) && (nat_le (length row.fields) 7 && (not (is_some (label_of row.name)) && ends_well row)))

-- what holds of each row holds of the one that is found
found : (rs : List Row) (opcode : ℕ) (row : Row) → list_all test rs ≡ true → row_among rs opcode ≡ Some row → (row.opcode ≡ opcode) × (test row ≡ true)
found [] opcode row all h = absurd cc
found (r ∷ rs) opcode row all h =
    let p = and_parts (test r) (list_all test rs) all in
    by p.0 (λ here. found rs opcode row p.1 here) (r.opcode == opcode) refl h
  where
    by : test r ≡ true → (row_among rs opcode ≡ Some row → (row.opcode ≡ opcode) × (test row ≡ true)) → (t : Bool) → (r.opcode == opcode) ≡ t
        → (if t then Some r else row_among rs opcode) ≡ Some row → (row.opcode ≡ opcode) × (test row ≡ true)
    by first rest true e here = let same : r ≡ row = cc in subst (λ (x : Row). (x.opcode ≡ opcode) × (test x ≡ true)) same (eqb-true r.opcode opcode e, first)
    by first rest false e here = rest here

pub row_fits : (opcode : ℕ) (row : Row) → row_of opcode ≡ Some row → RowFits row opcode
unfolding row_of label_of is_word
row_fits opcode row h =
    let f = found rows opcode row refl h in
    let a = and_parts (is_plain_word row.name) _ f.1 in
    let b = and_parts (not (starts_with ◌==◌ row.name (codes "."))) _ a.1 in
    let c = and_parts (nat_le (length row.fields) 7) _ b.1 in
    let d = and_parts (not (is_some (label_of row.name))) _ c.1 in
    record {
      same = f.0;
      named = row_named-of opcode row h;
      plain = a.0;
      no_point = not-true _ b.0;
      few = leb-true _ 7 c.0;
      no_label = alone_none (label_of row.name) d.0;
      no_target = λ above. not-true _ (rw (f.0, above) at d.1);
    }
