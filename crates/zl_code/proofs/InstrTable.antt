-- The rows of the table, by opcode and by name.
use Rattle.zl_code.proofs.Common.{Bool, List, None, Option, Row, Some, [], and_parts, ap, arith, cases_Bool, eq-eqb, eqb-true, false, field_of, find, inl, inr}
use Rattle.zl_code.proofs.Common.{layout, length, length-map, list_all, ltb-true, nat_lt, not, option_map, pointwise, refl, row_among, row_named, row_of}
use Rattle.zl_code.proofs.Common.{row_value, rows, same_Some, subst, sym, true, ℕ, ◌&&◌, ◌+◌, ◌<◌, ◌==◌, ◌∙◌, ◌∷◌, ◌≡◌, ◌≢◌, ◌≤◌}
use Rattle.zl_rights.proofs.Named.{passes, same_names, same_refl}
use Rattle.zl_code.specs.declared.layout.Row.{Row as RowInCode}

-- the fact holds of each row
abbrev Each : (Row → Type 0) → List Row → Type 0
Each P [] = Unit {0}
Each P (r ∷ rs) = P r × Each P rs

each_among : (P : Row → Type 0) (rs : List Row) (opcode : ℕ) (r : Row) → Each P rs → row_among rs opcode ≡ Some r → P r
each_among P [] opcode r h e = absurd cc
each_among P (x ∷ rs) opcode r h e =
    elim (cases_Bool (x.opcode == opcode)) as (λ _. P r) [
      | inl here ↦ let same : x ≡ r = cc in subst P same h.0
      | inr apart ↦ each_among P rs opcode r h.1 cc
    ]

-- what is found is one of the rows, and passes the test
each_found : (P : Row → Type 0) (test : Row → Bool) (rs : List Row) (r : Row) → Each P rs → find test rs ≡ Some r → P r × (test r ≡ true)
each_found P test [] r h e = absurd cc
each_found P test (x ∷ rs) r h e =
    elim (cases_Bool (test x)) as (λ _. P r × (test r ≡ true)) [
      | inl here ↦ let same : x ≡ r = cc in subst (λ y. P y × (test y ≡ true)) same (h.0, here)
      | inr apart ↦ each_found P test rs r h.1 cc
    ]

all_of : (test : Row → Bool) (rs : List Row) → list_all test rs ≡ true → Each (λ r. test r ≡ true) rs
all_of test [] h = tt
all_of test (r ∷ rs) h = let p = and_parts (test r) (list_all test rs) h in (p.0, all_of test rs p.1)

-- each row fails the test beside each row behind it
abbrev apart : (Row → Row → Bool) → List Row → Bool
apart same [] = true
apart same (r ∷ rs) = list_all (λ x. not (same r x)) rs && apart same rs

not_false : (b : Bool) → not b ≡ true → b ≡ false
not_false true h = absurd cc
not_false false h = refl

-- where no other row passes the test beside a row, that row is found
found_among : (same : Row → Row → Bool) (rs : List Row) (opcode : ℕ) (r : Row) → ((x : Row) → same x x ≡ true) → apart same rs ≡ true
    → row_among rs opcode ≡ Some r → find (λ x. same x r) rs ≡ Some r
found_among same [] opcode r alike h e = absurd cc
found_among same (x ∷ rs) opcode r alike h e =
    let p = and_parts (list_all (λ y. not (same x y)) rs) (apart same rs) h in
    elim (cases_Bool (x.opcode == opcode)) as (λ _. find (λ y. same y r) (x ∷ rs) ≡ Some r) [
      | inl here ↦ let e : x ≡ r = cc in rw (← e) (rw (alike x) refl)
      | inr other ↦
          let rest : row_among rs opcode ≡ Some r = cc in
          let differs : same x r ≡ false =
          not_false (same x r) (each_among (λ y. not (same x y) ≡ true) rs opcode r (all_of (λ y. not (same x y)) rs p.0) rest) in
          rw differs (found_among same rs opcode r alike p.1 rest)
    ]

row_again : (test : Row → Bool) (rs : List Row) (r : Row) → apart (λ x y. x.opcode == y.opcode) rs ≡ true → find test rs ≡ Some r
    → row_among rs r.opcode ≡ Some r
row_again test [] r h e = absurd cc
row_again test (x ∷ rs) r h e =
    let p = and_parts (list_all (λ y. not (x.opcode == y.opcode)) rs) (apart (λ x y. x.opcode == y.opcode) rs) h in
    elim (cases_Bool (test x)) as (λ _. row_among (x ∷ rs) r.opcode ≡ Some r) [
      | inl here ↦ let e : x ≡ r = cc in rw (← e) (rw (eq-eqb x.opcode x.opcode refl) refl)
      | inr other ↦
          let rest : find test rs ≡ Some r = cc in
          let differs : (x.opcode == r.opcode) ≡ false =
          not_false (x.opcode == r.opcode)
          (each_found (λ y. not (x.opcode == y.opcode) ≡ true) test rs r (all_of (λ y. not (x.opcode == y.opcode)) rs p.0) rest).0 in
          rw differs (row_again test rs r p.1 rest)
    ]

-- the row of an opcode is the row of its name
pub row_named-of : (opcode : ℕ) (r : Row) → row_of opcode ≡ Some r → row_named r.name ≡ Some r
unfolding row_of row_named
row_named-of opcode r e = found_among (λ x y. pointwise ◌==◌ x.name y.name) rows opcode r (λ x. same_refl x.name) refl e

-- the row of a name is the row of its opcode, and has the name
pub row_of-named : (name : List ℕ) (r : Row) → row_named name ≡ Some r → (row_of r.opcode ≡ Some r) × (r.name ≡ name)
unfolding row_of row_named
row_of-named name r e = (row_again (λ x. pointwise ◌==◌ x.name name) rows r refl e, same_names r.name name (passes (λ x. pointwise ◌==◌ x.name name) rows r e))

-- ---- going over the opcodes

-- the row of an opcode that has the name is the row of the name
pub row_by_name : (r : Row) (name : List ℕ) (opcode : ℕ) → Some r ≡ row_of opcode → true ≡ pointwise ◌==◌ r.name name → Some r ≡ row_named name
row_by_name r name opcode has same = sym (row_named-of opcode r (sym has)) ∙ ap row_named (same_names r.name name (sym same))

-- the layout of a row in code
pub laid_out : (row : RowInCode) (o : Option Row) → Some (row_value row) ≡ o
    → Some (layout (length row.columns.now.fields.now) row.columns.now.ending) ≡ option_map (λ r. layout (length r.fields) r.ending) o
laid_out row o e = ap (λ n. Some (layout n row.columns.now.ending)) (sym (length-map row.columns.now.fields.now field_of))
    ∙ ap (option_map (λ r. layout (length r.fields) r.ending)) e

-- opcodes below have other names, and so has this one
pub not_here : (name : List ℕ) (opcode : ℕ) → ((r : Row) → row_named name ≡ Some r → opcode ≤ r.opcode) → ((r : Row) → row_of opcode ≡ Some r → r.name ≢ name)
    → (r : Row) → row_named name ≡ Some r → opcode + 1 ≤ r.opcode
not_here name opcode below other r e =
    let found = row_of-named name r e in
    elim (cases_Bool (r.opcode == opcode)) as (λ _. opcode + 1 ≤ r.opcode) [
      | inl here ↦ absurd (other r (sym (ap row_of (eqb-true r.opcode opcode here)) ∙ found.0) found.1)
      | inr apart ↦ let le : opcode ≤ r.opcode = below r e in grind arith
    ]

pub no_row : (opcode : ℕ) (r : Row) (name : List ℕ) → None ≡ row_of opcode → row_of opcode ≡ Some r → r.name ≢ name
no_row opcode r name none e same = absurd cc

pub other_name : (n : Row) (name : List ℕ) (opcode : ℕ) (r : Row) → Some n ≡ row_of opcode
    → false ≡ pointwise ◌==◌ n.name name → row_of opcode ≡ Some r → r.name ≢ name
other_name n name opcode r has differs e same =
    let found : n ≡ r = same_Some n r (has ∙ e) in
    let named : n.name ≡ name = ap (λ (x : Row). x.name) found ∙ same in
    absurd (different (sym (same_refl name) ∙ sym (ap (λ (m : List ℕ). pointwise ◌==◌ m name) named) ∙ sym differs))
  where
    different : true ≡ false → ⊥
    different h = absurd cc

-- ---- the end

small : (name : List ℕ) (r : Row) → row_named name ≡ Some r → r.opcode < 91
unfolding row_named
small name r e =
    ltb-true r.opcode 91 (each_found (λ x. nat_lt x.opcode 91 ≡ true) (λ x. pointwise ◌==◌ x.name name) rows r (all_of (λ x. nat_lt x.opcode 91) rows refl) e).0

-- where no opcode has the name, no row has it
pub no_name : (name : List ℕ) → ((r : Row) → row_named name ≡ Some r → 91 ≤ r.opcode) → row_named name ≡ None
no_name name above = by (row_named name) refl
  where
    by : (o : Option Row) → row_named name ≡ o → row_named name ≡ None
    by None e = e
    by (Some r) e = absurd (omega (arith, small name r e, above r e))
