-- An image that isn't held back is in range in version 2.
use Rattle.zl_code.proofs.Common.{Bool, Image, Instr, List, None, Some, [], and_from, and_parts, false, if◌then◌else◌, is_in_range}
use Rattle.zl_code.proofs.Common.{is_instr_in_range, list_all, not, not-true, refl, slice_index, sym, true, ℕ, ◌&&◌, ◌+◌, ◌∙◌, ◌∷◌, ◌≡◌}
use Rattle.std.specs.List.{position, position_from}
use Rattle.std.proofs.lemmas.Iterator.Adapters.{position_from-zero}
use Rattle.zl_code.specs.Instructions.{is_new}
use Rattle.zl_code.specs.Upgrade.{is_held, upgraded}
use Rattle.zl_code.specs.declared.image.Version.TheVariants as version
use Rattle.zl_code.specs.declared.instr.Instr.TheVariants as instr
use Rattle.zl_code.proofs.ImageRanges.{in_range_by, ranges}

-- where no place is found, the test fails at each
none_from : {X : Type 0} (p : X → Bool) (n : ℕ) (xs : List X) → position_from p n xs ≡ None → list_all (λ x. not (p x)) xs ≡ true
none_from p n [] h = refl
none_from p n (x ∷ xs) h = by (none_from p (n + 1) xs) (p x) refl h
  where
    by : (position_from p (n + 1) xs ≡ None → list_all (λ x. not (p x)) xs ≡ true) → (b : Bool) → p x ≡ b
        → (if b then Some n else position_from p (n + 1) xs) ≡ None → (not (p x) && list_all (λ x. not (p x)) xs) ≡ true
    by rest true e h = cc
    by rest false e h = rw e (rest h)

one_upgraded : (raw : Bool) (x : Instr) → is_instr_in_range version.One raw x ≡ true → not (is_held x) ≡ true → is_instr_in_range version.Two raw x ≡ true
one_upgraded raw (instr.Local x) h k = (and_parts _ _ h).1
one_upgraded raw (instr.Call x) h k = (and_parts _ _ h).1
one_upgraded raw (instr.Unknown bytes) h k = rw (not-true (is_new (slice_index bytes 0)) k) at h

all_upgraded : (raw : Bool) (code : List Instr) → list_all (is_instr_in_range version.One raw) code ≡ true → list_all (λ x. not (is_held x)) code ≡ true
    → list_all (is_instr_in_range version.Two raw) code ≡ true
all_upgraded raw [] h k = refl
all_upgraded raw (x ∷ code) h k =
    let p = and_parts (is_instr_in_range version.One raw x) _ h in
    let q = and_parts (not (is_held x)) _ k in
    and_from _ _ (one_upgraded raw x p.0 q.0) (all_upgraded raw code p.1 q.1)

pub upgraded_in_range : (i : Image) → is_in_range i ≡ true → i.version ≡ version.One → position is_held i.code ≡ None → is_in_range (upgraded i) ≡ true
upgraded_in_range i h one none =
    let r = ranges i h in
    in_range_by (upgraded i)
    (record {
      count = r.count;
      memory = r.memory;
      least = r.least;
      most = r.most;
      needs = r.needs;
      starts_count = r.starts_count;
      slots_count = r.slots_count;
      starts = r.starts;
      slots = r.slots;
      code = all_upgraded i.raw i.code (rw one at r.code) (none_from is_held 0 i.code (sym (position_from-zero is_held i.code) ∙ none));
      blocks = r.blocks;
    })
