-- One register is written, and the table may change at one value.
use Rattle.zl_verify.proofs.Common.{ANY, AbsVal, Bool, Describes, Entry, Has, Holds, IsAs, IsHandle, IsState, IsTrue, Kind, KindOf, List, None, Option, Rights}
use Rattle.zl_verify.proofs.Common.{RightsOf, SlotArray, Some, State, Table, Word, ap, arith, can_be_named, cases_eq, false, get_or-set_other, get_or-set_same}
use Rattle.zl_verify.proofs.Common.{inl, inr, is_has, is_named_well, is_some, keepers, kind_in, length, nat_tests, one_if, owners, owns, place_at, refl}
use Rattle.zl_verify.proofs.Common.{rights_in, slice_index, slice_set, subst, sym, true, untagged, value_at, with_long, with_value, ℕ, ◌+◌, ◌<◌, ◌∙◌, ◌≡◌, ◌≢◌}
use Rattle.zl_verify.proofs.Common.{◌≤◌, ◌⊎◌}
use Rattle.std.proofs.lemmas.List.{length-set}
use Rattle.zl_verify.proofs.Owners.{owns_0, owns_it, owns_free, owners-set, owners-with, owners-at, owners-zero, value_at-with, value_at-here, keepers-at}
use Rattle.zl_verify.proofs.Owners.{keepers-zero, by_register}

-- ---- what holds anyway

pub nothing_at_0 : {f : Table} {s : State} {xs : List ℕ} {arrays : List SlotArray} {slots : List (List ℕ)} → Holds f s xs arrays slots → f 0 ≡ None
nothing_at_0 {f} {s} {xs} {arrays} {slots} h = by (f 0) (rw (owners-zero s xs, keepers-zero slots) at (h.once 0))
  where
    by : (o : Option Entry) → 0 ≡ one_if (is_some o) → o ≡ None
    by None e = refl
    by (Some e) bad = absurd (omega arith)

pub live_apart : (f : Table) → f 0 ≡ None → (kind : Option Kind) (rights : Rights) (y : ℕ) → IsAs kind rights (f y) → y ≢ 0
live_apart f none kind rights y l e = subst (IsAs kind rights) none (subst (λ k. IsAs kind rights (f k)) e l)

-- how many own v, beside register r
abbrev pub others : ℕ → State → List ℕ → List (List ℕ) → ℕ → ℕ
others r s xs slots v = owners v (slice_set s r (Word 0)) (slice_set xs r 0) + keepers v slots

module _ {f : Table} {s : State} {xs : List ℕ} {arrays : List SlotArray} {slots : List (List ℕ)} (h : Holds f s xs arrays slots) (states : IsState s)
    (g : Table) (r : ℕ) (lt : r < length s) (zero-too : g 0 ≡ None)
    (same : (y : ℕ) → 1 ≤ others r s xs slots y → g y ≡ f y) where
  same_has : (q : ℕ) → q ≢ r → (maybe : Bool) (kind : Option Kind) (rights : Rights) (y : ℕ) → value_at s q ≡ Has maybe kind rights → slice_index xs q ≡ y
      → IsHandle f maybe kind rights y → g y ≡ f y
  same_has q apart maybe kind rights y is at (inl (m, z)) = rw z (zero-too ∙ sym (nothing_at_0 h))
  same_has q apart maybe kind rights y is at (inr l) =
      let counted = owners-at y q (slice_set s r (Word 0)) (slice_set xs r 0) (length-set xs r 0 ∙ (h.width ∙ sym (length-set s r (Word 0)))) in
      let here : one_if (owns y (value_at (slice_set s r (Word 0)) q) (slice_index (slice_set xs r 0) q)) ≡ 1 =
      rw (
        get_or-set_other s r q (Word 0) (Word 0) apart,
        get_or-set_other xs r q 0 0 apart,
        is,
        at,
        owns_it maybe kind rights y (live_apart f (nothing_at_0 h) kind rights y l),
      ) refl in
      same y (omega arith)

  named_same : (t : ℕ) → t ≢ r → (a : AbsVal) → value_at s t ≡ a → can_be_named a ≡ true → Describes f xs a (slice_index xs t)
      → g (slice_index xs t) ≡ f (slice_index xs t)
  named_same t apart (Word m) is fine d = let z : slice_index xs t ≡ 0 = grind (arith, nat_tests) in rw z (zero-too ∙ sym (nothing_at_0 h))
  named_same t apart (Has maybe kind rights) is fine d = same_has t apart maybe kind rights (slice_index xs t) is refl d
  named_same t apart _ is fine d = cc

  -- a tag on register t goes on to hold, if t isn't written
  tag_same : (t x : ℕ) → t ≢ r → can_be_named (value_at s t) ≡ true → g (slice_index (slice_set xs r x) t) ≡ f (slice_index xs t)
  tag_same t x apart fine = ap g (get_or-set_other xs r t x 0 apart) ∙ named_same t apart (value_at s t) refl fine (h.described t)

  pub other_described : (q x : ℕ) → q ≢ r → (a : AbsVal) → value_at s q ≡ a → IsTrue (is_named_well s a) → Describes f xs a (slice_index xs q)
      → Describes g (slice_set xs r x) (untagged r a) (slice_index xs q)
  other_described q x apart (Word m) is fine d = d
  other_described q x apart (Has maybe kind rights) is fine (inl z) = inl z
  other_described q x apart (Has maybe kind rights) is fine (inr l) =
      inr (subst (IsAs kind rights) (sym (same_has q apart maybe kind rights (slice_index xs q) is refl (inr l))) l)
  other_described q x apart (KindOf t) is fine d =
      by_register (λ a. Describes g (slice_set xs r x) a (slice_index xs q)) t r (Word ANY) (KindOf t) (h.small q)
      (λ beside. d ∙ ap kind_in (sym (tag_same t x beside fine)))
  other_described q x apart (RightsOf t) is fine d =
      by_register (λ a. Describes g (slice_set xs r x) a (slice_index xs q)) t r (Word ANY) (RightsOf t) (h.small q)
      (λ beside. d ∙ ap rights_in (sym (tag_same t x beside fine)))

  kept_same : (n k : ℕ) (kind : Option Kind) (rights : Rights) → IsHandle f true kind rights (place_at slots n k)
      → IsHandle g true kind rights (place_at slots n k)
  kept_same n k kind rights (inl z) = inl z
  kept_same n k kind rights (inr l) =
      let y : ℕ = place_at slots n k in
      let live : place_at slots n k ≢ 0 = live_apart f (nothing_at_0 h) kind rights y l in
      let counted = keepers-at y n k slots live refl in
      inr (subst (IsAs kind rights) (sym (same y (omega arith))) l)

  -- register r gets x, of the value a
  pub write : (a : AbsVal) (x : ℕ) → x ≤ ANY → Describes g (slice_set xs r x) (untagged r a) x
      → ((v : ℕ) → others r s xs slots v + one_if (owns v a x) ≡ one_if (is_some (g v))) → Holds g (with_value s r a) (slice_set xs r x) arrays slots
  write a x few new counts = record {
    width = length-set xs r x ∙ (h.width ∙ sym (with_long s r a));
    small = λ q. small_at q (cases_eq q r);
    described = λ q. described_at q (cases_eq q r);
    lengths = h.lengths;
    narrow = h.narrow;
    stored = λ n k t is less. kept_same n k t.kind t.rights (h.stored n k t is less);
    once = once_at;
  }
    where
      inside : r < length xs
      inside = subst (λ n. r < n) (sym h.width) lt

      small_at : (q : ℕ) → (q ≡ r) ⊎ (q ≢ r) → slice_index (slice_set xs r x) q ≤ ANY
      small_at q (inl e) = rw (e, get_or-set_same xs r x 0 inside) few
      small_at q (inr apart) = rw (get_or-set_other xs r q x 0 apart) (h.small q)

      described_at : (q : ℕ) → (q ≡ r) ⊎ (q ≢ r) → Describes g (slice_set xs r x) (value_at (with_value s r a) q) (slice_index (slice_set xs r x) q)
      described_at q (inl e) = rw (e, value_at-here s r a lt, get_or-set_same xs r x 0 inside) new
      described_at q (inr apart) =
          rw (value_at-with s r q a apart, get_or-set_other xs r q x 0 apart) (other_described q x apart (value_at s q) refl (states.tags q) (h.described q))

      once_at : (v : ℕ) → owners v (with_value s r a) (slice_set xs r x) + keepers v slots ≡ one_if (is_some (g v))
      once_at v =
          let one = owners-with v r s xs a x h.width lt in
          let none = owners-set v r s xs (Word 0) 0 h.width lt in
          let not = owns_0 v (Word 0) in
          let now = counts v in
          omega arith

-- ---- a register that has no handle, where the table stays

module _ {f : Table} {s : State} {xs : List ℕ} {arrays : List SlotArray} {slots : List (List ℕ)} (h : Holds f s xs arrays slots) (states : IsState s) (r : ℕ)
    (lt : r < length s) (free : is_has (value_at s r) ≡ false) where
  free_and : (v : ℕ) → others r s xs slots v ≡ one_if (is_some (f v))
  free_and v =
      let none = owners-set v r s xs (Word 0) 0 h.width lt in
      let not = owns_0 v (Word 0) in
      let loose = owns_free v (value_at s r) (slice_index xs r) free in
      let once = h.once v in
      omega arith

  -- a owns nothing at x
  pub write_plain : (a : AbsVal) (x : ℕ) → x ≤ ANY → Describes f (slice_set xs r x) (untagged r a) x → ((v : ℕ) → one_if (owns v a x) ≡ 0)
      → Holds f (with_value s r a) (slice_set xs r x) arrays slots
  write_plain a x few new none = write h states f r lt (nothing_at_0 h) (λ y m. refl) a x few new (λ v. let z = none v in let k = free_and v in omega arith)

  pub write_word : (n x : ℕ) → x ≤ ANY → x ≤ n → Holds f (with_value s r (Word n)) (slice_set xs r x) arrays slots
  write_word n x few le = write_plain (Word n) x few le (λ v. owns_free v (Word n) x refl)

  -- a copy of a word or of a tag
  pub write_copy : (b : ℕ) → is_has (value_at s b) ≡ false → Holds f (with_value s r (value_at s b)) (slice_set xs r (slice_index xs b)) arrays slots
  write_copy b plain =
      write_plain (value_at s b) (slice_index xs b) (h.small b) (copied (value_at s b) plain (h.described b))
      (λ v. owns_free v (value_at s b) (slice_index xs b) plain)
    where
      copied : (a : AbsVal) → is_has a ≡ false → Describes f xs a (slice_index xs b)
          → Describes f (slice_set xs r (slice_index xs b)) (untagged r a) (slice_index xs b)
      copied (Word m) e d = d
      copied (Has maybe kind rights) e d = cc
      copied (KindOf t) e d =
          by_register (λ a. Describes f (slice_set xs r (slice_index xs b)) a (slice_index xs b)) t r (Word ANY) (KindOf t) (h.small b)
          (λ beside. d ∙ ap (λ k. kind_in (f k)) (sym (get_or-set_other xs r t (slice_index xs b) 0 beside)))
      copied (RightsOf t) e d =
          by_register (λ a. Describes f (slice_set xs r (slice_index xs b)) a (slice_index xs b)) t r (Word ANY) (RightsOf t) (h.small b)
          (λ beside. d ∙ ap (λ k. rights_in (f k)) (sym (get_or-set_other xs r t (slice_index xs b) 0 beside)))
