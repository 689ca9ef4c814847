-- What std's map from koids holds after a read or a write, in the words of the definitions.
use Rattle.zl_objects.proofs.Common.{IsTrue, Map, None, Some, [], ap, arith, eq-eqb, get, has_key, insert_entry, is_at, lookup, nat_cmp}
use Rattle.zl_objects.proofs.Common.{nat_tests, put, refl, remove_entry, set_value, sym, unsigned_tied, update, update_missing, without, ℕ, ◌++◌, ◌<◌}
use Rattle.zl_objects.proofs.Common.{◌∙◌, ◌∷◌, ◌≡◌}
use Rattle.zl_rights.proofs.MapEdits.{has_key-behind, without_missing}

-- a key above all others goes to the end
pub put_last : {X : Type 0} (m : Map X) (k : ℕ) (v : X) → ((j : ℕ) → IsTrue (has_key m j) → j < k) → put m k v ≡ m ++ (k, v) ∷ []
unfolding put get
put_last [] k v below = refl
put_last {X} (e ∷ m) k v below =
    let first : e.0 < k = below e.0 (rw (eq-eqb e.0 e.0 refl) refl) in
    let rest : put m k v ≡ m ++ (k, v) ∷ [] = put_last m k v (λ j there. below j (has_key-behind e m j there)) in
    grind (arith, nat_tests)

module _ {X : Type 0} where
  -- a look-up is the definitions' own
  pub looked_up : (es : Map X) (k : ℕ) → lookup (is_at (nat_cmp k)) es ≡ get es k
  unfolding get
  looked_up [] k = refl
  looked_up (e ∷ es) k = grind (arith, nat_tests, looked_up es k, unsigned_tied k e.0)

  -- a new value at a key that is there
  value_set : (es : Map X) (k : ℕ) (f : X → X) (v : X) → Some v ≡ lookup (is_at (nat_cmp k)) es → set_value (is_at (nat_cmp k)) es (f v) ≡ update es k f
  unfolding update
  value_set [] k f v there = cc
  value_set (e ∷ es) k f v there = grind (arith, nat_tests, value_set es k f v, unsigned_tied k e.0)

  -- the map after a write to what was found
  pub written : (es new : Map X) (k : ℕ) (f : X → X) (v w : X) → Some v ≡ lookup (is_at (nat_cmp k)) es → w ≡ f v → new ≡ set_value (is_at (nat_cmp k)) es w
      → new ≡ update es k f
  written es new k f v w there is set = set ∙ (ap (set_value (is_at (nat_cmp k)) es) is ∙ value_set es k f v there)

  -- where nothing was found nothing changes
  pub unwritten : (es new : Map X) (k : ℕ) (f : X → X) → None ≡ lookup (is_at (nat_cmp k)) es → new ≡ es → new ≡ update es k f
  unwritten es new k f none same = same ∙ sym (update_missing es k f (sym (none ∙ looked_up es k)))

  -- without the first entry with a key, where no other has it
  pub entry_removed : (es : Map X) (k : ℕ) → lookup (is_at (nat_cmp k)) (remove_entry (is_at (nat_cmp k)) es) ≡ None
      → remove_entry (is_at (nat_cmp k)) es ≡ without es k
  unfolding without
  entry_removed [] k gone = refl
  entry_removed (e ∷ es) k gone = grind (arith, nat_tests, entry_removed es k, unsigned_tied k e.0, looked_up es k, without_missing es k)

  -- an insertion is the definitions' own put
  pub inserted : (es : Map X) (k : ℕ) (v : X) → insert_entry nat_cmp es k v ≡ put es k v
  unfolding put
  inserted [] k v = refl
  inserted (e ∷ es) k v = grind (arith, nat_tests, inserted es k v, unsigned_tied k e.0)

  -- a key above all others goes to the end
  pub entry_inserted : (es : Map X) (k : ℕ) (v : X) → ((j : ℕ) → IsTrue (has_key es j) → j < k) → insert_entry nat_cmp es k v ≡ es ++ (k, v) ∷ []
  entry_inserted es k v below = inserted es k v ∙ put_last es k v below

  -- a value that is written as it was
  pub written_back : (es new : Map X) (k : ℕ) (v w : X) → Some v ≡ lookup (is_at (nat_cmp k)) es → w ≡ v → new ≡ set_value (is_at (nat_cmp k)) es w → new ≡ es
  written_back es new k v w there is set = set ∙ (ap (set_value (is_at (nat_cmp k)) es) is ∙ same es there)
    where
      same : (es : Map X) → Some v ≡ lookup (is_at (nat_cmp k)) es → set_value (is_at (nat_cmp k)) es v ≡ es
      same [] there = refl
      same (e ∷ es) there = grind (arith, nat_tests, same es)

-- what the functions over maps cite
pub ruleset by_koid = (looked_up, written, unwritten, written_back, entry_removed, entry_inserted)
