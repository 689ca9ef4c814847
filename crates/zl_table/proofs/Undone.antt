-- An insertion that is taken back.
use Rattle.zl_rights.proofs.Common.{◌≡◌, ℕ, [], ◌∷◌, refl, sym, ◌∙◌, Option, Some, None, arith, nat_tests, Map, get, put, without}
use Rattle.std.proofs.lemmas.Bool.{eq-eqb}
use Rattle.zl_rights.specs.declared.entry.Entry.{Entry}
use Rattle.zl_rights.proofs.MapEdits.{without_missing}
use Rattle.zl_rights.proofs.MapLaws.{get-put}
use Rattle.zl_rights.proofs.Values.{taken_given}
use Rattle.zl_table.specs.Table.{Handles, Removes, TakesBack}

module _ {X : Type 0} where
  -- without what was put at a key that wasn't there the map is the one before
  without_put : (m : Map X) (k : ℕ) (v : X) → get m k ≡ None → without (put m k v) k ≡ m
  unfolding get put without
  without_put [] k v none = grind (arith, nat_tests)
  without_put (e ∷ m) k v none = grind (arith, nat_tests, without_put m k v, without_missing m k)

  get_put : (m : Map X) (k : ℕ) (v : X) → get (put m k v) k ≡ Some v
  get_put m k v = rw (get-put m k v k, eq-eqb k k refl) refl

-- a table of these parts
same_table : (t u : Handles) → t.entries ≡ u.entries → t.last ≡ u.last → t.free ≡ u.free → t ≡ u
same_table t u entries last free i = record { entries = entries i; last = last i; free = free i }

-- an entry was removed, and the value removed last is written
pub taken_back : (old removed : Handles) (value : ℕ) (told : Option ℕ) (entry : Entry) → Removes old value entry removed
    → TakesBack old value told (Some entry) (record removed { last = told })
taken_back old removed value told entry removes = record {
  entry = λ before given inserts. sym removes.was ∙ rw inserts.entries (get_put before.entries value given);
  table = λ before given inserts last.
      same_table (record removed { last = told }) before
      (removes.entries ∙ rw inserts.entries (without_put before.entries value given inserts.unused))
      last
      (removes.free ∙ rw (inserts.free, inserts.offered) (taken_given before.free inserts.normal));
}

-- nothing comes out only where no insertion was
pub none_back : (old new : Handles) (value : ℕ) (told : Option ℕ) → get old.entries value ≡ None → TakesBack old value told None new
none_back old new value told none = record {
  entry = λ before given inserts. absurd (none_some given (sym (rw inserts.entries (get_put before.entries value given)) ∙ none));
  table = λ before given inserts last. absurd (none_some given (sym (rw inserts.entries (get_put before.entries value given)) ∙ none));
}
  where
    none_some : (e : Entry) → ◌≡◌ {A = Option Entry} (Some e) None → ⊥
    none_some e same = cc
