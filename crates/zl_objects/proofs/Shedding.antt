-- What is left of what is listed beside the objects, once some have gone.
use Rattle.zl_objects.proofs.Common.{Cascades, List, Objects, ap, listed_value, map, refl, sym, ℕ, ◌∙◌}
use Rattle.zl_objects.specs.Listed.{LeavesListed}
use Rattle.zl_objects.specs.Store.{Sheds}
use Rattle.zl_objects.specs.declared.sleepers.Sleepers.{Sleepers}
use Rattle.zl_objects.specs.declared.store.Store.{Store}
use Rattle.zl_objects.proofs.Listed.{all_there}
use Rattle.zl_objects.proofs.Unlisted.{left_seen, left_then}

pub sheds_none : (s : Store) → Sheds s s
sheds_none s =
    record { waits = sym (all_there s.waits.entries.items s.by_koid.entries s.kept.whole.places s.kept.listed); made = refl; next_koid = refl; sleepers = refl }

-- some went, and then others
pub sheds_then : {ks : List ℕ} {s s2 s3 : Store} → Sheds s s2 → Cascades ks s2.by_koid.entries s3.by_koid.entries → Sheds s2 s3 → Sheds s s3
sheds_then {ks} {s} first cascades second = record {
  waits = left_then s.waits.entries.items cascades first.waits second.waits;
  made = second.made ∙ first.made;
  next_koid = second.next_koid ∙ first.next_koid;
  sleepers = second.sleepers ∙ first.sleepers;
}

-- what the objects show
abbrev shown : Store → Objects
shown s = record {
  objects = s.by_koid.entries;
  next_koid = s.next_koid;
  waits = map listed_value s.waits.entries.items;
  waits_made = s.waits.made;
  sleepers = s.sleepers.list.items;
  crowded = s.sleepers.crowded;
}

pub sheds_listed : {s s2 : Store} → Sheds s s2 → LeavesListed (shown s) (shown s2)
sheds_listed {s} {s2} sheds = record {
  waits = left_seen s2.by_koid.entries s.waits.entries.items s2.waits.entries.items sheds.waits;
  made = sheds.made;
  asleep = (ap (λ (x : Sleepers). x.list.items) sheds.sleepers, ap (λ (x : Sleepers). x.crowded) sheds.sleepers);
}
