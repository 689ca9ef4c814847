-- What a release leaves of what is listed beside the objects. No public clause cites this module.
use Rattle.std.specs.Prelude.{◌≡◌}
use Rattle.std.specs.List.{filter}
use Rattle.zl_objects.specs.declared.store.Store.{Store}
use Rattle.zl_objects.specs.Listed.{is_entry_there}

-- of all waits those are left whose object and port are, in order, and the rest is as before
pub record Sheds (s s2 : Store) : Type 0 where
  pub waits : s2.waits.entries.items ≡ filter (is_entry_there s2.by_koid.entries) s.waits.entries.items
  pub made : s2.waits.made ≡ s.waits.made
  pub next_koid : s2.next_koid ≡ s.next_koid
  pub sleepers : s2.sleepers ≡ s.sleepers
