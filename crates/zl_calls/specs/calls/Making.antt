-- What a call does that makes one object, or the two ends of a pair, where nothing else refuses it. No public clause cites this module.
use Rattle.std.specs.Prelude.{ℕ, ◌≡◌, ◌<◌, ◌+◌, ◌^◌, ◌&&◌, not, nat_le, length, Option, None, Result}
use Rattle.std.specs.Bool.{then_some}
use Rattle.zl_code.specs.Common.{Map}
use Rattle.zl_code.specs.Effects.{new_entry}
use Rattle.zl_rights.specs.declared.entry.Entry.{Entry}
use Rattle.zl_rights.specs.declared.status.Status.{Status}
use Rattle.zl_rights.specs.declared.status.Status.TheVariants as status
use Rattle.zl_table.specs.Table.{Handles, Inserts}
use Rattle.zl_objects.specs.declared.object.Body.{Body}
use Rattle.zl_objects.specs.declared.object.Pair.{Pair}
use Rattle.zl_objects.specs.Objects.{Objects, kind_in, kind_of_pair, with_pair, with_new}
use Rattle.zl_calls.specs.calls.Answer.{Does, has_room_in, wants_memory}

-- the refusal of a call that makes one object, where the table is full or no koid is left
abbrev pub room_refusal : Map Entry → ℕ → Option Status
room_refusal entries next_koid = then_some (not (has_room_in entries && nat_le (next_koid + 1) (2 ^ 62))) status.NoResources

-- a handle to a new object, which is this, gets the value made; it has the default rights
pub record MakesOne (b : Body) (t : Handles) (r : Objects) (made : ℕ) (t2 : Handles) (r2 : Objects) : Type 0 where
  pub unrefused : room_refusal t.entries r.next_koid ≡ None
  pub inserts : Inserts t (new_entry r.next_koid (kind_in b)) made t2
  pub objects : r2 ≡ with_new r b 1

-- a call that makes it, over the table of its caller
abbrev pub MakeDoes : Body → Handles → Objects → Result ℕ Status → Handles → Objects → Type 0
MakeDoes b t r = Does (MakesOne b t r) wants_memory (room_refusal t.entries r.next_koid) t r

-- the refusal of a call that makes two ends, where the table hasn't place for two handles or fewer than two koids are left
abbrev pub pair_refusal : Map Entry → ℕ → Option Status
pair_refusal entries next_koid = then_some (not (nat_le (length entries + 2) 1024 && nat_le (next_koid + 2) (2 ^ 62))) status.NoResources

-- handles to both ends of a new pair get these values, that to the lower koid first; they have the default rights
pub record MakesPair (pair : Pair) (t : Handles) (r : Objects) (made : ℕ × ℕ) (t2 : Handles) (r2 : Objects) : Type 0 where
  pub unrefused : pair_refusal t.entries r.next_koid ≡ None
  -- the table with the first of them
  pub between : Handles
  pub room : length t.entries + 1 < 1024
  pub first : Inserts t (new_entry r.next_koid (kind_of_pair pair)) made.0 between
  pub second : Inserts between (new_entry (r.next_koid + 1) (kind_of_pair pair)) made.1 t2
  pub objects : r2 ≡ with_pair r pair 1

-- a call that makes them, over the table of its caller
abbrev pub MakePairDoes : Pair → Handles → Objects → Result (ℕ × ℕ) Status → Handles → Objects → Type 0
MakePairDoes pair t r = Does (MakesPair pair t r) wants_memory (pair_refusal t.entries r.next_koid) t r
