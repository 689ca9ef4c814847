-- What calls on handles do: close, dup, replace and handle_info. No public clause cites this module.
use Rattle.std.specs.Prelude.{ℕ, ◌≡◌, ◌<◌, IsTrue, ◌||◌, not, List, [], ◌∷◌, length, Option, Some, None, Result, ⊤, ◌==◌, if◌then◌else◌}
use Rattle.std.specs.Bool.{then_some}
use Rattle.std.specs.Option.{option_or}
use Rattle.zl_code.specs.Common.{bits, within, narrowed, DUPLICATE, Map, get, has_key, update, is_empty, with_rights}
use Rattle.zl_rights.specs.declared.status.Status.{Status}
use Rattle.zl_rights.specs.declared.status.Status.TheVariants as status
use Rattle.zl_rights.specs.declared.entry.Entry.{Entry}
use Rattle.zl_rights.specs.declared.rights.Rights.{Rights}
use Rattle.zl_rights.specs.LookUp.{looked_up}
use Rattle.zl_table.specs.Table.{Handles, Inserts}
use Rattle.zl_objects.specs.declared.object.Object.{Object}
use Rattle.zl_objects.specs.Objects.{Objects, has_place, holding}
use Rattle.zl_objects.specs.Release.{Releases}
use Rattle.zl_calls.specs.calls.Answer.{Does, DoesTaking, has_room_in, status_of, wants_nothing, wants_memory, without_handle}
use Rattle.zl_calls.specs.Registered.{EndsWaits, KeepsListed}
use Rattle.zl_code.specs.Tests.{info_of}
use Rattle.zl_code.specs.Waiting.{is_by_handle}

-- ---- close

-- the answer of close; 0 passes
abbrev pub close_answer : Map Entry → ℕ → Status
close_answer entries value = if has_key entries value || value == 0 then status.Ok else status.BadHandle

-- the handle, if there is one, went from the objects
abbrev pub Closes : Option Entry → Objects → Objects → Type 0
Closes None r r2 = r2 ≡ r
Closes (Some e) r r2 = Releases (e.koid ∷ []) [] r r2

-- the handle at the value closes, if there is one
pub record CloseDoes (value : ℕ) (t : Handles) (r : Objects) (answer : Result ⊤ Status) (t2 : Handles) (r2 : Objects) : Type 0 where
  pub answered : status_of answer ≡ close_answer t.entries value
  pub table : t2 ≡ without_handle t value
  pub objects : Closes (get t.entries value) r r2
  pub listed : KeepsListed r r2

-- ---- dup

-- why no second handle is made, with the caller's handle looked up: rights come before room
abbrev pub dup_refusal_of : Map Entry → Map Object → ℕ → Option Entry → Option Status
dup_refusal_of entries objects asked None = Some status.BadHandle
dup_refusal_of entries objects asked (Some e) =
    option_or (then_some (not (within DUPLICATE (bits e.rights))) status.AccessDenied)
    (option_or (then_some (is_empty (with_rights e (narrowed e.rights asked))) status.InvalidArgs)
    (then_some (not (has_room_in entries) || not (has_place (get objects e.koid))) status.NoResources))

-- the answer of dup other than OK
abbrev pub dup_refusal : Map Entry → Map Object → ℕ → ℕ → Option Status
dup_refusal entries objects value asked = dup_refusal_of entries objects asked (get entries value)

-- a copy of the handle, with the rights that were granted, gets the value made
pub record Dups (t : Handles) (r : Objects) (value asked made : ℕ) (t2 : Handles) (r2 : Objects) : Type 0 where
  pub unrefused : dup_refusal t.entries r.objects value asked ≡ None
  pub original : Entry
  pub was : get t.entries value ≡ Some original
  pub granted : Rights
  pub allowed : narrowed original.rights asked ≡ Some granted
  pub room : length t.entries < 1024
  pub place : IsTrue (has_place (get r.objects original.koid))
  pub inserts : Inserts t (record original { rights = granted }) made t2
  pub objects : r2 ≡ holding r original.koid

-- dup of the handle at the value, with these rights asked for
abbrev pub DupDoes : ℕ → ℕ → Handles → Objects → Result ℕ Status → Handles → Objects → Type 0
DupDoes value asked t r = Does (Dups t r value asked) wants_memory (dup_refusal t.entries r.objects value asked) t r

-- ---- replace

-- why no handle is replaced, with the caller's handle looked up
abbrev pub replace_refusal_of : ℕ → Option Entry → Option Status
replace_refusal_of asked None = Some status.BadHandle
replace_refusal_of asked (Some e) = then_some (is_empty (with_rights e (narrowed e.rights asked))) status.InvalidArgs

-- the answer of replace other than OK
abbrev pub replace_refusal : Map Entry → ℕ → ℕ → Option Status
replace_refusal entries value asked = replace_refusal_of asked (get entries value)

-- the handle at the value has the rights that were granted, no value is the one removed last, and the waits have ended that the process made by it
pub record Replaces (pid : ℕ) (t : Handles) (r : Objects) (value asked made : ℕ) (t2 : Handles) (r2 : Objects) : Type 0 where
  pub unrefused : replace_refusal t.entries value asked ≡ None
  pub original : Entry
  pub was : get t.entries value ≡ Some original
  pub granted : Rights
  pub allowed : narrowed original.rights asked ≡ Some granted
  pub same_value : made ≡ value
  pub entries : t2.entries ≡ update t.entries value (λ e. record e { rights = granted })
  pub last : t2.last ≡ None
  pub free : t2.free ≡ t.free
  pub ends : EndsWaits (is_by_handle pid value) r r2

-- replace of the handle at the value, with these rights asked for; where it is refused the handle closes
abbrev pub ReplaceDoes : (pid value asked : ℕ) → Handles → Objects → Result ℕ Status → Handles → Objects → Type 0
ReplaceDoes pid value asked t r = DoesTaking (Replaces pid t r value asked) wants_nothing (replace_refusal t.entries value asked) (value ∷ []) t r

-- ---- handle_info

-- handle_info of the handle at the value, which needs no right; it changes nothing
pub record HandleInfoDoes (value : ℕ) (t : Handles) (r : Objects) (answer : Result Entry Status) (t2 : Handles) (r2 : Objects) : Type 0 where
  pub answered : answer ≡ looked_up t.entries value [] 0
  pub table : t2 ≡ t
  pub objects : r2 ≡ r

-- what it gives behind the status: the kind and the rights
abbrev pub info_values : Entry → List ℕ
info_values e = info_of (Some e)
