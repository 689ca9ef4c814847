-- What event_create and eventpair_create do, and the calls that change signals: signal and signal_peer. No public clause cites this module.
use Rattle.std.specs.Bool.{then_some}
use Rattle.std.specs.Option.{option_or}
use Rattle.zl_code.specs.Common.{bits, within, SIGNAL, SIGNALED, Map, get}
use Rattle.std.specs.Prelude.{ℕ, ◌≡◌, Bool, ◌&&◌, not, [], ◌∷◌, Option, Some, None, Result, Ok, Err, ⊤, if◌then◌else◌, is_some, bit_or}
use Rattle.zl_rights.specs.declared.kind.Kind.{Kind}
use Rattle.zl_rights.specs.declared.kind.Kind.TheVariants as kind
use Rattle.zl_rights.specs.declared.status.Status.{Status}
use Rattle.zl_rights.specs.declared.status.Status.TheVariants as status
use Rattle.zl_rights.specs.declared.entry.Entry.{Entry}
use Rattle.zl_rights.specs.declared.signals.Signals.{Signals}
use Rattle.zl_rights.specs.LookUp.{looked_up}
use Rattle.zl_rights.specs.Numbers.{SIGNAL_PEER, USER_SIGNALS}
use Rattle.zl_table.specs.Table.{Handles}
use Rattle.zl_objects.specs.declared.object.Body.TheVariants as body
use Rattle.zl_objects.specs.declared.object.Pair.TheVariants as pair
use Rattle.zl_objects.specs.declared.object.Object.{Object}
use Rattle.zl_objects.specs.Objects.{Objects, changing, peer_here}
use Rattle.zl_calls.specs.calls.Answer.{Does, wants_nothing}
use Rattle.zl_calls.specs.calls.Making.{MakeDoes, MakePairDoes}

-- ---- event_create

-- event_create, over the table of its caller: it makes an event
abbrev pub EventCreateDoes : Handles → Objects → Result ℕ Status → Handles → Objects → Type 0
EventCreateDoes = MakeDoes body.Event

-- ---- eventpair_create

-- eventpair_create, over the table of its caller: it makes an event pair
abbrev pub EventpairCreateDoes : Handles → Objects → Result (ℕ × ℕ) Status → Handles → Objects → Type 0
EventpairCreateDoes = MakePairDoes pair.Eventpair

-- ---- signal

-- the signals that calls may set and clear at an object of the kind
abbrev pub settable_at : Kind → ℕ
settable_at kind.Event = bit_or SIGNALED USER_SIGNALS
settable_at kind.Eventpair = bit_or SIGNALED USER_SIGNALS
settable_at _ = USER_SIGNALS

-- the signals with these bits, if the test passes
abbrev pub signals_if : Bool → ℕ → Option Signals
signals_if passes bits = if passes then Some (record { 0 = bits }) else None

-- both masks keep to the signals that calls may change
abbrev pub may_change_at : Kind → ℕ → ℕ → Bool
may_change_at k clear set = within clear (settable_at k) && within set (settable_at k)

-- why no signal changes, with the caller's handle looked up: rights come before masks
abbrev pub signal_refusal_of : ℕ → ℕ → Option Entry → Option Status
signal_refusal_of clear set None = Some status.BadHandle
signal_refusal_of clear set (Some e) =
    option_or (then_some (not (within SIGNAL (bits e.rights))) status.AccessDenied)
    (then_some (not (may_change_at e.kind clear set)) status.InvalidArgs)

-- the answer of signal other than OK
abbrev pub signal_refusal : Map Entry → ℕ → ℕ → ℕ → Option Status
signal_refusal entries value clear set = signal_refusal_of clear set (get entries value)

-- the signals of the object that the handle names change, and no handle does
pub record SignalsObject (t : Handles) (r : Objects) (value clear set : ℕ) (t2 : Handles) (r2 : Objects) : Type 0 where
  pub unrefused : signal_refusal t.entries value clear set ≡ None
  pub original : Entry
  pub was : get t.entries value ≡ Some original
  pub table : t2 ≡ t
  pub objects : r2 ≡ changing r original.koid clear set

-- signal by the handle at the value, with these masks; it never wants memory
abbrev pub SignalDoes : (value clear set : ℕ) → Handles → Objects → Result ⊤ Status → Handles → Objects → Type 0
SignalDoes value clear set t r = Does (λ _. SignalsObject t r value clear set) wants_nothing (signal_refusal t.entries value clear set) t r

-- ---- signal_peer

-- why no signal of the peer changes, where this look-up found the end: masks come before the peer
abbrev pub peer_signal_refusal_of : Map Object → ℕ → ℕ → Result Entry Status → Option Status
peer_signal_refusal_of objects clear set (Err s) = Some s
peer_signal_refusal_of objects clear set (Ok end) =
    option_or (then_some (not (may_change_at end.kind clear set)) status.InvalidArgs)
    (then_some (not (is_some (peer_here objects end.koid))) status.PeerClosed)

-- the answer of signal_peer other than OK
abbrev pub peer_signal_refusal : Map Entry → Map Object → ℕ → ℕ → ℕ → Option Status
peer_signal_refusal entries objects value clear set =
    peer_signal_refusal_of objects clear set (looked_up entries value (kind.Channel ∷ kind.Eventpair ∷ []) SIGNAL_PEER)

-- the signals of the peer of the end change, and no handle does
pub record SignalsPeer (t : Handles) (r : Objects) (value clear set : ℕ) (t2 : Handles) (r2 : Objects) : Type 0 where
  pub unrefused : peer_signal_refusal t.entries r.objects value clear set ≡ None
  pub end : Entry
  pub is_end : looked_up t.entries value (kind.Channel ∷ kind.Eventpair ∷ []) SIGNAL_PEER ≡ Ok end
  pub peer : ℕ
  pub is_peer : peer_here r.objects end.koid ≡ Some peer
  pub table : t2 ≡ t
  pub objects : r2 ≡ changing r peer clear set

-- signal_peer by the end at the value, with these masks; it never wants memory
abbrev pub SignalPeerDoes : (value clear set : ℕ) → Handles → Objects → Result ⊤ Status → Handles → Objects → Type 0
SignalPeerDoes value clear set t r =
    Does (λ _. SignalsPeer t r value clear set) wants_nothing (peer_signal_refusal t.entries r.objects value clear set) t r
