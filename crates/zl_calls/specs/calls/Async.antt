-- What calls do with registered waits: wait_async and port_cancel. No public clause cites this module.
use Rattle.std.specs.Prelude.{ℕ, ◌≡◌, ◌||◌, not, [], Option, Some, None, Result, Ok, Err, ⊤}
use Rattle.std.specs.Bool.{then_some}
use Rattle.std.specs.List.{list_any}
use Rattle.std.specs.Option.{option_or}
use Rattle.zl_code.specs.Common.{Map, get}
use Rattle.zl_code.specs.Waiting.{is_keyed, is_mask}
use Rattle.zl_rights.specs.declared.status.Status.{Status}
use Rattle.zl_rights.specs.declared.status.Status.TheVariants as status
use Rattle.zl_rights.specs.declared.entry.Entry.{Entry}
use Rattle.zl_rights.specs.LookUp.{looked_up}
use Rattle.zl_rights.specs.Numbers.{WAIT, WRITE}
use Rattle.zl_rights.specs.World.{Source}
use Rattle.zl_port.specs.Packets.{is_from, without_packets}
use Rattle.zl_table.specs.Table.{Handles}
use Rattle.zl_objects.specs.declared.wait.Wait.{Wait}
use Rattle.zl_objects.specs.Listed.{may_register_here, watching}
use Rattle.zl_objects.specs.Objects.{Objects}
use Rattle.zl_objects.specs.Ports.{changing_port, packets_found}
use Rattle.zl_calls.specs.calls.Answer.{Does, wants_memory, wants_nothing}
use Rattle.zl_calls.specs.calls.Port.{port_at}
use Rattle.zl_calls.specs.Registered.{EndsWaits}

-- ---- wait_async

-- why no wait is registered, where these look-ups found the handle and the port: the mask comes before the count
abbrev pub async_refusal_of : Objects → (mask : ℕ) → Result Entry Status → Result Entry Status → Option Status
async_refusal_of r mask (Err s) port = Some s
async_refusal_of r mask (Ok e) (Err s) = Some s
async_refusal_of r mask (Ok e) (Ok port) =
    option_or (then_some (not (is_mask mask)) status.InvalidArgs) (then_some (not (may_register_here r)) status.NoResources)

-- the answer of wait_async other than OK
abbrev pub async_refusal : Map Entry → Objects → (h port mask : ℕ) → Option Status
async_refusal entries r h port mask = async_refusal_of r mask (looked_up entries h [] WAIT) (port_at entries port WRITE)

-- the wait that the process makes by its handle h to this object, for a packet with the key to the port
abbrev pub wait_for : (pid h key mask : ℕ) → (watched port : Entry) → Wait
wait_for pid h key mask watched port = record {
  pid = pid;
  value = h;
  object = watched.koid;
  port = port.koid;
  key = key;
  mask = record { 0 = mask };
}

-- the wait is registered last of all
pub record RegistersWait (pid : ℕ) (t : Handles) (r : Objects) (h port key mask : ℕ) (t2 : Handles) (r2 : Objects) : Type 0 where
  pub unrefused : async_refusal t.entries r h port mask ≡ None
  pub watched : Entry
  pub is_watched : looked_up t.entries h [] WAIT ≡ Ok watched
  pub receiver : Entry
  pub is_receiver : port_at t.entries port WRITE ≡ Ok receiver
  pub table : t2 ≡ t
  pub objects : r2 ≡ watching r (wait_for pid h key mask watched receiver)

-- wait_async of the process by its handle h, for a packet with the key to the port at the value
abbrev pub WaitAsyncDoes : (pid h port key mask : ℕ) → Handles → Objects → Result ⊤ Status → Handles → Objects → Type 0
WaitAsyncDoes pid h port key mask t r = Does (λ _. RegistersWait pid t r h port key mask) wants_memory (async_refusal t.entries r h port mask) t r

-- ---- port_cancel

-- by what the process makes waits with its handle at the value to this object
abbrev pub source_of : (pid value : ℕ) → Entry → Source
source_of pid value e = record { pid = pid; value = value; object = e.koid }

-- why nothing is cancelled, where these look-ups found the port and the handle of the waits
abbrev pub cancel_refusal_of : Objects → (pid source key : ℕ) → Result Entry Status → Result Entry Status → Option Status
cancel_refusal_of r pid source key (Err s) named = Some s
cancel_refusal_of r pid source key (Ok port) (Err s) = Some s
cancel_refusal_of r pid source key (Ok port) (Ok e) =
    then_some (not (list_any (is_keyed pid source port.koid key) r.waits
    || list_any (is_from (source_of pid source e) key) (packets_found (get r.objects port.koid)))) status.NotFound

-- the answer of port_cancel other than OK
abbrev pub cancel_refusal : Map Entry → Objects → (pid port source key : ℕ) → Option Status
cancel_refusal entries r pid port source key =
    cancel_refusal_of r pid source key (port_at entries port WRITE) (looked_up entries source [] 0)

-- the packets with the key leave the port that waits by this handle gave, and such waits end
pub record Cancels (pid : ℕ) (t : Handles) (r : Objects) (port source key : ℕ) (t2 : Handles) (r2 : Objects) : Type 0 where
  pub unrefused : cancel_refusal t.entries r pid port source key ≡ None
  pub receiver : Entry
  pub is_receiver : port_at t.entries port WRITE ≡ Ok receiver
  pub named : Entry
  pub is_named : looked_up t.entries source [] 0 ≡ Ok named
  pub table : t2 ≡ t
  pub ends : EndsWaits (is_keyed pid source receiver.koid key)
      (changing_port r receiver.koid (λ p. without_packets p (is_from (source_of pid source named) key))) r2

-- port_cancel of the process at the port at the value, for the waits by its handle source
abbrev pub PortCancelDoes : (pid port source key : ℕ) → Handles → Objects → Result ⊤ Status → Handles → Objects → Type 0
PortCancelDoes pid port source key t r = Does (λ _. Cancels pid t r port source key) wants_nothing (cancel_refusal t.entries r pid port source key) t r
