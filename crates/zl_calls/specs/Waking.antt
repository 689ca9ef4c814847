-- How blocked processes wake. No public clause cites this module.
use Rattle.std.specs.Prelude.{ℕ, ◌≡◌, ◌<◌, ◌^◌, Bool, true, false, not, ◌==◌, List, [], ◌∷◌, map, Option, Some, None, if◌then◌else◌, slice_get, IsTrue}
use Rattle.std.specs.Bool.{then_some}
use Rattle.std.specs.List.{All, filter, fold}
use Rattle.std.specs.Option.{option_map}
use Rattle.zl_code.specs.Common.{answered, get}
use Rattle.zl_rights.specs.Numbers.{meets}
use Rattle.zl_rights.specs.Wakes.{packet_values, woken}
use Rattle.zl_rights.specs.World.{Process as ProcessValue, State, Blocked, SignalOf, PacketAt}
use Rattle.zl_code.specs.Sound.{is_blocked}
use Rattle.zl_objects.specs.declared.awaited.Sleeper.{Sleeper}
use Rattle.zl_objects.specs.Awaited.{KeepSleepers}
use Rattle.zl_objects.specs.Calm.{is_due}
use Rattle.zl_objects.specs.Objects.{Objects}
use Rattle.zl_objects.specs.Ports.{changing_port, packets_found}
use Rattle.zl_objects.specs.Signals.{signals_at}
use Rattle.zl_port.specs.Packets.{without_front}
use Rattle.zl_calls.specs.declared.process.State.TheVariants as state
use Rattle.zl_calls.specs.declared.process.Process.{Process}
use Rattle.zl_calls.specs.World.{held, process_entry, state_value, world_blocked}
use Rattle.zl_calls.specs.Consistent.{IsConsistent}
use Rattle.zl_calls.specs.Blocked.{AreBlocked, AreOrdered, AreSought}
use Rattle.zl_calls.specs.Blocking.{awaited_found}
use Rattle.zl_calls.specs.Woke.{HaveLeft}
use Rattle.zl_calls.specs.declared.told.Woke.{Woke}

-- ---- one process

-- the active signals, if one of the mask is among them
abbrev pub seen_active : ℕ → ℕ → Option (List ℕ)
seen_active signals mask = then_some (meets signals mask) (signals ∷ [])

-- what the answer of a blocked process gives behind the status, if what it waits for is there
abbrev pub given_awake : State → Objects → Option (List ℕ)
given_awake (Blocked (SignalOf koid mask) destinations) r = seen_active (signals_at r.objects koid) mask
given_awake (Blocked (PacketAt port) destinations) r = option_map packet_values (slice_get (packets_found (get r.objects port)) 0)
given_awake _ r = None

-- the registers of its answer, the status first
abbrev pub destinations_of : State → List ℕ
destinations_of (Blocked awaited destinations) = destinations
destinations_of _ = []

-- the process with this answer in these registers, if there is one, ready
abbrev pub awake_in : List ℕ → Option (List ℕ) → Process → Process
awake_in destinations None p = p
awake_in destinations (Some values) p = record p { state = state.Ready; cpu = answered p.cpu destinations (0 ∷ values) }

-- the same, in the registers of its wait
abbrev pub awake : Option (List ℕ) → Process → Process
awake given p = awake_in (destinations_of (state_value p.state)) given p

-- the objects without the packet that the process takes, if there is one
abbrev pub without_taken : State → Objects → Objects
without_taken (Blocked (PacketAt port) destinations) r = changing_port r port without_front
without_taken _ r = r

-- ---- the list

-- the list without the process, if that woke
abbrev pub unless_woke : Bool → ℕ → List ℕ → List ℕ
unless_woke woke pid blocked = if woke then filter (λ q. not (q == pid)) blocked else blocked

-- the process woke, or what it waits for isn't there yet, whichever processes block beside it
pub record WakesOne (pid : ℕ) (woke : Bool) (ps : List Process) (r : Objects) (ps2 : List Process) (r2 : Objects) : Type 0 where
  pub world : (blocked : List ℕ) → world_blocked ps2 r2 (unless_woke woke pid blocked) ≡ woken (world_blocked ps r blocked) pid
  pub list : (blocked : List ℕ) → AreBlocked ps blocked → AreBlocked ps2 (unless_woke woke pid blocked)
  pub consistent : IsConsistent ps2 r2
  pub held : map held ps2 ≡ map held ps

-- each blocked process stands at an instruction
abbrev pub HaveCounters : List Process → Type 0
HaveCounters ps = (k : ℕ) (p : ProcessValue) → get (map process_entry ps) k ≡ Some p → IsTrue (is_blocked p.state) → p.cpu.counter < 2 ^ 32

-- the process woke, which was blocked on what it was listed for; or it wasn't, and nothing changed
abbrev pub WakesSleeper : Sleeper → Bool → List Process → Objects → List Process → Objects → Type 0
WakesSleeper s true ps r ps2 r2 = (awaited_found (get (map process_entry ps) s.pid) ≡ Some s.awaited) × WakesOne s.pid true ps r ps2 r2 × KeepSleepers r r2
WakesSleeper s false ps r ps2 r2 = (awaited_found (get (map process_entry ps) s.pid) ≡ Some s.awaited → ⊥) × (ps2 ≡ ps) × (r2 ≡ r)

-- each blocked process had its turn, in the order of the list, and these woke, beside the one that was started;
-- nobody is listed for whom what it waits for is there
pub record Wakes (ps : List Process) (r : Objects) (blocked : List ℕ) (started : Option ℕ) (w : Woke) (ps2 : List Process) (r2 : Objects)
    (blocked2 : List ℕ) : Type 0 where
  pub wakes : world_blocked ps2 r2 blocked2 ≡ fold woken (world_blocked ps r blocked) blocked
  pub consistent : IsConsistent ps2 r2
  pub list : AreBlocked ps2 blocked2
  pub sought : AreSought ps2 r2
  pub ordered : AreOrdered ps2 r2 blocked2
  pub held : map held ps2 ≡ map held ps
  pub none_due : All (λ s. is_due r2.objects s.awaited ≡ false) r2.sleepers
  pub told : HaveLeft blocked started w blocked2
