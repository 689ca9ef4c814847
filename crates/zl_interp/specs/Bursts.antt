-- Local instructions in a row, and where they end.
use Rattle.std.specs.Prelude.{ℕ, zero, suc, ◌≡◌, ◌<◌, ◌≤◌, Bool, true, false, IsTrue, List, [], ◌∷◌, length, slice_get, Option, Some, None, if◌then◌else◌}
use Rattle.std.specs.Option.{option_map}
use Rattle.zl_code.specs.Common.{Cpu, Image, Program, Next, AtCall, Moves, IsStuck}
use Rattle.zl_code.specs.Spells.{instr_bytes, is_instr_in_range}
use Rattle.zl_code.specs.Steps.{next_at}
use Rattle.zl_code.specs.declared.image.Version.{Version}
use Rattle.zl_code.specs.declared.instr.Instr.{Instr}
use Rattle.zl_interp.specs.declared.bursts.Stop.{Stop}
use Rattle.zl_interp.specs.declared.bursts.Stop.TheVariants as stop

-- the Cpu to which what stands next leads by a local instruction
abbrev pub moved_to : Next → Option Cpu
moved_to (Moves to) = Some to
moved_to (AtCall call site) = None
moved_to IsStuck = None

-- the Cpu behind one local instruction more, if there was one so far
abbrev pub then_moved : Image → Option Cpu → Option Cpu
then_moved i None = None
then_moved i (Some c) = moved_to (next_at i c)

-- the Cpu behind so many local instructions, each of which stood next and could be done
abbrev pub after_locals : Image → ℕ → Cpu → Option Cpu
after_locals i zero c = Some c
after_locals i (suc n) c = then_moved i (after_locals i n c)

-- where instructions in a row end, by what stands next
abbrev pub stop_at : Next → Stop
stop_at (Moves to) = stop.More
stop_at (AtCall call site) = stop.AtCall
stop_at IsStuck = stop.Stuck

-- a process that may go on by itself: its koid, its program and its Cpu
pub record Turn : Type 0 where
  pub pid : ℕ
  pub program : Program
  pub cpu : Cpu

-- what it did: so many local instructions from one Cpu to another, and where it ended; the version of its program, and a
-- place for each instruction of that, filled where it was done or stands next
pub record Done : Type 0 where
  pub pid : ℕ
  pub from : Cpu
  pub to : Cpu
  pub ran : ℕ
  pub stop : Stop
  pub version : Version
  pub places : List (Option Instr)

-- the code with each place emptied that isn't marked
abbrev pub marked : List Instr → List Bool → List (Option Instr)
marked [] marks = []
marked (x ∷ code) [] = None ∷ marked code []
marked (x ∷ code) (mark ∷ marks) = (if mark then Some x else None) ∷ marked code marks

-- whether what stands in a place fills it
abbrev pub fills : Option (Option Instr) → Bool
fills None = false
fills (Some None) = false
fills (Some (Some x)) = true

-- whether the place with this number is filled
abbrev pub is_filled : List (Option Instr) → ℕ → Bool
is_filled places n = fills (slice_get places n)

-- the code has as many instructions as there are places, and in each that is filled this one
pub record Agrees (code : List Instr) (places : List (Option Instr)) : Type 0 where
  pub long : length code ≡ length places
  pub filled : (n : ℕ) (x : Instr) → slice_get places n ≡ Some (Some x) → slice_get code n ≡ Some x

-- the image has the version of what was done, and its code agrees
pub record Matches (i : Image) (d : Done) : Type 0 where
  pub version : i.version ≡ d.version
  pub agrees : Agrees i.code d.places

-- in each image that matches they lead from the one Cpu to the other, and it ended where it says
pub record IsBurst (d : Done) : Type 0 where
  pub follows : (i : Image) → Matches i d → after_locals i d.ran d.from ≡ Some d.to
  pub stops : (i : Image) → Matches i d → d.stop ≡ stop_at (next_at i d.to)

-- ---- how the code gets there; no public clause cites what follows

-- in each image that agrees so many local instructions lead from the one Cpu to the other
pub record Leads (places : List (Option Instr)) (n : ℕ) (from to : Cpu) : Type 0 where
  pub follows : (i : Image) → Agrees i.code places → after_locals i n from ≡ Some to

-- what fills a place can stand in an image of the version
pub record CanStand (v : Version) (places : List (Option Instr)) : Type 0 where
  pub stands : (n : ℕ) (x : Instr) → slice_get places n ≡ Some (Some x) → IsTrue (is_instr_in_range v true x)

-- where the place with this number is filled, the code has an instruction there with the same bytes
abbrev pub IsSpelledAt : List Instr → List (Option Instr) → ℕ → Type 0
IsSpelledAt code places n = (x : Instr) → slice_get places n ≡ Some (Some x) → option_map instr_bytes (slice_get code n) ≡ Some (instr_bytes x)

-- and so for each of these places
abbrev pub IsSpelledFrom : List Instr → List (Option Instr) → ℕ → ℕ → Type 0
IsSpelledFrom code places start end = (n : ℕ) → start ≤ n → n < end → IsSpelledAt code places n

-- none of these places is marked
abbrev pub AreUnmarked : List Bool → ℕ → ℕ → Type 0
AreUnmarked marks start end = (n : ℕ) → start ≤ n → n < end → slice_get marks n ≡ Some false

-- as many as there are places, and in each that is filled one with these bytes
pub record HasBytes (code : List Instr) (places : List (Option Instr)) : Type 0 where
  pub long : length code ≡ length places
  pub bytes : (n : ℕ) → IsSpelledAt code places n
