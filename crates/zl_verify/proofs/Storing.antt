-- The bytes that a call stores leave its caller's memory whole, and the rest of the caller as it was.
use Rattle.zl_verify.proofs.Common.{CallInstr, CallName, Image, IsMemory, Library, List, None, Option, Process, QueuesAreSized, Site, Some, World, [], ap}
use Rattle.zl_verify.proofs.Common.{arith, both, call_row, first_bytes, has_its_memory, is_in_memory, is_some, length, nat_le, nat_tests, number_at}
use Rattle.zl_verify.proofs.Common.{overwritten, queue_at, refl, refusal, reg, room_in, site_of, slice_get, slice_index, slots_filled, stored_by, subst, sym}
use Rattle.zl_verify.proofs.Common.{true, ℕ, ◌+◌, ◌∙◌, ◌∷◌, ◌≡◌, ◌≤◌}
use Rattle.zl_code.specs.declared.history.CallName.TheVariants as name
use Rattle.zl_verify.proofs.Memories.{AreBytes, bytes_stored}
use Rattle.zl_verify.proofs.OwnTable.{keeping_in, storing_in}
use Rattle.zl_verify.proofs.Sites.{call, AtSite, of_site, has_site}
use Rattle.zl_verify.proofs.Calm.{first_are_bytes}
use Rattle.zl_verify.proofs.Working.{message_fits, slots_fit}

-- all but the memory is as it was
pub record IsButMemory (new old : Process) : Type 0 where
  pub handles : new.handles ≡ old.handles
  pub registers : new.cpu.registers ≡ old.cpu.registers
  pub counter : new.cpu.counter ≡ old.cpu.counter
  pub slots : new.cpu.slots ≡ old.cpu.slots
  pub counters : new.cpu.counters ≡ old.cpu.counters
  pub state : new.state ≡ old.state
  pub program : new.program ≡ old.program

pub storing_same : (at : ℕ × List ℕ) (q : Process) → IsButMemory (storing_in at q) q
storing_same (address, []) q = record { handles = refl; registers = refl; counter = refl; slots = refl; counters = refl; state = refl; program = refl }
storing_same (address, b ∷ bytes) q = record { handles = refl; registers = refl; counter = refl; slots = refl; counters = refl; state = refl; program = refl }

-- all but the slot arrays is as it was
pub record IsButSlots (new old : Process) : Type 0 where
  pub handles : new.handles ≡ old.handles
  pub registers : new.cpu.registers ≡ old.cpu.registers
  pub counter : new.cpu.counter ≡ old.cpu.counter
  pub memory : new.cpu.memory ≡ old.cpu.memory
  pub counters : new.cpu.counters ≡ old.cpu.counters
  pub state : new.state ≡ old.state
  pub program : new.program ≡ old.program

pub keeping_same : (kept : Option (ℕ × List ℕ)) (q : Process) → IsButSlots (keeping_in kept q) q
keeping_same None q = record { handles = refl; registers = refl; counter = refl; memory = refl; counters = refl; state = refl; program = refl }
keeping_same (Some x) q = record { handles = refl; registers = refl; counter = refl; memory = refl; counters = refl; state = refl; program = refl }

pub keeping_slots : (kept : Option (ℕ × List ℕ)) (q : Process) → (keeping_in kept q).cpu.slots ≡ slots_filled q.cpu.slots kept
keeping_slots None q = refl
keeping_slots (Some x) q = refl

module _ (i : Image) (q new : Process) (same : new.cpu ≡ q.cpu) (memory : IsMemory i q.cpu.memory) where
  storing_whole : (address : ℕ) (bytes : List ℕ) → AreBytes bytes → address + length bytes ≤ length q.cpu.memory
      → IsMemory i (storing_in (address, bytes) new).cpu.memory
  storing_whole address [] are fits = subst (λ c. IsMemory i c.memory) (sym same) memory
  storing_whole address (b ∷ bytes) are fits =
      subst (λ c. IsMemory i (overwritten c.memory address (b ∷ bytes))) (sym same) (bytes_stored i q.cpu.memory (b ∷ bytes) address memory are fits)

  within_memory : (address room most n : ℕ) → nat_le (address + room) most ≡ true → n ≤ room → address + n ≤ most
  within_memory address room most n there fits = grind (arith, nat_tests)

  whole_by : (lib : Library) (w : World) (p : ℕ) → QueuesAreSized w → (n : CallName) (rs last : List ℕ)
      → has_its_memory (call_row n).ending (call n rs last) q.cpu ≡ true
      → AtSite q.cpu (call n rs last) (λ t. refusal lib w p t.request ≡ None → IsMemory i (storing_in (stored_by w p t.request) new).cpu.memory)
  whole_by lib w p sized name.ChanReadEtc rs last there =
      let h = reg q.cpu (slice_index rs 1) in
      let address = reg q.cpu (slice_index rs 2) in
      let room = reg q.cpu (slice_index rs 3) in
      λ passes.
      storing_whole address (first_bytes (queue_at w p h)) (first_are_bytes w sized p h)
      (within_memory address room (length q.cpu.memory) (length (first_bytes (queue_at w p h))) there
      (message_fits lib w p h address room (number_at last 0 4) passes).0)
  whole_by lib w p sized name.ChanReadSlots rs last there =
      let h = reg q.cpu (slice_index rs 1) in
      let address = reg q.cpu (slice_index rs 2) in
      let room = reg q.cpu (slice_index rs 3) in
      let array = number_at last 0 4 in
      λ passes.
      storing_whole address (first_bytes (queue_at w p h)) (first_are_bytes w sized p h)
      (within_memory address room (length q.cpu.memory) (length (first_bytes (queue_at w p h))) (both (is_in_memory q.cpu address room) _ there).0
      (slots_fit lib w p h address room array (room_in (slice_get q.cpu.slots array)) passes).0)
  whole_by lib w p sized _ rs last there = λ passes. subst (λ c. IsMemory i c.memory) (sym same) memory

  pub still_whole : (lib : Library) (w : World) (p : ℕ) → QueuesAreSized w → (x : CallInstr) (t : Site) → site_of x q.cpu ≡ Some t
      → refusal lib w p t.request ≡ None → IsMemory i (storing_in (stored_by w p t.request) new).cpu.memory
  still_whole lib w p sized x t site =
      of_site q.cpu x t site (λ t. refusal lib w p t.request ≡ None → IsMemory i (storing_in (stored_by w p t.request) new).cpu.memory)
      (whole_by lib w p sized x.name x.registers x.last (sym (has_site x q.cpu) ∙ ap is_some site))
