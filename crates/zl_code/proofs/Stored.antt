-- The stored run: its bytes, its boot world and its history, by computation.
use Rattle.zl_code.specs.Blocks.{all_nest, all_stay, blocks_at}
use Rattle.zl_code.specs.Image.{blank_image}
use Rattle.zl_code.proofs.Common.{Choice, Ended, Image, IsBoot, IsLegalHistory, Library, List, Refused, Settles-by, Some, Spells, Statement, TraceItem, Values}
use Rattle.zl_code.proofs.Common.{World, [], boot_effect, boot_fault, false, local_parts, origin, pos, refl, settled_in, true, ℕ, ◌∷◌, ◌≡◌}
use Rattle.zl_rights.specs.declared.status.Status.TheVariants as status
use Rattle.zl_code.specs.declared.boot.Statement.TheVariants as statement
use Rattle.zl_code.specs.declared.instr.Instr.TheVariants as instr
use Rattle.zl_code.specs.declared.instr.LocalInstr.TheVariants as local
use Rattle.zl_code.specs.declared.history.CallName.TheVariants as name
use Rattle.zl_code.specs.declared.history.Outcome.TheVariants as outcome
use Rattle.zl_code.specs.declared.history.TraceItem.TheVariants as item
use Rattle.zl_code.proofs.Running.{run_by, IsLegalHistory-by, computing, world_after}
use Rattle.zl_code.proofs.RowsWords.{state_of}
use Rattle.zl_code.proofs.Called.{called}

-- ---- the program

abbrev pub bytes : List ℕ
bytes =
    0x5a ∷ 0x4c ∷ 0x41 ∷ 0x42 ∷ 1 ∷ 1 ∷ 8 ∷ 0 ∷ 0 ∷ 0 ∷ 0 ∷ 0 ∷ 100 ∷ 0 ∷ 0 ∷ 0 ∷ 0 ∷ 0 ∷ 0 ∷ 0
    ∷ 0x46 ∷ 2 ∷ 3 ∷ 0 ∷ 0 ∷ 0 ∷ 0 ∷ 0 ∷ 0 ∷ 0 ∷ 0 ∷ 0 ∷ 0 ∷ 0 ∷ 0 ∷ 0 ∷ 0x01 ∷ 5 ∷ 0 ∷ 0 ∷ 0 ∷ 0 ∷ 0 ∷ 0 ∷ 8 ∷ 0 ∷ 0 ∷ 0 ∷ 0 ∷ 0 ∷ 0 ∷ 0
    ∷ 0x47 ∷ 2 ∷ 3 ∷ 0 ∷ 5 ∷ 0 ∷ 0 ∷ 0 ∷ 0 ∷ 0 ∷ 0 ∷ 0 ∷ 0 ∷ 0 ∷ 0 ∷ 0 ∷ 0x41 ∷ 2 ∷ 3 ∷ 4 ∷ 0 ∷ 0 ∷ 0 ∷ 0 ∷ 0 ∷ 0 ∷ 0 ∷ 0x80 ∷ 0 ∷ 0 ∷ 0 ∷ 0
    ∷ 0x40 ∷ 2 ∷ 3 ∷ 0 ∷ 0 ∷ 0 ∷ 0 ∷ 0 ∷ 0 ∷ 0 ∷ 0 ∷ 0 ∷ 0 ∷ 0 ∷ 0 ∷ 0 ∷ 0x40 ∷ 2 ∷ 4 ∷ 0 ∷ 0 ∷ 0 ∷ 0 ∷ 0 ∷ 0 ∷ 0 ∷ 0 ∷ 0 ∷ 0 ∷ 0 ∷ 0 ∷ 0
    ∷ 0x40 ∷ 2 ∷ 4 ∷ 0 ∷ 0 ∷ 0 ∷ 0 ∷ 0 ∷ 0 ∷ 0 ∷ 0 ∷ 0 ∷ 0 ∷ 0 ∷ 0 ∷ 0 ∷ 0x53 ∷ 0 ∷ 0 ∷ 0 ∷ 0 ∷ 0 ∷ 0 ∷ 0 ∷ 0 ∷ 0 ∷ 0 ∷ 0 ∷ 0 ∷ 0 ∷ 0 ∷ 0 ∷ []

abbrev pub image : Image
image = record blank_image {
  raw = true;
  budget = 100;
  code =
      instr.Call (called name.EventCreate (2 ∷ 3 ∷ []) 0)
      ∷ instr.Local (local.Const 5 8)
      ∷ instr.Call (called name.Signal (2 ∷ 3 ∷ 0 ∷ 5 ∷ []) 0)
      ∷ instr.Call (called name.Dup (2 ∷ 3 ∷ 4 ∷ []) 0x8000_0000)
      ∷ instr.Call (called name.Close (2 ∷ 3 ∷ []) 0)
      ∷ instr.Call (called name.Close (2 ∷ 4 ∷ []) 0)
      ∷ instr.Call (called name.Close (2 ∷ 4 ∷ []) 0)
      ∷ instr.Call (called name.ProcessExit (0 ∷ []) 0)
      ∷ [];
}

-- The 148 bytes are those of the image of eight instructions.
bytes_spell_image : Spells bytes image
unfolding local_parts all_nest all_stay blocks_at
bytes_spell_image = record { same = refl; in_range = refl }

-- ---- its run

abbrev pub library : Library
library = record { checked = false; image = image } ∷ []

abbrev pub statements : List Statement
statements = statement.Process 1 0 0 [] ∷ []

abbrev pub made : World
made = boot_effect library origin (statement.Process 1 0 0 []) []

abbrev pub boot : World
boot = settled_in made 1

-- The world with one ready process, and the root job that it keeps, is a boot world of the one statement.
pub is_boot : IsBoot library statements boot
unfolding computing boot_fault boot_effect
is_boot = record { made = made; boots = ([], refl, refl, refl); settles = Settles-by made 1 refl }

abbrev pub history : List TraceItem
history =
    item.Call 2 name.EventCreate (outcome.Answered status.Ok) ∷ item.Run 2 1 ∷ item.Call 2 name.Signal (outcome.Answered status.Ok)
    ∷ item.Call 2 name.Dup (outcome.Answered status.Ok) ∷ item.Call 2 name.Close (outcome.Answered status.Ok)
    ∷ item.Call 2 name.Close (outcome.Answered status.Ok) ∷ item.Call 2 name.Close (outcome.Answered status.Ok)
    ∷ item.Call 2 name.ProcessExit (outcome.Ended (pos 0)) ∷ []

-- the event's handle gets the value 7, and its copy 9
abbrev pub turns : List (ℕ × Choice)
turns = (2, Values (7 ∷ [])) ∷ (2, Refused) ∷ (2, Values []) ∷ (2, Values (9 ∷ [])) ∷ (2, Values []) ∷ (2, Values []) ∷ (2, Values []) ∷ (2, Values []) ∷ []

abbrev pub end : World
end = world_after boot (run_by library boot turns)

-- Seven calls are answered OK around one local instruction, and the process exits: a legal history.
-- The third close closes register 4, which the second one left 0.
is_legal : IsLegalHistory library boot history end
unfolding computing boot_effect
is_legal = IsLegalHistory-by library boot turns history refl refl refl

-- At its end process 2 has ended with 0.
ends_with_0 : state_of end 2 ≡ Some (Ended (pos 0))
unfolding computing boot_effect
ends_with_0 = refl

-- Then no object is left: both handles to the event were closed, and nothing keeps the job.
ends_empty : end.objects ≡ []
unfolding computing boot_effect
ends_empty = refl
