use Rattle.zl_asm.proofs.Common.{ap, arith, held_by, inr, length}
use Rattle.zl_asm.proofs.DraftHolds.{slot_array_held}
use Rattle.zl_asm.proofs.DraftRefuses.{slot_array_refused}
use Rattle.zl_asm.proofs.draft.Draft.declare_slot_array.Goals as goal

pub returns-then-slots-ge-MOST_SLOT_ARRAYS-clause-refused : goal.returns-then-slots-ge-MOST_SLOT_ARRAYS-clause-refused
returns-then-slots-ge-MOST_SLOT_ARRAYS-clause-refused c =
    inr (slot_array_refused (held_by c.args.self.now) c.args.array (omega (arith, ap length c.slots.ensures.value)))

pub returns-clause-held : goal.returns-clause-held
returns-clause-held c =
    slot_array_held (held_by c.args.self.now) c.push_slot_array.new.self c.args.array (c.in_ok-push_slot_array.ensures {u = tt}).ok c.requires.first
