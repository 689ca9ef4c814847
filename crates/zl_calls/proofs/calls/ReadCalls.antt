-- The calls chan_read_etc and chan_read_slots, from their table and objects to a step.
use Rattle.zl_calls.proofs.Common.{ChanReadDoes, Err, IsConsistent, IsTold, Library, List, None, Objects, Ok, Outcome, Process, ReadFault, Received, Result}
use Rattle.zl_calls.proofs.Common.{Site, Some, Status, World, [], chan_read_etc, chan_read_slots, effect, gives_ok, gives_refused, handle_operands}
use Rattle.zl_calls.proofs.Common.{if◌then◌else◌, listed, may_choose, new_handles, operands_fault, queue_at, refl, remove_all, sizes_of, subst, sym}
use Rattle.zl_calls.proofs.Common.{taken_handles, told_of, told_read, told_slots, world_value, ℕ, ◌≡◌}
use Rattle.zl_calls.proofs.calls.Answered.{IsWrite, asking}
use Rattle.zl_calls.proofs.calls.DoneCalls.{IsCalled, IsDoneBy, called_done}
use Rattle.zl_calls.proofs.calls.Readers.{IsReader, tells_sizes, was_not_read, was_read}
use Rattle.zl_rights.specs.declared.status.Status.TheVariants as status
use Rattle.zl_code.specs.declared.history.Outcome.TheVariants as outcome

-- ---- what the definitions say of both

module _ (lib : Library) (w : World) (p c address room places : ℕ) where
  etc_refuses : (a : Status) → gives_refused w p (chan_read_etc c address room places) a ≡ (if tells_sizes a then sizes_of (queue_at w p c) else [])
  unfolding gives_refused
  etc_refuses status.BufferTooSmall = refl
  etc_refuses _ = refl

  etc_reads : (base : Site) → IsReader lib w p (asking (chan_read_etc c address room places) base) c address room places told_of (λ vs. None)
  unfolding effect new_handles taken_handles handle_operands operands_fault remove_all gives_ok listed may_choose
  etc_reads base = record {
    operand = λ entries. refl;
    tests = refl;
    wants = refl;
    none_taken = refl;
    ends = refl;
    maker = record { none = refl; chosen = refl; made = refl; own = refl };
    chooses = λ vs. refl;
    does = λ vs. refl;
    tells = λ vs. refl;
    refuses = etc_refuses;
  }

  module _ (array : ℕ) where
    slots_refuses : (a : Status)
        → gives_refused w p (chan_read_slots c address room array places) a ≡ (if tells_sizes a then sizes_of (queue_at w p c) else [])
    unfolding gives_refused
    slots_refuses status.BufferTooSmall = refl
    slots_refuses _ = refl

    slots_reads : (base : Site) → IsReader lib w p (asking (chan_read_slots c address room array places) base)
        c address room places (λ es vs. []) (λ vs. Some (array, vs))
    unfolding effect new_handles taken_handles handle_operands operands_fault remove_all gives_ok listed may_choose
    slots_reads base = record {
      operand = λ entries. refl;
      tests = refl;
      wants = refl;
      none_taken = refl;
      ends = refl;
      maker = record { none = refl; chosen = refl; made = refl; own = refl };
      chooses = λ vs. refl;
      does = λ vs. refl;
      tells = λ vs. refl;
      refuses = slots_refuses;
    }

-- ---- the step

-- a process of the world, before and after its call
module _ {before after : List Process} {r : Objects} {p p2 : Process} (lib : Library) (r2 : Objects) (consistent : IsConsistent before r)
    (write : IsWrite before after p p2)
    (c address room places : ℕ) where
  abbrev w : World
  w = world_value before r

  module _ (base : Site) where
    abbrev etc_site : Site
    etc_site = asking (chan_read_etc c address room places) base

    etc_called : (answer : Result Received ReadFault) → ChanReadDoes c room places p.table r answer p2.table r2
        → IsTold etc_site (told_read address answer) p p2
        → IsCalled lib before after r r2 p.pid etc_site (outcome.Answered (told_read address answer).status)
    etc_called (Ok message) does told =
        was_read lib r2 consistent write etc_site c address room places told_of (λ vs. None)
        (etc_reads lib w p.pid c address room places base) message does.ok told
    etc_called (Err f) does told =
        was_not_read lib r2 consistent write etc_site c address room places told_of (λ vs. None)
        (etc_reads lib w p.pid c address room places base) does.same_table does.same_objects f does.err told

    pub read_done : IsDoneBy lib before after r r2 p p2 etc_site (told_read address) (ChanReadDoes c room places)
    read_done ready call next o acts = called_done lib r2 consistent write ready call etc_site next o
        (subst (λ (x : Outcome). IsCalled lib before after r r2 p.pid etc_site x) (sym acts.ends) (etc_called acts.answer acts.acts acts.replied))

  module _ (array : ℕ) (base : Site) where
    abbrev slots_site : Site
    slots_site = asking (chan_read_slots c address room array places) base

    slots_called : (answer : Result Received ReadFault) → ChanReadDoes c room places p.table r answer p2.table r2
        → IsTold slots_site (told_slots address array answer) p p2
        → IsCalled lib before after r r2 p.pid slots_site (outcome.Answered (told_slots address array answer).status)
    slots_called (Ok message) does told =
        was_read lib r2 consistent write slots_site c address room places (λ es vs. []) (λ vs. Some (array, vs))
        (slots_reads lib w p.pid c address room places array base) message does.ok told
    slots_called (Err f) does told =
        was_not_read lib r2 consistent write slots_site c address room places (λ es vs. []) (λ vs. Some (array, vs))
        (slots_reads lib w p.pid c address room places array base) does.same_table does.same_objects f does.err told

    pub read_slots_done : IsDoneBy lib before after r r2 p p2 slots_site (told_slots address array) (ChanReadDoes c room places)
    read_slots_done ready call next o acts = called_done lib r2 consistent write ready call slots_site next o
        (subst (λ (x : Outcome). IsCalled lib before after r r2 p.pid slots_site x) (sym acts.ends) (slots_called acts.answer acts.acts acts.replied))
