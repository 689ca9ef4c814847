-- One instruction more in the code of an image, by a Cpu that is as a typing of the image says, and for all images that agree with what was filled.
use Rattle.zl_interp.proofs.Common.{Agrees, Bool, Cpu, Done, Image, Instr, IsAble, IsBurst, IsStuck, IsTrue, Leads, List, Moves, Option, Some}
use Rattle.zl_interp.proofs.Common.{add-one, after_locals, ap, is_in_range, marked, moved_to, next_at, next_of, slice_get, slice_set, stop_at, subst}
use Rattle.zl_interp.proofs.Common.{sym, then_moved, ℕ, ◌+◌, ◌∙◌, ◌≡◌, ◌≢◌}
use Rattle.zl_verify.proofs.LocalSteps.{able_goes, able_still}
use Rattle.zl_interp.proofs.Filling.{filled_alike, filled_before}
use Rattle.zl_interp.proofs.Marked.{marked_agrees}

-- ---- images that agree

-- the place of what stands next is filled then
module _ (i : Image) (code : List Instr) (same : code ≡ i.code) (marks after : List Bool) (n : ℕ) (from c : Cpu)
    (so_far : Leads (marked i.code marks) n from c) (fills : marked code after ≡ slice_set (marked code marks) c.counter (slice_get code c.counter)) where
  filled : marked i.code after ≡ slice_set (marked i.code marks) c.counter (slice_get i.code c.counter)
  filled = subst (λ xs. marked xs after ≡ slice_set (marked xs marks) c.counter (slice_get xs c.counter)) same fills

  abbrev before : List (Option Instr)
  before = marked i.code marks

  followed : (j : Image) → Agrees j.code (marked i.code after) → after_locals j n from ≡ Some c
  followed j a = so_far.follows j (filled_before i.code before c.counter (marked_agrees i.code marks) j.code (subst (Agrees j.code) filled a))

  alike : (j : Image) → Agrees j.code (marked i.code after) → next_at j c ≡ next_at i c
  unfolding next_at
  alike j a = ap (λ o. next_of o c) (filled_alike i.code before c.counter (marked_agrees i.code marks) j.code (subst (Agrees j.code) filled a))

  -- so the same stands next in each image that agrees
  pub next_alike : (d : Cpu) → d ≡ c → (j : Image) → Agrees j.code (marked i.code after) → next_at j d ≡ next_at i d
  next_alike d is = subst (λ e. (j : Image) → Agrees j.code (marked i.code after) → next_at j e ≡ next_at i e) (sym is) alike

  pub leads_still : (m : ℕ) (d : Cpu) → n ≡ m → d ≡ c → Leads (marked i.code after) m from d
  leads_still m d as_many is = rw (← as_many, is) (record { follows = followed })

  -- and where it moves, it does so in each
  pub leads_on : (d : Cpu) → next_of (slice_get code c.counter) c ≡ Moves d → Leads (marked i.code after) (n + 1) from d
  unfolding next_at
  leads_on d next = record {
    follows = λ j a. rw add-one (ap (then_moved j) (followed j a) ∙ ap moved_to (alike j a ∙ (ap (λ x. next_of (slice_get x c.counter) c) (sym same) ∙ next)));
  }

-- ---- a Cpu that is as a typing says

module _ (i : Image) (code : List Instr) (c : Cpu) (same : code ≡ i.code) (range : IsTrue (is_in_range i)) (able : IsAble i c) where
  -- it isn't stuck
  pub goes : next_of (slice_get code c.counter) c ≢ IsStuck
  unfolding next_at
  goes = rw same (able_goes i c range able)

  -- and is so behind the instruction
  pub able_then : (d : Cpu) → next_of (slice_get code c.counter) c ≡ Moves d → IsAble i d
  unfolding next_at
  able_then d next = able_still i c d range able (rw same at next)

-- ---- the whole

-- what leads there, and is alike in each image that agrees, is a burst of it
pub is_burst : (i : Image) (d : Done) → Leads d.places d.ran d.from d.to → ((j : Image) → Agrees j.code d.places → next_at j d.to ≡ next_at i d.to)
    → d.stop ≡ stop_at (next_at i d.to) → IsBurst d
is_burst i d leads alike stop = record { follows = λ j m. leads.follows j m.agrees; stops = λ j m. stop ∙ ap stop_at (sym (alike j m.agrees)) }
