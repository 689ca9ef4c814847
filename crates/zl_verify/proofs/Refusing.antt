-- What a refused call gives fits what its rule says, whatever the status that it may be refused with.
use Rattle.zl_verify.proofs.Common.{AbsVal, Bool, CallInstr, CallName, Cpu, Has, IsSound, Library, List, None, QueuesAreSized, Request, Site, Some, State}
use Rattle.zl_verify.proofs.Common.{Status, Table, Word, World, [], arith, both, chan_read_etc, chan_read_slots, eqb-true, false, false≢true, first_some}
use Rattle.zl_verify.proofs.Common.{gives_refused, handle_info, inl, inr, is_call_in_range, length, listed, may_want, narrowed_value, number_at, object_at}
use Rattle.zl_verify.proofs.Common.{refl, reg, register_count, room_in, site_of, slice_get, slice_index, slice_set, status_magnitude, subst, sym}
use Rattle.zl_verify.proofs.Common.{triple_results, true, uses_of, value_at, wait_poll, with_value, ℕ, ◌&&◌, ◌*◌, ◌+◌, ◌==◌, ◌∙◌, ◌∷◌, ◌≡◌, ◌≤◌, ◌⊎◌}
use Rattle.zl_code.specs.Calls.{wanted}
use Rattle.zl_code.specs.declared.history.Outcome.TheVariants as outcome
use Rattle.zl_rights.specs.declared.status.Status.TheVariants as status
use Rattle.zl_code.specs.declared.history.CallName.TheVariants as name
use Rattle.zl_verify.proofs.Sites.{call, AtSite, of_site}
use Rattle.zl_verify.proofs.Aligned.{places_end}
use Rattle.zl_verify.proofs.Fitting.{Fits, first_value, more_values}
use Rattle.zl_verify.proofs.Giving.{long_thrice, wide_thrice, status_few, are_zeroable, zeros_fit, no_triples_fit}
use Rattle.zl_verify.proofs.Calm.{signals_few, first_sizes}

-- a register for each value of the state, and no handle at 0
pub record IsOver (f : Table) (s : State) (xs : List ℕ) : Type 0 where
  pub long : length s ≡ register_count
  pub wide : length xs ≡ length s
  pub none : f 0 ≡ None

-- ---- a status alone

-- a status, and then what 0 fits
abbrev is_answer : List (ℕ × AbsVal) → Bool
is_answer [] = true
is_answer ((a, Word m) ∷ ds) = (m == 30) && are_zeroable ds
is_answer _ = false

alone_fits : (f : Table) (s : State) (xs : List ℕ) (ds : List (ℕ × AbsVal)) (n : ℕ) → n ≤ 30 → is_answer ds ≡ true → Fits f s xs ds (n ∷ []) f
alone_fits f s xs [] n few h = refl
alone_fits f s xs ((a, Word m) ∷ ds) n few h =
    let two = both (m == 30) (are_zeroable ds) h in
    let is : m ≡ 30 = eqb-true m 30 two.0 in
    (f, (rw is few, omega arith, refl), zeros_fit f (with_value s a (Word m)) (slice_set xs a n) ds two.1)
alone_fits f s xs ((a, _) ∷ ds) n few h = cc

narrowed_zero : (a : ℕ) (v : AbsVal) (imm : ℕ) → are_zeroable ((a, narrowed_value v imm) ∷ []) ≡ true
narrowed_zero a (Has maybe kind rights) imm = refl
narrowed_zero a _ imm = refl

-- ---- what may be answered

-- a listed answer of the call, or a want
abbrev pub MayAnswer : Library → World → ℕ → Request → Status → Type 0
MayAnswer lib w p r st = (first_some (listed lib w p r) ≡ Some (outcome.Answered st)) ⊎ (may_want r st ≡ true)

pub no_want : (a : Status) → wanted false a ≡ true → ⊥
no_want status.NoMemory e = false≢true e
no_want _ e = false≢true e

-- handle_info is never refused
info_answers : (lib : Library) (w : World) (p h : ℕ) (st : Status) → MayAnswer lib w p (handle_info h) st → ⊥
unfolding listed
info_answers lib w p h st (inl e) = cc
info_answers lib w p h st (inr e) = no_want st e

-- ---- with what a refusal tells

poll_fits : (f : Table) (s : State) (xs : List ℕ) (a d n : ℕ) (vs : List ℕ) → n ≤ 30 → first_value vs ≤ 0xffff_ffff
    → Fits f s xs ((a, Word 30) ∷ (d, Word 0xffff_ffff) ∷ []) (n ∷ vs) f
poll_fits f s xs a d n vs few le = (f, (few, omega arith, refl), (f, (le, omega arith, refl), refl))

sizes_fit : (f : Table) (s : State) (xs : List ℕ) (a d e n : ℕ) (vs : List ℕ) → n ≤ 30 → first_value vs ≤ 65536 → first_value (more_values vs) ≤ 64
    → Fits f s xs ((a, Word 30) ∷ (d, Word 65536) ∷ (e, Word 64) ∷ []) (n ∷ vs) f
sizes_fit f s xs a d e n vs few one two = (f, (few, omega arith, refl), (f, (one, omega arith, refl), (f, (two, omega arith, refl), refl)))

read_fits : (f : Table) (s : State) (xs : List ℕ) → IsOver f s xs → (a d e g places n : ℕ) (vs : List ℕ) → n ≤ 30 → first_value vs ≤ 65536
    → first_value (more_values vs) ≤ 64 → more_values (more_values vs) ≡ []
    → g + 3 * places ≤ register_count → Fits f s xs ((a, Word 30) ∷ (d, Word 65536) ∷ (e, Word 64) ∷ triple_results g places) (n ∷ vs) f
read_fits f s xs over a d e g places n vs few one two rest room = (
  f,
  (few, omega arith, refl),
  (
    f,
    (one, omega arith, refl),
    (
      f,
      (two, omega arith, refl),
      subst (λ l. Fits f s3 xs3 (triple_results g places) l f) (sym rest)
          (no_triples_fit places g f s3 xs3 (subst (λ m. g + 3 * places ≤ m) (sym (long ∙ over.long)) room) (wide3 ∙ (over.wide ∙ sym long)) over.none),
    ),
  ),
)
  where
    s3 : State
    s3 = with_value (with_value (with_value s a (Word 30)) d (Word 65536)) e (Word 64)

    xs3 : List ℕ
    xs3 = slice_set (slice_set (slice_set xs a n) d (first_value vs)) e (first_value (more_values vs))

    long : length s3 ≡ length s
    long = long_thrice s a d e (Word 30) (Word 65536) (Word 64)

    wide3 : length xs3 ≡ length xs
    wide3 = wide_thrice xs a d e n (first_value vs) (first_value (more_values vs))

module _ (lib : Library) (w : World) (p : ℕ) (sound : IsSound w) (sized : QueuesAreSized w) (st : Status) where
  poll_few : (h mask : ℕ) → (st : Status) → first_value (gives_refused w p (wait_poll h mask) st) ≤ 0xffff_ffff
  unfolding gives_refused
  poll_few h mask status.TimedOut = signals_few w sound (object_at w p h)
  poll_few h mask _ = omega arith

  -- the sizes of a message, or nothing
  abbrev AreSizes : List ℕ → Type 0
  AreSizes vs = (first_value vs ≤ 65536) × (first_value (more_values vs) ≤ 64) × (more_values (more_values vs) ≡ [])

  read_few : (h address room places : ℕ) → (st : Status) → AreSizes (gives_refused w p (chan_read_etc h address room places) st)
  unfolding gives_refused
  read_few h address room places status.BufferTooSmall = let few = first_sizes w sized p h in (few.0, few.1, refl)
  read_few h address room places _ = (omega arith, omega arith, refl)

  slots_few : (h address room array places : ℕ) → (st : Status) → AreSizes (gives_refused w p (chan_read_slots h address room array places) st)
  unfolding gives_refused
  slots_few h address room array places status.BufferTooSmall = let few = first_sizes w sized p h in (few.0, few.1, refl)
  slots_few h address room array places _ = (omega arith, omega arith, refl)

  -- ---- each call

  module _ (f : Table) (s : State) (xs : List ℕ) (over : IsOver f s xs) (bounds : List ℕ) (before : State) (c : Cpu) where
    -- what it tells fits
    abbrev IsTold : CallInstr → Site → Type 0
    IsTold x t = MayAnswer lib w p t.request st → Fits f s xs (uses_of bounds before x).results (status_magnitude st ∷ gives_refused w p t.request st) f

    -- a call that tells nothing but the status
    quiet : (x : CallInstr) → is_answer (uses_of bounds before x).results ≡ true → Fits f s xs (uses_of bounds before x).results (status_magnitude st ∷ []) f
    quiet x is = alone_fits f s xs (uses_of bounds before x).results (status_magnitude st) (status_few st) is

    fits_by : (n : CallName) (rs last : List ℕ) → is_call_in_range (call n rs last) ≡ true → AtSite c (call n rs last) (IsTold (call n rs last))
    unfolding uses_of gives_refused
    fits_by name.Dup rs last range = λ may.
        quiet (call name.Dup rs last) (narrowed_zero (slice_index rs 2) (value_at before (slice_index rs 1)) (number_at last 0 4))
    fits_by name.Replace rs last range = λ may.
        quiet (call name.Replace rs last) (narrowed_zero (slice_index rs 2) (value_at before (slice_index rs 1)) (number_at last 0 4))
    fits_by name.ChanReadEtc rs last range = λ may.
        let at : ℕ → ℕ = slice_index rs in
        let places : ℕ = number_at last 0 4 in
        let told : List ℕ = gives_refused w p (chan_read_etc (reg c (at 1)) (reg c (at 2)) (reg c (at 3)) places) st in
        let few : AreSizes told = read_few (reg c (at 1)) (reg c (at 2)) (reg c (at 3)) places st in
        read_fits f s xs over (at 0) (at 4) (at 5) (at 6) places (status_magnitude st) told (status_few st) few.0 few.1 few.2 (places_end rs last range)
    fits_by name.ChanReadSlots rs last range = λ may.
        let at : ℕ → ℕ = slice_index rs in
        let n : ℕ = number_at last 0 4 in
        let told : List ℕ = gives_refused w p (chan_read_slots (reg c (at 1)) (reg c (at 2)) (reg c (at 3)) n (room_in (slice_get c.slots n))) st in
        let few : AreSizes told = slots_few (reg c (at 1)) (reg c (at 2)) (reg c (at 3)) n (room_in (slice_get c.slots n)) st in
        sizes_fit f s xs (at 0) (at 4) (at 5) (status_magnitude st) told (status_few st) few.0 few.1
    fits_by name.HandleInfo rs last range = λ may. absurd (info_answers lib w p (reg c (slice_index rs 1)) st may)
    fits_by name.WaitPoll rs last range = λ may.
        let at : ℕ → ℕ = slice_index rs in
        let told : List ℕ = gives_refused w p (wait_poll (reg c (at 1)) (reg c (at 2))) st in
        poll_fits f s xs (at 0) (at 3) (status_magnitude st) told (status_few st) (poll_few (reg c (at 1)) (reg c (at 2)) st)
    fits_by n rs last range = λ may. quiet (call n rs last) refl

    pub refused_fits : (x : CallInstr) (t : Site) → site_of x c ≡ Some t → is_call_in_range x ≡ true → IsTold x t
    refused_fits x t site range = of_site c x t site (IsTold x) (fits_by x.name x.registers x.last range)
