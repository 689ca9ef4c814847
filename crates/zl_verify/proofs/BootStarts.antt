-- In a boot world each process is as a statement started it, and properly where its program is checked.
use Rattle.zl_code.proofs.Common.{are_misfits, boot_fault, started_process}
use Rattle.zl_verify.proofs.Common.{ANY, AllByRecursion, Bool, Boots, ChannelEnd, Condition, Entry, EventBody, Image, IsBooting, IsProperStart, IsSizedBoot}
use Rattle.zl_verify.proofs.Common.{IsSound, IsStarted, IsTrue, Library, List, None, Option, PairEnd, PortBody, Process, ProcessBody, Program, Settles, Some}
use Rattle.zl_verify.proofs.Common.{Statement, World, [], ap, are_declared, arith, body_of, boot_effect, boot_sound, cases_Bool, created_process, creates}
use Rattle.zl_verify.proofs.Common.{eqb-true, false, get, get-each, get-put, handles_given, has_child_job, has_child_process, if◌then◌else◌, inl, inr, is_among}
use Rattle.zl_verify.proofs.Common.{job_within, lives, may_boot, may_get_all, none-some, not-false, on_object, option_map, origin, origin_booting}
use Rattle.zl_verify.proofs.Common.{process_settled, program_in, program_of, refl, same_Some, setting, slice_get, still_booting, subst, sym, true, with_object}
use Rattle.zl_verify.proofs.Common.{without_others, word_of, ℕ, ◌+◌, ◌==◌, ◌∙◌, ◌∷◌, ◌≡◌, ◌≤◌, ◌⊎◌}
use Rattle.zl_code.proofs.CanStart.{CanStart, can_start}
use Rattle.zl_code.proofs.StepChanges.{no_child_booted, job_is_there}
use Rattle.zl_verify.specs.WakeLaws.{IsBooted}
use Rattle.zl_code.specs.declared.boot.Grant.{Grant}
use Rattle.zl_code.specs.declared.boot.Statement.TheVariants as statement
use Rattle.zl_verify.proofs.OwnEffect.{AreAlike, alike_then, same_objects, made_alike, pair_alike, neither_one, set_alike, same_policy}
use Rattle.zl_verify.proofs.Woken.{settled_allowed}
use Rattle.zl_verify.proofs.UnstartedRuns.{made_allows}
use Rattle.zl_code.proofs.ProgramsKept.{holding}

-- ---- handles as they are declared

-- the program is checked, and has this image
abbrev pub Checks : Option Program → Image → Type 0
Checks o i = o ≡ Some (record { checked = true; image = i })

none_misfits : (o : Option Program) (i : Image) (es : List Entry) → Checks o i → are_misfits o es ≡ false → are_declared i.starts es ≡ true
none_misfits o i es is fits = not-false (are_declared i.starts es) (subst (λ x. are_misfits x es ≡ false) is fits)

-- ---- what is true of each process within a boot

-- q is as it was started; by a checked program with what that declares, in a job that allows what it needs
record IsWellBooted (lib : Library) (w : World) (p : ℕ) (q : Process) : Type 0 where
  booted : IsBooted lib q
  declared : (i : Image) → Checks (slice_get lib booted.program) i → are_declared i.starts booted.handles ≡ true
  allowed : (i : Image) → Checks (slice_get lib booted.program) i → (c : Condition) → is_among i.needs c ≡ true → creates w p c ≡ None

-- so is each process
abbrev AreStarts : Library → World → Type 0
AreStarts lib w = (p : ℕ) (q : Process) → get w.processes p ≡ Some q → IsWellBooted lib w p q

-- where another world allows no less
still_well : (lib : Library) (w v : World) (p : ℕ) (q : Process) → ((c : Condition) → creates v p c ≡ creates w p c) → IsWellBooted lib w p q
    → IsWellBooted lib v p q
still_well lib w v p q same b = record { booted = b.booted; declared = b.declared; allowed = λ i is c named. same c ∙ b.allowed i is c named }

started_lives : (lib : Library) (q : Process) → IsBooted lib q → lives q.state ≡ true
started_lives lib q b = ap (λ (z : Process). lives z.state) b.made

-- ---- one statement

boot_alike : (lib : Library) (w : World) (s : Statement) (vs : List ℕ) → boot_fault lib w s ≡ None → AreAlike w w (boot_effect lib w s vs)
unfolding boot_effect
boot_alike lib w (statement.Process job program word handles) vs fine =
    let more : World = with_object w (ProcessBody job) in
    alike_then w w more _ (made_alike w w (ProcessBody job) (omega arith)) (same_objects w more _ refl)
boot_alike lib w (statement.Job parent) vs fine = made_alike w w (job_within parent (body_of w parent)) (omega arith)
boot_alike lib w (statement.Policy job condition action) vs fine =
    set_alike w w job (setting condition action) (neither_one (has_child_job w job) (has_child_process w job) (no_child_booted lib w job condition action fine))
boot_alike lib w statement.Event vs fine = made_alike w w EventBody (omega arith)
boot_alike lib w statement.Port vs fine = made_alike w w (PortBody []) (omega arith)
boot_alike lib w statement.Channel vs fine = pair_alike w w (ChannelEnd (w.next_koid + 1) []) (ChannelEnd w.next_koid []) (omega arith)
boot_alike lib w statement.Eventpair vs fine = pair_alike w w (PairEnd (w.next_koid + 1)) (PairEnd w.next_koid) (omega arith)

-- one that was there before the statement
before : (lib : Library) (w : World) (s : Statement) (vs : List ℕ) → boot_fault lib w s ≡ None → IsSound w → AreStarts lib w → (p : ℕ) (q : Process)
    → get w.processes p ≡ Some q → IsWellBooted lib (boot_effect lib w s vs) p q
before lib w s vs fine sound all p q there =
    let b = all p q there in
    still_well lib w (boot_effect lib w s vs) p q
    (same_policy w (boot_effect lib w s vs) p q sound there (started_lives lib q b.booted) (boot_alike lib w s vs fine)) b

-- the one that the statement makes
module _ (lib : Library) (w : World) (job program word : ℕ) (handles : List Grant) (vs : List ℕ) (few : word ≤ ANY)
    (fine : boot_fault lib w (statement.Process job program word handles) ≡ None)
    (may : IsTrue (may_boot lib w (statement.Process job program word handles) vs)) (sound : IsSound w) where
  abbrev new : Process
  new = started_process lib program (handles_given w.objects handles) vs word

  can : CanStart lib w job program handles
  can = can_start lib w job program word handles fine

  new_well : IsWellBooted lib (boot_effect lib w (statement.Process job program word handles) vs) w.next_koid new
  unfolding boot_effect with_object
  new_well = record {
    booted = record { program = program; handles = handles_given w.objects handles; values = vs; word = word; made = refl; free = may; small = few };
    declared = λ i is. none_misfits (slice_get lib program) i (handles_given w.objects handles) is can.declared;
    allowed = λ i is c named.
        made_allows lib w (boot_effect lib w (statement.Process job program word handles) vs) job program
        (sound.objects.below job (job_is_there (get w.objects job) can.in_job)) can.needs refl (record { checked = true; image = i }) is refl c named;
  }

statement_starts : (lib : Library) (w : World) (s : Statement) (vs : List ℕ) → word_of s ≤ ANY → boot_fault lib w s ≡ None → IsTrue (may_boot lib w s vs)
    → IsSound w → AreStarts lib w → AreStarts lib (boot_effect lib w s vs)
unfolding boot_effect with_object on_object
statement_starts lib w (statement.Process job program word handles) vs few fine may sound all p q there = by (cases_Bool (w.next_koid == p))
  where
    made : Process
    made = started_process lib program (handles_given w.objects handles) vs word

    after : World
    after = boot_effect lib w (statement.Process job program word handles) vs

    stands : (if w.next_koid == p then Some made else get w.processes p) ≡ Some q
    stands = sym (get-put w.processes w.next_koid made p) ∙ there

    by : ((w.next_koid == p) ≡ true) ⊎ ((w.next_koid == p) ≡ false) → IsWellBooted lib after p q
    by (inl here) =
        subst (λ k. IsWellBooted lib after k q) (eqb-true w.next_koid p here)
        (subst (IsWellBooted lib after w.next_koid) (same_Some made q (rw here at stands)) (new_well lib w job program word handles vs few fine may sound))
    by (inr other) = before lib w (statement.Process job program word handles) vs fine sound all p q (rw other at stands)
statement_starts lib w s vs few fine may sound all p q there = before lib w s vs fine sound all p q there

-- ---- all statements, and the end of the boot

boots_start : (lib : Library) (w : World) (statements : List Statement) (after : World) → AllByRecursion (λ s. word_of s ≤ ANY) statements → IsBooting w
    → AreStarts lib w → Boots lib w statements after → AreStarts lib after
boots_start lib w [] after few b all e = rw e all
boots_start lib w (s ∷ statements) after (one, few) b all (vs, fine, may, rest) =
    boots_start lib (boot_effect lib w s vs) statements after few (still_booting lib w s vs fine may b)
    (statement_starts lib w s vs one fine may b.sound all) rest

origin_starts : (lib : Library) → AreStarts lib origin
unfolding get
origin_starts lib p q there = absurd (none-some q there)

-- a process that was started is ready, and settling leaves it so
settled_starts : (lib : Library) (u v : World) → Settles u v → IsSound v → AreStarts lib u → AreStarts lib v
unfolding without_others
settled_starts lib u v (K, largest, is) sound all p q there =
    by (get u.processes p) refl (sym (get-each u.processes (process_settled K) p) ∙ (ap (λ (z : World). get z.processes p) (sym is) ∙ there))
  where
    by : (o : Option Process) → get u.processes p ≡ o → option_map (process_settled K p) o ≡ Some q → IsWellBooted lib v p q
    by None at e = cc
    by (Some x) at e =
        let b = all p x at in
        let same : x ≡ q = b.booted.made ∙ (sym (ap (process_settled K p) b.booted.made) ∙ same_Some (process_settled K p x) q e) in
        let well : IsWellBooted lib u p q = subst (IsWellBooted lib u p) same b in
        still_well lib u v p q (settled_allowed u v (K, largest, is) sound p q there (started_lives lib q well.booted)) well

boot_starts : (lib : Library) (statements : List Statement) (boot : World) → IsSizedBoot lib statements boot → AreStarts lib boot
boot_starts lib statements boot b =
    settled_starts lib b.boots.made boot b.boots.settles (boot_sound lib statements boot b.boots)
    (boots_start lib origin statements b.boots.made b.words origin_booting (origin_starts lib) b.boots.boots)

-- ---- the laws

still_runs : (lib : Library) (q : Process) (s : IsBooted lib q) → s.program ≡ q.program
still_runs lib q s = sym (ap (λ (z : Process). z.program) s.made ∙ holding lib s.handles s.values (created_process lib s.program))

module _ (lib : Library) (statements : List Statement) (boot : World) (b : IsSizedBoot lib statements boot) (p : ℕ) where
  pub is_booted : (q : Process) → get boot.processes p ≡ Some q → IsBooted lib q
  is_booted q there = (boot_starts lib statements boot b p q there).booted

  -- where its handles are as its image declares, and its job allows what the image needs, it started properly
  pub proper : (q : Process) (s : IsBooted lib q) → (i : Image) (checked : Bool) → slice_get lib s.program ≡ Some (record { checked = checked; image = i })
      → are_declared i.starts s.handles ≡ true → ((c : Condition) → IsTrue (is_among i.needs c) → creates boot p c ≡ None) → IsProperStart lib i boot p q
  proper q s i checked running declared allowed = record {
    checked = checked;
    running = ap (slice_get lib) (sym runs) ∙ running;
    handles = s.handles;
    values = s.values;
    word = s.word;
    made = subst (λ n. q ≡ started_process lib n s.handles s.values s.word) runs s.made;
    free = subst (λ n. may_get_all (created_process lib n) s.handles s.values ≡ true) runs s.free;
    declared = declared;
    small = s.small;
    allowed = allowed;
  }
    where
      runs : s.program ≡ q.program
      runs = still_runs lib q s

  -- a checked program declares its handles, and its job allows what it needs
  pub boot_is_proper : (i : Image) → program_of lib boot p ≡ Some (record { checked = true; image = i }) → IsStarted lib i boot p
  boot_is_proper i program = by (get boot.processes p) refl program
    where
      by : (o : Option Process) → get boot.processes p ≡ o → Checks (program_in lib o) i → IsStarted lib i boot p
      by None there is = cc
      by (Some q) there is =
          let well = boot_starts lib statements boot b p q there in
          let s = well.booted in
          let listed : Checks (slice_get lib s.program) i = ap (slice_get lib) (still_runs lib q s) ∙ is in
          record { process = q; there = there; proper = proper q s i true listed (well.declared i listed) (well.allowed i listed) }
