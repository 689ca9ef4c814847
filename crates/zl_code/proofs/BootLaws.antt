-- A boot makes a world or comes to a first fault, never both, whichever values new handles get.
use Rattle.zl_code.proofs.Common.{Body, Bool, BootCause, Boots, ChannelEnd, Entry, EventBody, FirstFault, IsBoot, IsBooted, IsTrue, Library, List, MOST_ITEMS}
use Rattle.zl_code.proofs.Common.{Map, None, Option, PairEnd, PortBody, Process, ProcessBody, Program, Settles-exists, Settles-unique, Some, Statement, World}
use Rattle.zl_code.proofs.Common.{[], and_from, and_parts, ap, arith, at_limit, at_statement, body_in, boot_effect, boot_fault, cases_Bool, cases_lt, cond}
use Rattle.zl_code.proofs.Common.{condition_number, created_process, eqb-true, false, false≢true, get, get-put, gives_no_handle, handles_given, has_child_job}
use Rattle.zl_code.proofs.Common.{has_child_process, has_key, if◌then◌else◌, inl, inr, is_allowing, is_job_below, is_process, is_process_of, job_within}
use Rattle.zl_code.proofs.Common.{keys_of, lacks_need, length, length-map, list_all, list_any, lives, map, may_boot, may_get, may_get_all, nat_lt, nat_tests}
use Rattle.zl_code.proofs.Common.{none-some, not, on_object, origin, policy_changed, policy_in, process_with, put, refl, same_Some, setting, settled_in}
use Rattle.zl_code.proofs.Common.{slice_get, state_passes, subst, suc, sym, take, true, unwrap_or, update, values_given, with_object, zero, ℕ, ◌&&◌, ◌+◌, ◌<◌}
use Rattle.zl_code.proofs.Common.{◌==◌, ◌∙◌, ◌∷◌, ◌≡◌, ◌≤◌, ◌⊎◌}
use Rattle.zl_code.specs.declared.boot.Statement.TheVariants as statement
use Rattle.zl_code.specs.declared.boot.BootCause.TheVariants as cause
use Rattle.zl_rights.specs.declared.policy.Action.TheVariants as action
use Rattle.zl_code.proofs.CanStart.{can_start, handles_at_most}

-- ---- worlds that differ by handles alone

-- no fault of a statement tells the worlds apart
record IsAlike (u v : World) : Type 0 where
  objects : u.objects ≡ v.objects
  next : u.next_koid ≡ v.next_koid
  pids : keys_of u.processes ≡ keys_of v.processes
  living : (k : ℕ) → is_process u lives k ≡ is_process v lives k

length-keys : {X : Type 0} (m : Map X) → length (keys_of m) ≡ length m
length-keys m = length-map m (λ e. e.0)

-- the keys after a put
keys_with : List ℕ → ℕ → List ℕ
keys_with [] k = k ∷ []
keys_with (j ∷ js) k = cond (j == k) (k ∷ js) (cond (nat_lt k j) (k ∷ j ∷ js) (j ∷ keys_with js k))

keys_of-put : {X : Type 0} (m : Map X) (k : ℕ) (x : X) → keys_of (put m k x) ≡ keys_with (keys_of m) k
unfolding put keys_with
keys_of-put [] k x = refl
keys_of-put (e ∷ m) k x =
    elim (e.0 == k) as (λ b. keys_of (cond b ((k, x) ∷ m) (cond (nat_lt k e.0) ((k, x) ∷ e ∷ m) (e ∷ put m k x)))
    ≡ cond b (k ∷ keys_of m) (cond (nat_lt k e.0) (k ∷ e.0 ∷ keys_of m) (e.0 ∷ keys_with (keys_of m) k))) [
      | true ↦ refl
      | false ↦ elim (nat_lt k e.0) as (λ b. keys_of (cond b ((k, x) ∷ e ∷ m) (e ∷ put m k x)) ≡ cond b (k ∷ e.0 ∷ keys_of m) (e.0 ∷ keys_with (keys_of m) k)) [
        | true ↦ refl
        | false ↦ ap (λ (js : List ℕ). e.0 ∷ js) (keys_of-put m k x)
      ]
    ]

-- a process that lives beside others
lives_beside : (m : Map Process) (n : ℕ) (q : Process) (k : ℕ) → lives q.state ≡ true
    → state_passes lives (get (put m n q) k) ≡ (if n == k then true else state_passes lives (get m k))
lives_beside m n q k alive = ap (state_passes lives) (get-put m n q k) ∙ by_test (n == k)
  where
    by_test : (b : Bool) → state_passes lives (if b then Some q else get m k) ≡ (if b then true else state_passes lives (get m k))
    by_test true = alive
    by_test false = refl

both_tests : {n m : ℕ} → n ≡ m → (k : ℕ) → {a b : Bool} → a ≡ b → (if n == k then true else a) ≡ (if m == k then true else b)
both_tests e k f = λ i. if e i == k then true else f i

same_jobs : (u v : World) → IsAlike u v → (job : ℕ) → has_child_job u job ≡ has_child_job v job
unfolding has_child_job
same_jobs u v a job = λ i. list_any (λ e. is_job_below job e.1.body) (a.objects i)

same_processes : (u v : World) → IsAlike u v → (job : ℕ) → has_child_process u job ≡ has_child_process v job
unfolding has_child_process
same_processes u v a job = λ i. list_any (λ e. is_process_of job e.1.body && a.living e.0 i) (a.objects i)

-- what a program needs
same_needs : (u v : World) → IsAlike u v → (job : ℕ) (program : Option Program) → lacks_need u job program ≡ lacks_need v job program
same_needs u v a job None = refl
same_needs u v a job (Some g) =
    λ i. g.checked
    && list_any (λ c. not (is_allowing (unwrap_or (get (policy_in (body_in (get (a.objects i) job))) (condition_number c)) action.Allow))) g.image.needs

module _ (lib : Library) where
  same_fault : (u v : World) → IsAlike u v → (s : Statement) → boot_fault lib u s ≡ boot_fault lib v s
  unfolding boot_fault
  same_fault u v a (statement.Process job program word handles) = rw (same_needs u v a job (slice_get lib program), a.objects, a.next, count) refl
    where
      count : length u.processes ≡ length v.processes
      count = sym (length-keys u.processes) ∙ ap length a.pids ∙ length-keys v.processes
  same_fault u v a (statement.Job parent) = rw (a.objects, a.next) refl
  same_fault u v a (statement.Policy job condition action) = rw (same_jobs u v a job, same_processes u v a job, a.objects) refl
  same_fault u v a _ = rw a.next refl

  -- a new object beside the others
  alike_with : (u v : World) → IsAlike u v → (b c : Body) → b ≡ c → IsAlike (with_object u b) (with_object v c)
  unfolding with_object is_process
  alike_with u v a b c e = record {
    objects = λ i. put (a.objects i) (a.next i) (record { body = e i; raised = 0 });
    next = ap (λ (k : ℕ). k + 1) a.next;
    pids = a.pids;
    living = a.living;
  }

  -- whichever values the handles of the statement get
  alike_after : (u v : World) → IsAlike u v → (s : Statement) (vs xs : List ℕ) → IsAlike (boot_effect lib u s vs) (boot_effect lib v s xs)
  unfolding boot_effect with_object on_object is_process
  alike_after u v a (statement.Process job program word handles) vs xs = record {
    objects = λ i. put (a.objects i) (a.next i) (record { body = ProcessBody job; raised = 0 });
    next = ap (λ (k : ℕ). k + 1) a.next;
    pids = keys_of-put u.processes u.next_koid _ ∙ (λ i. keys_with (a.pids i) (a.next i)) ∙ sym (keys_of-put v.processes v.next_koid _);
    living = λ k. lives_beside u.processes u.next_koid _ k refl ∙ (both_tests (a.next) k (a.living k) ∙ sym (lives_beside v.processes v.next_koid _ k refl));
  }
  alike_after u v a (statement.Job parent) vs xs = alike_with u v a _ _ (λ i. job_within parent (body_in (get (a.objects i) parent)))
  alike_after u v a (statement.Policy job condition action) vs xs =
      record { objects = λ i. update (a.objects i) job (policy_changed (setting condition action)); next = a.next; pids = a.pids; living = a.living }
  alike_after u v a statement.Event vs xs = alike_with u v a EventBody EventBody refl
  alike_after u v a statement.Port vs xs = alike_with u v a (PortBody []) (PortBody []) refl
  alike_after u v a statement.Channel vs xs =
      alike_with (with_object u (ChannelEnd (u.next_koid + 1) [])) (with_object v (ChannelEnd (v.next_koid + 1) []))
      (alike_with u v a _ _ (λ i. ChannelEnd (a.next i + 1) [])) _ _ (λ i. ChannelEnd (a.next i) [])
  alike_after u v a statement.Eventpair vs xs =
      alike_with (with_object u (PairEnd (u.next_koid + 1))) (with_object v (PairEnd (v.next_koid + 1)))
      (alike_with u v a _ _ (λ i. PairEnd (a.next i + 1))) _ _ (λ i. PairEnd (a.next i))

  -- ---- statements one after another

  -- the statements before number n lead from w to made, and number n has this fault there
  record FaultAt (w : World) (ss : List Statement) (n : ℕ) (c : BootCause) : Type 0 where
    made : World
    at : Statement
    before : Boots lib w (take n ss) made
    stands : slice_get ss n ≡ Some at
    faulty : boot_fault lib made at ≡ Some c

  -- the first statement has the fault
  at_first : (w : World) (s : Statement) (ss : List Statement) (c : BootCause) → FaultAt w (s ∷ ss) 0 c → boot_fault lib w s ≡ Some c
  at_first w s ss c f = rw (← f.before, same_Some s f.at f.stands) f.faulty

  -- a later one has it: the first can be done
  record FaultLater (w : World) (s : Statement) (ss : List Statement) (n : ℕ) (c : BootCause) : Type 0 where
    fine : boot_fault lib w s ≡ None
    values : List ℕ
    rest : FaultAt (boot_effect lib w s values) ss n c

  at_later : (w : World) (s : Statement) (ss : List Statement) (n : ℕ) (c : BootCause) → FaultAt w (s ∷ ss) (suc n) c → FaultLater w s ss n c
  at_later w s ss n c f = record {
    fine = f.before.1;
    values = f.before.0;
    rest = record { made = f.made; at = f.at; before = f.before.3; stands = f.stands; faulty = f.faulty };
  }

  none_at_all : (w : World) (n : ℕ) (c : BootCause) → FaultAt w [] n c → ⊥
  none_at_all w n c f = none-some f.at f.stands

  -- two of them are one
  same_place : (u v : World) → IsAlike u v → (ss : List Statement) (n m : ℕ) (c d : BootCause) → FaultAt u ss n c → FaultAt v ss m d → (n ≡ m) × (c ≡ d)
  same_place u v a [] n m c d f g = absurd (none_at_all u n c f)
  same_place u v a (s ∷ ss) zero zero c d f g = (refl, same_Some c d (sym (at_first u s ss c f) ∙ same_fault u v a s ∙ at_first v s ss d g))
  same_place u v a (s ∷ ss) zero (suc m) c d f g = absurd (none-some c (sym (at_later v s ss m d g).fine ∙ sym (same_fault u v a s) ∙ at_first u s ss c f))
  same_place u v a (s ∷ ss) (suc n) zero c d f g = absurd (none-some d (sym (at_later u s ss n c f).fine ∙ same_fault u v a s ∙ at_first v s ss d g))
  same_place u v a (s ∷ ss) (suc n) (suc m) c d f g =
      let x = at_later u s ss n c f in
      let y = at_later v s ss m d g in
      let rest = same_place (boot_effect lib u s x.values) (boot_effect lib v s y.values) (alike_after u v a s x.values y.values) ss n m c d x.rest y.rest in
      (ap suc rest.0, rest.1)

  -- where all can be done, there is none
  all_done : (u v w : World) → IsAlike u v → (ss : List Statement) (n : ℕ) (c : BootCause) → Boots lib u ss w → FaultAt v ss n c → ⊥
  all_done u v w a [] n c done f = none_at_all v n c f
  all_done u v w a (s ∷ ss) zero c (vs, fine, may, rest) f = none-some c (sym fine ∙ same_fault u v a s ∙ at_first v s ss c f)
  all_done u v w a (s ∷ ss) (suc n) c (vs, fine, may, rest) f =
      let y = at_later v s ss n c f in
      all_done (boot_effect lib u s vs) (boot_effect lib v s y.values) w (alike_after u v a s vs y.values) ss n c rest y.rest

  -- the worlds that they lead to are alike
  alike_made : (u v : World) → IsAlike u v → (ss : List Statement) (u2 v2 : World) → Boots lib u ss u2 → Boots lib v ss v2 → IsAlike u2 v2
  alike_made u v a [] u2 v2 e f = rw (e, f) a
  alike_made u v a (s ∷ ss) u2 v2 (vs, fine, may, rest) (xs, fine2, may2, rest2) =
      alike_made (boot_effect lib u s vs) (boot_effect lib v s xs) (alike_after u v a s vs xs) ss u2 v2 rest rest2

  -- ---- there is a world, or a fault

  -- the values from v on, one for each handle
  abbrev values_from : ℕ → List Entry → List ℕ
  values_from v [] = []
  values_from v (e ∷ es) = v ∷ values_from (v + 1) es

  -- where no handle stands at v or above, they may be given
  may_get_from : (q : Process) (v : ℕ) (es : List Entry) → 0 < v → v + length es ≤ 65536 → q.last ≡ None → ((k : ℕ) → IsTrue (has_key q.handles k) → k < v)
      → IsTrue (may_get_all q es (values_from v es))
  may_get_from q v [] above room none below = refl
  may_get_from q v (e ∷ es) above room none below =
      and_from (may_get q v) _ (rw (none, unused) (grind (arith, nat_tests, above, room)))
      (may_get_from (process_with v e q) (v + 1) es (omega arith) (omega (arith, room)) refl
      (λ k there. elim (cases_Bool (v == k)) as (λ _. k < v + 1) [
        | inl here ↦ omega (arith, eqb-true v k here)
        | inr apart ↦ omega (arith, below k (rw (get-put q.handles v e k, apart) at there))
      ]))
    where
      unused : has_key q.handles v ≡ false
      unused =
          elim (cases_Bool (has_key q.handles v)) as (λ _. has_key q.handles v ≡ false) [ inl there ↦ absurd (omega (arith, below v there)) | inr free ↦ free ]

  -- values for the handles of each statement
  abbrev first_values : World → Statement → List ℕ
  first_values w (statement.Process job program word handles) = values_from 1 (handles_given w.objects handles)
  first_values w _ = []

  chosen : (w : World) (s : Statement) → boot_fault lib w s ≡ None → IsTrue (may_boot lib w s (first_values w s))
  unfolding get
  chosen w (statement.Process job program word handles) fine =
      may_get_from (created_process lib program) 1 (handles_given w.objects handles) (omega arith)
      (omega (arith, (can_start lib w job program word handles fine).few, handles_at_most w.objects handles)) refl (λ k there. absurd (false≢true there))
  chosen w _ fine = refl

  abbrev Ends : World → List Statement → Type 0
  Ends w ss = ((made : World) × Boots lib w ss made) ⊎ ((n : ℕ) × (c : BootCause) × FaultAt w ss n c)

  ends : (w : World) (ss : List Statement) → Ends w ss
  ends w [] = inl (w, refl)
  ends w (s ∷ ss) = by_fault (boot_fault lib w s) refl (ends (boot_effect lib w s (first_values w s)) ss)
    where
      by_rest : boot_fault lib w s ≡ None → Ends (boot_effect lib w s (first_values w s)) ss → Ends w (s ∷ ss)
      by_rest fine (inl (made, rest)) = inl (made, (first_values w s, fine, chosen w s fine, rest))
      by_rest fine (inr (n, c, f)) = inr
          (suc n, c, record { made = f.made; at = f.at; before = (first_values w s, fine, chosen w s fine, f.before); stands = f.stands; faulty = f.faulty })

      by_fault : (o : Option BootCause) → boot_fault lib w s ≡ o → Ends (boot_effect lib w s (first_values w s)) ss → Ends w (s ∷ ss)
      by_fault None fine rest = by_rest fine rest
      by_fault (Some c) is rest = inr (0, c, record { made = w; at = s; before = refl; stands = refl; faulty = is })

-- ---- the laws

same : (w : World) → IsAlike w w
same w = record { objects = refl; next = refl; pids = refl; living = λ k. refl }

pub same_fault_after : (lib : Library) (before : List Statement) (u v : World) (s : Statement) → Boots lib origin before u → Boots lib origin before v
    → boot_fault lib u s ≡ boot_fault lib v s
same_fault_after lib before u v s x y = same_fault lib u v (alike_made lib origin origin (same origin) before u v x y) s

-- a first fault is that of a statement, or that of the limit
data Parts (lib : Library) (ss : List Statement) (limit n : ℕ) (c : BootCause) : Type 0 where
  of_statement : FaultAt lib origin ss n c → Parts lib ss limit n c
  of_limit : (made : World) → Boots lib origin ss made → MOST_ITEMS < limit → length ss ≡ n → cause.Limit ≡ c → Parts lib ss limit n c

parts : (lib : Library) (ss : List Statement) (limit n : ℕ) (c : BootCause) → FirstFault lib ss limit n c → Parts lib ss limit n c
parts lib ss limit _ _ (at_statement made n s c boots stands faulty) =
    of_statement (record { made = made; at = s; before = boots; stands = stands; faulty = faulty })
parts lib ss limit _ _ (at_limit made boots above) = of_limit made boots above refl refl

pub excluded : (lib : Library) (ss : List Statement) (limit : ℕ) (w : World) (n : ℕ) (c : BootCause) → IsBooted lib ss limit w → FirstFault lib ss limit n c → ⊥
excluded lib ss limit w n c booted first = by_parts (parts lib ss limit n c first)
  where
    by_parts : Parts lib ss limit n c → ⊥
    by_parts (of_statement f) = all_done lib origin origin booted.boots.made (same origin) ss n c booted.boots.boots f
    by_parts (of_limit made boots above is of) = omega (arith, booted.within, above)

pub one_fault : (lib : Library) (ss : List Statement) (limit n m : ℕ) (c d : BootCause) → FirstFault lib ss limit n c → FirstFault lib ss limit m d
    → (n ≡ m) × (c ≡ d)
one_fault lib ss limit n m c d first second = by_parts (parts lib ss limit n c first) (parts lib ss limit m d second)
  where
    by_parts : Parts lib ss limit n c → Parts lib ss limit m d → (n ≡ m) × (c ≡ d)
    by_parts (of_statement f) (of_statement g) = same_place lib origin origin (same origin) ss n m c d f g
    by_parts (of_statement f) (of_limit made boots above is of) = absurd (all_done lib origin origin made (same origin) ss n c boots f)
    by_parts (of_limit made boots above is of) (of_statement g) = absurd (all_done lib origin origin made (same origin) ss m d boots g)
    by_parts (of_limit made boots above is of) (of_limit made2 boots2 above2 is2 of2) = (sym is ∙ is2, sym of ∙ of2)

pub one_or_other : (lib : Library) (ss : List Statement) (limit : ℕ)
    → ((w : World) × IsBooted lib ss limit w) ⊎ ((n : ℕ) × (c : BootCause) × FirstFault lib ss limit n c)
one_or_other lib ss limit = by_end (ends lib origin ss)
  where
    by_limit : (made : World) → Boots lib origin ss made → (limit ≤ MOST_ITEMS) ⊎ (MOST_ITEMS < limit)
        → ((w : World) × IsBooted lib ss limit w) ⊎ ((n : ℕ) × (c : BootCause) × FirstFault lib ss limit n c)
    by_limit made boots (inl within) = inl (
      settled_in made (length (keys_of made.objects)),
      record { boots = record { made = made; boots = boots; settles = Settles-exists made }; within = within },
    )
    by_limit made boots (inr above) = inr (length ss, cause.Limit, at_limit made boots above)

    by_end : Ends lib origin ss → ((w : World) × IsBooted lib ss limit w) ⊎ ((n : ℕ) × (c : BootCause) × FirstFault lib ss limit n c)
    by_end (inl (made, boots)) = by_limit made boots (elim (cases_lt MOST_ITEMS limit) [ inl above ↦ inr above | inr within ↦ inl within ])
    by_end (inr (n, c, f)) = inr (n, c, at_statement f.made n f.at c f.before f.stands f.faulty)

-- ---- where handles get the same values, there is one boot world

both_same : (x y : List ℕ) (xs ys : List (List ℕ)) → x ∷ xs ≡ y ∷ ys → (x ≡ y) × (xs ≡ ys)
both_same x y xs ys e = (cc, cc)

one_made : (lib : Library) (w : World) (ss : List Statement) (u v : World) → (x : Boots lib w ss u) (y : Boots lib w ss v)
    → values_given lib w ss u x ≡ values_given lib w ss v y → u ≡ v
one_made lib w [] u v e f same = e ∙ sym f
one_made lib w (s ∷ ss) u v (vs, fine, may, rest) (xs, fine2, may2, rest2) same =
    let apart = both_same vs xs (values_given lib (boot_effect lib w s vs) ss u rest) (values_given lib (boot_effect lib w s xs) ss v rest2) same in
    subst (λ (zs : List ℕ). (y : Boots lib (boot_effect lib w s zs) ss v)
    → values_given lib (boot_effect lib w s vs) ss u rest ≡ values_given lib (boot_effect lib w s zs) ss v y → u ≡ v)
    apart.0 (λ y e. one_made lib (boot_effect lib w s vs) ss u v rest y e) rest2 apart.1

pub one_boot_world : (lib : Library) (ss : List Statement) (u v : World) (x : IsBoot lib ss u) (y : IsBoot lib ss v)
    → values_given lib origin ss x.made x.boots ≡ values_given lib origin ss y.made y.boots → u ≡ v
one_boot_world lib ss u v x y same = Settles-unique x.made u v x.settles (rw (one_made lib origin ss y.made x.made y.boots x.boots (sym same)) at y.settles)

-- ---- where no handle is given, none gets a value

no_choice : (lib : Library) (w : World) (s : Statement) (vs : List ℕ) → IsTrue (gives_no_handle s) → IsTrue (may_boot lib w s vs) → vs ≡ []
no_choice lib w s [] none may = refl
no_choice lib w (statement.Process job program word []) (v ∷ vs) none may = absurd cc
no_choice lib w (statement.Process job program word (g ∷ gs)) (v ∷ vs) none may = absurd (false≢true none)
no_choice lib w _ (v ∷ vs) none may = absurd (false≢true may)

no_values : (lib : Library) (w : World) (ss : List Statement) (u : World) → IsTrue (list_all gives_no_handle ss) → (x : Boots lib w ss u)
    → values_given lib w ss u x ≡ map (λ s. []) ss
no_values lib w [] u none x = refl
no_values lib w (s ∷ ss) u none (vs, fine, may, rest) =
    let both = and_parts (gives_no_handle s) (list_all gives_no_handle ss) none in
    λ i. no_choice lib w s vs both.0 may i ∷ no_values lib (boot_effect lib w s vs) ss u both.1 rest i

pub one_without_handles : (lib : Library) (ss : List Statement) (u v : World) → IsTrue (list_all gives_no_handle ss) → IsBoot lib ss u → IsBoot lib ss v → u ≡ v
one_without_handles lib ss u v none x y =
    one_boot_world lib ss u v x y (no_values lib origin ss x.made none x.boots ∙ sym (no_values lib origin ss y.made none y.boots))
