-- A kill goes over the processes that were listed alone: what it makes of these is what it makes of all.
use Rattle.zl_calls.proofs.Common.{AreClosed, AreClosedBut, Bool, ClosesAllEnded, ClosesEnded, Drained, Entry, IfNone, IsClosed, IsTrue, List, Map, None}
use Rattle.zl_calls.proofs.Common.{Objects, Option, Process, Some, StandsBefore, [], ap, arith, below_all, below_parts, cases_Bool, cases_lt, ended_among}
use Rattle.zl_calls.proofs.Common.{ended_if, ended_within, eq-eqb, eqb-true, false, false≢true, get, get_or, get_or_from_slice_get, if◌then◌else◌, inl, inr}
use Rattle.zl_calls.proofs.Common.{is_over, is_sorted, is_within_here, length, list_any-append, lives, lives_on, map, nat_cmp, nat_tests, none-some}
use Rattle.zl_calls.proofs.Common.{none_drained, position, process_entry, process_value, refl, same_Some, set, slice_get, slice_get-get_or, sorted_parts}
use Rattle.zl_calls.proofs.Common.{state_value, subst, suc, sym, true, zero, ℕ, ◌&&◌, ◌++◌, ◌+◌, ◌-◌, ◌<◌, ◌==◌, ◌||◌, ◌∙◌, ◌∷◌, ◌≡◌, ◌≤◌, ◌⊎◌}
use Rattle.std.specs.List.Sorted.{IsNonDecreasing}
use Rattle.zl_objects.specs.Below.{HasTask, is_one_of}
use Rattle.zl_calls.proofs.lists.Positions.{IsFirst, first_at}
use Rattle.zl_calls.proofs.lists.Updates.{set_same}
use Rattle.zl_calls.proofs.processes.Idle.{get_placed}
use Rattle.zl_calls.proofs.waits.WaitsLost.{listed_same}
use Rattle.zl_calls.proofs.processes.Written.{pid_read}
use Rattle.zl_calls.proofs.parts.KillParts.{IsClosing, closing_ends, closing_goes_on, ends_pid}
use Rattle.zl_calls.proofs.parts.StartCalls.{below_at}
use Rattle.zl_calls.proofs.parts.StartParts.{read_at, stands_at}

-- ---- who ends

map_then : {A B C : Type 0} (g : B → C) (f : A → B) (h : A → C) → ((x : A) → g (f x) ≡ h x) → (xs : List A) → map g (map f xs) ≡ map h xs
map_then g f h same [] = refl
map_then g f h same (x ∷ xs) = λ i. same x i ∷ map_then g f h same xs i

module _ (r : Objects) (task : ℕ) where
  ended_twice : (p : Process) → ended_within r task (ended_within r task p) ≡ ended_within r task p
  ended_twice p = by (lives (state_value p.state) && is_within_here r.objects task p.pid) refl
    where
      by : (b : Bool) → lives (state_value p.state) && is_within_here r.objects task p.pid ≡ b
          → ended_within r task (ended_within r task p) ≡ ended_within r task p
      by true is = let e : ended_within r task p ≡ ended_if true p = ap (λ (b : Bool). ended_if b p) is in ap (ended_within r task) e ∙ sym e
      by false is = let e : ended_within r task p ≡ p = ap (λ (b : Bool). ended_if b p) is in ap (ended_within r task) e

  one_more_among : (ks : List ℕ) (k : ℕ) (p : Process) → ended_among r task (k ∷ []) (ended_among r task ks p) ≡ ended_among r task (ks ++ k ∷ []) p
  one_more_among ks k p = by (is_one_of p.pid ks) refl
    where
      joined : (b : Bool) → is_one_of p.pid ks ≡ b → ended_among r task (ks ++ k ∷ []) p ≡ (if b || is_one_of p.pid (k ∷ []) then ended_within r task p else p)
      joined b is =
          ap (λ (c : Bool). if c then ended_within r task p else p)
          (list_any-append (λ x. x == p.pid) ks (k ∷ []) ∙ ap (λ (c : Bool). c || is_one_of p.pid (k ∷ [])) is)

      again : (c : Bool) → (if c then ended_within r task (ended_within r task p) else ended_within r task p) ≡ ended_within r task p
      again true = ended_twice p
      again false = refl

      by : (b : Bool) → is_one_of p.pid ks ≡ b → ended_among r task (k ∷ []) (ended_among r task ks p) ≡ ended_among r task (ks ++ k ∷ []) p
      by true is =
          ap (λ (c : Bool). ended_among r task (k ∷ []) (if c then ended_within r task p else p)) is
          ∙ (again (is_one_of (ended_within r task p).pid (k ∷ [])) ∙ sym (joined true is))
      by false is = ap (λ (c : Bool). ended_among r task (k ∷ []) (if c then ended_within r task p else p)) is ∙ sym (joined false is)

  pub none_ended : (ps : List Process) → ps ≡ map (ended_among r task []) ps
  none_ended [] = refl
  none_ended (p ∷ ps) = λ i. p ∷ none_ended ps i

  pub one_ended : (ps now new : List Process) (ks : List ℕ) (k : ℕ) → now ≡ map (ended_among r task ks) ps → new ≡ map (ended_among r task (k ∷ [])) now
      → new ≡ map (ended_among r task (ks ++ k ∷ [])) ps
  one_ended ps now new ks k is more =
      more ∙ (ap (map (ended_among r task (k ∷ []))) is
      ∙ map_then (ended_among r task (k ∷ [])) (ended_among r task ks) (ended_among r task (ks ++ k ∷ [])) (one_more_among ks k) ps)

  -- who isn't to end stays
  spared : (p : Process) → is_within_here r.objects task p.pid ≡ false → ended_within r task p ≡ p
  spared p out = ap (λ (b : Bool). ended_if (lives (state_value p.state) && b) p) out ∙ none (lives (state_value p.state))
    where
      none : (b : Bool) → ended_if (b && false) p ≡ p
      none true = refl
      none false = refl

  module _ (ks : List ℕ) (has : HasTask r.objects task ks) where
    not_listed : (k : ℕ) → is_one_of k ks ≡ false → is_within_here r.objects task k ≡ false
    not_listed k out = by (is_within_here r.objects task k) refl
      where
        by : (b : Bool) → is_within_here r.objects task k ≡ b → is_within_here r.objects task k ≡ false
        by true is = absurd (false≢true (sym out ∙ has.within k is))
        by false is = is

    -- all who are to end are listed
    pub all_ended : (ps : List Process) → map (ended_among r task ks) ps ≡ map (ended_within r task) ps
    all_ended [] = refl
    all_ended (p ∷ ps) = λ i. one p (is_one_of p.pid ks) refl i ∷ all_ended ps i
      where
        one : (p : Process) (b : Bool) → is_one_of p.pid ks ≡ b → ended_among r task ks p ≡ ended_within r task p
        one p true is = ap (λ (c : Bool). if c then ended_within r task p else p) is
        one p false is = ap (λ (c : Bool). if c then ended_within r task p else p) is ∙ sym (spared p (not_listed p.pid is))

    -- so whoever isn't has no handle left to close, if that was so before
    pub others_closed : (ps qs : List Process) → AreClosed ps → qs ≡ map (ended_within r task) ps → AreClosedBut ks qs
    others_closed ps qs closed is n q at out = by_place ps n (ap (λ (xs : List Process). slice_get xs n) (sym is) ∙ at) (closed n)
      where
        by_place : (xs : List Process) (m : ℕ) → slice_get (map (ended_within r task) xs) m ≡ Some q → ((p : Process) → slice_get xs m ≡ Some p → IsClosed p)
            → IsClosed q
        by_place [] m here before = absurd (none-some q here)
        by_place (x ∷ xs) zero here before =
            let became : ended_within r task x ≡ q = same_Some (ended_within r task x) q here in
            let pid : q.pid ≡ x.pid = ap (λ (p : Process). p.pid) (sym became) ∙ ends_pid _ x in
            subst IsClosed (sym (spared x (not_listed x.pid (ap (λ (k : ℕ). is_one_of k ks) (sym pid) ∙ out))) ∙ became) (before x refl)
        by_place (x ∷ xs) (suc m) here before = by_place xs m here before

-- ---- the one process with a koid

module _ (f : Process → Process) (k : ℕ) where
  -- f at the process k
  abbrev at_koid : Process → Process
  at_koid p = if is_one_of p.pid (k ∷ []) then f p else p

  turned : (n : ℕ) → (n == k) ≡ false → (k == n) ≡ false
  turned n apart = grind (arith, nat_tests, apart)

  behind_it : (ps : List Process) → IsTrue (below_all nat_cmp k (map process_entry ps)) → ps ≡ map at_koid ps
  behind_it [] above = refl
  behind_it (p ∷ ps) above =
      let parts = below_parts k (process_entry p) (map process_entry ps) above in
      let less : k < p.pid = parts.0 in
      rw (turned p.pid (grind (arith, nat_tests, less))) (ap (λ (qs : List Process). p ∷ qs) (behind_it ps parts.1))

  pub missing : (ps : List Process) → get (map process_entry ps) k ≡ None → ps ≡ map at_koid ps
  unfolding get
  missing [] none = refl
  missing (p ∷ ps) none = elim (cases_Bool (p.pid == k)) as (λ _. p ∷ ps ≡ map at_koid (p ∷ ps)) [
    | inl here ↦ absurd (none-some (process_value p) (sym (rw here at none)))
    | inr apart ↦ rw (turned p.pid apart) (ap (λ (qs : List Process). p ∷ qs) (missing ps (rw apart at none)))
  ]

  set_first : (ps : List Process) (n : ℕ) (d : Process) → IsTrue (is_sorted nat_cmp (map process_entry ps)) → IsFirst (λ (p : Process). p.pid) ps k n d
      → set ps n (f (get_or ps n d)) ≡ map at_koid ps
  set_first [] n d sorted first = absurd (omega (arith, first.within))
  set_first (p ∷ ps) zero d sorted first =
      let key : p.pid ≡ k = eqb-true p.pid k first.here in
      rw (eq-eqb k p.pid (sym key)) (ap (λ (qs : List Process). f p ∷ qs)
      (behind_it ps (ap (λ (j : ℕ). below_all nat_cmp j (map process_entry ps)) (sym key) ∙ (sorted_parts (process_entry p) (map process_entry ps) sorted).0)))
  set_first (p ∷ ps) (suc n) d sorted first =
      rw (turned p.pid (first.before 0 (omega arith)))
      (ap (λ (qs : List Process). p ∷ qs) (set_first ps n d (sorted_parts (process_entry p) (map process_entry ps) sorted).1
      (record { within = omega (arith, first.within); here = first.here; before = λ j lt. first.before (suc j) (omega (arith, lt)) })))

  -- what was read at its place, changed and written there
  pub written_there : (ps : List Process) (n : ℕ) (p p2 : Process) → IsTrue (is_sorted nat_cmp (map process_entry ps))
      → Some n ≡ position (λ (q : Process). q.pid == k) ps → p ≡ get_or ps n p → p2 ≡ f p → set ps n p2 ≡ map at_koid ps
  written_there ps n p p2 sorted found read is =
      ap (λ (q : Process). set ps n q) (is ∙ ap f read) ∙ set_first ps n p sorted (first_at (λ (q : Process). q.pid) process_value ps k n p (sym found))

-- koids rise with the places
rising_at : (ps : List Process) → IsTrue (is_sorted nat_cmp (map process_entry ps)) → (a b : ℕ) (p q : Process) → a < b → slice_get ps a ≡ Some p
    → slice_get ps b ≡ Some q → p.pid < q.pid
rising_at [] sorted a b p q less at_a at_b = absurd (none-some p at_a)
rising_at (x ∷ ps) sorted zero zero p q less at_a at_b = absurd (omega (arith, less))
rising_at (x ∷ ps) sorted zero (suc b) p q less at_a at_b =
    subst (λ (y : Process). y.pid < q.pid) (same_Some x p at_a) (below_at x.pid ps b q (sorted_parts (process_entry x) (map process_entry ps) sorted).0 at_b)
rising_at (x ∷ ps) sorted (suc a) zero p q less at_a at_b = absurd (omega (arith, less))
rising_at (x ∷ ps) sorted (suc a) (suc b) p q less at_a at_b =
    rising_at ps (sorted_parts (process_entry x) (map process_entry ps) sorted).1 a b p q (omega (arith, less)) at_a at_b

-- no other process has the koid
no_other : (ps : List Process) → IsTrue (is_sorted nat_cmp (map process_entry ps)) → (a b : ℕ) (p q : Process) → slice_get ps a ≡ Some p
    → slice_get ps b ≡ Some q → p.pid ≡ q.pid → b ≤ a
no_other ps sorted a b p q at_a at_b same = elim (cases_lt a b) as (λ _. b ≤ a) [
  | inl less ↦ let rises : p.pid < q.pid = rising_at ps sorted a b p q less at_a at_b in absurd (omega (arith, rises, same))
  | inr later ↦ later
]

-- so nobody behind the place where it was found
pub none_after : (ps : List Process) → IsTrue (is_sorted nat_cmp (map process_entry ps)) → (k place : ℕ)
    → Some place ≡ position (λ (q : Process). q.pid == k) ps → (n : ℕ) (p : Process) → slice_get ps n ≡ Some p → p.pid ≡ k → n ≤ place
none_after ps sorted k place found n p at same =
    let first : IsFirst (λ (q : Process). q.pid) ps k place p = first_at (λ (q : Process). q.pid) process_value ps k place p (sym found) in
    no_other ps sorted place n (get_or ps place p) p (slice_get-get_or ps place p first.within) at
    (eqb-true (get_or ps place p).pid k first.here ∙ sym same)

-- nobody has the koid, if it isn't found
pub nobody : (ps : List Process) (k : ℕ) → IsTrue (is_sorted nat_cmp (map process_entry ps)) → get (map process_entry ps) k ≡ None → (n : ℕ) (p : Process)
    → slice_get ps n ≡ Some p → p.pid ≡ k → ⊥
nobody ps k sorted none n p at same = none-some (process_value p) (sym none ∙ (ap (get (map process_entry ps)) (sym same) ∙ get_placed ps sorted n p at))

-- whatever was found
pub whichever : {A : Type 0} (o : Option A) (P : Type 0) → P → IfNone o P
whichever None P p = p
whichever (Some x) P p = tt

-- ---- handles close

-- closing what is closed does nothing
stays_closed : (p : Process) (r : Objects) → IsClosed p → ClosesEnded p r p r
unfolding get
stays_closed p r closed = by (lives (state_value p.state)) refl
  where
    by : (b : Bool) → lives (state_value p.state) ≡ b → ClosesEnded p r p r
    by true alive = lives_on p r alive
    by false over =
        let none = closed over in
        is_over p p r r over refl none.0 none.1 (subst (λ (es : Map Entry). Drained es r r) (sym none.0) (none_drained r)) record {
          keeps = listed_same r;
          gone = λ x e own at names there. none-some e (subst (λ (es : Map Entry). get es x.value ≡ Some e) none.0 at);
        }

-- one that is among these stands at a place of the list
found_among : (k : ℕ) (ks : List ℕ) → IsTrue (is_one_of k ks) → (j : ℕ) × (j < length ks) × (k ≡ get_or ks j 0)
found_among k [] h = absurd (false≢true h)
found_among k (x ∷ ks) h = elim (cases_Bool (x == k)) as (λ _. (j : ℕ) × (j < length (x ∷ ks)) × (k ≡ get_or (x ∷ ks) j 0)) [
  | inl here ↦ (0, omega arith, sym (eqb-true x k here))
  | inr apart ↦ let rest = found_among k ks (rw apart at h) in (suc rest.0, omega (arith, rest.1), rest.2)
]

set_before : {X : Type 0} (xs : List X) (n m : ℕ) (x : X) → n < m → slice_get (set xs n x) m ≡ slice_get xs m
set_before [] n m x less = refl
set_before (y ∷ xs) zero zero x less = absurd (omega (arith, less))
set_before (y ∷ xs) zero (suc m) x less = refl
set_before (y ∷ xs) (suc n) zero x less = absurd (omega (arith, less))
set_before (y ∷ xs) (suc n) (suc m) x less = set_before xs n m x (omega (arith, less))

module _ (first : List Process) (start : Objects) (ks : List ℕ) where
  -- so far those before the place have closed their handles, among which are the first i listed
  pub record IsClosingEach (i from : ℕ) (ps : List Process) (r : Objects) : Type 0 where
    pub closing : IsClosing first start from ps r
    pub alike : (n : ℕ) → from ≤ n → slice_get ps n ≡ slice_get first n
    pub had_turn : (j n : ℕ) (p : Process) → j < i → slice_get first n ≡ Some p → p.pid ≡ get_or ks j 0 → n < from

  -- those between, of whom none is left to close
  skips : (ps : List Process) (r : Objects) (m from : ℕ) → IsClosing first start from ps r → from + m ≤ length ps
      → ((n : ℕ) (p : Process) → from ≤ n → n < from + m → slice_get ps n ≡ Some p → IsClosed p) → IsClosing first start (from + m) ps r
  skips ps r zero from closing within all = let same : from ≡ from + 0 = omega arith in subst (λ (n : ℕ). IsClosing first start n ps r) same closing
  skips ps r (suc m) from closing within all =
      let there : (x : Process) × (slice_get ps from ≡ Some x) = stands_at ps from (omega (arith, within)) in
      let p : Process = there.0 in
      let read : get_or ps from p ≡ p = get_or_from_slice_get ps from p p there.1 in
      let one : IsClosing first start (from + 1) (set ps from p) r =
      closing_goes_on first start from ps r closing p p p r (omega (arith, within)) read
      (stays_closed p r (all from p (omega arith) (omega arith) there.1)) in
      let same : (from + 1) + m ≡ from + suc m = omega arith in
      subst (λ (n : ℕ). IsClosing first start n ps r) same
      (skips ps r m (from + 1) (subst (λ (qs : List Process). IsClosing first start (from + 1) qs r) (set_same ps from p p refl (sym read)) one)
      (omega (arith, within)) (λ n q later before at. all n q (omega (arith, later)) (omega (arith, before)) at))

  module _ (rising : IsNonDecreasing ks) (others : AreClosedBut ks first) (i from : ℕ) (ps : List Process) (r : Objects)
      (so_far : IsClosingEach i from ps r) where
    reaches : (to : ℕ) → from ≤ to → to ≤ length ps
        → ((n j : ℕ) (p : Process) → n < to → slice_get ps n ≡ Some p → i ≤ j → j < length ks → p.pid ≡ get_or ks j 0 → ⊥) → IsClosing first start to ps r
    reaches to later within none =
        let m : (x : ℕ) × (from + x ≡ to) = (to - from, omega (arith, later)) in
        subst (λ (n : ℕ). IsClosing first start n ps r) m.1 (skips ps r m.0 from so_far.closing (omega (arith, within, m.1))
        (λ n p after before at. others n p (sym (so_far.alike n after) ∙ at) (unlisted n p after (omega (arith, before, m.1)) at)))
      where
        unlisted : (n : ℕ) (p : Process) → from ≤ n → n < to → slice_get ps n ≡ Some p → is_one_of p.pid ks ≡ false
        unlisted n p after before at = elim (cases_Bool (is_one_of p.pid ks)) as (λ _. is_one_of p.pid ks ≡ false) [
          | inl among ↦
              let found = found_among p.pid ks among in
              absurd (by_place found.0 found.1 found.2 (cases_lt found.0 i))
          | inr out ↦ out
        ]
          where
            by_place : (j : ℕ) → j < length ks → p.pid ≡ get_or ks j 0 → (j < i) ⊎ (i ≤ j) → ⊥
            by_place j inside same (inl had) =
                let past : n < from = so_far.had_turn j n p had (sym (so_far.alike n after) ∙ at) same in omega (arith, past, after)
            by_place j inside same (inr comes) = none n j p before at comes inside same

    pub closed_each : length ks ≤ i → ClosesAllEnded first start ps r
    closed_each all = elim (cases_lt (length ps) from) as (λ _. ClosesAllEnded first start ps r) [
      | inl past ↦ closing_ends first start from ps r so_far.closing (omega (arith, past))
      | inr later ↦
          closing_ends first start (length ps) ps r
          (reaches (length ps) later (omega arith) (λ n j p before at comes inside same. omega (arith, comes, inside, all))) (omega arith)
    ]

    -- the next isn't there, or had its turn
    pub passed_over : StandsBefore ps (get_or ks i 0) from → IsClosingEach (i + 1) from ps r
    passed_over missing = record {
      closing = so_far.closing;
      alike = so_far.alike;
      had_turn = λ j n p less at same. elim (cases_lt n from) as (λ _. n < from) [
        | inl before ↦ before
        | inr after ↦ elim (cases_lt j i) as (λ _. n < from) [
          | inl earlier ↦ so_far.had_turn j n p earlier at same
          | inr now ↦ let is : j ≡ i = omega (arith, less, now) in
              missing n p (so_far.alike n after ∙ at) (same ∙ ap (λ (x : ℕ). get_or ks x 0) is)
        ]
      ];
    }

    -- the next closes its handles
    pub one_closes : IsTrue (is_sorted nat_cmp (map process_entry ps)) → (place : ℕ) (p p2 : Process) (r2 : Objects) → from ≤ place
        → Some place ≡ position (λ (q : Process). q.pid == get_or ks i 0) ps → p ≡ get_or ps place p → ClosesEnded p r p2 r2
        → IsClosingEach (i + 1) (place + 1) (set ps place p2) r2
    one_closes sorted place p p2 r2 later found read closes = record {
      closing = closing_goes_on first start place ps r (reaches place later (omega (arith, within))
          (λ n j q before at comes inside_too same.
          let less : q.pid < p.pid = rising_at ps sorted n place q p before at here in
          let least : get_or ks i 0 ≤ get_or ks j 0 = rising i j 0 comes inside_too in
          omega (arith, less, least, same, is)))
          p p p2 r2 within (sym read) closes;
      alike = λ n after. set_before ps place n p2 (omega (arith, after)) ∙ so_far.alike n (omega (arith, after, later));
      had_turn = λ j n q less at same. elim (cases_lt n from) as (λ _. n < place + 1) [
        | inl before ↦ omega (arith, before, later)
        | inr after ↦ elim (cases_lt j i) as (λ _. n < place + 1) [
          | inl earlier ↦ let past : n < from = so_far.had_turn j n q earlier at same in omega (arith, past, later)
          | inr now ↦
              let last : j ≡ i = omega (arith, less, now) in
              let most : n ≤ place =
              none_after ps sorted (get_or ks i 0) place found n q (so_far.alike n after ∙ at) (same ∙ ap (λ (x : ℕ). get_or ks x 0) last) in
              omega (arith, most)
        ]
      ];
    }
      where
        within : place < length ps
        within = (first_at (λ (q : Process). q.pid) process_value ps (get_or ks i 0) place p (sym found)).within

        is : p.pid ≡ get_or ks i 0
        is = pid_read ps (get_or ks i 0) place p found read

        here : slice_get ps place ≡ Some p
        here = read_at ps place p within read
