-- What a kill makes of the world: the definitions see the same of its processes, objects and list of the blocked.
use Rattle.zl_calls.proofs.Common.{AreBlocked, AreClosed, Blocked, Body, Bool, ClosesAllEnded, ClosesEnded, Ended, IsClosed, KILLED, List, Map, None, Object}
use Rattle.zl_calls.proofs.Common.{ObjectValue, Objects, Option, Process, ProcessValue, Some, StateValue, [], all_killed, ap, arith, body_in, body_value}
use Rattle.zl_calls.proofs.Common.{cases_Bool, each, ended_if, ended_within, eq-eqb, false, false≢true, filter, get, get-each, get_seen, if◌then◌else◌, inl}
use Rattle.zl_calls.proofs.Common.{inr, is_blocked, is_over, is_within_here, killed_body, killed_if, length, lives, lives_on, map, not, object_entry}
use Rattle.zl_calls.proofs.Common.{object_killed, object_value, one_more, option_map, process_entry, process_killed, process_value, refl, state_passes}
use Rattle.zl_calls.proofs.Common.{state_value, suc, sym, true, zero, ℕ, ◌<◌, ◌==◌, ◌||◌, ◌∙◌, ◌∷◌, ◌≡◌}
use Rattle.zl_code.specs.Jobs.{body_killed, is_under_by, is_within}
use Rattle.zl_code.specs.Tests.{parent_in}
use Rattle.zl_objects.specs.declared.object.Body.TheVariants as body
use Rattle.zl_objects.specs.Jobs.{is_below_by, parent_at, parent_held}
use Rattle.zl_calls.specs.calls.Task.{none_left}
use Rattle.zl_calls.proofs.waking.BlockedLists.{blocked_there}

-- ---- who stands below

module _ (m : Map Object) (t : ℕ) where
  same_parent : (k : ℕ) → parent_in (body_in (get (map object_entry m) k)) ≡ parent_at m k
  same_parent k = ap (λ (o : Option ObjectValue). parent_in (body_in o)) (get_seen m k) ∙ by_object (get m k)
    where
      by_body : (b : Body) → parent_in (Some (body_value b)) ≡ parent_held b
      by_body (body.Job job) = refl
      by_body _ = refl

      by_object : (o : Option Object) → parent_in (body_in (option_map object_value o)) ≡ (elim o as (λ _. ℕ) [ None ↦ 0 | Some x ↦ parent_held x.body ])
      by_object None = refl
      by_object (Some o) = by_body o.body

  same_under : (n k : ℕ) → is_under_by (map object_entry m) t n k ≡ is_below_by m t n k
  unfolding is_under_by is_below_by
  same_under zero k = refl
  same_under (suc n) k = rw (same_parent k, same_under n (parent_at m k)) refl

  -- 0 is no koid, and nothing stands below it
  pub same_within : (t == 0) ≡ false → (k : ℕ) → is_within (map object_entry m) t k ≡ is_within_here m t k
  unfolding is_within
  same_within some k = rw some (ap (λ (b : Bool). (k == t) || b) (same_under 16 k))

-- ---- objects

killed_seen : (b : Bool) (o : Object) → object_value (killed_if b o) ≡ object_killed b (object_value o)
killed_seen false o = refl
killed_seen true o = ap (λ x. record (object_value o) { body = x }) (by_body o.body)
  where
    by_body : (b : Body) → body_value (killed_body b) ≡ body_killed (body_value b)
    by_body (body.Job job) = refl
    by_body _ = refl

each_seen : (f g : ℕ → Bool) → ((k : ℕ) → f k ≡ g k) → (m : Map Object)
    → map object_entry (each (λ k. killed_if (f k)) m) ≡ each (λ k. object_killed (g k)) (map object_entry m)
unfolding each
each_seen f g same [] = refl
each_seen f g same (e ∷ m) = λ i. (e.0, (killed_seen (f e.0) e.1 ∙ ap (λ (b : Bool). object_killed b (object_value e.1)) (same e.0)) i) ∷ each_seen f g same m i

pub objects_killed : (m : Map Object) (t : ℕ) → (t == 0) ≡ false
    → map object_entry (all_killed m t) ≡ each (λ k. object_killed (is_within (map object_entry m) t k)) (map object_entry m)
unfolding all_killed
objects_killed m t some = each_seen (is_within_here m t) (is_within (map object_entry m) t) (λ k. sym (same_within m t some k)) m

-- ---- processes

module _ (ps : List Process) (r : Objects) (blocked : List ℕ) where
  -- those are left that are still blocked: who isn't among the killed
  pub blocked_left : (t : ℕ) (qs : List Process) → AreBlocked ps blocked
      → map process_entry qs ≡ each (λ k. process_killed (is_within (map object_entry r.objects) t k)) (map process_entry ps)
      → filter (λ k. state_passes is_blocked (get (map process_entry qs) k)) blocked
      ≡ filter (λ k. not (is_within (map object_entry r.objects) t k)) blocked
  blocked_left t qs are is = alike blocked (blocked_there ps blocked are)
    where
      within : ℕ → Bool
      within k = is_within (map object_entry r.objects) t k

      one : (k : ℕ) → state_passes is_blocked (get (map process_entry ps) k) ≡ true → state_passes is_blocked (get (map process_entry qs) k) ≡ not (within k)
      one k was =
          ap (λ m. state_passes is_blocked (get m k)) is
          ∙ (ap (state_passes is_blocked) (get-each (map process_entry ps) (λ j. process_killed (within j)) k)
          ∙ by_process (get (map process_entry ps) k) (within k) was)
        where
          by_state : (q : ProcessValue) (s : StateValue) → q.state ≡ s → is_blocked s ≡ true
              → is_blocked (if lives s then record q { state = Ended KILLED; handles = []; last = None } else q).state ≡ false
          by_state q (Blocked awaited ds) at h = refl
          by_state q _ at h = absurd (false≢true h)

          by_process : (o : Option ProcessValue) (b : Bool) → state_passes is_blocked o ≡ true
              → state_passes is_blocked (option_map (process_killed b) o) ≡ not b
          by_process None b h = absurd (false≢true h)
          by_process (Some q) true h = by_state q q.state refl h
          by_process (Some q) false h = h

      alike : (xs : List ℕ) → ((k : ℕ) → 0 < length (filter (λ q. q == k) xs) → state_passes is_blocked (get (map process_entry ps) k) ≡ true)
          → filter (λ k. state_passes is_blocked (get (map process_entry qs) k)) xs ≡ filter (λ k. not (within k)) xs
      alike [] all = refl
      alike (x ∷ xs) all =
          let here : state_passes is_blocked (get (map process_entry qs) x) ≡ not (within x) = one x (all x (rw (eq-eqb x x refl) (omega arith))) in
          let rest = alike xs (λ k some. all k (longer k some)) in
          (λ i. if here i then x ∷ filter (λ k. state_passes is_blocked (get (map process_entry qs) k)) xs
          else filter (λ k. state_passes is_blocked (get (map process_entry qs) k)) xs)
          ∙ (λ i. if not (within x) then x ∷ rest i else rest i)
        where
          longer : (k : ℕ) → 0 < length (filter (λ q. q == k) xs) → 0 < length (filter (λ q. q == k) (x ∷ xs))
          longer k some = elim (cases_Bool (x == k)) as (λ _. 0 < length (filter (λ q. q == k) (x ∷ xs))) [
            | inl is2 ↦ rw is2 (omega arith)
            | inr other ↦ rw other some
          ]

-- one process: where it lives and is killed it has ended, and else it is as it was
killed_one : (r : Objects) (t : ℕ) (p p1 p2 : Process) (mid r2 : Objects) → p1 ≡ ended_within r t p → IsClosed p → ClosesEnded p1 mid p2 r2
    → ◌≡◌ {A = ℕ × ProcessValue} (process_entry p2) (p.pid, process_killed (is_within_here r.objects t p.pid) (process_value p))
killed_one r t p p1 p2 mid r2 is idle closes = by_life (lives (state_value p.state)) (is_within_here r.objects t p.pid) refl refl
  where
    over : p1 ≡ ended_if true p → lives (state_value p.state) ≡ true → (q1 q2 : Process) (a b : Objects) → q1 ≡ p1 → ClosesEnded q1 a q2 b
        → ◌≡◌ {A = ℕ × ProcessValue} (process_entry q2) (p.pid, process_killed true (process_value p))
    over ended living q1 _ a b at (lives_on _ _ alive) = absurd (false≢true (sym (ap (λ (x : Process). lives (state_value x.state)) (at ∙ ended)) ∙ alive))
    over ended living q1 q2 a b at (is_over _ _ _ _ dead same entries last drained ends) =
        ap process_entry (same ∙ ap (λ (x : Process). record x { table = q2.table }) (at ∙ ended)) ∙ rw (living, entries, last) refl

    stays : p1 ≡ p → (q1 q2 : Process) (a b : Objects) → q1 ≡ p1 → ClosesEnded q1 a q2 b → ◌≡◌ {A = ℕ × ProcessValue} (process_entry q2) (process_entry p)
    stays as_was q1 _ a b at (lives_on _ _ alive) = ap process_entry (at ∙ as_was)
    stays as_was q1 q2 a b at (is_over _ _ _ _ dead same entries last drained ends) =
        let none = idle (sym (ap (λ (x : Process). lives (state_value x.state)) (at ∙ as_was)) ∙ dead) in
        ap process_entry (same ∙ ap (λ (x : Process). record x { table = q2.table }) (at ∙ as_was))
        ∙ (λ i. (p.pid, record (process_value p) { handles = (entries ∙ sym none.0) i; last = (last ∙ sym none.1) i }))

    by_life : (live inside : Bool) → lives (state_value p.state) ≡ live → is_within_here r.objects t p.pid ≡ inside
        → ◌≡◌ {A = ℕ × ProcessValue} (process_entry p2) (p.pid, process_killed (is_within_here r.objects t p.pid) (process_value p))
    by_life true true living in_it = rw in_it (over (is ∙ rw (living, in_it) refl) living p1 p2 mid r2 refl closes)
    by_life true false living out = rw out (stays (is ∙ rw (living, out) refl) p1 p2 mid r2 refl closes)
    by_life false inside dead at = stays (is ∙ rw dead refl) p1 p2 mid r2 refl closes ∙ (λ i. (p.pid, sym (untouched (is_within_here r.objects t p.pid)) i))
      where
        untouched : (b : Bool) → process_killed b (process_value p) ≡ process_value p
        untouched false = refl
        untouched true = rw dead refl

-- all of them
killed_all : (r : Objects) (t : ℕ) (ps qs ps2 : List Process) (mid r2 : Objects) → qs ≡ map (ended_within r t) ps → AreClosed ps → ClosesAllEnded qs mid ps2 r2
    → map process_entry ps2 ≡ each (λ k. process_killed (is_within_here r.objects t k)) (map process_entry ps)
unfolding each
killed_all r t [] qs ps2 mid r2 is idle (none_left _) = refl
killed_all r t [] _ _ mid r2 is idle (one_more p1 p2 qs ps2 _ _ _ one rest) = absurd cc
killed_all r t (p ∷ ps) qs ps2 mid r2 is idle (none_left _) = absurd cc
killed_all r t (p ∷ ps) _ _ mid r2 is idle (one_more p1 p2 qs ps2 _ between _ one rest) =
    let first : p1 ≡ ended_within r t p = cc in
    let others : qs ≡ map (ended_within r t) ps = cc in
    λ i. killed_one r t p p1 p2 mid between first (idle 0 p refl) one i ∷ killed_all r t ps qs ps2 between r2 others (λ n. idle (suc n)) rest i

pub processes_killed : (ps ps2 : List Process) (r mid r2 : Objects) (t : ℕ) → (t == 0) ≡ false → AreClosed ps
    → ClosesAllEnded (map (ended_within r t) ps) mid ps2 r2
    → map process_entry ps2 ≡ each (λ k. process_killed (is_within (map object_entry r.objects) t k)) (map process_entry ps)
processes_killed ps ps2 r mid r2 t some idle closes =
    killed_all r t ps (map (ended_within r t) ps) ps2 mid r2 refl idle closes
    ∙ (λ i. each (λ k. process_killed (sym (same_within r.objects t some k) i)) (map process_entry ps))
