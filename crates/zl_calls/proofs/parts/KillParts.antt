-- What a kill makes of the list of processes: koids stay, and each process that is over closes its handles in turn.
use Rattle.zl_calls.proofs.Common.{Bool, ClosesAllEnded, ClosesEnded, DESTROY, Entry, IsCallerStill, KeepsListed, LeavesListed, List, Map, None, Objects, Ok}
use Rattle.zl_calls.proofs.Common.{Option, Process, Releases, Result, Some, Status, TaskKillDoes, [], all_killed, all_koids, ap, arith, drop, each, ended_if}
use Rattle.zl_calls.proofs.Common.{ended_within, false, get, get-each, get_or, get_or_from_slice_get, has_key, is_blocked, is_over, is_some, is_within_here}
use Rattle.zl_calls.proofs.Common.{killed_if, killing, length, length-map, lives_on, looked_up, map, none-some, one_more, option_map, parts, process_entry}
use Rattle.zl_calls.proofs.Common.{refl, same_Some, set, slice_get, slice_get-map, state_passes, subst, suc, sym, take, true, zero, ℕ, ◌++◌, ◌+◌, ◌<◌, ◌∙◌, ◌∷◌}
use Rattle.zl_calls.proofs.Common.{◌≡◌, ◌≤◌}
use Rattle.zl_calls.specs.calls.Task.{none_left}
use Rattle.zl_calls.proofs.lists.FilterInPlace.{drop_here}
use Rattle.zl_rights.specs.declared.kind.Kind.TheVariants as kind
use Rattle.zl_calls.proofs.waits.WaitsLost.{listed_gone}
use Rattle.zl_code.proofs.Common.{drop_all, filter}

-- ---- koids stay

pub ends_pid : (killed : Bool) (p : Process) → (ended_if killed p).pid ≡ p.pid
ends_pid true p = refl
ends_pid false p = refl

pub ended_pid : (r : Objects) (task : ℕ) (p p2 : Process) → p2 ≡ ended_within r task p → p2.pid ≡ p.pid
ended_pid r task p p2 is = ap (λ (q : Process). q.pid) is ∙ ends_pid _ p

-- ---- a loop over all processes

module _ (first : List Process) (start : Objects) where
  -- so far the processes before the place have closed their handles: what becomes of the others becomes of all
  pub record IsClosing (i : ℕ) (ps : List Process) (r : Objects) : Type 0 where
    pub closes : (ps2 : List Process) (r2 : Objects) → ClosesAllEnded (drop i ps) r ps2 r2 → ClosesAllEnded first start (take i ps ++ ps2) r2

  module _ (i : ℕ) (ps : List Process) (r : Objects) (so_far : IsClosing i ps r) where
    pub closing_ends : length ps ≤ i → ClosesAllEnded first start ps r
    closing_ends long =
        subst (λ (qs : List Process). ClosesAllEnded first start qs r) (whole i ps long)
        (so_far.closes [] r (subst (λ (qs : List Process). ClosesAllEnded qs r [] r) (sym (drop_all i ps long)) (none_left r)))
      where
        whole : (i : ℕ) (ps : List Process) → length ps ≤ i → take i ps ++ [] ≡ ps
        whole zero [] long = refl
        whole (suc i) [] long = refl
        whole zero (p ∷ ps) long = absurd (omega (arith, long))
        whole (suc i) (p ∷ ps) long = ap (λ (qs : List Process). p ∷ qs) (whole i ps (omega (arith, long)))

    pub closing_goes_on : (d p p2 : Process) (r2 : Objects) → i < length ps → get_or ps i d ≡ p → ClosesEnded p r p2 r2 → IsClosing (i + 1) (set ps i p2) r2
    closing_goes_on d p p2 r2 within at closes = record {
      closes = λ qs r3 rest.
          let one : i + 1 ≡ suc i = omega arith in
          let behind : drop (i + 1) (set ps i p2) ≡ drop (suc i) ps = (λ j. drop (one j) (set ps i p2)) ∙ drop_set ps i in
          let stands : drop i ps ≡ p ∷ drop (suc i) ps = drop_here ps i d within ∙ ap (λ (x : Process). x ∷ drop (suc i) ps) at in
          let all : ClosesAllEnded (drop i ps) r (p2 ∷ qs) r3 =
          subst (λ (xs : List Process). ClosesAllEnded xs r (p2 ∷ qs) r3) (sym stands)
          (one_more p p2 (drop (suc i) ps) qs r r2 r3 closes (subst (λ (xs : List Process). ClosesAllEnded xs r2 qs r3) behind rest)) in
          subst (λ (xs : List Process). ClosesAllEnded first start xs r3) (sym (front ps i qs within one)) (so_far.closes (p2 ∷ qs) r3 all);
    }
      where
        drop_set : (xs : List Process) (i : ℕ) → drop (suc i) (set xs i p2) ≡ drop (suc i) xs
        drop_set [] i = refl
        drop_set (x ∷ xs) zero = refl
        drop_set (x ∷ xs) (suc i) = drop_set xs i

        front : (xs : List Process) (i : ℕ) (qs : List Process) → i < length xs → i + 1 ≡ suc i → take (i + 1) (set xs i p2) ++ qs ≡ take i xs ++ (p2 ∷ qs)
        front xs i qs within one = (λ j. take (one j) (set xs i p2) ++ qs) ∙ by_place xs i within
          where
            by_place : (xs : List Process) (i : ℕ) → i < length xs → take (suc i) (set xs i p2) ++ qs ≡ take i xs ++ (p2 ∷ qs)
            by_place [] i within = absurd (omega (arith, within))
            by_place (x ∷ xs) zero within = refl
            by_place (x ∷ xs) (suc i) within = ap (λ (ys : List Process). x ∷ ys) (by_place xs i (omega (arith, within)))

pub closing_starts : (ps : List Process) (r : Objects) → IsClosing ps r 0 ps r
closing_starts ps r = record { closes = λ ps2 r2 all. all }

-- ---- the objects

has_kept : {X : Type 0} (f : ℕ → X → X) (m : Map X) (k : ℕ) → has_key (each f m) k ≡ has_key m k
has_kept {X} f m k = ap (λ (o : Option X). is_some o) (get-each m f k) ∙ by_value (get m k)
  where
    by_value : (o : Option X) → is_some (option_map (f k) o) ≡ is_some o
    by_value None = refl
    by_value (Some x) = refl

-- nothing is new where a task was killed, and no wait is
pub listed_killed : (r r2 : Objects) (task : ℕ) → Releases [] (all_koids r.objects) (killing r task) r2 → LeavesListed r r2 → KeepsListed r r2
unfolding all_killed
listed_killed r r2 task releases left =
    let kept : KeepsListed (killing r task) r2 =
    listed_gone [] (all_koids r.objects) (killing r task) r2 releases (record { waits = left.waits; made = left.made; asleep = left.asleep }) in
    record {
      shrinks = λ k there. sym (has_kept (λ j. killed_if (is_within_here r.objects task j)) r.objects k) ∙ kept.shrinks k there;
      older = kept.older;
      listed = record { waits = kept.listed.waits; made = kept.listed.made; asleep = kept.listed.asleep };
    }

-- ---- the whole of it

module _ (ps : List Process) (r : Objects) (blocked : List ℕ) (place task : ℕ) (caller : Process) (is_caller : slice_get ps place ≡ Some caller) (p : Process)
    (read : p ≡ get_or ps place p) where
  is_it : p ≡ caller
  is_it = read ∙ get_or_from_slice_get ps place caller p is_caller

  pub killed_so : (named : Entry) → ◌≡◌ {A = Result Entry Status} (Ok named) (looked_up p.table.entries task (kind.Process ∷ kind.Job ∷ []) DESTROY)
      → (between r2 : Objects) (ps1 ps2 : List Process) (blocked2 : List ℕ) → ps1 ≡ map (ended_within r named.koid) ps
      → Releases [] (all_koids r.objects) (killing r named.koid) between → LeavesListed r between → ClosesAllEnded ps1 between ps2 r2
      → blocked2 ≡ filter (λ k. state_passes is_blocked (get (map process_entry ps1) k)) blocked
      → TaskKillDoes task caller (parts ps r blocked) (Ok tt) (parts ps2 r2 blocked2)
  killed_so named found between r2 ps1 ps2 blocked2 ended releases left closes list = record {
    ok = record {
      named = named;
      is_named = ap (λ (q : Process). looked_up q.table.entries task (kind.Process ∷ kind.Job ∷ []) DESTROY) (sym is_it) ∙ sym found;
      kills = record {
        between = between;
        marks = releases;
        closes = subst (λ (qs : List Process). ClosesAllEnded qs between ps2 r2) ended closes;
        blocked = list ∙ ap (λ (qs : List Process). filter (λ k. state_passes is_blocked (get (map process_entry qs) k)) blocked) ended;
        listed = listed_killed r between named.koid releases left;
      };
    };
    err = tt;
    refused = tt;
  }

-- ---- who is there still

as_many_closed : (ps ps2 : List Process) (r r2 : Objects) → ClosesAllEnded ps r ps2 r2 → length ps2 ≡ length ps
as_many_closed _ _ _ _ (none_left r) = refl
as_many_closed _ _ _ _ (one_more p p2 ps ps2 r mid r2 first rest) = ap suc (as_many_closed ps ps2 mid r2 rest)

still_one : (p p2 : Process) (r r2 : Objects) → ClosesEnded p r p2 r2 → p2.cpu ≡ p.cpu
still_one _ _ _ _ (lives_on p r lives) = refl
still_one _ _ _ _ (is_over p p2 r r2 over same none no_last drains ends) = ap (λ (q : Process). q.cpu) same

still_closed : (ps ps2 : List Process) (r r2 : Objects) → ClosesAllEnded ps r ps2 r2 → (i : ℕ) (p : Process) → slice_get ps i ≡ Some p
    → IsCallerStill p (slice_get ps2 i)
still_closed _ _ _ _ (none_left r) i p at = absurd (none-some p at)
still_closed _ _ _ _ (one_more q q2 ps ps2 r mid r2 first rest) zero p at = still_one q q2 r mid first ∙ ap (λ (x : Process). x.cpu) (same_Some q p at)
still_closed _ _ _ _ (one_more q q2 ps ps2 r mid r2 first rest) (suc i) p at = still_closed ps ps2 mid r2 rest i p at

pub same_cpu : (killed : Bool) (p : Process) → (ended_if killed p).cpu ≡ p.cpu
same_cpu true p = refl
same_cpu false p = refl

still_too : (p q : Process) → p.cpu ≡ q.cpu → (o : Option Process) → IsCallerStill p o → IsCallerStill q o
still_too p q same None still = absurd still
still_too p q same (Some x) still = still ∙ same

module _ (ps ps1 ps2 : List Process) (r : Objects) (koid : ℕ) (ended : ps1 ≡ map (ended_within r koid) ps) (between r2 : Objects)
    (closes : ClosesAllEnded ps1 between ps2 r2) where
  pub still_as_many : length ps2 ≡ length ps
  still_as_many = as_many_closed _ _ between r2 closes ∙ (ap (λ (qs : List Process). length qs) ended ∙ length-map ps (ended_within r koid))

  pub still_there : (place : ℕ) (caller : Process) → slice_get ps place ≡ Some caller → IsCallerStill caller (slice_get ps2 place)
  still_there place caller at =
      still_too (ended_within r koid caller) caller (same_cpu _ caller) (slice_get ps2 place)
      (still_closed ps1 ps2 between r2 closes place (ended_within r koid caller) (ap (λ (qs : List Process). slice_get qs place) ended
      ∙ (slice_get-map (ended_within r koid) ps place ∙ ap (λ (o : Option Process). option_map (ended_within r koid) o) at)))
