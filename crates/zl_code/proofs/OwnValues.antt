-- Values of a process, as handles enter and leave its table.
use Rattle.zl_rights.proofs.Common.{◌≡◌, ℕ, zero, suc, ◌+◌, ◌++◌, ◌-◌, ◌<◌, ◌≤◌, List, [], ◌∷◌, length, refl, sym, ap, ◌∙◌, Option, Some, None, inl, inr}
use Rattle.zl_rights.proofs.Common.{if◌then◌else◌, arith, IfSome, true, not, eq-eqb, lt-ltb, and_from, cases_Bool, is_some}
use Rattle.zl_rights.proofs.Common.{get, put, has_key, World, Process}
use Rattle.zl_rights.specs.declared.entry.Entry.{Entry}
use Rattle.zl_rights.proofs.MapLaws.{get-update}
use Rattle.zl_code.specs.Effects.{may_get, may_get_after, may_get_all, process_with, process_without, on_process, remove_all}
use Rattle.zl_code.proofs.Entering.{HaveRoom, length_put}
use Rattle.zl_rights.specs.Values.{Free, coming, given_back, offered, taken}
use Rattle.zl_rights.proofs.Values.{comes_again, free_inserted, free_removed, live_made, next_small, next_unused}
use Rattle.zl_rights.proofs.MapEdits.{sorted_put, sorted_without}
use Rattle.zl_code.specs.Own.{IsFreeOf, all_given, all_without, taken_all}

-- ---- one handle

-- a new handle may get the value that comes next
pub may_get_next : (q : Process) (f : Free) → IsFreeOf q f → length q.handles < 1024 → may_get q (offered f) ≡ true
may_get_next q f fine room = by_last q.last fine.again
  where
    by_last : (last : Option ℕ) → IfSome last (λ v. v ≡ offered f) → may_get_after last q (offered f) ≡ true
    by_last (Some v) is = eq-eqb (offered f) v (sym is)
    by_last None is =
        let small = next_small q.handles f fine.free room in
        and_from _ _ (lt-ltb 0 (offered f) small.0) (and_from _ _ (lt-ltb (offered f) 65536 (omega (arith, small.1)))
        (ap (λ o. not (is_some o)) (next_unused q.handles f fine.free)))

pub enters : (q : Process) (f : Free) (e : Entry) → IsFreeOf q f → length q.handles < 1024 → IsFreeOf (process_with (offered f) e q) (taken f)
enters q f e fine room = record { sorted = sorted_put q.handles (offered f) e fine.sorted; free = free_inserted q.handles f e fine.free room; again = tt }

pub leaves : (q : Process) (f : Free) (h : ℕ) → IsFreeOf q f → IsFreeOf (process_without h q) (if has_key q.handles h then given_back h f else f)
leaves q f h fine = elim (cases_Bool (has_key q.handles h)) as (λ _. IsFreeOf (process_without h q) (if has_key q.handles h then given_back h f else f)) [
  | inl there ↦ rw there (record {
    sorted = sorted_without q.handles h fine.sorted;
    free = free_removed q.handles f h fine.free fine.sorted there;
    again = sym (comes_again h f (live_made q.handles f fine.free h there).0);
  })
  | inr gone ↦ rw gone fine
]

-- ---- several

pub all_leave : (hs : List ℕ) (q : Process) (f : Free) → IsFreeOf q f → IsFreeOf (all_without hs q) (all_given hs q f)
unfolding all_without all_given
all_leave [] q f fine = fine
all_leave (h ∷ hs) q f fine = all_leave hs (process_without h q) _ (leaves q f h fine)

-- new handles may get the values that come
pub may_get_coming : (es : List Entry) (q : Process) (f : Free) → IsFreeOf q f → HaveRoom q es → may_get_all q es (coming (length es) f) ≡ true
unfolding coming
may_get_coming [] q f fine room = refl
may_get_coming (e ∷ es) q f fine room =
    let place : length q.handles < 1024 = omega (arith, room) in
    let longer : length (put q.handles (offered f) e) ≤ suc (length q.handles) = length_put q.handles (offered f) e in
    let rest : length es ≤ 1024 - length (put q.handles (offered f) e) = omega (arith, room, longer) in
    and_from _ _ (may_get_next q f fine place) (may_get_coming es (process_with (offered f) e q) (taken f) (enters q f e fine place) rest)

-- the process in the world without the handles
pub without_there : (w : World) (p : ℕ) (q : Process) (hs : List ℕ) → get w.processes p ≡ Some q → get (remove_all w p hs).processes p ≡ Some (all_without hs q)
unfolding remove_all on_process all_without
without_there w p q [] there = there
without_there w p q (h ∷ hs) there =
    without_there (on_process w p (process_without h)) p (process_without h q) hs
    (get-update w.processes p (process_without h) p ∙ rw (eq-eqb p p refl, there) refl)

-- ---- one value more

pub coming_more : (n : ℕ) (f : Free) → coming (n + 1) f ≡ coming n f ++ offered (taken_all n f) ∷ []
unfolding coming taken_all
coming_more zero f = refl
coming_more (suc n) f = let shift : suc n + 1 ≡ suc (n + 1) = omega arith in rw shift (ap (λ vs. offered f ∷ vs) (coming_more n (taken f)))

pub taken_more : (n : ℕ) (f : Free) → taken_all (n + 1) f ≡ taken (taken_all n f)
unfolding taken_all
taken_more zero f = refl
taken_more (suc n) f = let shift : suc n + 1 ≡ suc (n + 1) = omega arith in rw shift (taken_more n (taken f))

-- so many from a table from which no handle has gone
pub taken_fresh : (n made : ℕ) → taken_all n (record { freed = []; made = made }) ≡ record { freed = []; made = made + n }
unfolding taken_all
taken_fresh zero made = ap (λ m. record { freed = []; made = m }) (omega arith)
taken_fresh (suc n) made = taken_fresh n (made + 1) ∙ ap (λ m. record { freed = []; made = m }) (omega arith)
