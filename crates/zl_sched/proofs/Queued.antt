-- The ready list after a step: the code's is that of the definitions, holds each ready process that isn't out once, and has room.
use Rattle.zl_sched.proofs.Common.{Bool, Told, IsSound, IsTold, IsTrue, List, None, Option, Process, Some, World, ap, append-nil, arith, became_ready}
use Rattle.zl_sched.proofs.Common.{cases_Bool, drop, eq-eqb, eqb-true, false, false≢true, filter, filter-append, get, get_or, has_key, if◌then◌else◌, inl, inr}
use Rattle.zl_sched.proofs.Common.{is_in, is_process, is_ready, is_some, itself_ready, joins, length, length-append, length-filter_both, list_any, nat_lt}
use Rattle.zl_sched.proofs.Common.{nat_tests, none-some, none_filtered, not, one_if, pids_of, position, position_or_len, queued_after, ready_by_koid, refl}
use Rattle.zl_sched.proofs.Common.{requeued, slice_get, state_passes, still_ready, subst, suc, sym, take, take-append-drop, take_all, take_more}
use Rattle.zl_sched.proofs.Common.{times_in, true, ℕ, ◌&&◌, ◌++◌, ◌+◌, ◌-◌, ◌<◌, ◌==◌, ◌∙◌, ◌∷◌, ◌≡◌, ◌≤◌, []}
use Rattle.std.proofs.lemmas.Map.Views.{any-filter_same}
use Rattle.zl_calls.specs.declared.told.Told.TheVariants as said
use Rattle.zl_sched.proofs.Common.{LeaveTold, is_one_of}
use Rattle.zl_objects.specs.declared.below.TaskList.{TaskList}
use Rattle.zl_sched.proofs.ReadyChange.{IsChanged, OthersCome, StayReady, StayTold}
use Rattle.std.proofs.lemmas.Option.{slice_get_within, get_or_from_slice_get}
use Rattle.std.proofs.Math.Bool.{and-false}
use Rattle.zl_calls.proofs.lists.Positions.{times-append, times-filter}
use Rattle.zl_sched.proofs.Counted.{any_counted, key_once, no_longer}
use Rattle.zl_sched.proofs.Marked.{AreBut, no_mark}
use Rattle.zl_verify.proofs.OwnTable.{other_way}
use Rattle.zl_sched.proofs.Common.{joining, pids_told, others_of, ◌⊎◌}

-- ---- filters

-- what passes one test, of what passes another
pub both_filters : (f g : ℕ → Bool) (xs : List ℕ) → filter f (filter g xs) ≡ filter (λ x. g x && f x) xs
both_filters f g [] = refl
both_filters f g (x ∷ xs) = by_test (g x) (both_filters f g xs)
  where
    by_test : (b : Bool) → filter f (filter g xs) ≡ filter (λ y. g y && f y) xs
        → filter f (if b then x ∷ filter g xs else filter g xs) ≡ (if b && f x then x ∷ filter (λ y. g y && f y) xs else filter (λ y. g y && f y) xs)
    by_test true e = λ i. if f x then x ∷ e i else e i
    by_test false e = e

-- a list in which nothing stands is empty
pub none_counted : (xs : List ℕ) → ((k : ℕ) → ◌≡◌ {A = ℕ} (times_in k xs) 0) → xs ≡ []
none_counted [] none = refl
none_counted (x ∷ xs) none = absurd (omega (arith, none x, front))
  where
    front : times_in x (x ∷ xs) ≡ 1 + times_in x xs
    front = rw (eq-eqb x x refl) (omega arith)

-- tests that agree on what stands in the list
alike : (f g : ℕ → Bool) (xs : List ℕ) → ((k : ℕ) → 0 < times_in k xs → f k ≡ g k) → filter f xs ≡ filter g xs
alike f g [] same = refl
alike f g (x ∷ xs) same = rw (same x at_front) (by_test (g x) (alike f g xs (λ k some. same k (further k some (x == k)))))
  where
    at_front : 0 < times_in x (x ∷ xs)
    at_front = rw (eq-eqb x x refl) (omega arith)

    further : (k : ℕ) → 0 < times_in k xs → (c : Bool) → 0 < length (if c then x ∷ filter (λ q. q == k) xs else filter (λ q. q == k) xs)
    further k some true = omega arith
    further k some false = some

    by_test : (c : Bool) → filter f xs ≡ filter g xs → (if c then x ∷ filter f xs else filter f xs) ≡ (if c then x ∷ filter g xs else filter g xs)
    by_test true e = ap (λ (ys : List ℕ). x ∷ ys) e
    by_test false e = e

-- where the process isn't found, it doesn't stand
pub not_found : (p : ℕ) (xs : List ℕ) → position (λ q. q == p) xs ≡ None → times_in p xs ≡ 0
not_found p xs none = by_length (nat_lt (position_or_len (λ q. q == p) xs) (length xs)) refl none
  where
    past : (ys : List ℕ) → length ys ≤ position_or_len (λ q. q == p) ys → times_in p ys ≡ 0
    past [] all = refl
    past (y ∷ ys) all = by_test (y == p) all (past ys)
      where
        by_test : (b : Bool) → suc (length ys) ≤ (if not b then 1 + position_or_len (λ q. q == p) ys else 0)
            → (length ys ≤ position_or_len (λ q. q == p) ys → times_in p ys ≡ 0)
            → ◌≡◌ {A = ℕ} (length (if b then y ∷ filter (λ q. q == p) ys else filter (λ q. q == p) ys)) 0
        by_test true all rest = absurd (omega (arith, all))
        by_test false all rest = rest (omega (arith, all))

    by_length : (b : Bool) → nat_lt (position_or_len (λ q. q == p) xs) (length xs) ≡ b
        → (if b then Some (position_or_len (λ q. q == p) xs) else None) ≡ None → times_in p xs ≡ 0
    by_length true is none = absurd (none-some _ (sym none))
    by_length false is none = past xs (grind (arith, nat_tests, is))

-- ---- who is ready

-- who passes is there
ready_key : (w : World) (k : ℕ) → is_process w is_ready k ≡ true → IsTrue (has_key w.processes k)
unfolding is_process
ready_key w k ready = by_process (get w.processes k) ready
  where
    by_process : (o : Option Process) → state_passes is_ready o ≡ true → IsTrue (is_some o)
    by_process (Some x) h = refl
    by_process None h = absurd (cc)

-- the ready ones by koid are each ready process once
pub by_koid_ready : (w : World) → IsSound w → (k : ℕ) → times_in k (ready_by_koid w) ≡ (if is_process w is_ready k then 1 else 0)
by_koid_ready w sound k = times-filter (λ q. is_process w is_ready q) k (pids_of w) ∙ by_test (is_process w is_ready k) refl
  where
    by_test : (b : Bool) → is_process w is_ready k ≡ b → (if b then times_in k (pids_of w) else 0) ≡ (if b then 1 else 0)
    by_test true e = key_once k w.processes sound.handles.processes (ready_key w k e)
    by_test false e = refl

-- What holds before a step of p from w to after, with the marks out: p is ready and has no mark, each other ready process
-- without a mark stands in the list once, nothing else does, and who has a mark doesn't become ready.
pub record Before (w after : World) (p : ℕ) (list out : List ℕ) : Type 0 where
  pub ready : is_process w is_ready p ≡ true
  pub unmarked : is_in p out ≡ false
  pub others : (k : ℕ) → (k == p) ≡ false → times_in k list ≡ (if is_process w is_ready k && not (is_in k out) then 1 else 0)
  pub stay : (k : ℕ) → is_in k out ≡ true → is_process after is_ready k ≡ true → is_process w is_ready k ≡ true

module _ (w after : World) (p : ℕ) (list out : List ℕ) (b : Before w after p list out) where
  -- ---- what the code makes is what the definitions have

  listed_is : (q : ℕ) → (q == p) ≡ false → list_any (λ x. x == q) list ≡ (is_process w is_ready q && not (is_in q out))
  listed_is q apart = any_counted (λ x. x == q) list ∙ (ap (nat_lt 0) (b.others q apart) ∙ by_test (is_process w is_ready q && not (is_in q out)))
    where
      by_test : (c : Bool) → nat_lt 0 (if c then 1 else 0) ≡ c
      by_test true = refl
      by_test false = refl

  joins_is : (q : ℕ) → joins after p out (still_ready after p list) q ≡ (is_process after is_ready q && not (is_process w is_ready q))
  joins_is q = rw (any-filter_same (λ x. x == q) (λ x. is_process after is_ready x && not (x == p)) (is_process after is_ready q && not (q == p))
      (λ x here. ap (λ y. is_process after is_ready y && not (y == p)) (eqb-true x q here)) list)
      (by_tests (is_process after is_ready q) (is_process w is_ready q) (q == p) (is_in q out) (list_any (λ x. x == q) list)
      (λ here. ap (λ y. is_process w is_ready y) (eqb-true q p here) ∙ b.ready) (listed_is q) (b.stay q))
    where
      by_tests : (now was same marked listed : Bool) → (same ≡ true → was ≡ true) → (same ≡ false → listed ≡ (was && not marked))
          → (marked ≡ true → now ≡ true → was ≡ true) → (now && (not ((now && not same) && listed) && (not marked && not same))) ≡ (now && not was)
      by_tests false was same marked listed itself others stay = refl
      by_tests true was true true listed itself others stay = rw (itself refl) refl
      by_tests true was true false listed itself others stay = rw (itself refl) refl
      by_tests true true false true listed itself others stay = rw (others refl) refl
      by_tests true true false false listed itself others stay = rw (others refl) refl
      by_tests true false false true listed itself others stay = absurd (false≢true (stay refl refl))
      by_tests true false false false listed itself others stay = rw (others refl) refl

  pub requeued_is : requeued after p out list ≡ queued_after w p after list
  requeued_is = λ i. still_ready after p list ++ (filter (λ q. joins_is q i) (pids_of after) ++ itself_ready after p)

  -- ---- each ready process that isn't out is in it once

  itself_other : (k : ℕ) → (p == k) ≡ false → (c : Bool) → times_in k (if c then p ∷ [] else []) ≡ 0
  itself_other k apart true = rw apart refl
  itself_other k apart false = refl

  itself_here : (c : Bool) → times_in p (if c then p ∷ [] else []) ≡ (if c then 1 else 0)
  itself_here true = rw (eq-eqb p p refl) refl
  itself_here false = refl

  parts : (k : ℕ) → times_in k (queued_after w p after list)
      ≡ (if is_process after is_ready k && not (k == p) then times_in k list else 0)
      + ((if is_process after is_ready k && not (is_process w is_ready k) then times_in k (pids_of after) else 0) + times_in k (itself_ready after p))
  parts k = times-append k (still_ready after p list) _
      ∙ rw (
        times-append k (became_ready w after) (itself_ready after p),
        times-filter (λ q. is_process after is_ready q && not (q == p)) k list,
        times-filter (λ q. is_process after is_ready q && not (is_process w is_ready q)) k (pids_of after),
      ) refl

  at_itself : (now : Bool) → (if now && not true then times_in p list else 0) + ((if now && not true then times_in p
      (pids_of after) else 0) + (if now then 1 else 0)) ≡ (if now && not false then 1 else 0)
  at_itself true = refl
  at_itself false = refl

  at_other : (now was marked : Bool) (n m : ℕ) → n ≡ (if was && not marked then 1 else 0) → (now ≡ true → m ≡ 1) → (marked ≡ true → now ≡ true → was ≡ true)
      → (if now && not false then n else 0) + ((if now && not was then m else 0) + 0) ≡ (if now && not marked then 1 else 0)
  at_other false was marked n m counted once stay = refl
  at_other true true true n m counted once stay = omega (arith, counted)
  at_other true true false n m counted once stay = omega (arith, counted)
  at_other true false true n m counted once stay = absurd (false≢true (stay refl refl))
  at_other true false false n m counted once stay = omega (arith, counted, once refl)

  pub queued_ready : IsSound after → AreBut after out (queued_after w p after list)
  queued_ready sound k = elim (cases_Bool (k == p)) as (λ _. times_in k
      (queued_after w p after list) ≡ (if is_process after is_ready k && not (is_in k out) then 1 else 0)) [
        | inl here ↦ subst (λ (j : ℕ). times_in j (queued_after w p after list) ≡ (if is_process after is_ready j && not (is_in j out) then 1 else 0))
            (sym (eqb-true k p here))
            (parts p ∙ rw (eq-eqb p p refl, b.ready, b.unmarked, itself_here (is_process after is_ready p)) (at_itself (is_process after is_ready p)))
        | inr apart ↦ parts k ∙ rw (apart, itself_other k (other_way k p apart) (is_process after is_ready p))
            (at_other (is_process after is_ready k) (is_process w is_ready k) (is_in k out) (times_in k list) (times_in k (pids_of after)) (b.others k apart)
            (λ now. key_once k after.processes sound.handles.processes (ready_key after k now)) (b.stay k))
      ]

  -- ---- its room

  pub queued_room : IsSound after → ((q : ℕ) → get w.processes q ≡ None → is_process after is_ready q ≡ false)
      → ((q : ℕ) → get w.processes q ≡ None → is_in q out ≡ false)
      → ((q : ℕ) → times_in q out ≤ 1) → length (queued_after w p after list) + length out ≤ length w.processes
  queued_room sound fresh known once =
      omega (
        arith,
        no_longer w.processes (queued_after w p after list ++ out) (λ k. at_most k (get w.processes k) refl),
        length-append (queued_after w p after list) out,
      )
    where
      by_mark : (k : ℕ) (now marked : Bool) → is_process after is_ready k ≡ now → is_in k out ≡ marked
          → times_in k (queued_after w p after list ++ out) ≤ (if now then 1 else if marked then 1 else 0)
      by_mark k true true is m =
          let none : times_in k (queued_after w p after list) ≡ 0 = queued_ready sound k ∙ rw (is, m) refl in
          omega (arith, times-append k (queued_after w p after list) out, none, once k)
      by_mark k true false is m =
          let one : times_in k (queued_after w p after list) ≡ 1 = queued_ready sound k ∙ rw (is, m) refl in
          omega (arith, times-append k (queued_after w p after list) out, one, no_mark k out m)
      by_mark k false true is m =
          let none : times_in k (queued_after w p after list) ≡ 0 = queued_ready sound k ∙ rw is refl in
          omega (arith, times-append k (queued_after w p after list) out, none, once k)
      by_mark k false false is m =
          let none : times_in k (queued_after w p after list) ≡ 0 = queued_ready sound k ∙ rw is refl in
          omega (arith, times-append k (queued_after w p after list) out, none, no_mark k out m)

      one_each : (now marked : Bool) → (if now then 1 else if marked then 1 else 0) ≤ 1
      one_each true marked = omega arith
      one_each false true = omega arith
      one_each false false = omega arith

      at_most : (k : ℕ) (o : Option Process) → get w.processes k ≡ o → times_in k (queued_after w p after list ++ out) ≤ (if is_some o then 1 else 0)
      at_most k None e = by_mark k false false (fresh k e) (known k e)
      at_most k (Some x) e = omega
          (arith, by_mark k (is_process after is_ready k) (is_in k out) refl refl, one_each (is_process after is_ready k) (is_in k out))

  -- ---- where the others are as ready as before, but for who woke

  ready_itself : (k : ℕ) → (k == p) ≡ true → is_process w is_ready k ≡ true
  ready_itself k here = ap (λ (j : ℕ). is_process w is_ready j) (eqb-true k p here) ∙ b.ready

  in_list : (k : ℕ) → (k == p) ≡ false → 0 < times_in k list → is_process w is_ready k ≡ true
  in_list k apart some = by_test (is_process w is_ready k) (not (is_in k out)) (subst (λ (n : ℕ). 0 < n) (b.others k apart) some)
    where
      by_test : (c d : Bool) → 0 < (if c && d then 1 else 0) → c ≡ true
      by_test true d h = refl
      by_test false d h = absurd (omega (arith, h))

  still : StayReady w p after → still_ready after p list ≡ filter (λ q. not (q == p)) list
  still stay = alike (λ q. is_process after is_ready q && not (q == p)) (λ q. not (q == p)) list by_place
    where
      by_place : (k : ℕ) → 0 < times_in k list → (is_process after is_ready k && not (k == p)) ≡ not (k == p)
      by_place k some = elim (cases_Bool (k == p)) as (λ _. (is_process after is_ready k && not (k == p)) ≡ not (k == p)) [
        | inl here ↦ rw here (and-false (is_process after is_ready k))
        | inr apart ↦ rw (apart, stay k apart (in_list k apart some)) refl
      ]

  -- those that join are those that come, but for p
  joining_is : IsSound after → (who : List ℕ) → OthersCome w p after who → (k : ℕ)
      → times_in k (joining after p out (still_ready after p list)) ≡ times_in k (others_of p who)
  joining_is sound who come k =
      times-filter (λ q. joins after p out (still_ready after p list) q) k (pids_of after)
      ∙ (rw (joins_is k) (by_place (cases_Bool (k == p)))
      ∙ sym (times-filter (λ q. not (q == p)) k who))
    where
      none_more : (now was : Bool) (n : ℕ) → was ≡ true → ◌≡◌ {A = ℕ} (if now && not was then n else 0) 0
      none_more true true n is = refl
      none_more true false n is = absurd (false≢true is)
      none_more false was n is = refl

      one_more : (now was : Bool) (n : ℕ) → (now ≡ true → n ≡ 1) → ◌≡◌ {A = ℕ} (if now && not was then n else 0) (if now && not was then 1 else 0)
      one_more true true n once = refl
      one_more true false n once = once refl
      one_more false was n once = refl

      by_place : ((k == p) ≡ true) ⊎ ((k == p) ≡ false)
          → (if is_process after is_ready k && not (is_process w is_ready k) then times_in k (pids_of after) else 0)
          ≡ (if not (k == p) then times_in k who else 0)
      by_place (inl here) = none_more (is_process after is_ready k) (is_process w is_ready k) (times_in k (pids_of after)) (ready_itself k here)
          ∙ rw here refl
      by_place (inr apart) = one_more (is_process after is_ready k) (is_process w is_ready k) (times_in k (pids_of after))
          (λ now. key_once k after.processes sound.handles.processes (ready_key after k now)) ∙ (sym (come k apart) ∙ rw apart refl)

  -- those of the others leave that were killed
  left_told : (told : TaskList) → StayTold w p after told → LeaveTold after p list told
  left_told told stay whole = alike (λ q. is_process after is_ready q && not (q == p)) kept list (by_place whole)
      ∙ sym (both_filters (λ q. not (is_one_of q told.koids.items && not (is_process after is_ready q))) (λ q. not (q == p)) list)
    where
      kept : ℕ → Bool
      kept q = not (q == p) && not (is_one_of q told.koids.items && not (is_process after is_ready q))

      by_tests : (now listed : Bool) → (listed ≡ false → now ≡ true) → (now && true) ≡ not (listed && not now)
      by_tests true true stays = refl
      by_tests true false stays = refl
      by_tests false true stays = refl
      by_tests false false stays = absurd (false≢true (stays refl))

      by_place : told.whole ≡ true → (k : ℕ) → 0 < times_in k list → (is_process after is_ready k && not (k == p)) ≡ kept k
      by_place whole k some = elim (cases_Bool (k == p)) as (λ _. (is_process after is_ready k && not (k == p)) ≡ kept k) [
        | inl here ↦ rw here (and-false (is_process after is_ready k))
        | inr apart ↦ rw apart (by_tests (is_process after is_ready k) (is_one_of k told.koids.items)
            (λ out. stay whole k apart out (in_list k apart some)))
      ]

  pub told : IsSound after → (all_told : Told) → IsChanged w p after all_told → IsTold after p out list all_told
  told sound said.Same (stay, come, ready) =
      rw (none_counted _ (joining_is sound [] come), ready) (ap (λ (ks : List ℕ). ks ++ (p ∷ [])) (still stay))
  told sound (said.Woke who) (stay, come) = (still stay, λ all. joining_is sound (pids_told who) (come all))
  told sound (said.Killed killed) (stay, come) = (left_told killed.tasks stay, λ all. joining_is sound (pids_told killed.woke) (come all))

-- the last of a list in which it stands once stays where it is
pub last_stays : (p : ℕ) (xs : List ℕ) → times_in p (xs ++ (p ∷ [])) ≡ 1 → xs ++ (p ∷ []) ≡ filter (λ q. not (q == p)) (xs ++ (p ∷ [])) ++ (p ∷ [])
last_stays p xs once =
    let here : times_in p (p ∷ []) ≡ 1 = rw (eq-eqb p p refl) refl in
    let none : times_in p xs ≡ 0 = omega (arith, times-append p xs (p ∷ []), here, once) in
    sym (ap (λ (ys : List ℕ). ys ++ (p ∷ [])) (filter-append (λ q. not (q == p)) xs (p ∷ []) ∙ (rw (none_filtered p xs none, eq-eqb p p refl) (append-nil xs))))

pub last_stays_at : (p : ℕ) (xs : List ℕ) → 0 < length xs → get_or xs (length xs - 1) p ≡ p → times_in p xs ≡ 1 → xs ≡ filter (λ q. not (q == p)) xs ++ (p ∷ [])
last_stays_at p xs some is once =
    let ends : xs ≡ take (length xs - 1) xs ++ (p ∷ []) = sym (take_all (length xs - 1 + 1) xs (omega (arith, some)))
    ∙ (take_more xs (length xs - 1) p (omega (arith, some)) ∙ ap (λ (x : ℕ). take (length xs - 1) xs ++ (x ∷ [])) is) in
    subst (λ (ys : List ℕ). ys ≡ filter (λ q. not (q == p)) ys ++ (p ∷ [])) (sym ends)
    (last_stays p (take (length xs - 1) xs) (ap (times_in p) (sym ends) ∙ once))

-- one place more than are left without p
pub room_left : (p : ℕ) (xs : List ℕ) → times_in p xs ≡ 1 → length (filter (λ q. not (q == p)) xs) + 1 ≡ length xs
room_left p xs once =
    let both : times_in p xs + length (filter (λ q. not (q == p)) xs) ≡ length xs = length-filter_both (λ q. q == p) (λ q. not (q == p)) (λ q. refl) xs in
    omega (arith, both, once)

-- one element more passes, or doesn't
pub filtered_more : (f : ℕ → Bool) (n x : ℕ) (xs : List ℕ) → slice_get xs n ≡ Some x → filter f (take (n + 1) xs) ≡ filter f (take n xs) ++ one_if (f x) x
filtered_more f n x xs at =
    let bound : n < length xs = slice_get_within xs n x at in
    ap (filter f) (take_more xs n x bound ∙ ap (λ (y : ℕ). take n xs ++ (y ∷ [])) (get_or_from_slice_get xs n x x at))
    ∙ (filter-append f (take n xs) (x ∷ []) ∙ ap (λ (ys : List ℕ). filter f (take n xs) ++ ys) (alone (f x) refl))
  where
    alone : (b : Bool) → f x ≡ b → filter f (x ∷ []) ≡ one_if b x
    alone true e = rw e refl
    alone false e = rw e refl

-- no more pass among the first than among all
pub fewer_first : (f : ℕ → Bool) (n : ℕ) (xs : List ℕ) → length (filter f (take n xs)) ≤ length (filter f xs)
fewer_first f n xs =
    let both : length (filter f (take n xs)) + length (filter f (drop n xs)) ≡ length (filter f xs)
    = sym (length-append (filter f (take n xs)) (filter f (drop n xs)))
    ∙ (sym (ap length (filter-append f (take n xs) (drop n xs))) ∙ ap (λ (ys : List ℕ). length (filter f ys)) (take-append-drop n xs)) in
    omega (arith, both)
