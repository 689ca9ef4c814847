-- The handles of a statement enter the table of its process, one after another.
use Rattle.zl_calls.proofs.Common.{Bool, Cpu, Entry, Gives, Grant, Handles, Inserts, IsBare, IsMaking, IsNamed, IsTable, IsTrue, List, Made, Map, None, Object}
use Rattle.zl_calls.proofs.Common.{ObjectValue, Objects, Option, Process, ProcessValue, Some, World, [], allowed, and_from, and_parts, ap, arith, body_in}
use Rattle.zl_calls.proofs.Common.{body_value, coming, count_by, count_by-le-length, false, false≢true, get, get_or, get_seen, handle_given, handle_register}
use Rattle.zl_calls.proofs.Common.{handles_given, has_default_rights, held_once_more, holding, if_default, is_killed, is_some, length, length-append}
use Rattle.zl_calls.proofs.Common.{length-put_new, length-take-le, list_all, map, may_get, may_get_all, more_same, nat_tests, none-some, object_entry}
use Rattle.zl_calls.proofs.Common.{object_value, option_map, option_to_list, process_given, process_value, process_with, process_with_all, refl, register_set}
use Rattle.zl_calls.proofs.Common.{same_Some, seen, set_from, slice_set, subst, suc, sym, take, take_all, take_more, taken_all, then_some, true, with_handles}
use Rattle.zl_calls.proofs.Common.{zero, ℕ, ◌++◌, ◌+◌, ◌<◌, ◌==◌, ◌^◌, ◌∙◌, ◌∷◌, ◌≡◌, ◌≤◌}
use Rattle.zl_code.proofs.OwnValues.{coming_more, taken_more}
use Rattle.zl_rights.specs.Values.{offered, taken}
use Rattle.zl_calls.proofs.calls.Answered.{may_get_inserted}
use Rattle.zl_calls.proofs.objects.SameBodies.{found_updated, named_updated}
use Rattle.zl_calls.proofs.tables.Tables.{inserted_table, found_inserted}
use Rattle.zl_calls.proofs.lists.Updates.{update_unseen}
use Rattle.zl_calls.proofs.objects.Held.{held_value, holding_sound, more_handles}

-- ---- what the handle that is given names

-- the handle, from the object that was found
record IsAllowed (r : Objects) (g : Grant) (e : Entry) : Type 0 where
  named : IsNamed r.objects e
  given : handle_given g (body_in (get (map object_entry r.objects) g.koid)) ≡ Some e

allowed_is : (r : Objects) (g : Grant) (e : Entry) → allowed (map object_entry r.objects) g ≡ Some e → IsAllowed r g e
allowed_is r g e found = by_object (get r.objects g.koid) refl (rw (get_seen r.objects g.koid) at found)
  where
    by_rights : (o : Object) (x : Entry) → get r.objects g.koid ≡ Some o → handle_given g (Some (body_value o.body)) ≡ Some x → (b : Bool)
        → has_default_rights x ≡ b → then_some b x ≡ Some e → IsAllowed r g e
    by_rights o x is given false fits at = absurd (none-some e at)
    by_rights o x is given true fits at =
        let same : x ≡ e = same_Some x e at in
        record {
          named = subst (IsNamed r.objects) same (record {
            object = o;
            there = ap (λ (h : Entry). get r.objects h.koid) (sym (same_Some _ x given)) ∙ is;
            kind = ap (λ (h : Entry). h.kind) (sym (same_Some _ x given));
            rights = fits;
          });
          given = ap (λ (y : Option ObjectValue). handle_given g (body_in y)) (get_seen r.objects g.koid ∙ ap (option_map object_value) is)
              ∙ (given ∙ ap (λ (h : Entry). Some h) same);
        }

    by_handle : (o : Object) (x : Option Entry) → get r.objects g.koid ≡ Some o → handle_given g (Some (body_value o.body)) ≡ x → if_default x ≡ Some e
        → IsAllowed r g e
    by_handle o None is given at = absurd (none-some e at)
    by_handle o (Some x) is given at = by_rights o x is given (has_default_rights x) refl at

    by_object : (o : Option Object) → get r.objects g.koid ≡ o → if_default (handle_given g (body_in (option_map object_value o))) ≡ Some e → IsAllowed r g e
    by_object None is at = absurd (none-some e at)
    by_object (Some o) is at = by_handle o _ is refl at

-- ---- lists of handles, with one more

module _ (objects : Map ObjectValue) where
  given_more : (gs : List Grant) (g : Grant) (e : Entry) → handle_given g (body_in (get objects g.koid)) ≡ Some e
      → handles_given objects (gs ++ g ∷ []) ≡ handles_given objects gs ++ e ∷ []
  given_more [] g e is = rw is refl
  given_more (h ∷ gs) g e is =
      elim (handle_given h (body_in (get objects h.koid)))
      as (λ o. option_to_list o ++ handles_given objects (gs ++ g ∷ []) ≡ (option_to_list o ++ handles_given objects gs) ++ e ∷ []) [
        | None ↦ given_more gs g e is
        | Some x ↦ ap (λ (es : List Entry). x ∷ es) (given_more gs g e is)
      ]

  -- each handle of the list may be given
  pub one_allowed : (gs : List Grant) (i : ℕ) (d : Grant) → i < length gs → IsTrue (list_all (λ g. is_some (allowed objects g)) gs)
      → allowed objects (get_or gs i d) ≡ None → ⊥
  one_allowed [] i d lt all none = omega (arith, lt)
  one_allowed (g ∷ gs) zero d lt all none = false≢true (ap is_some (sym none) ∙ (and_parts (is_some (allowed objects g)) _ all).0)
  one_allowed (g ∷ gs) (suc i) d lt all none = one_allowed gs i d (omega (arith, lt)) (and_parts (is_some (allowed objects g)) _ all).1 none

-- a process gets one more
more_with_all : (es : List Entry) (vs : List ℕ) (e : Entry) (v : ℕ) (q : ProcessValue) → IsTrue (may_get_all q es vs)
    → process_with_all (es ++ e ∷ []) (vs ++ v ∷ []) q ≡ process_with v e (process_with_all es vs q)
more_with_all [] [] e v q may = refl
more_with_all [] (x ∷ vs) e v q may = absurd (false≢true may)
more_with_all (y ∷ es) [] e v q may = absurd (false≢true may)
more_with_all (y ∷ es) (x ∷ vs) e v q may = more_with_all es vs e v (process_with x y q) (and_parts (may_get q x) _ may).1

more_may_get : (es : List Entry) (vs : List ℕ) (e : Entry) (v : ℕ) (q : ProcessValue) → IsTrue (may_get_all q es vs)
    → IsTrue (may_get (process_with_all es vs q) v) → IsTrue (may_get_all q (es ++ e ∷ []) (vs ++ v ∷ []))
more_may_get [] [] e v q may next = and_from (may_get q v) true next refl
more_may_get [] (x ∷ vs) e v q may next = absurd (false≢true may)
more_may_get (y ∷ es) [] e v q may next = absurd (false≢true may)
more_may_get (y ∷ es) (x ∷ vs) e v q may next =
    let both = and_parts (may_get q x) _ may in
    and_from (may_get q x) _ both.0 (more_may_get es vs e v (process_with x y q) both.1 next)

-- a process with other registers may get the same values
other_cpu : (q : ProcessValue) (c : Cpu) (v : ℕ) → may_get (record q { cpu = c }) v ≡ may_get q v
other_cpu q c v = elim q.last as (λ o. may_get (record q { cpu = c; last = o }) v ≡ may_get (record q { last = o }) v) [ None ↦ refl | Some l ↦ refl ]

-- one register more
set_more : (n : ℕ) (vs : List ℕ) (v : ℕ) (registers : List ℕ) → set_from n (vs ++ v ∷ []) registers ≡ slice_set (set_from n vs registers) (n + length vs) v
set_more n [] v registers = let here : n + 0 ≡ n = omega arith in rw here refl
set_more n (x ∷ vs) v registers =
    let next : n + 1 + length vs ≡ n + length (x ∷ vs) = omega arith in rw (set_more (n + 1) vs v (slice_set registers n x), next) refl

registers_more : (vs : List ℕ) (v : ℕ) (registers : List ℕ)
    → with_handles (vs ++ v ∷ []) registers ≡ slice_set (with_handles vs registers) (handle_register (length vs)) v
registers_more [] v registers = refl
registers_more (x ∷ vs) v registers =
    let place : 2 + length vs ≡ handle_register (length (x ∷ vs)) = grind (arith, nat_tests) in
    set_more 2 vs v (slice_set registers 0 x) ∙ ap (λ (n : ℕ). slice_set (set_from 2 vs (slice_set registers 0 x)) n v) place

-- ---- one handle after another

pub bare_table : IsTable []
unfolding get
bare_table = record { sorted = refl; few = omega arith; values = λ value there. absurd (false≢true there) }

pub none_given : (old : Made) (p : Process) → IsMaking old.processes.items [] old.objects → IsBare p → Gives [] old p old p
unfolding get coming taken_all
none_given old p making bare = record {
  values = [];
  count = refl;
  chosen = refl;
  pid = refl;
  is = refl;
  table = rw bare.no_handles bare_table;
  few = rw bare.no_handles refl;
  own = refl;
  free = refl;
  untouched = λ none. refl;
  named = λ v e at. absurd (none-some e (rw bare.no_handles at at));
  making = rw bare.no_handles making;
  processes = refl;
  same = refl;
}

module _ (gs : List Grant) (old new : Made) (p p2 : Process) (so_far : Gives gs old p new p2) (place : length old.processes.items < 64) (fewer : length gs < 7)
    (g : Grant) (e : Entry) (found : allowed (seen new).objects g ≡ Some e)
    (value : ℕ) (t : Handles) (inserts : Inserts p2.table e value t) where
  abbrev ps : List Process
  ps = new.processes.items

  abbrev r : Objects
  r = new.objects

  abbrev q : ProcessValue
  q = process_value p

  abbrev es : List Entry
  es = handles_given (seen old).objects gs

  abbrev r3 : Objects
  r3 = holding r e.koid

  abbrev new3 : Made
  new3 = record new { objects = r3 }

  abbrev p3 : Process
  p3 = record p2 { cpu = register_set p2.cpu (handle_register (length gs)) value; table = t }

  count_more : length (gs ++ g ∷ []) ≡ length gs + 1
  count_more = length-append gs (g ∷ [])

  is_allowed : IsAllowed r g e
  is_allowed = allowed_is r g e found

  es_more : handles_given (seen old).objects (gs ++ g ∷ []) ≡ es ++ e ∷ []
  es_more = given_more (seen old).objects gs g e (ap (λ (w : World). handle_given g (body_in (get w.objects g.koid))) (sym so_far.same) ∙ is_allowed.given)

  next : IsTrue (may_get (process_with_all es so_far.values q) value)
  next =
      sym (other_cpu (process_with_all es so_far.values q) _ value)
      ∙ (ap (λ (x : ProcessValue). may_get x value) (sym so_far.is) ∙ may_get_inserted p2 p3 e value inserts)

  is_more : process_value p3 ≡ process_given (es ++ e ∷ []) (so_far.values ++ value ∷ []) q
  is_more =
      (λ i. record (process_value p2) { cpu = register_set p2.cpu (handle_register (length gs)) value; handles = inserts.entries i; last = inserts.last i })
      ∙ (ap (λ (x : ProcessValue). record (process_with value e x) { cpu = register_set x.cpu (handle_register (length gs)) value }) so_far.is
      ∙ rw (more_with_all es so_far.values e value q so_far.chosen, registers_more so_far.values value q.cpu.registers, so_far.count) refl)

  room : (o : Object) → get r.objects e.koid ≡ Some o → o.handles < 2 ^ 62
  room o at =
      let in_table : count_by (λ (h : ℕ × Entry). h.1.koid == e.koid) p2.table.entries ≤ length p2.table.entries =
      count_by-le-length (λ h. h.1.koid == e.koid) p2.table.entries in
      let counted = so_far.making.sound.counted e.koid o at in
      let processes : length ps ≡ length old.processes.items = ap length so_far.processes in
      omega (arith, in_table, counted, so_far.making.few e.koid, so_far.few, place, fewer, processes)

  pub one_given : Gives (gs ++ g ∷ []) old p new3 p3
  one_given = record {
    values = so_far.values ++ value ∷ [];
    count =
        let values : length (so_far.values ++ value ∷ []) ≡ length so_far.values + 1 = length-append so_far.values (value ∷ []) in
        let grants : length (gs ++ g ∷ []) ≡ length gs + 1 = length-append gs (g ∷ []) in
        omega (arith, so_far.count, values, grants);
    chosen = rw es_more (more_may_get es so_far.values e value q so_far.chosen next);
    pid = so_far.pid;
    is = rw es_more is_more;
    table = inserted_table p2.table e value t so_far.table (omega (arith, so_far.few, fewer)) inserts;
    few = rw (inserts.entries, length-put_new p2.table.entries value e inserts.unused, length-append gs (g ∷ [])) (omega (arith, so_far.few));
    own = rw (count_more, coming_more (length gs) p.table.free) (λ i. so_far.own i ++ (inserts.offered ∙ ap offered so_far.free) i ∷ []);
    free = inserts.free ∙ (ap taken so_far.free ∙ rw count_more (sym (taken_more (length gs) p.table.free)));
    untouched = λ none. absurd (omega (arith, none, length-append gs (g ∷ [])));
    named = λ v x at. named_updated held_once_more more_same r.objects e.koid x
        (found_inserted (IsNamed r.objects x) p2.table e value t inserts v x at (λ is. subst (IsNamed r.objects) is is_allowed.named) (so_far.named v x));
    making = record {
      sound = rw inserts.entries (holding_sound ps p2.table.entries r value e so_far.making.sound inserts.unused room);
      few = λ k. omega (arith, so_far.making.few k, more_handles ps p2.table.entries r value e k);
      unwatched = record { none = so_far.making.unwatched.none; none_made = so_far.making.unwatched.none_made };
      alive = λ j x at. found_updated held_once_more r.objects e.koid (is_killed x.body ≡ false) j x at
          (λ o before here is. subst (λ (y : Object). is_killed y.body ≡ false) is (rw (more_same o) (so_far.making.alive j o before)))
          (λ apart before. so_far.making.alive j x before);
    };
    processes = so_far.processes;
    same =
        ap (λ (os : Map ObjectValue). record (seen new) { objects = os }) (update_unseen object_value r.objects e.koid held_once_more held_value) ∙ so_far.same;
  }

-- a turn over the list
pub turn_given : (all : List Grant) (i : ℕ) (d : Grant) (old new : Made) (p p2 : Process) → i < length all → Gives (take i all) old p new p2
    → length old.processes.items < 64 → length all ≤ 7
    → (e : Entry) → allowed (seen new).objects (get_or all i d) ≡ Some e → (value : ℕ) (t : Handles) → Inserts p2.table e value t
    → Gives (take (i + 1) all) old p (record new { objects = holding new.objects e.koid })
    (record p2 { cpu = register_set p2.cpu (handle_register i) value; table = t })
turn_given all i d old new p p2 lt so_far place few e found value t inserts =
    let here : length (take i all) ≡ i = length-take-le i all (omega (arith, lt)) in
    rw (take_more all i d lt)
    (subst (λ (n : ℕ). Gives (take i all ++ get_or all i d ∷ []) old p (record new { objects = holding new.objects e.koid })
    (record p2 { cpu = register_set p2.cpu (handle_register n) value; table = t })) here
    (one_given (take i all) old new p p2 so_far place (omega (arith, here, lt, few)) (get_or all i d) e found value t inserts))

pub all_given : (all : List Grant) (i : ℕ) (old new : Made) (p p2 : Process) → length all ≤ i → Gives (take i all) old p new p2 → Gives all old p new p2
all_given all i old new p p2 past so_far = rw take_all at so_far
