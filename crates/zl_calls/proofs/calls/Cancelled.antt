-- What wait_async and port_cancel find: the handles of the caller, and that where no packet passes a test none leaves the port.
use Rattle.zl_calls.proofs.Common.{Body, Bool, EndsWaits, Entry, Err, Handles, IsTrue, List, Map, None, Object, Objects, Ok, Option, Packet, PortCancelDoes}
use Rattle.zl_calls.proofs.Common.{Signals, Some, WAIT, WRITE, WaitAsyncDoes, [], ap, at_port, bits, cases_Bool, changed_port, changing_port, eqb-true, false}
use Rattle.zl_calls.proofs.Common.{filter, get, granted, inl, inr, is_from, is_keyed, is_mask, length, list_any, looked_up, may_register_here, none-some}
use Rattle.zl_calls.proofs.Common.{none_raised, not, option_map, packets_found, packets_of, port_at, refl, same_Some, source_of, sym, true, update, watching}
use Rattle.zl_calls.proofs.Common.{without_packets, ℕ, ◌==◌, ◌||◌, ◌∙◌, ◌∷◌, ◌≡◌, ◌⊎◌}
use Rattle.std.proofs.Math.Nat.{suc-ne-zero}
use Rattle.zl_rights.specs.declared.status.Status.TheVariants as status
use Rattle.zl_objects.specs.declared.object.Body.TheVariants as body

-- ---- what is counted

module _ {X : Type 0} (test : X → Bool) where
  -- where none is counted, none passes, and a filter takes none away
  none_counted : (xs : List X) → length (filter test xs) ≡ 0 → (list_any test xs ≡ false) × (filter (λ x. not (test x)) xs ≡ xs)
  none_counted [] none = (refl, refl)
  none_counted (x ∷ xs) none = by_test (cases_Bool (test x)) (λ less. none_counted xs less)
    where
      by_test : IsTrue (test x) ⊎ ((test x) ≡ false) → (length (filter test xs) ≡ 0 → (list_any test xs ≡ false) × (filter (λ y. not (test y)) xs ≡ xs))
          → (list_any test (x ∷ xs) ≡ false) × (filter (λ y. not (test y)) (x ∷ xs) ≡ x ∷ xs)
      by_test (inl passes) more = absurd (suc-ne-zero (length (filter test xs)) (rw passes at none))
      by_test (inr fails) more =
          let rest : (list_any test xs ≡ false) × (filter (λ y. not (test y)) xs ≡ xs) = more (rw fails at none) in
          rw fails (rest.0, ap (λ (ys : List X). x ∷ ys) rest.1)

  -- and one is counted, where one passes
  one_counted : (xs : List X) → (length (filter test xs) ≡ 0 → ⊥) → list_any test xs ≡ true
  one_counted [] some = absurd (some refl)
  one_counted (x ∷ xs) some = by_test (cases_Bool (test x)) (λ less. one_counted xs less)
    where
      by_test : IsTrue (test x) ⊎ ((test x) ≡ false) → ((length (filter test xs) ≡ 0 → ⊥) → list_any test xs ≡ true) → list_any test (x ∷ xs) ≡ true
      by_test (inl passes) more = rw passes refl
      by_test (inr fails) more = rw fails (more (λ none. some (rw fails none)))

-- the value at which a handle was found
pub found_value : (h value : ℕ) (e : Entry) (o : Option Entry)
    → ◌≡◌ {A = Option (ℕ × Entry)} (Some (value, e)) (option_map (λ (entry : Entry). (h, entry)) o) → value ≡ h
found_value h value e None is = absurd (none-some (value, e) (sym is))
found_value h value e (Some y) is = ap (λ (z : ℕ × Entry). z.0) (same_Some (value, e) (h, y) is)

-- the handle that was found there, if one was
pub found_entry : (h value : ℕ) (e : Entry) (o : Option Entry) → ◌≡◌ {A = Option (ℕ × Entry)} (Some (value, e)) (option_map (λ (entry : Entry). (h, entry)) o)
    → granted o [] 0 ≡ Ok e
found_entry h value e None is = absurd (none-some (value, e) (sym is))
found_entry h value e (Some y) is =
    let same : e ≡ y = ap (λ (z : ℕ × Entry). z.1) (same_Some (value, e) (h, y) is) in
    rw (none_raised (bits y.rights)) (ap (λ (x : Entry). Ok x) (sym same))

-- ---- wait_async

-- the wait was registered
pub wait_registered : (t : Handles) (r r2 : Objects) (pid h port key mask : ℕ) (watched receiver : Entry)
    → looked_up t.entries h [] WAIT ≡ Ok watched → port_at t.entries port WRITE ≡ Ok receiver
    → (value : ℕ) → value ≡ h → (m : Signals) → m.0 ≡ mask → is_mask mask ≡ true → may_register_here r ≡ true
    → r2 ≡ watching r (record { pid = pid; value = value; object = watched.koid; port = receiver.koid; key = key; mask = m })
    → WaitAsyncDoes pid h port key mask t r (Ok tt) t r2
wait_registered t r r2 pid h port key mask watched receiver is_watched is_receiver value same m masked is may objects = record {
  ok = record {
    unrefused = rw (is_watched, is_receiver, is, may) refl;
    watched = watched;
    is_watched = is_watched;
    receiver = receiver;
    is_receiver = is_receiver;
    table = refl;
    objects = objects
        ∙ (λ i. watching r (record { pid = pid; value = same i; object = watched.koid; port = receiver.koid; key = key; mask = record { 0 = masked i } }));
  };
  err = tt;
  same_table = tt;
  same_objects = tt;
}

-- ---- port_cancel

-- a port that no such packet is at is the same without them
uncancelled : (m : Map Object) (k : ℕ) (test : Packet → Bool) → length (filter test (packets_found (get m k))) ≡ 0
    → update m k (at_port (λ p. without_packets p test)) ≡ m
unfolding get update
uncancelled [] k test none = refl
uncancelled (e ∷ m) k test none = elim (cases_Bool (e.0 == k)) as (λ _. update (e ∷ m) k (at_port (λ p. without_packets p test)) ≡ e ∷ m) [
  | inl here ↦ rw here (λ i. (sym (eqb-true e.0 k here) i, record e.1 { body = by_body e.1.body (rw here at none) i }) ∷ m)
  | inr apart ↦ rw apart (ap (λ (rest : Map Object). e ∷ rest) (uncancelled m k test (rw apart at none)))
]
  where
    by_body : (b : Body) → length (filter test (packets_of b)) ≡ 0 → changed_port (λ p. without_packets p test) b ≡ b
    by_body (body.Port p) gone = ap (λ (xs : List Packet). body.Port (record p { packets = xs })) (none_counted test p.packets gone).1
    by_body _ gone = refl

-- the port and the handle source were found, and the packets counted
module _ (t : Handles) (r : Objects) (pid port source key : ℕ) (receiver named : Entry) (is_receiver : port_at t.entries port WRITE ≡ Ok receiver)
    (is_named : looked_up t.entries source [] 0 ≡ Ok named) where
  abbrev of_source : Packet → Bool
  of_source = is_from (source_of pid source named) key

  abbrev at_it : List Packet
  at_it = packets_found (get r.objects receiver.koid)

  abbrev packed : Objects
  packed = changing_port r receiver.koid (λ p. without_packets p of_source)

  -- neither wait nor packet was there
  pub none_cancelled : (r2 : Objects) → list_any (is_keyed pid source receiver.koid key) r.waits ≡ false → length (filter of_source at_it) ≡ 0 → r2 ≡ packed
      → PortCancelDoes pid port source key t r (Err status.NotFound) t r2
  none_cancelled r2 none gone objects = record {
    ok = tt;
    err = rw (is_receiver, is_named, none, (none_counted of_source at_it gone).0) refl;
    same_table = refl;
    same_objects = objects ∙ ap (λ (os : Map Object). record r { objects = os }) (uncancelled r.objects receiver.koid of_source gone);
  }

  -- one was there, and they are gone
  pub some_cancelled : (r2 : Objects) → (list_any (is_keyed pid source receiver.koid key) r.waits || list_any of_source at_it) ≡ true
      → EndsWaits (is_keyed pid source receiver.koid key) packed r2 → PortCancelDoes pid port source key t r (Ok tt) t r2
  some_cancelled r2 some ends = record {
    ok = record {
      unrefused = rw (is_receiver, is_named, some) refl;
      receiver = receiver;
      is_receiver = is_receiver;
      named = named;
      is_named = is_named;
      table = refl;
      ends = ends;
    };
    err = tt;
    same_table = tt;
    same_objects = tt;
  }

  -- what was found, as the code tells it
  pub found_some : (any : Bool) (count : ℕ) → any ≡ list_any (is_keyed pid source receiver.koid key) r.waits → count ≡ length (filter of_source at_it)
      → ((any ≡ false) × (count ≡ 0 → ⊥)) ⊎ (any ≡ true) → (list_any (is_keyed pid source receiver.koid key) r.waits || list_any of_source at_it) ≡ true
  found_some any count is counted (inl (none, some)) = rw (sym is ∙ none) (one_counted of_source at_it (λ gone. some (counted ∙ gone)))
  found_some any count is counted (inr one) = rw (sym is ∙ one) refl
