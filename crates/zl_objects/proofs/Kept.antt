-- The invariant of the objects and of the list of all waits, after each change.
use Rattle.zl_objects.proofs.Common.{AreListed, Bool, IsKept, IsTrue, List, Listed, Map, Message, None, Object, OnErr, OnOk, Pair, Port, Result, SignalState}
use Rattle.zl_objects.proofs.Common.{Some, Wait, Watch, [], ap, arith, at_port, cases_Bool, entry_of, eqb-true, false, filter, find, get, has_key}
use Rattle.zl_objects.proofs.Common.{has_key-update, held_once_less, held_once_more, inl, inr, insert_entry, is_at, is_end_body, is_entry_there, is_port_at}
use Rattle.zl_objects.proofs.Common.{length, listed_at, listed_value, lookup, map, nat_cmp, not, option_map, raised_changed, received, refl, reserved_of, sent}
use Rattle.zl_objects.proofs.Common.{set_value, slept, stopped, sym, unwatched, update, wait_at, waits_in, watch_of, watched, with_place, without_first, ℕ}
use Rattle.zl_objects.proofs.Common.{◌&&◌, ◌++◌, ◌+◌, ◌-◌, ◌==◌, ◌∙◌, ◌∷◌, ◌≡◌, ◌≤◌}
use Rattle.zl_rights.specs.World.{Wait as WaitValue}
use Rattle.zl_objects.proofs.Listed.{found_listed, inserted_listed, left_listed, none_listed, unwatched_listed, updated_listed}
use Rattle.zl_objects.proofs.Listed.{updated_or_listed, watched_listed}
use Rattle.zl_objects.proofs.Lists.{first_map, none_first}
use Rattle.zl_objects.proofs.Rising.{Rises, goes_by_order}
use Rattle.zl_objects.proofs.Released.{IsLeft, waits_left, whole_left}
use Rattle.zl_objects.proofs.Tasks.{killed_kept, started_kept}
use Rattle.zl_objects.proofs.Whole.{below_first, changed_whole, pair_whole, end_of, gone_whole, inserted_whole, made_whole, less_whole, more_quiet, more_whole}
use Rattle.zl_objects.proofs.Whole.{none_out_whole, none_whole, port_or_same_whole, port_whole, received_whole, roomy_whole, slept_whole, sent_or_same_whole}
use Rattle.zl_objects.proofs.Whole.{stopped_whole, watched_whole}

pub none_kept : (m : Map Object) (next room : ℕ) (waits : List Listed) → m ≡ [] → waits ≡ [] → IsKept None m next room waits
none_kept m next room waits none no_waits = record { whole = none_whole m next room none; listed = none_listed waits m no_waits none }

module _ {waits : List Listed} where
  -- ---- one of the objects is written

  pub more_kept : (m n : Map Object) (next room k : ℕ) → IsKept None m next room waits → n ≡ update m k held_once_more
      → IsKept None n next room waits
  more_kept m n next room k kept is = record {
    whole = more_whole m n next room k kept.whole is;
    listed = updated_listed held_once_more (λ o. ap (λ (s : SignalState). s.waits) (more_quiet o)) waits m n k kept.listed is;
  }

  pub less_kept : {m n : Map Object} {next room room2 : ℕ} (k : ℕ) → IsKept None m next room waits → n ≡ update m k held_once_less → room2 ≡ room
      → IsKept None n next room2 waits
  less_kept {m} {n} {next} {room} {room2} k kept is same = record {
    whole = roomy_whole n n next room room2 (less_whole m n next room k kept.whole is) refl (omega (arith, same));
    listed = updated_listed held_once_less (λ o. refl) waits m n k kept.listed is;
  }

  pub slept_kept : (m n : Map Object) (next room k : ℕ) → IsKept None m next room waits → n ≡ update m k slept → IsKept None n next room waits
  slept_kept m n next room k kept is = record {
    whole = slept_whole m n next room k kept.whole is;
    listed = updated_listed slept (λ o. refl) waits m n k kept.listed is;
  }

  pub changed_kept : (m n : Map Object) (next room k clear set : ℕ) → IsKept None m next room waits → n ≡ update m k (raised_changed clear set)
      → IsKept None n next room waits
  changed_kept m n next room k clear set kept is = record {
    whole = changed_whole m n next room k clear set kept.whole is;
    listed = updated_listed (raised_changed clear set) (λ o. refl) waits m n k kept.listed is;
  }

  pub port_kept : (g : Port → Port) → ((p : Port) → (g p).reserved ≡ p.reserved) → (m n : Map Object) (next room k : ℕ)
      → IsKept None m next room waits → n ≡ update m k (at_port g) → IsKept None n next room waits
  port_kept g same m n next room k kept is = record {
    whole = port_whole g same m n next room k kept.whole is;
    listed = updated_listed (at_port g) (λ o. refl) waits m n k kept.listed is;
  }

  pub stopped_kept : (m n : Map Object) (next room k : ℕ) → IsKept None m next room waits → n ≡ update m k stopped
      → IsKept None n next room waits
  stopped_kept m n next room k kept is = record {
    whole = stopped_whole m n next room k kept.whole is;
    listed = updated_listed stopped (λ o. refl) waits m n k kept.listed is;
  }

  pub received_kept : (m n : Map Object) (next room k : ℕ) → IsKept None m next room waits → n ≡ update m k received
      → IsKept None n next room waits
  received_kept m n next room k kept is = record {
    whole = received_whole m n next room k kept.whole is;
    listed = updated_listed received (λ o. refl) waits m n k kept.listed is;
  }

  pub sent_or_same_kept : {A B : Type 0} (m n : Map Object) (next room k : ℕ) (message : Message) (v w : Object) (r : Result A B)
      → IsKept None m next room waits → OnOk r (w ≡ sent message v) → OnErr r (w ≡ v)
      → Some v ≡ lookup (is_at (nat_cmp k)) m → n ≡ set_value (is_at (nat_cmp k)) m w → IsKept None n next room waits
  sent_or_same_kept m n next room k message v w r kept is other there set = record {
    whole = sent_or_same_whole m n next room k message v w r kept.whole is other there set;
    listed = updated_or_listed (sent message) (λ o. refl) waits m n k v w r kept.listed is other there set;
  }

  pub port_or_same_kept : {A B : Type 0} (g : Port → Port) → ((p : Port) → (g p).reserved ≡ p.reserved)
      → (m n : Map Object) (next room k : ℕ) (v w : Object) (r : Result A B) → IsKept None m next room waits → OnOk r (w ≡ at_port g v)
      → OnErr r (w ≡ v) → Some v ≡ lookup (is_at (nat_cmp k)) m → n ≡ set_value (is_at (nat_cmp k)) m w → IsKept None n next room waits
  port_or_same_kept g same m n next room k v w r kept is other there set = record {
    whole = port_or_same_whole g same m n next room k v w r kept.whole is other there set;
    listed = updated_or_listed (at_port g) (λ o. refl) waits m n k v w r kept.listed is other there set;
  }

  -- ---- other room, and one object more or less

  pub roomy_kept : (m n : Map Object) (next room room2 : ℕ) → IsKept None m next room waits → n ≡ m → room ≤ room2
      → IsKept None n next room2 waits
  roomy_kept m n next room room2 kept is more =
      record { whole = roomy_whole m n next room room2 kept.whole is more; listed = rw is kept.listed }

  pub inserted_kept : (m n : Map Object) (next room room2 : ℕ) (o : Object) → IsKept None m next room waits → is_end_body o.body ≡ false
      → reserved_of o.body ≡ 0 → o.signals.waits ≡ [] → length m + 1 ≤ room2 → n ≡ insert_entry nat_cmp m next o
      → IsKept None n (next + 1) room2 waits
  inserted_kept m n next room room2 o kept alone empty fresh more into = record {
    whole = inserted_whole m n next room room2 o kept.whole alone empty fresh more into;
    listed = inserted_listed waits m n next o kept.whole.below fresh kept.listed into;
  }

  pub pair_kept : (pair : Pair) (m n n2 : Map Object) (next room room2 handles : ℕ) (o o2 : Object) → IsKept None m next room waits
      → o ≡ end_of pair (next + 1) handles → o2 ≡ end_of pair next handles → length m + 2 ≤ room2
      → n ≡ insert_entry nat_cmp m next o → n2 ≡ insert_entry nat_cmp n (next + 1) o2 → IsKept None n2 (next + 1 + 1) room2 waits
  pair_kept pair m n n2 next room room2 handles o o2 kept first second more into into2 = record {
    whole = pair_whole pair m n n2 next room room2 handles o o2 kept.whole first second more into into2;
    listed = inserted_listed waits n n2 (next + 1) o2 (below_first m n next o kept.whole.below into) (rw second refl)
        (inserted_listed waits m n next o kept.whole.below (rw first refl) kept.listed into) into2;
  }

  -- ---- waits

  -- the wait is registered last of all, and a place is reserved for it
  pub watched_kept : (order : ℕ) (x : Wait) (m n : Map Object) (next room : ℕ) (waits2 : List Listed) → IsTrue (is_port_at m x.port)
      → IsTrue (has_key m x.object) → IsKept None m next room waits
      → n ≡ update (update m x.port (at_port with_place)) x.object (watched (watch_of order x)) → waits2 ≡ waits ++ entry_of order x ∷ []
      → IsKept None n next room waits2
  watched_kept order x m n next room waits2 port there kept is more = rw more record {
    whole = watched_whole (watch_of order x) mid n next room x.object still (made_whole (watch_of order x) m mid next room port kept.whole refl) is;
    listed = watched_listed order x waits mid n still (updated_listed (at_port with_place) (λ o. refl) waits m mid x.port kept.listed refl) is;
  }
    where
      mid : Map Object
      mid = update m x.port (at_port with_place)

      still : IsTrue (has_key mid x.object)
      still = has_key-update m x.port (at_port with_place) x.object ∙ there

  -- the earliest wait at the object k that passes is taken out there, and of the list the one with its order
  module _ (k : ℕ) (test : WaitValue → Bool) {m n : Map Object} {next room : ℕ} (kept : IsKept None m next room waits)
      (out : n ≡ update m k (unwatched (λ x. test (wait_at k x)))) where
    abbrev is_taken : WaitValue → Bool
    is_taken x = (x.object == k) && test x

    both_out : AreListed (without_first (λ x. is_taken (listed_value x)) waits) n
    both_out = unwatched_listed k (λ x. test (listed_value x)) waits m kept.listed n out

    first_listed : find (λ x. is_taken (listed_value x)) waits ≡ option_map (listed_at k) (find (λ x. test (wait_at k x)) (waits_in (get m k)))
    first_listed = found_listed k (λ x. test (listed_value x)) waits m kept.listed

    module _ (none : find (λ x. test (wait_at k x)) (waits_in (get m k)) ≡ None) where
      none_out : without_first (λ x. is_taken (listed_value x)) waits ≡ waits
      none_out = none_first (λ x. is_taken (listed_value x)) waits (first_listed ∙ ap (option_map (listed_at k)) none)

      pub none_out_kept : IsKept None n next room waits
      none_out_kept = record { whole = none_out_whole (λ x. test (wait_at k x)) m n next room k kept.whole out none; listed = rw none_out at both_out }

      pub none_out_seen : map listed_value waits ≡ without_first is_taken (map listed_value waits)
      none_out_seen = sym (first_map listed_value is_taken waits ∙ ap (λ (xs : List Listed). map listed_value xs) none_out)

    module _ (rising : Rises waits) {x : Watch} (found : find (λ x. test (wait_at k x)) (waits_in (get m k)) ≡ Some x) {waits2 : List Listed}
        (less : waits2 ≡ filter (λ y. not (y.order == x.order)) waits) where
      one_out : waits2 ≡ without_first (λ y. is_taken (listed_value y)) waits
      one_out = less ∙ goes_by_order (λ y. is_taken (listed_value y)) waits (listed_at k x) rising (first_listed ∙ ap (option_map (listed_at k)) found)

      -- its place was given back, or holds its packet
      pub gone_kept : (g : Port → Port) → ((p : Port) → (g p).reserved ≡ p.reserved - 1) → (n2 : Map Object) → n2 ≡ update n x.port (at_port g)
          → IsKept None n2 next room waits2
      gone_kept g fewer n2 is = record {
        whole = gone_whole (λ x. test (wait_at k x)) m n next room k kept.whole out x found g fewer n2 is;
        listed = updated_listed (at_port g) (λ o. refl) waits2 n n2 x.port (rw one_out both_out) is;
      }

      pub gone_seen : map listed_value waits2 ≡ without_first is_taken (map listed_value waits)
      gone_seen = ap (λ (xs : List Listed). map listed_value xs) one_out ∙ sym (first_map listed_value is_taken waits)

  -- handles went, and with them waits of which the object or the port went
  pub left_kept : {ks : List ℕ} {m m2 : Map Object} {next room room2 : ℕ} {waits2 : List Listed} → IsLeft ks m m2
      → IsKept None m next room waits → room2 ≡ room → waits2 ≡ filter (is_entry_there m2) waits → IsKept None m2 next room2 waits2
  left_kept {ks} {m} {m2} {next} {room} {room2} left kept same is = record {
    whole = whole_left ks m m2 next room room2 left.cascades (left.places kept.whole.places) kept.whole same;
    listed = rw is (left_listed waits m m2 (waits_left left kept.whole.places) kept.listed);
  }

-- what the methods of objects cite
pub ruleset kept = (none_kept, more_kept, changed_kept, started_kept, stopped_kept, killed_kept, received_kept, inserted_kept, roomy_kept)

-- where no wait passes none is taken out
pub unwatched_none : (test : Watch → Bool) (m : Map Object) (k : ℕ) → find test (waits_in (get m k)) ≡ None → update m k (unwatched test) ≡ m
unfolding get update
unwatched_none test [] k none = refl
unwatched_none test (e ∷ m) k none = elim (cases_Bool (e.0 == k)) as (λ _. update (e ∷ m) k (unwatched test) ≡ e ∷ m) [
  | inl here ↦ rw here (λ i. (
    sym (eqb-true e.0 k here) i,
    record e.1 { signals = record e.1.signals { waits = none_first test e.1.signals.waits (rw here at none) i } },
  ) ∷ m)
  | inr apart ↦ rw apart (ap (λ (rest : Map Object). e ∷ rest) (unwatched_none test m k (rw apart at none)))
]
