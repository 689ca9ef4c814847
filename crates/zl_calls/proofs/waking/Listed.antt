-- Those that may wake are taken off the list one after another, and all blocked processes have had their turns then.
use Rattle.zl_calls.proofs.Common.{All, All-contains, AreBlocked, AreOrdered, AreSought, Blocked, Bool, Contains, Created, Ended, Gone, HaveCounters, HaveLeft}
use Rattle.zl_calls.proofs.Common.{IsConsistent, IsTrue, KeepSleepers, List, None, Objects, Option, Packet, PacketAt, Process, ProcessValue, Ready, Seeks}
use Rattle.zl_calls.proofs.Common.{SignalOf, Sleeper, Some, StandInOrder, StateValue, TakesDue, Wakes, WakesOne, WakesSleeper, Woke, World, [], and-false}
use Rattle.zl_calls.proofs.Common.{and_parts, ap, arith, awaited_found, awaited_in, awaited_of, bare, cases_Bool, each, eq-eqb, eqb-true, false, pids_told}
use Rattle.zl_calls.proofs.Common.{false≢true, filter, fold, get, get_or, given_awake, held, if◌then◌else◌, inl, inr, is_blocked, is_due, is_empty, is_for}
use Rattle.zl_calls.proofs.Common.{is_same, is_some, listed_for, map, meets, none-some, not, object_value, option_map, other_way, packet_values, packets_found}
use Rattle.zl_calls.proofs.Common.{passes, position, process_entry, refl, same_Some, signals_at, slice_get, state_passes, state_value, subst, sym, takes_at}
use Rattle.zl_calls.proofs.Common.{takes_from, then_some, times, times-same, true, woken, world_blocked, ℕ, ◌&&◌, ◌<◌, ◌==◌, ◌^◌, ◌∙◌, ◌∷◌, ◌≡◌}
use Rattle.zl_rights.specs.World.{Awaited as AwaitedValue}
use Rattle.zl_objects.specs.declared.awaited.Awaited.{Awaited}
use Rattle.zl_objects.specs.declared.awaited.Awaited.TheVariants as awaits
use Rattle.zl_objects.proofs.Sleeping.{at_port}
use Rattle.zl_calls.proofs.lists.Updates.{sorted_seen}
use Rattle.zl_calls.proofs.step.Performing.{stands_there}
use Rattle.zl_calls.proofs.objects.SameButWaits.{beside_consistent}
use Rattle.zl_calls.proofs.waking.Exchange.{AreSorted, other_turn, turn_first}
use Rattle.zl_calls.proofs.waking.Ordered.{agree, both_filters, takes_awaited, takes_none}
use Rattle.zl_calls.proofs.waking.Quiet.{quiet_wakes}
use Rattle.zl_calls.proofs.waking.WakeLoop.{IsNotedToo, IsToldSoFar, begins_told, ends_told, one_left}
use Rattle.std.proofs.Math.Bool.{and-true}
use Rattle.zl_calls.proofs.Common.{option_to_list}
use Rattle.zl_calls.proofs.Common.{option_to_list, pids_told, tells_all}

-- ---- what is waited for

-- what a process waits for is there just where it wakes
pub due_woke : (s : StateValue) (r : Objects) (a : Awaited) → awaited_in s ≡ Some a → is_some (given_awake s r) ≡ is_due r.objects a
due_woke (Blocked (SignalOf k mask) ds) r a is = by_test (meets (signals_at r.objects k) mask) refl
    ∙ ap (is_due r.objects) (same_Some (awaits.SignalOf k mask) a is)
  where
    by_test : (b : Bool) → meets (signals_at r.objects k) mask ≡ b → is_some (then_some b (signals_at r.objects k ∷ [])) ≡ b
    by_test true h = refl
    by_test false h = refl
due_woke (Blocked (PacketAt port) ds) r a is = by_packets (packets_found (get r.objects port)) ∙ ap (is_due r.objects) (same_Some (awaits.PacketAt port) a is)
  where
    by_packets : (xs : List Packet) → is_some (option_map packet_values (slice_get xs 0)) ≡ not (is_empty xs)
    by_packets [] = refl
    by_packets (x ∷ xs) = refl
due_woke Created r a is = absurd (none-some a is)
due_woke Ready r a is = absurd (none-some a is)
due_woke (Ended code) r a is = absurd (none-some a is)
due_woke Gone r a is = absurd (none-some a is)

-- the same of the process at a place of the list
pub due_there : (ps : List Process) (pid place : ℕ) (p : Process) → Some place ≡ position (λ q. q.pid == pid) ps → p ≡ get_or ps place p
    → (r : Objects) (a : Awaited) → awaited_found (get (map process_entry ps) pid) ≡ Some a → is_some (given_awake (state_value p.state) r) ≡ is_due r.objects a
due_there ps pid place p found read r a is = due_woke (state_value p.state) r a (rw (stands_there ps pid place p found read) at is)

pub same_awaited : (a b : Awaited) → is_same a b ≡ true → a ≡ b
same_awaited (awaits.SignalOf k mask) (awaits.SignalOf j mask2) h =
    let both = and_parts (k == j) (mask == mask2) h in λ i. awaits.SignalOf (eqb-true k j both.0 i) (eqb-true mask mask2 both.1 i)
same_awaited (awaits.PacketAt k) (awaits.PacketAt j) h = ap awaits.PacketAt (eqb-true k j h)
same_awaited (awaits.SignalOf k mask) (awaits.PacketAt j) h = absurd (false≢true h)
same_awaited (awaits.PacketAt k) (awaits.SignalOf j mask) h = absurd (false≢true h)

pub awaited_same : (a : Awaited) → is_same a a ≡ true
awaited_same (awaits.SignalOf k mask) = rw (eq-eqb k k refl, eq-eqb mask mask refl) refl
awaited_same (awaits.PacketAt k) = eq-eqb k k refl

-- ---- one that is listed

blocked_so : (o : Option ProcessValue) (a : Awaited) → awaited_found o ≡ Some a → state_passes is_blocked o ≡ true
blocked_so None a h = absurd (none-some a h)
blocked_so (Some p) a h = by_state p.state h
  where
    by_state : (t : StateValue) → awaited_in t ≡ Some a → is_blocked t ≡ true
    by_state (Blocked b ds) h = refl
    by_state Created h = absurd (none-some a h)
    by_state Ready h = absurd (none-some a h)
    by_state (Ended code) h = absurd (none-some a h)
    by_state Gone h = absurd (none-some a h)

pub counter_of : (ps : List Process) → HaveCounters ps → (k : ℕ) (a : Awaited) → awaited_found (get (map process_entry ps) k) ≡ Some a → (p : ProcessValue)
    → get (map process_entry ps) k ≡ Some p → p.cpu.counter < 2 ^ 32
counter_of ps counters k a is p at = counters k p at (rw at at (blocked_so (get (map process_entry ps) k) a is))

-- what the process waits for is there, so it wakes
pub sleeper_turn : (s : Sleeper) (woke : Bool) (ps : List Process) (r : Objects) (ps2 : List Process) (r2 : Objects)
    → awaited_found (get (map process_entry ps) s.pid) ≡ Some s.awaited → woke ≡ true → WakesOne s.pid woke ps r ps2 r2 → KeepSleepers r r2
    → WakesSleeper s woke ps r ps2 r2
sleeper_turn s true ps r ps2 r2 is due wakes kept = (is, wakes, kept)
sleeper_turn s false ps r ps2 r2 is due wakes kept = absurd (false≢true due)

pub sleeper_misses : (s : Sleeper) (woke : Bool) (ps : List Process) (r : Objects) → (awaited_found (get (map process_entry ps) s.pid) ≡ Some s.awaited → ⊥)
    → woke ≡ false → WakesSleeper s woke ps r ps r
sleeper_misses s false ps r elsewhere none = (elsewhere, refl, refl)
sleeper_misses s true ps r elsewhere none = absurd (false≢true (sym none))

-- ---- the loop

-- the rest of the turns leads where all at the start did, and all that was known of the blocked is known
pub record IsWakingListed (ps0 : List Process) (r0 : Objects) (first : List ℕ) (started : Option ℕ) (ps : List Process) (r : Objects) (blocked : List ℕ)
    (list_told : List ℕ) (whole : Bool) : Type 0 where
  pub so_far : fold woken (world_blocked ps r blocked) blocked ≡ fold woken (world_blocked ps0 r0 first) first
  pub consistent : IsConsistent ps r
  pub list : AreBlocked ps blocked
  pub sought : AreSought ps r
  pub stand : StandInOrder ps r blocked
  pub all : r.crowded ≡ false
  pub held : map held ps ≡ map held ps0
  pub told : IsToldSoFar first started list_told whole blocked

module _ (ps0 : List Process) (r0 : Objects) (first : List ℕ) (started : Option ℕ) where
  pub listed_begins : IsConsistent ps0 r0 → AreBlocked ps0 first → AreSought ps0 r0 → StandInOrder ps0 r0 first → r0.crowded ≡ false
      → (told : List ℕ) (whole : Bool) → (whole ≡ true → told ≡ option_to_list started) → IsWakingListed ps0 r0 first started ps0 r0 first told whole
  listed_begins consistent list sought stand all told whole begins = record {
    so_far = refl;
    consistent = consistent;
    list = list;
    sought = sought;
    stand = stand;
    all = all;
    held = refl;
    told = begins_told first started told whole begins;
  }

  module _ (ps : List Process) (r : Objects) (b : List ℕ) (told : List ℕ) (whole : Bool) (so_far : IsWakingListed ps0 r0 first started ps r b told whole)
    where
      listed_there : (k : ℕ) (p : ProcessValue) (a : AwaitedValue) (ds : List ℕ) → get (map process_entry ps) k ≡ Some p → p.state ≡ Blocked a ds
          → Contains r.sleepers (record { pid = k; awaited = awaited_of a })
      listed_there k p a ds at is = by_seeks (so_far.sought k p a ds at is)
        where
          by_seeks : Seeks r k (awaited_of a) → Contains r.sleepers (record { pid = k; awaited = awaited_of a })
          by_seeks (inl crowded) = absurd (false≢true (sym so_far.all ∙ crowded))
          by_seeks (inr there) = there

      -- nobody that is listed has what it waits for
      pub listed_ends : All (λ s. is_due r.objects s.awaited ≡ false) r.sleepers → (who : Woke) → pids_told who ≡ told → (tells_all who ≡ true → whole ≡ true)
          → Wakes ps0 r0 first started who ps r b
      listed_ends none who same all = record {
        wakes = sym (quiet_wakes ps r so_far.consistent b (λ k p a ds at is.
            All-contains (λ (s : Sleeper). is_due r.objects s.awaited ≡ false) r.sleepers (record { pid = k; awaited = awaited_of a }) none
            (listed_there k p a ds at is)) b) ∙ so_far.so_far;
        consistent = so_far.consistent;
        list = so_far.list;
        sought = so_far.sought;
        ordered = inr so_far.stand;
        held = so_far.held;
        none_due = none;
        told = ends_told first started told whole b so_far.told who same all;
      }

      -- one is taken off the list
      module _ (s : Sleeper) (r1 : Objects) (takes : TakesDue r s r1) where
        taken_world : (c : List ℕ) → world_blocked ps r1 c ≡ world_blocked ps r c
        taken_world c = ap (λ (y : Objects). world_blocked ps y c) takes.same

        pub taken_consistent : IsConsistent ps r1
        taken_consistent = beside_consistent ps r r1 (record {
          objects = ap (λ (y : Objects). each (λ j. bare) y.objects) (sym takes.same);
          koids = ap (λ (y : Objects). y.next_koid) takes.same;
        }) so_far.consistent

        taken_all : r1.crowded ≡ false
        taken_all = ap (λ (y : Objects). y.crowded) takes.same ∙ so_far.all

        still_listed : (k : ℕ) (p : ProcessValue) (a : AwaitedValue) (ds : List ℕ) → get (map process_entry ps) k ≡ Some p → p.state ≡ Blocked a ds
            → (record { pid = k; awaited = awaited_of a } ≡ s → ⊥) → Contains r1.sleepers (record { pid = k; awaited = awaited_of a })
        still_listed k p a ds at is apart = takes.others (record { pid = k; awaited = awaited_of a }) apart (listed_there k p a ds at is)

        -- where the test leaves its process out, it is as if that was never listed
        but_it : (test : ℕ → Bool) (port : ℕ) → (is_for port s.awaited ≡ true → test s.pid ≡ false)
            → filter test (listed_for r1.sleepers port) ≡ filter test (listed_for r.sleepers port)
        but_it test port out = sym (ap (filter test) (takes.order port) ∙ elim (cases_Bool (is_for port s.awaited)) as
            (λ _. filter test (if is_for port s.awaited then s.pid ∷ listed_for r1.sleepers port else listed_for r1.sleepers port)
            ≡ filter test (listed_for r1.sleepers port)) [ inl its ↦ rw (its, out its) refl | inr other ↦ rw other refl ])

        -- it isn't blocked on that
        pub sleeper_stays : (awaited_found (get (map process_entry ps) s.pid) ≡ Some s.awaited → ⊥)
            → IsWakingListed ps0 r0 first started ps r1 b told whole
        sleeper_stays elsewhere = record {
          so_far = ap (λ (w : World). fold woken w b) (taken_world b) ∙ so_far.so_far;
          consistent = taken_consistent;
          list = so_far.list;
          sought = λ k p a ds at is. inr (still_listed k p a ds at is (λ same. elsewhere (
              subst (λ (x : Sleeper). awaited_found (get (map process_entry ps) x.pid) ≡ Some x.awaited) same (rw at (ap awaited_in is))
              )));
          stand = λ port. but_it (takes_at ps port) port (nowhere port) ∙ so_far.stand port;
          all = taken_all;
          held = so_far.held;
          told = so_far.told;
        }
          where
            at_its_port : (port : ℕ) (o : Option ProcessValue) → state_passes (takes_from port) o ≡ true → awaited_found o ≡ Some (awaits.PacketAt port)
            at_its_port port None h = absurd (false≢true h)
            at_its_port port (Some p) h = by_state p.state h
              where
                by_state : (t : StateValue) → takes_from port t ≡ true → awaited_in t ≡ Some (awaits.PacketAt port)
                by_state (Blocked (PacketAt k) ds) h = ap (λ (j : ℕ). Some (awaits.PacketAt j)) (eqb-true k port h)
                by_state _ h = absurd (false≢true h)

            nowhere : (port : ℕ) → is_for port s.awaited ≡ true → takes_at ps port s.pid ≡ false
            nowhere port its = elim (cases_Bool (takes_at ps port s.pid)) as (λ _. takes_at ps port s.pid ≡ false) [
              | inl takes_it ↦ absurd (elsewhere (at_its_port port (get (map process_entry ps) s.pid) takes_it ∙ ap Some (sym (at_port port s.awaited its))))
              | inr out ↦ out
            ]

        -- it wakes
        module _ (waits : awaited_found (get (map process_entry ps) s.pid) ≡ Some s.awaited) (ps2 : List Process) (r2 : Objects)
            (wakes_it : WakesOne s.pid true ps r1 ps2 r2) (kept : KeepSleepers r1 r2) where
          abbrev later : List ℕ
          later = filter (λ k. not (k == s.pid)) b

          pub stands_once : ◌≡◌ {A = ℕ} (times s.pid b) 1
          stands_once = so_far.list.once s.pid ∙ rw (blocked_so (get (map process_entry ps) s.pid) s.awaited waits) refl

          first_there : (port : ℕ) → takes_at ps port s.pid ≡ true → slice_get (filter (takes_at ps port) b) 0 ≡ Some s.pid
          first_there port takes_it =
              let its : is_for port s.awaited ≡ true = sym (takes_awaited port (get (map process_entry ps) s.pid) s.awaited waits) ∙ takes_it in
              ap (λ (ks : List ℕ). slice_get ks 0) (sym (so_far.stand port) ∙ ap (filter (takes_at ps port)) (takes.order port)) ∙ rw (its, takes_it) refl

          sorted : AreSorted (world_blocked ps r1 b)
          sorted = record {
            processes = passes _ taken_consistent.processes_in_order;
            objects = passes _ (rw (sorted_seen object_value r1.objects) taken_consistent.kept.in_order);
          }

          turns : fold woken (world_blocked ps2 r2 later) later ≡ fold woken (world_blocked ps r b) b
          turns =
              ap (λ (w : World). fold woken w later) (wakes_it.world b) ∙ (sym (turn_first s.pid b (world_blocked ps r1 b) sorted stands_once first_there)
              ∙ ap (λ (w : World). fold woken w b) (taken_world b))

          list2 : AreBlocked ps2 later
          list2 = wakes_it.list b so_far.list

          others : (k : ℕ) → (s.pid == k) ≡ false → get (map process_entry ps2) k ≡ get (map process_entry ps) k
          others k apart = ap (λ (w : World). get w.processes k) (wakes_it.world b) ∙ other_turn (world_blocked ps r1 b) s.pid k apart

          itself : state_passes is_blocked (get (map process_entry ps2) s.pid) ≡ false
          itself = elim (cases_Bool (state_passes is_blocked (get (map process_entry ps2) s.pid))) as
              (λ _. state_passes is_blocked (get (map process_entry ps2) s.pid) ≡ false) [
                | inl still ↦ absurd (
                    let once : ◌≡◌ {A = ℕ} (times s.pid later) 1 = list2.once s.pid ∙ rw still refl in
                    omega (arith, once, times-same s.pid b)
                    )
                | inr awake ↦ awake
              ]

          takes_now : (port k : ℕ) → takes_at ps2 port k ≡ (takes_at ps port k && not (k == s.pid))
          takes_now port k = elim (cases_Bool (k == s.pid)) as (λ _. takes_at ps2 port k ≡ (takes_at ps port k && not (k == s.pid))) [
            | inl here ↦ rw here (subst (λ (j : ℕ). takes_at ps2 port j ≡ (takes_at ps port j && false)) (sym (eqb-true k s.pid here))
                (takes_none ps2 port s.pid itself ∙ sym (and-false (takes_at ps port s.pid))))
            | inr apart ↦ rw apart (ap (state_passes (takes_from port)) (others k (other_way k s.pid apart)) ∙ sym (and-true (takes_at ps port k)))
          ]

          stand2 : StandInOrder ps2 r2 later
          stand2 port = rw kept.0 (agree (takes_at ps2 port) test (takes_now port) (listed_for r1.sleepers port)
              ∙ (but_it test port (λ its. out)
              ∙ (sym (both_filters test (takes_at ps port) first_part (listed_for r.sleepers port))
              ∙ (ap (filter test) (so_far.stand port)
              ∙ (both_filters test (takes_at ps port) first_part b
              ∙ (sym (both_filters test (λ k. not (k == s.pid)) second_part b)
              ∙ sym (agree (takes_at ps2 port) test (takes_now port) later)))))))
            where
              test : ℕ → Bool
              test k = takes_at ps port k && not (k == s.pid)

              first_part : (k : ℕ) → IsTrue (test k) → IsTrue (takes_at ps port k)
              first_part k h = (and_parts (takes_at ps port k) (not (k == s.pid)) h).0

              second_part : (k : ℕ) → IsTrue (test k) → IsTrue (not (k == s.pid))
              second_part k h = (and_parts (takes_at ps port k) (not (k == s.pid)) h).1

              out : test s.pid ≡ false
              out = sym (takes_now port s.pid) ∙ takes_none ps2 port s.pid itself

          sought2 : AreSought ps2 r2
          sought2 k p a ds at is = inr (rw kept.0 (still_listed k p a ds (sym (others k apart) ∙ at) is (λ same.
              absurd (false≢true (sym apart ∙ eq-eqb s.pid k (ap (λ (x : Sleeper). x.pid) (sym same)))))))
            where
              apart : (s.pid == k) ≡ false
              apart = elim (cases_Bool (s.pid == k)) as (λ _. (s.pid == k) ≡ false) [
                | inl here ↦ absurd (false≢true (sym itself ∙ subst (λ (j : ℕ). state_passes is_blocked (get (map process_entry ps2) j) ≡ true)
                    (sym (eqb-true s.pid k here)) (rw (at, is) refl)))
                | inr other ↦ other
              ]

          pub sleeper_wakes : (told2 : List ℕ) (whole2 : Bool) → IsNotedToo s.pid told whole told2 whole2
              → IsWakingListed ps0 r0 first started ps2 r2 later told2 whole2
          sleeper_wakes told2 whole2 noted = record {
            so_far = turns ∙ so_far.so_far;
            consistent = wakes_it.consistent;
            list = list2;
            sought = sought2;
            stand = stand2;
            all = kept.1 ∙ taken_all;
            held = wakes_it.held ∙ so_far.held;
            told = one_left first started b told whole so_far.told s.pid stands_once later refl told2 whole2 noted;
          }

-- ---- where perhaps not all are listed

pub in_order : (ps : List Process) (r : Objects) (blocked : List ℕ) → AreOrdered ps r blocked → r.crowded ≡ false → StandInOrder ps r blocked
in_order ps r blocked (inl crowded) all = absurd (false≢true (sym all ∙ crowded))
in_order ps r blocked (inr stand) all = stand

-- each blocked process had its turn, and nobody is listed any more
pub crowded_wakes : (ps0 : List Process) (r0 : Objects) (first : List ℕ) (started : Option ℕ) (who : Woke) (ps : List Process) (r : Objects) (b : List ℕ)
    → world_blocked ps r b ≡ fold woken (world_blocked ps0 r0 first) first → IsConsistent ps r → AreBlocked ps b → map held ps ≡ map held ps0
    → KeepSleepers r0 r → HaveLeft first started who b → IsTrue r0.crowded → (r2 : Objects) → r2 ≡ record r { sleepers = [] }
    → Wakes ps0 r0 first started who ps r2 b
crowded_wakes ps0 r0 first started who ps r b wakes consistent list holds kept told crowded r2 is = rw is (record {
  wakes = wakes;
  consistent = beside_consistent ps r (record r { sleepers = [] }) (record { objects = refl; koids = refl }) consistent;
  list = list;
  sought = λ k p a ds at so. inl (kept.1 ∙ crowded);
  ordered = inl (kept.1 ∙ crowded);
  held = holds;
  none_due = λ i d inside. absurd (omega (arith, inside));
  told = told;
})
