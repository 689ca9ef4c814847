-- The turn of a process may come before those of others that take no packets from its port.
use Rattle.zl_calls.proofs.Common.{Blocked, BodyValue, Bool, IsLater, IsTrue, List, Map, None, ObjectValue, Option, Packet, PacketAt, PortBody, ProcessValue}
use Rattle.zl_calls.proofs.Common.{Ready, SignalOf, Some, StateValue, T, World, [], active, answered, ap, arith, cases_Bool, eq-eqb, eqb-true, false}
use Rattle.zl_calls.proofs.Common.{false≢true, filter, fold, get, get-put, has_no_packet, if◌then◌else◌, inl, inr, is_blocked, is_sorted, made_ready, meets}
use Rattle.zl_calls.proofs.Common.{nat_cmp, nat_tests, not, offers_nothing, packet_values, put, refl, same_Some, same_map, slice_get, state_passes, subst, sym}
use Rattle.zl_calls.proofs.Common.{takes_from, times, true, with_body, woken, woken-later, ℕ, ◌+◌, ◌==◌, ◌∙◌, ◌∷◌, ◌≡◌, ◌⊎◌}
use Rattle.std.specs.Cmp.{nat_cmp_total}
use Rattle.std.specs.FinMap.Entries.{is_sorted-put}
use Rattle.zl_rights.proofs.Canonical.{put-std}
use Rattle.zl_calls.proofs.waking.BlockedLists.{none_filtered}
use Rattle.zl_calls.proofs.lists.Positions.{times_cons}

-- ---- maps and lists

module _ {X : Type 0} where
  put_sorted : (m : Map X) (k : ℕ) (v : X) → T (is_sorted nat_cmp m) → T (is_sorted nat_cmp (put m k v))
  put_sorted m k v sorted = subst (λ (n : Map X). T (is_sorted nat_cmp n)) (sym (put-std m k v)) (is_sorted-put nat_cmp nat_cmp_total k v m sorted)

  put_comm : (m : Map X) (k j : ℕ) (x y : X) → T (is_sorted nat_cmp m) → (k == j) ≡ false → put (put m k x) j y ≡ put (put m j y) k x
  put_comm m k j x y sorted apart = same_map _ _ (put_sorted _ j y (put_sorted m k x sorted)) (put_sorted _ k x (put_sorted m j y sorted)) alike
    where
      by_tests : (i : ℕ) (a b : Bool) → (k == i) ≡ a → (j == i) ≡ b
          → (if b then Some y else (if a then Some x else get m i)) ≡ (if a then Some x else (if b then Some y else get m i))
      by_tests i true true ki ji = absurd (false≢true (sym apart ∙ subst (λ (n : ℕ). (k == n) ≡ true) (sym (eqb-true j i ji)) ki))
      by_tests i true false ki ji = refl
      by_tests i false true ki ji = refl
      by_tests i false false ki ji = refl

      alike : (i : ℕ) → get (put (put m k x) j y) i ≡ get (put (put m j y) k x) i
      alike i = rw (get-put (put m k x) j y i, get-put m k x i, get-put (put m j y) k x i, get-put m j y i) (by_tests i (k == i) (j == i) refl refl)

filter_comm : (p q : ℕ → Bool) (xs : List ℕ) → filter p (filter q xs) ≡ filter q (filter p xs)
filter_comm p q [] = refl
filter_comm p q (x ∷ xs) = by_tests (p x) (q x) refl refl (filter_comm p q xs)
  where
    by_tests : (a b : Bool) → p x ≡ a → q x ≡ b → filter p (filter q xs) ≡ filter q (filter p xs) → filter p (filter q (x ∷ xs)) ≡ filter q (filter p (x ∷ xs))
    by_tests true true pa qb rest = rw (qb, pa, qb) (ap (λ (ys : List ℕ). x ∷ ys) rest)
    by_tests true false pa qb rest = rw (qb, pa, qb) rest
    by_tests false true pa qb rest = rw (qb, pa) rest
    by_tests false false pa qb rest = rw (qb, pa) rest

-- ---- what a turn is

-- in w the turn of p does nothing
data Idle (w : World) (p : ℕ) : Type 0 where
  nobody : get w.processes p ≡ None → Idle w p
  unblocked : (a : ProcessValue) → get w.processes p ≡ Some a → is_blocked a.state ≡ false → Idle w p
  no_signal : (a : ProcessValue) (k mask : ℕ) (ds : List ℕ) → get w.processes p ≡ Some a → a.state ≡ Blocked (SignalOf k mask) ds
      → meets (active w k) mask ≡ false → Idle w p
  no_packet : (a : ProcessValue) (k : ℕ) (ds : List ℕ) → get w.processes p ≡ Some a → a.state ≡ Blocked (PacketAt k) ds
      → IsTrue (offers_nothing (get w.objects k)) → Idle w p

-- in w the turn of p does this
data Turn (w : World) (p : ℕ) : Type 0 where
  idle : Idle w p → Turn w p
  by_signal : (a : ProcessValue) (k mask : ℕ) (ds : List ℕ) → get w.processes p ≡ Some a → a.state ≡ Blocked (SignalOf k mask) ds
      → meets (active w k) mask ≡ true → Turn w p
  by_packet : (a : ProcessValue) (k : ℕ) (ds : List ℕ) (o : ObjectValue) (x : Packet) (rest : List Packet) → get w.processes p ≡ Some a
      → a.state ≡ Blocked (PacketAt k) ds → get w.objects k ≡ Some o → o.body ≡ PortBody (x ∷ rest) → Turn w p

module _ (w : World) (p : ℕ) where
  turn_of : Turn w p
  turn_of = with_process (get w.processes p) refl
    where
      with_object : (a : ProcessValue) (k : ℕ) (ds : List ℕ) → get w.processes p ≡ Some a → a.state ≡ Blocked (PacketAt k) ds → (o : Option ObjectValue)
          → get w.objects k ≡ o → Turn w p
      with_object a k ds at is None none = idle (no_packet a k ds at is (rw none refl))
      with_object a k ds at is (Some o) there = by_body o.body refl
        where
          by_body : (b : BodyValue) → o.body ≡ b → Turn w p
          by_body (PortBody (x ∷ rest)) port = by_packet a k ds o x rest at is there port
          by_body (PortBody []) port = idle (no_packet a k ds at is (rw (there, port) refl))
          by_body _ other = idle (no_packet a k ds at is (rw (there, other) refl))

      with_state : (a : ProcessValue) → get w.processes p ≡ Some a → (s : StateValue) → a.state ≡ s → Turn w p
      with_state a at (Blocked (SignalOf k mask) ds) is = elim (cases_Bool (meets (active w k) mask)) [
        | inl holds ↦ by_signal a k mask ds at is holds
        | inr fails ↦ idle (no_signal a k mask ds at is fails)
      ]
      with_state a at (Blocked (PacketAt k) ds) is = with_object a k ds at is (get w.objects k) refl
      with_state a at _ is = idle (unblocked a at (ap is_blocked is))

      with_process : (o : Option ProcessValue) → get w.processes p ≡ o → Turn w p
      with_process None none = idle (nobody none)
      with_process (Some a) at = with_state a at a.state refl

  idle_turn : Idle w p → woken w p ≡ w
  unfolding woken
  idle_turn (nobody none) = rw none refl
  idle_turn (unblocked a at is) = by_state a.state refl is
    where
      by_state : (s : StateValue) → a.state ≡ s → is_blocked s ≡ false → woken w p ≡ w
      by_state (Blocked awaited ds) state h = absurd (false≢true (sym h))
      by_state _ state h = rw (at, state) refl
  idle_turn (no_signal a k mask ds at is fails) = rw (at, is, fails) refl
  idle_turn (no_packet a k ds at is none) = with_object (get w.objects k) refl none
    where
      with_object : (o : Option ObjectValue) → get w.objects k ≡ o → IsTrue (offers_nothing o) → woken w p ≡ w
      with_object None there h = rw (at, is, there) refl
      with_object (Some o) there h = by_body o.body refl h
        where
          by_body : (b : BodyValue) → o.body ≡ b → IsTrue (has_no_packet b) → woken w p ≡ w
          by_body (PortBody (x ∷ rest)) port h = absurd (false≢true h)
          by_body (PortBody []) port h = rw (at, is, there, port) refl
          by_body _ other h = rw (at, is, there, other) refl

  idle_later : (v : World) → IsLater w v → get v.processes p ≡ get w.processes p → Idle w p → Idle v p
  idle_later v later same (nobody none) = nobody (same ∙ none)
  idle_later v later same (unblocked a at is) = unblocked a (same ∙ at) is
  idle_later v later same (no_signal a k mask ds at is fails) = no_signal a k mask ds (same ∙ at) is (ap (λ (n : ℕ). meets n mask) (later.signals k) ∙ fails)
  idle_later v later same (no_packet a k ds at is none) = no_packet a k ds (same ∙ at) is (ap offers_nothing (later.objects k none) ∙ none)

  signal_turn : (a : ProcessValue) (k mask : ℕ) (ds : List ℕ) → get w.processes p ≡ Some a → a.state ≡ Blocked (SignalOf k mask) ds
      → meets (active w k) mask ≡ true → woken w p ≡ made_ready w p a ds (0 ∷ active w k ∷ [])
  unfolding woken
  signal_turn a k mask ds at is holds = rw (at, is, holds) refl

  packet_turn : (a : ProcessValue) (k : ℕ) (ds : List ℕ) (o : ObjectValue) (x : Packet) (rest : List Packet) → get w.processes p ≡ Some a
      → a.state ≡ Blocked (PacketAt k) ds → get w.objects k ≡ Some o → o.body ≡ PortBody (x ∷ rest)
      → woken w p ≡ made_ready (with_body w k o (PortBody rest)) p a ds (0 ∷ packet_values x)
  unfolding woken
  packet_turn a k ds o x rest at is there port = rw (at, is, there, port) refl

-- ---- what a turn leaves

-- the process is blocked on packets of the port
abbrev pub takes_in : World → ℕ → ℕ → Bool
takes_in w port q = state_passes (takes_from port) (get w.processes q)

-- the maps are in order
pub record AreSorted (w : World) : Type 0 where
  pub processes : T (is_sorted nat_cmp w.processes)
  pub objects : T (is_sorted nat_cmp w.objects)

module _ (w : World) (p : ℕ) where
  ready_sorted : (v : World) (a : ProcessValue) (ds vs : List ℕ) → AreSorted v → AreSorted (made_ready v p a ds vs)
  unfolding made_ready
  ready_sorted v a ds vs sorted = record { processes = put_sorted v.processes p _ sorted.processes; objects = sorted.objects }

  turn_sorted : AreSorted w → AreSorted (woken w p)
  turn_sorted sorted = by_turn (turn_of w p)
    where
      by_turn : Turn w p → AreSorted (woken w p)
      by_turn (idle i) = subst AreSorted (sym (idle_turn w p i)) sorted
      by_turn (by_signal a k mask ds at is holds) = subst AreSorted (sym (signal_turn w p a k mask ds at is holds)) (ready_sorted w a ds _ sorted)
      by_turn (by_packet a k ds o x rest at is there port) =
          subst AreSorted (sym (packet_turn w p a k ds o x rest at is there port)) (ready_sorted (with_body w k o (PortBody rest)) a ds _
          (record { processes = sorted.processes; objects = put_sorted w.objects k _ sorted.objects }))

  ready_at : (v : World) (a : ProcessValue) (ds vs : List ℕ) (q : ℕ) → get (made_ready v p a ds vs).processes q
      ≡ (if p == q then Some (record a { state = Ready; cpu = answered a.cpu ds vs }) else get v.processes q)
  unfolding made_ready
  ready_at v a ds vs q = get-put v.processes p _ q

  -- another process
  pub other_turn : (q : ℕ) → (p == q) ≡ false → get (woken w p).processes q ≡ get w.processes q
  other_turn q apart = by_turn (turn_of w p)
    where
      by_turn : Turn w p → get (woken w p).processes q ≡ get w.processes q
      by_turn (idle i) = ap (λ (v : World). get v.processes q) (idle_turn w p i)
      by_turn (by_signal a k mask ds at is holds) =
          ap (λ (v : World). get v.processes q) (signal_turn w p a k mask ds at is holds) ∙ (ready_at w a ds _ q ∙ rw apart refl)
      by_turn (by_packet a k ds o x rest at is there port) =
          ap (λ (v : World). get v.processes q) (packet_turn w p a k ds o x rest at is there port)
          ∙ (ready_at (with_body w k o (PortBody rest)) a ds _ q ∙ rw apart refl)

  -- its own comes to take packets nowhere
  own_turn : (port : ℕ) → takes_in w port p ≡ false → takes_in (woken w p) port p ≡ false
  own_turn port none = by_turn (turn_of w p)
    where
      by_turn : Turn w p → takes_in (woken w p) port p ≡ false
      by_turn (idle i) = ap (λ (v : World). takes_in v port p) (idle_turn w p i) ∙ none
      by_turn (by_signal a k mask ds at is holds) =
          ap (λ (v : World). takes_in v port p) (signal_turn w p a k mask ds at is holds)
          ∙ (ap (state_passes (takes_from port)) (ready_at w a ds _ p) ∙ rw (eq-eqb p p refl) refl)
      by_turn (by_packet a k ds o x rest at is there is_port) =
          ap (λ (v : World). takes_in v port p) (packet_turn w p a k ds o x rest at is there is_port)
          ∙ (ap (state_passes (takes_from port)) (ready_at (with_body w k o (PortBody rest)) a ds _ p) ∙ rw (eq-eqb p p refl) refl)

  ready_objects : (v : World) (a : ProcessValue) (ds vs : List ℕ) → (made_ready v p a ds vs).objects ≡ v.objects
  unfolding made_ready
  ready_objects v a ds vs = refl

  -- an object from which it takes no packet
  other_object : (k : ℕ) → takes_in w k p ≡ false → get (woken w p).objects k ≡ get w.objects k
  other_object k apart = by_turn (turn_of w p)
    where
      by_turn : Turn w p → get (woken w p).objects k ≡ get w.objects k
      by_turn (idle i) = ap (λ (v : World). get v.objects k) (idle_turn w p i)
      by_turn (by_signal a j mask ds at is holds) =
          ap (λ (v : World). get v.objects k) (signal_turn w p a j mask ds at is holds) ∙ ap (λ (m : Map ObjectValue). get m k) (ready_objects w a ds _)
      by_turn (by_packet a j ds o x rest at is there port) =
          let differs : (j == k) ≡ false = rw (at, is) at apart in
          ap (λ (v : World). get v.objects k) (packet_turn w p a j ds o x rest at is there port)
          ∙ (ap (λ (m : Map ObjectValue). get m k) (ready_objects (with_body w j o (PortBody rest)) a ds _)
          ∙ (get-put w.objects j _ k ∙ rw differs refl))

-- ---- two turns

-- p is ready, and of the objects these are left
abbrev readied : World → Map ObjectValue → ℕ → ProcessValue → List ℕ → List ℕ → World
readied w objects p a ds vs = made_ready (record w { objects = objects }) p a ds vs

module _ (w : World) (m : Map ObjectValue) (p q : ℕ) (a b : ProcessValue) (ds es vs us : List ℕ) (sorted : T (is_sorted nat_cmp w.processes))
    (apart : (p == q) ≡ false) where
  ready_comm : readied (readied w m p a ds vs) m q b es us ≡ readied (readied w m q b es us) m p a ds vs
  unfolding made_ready
  ready_comm = λ i. record w {
    processes = put_comm w.processes p q (record a { state = Ready; cpu = answered a.cpu ds vs }) (record b { state = Ready; cpu = answered b.cpu es us })
        sorted apart i;
    objects = m;
    blocked = filter_comm (λ x. not (x == q)) (λ x. not (x == p)) w.blocked i;
  }

module _ (w : World) (p q : ℕ) (apart : (p == q) ≡ false) where
  signal_second : (b : ProcessValue) (k mask : ℕ) (es : List ℕ) → get w.processes q ≡ Some b → b.state ≡ Blocked (SignalOf k mask) es
      → meets (active w k) mask ≡ true → woken (woken w p) q ≡ made_ready (woken w p) q b es (0 ∷ active w k ∷ [])
  signal_second b k mask es at is holds =
      let same = (woken-later w p).signals k in
      signal_turn (woken w p) q b k mask es (other_turn w p q apart ∙ at) is (ap (λ (n : ℕ). meets n mask) same ∙ holds)
      ∙ ap (λ (n : ℕ). made_ready (woken w p) q b es (0 ∷ n ∷ [])) same

  packet_second : (b : ProcessValue) (k : ℕ) (es : List ℕ) (o : ObjectValue) (x : Packet) (rest : List Packet) → get w.processes q ≡ Some b
      → b.state ≡ Blocked (PacketAt k) es → get w.objects k ≡ Some o → o.body ≡ PortBody (x ∷ rest) → takes_in w k p ≡ false
      → woken (woken w p) q ≡ made_ready (with_body (woken w p) k o (PortBody rest)) q b es (0 ∷ packet_values x)
  packet_second b k es o x rest at is there port none =
      packet_turn (woken w p) q b k es o x rest (other_turn w p q apart ∙ at) is (other_object w p k none ∙ there) port

  -- it does nothing, before or afterwards
  idle_second : Idle w q → woken (woken w p) q ≡ woken (woken w q) p
  idle_second i =
      idle_turn (woken w p) q (idle_later w q (woken w p) (woken-later w p) (other_turn w p q apart) i) ∙ sym (ap (λ (v : World). woken v p) (idle_turn w q i))

module _ (w : World) (p q : ℕ) (sorted : AreSorted w) (apart : (p == q) ≡ false) (turned : (q == p) ≡ false)
    (none : (port : ℕ) → takes_in w port p ≡ true → takes_in w port q ≡ false) where
  none_back : (port : ℕ) → takes_in w port q ≡ true → takes_in w port p ≡ false
  none_back port takes = elim (cases_Bool (takes_in w port p)) as (λ _. takes_in w port p ≡ false) [
    | inl too ↦ absurd (false≢true (sym (none port too) ∙ takes))
    | inr out ↦ out
  ]

  by_turns : Turn w p → Turn w q → woken (woken w p) q ≡ woken (woken w q) p
  unfolding made_ready
  by_turns t (idle i) = idle_second w p q apart i
  by_turns (idle i) t = sym (idle_second w q p turned i)
  by_turns (by_signal a k m ds at is holds) (by_signal b j n es bt bis bholds) =
      signal_second w p q apart b j n es bt bis bholds ∙ (ap (λ (v : World). made_ready v q b es (0 ∷ active w j ∷ [])) (signal_turn w p a k m ds at is holds)
      ∙ (ready_comm w w.objects p q a b ds es _ _ sorted.processes apart
      ∙ (ap (λ (v : World). made_ready v p a ds (0 ∷ active w k ∷ [])) (sym (signal_turn w q b j n es bt bis bholds))
      ∙ sym (signal_second w q p turned a k m ds at is holds))))
  by_turns (by_signal a k m ds at is holds) (by_packet b j es o x rest bt bis there port) =
      packet_second w p q apart b j es o x rest bt bis there port (rw (at, is) refl)
      ∙ (ap (λ (v : World). made_ready (with_body v j o (PortBody rest)) q b es (0 ∷ packet_values x)) (signal_turn w p a k m ds at is holds)
      ∙ (ready_comm w (put w.objects j (record o { body = PortBody rest })) p q a b ds es _ _ sorted.processes apart
      ∙ (ap (λ (v : World). made_ready v p a ds (0 ∷ active w k ∷ [])) (sym (packet_turn w q b j es o x rest bt bis there port))
      ∙ sym (signal_second w q p turned a k m ds at is holds))))
  by_turns (by_packet a k ds o x rest at is there port) (by_signal b j n es bt bis bholds) =
      signal_second w p q apart b j n es bt bis bholds
      ∙ (ap (λ (v : World). made_ready v q b es (0 ∷ active w j ∷ [])) (packet_turn w p a k ds o x rest at is there port)
      ∙ (ready_comm w (put w.objects k (record o { body = PortBody rest })) p q a b ds es _ _ sorted.processes apart
      ∙ (ap (λ (v : World). made_ready (with_body v k o (PortBody rest)) p a ds (0 ∷ packet_values x)) (sym (signal_turn w q b j n es bt bis bholds))
      ∙ sym (packet_second w q p turned a k ds o x rest at is there port (rw (bt, bis) refl)))))
  by_turns (by_packet a k ds o x rest at is there port) (by_packet b j es u y more bt bis bthere bport) =
      let differs : (j == k) ≡ false = rw (bt, bis) at (none k (rw (at, is) (eq-eqb k k refl))) in
      let differs2 : (k == j) ≡ false = rw (at, is) at (none_back j (rw (bt, bis) (eq-eqb j j refl))) in
      let swap : put (put w.objects k (record o { body = PortBody rest })) j (record u { body = PortBody more })
      ≡ put (put w.objects j (record u { body = PortBody more })) k (record o { body = PortBody rest }) =
      put_comm w.objects k j (record o { body = PortBody rest }) (record u { body = PortBody more }) sorted.objects differs2 in
      packet_second w p q apart b j es u y more bt bis bthere bport (rw (at, is) differs2)
      ∙ (ap (λ (v : World). made_ready (with_body v j u (PortBody more)) q b es (0 ∷ packet_values y)) (packet_turn w p a k ds o x rest at is there port)
      ∙ ((λ i. readied (readied w (swap i) p a ds (0 ∷ packet_values x)) (swap i) q b es (0 ∷ packet_values y))
      ∙ (ready_comm w (put (put w.objects j (record u { body = PortBody more })) k (record o { body = PortBody rest })) p q a b ds es _ _ sorted.processes apart
      ∙ (ap (λ (v : World). made_ready (with_body v k o (PortBody rest)) p a ds (0 ∷ packet_values x))
      (sym (packet_turn w q b j es u y more bt bis bthere bport))
      ∙ sym (packet_second w q p turned a k ds o x rest at is there port (rw (bt, bis) differs))))))

  pub turns_exchanged : woken (woken w p) q ≡ woken (woken w q) p
  turns_exchanged = by_turns (turn_of w p) (turn_of w q)

-- ---- a turn comes first

apart_back : (p q : ℕ) → (q == p) ≡ false → (p == q) ≡ false
apart_back p q apart = grind (arith, nat_tests, apart)

-- after a turn of one that takes no packets from the port the same processes wait for these
same_takes : (w : World) (port q : ℕ) → takes_in w port q ≡ false → (x : ℕ) → takes_in (woken w q) port x ≡ takes_in w port x
same_takes w port q none x = elim (cases_Bool (q == x)) as (λ _. takes_in (woken w q) port x ≡ takes_in w port x) [
  | inl here ↦ subst (λ (y : ℕ). takes_in (woken w q) port y ≡ takes_in w port y) (eqb-true q x here) (own_turn w q port none ∙ sym none)
  | inr apart ↦ ap (state_passes (takes_from port)) (other_turn w q x apart)
]

-- a process that is the first of those that wait for packets of its port may have its turn before all others
pub turn_first : (p : ℕ) (b : List ℕ) (w : World) → AreSorted w → ◌≡◌ {A = ℕ} (times p b) 1
    → ((port : ℕ) → takes_in w port p ≡ true → slice_get (filter (takes_in w port) b) 0 ≡ Some p)
    → fold woken w b ≡ fold woken (woken w p) (filter (λ x. not (x == p)) b)
turn_first p [] w sorted once first = absurd (omega (arith, once))
turn_first p (q ∷ b) w sorted once first = by_test (cases_Bool (q == p)) (turn_first p b (woken w q) (turn_sorted w q sorted))
  where
    by_test : IsTrue (q == p) ⊎ ((q == p) ≡ false)
        → (◌≡◌ {A = ℕ} (times p b) 1 → ((port : ℕ) → takes_in (woken w q) port p ≡ true → slice_get (filter (takes_in (woken w q) port) b) 0 ≡ Some p)
        → fold woken (woken w q) b ≡ fold woken (woken (woken w q) p) (filter (λ x. not (x == p)) b))
        → fold woken (woken w q) b ≡ fold woken (woken w p) (filter (λ x. not (x == p)) (q ∷ b))
    by_test (inl here) later =
        let counted : ◌≡◌ {A = ℕ} (1 + times p b) 1 =
        subst (λ (t : Bool). ◌≡◌ {A = ℕ} ((if t then 1 else 0) + times p b) 1) here (sym (times_cons p q b) ∙ once) in
        rw here (ap (λ (x : ℕ). fold woken (woken w x) b) (eqb-true q p here)
        ∙ ap (fold woken (woken w p)) (sym (none_filtered p b (omega (arith, counted)))))
    by_test (inr apart) later =
        let counted : ◌≡◌ {A = ℕ} (0 + times p b) 1 =
        subst (λ (t : Bool). ◌≡◌ {A = ℕ} ((if t then 1 else 0) + times p b) 1) apart (sym (times_cons p q b) ∙ once) in
        rw apart (later (omega (arith, counted)) first_later
        ∙ ap (λ (v : World). fold woken v (filter (λ x. not (x == p)) b)) (sym (turns_exchanged w p q sorted (apart_back p q apart) apart none)))
      where
        none : (port : ℕ) → takes_in w port p ≡ true → takes_in w port q ≡ false
        none port takes = elim (cases_Bool (takes_in w port q)) as (λ _. takes_in w port q ≡ false) [
          | inl too ↦ absurd (false≢true (sym apart ∙ eq-eqb q p (same_Some q p (rw too at (first port takes)))))
          | inr out ↦ out
        ]

        first_later : (port : ℕ) → takes_in (woken w q) port p ≡ true → slice_get (filter (takes_in (woken w q) port) b) 0 ≡ Some p
        first_later port takes =
            let was : takes_in w port p ≡ true = sym (ap (state_passes (takes_from port)) (other_turn w q p apart)) ∙ takes in
            let out : takes_in w port q ≡ false = none port was in
            (λ i. slice_get (filter (λ x. same_takes w port q out x i) b) 0) ∙ (rw out at (first port was))
