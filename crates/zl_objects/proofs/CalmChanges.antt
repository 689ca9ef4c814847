-- Nothing is due at an object that isn't marked, after each change of the objects.
use Rattle.zl_objects.proofs.Common.{Body, Bool, Condition, Err, IsCalm, IsTrue, List, Map, Message, Object, Ok, OnErr, OnOk, PEER_CLOSED, Packet, Port}
use Rattle.zl_objects.proofs.Common.{READABLE, Result, SignalState, Sleeper, Some, StayStill, TERMINATED, WRITABLE, Watch, [], above_of, ap, arith, at_port}
use Rattle.zl_objects.proofs.Common.{bit_or, changed_port, drop, eq-eqb, false, false≢true, filter, get, get-update, has_key, has_packet, held_once_less}
use Rattle.zl_objects.proofs.Common.{held_once_more, if◌then◌else◌, implied_here, inl, is_alive, is_at, is_empty, is_job_below_here, is_process_below}
use Rattle.zl_objects.proofs.Common.{is_watched, is_watched_in, list_any, lookup, nat_cmp, nat_lt, not, packets_of, peer_of, raised_changed, received}
use Rattle.zl_objects.proofs.Common.{received_body, refl, same_Some, sent, sent_body, set_value, signal_if, signals_in, started, started_body, started_life}
use Rattle.zl_objects.proofs.Common.{sym, true, unwatched, update, waits_in, watched, with_policy_body, with_policy_set, without_first, ℕ, ◌&&◌, ◌+◌, ◌==◌, ◌^◌}
use Rattle.zl_objects.proofs.Common.{◌||◌, ◌∙◌, ◌∷◌, ◌≡◌}
use Rattle.zl_rights.specs.declared.policy.Action.{Action}
use Rattle.zl_objects.specs.declared.object.Body.TheVariants as body
use Rattle.zl_objects.specs.declared.object.Life.{Life}
use Rattle.zl_objects.specs.declared.object.Life.TheVariants as life
use Rattle.zl_objects.proofs.ByKoid.{looked_up, written, written_back}
use Rattle.zl_objects.proofs.Calm.{IsFewer, Keeps, Stays, calm_followed, fewer_both, fewer_if, fewer_same, fewer_unmarked, stays_fewer, stays_unwatched}
use Rattle.zl_objects.proofs.Calm.{updated_calm, StayAsleep, as_asleep}
use Rattle.zl_objects.proofs.Places.{first_out, seen_updated}
use Rattle.zl_objects.proofs.Tasks.{policy_same, started_same}
use Rattle.zl_objects.proofs.Whole.{more_quiet, more_same, received_same, same_above, same_peer, sent_same}

-- ---- nothing comes to be due

-- at each object, whichever others are there, by what f does
abbrev pub IsQuiet : (Object → Object) → Type 0
IsQuiet f = (m : Map Object) (k : ℕ) (o : Object)
    → Stays (signals_in m k (Some o)) (signals_in m k (Some (f o))) (has_packet (Some o)) (has_packet (Some (f o))) o (f o)

pub quiet_calm : {marked : ℕ → Bool} {next : ℕ} {sleepers : List Sleeper} (f : Object → Object) → Keeps f → IsQuiet f → (m n : Map Object) (k : ℕ)
    → n ≡ update m k f → IsCalm marked m next sleepers → IsCalm marked n next sleepers
quiet_calm {marked} {next} {sleepers} f keeps quiet m n k is =
    updated_calm f keeps marked marked (λ j h. h) m n next k sleepers (λ o at unmarked. quiet m k o) is

-- its body stays, and its signals and waits
pub keeps_body : (f : Object → Object) → ((o : Object) → StayAsleep o.asleep (f o).asleep) → ((o : Object) → (f o).body ≡ o.body) → Keeps f
keeps_body f asleep same =
    record {
      asleep = asleep;
      jobs = λ j o. ap (is_job_below_here j) (same o);
      processes = λ j o. ap (is_process_below j) (same o);
      peer = λ o. ap peer_of (same o);
      above = λ o. ap above_of (same o);
    }

pub quiet_body : (f : Object → Object) → ((o : Object) → (f o).body ≡ o.body) → ((o : Object) → (f o).signals.raised ≡ o.signals.raised)
    → ((o : Object) (test : Watch → Bool) → list_any test o.signals.waits ≡ false → list_any test (f o).signals.waits ≡ false) → IsQuiet f
quiet_body f same raised shorter m k o =
    stays_fewer (signals_in m k (Some o)) (signals_in m k (Some (f o))) (has_packet (Some o)) (has_packet (Some (f o))) o (f o)
    (fewer_same _ _ (λ i. bit_or (raised o i) (implied_here m k (same o i)))) (λ h. ap (λ (b : Body). not (is_empty (packets_of b))) (same o) ∙ h) (shorter o)

more_asleep : (o : Object) → (held_once_more o).asleep ≡ o.asleep
more_asleep o =
    elim (nat_lt o.handles (2 ^ 62)) as (λ b. (if b then record o { handles = o.handles + 1 } else o).asleep ≡ o.asleep) [ true ↦ refl | false ↦ refl ]

pub keeps_more : Keeps held_once_more
keeps_more = keeps_body held_once_more (λ o. as_asleep (more_asleep o)) more_same

pub more_stays : IsQuiet held_once_more
more_stays = quiet_body held_once_more more_same (λ o. ap (λ (s : SignalState). s.raised) (more_quiet o))
    (λ o test h. ap (λ (s : SignalState). list_any test s.waits) (more_quiet o) ∙ h)

pub keeps_less : Keeps held_once_less
keeps_less = keeps_body held_once_less (λ o h. h) (λ o. refl)

pub less_stays : IsQuiet held_once_less
less_stays = quiet_body held_once_less (λ o. refl) (λ o. refl) (λ o test h. h)

-- one handle less
pub less_still : (m n : Map Object) (k : ℕ) → n ≡ update m k held_once_less → StayStill m n
less_still m n k is = record {
  calm = λ marked next sleepers. quiet_calm held_once_less keeps_less less_stays m n k is;
  waits = rw is (seen_updated waits_in held_once_less (λ o. refl) m k);
}

pub still_then : (m m2 m3 : Map Object) → StayStill m m2 → StayStill m2 m3 → StayStill m m3
still_then m m2 m3 first later = record {
  calm = λ marked next sleepers calm. later.calm marked next sleepers (first.calm marked next sleepers calm);
  waits = λ k. later.waits k ∙ first.waits k;
}

-- the first wait that passes has gone
none_out : (test out : Watch → Bool) (ws : List Watch) → list_any test ws ≡ false → list_any test (without_first out ws) ≡ false
none_out test out [] h = refl
none_out test out (x ∷ ws) h = by_test (test x) refl (out x) refl h (λ rest. none_out test out ws rest)
  where
    by_test : (a : Bool) → test x ≡ a → (b : Bool) → out x ≡ b → (a || list_any test ws) ≡ false
        → (list_any test ws ≡ false → list_any test (without_first out ws) ≡ false) → list_any test (without_first out (x ∷ ws)) ≡ false
    by_test true is b which h later = absurd (false≢true (sym h))
    by_test false is true which h later = rw (first_out out x ws, which) h
    by_test false is false which h later = rw (first_out out x ws, which, is) (later h)

pub keeps_unwatched : (out : Watch → Bool) → Keeps (unwatched out)
keeps_unwatched out = keeps_body (unwatched out) (λ o h. h) (λ o. refl)

pub unwatched_stays : (out : Watch → Bool) → IsQuiet (unwatched out)
unwatched_stays out = quiet_body (unwatched out) (λ o. refl) (λ o. refl) (λ o test h. none_out test out o.signals.waits h)

-- the first wait that passes has gone from one object
pub unwatched_calm : {marked : ℕ → Bool} {next : ℕ} {sleepers : List Sleeper} (out : Watch → Bool) (m n : Map Object) (k : ℕ) → n ≡ update m k (unwatched out)
    → IsCalm marked m next sleepers → IsCalm marked n next sleepers
unwatched_calm out = quiet_calm (unwatched out) (keeps_unwatched out) (unwatched_stays out)

-- ---- what an object is changes

-- it stays as much a child, and no signal comes on and no packet comes
record IsQuietBody (g : Body → Body) : Type 0 where
  jobs : (j : ℕ) (b : Body) → is_job_below_here j (g b) ≡ is_job_below_here j b
  processes : (j : ℕ) (b : Body) → is_process_below j (g b) ≡ is_process_below j b
  fewer : (m : Map Object) (k : ℕ) (b : Body) → IsFewer (implied_here m k (g b)) (implied_here m k b)
  packets : (b : Body) → not (is_empty (packets_of b)) ≡ false → not (is_empty (packets_of (g b))) ≡ false

keeps_bodies : (g : Body → Body) → ((j : ℕ) (b : Body) → is_job_below_here j (g b) ≡ is_job_below_here j b)
    → ((j : ℕ) (b : Body) → is_process_below j (g b) ≡ is_process_below j b) → ((b : Body) → peer_of (g b) ≡ peer_of b)
    → ((b : Body) → above_of (g b) ≡ above_of b) → Keeps (λ o. record o { body = g o.body })
keeps_bodies g jobs processes peer above =
    record { asleep = λ o h. h; jobs = λ j o. jobs j o.body; processes = λ j o. processes j o.body; peer = λ o. peer o.body; above = λ o. above o.body }

bodies_stay : (g : Body → Body) → IsQuietBody g → IsQuiet (λ o. record o { body = g o.body })
bodies_stay g quiet m k o =
    stays_fewer (signals_in m k (Some o)) (signals_in m k (Some (record o { body = g o.body }))) (has_packet (Some o))
    (has_packet (Some (record o { body = g o.body }))) o
    (record o { body = g o.body }) (fewer_both o.signals.raised o.signals.raised (implied_here m k (g o.body)) (implied_here m k o.body) (λ mask h. h)
    (quiet.fewer m k o.body)) (quiet.packets o.body) (λ test h. h)

alive_started : (l : Life) → is_alive (started_life l) ≡ is_alive l
alive_started life.Created = refl
alive_started life.Running = refl
alive_started life.Ended = refl

started_quiet : IsQuietBody started_body
started_quiet = record { jobs = jobs; processes = processes; fewer = fewer; packets = packets }
  where
    jobs : (j : ℕ) (b : Body) → is_job_below_here j (started_body b) ≡ is_job_below_here j b
    jobs j (body.Process job l) = refl
    jobs j _ = refl

    processes : (j : ℕ) (b : Body) → is_process_below j (started_body b) ≡ is_process_below j b
    processes j (body.Process job l) = ap (λ x. (job == j) && x) (alive_started l)
    processes j _ = refl

    fewer : (m : Map Object) (k : ℕ) (b : Body) → IsFewer (implied_here m k (started_body b)) (implied_here m k b)
    fewer m k (body.Process job l) = fewer_same _ _ (ap (λ x. signal_if TERMINATED (not x)) (alive_started l))
    fewer m k _ = λ mask h. h

    packets : (b : Body) → not (is_empty (packets_of b)) ≡ false → not (is_empty (packets_of (started_body b))) ≡ false
    packets (body.Process job l) h = h
    packets _ h = h

pub keeps_started : Keeps started
keeps_started = keeps_bodies started_body started_quiet.jobs started_quiet.processes (λ b. (started_same b).peer) (λ b. (started_same b).above)

pub started_stays : IsQuiet started
started_stays = bodies_stay started_body started_quiet

policy_quiet : (c : Condition) (a : Action) → IsQuietBody (with_policy_body c a)
policy_quiet c a = record { jobs = jobs; processes = processes; fewer = fewer; packets = packets }
  where
    jobs : (j : ℕ) (b : Body) → is_job_below_here j (with_policy_body c a b) ≡ is_job_below_here j b
    jobs j (body.Job own) = refl
    jobs j _ = refl

    processes : (j : ℕ) (b : Body) → is_process_below j (with_policy_body c a b) ≡ is_process_below j b
    processes j (body.Job own) = refl
    processes j _ = refl

    fewer : (m : Map Object) (k : ℕ) (b : Body) → IsFewer (implied_here m k (with_policy_body c a b)) (implied_here m k b)
    fewer m k (body.Job own) = λ mask h. h
    fewer m k _ = λ mask h. h

    packets : (b : Body) → not (is_empty (packets_of b)) ≡ false → not (is_empty (packets_of (with_policy_body c a b))) ≡ false
    packets (body.Job own) h = h
    packets _ h = h

received_quiet : IsQuietBody received_body
received_quiet = record { jobs = jobs; processes = processes; fewer = fewer; packets = packets }
  where
    jobs : (j : ℕ) (b : Body) → is_job_below_here j (received_body b) ≡ is_job_below_here j b
    jobs j (body.ChannelEnd peer queue) = refl
    jobs j _ = refl

    processes : (j : ℕ) (b : Body) → is_process_below j (received_body b) ≡ is_process_below j b
    processes j (body.ChannelEnd peer queue) = refl
    processes j _ = refl

    some_left : (queue : List Message) → IsTrue (not (is_empty (drop 1 queue))) → IsTrue (not (is_empty queue))
    some_left [] h = h
    some_left (x ∷ queue) h = refl

    fewer : (m : Map Object) (k : ℕ) (b : Body) → IsFewer (implied_here m k (received_body b)) (implied_here m k b)
    fewer m k (body.ChannelEnd peer queue) =
        fewer_both (signal_if READABLE (not (is_empty (drop 1 queue)))) (signal_if READABLE (not (is_empty queue)))
        (if has_key m peer then WRITABLE else PEER_CLOSED) (if has_key m peer then WRITABLE else PEER_CLOSED)
        (fewer_if READABLE (not (is_empty (drop 1 queue))) (not (is_empty queue)) (some_left queue)) (λ mask h. h)
    fewer m k _ = λ mask h. h

    packets : (b : Body) → not (is_empty (packets_of b)) ≡ false → not (is_empty (packets_of (received_body b))) ≡ false
    packets (body.ChannelEnd peer queue) h = h
    packets _ h = h

pub keeps_received : Keeps received
keeps_received = keeps_bodies received_body received_quiet.jobs received_quiet.processes (λ b. (received_same b).peer) (λ b. (received_same b).above)

pub received_stays : IsQuiet received
received_stays = bodies_stay received_body received_quiet

module _ (g : Port → Port) where
  port_jobs : (j : ℕ) (b : Body) → is_job_below_here j (changed_port g b) ≡ is_job_below_here j b
  port_jobs j (body.Port p) = refl
  port_jobs j _ = refl

  port_processes : (j : ℕ) (b : Body) → is_process_below j (changed_port g b) ≡ is_process_below j b
  port_processes j (body.Port p) = refl
  port_processes j _ = refl

  pub keeps_port : Keeps (at_port g)
  keeps_port = keeps_bodies (changed_port g) port_jobs port_processes (same_peer g) (same_above g)

  -- no packet comes
  pub port_stays : ((p : Port) → not (is_empty p.packets) ≡ false → not (is_empty (g p).packets) ≡ false) → IsQuiet (at_port g)
  port_stays fewer = bodies_stay (changed_port g) (record { jobs = port_jobs; processes = port_processes; fewer = signals; packets = packets })
    where
      signals : (m : Map Object) (k : ℕ) (b : Body) → IsFewer (implied_here m k (changed_port g b)) (implied_here m k b)
      signals m k (body.Port p) = λ mask h. h
      signals m k _ = λ mask h. h

      packets : (b : Body) → not (is_empty (packets_of b)) ≡ false → not (is_empty (packets_of (changed_port g b))) ≡ false
      packets (body.Port p) h = fewer p h
      packets _ h = h

-- no packet has come to the port
pub port_calm : {marked : ℕ → Bool} {next : ℕ} {sleepers : List Sleeper} (g : Port → Port)
    → ((p : Port) → not (is_empty p.packets) ≡ false → not (is_empty (g p).packets) ≡ false) → (m n : Map Object) (k : ℕ) → n ≡ update m k (at_port g)
    → IsCalm marked m next sleepers → IsCalm marked n next sleepers
port_calm g fewer = quiet_calm (at_port g) (keeps_port g) (port_stays g fewer)

-- the packets that are taken out leave no more
pub front_out : (xs : List Packet) → not (is_empty xs) ≡ false → not (is_empty (drop 1 xs)) ≡ false
front_out [] h = h
front_out (x ∷ xs) h = absurd (false≢true (sym h))

pub some_out : (test : Packet → Bool) (xs : List Packet) → not (is_empty xs) ≡ false → not (is_empty (filter test xs)) ≡ false
some_out test [] h = h
some_out test (x ∷ xs) h = absurd (false≢true (sym h))

-- ---- what changes is marked, if something waits there

pub keeps_changed : (clear set : ℕ) → Keeps (raised_changed clear set)
keeps_changed clear set = keeps_body (raised_changed clear set) (λ o h. h) (λ o. refl)

pub keeps_sent : (message : Message) → Keeps (sent message)
keeps_sent message = keeps_bodies (sent_body message) jobs processes (λ b. (sent_same message b).peer) (λ b. (sent_same message b).above)
  where
    jobs : (j : ℕ) (b : Body) → is_job_below_here j (sent_body message b) ≡ is_job_below_here j b
    jobs j (body.ChannelEnd peer queue) = refl
    jobs j _ = refl

    processes : (j : ℕ) (b : Body) → is_process_below j (sent_body message b) ≡ is_process_below j b
    processes j (body.ChannelEnd peer queue) = refl
    processes j _ = refl

pub keeps_watched : (x : Watch) → Keeps (watched x)
keeps_watched x = keeps_body (watched x) (λ o h. h) (λ o. refl)

-- what isn't marked wasn't to be
pub unless_wanted : (is b : Bool) → (b ≡ true → IsTrue is) → is ≡ false → (x : Bool) → b ≡ x → x ≡ false
unless_wanted is true wanted unmarked x same = absurd (false≢true (sym unmarked ∙ wanted refl))
unless_wanted is false wanted unmarked x same = sym same

-- nothing waits at the object that was found and written, as it isn't marked
unwatched_at : (f : Object → Object) (m : Map Object) (k : ℕ) (v w : Object) → Some v ≡ lookup (is_at (nat_cmp k)) m → (b is : Bool) → b ≡ is_watched w
    → (b ≡ true → IsTrue is) → w ≡ f v → (o : Object) → get m k ≡ Some o → is ≡ false → is_watched (f o) ≡ false
unwatched_at f m k v w there b is watched wanted written o at unmarked =
    let same : v ≡ o = same_Some v o (there ∙ (looked_up m k ∙ at)) in
    ap (λ (x : Object). is_watched (f x)) (sym same) ∙ (ap is_watched (sym written) ∙ unless_wanted is b wanted unmarked (is_watched w) watched)

module _ {marked marked2 : ℕ → Bool} {next : ℕ} {sleepers : List Sleeper} (more : (j : ℕ) → IsTrue (marked j) → IsTrue (marked2 j)) where
  -- with more marks nothing else is so
  pub remarked_calm : (m n : Map Object) → n ≡ m → IsCalm marked m next sleepers → IsCalm marked2 n next sleepers
  remarked_calm m n is calm = rw is (calm_followed marked marked2 m m next next sleepers (omega arith) (fewer_unmarked marked marked2 more)
      (λ k o at. inl (record {
        before = o;
        there = at;
        asleep = λ h. h;
        unmarked = fewer_unmarked marked marked2 more k;
        still = λ unmarked. stays_fewer _ _ _ _ o o (λ mask h. h) (λ h. h) (λ test h. h);
      })) calm)

  -- f was done, and the object is marked unless nothing waits there
  pub written_calm : (f : Object → Object) → Keeps f → (m n : Map Object) (k : ℕ)
      → ((o : Object) → get m k ≡ Some o → marked2 k ≡ false → is_watched (f o) ≡ false) → n ≡ update m k f
      → IsCalm marked m next sleepers → IsCalm marked2 n next sleepers
  written_calm f keeps m n k watched is =
      updated_calm f keeps marked marked2 more m n next k sleepers
      (λ o at unmarked. stays_unwatched _ _ _ _ o (f o) (keeps.asleep o) (watched o at unmarked)) is

  module _ (f : Object → Object) (keeps : Keeps f) (m n : Map Object) (k : ℕ) (v w : Object) (there : Some v ≡ lookup (is_at (nat_cmp k)) m)
      (b : Bool) (watched : b ≡ is_watched w) (wanted : b ≡ true → IsTrue (marked2 k)) where
    -- the object that was found was written
    pub found_calm : w ≡ f v → n ≡ update m k f → IsCalm marked m next sleepers → IsCalm marked2 n next sleepers
    found_calm is set = written_calm f keeps m n k (λ o at unmarked. unwatched_at f m k v w there b (marked2 k) watched wanted is o at unmarked) set

    -- or that was refused
    pub found_or_same_calm : {A B : Type 0} (r : Result A B) → OnOk r (w ≡ f v) → OnErr r (w ≡ v) → n ≡ set_value (is_at (nat_cmp k)) m w
        → IsCalm marked m next sleepers → IsCalm marked2 n next sleepers
    found_or_same_calm (Ok x) is other set = found_calm is (written m n k f v w there is set)
    found_or_same_calm (Err e) is other set = remarked_calm m n (written_back m n k v w there other set)

  -- the object is marked, whatever waits there
  pub marked_calm : (f : Object → Object) → Keeps f → (m n : Map Object) (k : ℕ) → IsTrue (marked2 k) → n ≡ update m k f
      → IsCalm marked m next sleepers → IsCalm marked2 n next sleepers
  marked_calm f keeps m n k there is =
      updated_calm f keeps marked marked2 more m n next k sleepers (λ o at unmarked. absurd (false≢true (sym unmarked ∙ there))) is

-- or it was written, and is marked if something waits there then
pub watched_after : (f : Object → Object) (m : Map Object) (k : ℕ) (b : Bool) (o : Object) → get m k ≡ Some o → b ≡ is_watched_in (get (update m k f) k)
    → b ≡ is_watched (f o)
watched_after f m k b o at is = is ∙ rw (get-update m k f k, eq-eqb k k refl, at) refl

pub keeps_policy : (c : Condition) (a : Action) → Keeps (with_policy_set c a)
keeps_policy c a = keeps_bodies (with_policy_body c a) (policy_quiet c a).jobs (policy_quiet c a).processes (λ b. (policy_same c a b).peer)
    (λ b. (policy_same c a b).above)

-- a policy was set, or that was refused
pub policy_calm : {A B : Type 0} {marked : ℕ → Bool} {next : ℕ} {sleepers : List Sleeper} (c : Condition) (a : Action) (m n : Map Object) (k : ℕ) (v w : Object)
    (r : Result A B) → OnOk r (w ≡ with_policy_set c a v) → OnErr r (w ≡ v) → Some v ≡ lookup (is_at (nat_cmp k)) m → n ≡ set_value (is_at (nat_cmp k)) m w
    → IsCalm marked m next sleepers → IsCalm marked n next sleepers
policy_calm c a m n k v w (Ok x) is other there set calm =
    quiet_calm (with_policy_set c a) (keeps_policy c a)
    (bodies_stay (with_policy_body c a) (policy_quiet c a)) m n k (written m n k (with_policy_set c a) v w there is set) calm
policy_calm c a m n k v w (Err e) is other there set calm = rw (written_back m n k v w there other set) calm
