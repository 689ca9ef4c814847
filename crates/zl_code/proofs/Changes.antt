-- The elementary changes of which a step is made.
use Rattle.zl_code.proofs.Common.{All, Awaited, Blocked, Body, Bool, ChannelEnd, Cpu, Created, Ended, Entry, HandlesAreNamed, HandlesAreSound, HasItsObject}
use Rattle.zl_code.proofs.Common.{HasPeer, HasPeerOf, IsSound, IsTrue, Kind, List, Map, Message, None, Object, Option, Packet, PairEnd, PortBody, Process}
use Rattle.zl_code.proofs.Common.{Ready, Setting, Settles, Some, StandsBelow, State, Wait, World, [], answered, ap, append-nil, arith, body_of, body_packed}
use Rattle.zl_code.proofs.Common.{body_with_packets, cases_Bool, ended, entry_at, eq-eqb, eqb-true, false, filter, fired, get, get-put, get-update, has_child}
use Rattle.zl_code.proofs.Common.{has_default_rights, has_key, if◌then◌else◌, in_order, inl, inr, is_blocked, is_by_handle, is_job_below, is_port_there}
use Rattle.zl_code.proofs.Common.{is_process, is_process_of, kind_number, kind_of, length, length-append, list_all, lives, made_ready, may_get, message_read}
use Rattle.zl_code.proofs.Common.{message_sent, names_its_object, ne_eqb, not, object_changed, object_killed, on_object, on_process, option_map, packets_for}
use Rattle.zl_code.proofs.Common.{policy_changed, process_ended, process_with, process_without, put, queue_of, raisable, refl, registered, repacked, runs}
use Rattle.zl_code.proofs.Common.{same_Some, same_kind, state_passes, subst, suc, sym, true, update, waiting, with_body, with_object, with_process, within}
use Rattle.zl_code.proofs.Common.{without, without_keyed, without_waits, ℕ, ℤ, ◌++◌, ◌+◌, ◌<◌, ◌==◌, ◌∙◌, ◌∷◌, ◌≡◌, ◌≤◌}
use Rattle.std.proofs.lemmas.List.Elements.{filter-append}
use Rattle.zl_rights.specs.declared.kind.Kind.TheVariants as kind
use Rattle.zl_code.proofs.MapKept.{in_order-each, Changed, same, changed, new, EachChanged, unchanged, changed_put}
use Rattle.zl_code.proofs.MapKept.{changed_update, changed_each}
use Rattle.zl_rights.proofs.MapEdits.{is_sorted-update, sorted_put}

-- ---- registered waits

-- What is true of a wait within a step too: if its handle is live, it names the object that the wait watches.
pub record IsWait (w : World) (x : Wait) : Type 0 where
  pub handle : (e : Entry) → entry_at w x.pid x.value ≡ Some e → e.koid ≡ x.object
  pub port : IsTrue (is_port_there (body_of w x.port))

-- none of the waits was made by the value v of the process p
abbrev pub AreUnmade : List Wait → ℕ → ℕ → Type 0
AreUnmade waits p v = All (λ x. is_by_handle p v x ≡ false) waits

-- the waits are as they were, or fewer, or one more
pub data WaitsChange (start w w2 : World) : Type 0 where
  alike : w2.waits ≡ w.waits → WaitsChange start w w2
  fewer : (test : Wait → Bool) → w2.waits ≡ filter test w.waits → WaitsChange start w w2
  begins : (x : Wait) → w2.waits ≡ w.waits ++ (x ∷ []) → w2.processes ≡ w.processes → (IsSound start → IsWait w2 x) → WaitsChange start w w2

-- ---- what becomes of one process and of one object, in a step that begins at the world start

-- e may enter the table of x, the process p, at the value v; after is the world in which it stands there
pub record MayEnter (start after : World) (p : ℕ) (x : Process) (v : ℕ) (e : Entry) : Type 0 where
  pub value : IsSound start → IsTrue (may_get x v)
  pub room : IsSound start → length x.handles < 1024
  pub running : IsSound start → IsTrue (runs x.state)
  pub unmade : IsSound start → AreUnmade after.waits p v
  pub rights : HandlesAreSound start → IsTrue (has_default_rights e)
  pub names : HandlesAreNamed start → names_its_object after.objects e

-- x, the process p, becomes y
pub data ProcessChange (start after : World) (p : ℕ) (x y : Process) : Type 0 where
  -- a handle enters its table
  handle_enters : (v : ℕ) (e : Entry) → y ≡ process_with v e x → MayEnter start after p x v e → ProcessChange start after p x y
  -- a handle leaves it
  handle_leaves : (v : ℕ) → y ≡ record x { handles = without x.handles v; last = Some v } → has_key x.handles v ≡ true → ProcessChange start after p x y
  -- it goes on, by itself or with an answer
  computes : (c : Cpu) → y ≡ record x { cpu = c } → ProcessChange start after p x y
  -- it is over, and its handles are closed
  ends : (code : ℤ) → y ≡ record x { state = Ended code; handles = []; last = None } → ProcessChange start after p x y
  -- it was blocked, and is ready
  wakes : (c : Cpu) → y ≡ record x { state = Ready; cpu = c } → IsTrue (runs x.state) → ProcessChange start after p x y
  -- it was not started yet, and is ready
  starts : (c : Cpu) → y ≡ record x { state = Ready; cpu = c } → x.state ≡ Created → ProcessChange start after p x y
  -- it was ready, and waits within a call
  blocks : (awaited : Awaited) (destinations : List ℕ) → y ≡ record x { state = Blocked awaited destinations } → IsTrue (runs x.state)
      → ProcessChange start after p x y

-- a process that is made between w and after
pub record IsNewProcess (start w after : World) (k : ℕ) (y : Process) : Type 0 where
  pub free : IsSound start → get w.processes k ≡ None
  pub given : k < after.next_koid
  pub empty : y.handles ≡ []
  pub nothing_last : y.last ≡ None
  pub object : IsSound start → HasItsObject after.objects k

-- the handles in the message are fine in the world after
pub record MayBeSent (start after : World) (m : Message) : Type 0 where
  pub rights : HandlesAreSound start → IsTrue (list_all has_default_rights m.handles)
  pub names : HandlesAreNamed start → All (names_its_object after.objects) m.handles

-- no job lives directly below the job k, and no process
pub record IsChildless (w : World) (k : ℕ) : Type 0 where
  pub jobs : (c : ℕ) (o : Object) → get w.objects c ≡ Some o → is_job_below k o.body ≡ false
  pub processes : (p : ℕ) (q : Process) (o : Object) → get w.processes p ≡ Some q → IsTrue (lives q.state) → get w.objects p ≡ Some o
      → is_process_of k o.body ≡ false

-- x becomes y
pub data ObjectChange (start after : World) (k : ℕ) (x y : Object) : Type 0 where
  -- a call cleared and raised signals
  signals_change : (clear set : ℕ) → y ≡ object_changed clear set x → (IsSound start → IsTrue (within set (raisable x.body))) → ObjectChange start after k x y
  -- packets came to a port, or left it
  packets_change : (old packets : List Packet) → x.body ≡ PortBody old → y ≡ record x { body = PortBody packets } → ObjectChange start after k x y
  -- a message came to a channel end
  message_comes : (m : Message) → y ≡ message_sent m x → MayBeSent start after m → ObjectChange start after k x y
  -- the first message was read
  message_goes : y ≡ message_read x → ObjectChange start after k x y
  -- the policy of a job without living children was set
  policy_changes : (s : Option Setting) → y ≡ policy_changed s x → (IsSound start → has_child start k ≡ false) → ObjectChange start after k x y
  -- it was killed, if it is a job, and nothing lives directly below it
  dies : y ≡ object_killed true x → (IsSound start → IsChildless after k) → ObjectChange start after k x y

-- an object that is made between w and after
pub record IsNewObject (start w after : World) (k : ℕ) (y : Object) : Type 0 where
  pub next : w.next_koid ≤ k
  pub given : k < after.next_koid
  pub quiet : queue_of y.body ≡ []
  pub unraised : y.raised ≡ 0
  pub peer : HasPeer after.objects after.next_koid y.body
  pub tree : IsSound start → StandsBelow after.objects k y.body

-- how often p stands in the list
abbrev pub times : ℕ → List ℕ → ℕ
times p ps = length (filter (λ q. q == p) ps)

-- p is as it was among the blocked; or it isn't blocked, and not among them; or it is blocked, and once among them
pub data KeepsBlocked (w w2 : World) (p : ℕ) : Type 0 where
  still : times p w2.blocked ≡ times p w.blocked → is_process w2 is_blocked p ≡ is_process w is_blocked p → KeepsBlocked w w2 p
  awake : times p w2.blocked ≡ 0 → is_process w2 is_blocked p ≡ false → KeepsBlocked w w2 p
  asleep : times p w2.blocked ≡ 1 → is_process w2 is_blocked p ≡ true → KeepsBlocked w w2 p

-- one change, in a step that begins at start
pub record Change (start w w2 : World) : Type 0 where
  pub next_koid : w.next_koid ≤ w2.next_koid
  pub processes_in_order : IsTrue (in_order w.processes) → IsTrue (in_order w2.processes)
  pub objects_in_order : IsTrue (in_order w.objects) → IsTrue (in_order w2.objects)
  pub processes : EachChanged (ProcessChange start w2) (IsNewProcess start w w2) w.processes w2.processes
  pub objects : EachChanged (ObjectChange start w2) (IsNewObject start w w2) w.objects w2.objects
  pub blocked : IsSound start → (p : ℕ) → KeepsBlocked w w2 p
  pub waits : WaitsChange start w w2

-- changes one after another, and what settles
pub data Changes (start : World) : World → World → Type 0 where
  stays : (w : World) → Changes start w w
  changes : (u v w : World) → Change start u v → Changes start v w → Changes start u w
  settles : (u v w : World) → Settles u v → Changes start v w → Changes start u w

pub join : (start u v w : World) → Changes start u v → Changes start v w → Changes start u w
join start _ _ w (stays u) b = b
join start _ _ w (changes u m v c a) b = changes u m w c (join start m v w a b)
join start _ _ w (settles u m v c a) b = settles u m w c (join start m v w a b)

pub one : (start w w2 : World) → Change start w w2 → Changes start w w2
one start w w2 c = changes w w2 w2 c (stays w2)

-- what each change and each settling keeps, all of them keep
pub kept : (start : World) (P : World → Type 0) → ((u v : World) → Change start u v → P u → P v) → ((u v : World) → Settles u v → P u → P v) → (u w : World)
    → Changes start u w → P u → P w
kept start P by_change by_settling _ _ (stays w) p = p
kept start P by_change by_settling _ _ (changes u v w c rest) p = kept start P by_change by_settling v w rest (by_change u v c p)
kept start P by_change by_settling _ _ (settles u v w c rest) p = kept start P by_change by_settling v w rest (by_settling u v c p)

-- what is true of a table stays true of it, where it is true of none, and of one without a handle or with one more
pub table_kept : (P : Map Entry → Type 0) (start after : World) → P [] → ((m : Map Entry) (v : ℕ) → P m → P (without m v))
    → ((m : Map Entry) (v : ℕ) (e : Entry) → (HandlesAreSound start → IsTrue (has_default_rights e))
    → (HandlesAreNamed start → names_its_object after.objects e) → P m → P (put m v e))
    → (p : ℕ) (x y : Process) → ProcessChange start after p x y → P x.handles → P y.handles
table_kept P start after none out in_ p x y (handle_enters v e is may) t = rw is (in_ x.handles v e may.rights may.names t)
table_kept P start after none out in_ p x y (handle_leaves v is there) t = rw is (out x.handles v t)
table_kept P start after none out in_ p x y (computes c is) t = rw is t
table_kept P start after none out in_ p x y (ends code is) t = rw is none
table_kept P start after none out in_ p x y (wakes c is running) t = rw is t
table_kept P start after none out in_ p x y (starts c is created) t = rw is t
table_kept P start after none out in_ p x y (blocks awaited ds is running) t = rw is t

-- ---- the list of the blocked

pub times-same : (p : ℕ) (ps : List ℕ) → times p (filter (λ q. not (q == p)) ps) ≡ 0
times-same p [] = refl
times-same p (q ∷ ps) = elim (cases_Bool (q == p)) as (λ _. times p (filter (λ x. not (x == p)) (q ∷ ps)) ≡ 0) [
  | inl is ↦ rw is (times-same p ps)
  | inr other ↦ rw (other, other) (times-same p ps)
]

pub times-other : (p k : ℕ) → (p == k) ≡ false → (ps : List ℕ) → times k (filter (λ q. not (q == p)) ps) ≡ times k ps
times-other p k apart [] = refl
times-other p k apart (q ∷ ps) = elim (cases_Bool (q == p)) as (λ _. times k (filter (λ x. not (x == p)) (q ∷ ps)) ≡ times k (q ∷ ps)) [
  | inl is ↦
      let no : (q == k) ≡ false = subst (λ (j : ℕ). (j == k) ≡ false) (sym (eqb-true q p is)) apart in
      rw (is, no) (times-other p k apart ps)
  | inr other ↦ rw other (by_test (q == k) (times-other p k apart ps))
]
  where
    by_test : (b : Bool) → times k (filter (λ x. not (x == p)) ps) ≡ times k ps
        → length (if b then q ∷ filter (λ x. x == k) (filter (λ x. not (x == p)) ps) else filter (λ x. x == k) (filter (λ x. not (x == p)) ps))
        ≡ length (if b then q ∷ filter (λ x. x == k) ps else filter (λ x. x == k) ps)
    by_test true e = ap (λ (n : ℕ). suc n) e
    by_test false e = e

-- p behind the list
pub times-behind : (p k : ℕ) → (p == k) ≡ false → (ps : List ℕ) → times k (ps ++ (p ∷ [])) ≡ times k ps
times-behind p k other ps = ap length (filter-append (λ q. q == k) ps (p ∷ [])) ∙ rw other (ap length (append-nil (filter (λ q. q == k) ps)))

pub times-last : (p : ℕ) (ps : List ℕ) → times p ps ≡ 0 → times p (ps ++ (p ∷ [])) ≡ 1
times-last p ps none =
    ap length (filter-append (λ q. q == p) ps (p ∷ []))
    ∙ (length-append (filter (λ q. q == p) ps) (filter (λ q. q == p) (p ∷ [])) ∙ rw (none, eq-eqb p p refl) refl)

-- the list without p, where p isn't blocked after
without_one : (w w2 : World) (p : ℕ) → w2.blocked ≡ filter (λ q. not (q == p)) w.blocked → is_process w2 is_blocked p ≡ false
    → ((k : ℕ) → (p == k) ≡ false → get w2.processes k ≡ get w.processes k) → (k : ℕ) → KeepsBlocked w w2 k
unfolding is_process
without_one w w2 p list here apart k = elim (cases_Bool (p == k)) as (λ _. KeepsBlocked w w2 k) [
  | inl is ↦ subst (KeepsBlocked w w2) (eqb-true p k is) (awake (ap (times p) list ∙ times-same p w.blocked) here)
  | inr other ↦ still (ap (times k) list ∙ times-other p k other w.blocked) (ap (state_passes is_blocked) (apart k other))
]

-- ---- changes of a process

state_kept : (m : Map Process) (p : ℕ) (f : Process → Process) → ((x : Process) → (f x).state ≡ x.state) → (k : ℕ)
    → state_passes is_blocked (get (update m p f) k) ≡ state_passes is_blocked (get m k)
state_kept m p f same_state k = ap (state_passes is_blocked) (get-update m p f k) ∙ by_test (p == k) (get m k)
  where
    by_test : (b : Bool) (o : Option Process) → state_passes is_blocked (if b then option_map f o else o) ≡ state_passes is_blocked o
    by_test true None = refl
    by_test true (Some x) = ap is_blocked (same_state x)
    by_test false o = refl

pub process_changes : (start w : World) (p : ℕ) (f : Process → Process) → ((x : Process) → get w.processes p ≡ Some x
    → Changed (ProcessChange start (on_process w p f) p) (IsNewProcess start w (on_process w p f) p) (Some x) (Some (f x)))
    → ((x : Process) → (f x).state ≡ x.state) → Change start w (on_process w p f)
unfolding on_process is_process
process_changes start w p f ok same_state = record {
  next_koid = omega arith;
  processes_in_order = λ h. rw (is_sorted-update w.processes p f) h;
  objects_in_order = λ h. h;
  processes = changed_update _ _ w.processes p f ok;
  objects = unchanged _ _ w.objects w.objects refl;
  blocked = λ s k. still refl (state_kept w.processes p f same_state k);
  waits = alike refl;
}

-- a handle leaves a table, if it is there
pub handle_goes : (start w : World) (p v : ℕ) → Change start w (on_process w p (process_without v))
handle_goes start w p v = process_changes start w p (process_without v) (λ x at. by_key x (has_key x.handles v) refl) (λ x. state_of x (has_key x.handles v))
  where
    after : Bool → Process → Process
    after b x = if b then record x { handles = without x.handles v; last = Some v } else x

    state_of : (x : Process) (b : Bool) → (after b x).state ≡ x.state
    state_of x true = refl
    state_of x false = refl

    by_key : (x : Process) (b : Bool) → has_key x.handles v ≡ b
        → Changed (ProcessChange start (on_process w p (process_without v)) p) (IsNewProcess start w (on_process w p (process_without v)) p) (Some x)
        (Some (after b x))
    by_key x true is = changed x _ refl refl (handle_leaves v refl is)
    by_key x false is = same refl

pub process_ends : (start w : World) (p : ℕ) (code : ℤ) → Change start w (ended w p code)
unfolding ended on_process is_process
process_ends start w p code = record {
  next_koid = omega arith;
  processes_in_order = λ h. rw (is_sorted-update w.processes p (process_ended code)) h;
  objects_in_order = λ h. h;
  processes = changed_update _ _ w.processes p (process_ended code) (λ x there. by_life x (lives x.state));
  objects = unchanged _ _ w.objects w.objects refl;
  blocked =
      λ s. without_one w (ended w p code) p refl
      (ap (state_passes is_blocked) (get-update w.processes p (process_ended code) p ∙ rw (eq-eqb p p refl) refl) ∙ by_process (get w.processes p))
      (λ k other. get-update w.processes p (process_ended code) k ∙ rw other refl);
  waits = alike refl;
}
  where
    after : Bool → Process → Process
    after b x = if b then record x { state = Ended code; handles = []; last = None } else x

    by_life : (x : Process) (b : Bool) → Changed (ProcessChange start (ended w p code) p) (IsNewProcess start w (ended w p code) p) (Some x) (Some (after b x))
    by_life x true = changed x _ refl refl (ends code refl)
    by_life x false = same refl

    unblocked : (x : Process) (s : State) → x.state ≡ s → is_blocked (after (lives s) x).state ≡ false
    unblocked x Created is = refl
    unblocked x Ready is = refl
    unblocked x (Blocked awaited destinations) is = refl
    unblocked x _ is = ap is_blocked is

    by_process : (o : Option Process) → state_passes is_blocked (option_map (process_ended code) o) ≡ false
    by_process None = refl
    by_process (Some x) = unblocked x x.state refl

pub process_wakes : (start w : World) (p : ℕ) (q : Process) (ds vs : List ℕ) → get w.processes p ≡ Some q → IsTrue (runs q.state)
    → Change start w (made_ready w p q ds vs)
unfolding made_ready is_process
process_wakes start w p q ds vs there running = record {
  next_koid = omega arith;
  processes_in_order = sorted_put w.processes p _;
  objects_in_order = λ h. h;
  processes = changed_put _ _ w.processes p _ (changed q _ there refl (wakes (answered q.cpu ds vs) refl running));
  objects = unchanged _ _ w.objects w.objects refl;
  blocked = λ s. without_one w (made_ready w p q ds vs) p refl
      (ap (state_passes is_blocked) {y = Some (record q { state = Ready; cpu = answered q.cpu ds vs })} (get-put w.processes p _ p ∙ rw (eq-eqb p p refl) refl))
      (λ k other. get-put w.processes p _ k ∙ rw other refl);
  waits = alike refl;
}

-- a ready process waits within a call, last of all
pub process_blocks : (w : World) (p : ℕ) (q : Process) (ds : List ℕ) (awaited : Awaited) → get w.processes p ≡ Some q → q.state ≡ Ready
    → Change w w (waiting w p ds (Some awaited))
unfolding on_process is_process
process_blocks w p q ds awaited there ready = record {
  next_koid = omega arith;
  processes_in_order = λ h. rw (is_sorted-update w.processes p blocked) h;
  objects_in_order = λ h. h;
  processes = changed_update _ _ w.processes p blocked
      (λ x at. changed x _ refl refl (blocks awaited ds refl (rw (ap (λ (y : Process). y.state) (same_Some x q (sym at ∙ there)), ready) refl)));
  objects = unchanged _ _ w.objects w.objects refl;
  blocked = λ s k. elim (cases_Bool (p == k)) as (λ _. KeepsBlocked w (waiting w p ds (Some awaited)) k) [
    | inl is ↦ subst (KeepsBlocked w (waiting w p ds (Some awaited))) (eqb-true p k is)
        (asleep (times-last p w.blocked (s.blocked p ∙ rw (there, ready) refl))
        (ap (state_passes is_blocked) {y = Some (blocked q)} (get-update w.processes p blocked p ∙ rw (eq-eqb p p refl, there) refl)))
    | inr other ↦ still (times-behind p k other w.blocked) (ap (state_passes is_blocked) (get-update w.processes p blocked k ∙ rw other refl))
  ];
  waits = alike refl;
}
  where
    blocked : Process → Process
    blocked x = record x { state = Blocked awaited ds }

-- a process that was not started yet is ready
pub process_starts : (start w : World) (p : ℕ) (f : Process → Cpu) → ((x : Process) → get w.processes p ≡ Some x → x.state ≡ Created)
    → Change start w (on_process w p (λ x. record x { state = Ready; cpu = f x }))
unfolding on_process is_process
process_starts start w p f created = record {
  next_koid = omega arith;
  processes_in_order = λ h. rw (is_sorted-update w.processes p after) h;
  objects_in_order = λ h. h;
  processes = changed_update _ _ w.processes p after (λ x at. changed x _ refl refl (starts (f x) refl (created x at)));
  objects = unchanged _ _ w.objects w.objects refl;
  blocked =
      λ s k. still refl (ap (state_passes is_blocked) (get-update w.processes p after k) ∙ elim (cases_Bool (p == k)) as (λ _.
      state_passes is_blocked (if p == k then option_map after (get w.processes k) else get w.processes k) ≡ state_passes is_blocked (get w.processes k)) [
        | inl here ↦ rw (here, ← eqb-true p k here) (unblocked (get w.processes p) refl)
        | inr other ↦ rw other refl
      ]);
  waits = alike refl;
}
  where
    after : Process → Process
    after x = record x { state = Ready; cpu = f x }

    unblocked : (o : Option Process) → get w.processes p ≡ o → state_passes is_blocked (option_map after o) ≡ state_passes is_blocked o
    unblocked None at = refl
    unblocked (Some x) at = sym (ap is_blocked (created x at))

pub process_is_made : (start w : World) (k : ℕ) (y : Process) → IsNewProcess start w (with_process w k y) k y → is_blocked y.state ≡ false
    → Change start w (with_process w k y)
unfolding is_process
process_is_made start w k y fine unblocked = record {
  next_koid = omega arith;
  processes_in_order = sorted_put w.processes k y;
  objects_in_order = λ h. h;
  processes = changed_put _ _ w.processes k y (new y refl fine);
  objects = unchanged _ _ w.objects w.objects refl;
  blocked =
      λ s p. still refl (ap (state_passes is_blocked) (get-put w.processes k y p) ∙ elim (cases_Bool (k == p))
      as (λ _. state_passes is_blocked (if k == p then Some y else get w.processes p) ≡ state_passes is_blocked (get w.processes p)) [
        | inl here ↦ rw (here, ← eqb-true k p here, fine.free s) unblocked
        | inr other ↦ rw other refl
      ]);
  waits = alike refl;
}

-- ---- changes of an object

-- a world with other objects alone
objects_alone : (start w w2 : World) → w2.processes ≡ w.processes → w2.blocked ≡ w.blocked → w.next_koid ≤ w2.next_koid
    → (IsTrue (in_order w.objects) → IsTrue (in_order w2.objects)) → EachChanged (ObjectChange start w2) (IsNewObject start w w2) w.objects w2.objects
    → WaitsChange start w w2 → Change start w w2
unfolding is_process
objects_alone start w w2 processes blocked next order objects waits = record {
  next_koid = next;
  processes_in_order = λ h. rw processes h;
  objects_in_order = order;
  processes = unchanged _ _ w.processes w2.processes processes;
  objects = objects;
  blocked = λ s p. still (ap (times p) blocked) (ap (λ (m : Map Process). state_passes is_blocked (get m p)) processes);
  waits = waits;
}

pub object_changes : (start w : World) (k : ℕ) (f : Object → Object)
    → ((x : Object) → get w.objects k ≡ Some x → ObjectChange start (on_object w k f) k x (f x)) → Change start w (on_object w k f)
unfolding on_object
object_changes start w k f ok =
    objects_alone start w (on_object w k f) refl refl (omega arith) (λ h. rw (is_sorted-update w.objects k f) h)
    (changed_update _ _ w.objects k f (λ x there. changed x _ refl refl (ok x there))) (alike refl)

pub object_is_made : (start w : World) (b : Body) → queue_of b ≡ [] → HasPeer (with_object w b).objects (with_object w b).next_koid b
    → (IsSound start → StandsBelow (with_object w b).objects w.next_koid b) → Change start w (with_object w b)
unfolding with_object
object_is_made start w b quiet peer tree =
    objects_alone start w (with_object w b) refl refl (omega arith) (sorted_put w.objects w.next_koid _) (changed_put _ _ w.objects w.next_koid _
    (new _ refl (record { next = omega arith; given = omega arith; quiet = quiet; unraised = refl; peer = peer; tree = tree }))) (alike refl)

-- an object is made as the end of a pair of this kind; nothing is to be read at it
pub record MakesEnds (end_to : ℕ → Body) (k : Kind) : Type 0 where
  pub kind_is : (peer : ℕ) → kind_of (end_to peer) ≡ k
  pub quiet : (peer : ℕ) → queue_of (end_to peer) ≡ []
  pub peer : (m : Map Object) (n peer : ℕ) → HasPeerOf k m n peer → HasPeer m n (end_to peer)
  pub tree : (m : Map Object) (j peer : ℕ) → StandsBelow m j (end_to peer)

pub channel_ends : MakesEnds (λ peer. ChannelEnd peer []) kind.Channel
channel_ends = record { kind_is = λ peer. refl; quiet = λ peer. refl; peer = λ m n peer has. has; tree = λ m j peer. tt }

pub pair_ends : MakesEnds (λ peer. PairEnd peer) kind.Eventpair
pair_ends = record { kind_is = λ peer. refl; quiet = λ peer. refl; peer = λ m n peer has. has; tree = λ m j peer. tt }

-- both ends of a pair
pub ends_are_made : {end_to : ℕ → Body} {kind : Kind} (start w : World) (n : ℕ) → w.next_koid ≡ n → MakesEnds end_to kind
    → Change start w (with_object (with_object w (end_to (n + 1))) (end_to n))
unfolding with_object
ends_are_made {end_to} {kind} start w n here makes =
    objects_alone start w after refl refl (omega arith) (λ h. sorted_put first _ _ (sorted_put w.objects _ _ h)) at_koid (alike refl)
  where
    after : World
    after = with_object (with_object w (end_to (n + 1))) (end_to n)

    end_at : ℕ → Object
    end_at peer = record { body = end_to peer; raised = 0 }

    first : Map Object
    first = put w.objects w.next_koid (end_at (n + 1))

    both : Map Object
    both = put first (w.next_koid + 1) (end_at n)

    at_first : get both n ≡ Some (end_at (n + 1))
    at_first =
        get-put first (w.next_koid + 1) (end_at n) n
        ∙ (rw (ne_eqb (w.next_koid + 1) n (λ e. omega (arith, here))) (get-put w.objects w.next_koid (end_at (n + 1)) n ∙ rw (eq-eqb w.next_koid n here) refl))

    at_second : get both (n + 1) ≡ Some (end_at n)
    at_second = get-put first (w.next_koid + 1) (end_at n) (n + 1) ∙ rw (eq-eqb (w.next_koid + 1) (n + 1) (omega (arith, here))) refl

    -- an end is of the kind of both
    is_end : (peer : ℕ) → IsTrue (same_kind kind (kind_of (end_to peer)))
    is_end peer = rw (makes.kind_is peer) (eq-eqb (kind_number kind) (kind_number kind) refl)

    made : (k peer : ℕ) → w.next_koid ≤ k → k < w.next_koid + 1 + 1 → HasPeerOf kind both (w.next_koid + 1 + 1) peer → IsNewObject start w after k (end_at peer)
    made k peer low high has = record {
      next = low;
      given = high;
      quiet = makes.quiet peer;
      unraised = refl;
      peer = makes.peer both (w.next_koid + 1 + 1) peer has;
      tree = λ s. makes.tree both k peer;
    }

    at_koid : EachChanged (ObjectChange start after) (IsNewObject start w after) w.objects both
    at_koid k =
        elim (cases_Bool (w.next_koid + 1 == k)) as (λ _. Changed (ObjectChange start after k) (IsNewObject start w after k) (get w.objects k) (get both k)) [
          | inl second ↦
              let is : w.next_koid + 1 ≡ k = eqb-true (w.next_koid + 1) k second in
              new (end_at n) (get-put first (w.next_koid + 1) (end_at n) k ∙ rw second refl)
              (made k n (omega (arith, is)) (omega (arith, is)) (omega (arith, here), rw at_first (is_end (n + 1))))
          | inr other ↦
              elim (cases_Bool (w.next_koid == k)) as (λ _. Changed (ObjectChange start after k) (IsNewObject start w after k) (get w.objects k) (get both k)) [
                | inl now ↦
                    let is : w.next_koid ≡ k = eqb-true w.next_koid k now in
                    new (end_at (n + 1))
                    (get-put first (w.next_koid + 1) (end_at n) k ∙ (rw other (get-put w.objects w.next_koid (end_at (n + 1)) k ∙ rw now refl)))
                    (made k (n + 1) (omega (arith, is)) (omega (arith, is)) (omega (arith, here), rw at_second (is_end n)))
                | inr apart ↦
                    same (get-put first (w.next_koid + 1) (end_at n) k ∙ (rw other (get-put w.objects w.next_koid (end_at (n + 1)) k ∙ rw apart refl)))
              ]
        ]

-- packets come to a port, or leave it
pub packets_are_changed : (start w : World) (k : ℕ) (f : List Packet → List Packet) → Change start w (on_object w k (repacked f))
unfolding on_object
packets_are_changed start w k f =
    objects_alone start w (on_object w k (repacked f)) refl refl (omega arith) (λ h. rw (is_sorted-update w.objects k (repacked f)) h)
    (changed_update _ _ w.objects k (repacked f) (λ x there. by_body x x.body refl)) (alike refl)
  where
    other : (x : Object) → body_packed f x.body ≡ x.body
        → Changed (ObjectChange start (on_object w k (repacked f)) k) (IsNewObject start w (on_object w k (repacked f)) k) (Some x) (Some (repacked f x))
    other x e = same (ap (λ (b : Body). Some (record x { body = b })) e)

    by_body : (x : Object) (b : Body) → x.body ≡ b
        → Changed (ObjectChange start (on_object w k (repacked f)) k) (IsNewObject start w (on_object w k (repacked f)) k) (Some x) (Some (repacked f x))
    by_body x (PortBody packets) is = changed x _ refl refl (packets_change packets _ is (ap (λ (b : Body). record x { body = body_packed f b }) is))
    by_body x _ is = other x (ap (body_packed f) is ∙ sym is)

-- a wait is registered
pub wait_begins : (start w : World) (x : Wait) → (IsSound start → IsWait (registered w x) x) → Change start w (registered w x)
wait_begins start w x fine =
    objects_alone start w (registered w x) refl refl (omega arith) (λ h. h) (unchanged _ _ w.objects w.objects refl) (begins x refl refl fine)

-- waits with a key end
pub keyed_end : (start w : World) (p v k key : ℕ) → Change start w (without_keyed w p v k key)
keyed_end start w p v k key =
    objects_alone start w (without_keyed w p v k key) refl refl (omega arith) (λ h. h) (unchanged _ _ w.objects w.objects refl) (fewer _ refl)

-- waits end
pub waits_end : (start w : World) (p v : ℕ) → Change start w (without_waits w p v)
waits_end start w p v = objects_alone start w (without_waits w p v) refl refl (omega arith) (λ h. h) (unchanged _ _ w.objects w.objects refl) (fewer _ refl)

-- the first packet leaves the port
pub packet_goes : (start w : World) (k : ℕ) (o : Object) (old rest : List Packet) → get w.objects k ≡ Some o → o.body ≡ PortBody old
    → Change start w (with_body w k o (PortBody rest))
packet_goes start w k o old rest there port =
    objects_alone start w (with_body w k o (PortBody rest)) refl refl (omega arith) (sorted_put w.objects k _)
    (changed_put _ _ w.objects k _ (changed o _ there refl (packets_change old rest port refl))) (alike refl)

pub waits_fire : (start w : World) → Change start w (fired w)
unfolding fired
waits_fire start w =
    objects_alone start w (fired w) refl refl (omega arith)
    (λ h. rw (in_order-each w.objects (λ k o. record o { body = body_with_packets (packets_for w k) o.body })) h)
    (changed_each _ _ w.objects (λ k o. record o { body = body_with_packets (packets_for w k) o.body }) (λ k x. by_body k x x.body refl)) (fewer _ refl)
  where
    other : (k : ℕ) (x : Object) → body_with_packets (packets_for w k) x.body ≡ x.body → Changed (ObjectChange start (fired w) k)
        (IsNewObject start w (fired w) k) (Some x) (Some (record x { body = body_with_packets (packets_for w k) x.body }))
    other k x e = same (ap (λ (b : Body). Some (record x { body = b })) e)

    by_body : (k : ℕ) (x : Object) (b : Body) → x.body ≡ b → Changed (ObjectChange start (fired w) k) (IsNewObject start w (fired w) k) (Some x)
        (Some (record x { body = body_with_packets (packets_for w k) x.body }))
    by_body k x (PortBody packets) is =
        changed x _ refl refl (packets_change packets _ is (ap (λ (b : Body). record x { body = body_with_packets (packets_for w k) b }) is))
    by_body k x (ChannelEnd peer queue) is = other k x (ap (body_with_packets (packets_for w k)) is ∙ sym is)
    by_body k x _ is = other k x (ap (body_with_packets (packets_for w k)) is ∙ sym is)
