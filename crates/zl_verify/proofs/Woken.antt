-- What settling and waking leave of a process that is as its typing says, and of what its job allows it.
use Rattle.zl_code.proofs.Common.{Koids, get-where_key-in, get-where_key-out, where_key}
use Rattle.zl_verify.proofs.Common.{Awaited, Blocked, Body, Condition, Conforms, Created, Ended, EndsStep, HasItsObject, Image, IsFitStep, IsRunStep, IsSized}
use Rattle.zl_verify.proofs.Common.{IsSizedObject, IsSound, IsTrue, IsTyping, Library, Life, List, None, Object, Option, Packet, PacketAt, PortBody, Process}
use Rattle.zl_verify.proofs.Common.{ProcessBody, Ready, Settles, SignalOf, Some, State, TraceItem, World, [], action_of, active, answered, ap, body_in, body_of}
use Rattle.zl_verify.proofs.Common.{body_with_packets, cases_Bool, condition_number, creates, eqb-true, false, fired, get, get-each, get-put, has_ended}
use Rattle.zl_verify.proofs.Common.{if◌then◌else◌, inl, inr, is_among, is_in_range, lives, made_ready, none-some, option_map, packet_values, packets_for}
use Rattle.zl_verify.proofs.Common.{parent_in, parent_of, policy_in, process_settled, refl, run_sound, runs, same_Some, state_without, stays, step_sound, subst}
use Rattle.zl_verify.proofs.Common.{sym, true, unless_allowed, unwrap_or, wakes, with_body, without_others, woken, ℕ, ◌==◌, ◌∙◌, ◌∷◌, ◌≡◌, ◌⊎◌}
use Rattle.zl_verify.specs.WakeLaws.{wakes as is_woken}
use Rattle.zl_rights.specs.declared.policy.Action.TheVariants as action
use Rattle.zl_verify.proofs.Waking.{turn_by, wakes_by}
use Rattle.zl_verify.proofs.Calm.{active_few}
use Rattle.zl_verify.proofs.SizedWorlds.{settled_sized, fired_sized, woken_sized}
use Rattle.zl_verify.proofs.SizedRuns.{acted_sized, world_sized}
use Rattle.zl_verify.proofs.Awaking.{IsTyped, is_typed, IsAwake, signal_wakes, packet_wakes}

-- ---- bodies stay, but for their packets

-- a body without its packets
abbrev pub bare : Option Body → Option Body
bare (Some (PortBody packets)) = Some (PortBody [])
bare o = o

-- whatever stood in w stands in w2, and nothing more, with other packets at most
pub record AreBare (w w2 : World) : Type 0 where
  pub same : (k : ℕ) → bare (body_of w2 k) ≡ bare (body_of w k)

bare_then : (u v w : World) → AreBare u v → AreBare v w → AreBare u w
bare_then u v w a b = record { same = λ k. b.same k ∙ a.same k }

same_bare : (w w2 : World) → w2.objects ≡ w.objects → AreBare w w2
same_bare w w2 e = record { same = λ k. ap (λ m. bare (body_in (get m k))) e }

fired_bare : (w : World) → AreBare w (fired w)
unfolding fired
fired_bare w = record {
  same =
      λ k. ap (λ o. bare (body_in o)) (get-each w.objects (λ j o. record o { body = body_with_packets (packets_for w j) o.body }) k) ∙ by k (get w.objects k);
}
  where
    by_body : (more : List Packet) (b : Body) → bare (Some (body_with_packets more b)) ≡ bare (Some b)
    by_body more (PortBody packets) = refl
    by_body more _ = refl

    by : (k : ℕ) (o : Option Object)
        → bare (body_in (option_map (λ (x : Object). record x { body = body_with_packets (packets_for w k) x.body }) o)) ≡ bare (body_in o)
    by k None = refl
    by k (Some o) = by_body (packets_for w k) o.body

put_bare : (w : World) (k : ℕ) (o : Object) (packets rest : List Packet) → get w.objects k ≡ Some o → o.body ≡ PortBody packets
    → AreBare w (with_body w k o (PortBody rest))
put_bare w k o packets rest there port =
    record { same = λ j. ap (λ x. bare (body_in x)) (get-put w.objects k (record o { body = PortBody rest }) j) ∙ by j (cases_Bool (k == j)) }
  where
    by : (j : ℕ) → ((k == j) ≡ true) ⊎ ((k == j) ≡ false)
        → bare (body_in (if k == j then Some (record o { body = PortBody rest }) else get w.objects j)) ≡ bare (body_in (get w.objects j))
    by j (inl here) = rw (here, ← eqb-true k j here, there, port) refl
    by j (inr other) = rw other refl

woken_bare : (w : World) (p : ℕ) → AreBare w (woken w p)
unfolding made_ready
woken_bare w p =
    turn_by (AreBare w) w p (same_bare w w refl) (λ y at k mask ds blocked. same_bare w _ refl) (λ y at k ds blocked o there x rest port.
    bare_then w (with_body w k o (PortBody rest)) _ (put_bare w k o (x ∷ rest) rest there port) (same_bare (with_body w k o (PortBody rest)) _ refl))

wakes_bare : (w : World) → AreBare w (wakes w)
wakes_bare w = wakes_by (AreBare w) (λ u p a. bare_then w u _ a (woken_bare u p)) w (fired_bare w)

-- ---- what a job allows

bare_parent : (o : Option Body) → parent_in (bare o) ≡ parent_in o
bare_parent (Some (PortBody packets)) = refl
bare_parent _ = refl

bare_policy : (o : Option Body) → policy_in (bare o) ≡ policy_in o
bare_policy (Some (PortBody packets)) = refl
bare_policy _ = refl

module _ (w w2 : World) (a : AreBare w w2) where
  same_parent : (k : ℕ) → parent_of w2 k ≡ parent_of w k
  same_parent k = sym (bare_parent (body_of w2 k)) ∙ (ap parent_in (a.same k) ∙ bare_parent (body_of w k))

  same_policy : (k : ℕ) → policy_in (body_of w2 k) ≡ policy_in (body_of w k)
  same_policy k = sym (bare_policy (body_of w2 k)) ∙ (ap policy_in (a.same k) ∙ bare_policy (body_of w k))

  bare_creates : (p : ℕ) (c : Condition) → creates w2 p c ≡ creates w p c
  unfolding creates
  bare_creates p c =
      ap (λ j. unless_allowed (action_of w2 j c)) (same_parent p)
      ∙ ap (λ m. unless_allowed (unwrap_or (get m (condition_number c)) action.Allow)) (same_policy (parent_of w p))

none_bare : (o : Option Body) → bare o ≡ None → o ≡ None
none_bare None e = refl
none_bare (Some (PortBody packets)) e = cc
none_bare (Some _) e = cc

-- what is there after settling and waking, with this, was there before
module _ (u w2 : World) (K : Koids) (a : AreBare (without_others u K) w2) where
  body_kept : (k : ℕ) (b : Body) → body_of w2 k ≡ Some b → body_of (without_others u K) k ≡ body_of u k
  unfolding without_others
  body_kept k b is = either (cases_Bool (K k))
    where
      either : (K k ≡ true) ⊎ (K k ≡ false) → body_in (get (where_key K u.objects) k) ≡ body_of u k
      either (inl kept) = ap body_in (get-where_key-in u.objects K k kept)
      either (inr gone) =
          let before : body_in (get (where_key K u.objects) k) ≡ None = ap body_in (get-where_key-out u.objects K k gone) in
          let after : body_of w2 k ≡ None = none_bare (body_of w2 k) (a.same k ∙ ap bare before) in
          absurd (none-some b (sym after ∙ is))

  settled_creates : (p : ℕ) → HasItsObject w2.objects p → (c : Condition) → creates (without_others u K) p c ≡ creates u p c
  unfolding creates
  settled_creates p own c =
      ap (λ j. unless_allowed (action_of (without_others u K) j c)) above
      ∙ (ap (λ o. unless_allowed (unwrap_or (get (policy_in o) (condition_number c)) action.Allow)) (body_kept own.job _ own.lives.there)
      ∙ ap (λ j. unless_allowed (action_of u j c)) (sym above ∙ ap parent_in (body_kept p (ProcessBody own.job) own.there)))
    where
      above : parent_of (without_others u K) p ≡ own.job
      above = sym (same_parent (without_others u K) w2 a p) ∙ ap parent_in own.there

-- who lives after settling is allowed as much as before
pub settled_allowed : (u v : World) → Settles u v → IsSound v → (p : ℕ) (y : Process) → get v.processes p ≡ Some y → lives y.state ≡ true → (c : Condition)
    → creates v p c ≡ creates u p c
settled_allowed u v (K, largest, is) sound p y there living c =
    let alike : AreBare (without_others u K) v = same_bare (without_others u K) v (ap (λ (z : World). z.objects) is) in
    bare_creates (without_others u K) v alike p c ∙ settled_creates u v K alike p (sound.living p y there living) c

-- ---- the process

-- q stands at p, or what it became as it woke
record HasBecome (i : Image) (t : ℕ → Option State) (p : ℕ) (q : Process) (u : World) : Type 0 where
  now : Process
  there : get u.processes p ≡ Some now
  made : (now ≡ q) ⊎ ((awaited : Awaited) × (ds : List ℕ) × (q.state ≡ Blocked awaited ds) × IsAwake i t q now)

module _ (i : Image) (t : ℕ → Option State) (range : is_in_range i ≡ true) (typing : IsTyping i t) (p : ℕ) (q : Process) (k : IsTyped i t q) where
  module _ (u : World) (s : IsSized u) (h : HasBecome i t p q u) (m : ℕ) where
    -- m gets its answer, in a world with the same processes
    readied : (v : World) → v.processes ≡ u.processes → (y : Process) → get u.processes m ≡ Some y → (awaited : Awaited) (ds vs : List ℕ)
        → y.state ≡ Blocked awaited ds
        → (get u.processes p ≡ Some q → q.state ≡ Blocked awaited ds → IsAwake i t q (record q { state = Ready; cpu = answered q.cpu ds vs }))
        → HasBecome i t p q (made_ready v m y ds vs)
    unfolding made_ready
    readied v same y at awaited ds vs blocked awake = by (cases_Bool (m == p))
      where
        here : (m == p) ≡ true → get u.processes p ≡ Some y
        here e = subst (λ j. get u.processes j ≡ Some y) (eqb-true m p e) at

        ready_blocked : Ready ≡ Blocked awaited ds → ⊥
        ready_blocked e = cc

        own : (m == p) ≡ true → (h.now ≡ q) ⊎ ((awaited : Awaited) × (ds : List ℕ) × (q.state ≡ Blocked awaited ds) × IsAwake i t q h.now)
            → HasBecome i t p q (made_ready v m y ds vs)
        own e (inl was) =
            let is : y ≡ q = same_Some y h.now (sym (here e) ∙ h.there) ∙ was in
            let waited : q.state ≡ Blocked awaited ds = sym (ap (λ (z : Process). z.state) is) ∙ blocked in
            record {
              now = record y { state = Ready; cpu = answered y.cpu ds vs };
              there = get-put v.processes m (record y { state = Ready; cpu = answered y.cpu ds vs }) p ∙ rw e refl;
              made = inr (
                awaited,
                ds,
                waited,
                subst (λ (z : Process). IsAwake i t q (record z { state = Ready; cpu = answered z.cpu ds vs })) (sym is) (awake (here e ∙ ap Some is) waited),
              );
            }
        own e (inr (a, d, was, up)) =
            let is : y ≡ h.now = same_Some y h.now (sym (here e) ∙ h.there) in
            absurd (ready_blocked (sym up.ready ∙ (sym (ap (λ (z : Process). z.state) is) ∙ blocked)))

        by : ((m == p) ≡ true) ⊎ ((m == p) ≡ false) → HasBecome i t p q (made_ready v m y ds vs)
        by (inl e) = own e h.made
        by (inr e) = record {
          now = h.now;
          there = get-put v.processes m (record y { state = Ready; cpu = answered y.cpu ds vs }) p ∙ rw e (ap (λ ps. get ps p) same ∙ h.there);
          made = h.made;
        }

    turn : HasBecome i t p q (woken u m)
    turn =
        turn_by (HasBecome i t p q) u m h (λ y at koid mask ds blocked. readied u refl y at (SignalOf koid mask) ds (0 ∷ active u koid ∷ []) blocked
        (λ there waited.
        signal_wakes i t range typing u p q there k koid mask ds waited (active u koid) (active_few u koid (λ o is. (s.kept koid o is).signals))))
        (λ y at koid ds blocked o there x rest port. readied (with_body u koid o (PortBody rest)) refl y at (PacketAt koid) ds (0 ∷ packet_values x) blocked
        (λ here waited.
        packet_wakes i t range typing u p q here k koid ds waited x (subst (λ b. IsSizedObject b o.raised) port (s.kept koid o there)).packets.0))

  become : (w : World) → IsSized w → get w.processes p ≡ Some q → HasBecome i t p q (wakes w)
  unfolding fired
  become w s there =
      (wakes_by (λ u. IsSized u × HasBecome i t p q u) (λ u m h. (woken_sized u h.0 m, turn u h.0 h.1 m)) w
      (fired_sized w s, record { now = q; there = there; made = inl refl })).1

-- a process that runs is as it was after settling
pub settled_there : (u v : World) → Settles u v → (p : ℕ) (q : Process) → get u.processes p ≡ Some q → runs q.state ≡ true → get v.processes p ≡ Some q
unfolding without_others
settled_there u v (K, largest, is) p q there running =
    rw is (get-each u.processes (process_settled K) p
    ∙ (ap (option_map (process_settled K p)) there ∙ ap (λ (l : Life). Some (record q { state = l })) (by q.state running)))
  where
    by : (l : Life) → runs l ≡ true → state_without (K p) l ≡ l
    by Ready e = refl
    by (Blocked awaited ds) e = refl
    by Created e = cc
    by _ e = cc

-- what has ended doesn't live
pub not_over : (l : Life) → lives l ≡ true → has_ended l ≡ true → ⊥
not_over (Ended code) living over = cc
not_over _ living over = cc

pub lives_then : (l : Life) → runs l ≡ true → lives l ≡ true
lives_then Ready e = refl
lives_then (Blocked awaited ds) e = refl
lives_then _ e = cc

-- ---- the end of a step

-- a step in a run is one from a world that is sound and sized
abbrev pub fit_of : (lib : Library) (w : World) (p : ℕ) (x : TraceItem) (w2 : World) → IsRunStep lib w p x w2 → IsFitStep lib w p x w2
fit_of lib w p x w2 b = record {
  images = b.begins.images;
  sound = run_sound lib b.statements b.boot w b.items b.begins.boots b.run;
  sized = world_sized lib b.statements b.boot w b.items b.begins b.run;
  step = b.step;
}

module _ (lib : Library) (w : World) (m : ℕ) (x : TraceItem) (w2 : World) (b : IsFitStep lib w m x w2) where
  pub sound_before : IsSound w
  sound_before = b.sound

  sound_after : IsSound w2
  sound_after = step_sound lib w m x w2 sound_before b.step

  settled_so : IsSized b.step.settled
  settled_so = settled_sized b.step.acted b.step.settled b.step.settles (acted_sized lib b.images w m x w2 sound_before b.sized b.step)

  -- a process that lives at the end is allowed as much as right after the act
  pub allowed_after : (p : ℕ) (y : Process) → get w2.processes p ≡ Some y → lives y.state ≡ true → (c : Condition) → creates w2 p c ≡ creates b.step.acted p c
  allowed_after p y there living c = by b.step.settles
    where
      by : Settles b.step.acted b.step.settled → creates w2 p c ≡ creates b.step.acted p c
      by (K, largest, is) =
          let awake : AreBare b.step.settled w2 = subst (AreBare b.step.settled) (sym b.step.ends_awake) (wakes_bare b.step.settled) in
          let alike : AreBare (without_others b.step.acted K) w2 = subst (λ v. AreBare v w2) is awake in
          bare_creates (without_others b.step.acted K) w2 alike p c ∙ settled_creates b.step.acted w2 K alike p (sound_after.living p y there living) c

module _ (i : Image) (t : ℕ → Option State) (range : is_in_range i ≡ true) (typing : IsTyping i t) (lib : Library) (w : World) (m : ℕ) (x : TraceItem)
    (w2 : World) (b : IsFitStep lib w m x w2) where
  module _ (p : ℕ) (q : Process) (there : get b.step.acted.processes p ≡ Some q) (running : runs q.state ≡ true) (k : Conforms i t b.step.acted p q) where
    still_allowed : (y : Process) → get w2.processes p ≡ Some y → lives y.state ≡ true → (c : Condition) → IsTrue (is_among i.needs c) → creates w2 p c ≡ None
    still_allowed y at living c named = allowed_after lib w m x w2 b p y at living c ∙ k.allowed c named

    become_so : HasBecome i t p q w2
    become_so =
        subst (HasBecome i t p q) (sym b.step.ends_awake)
        (become i t range typing p q (is_typed i t b.step.acted p q k) b.step.settled (settled_so lib w m x w2 b)
        (settled_there b.step.acted b.step.settled b.step.settles p q there running))

    ends_from : (h : HasBecome i t p q w2) → (h.now ≡ q) ⊎ ((awaited : Awaited) × (ds : List ℕ) × (q.state ≡ Blocked awaited ds) × IsAwake i t q h.now)
        → EndsStep i t p q w2
    ends_from h (inl was) =
        let at : get w2.processes p ≡ Some q = h.there ∙ ap Some was in
        stays at (record {
          state = k.state;
          stands = k.stands;
          holds = k.holds;
          memory = k.memory;
          counters = k.counters;
          allowed = still_allowed q at (lives_then q.state running);
          waits = k.waits;
        })
    ends_from h (inr (awaited, ds, waited, up)) = is_woken awaited ds waited (record {
      after = h.now;
      there = h.there;
      follows = up.follows;
      counters = up.counters;
      ready = up.ready;
      program = up.program;
      conforms = record {
        state = up.typed.state;
        stands = up.typed.stands;
        holds = up.typed.holds;
        memory = up.typed.memory;
        counters = up.typed.counters;
        allowed = still_allowed h.now h.there (ap lives up.ready);
        waits = up.typed.waits;
      };
    })

    pub ends_step : EndsStep i t p q w2
    ends_step = ends_from become_so become_so.made
