-- One round of waking suffices: no wait that is left holds, and what is still blocked after its turn stays so.
use Rattle.std.proofs.Common.{◌≡◌, ℕ, Bool, true, false, ◌==◌, List, [], ◌∷◌, map, refl, sym, ap, ◌∙◌, Option, Some, None, inl, inr, subst, IsTrue}
use Rattle.std.specs.Prelude.{if◌then◌else◌}
use Rattle.std.specs.List.{list_any, fold}
use Rattle.std.proofs.lemmas.Bool.{cases_Bool, or_cases, or_left, or_right, false≢true, eqb-true, eq-eqb}
use Rattle.std.proofs.lemmas.List.{append-nil}
use Rattle.zl_rights.specs.Numbers.{meets}
use Rattle.zl_rights.specs.Map.{get, put}
use Rattle.zl_rights.specs.World.{World, Process, State, Blocked, SignalOf, PacketAt, Object, Body, PortBody, Packet}
use Rattle.zl_rights.specs.Signals.{active, lives, has_ended}
use Rattle.zl_rights.specs.Wakes.{holds, fired, body_with_packets, packets_for, packet_of, made_ready, with_body, woken, woken_if_there, woken_from}
use Rattle.zl_rights.specs.Wakes.{woken_at_port, woken_by, wakes}
use Rattle.zl_rights.proofs.MapLaws.{get-put}
use Rattle.zl_rights.specs.Settled.{among}
use Rattle.zl_rights.proofs.MapTests.{filter_none, filter_all, none_left, list_any-and, each_same, gone, among-filtered, apart_from}
use Rattle.zl_rights.proofs.SameSignals.{fired-active, made_ready-active, with_rest-active}

-- ---- what the turns of blocked processes leave as it was

abbrev pub has_no_packet : Body → Bool
has_no_packet (PortBody (x ∷ rest)) = false
has_no_packet _ = true

-- no port with a packet stands there
abbrev pub offers_nothing : Option Object → Bool
offers_nothing None = true
offers_nothing (Some o) = has_no_packet o.body

-- v is u after some turns, as far as later turns see it
pub record IsLater (u v : World) : Type 0 where
  pub signals : (k : ℕ) → active v k ≡ active u k
  -- no process blocks, and one that is still blocked is as it was
  pub blocked : (q : ℕ) → IsTrue (among v.blocked q) → IsTrue (among u.blocked q)
  pub processes : (q : ℕ) → IsTrue (among v.blocked q) → get v.processes q ≡ get u.processes q
  -- a port without a packet gets none
  pub objects : (k : ℕ) → IsTrue (offers_nothing (get u.objects k)) → get v.objects k ≡ get u.objects k
  pub waits : v.waits ≡ u.waits

IsLater-same : (w : World) → IsLater w w
IsLater-same w = record { signals = λ k. refl; blocked = λ q h. h; processes = λ q h. refl; objects = λ k h. refl; waits = refl }

IsLater-after : (u v w : World) → IsLater u v → IsLater v w → IsLater u w
IsLater-after u v w a b = record {
  signals = λ k. b.signals k ∙ a.signals k;
  blocked = λ q h. a.blocked q (b.blocked q h);
  processes = λ q h. b.processes q h ∙ a.processes q (b.blocked q h);
  objects = λ k h. b.objects k (rw (a.objects k h) h) ∙ a.objects k h;
  waits = b.waits ∙ a.waits;
}

module _ (w : World) (p : ℕ) (process : Process) (destinations values : List ℕ) (there : get w.processes p ≡ Some process) where
  made_ready-later : lives process.state ≡ true → has_ended process.state ≡ false → IsLater w (made_ready w p process destinations values)
  unfolding made_ready
  made_ready-later alive unended = record {
    signals = made_ready-active w p process destinations values there alive unended;
    blocked = among-filtered _ w.blocked;
    processes = λ q h. get-put w.processes p _ q ∙ rw (apart_from w.blocked p q h) refl;
    objects = λ k h. refl;
    waits = refl;
  }

module _ (w : World) (k : ℕ) (o : Object) (x : Packet) (rest : List Packet) (there : get w.objects k ≡ Some o) (port : o.body ≡ PortBody (x ∷ rest)) where
  with_rest-later : IsLater w (with_body w k o (PortBody rest))
  with_rest-later = record {
    signals = with_rest-active w k o (x ∷ rest) rest there port;
    blocked = λ q h. h;
    processes = λ q h. refl;
    objects = λ j h. elim (cases_Bool (k == j)) as (λ _. get (put w.objects k (record o { body = PortBody rest })) j ≡ get w.objects j) [
      | inl here ↦ absurd (false≢true (rw (← eqb-true k j here, there, port) at h))
      | inr apart ↦ get-put w.objects k _ j ∙ rw apart refl
    ];
    waits = refl;
  }

module _ (w : World) (p : ℕ) (process : Process) (there : get w.processes p ≡ Some process) where
  woken_by-later : lives process.state ≡ true → has_ended process.state ≡ false → (k : ℕ) (destinations : List ℕ) (o : Object) → get w.objects k ≡ Some o
      → (b : Body) → o.body ≡ b → IsLater w (woken_by w p process k destinations o b)
  woken_by-later alive unended k destinations o here (PortBody (x ∷ rest)) port =
      IsLater-after w _ _ (with_rest-later w k o x rest here port)
      (made_ready-later (with_body w k o (PortBody rest)) p process destinations _ there alive unended)
  woken_by-later alive unended k destinations o here _ port = IsLater-same w

  woken_at_port-later : lives process.state ≡ true → has_ended process.state ≡ false → (k : ℕ) (destinations : List ℕ) (o : Option Object) → get w.objects k ≡ o
      → IsLater w (woken_at_port w p process k destinations o)
  woken_at_port-later alive unended k destinations None e = IsLater-same w
  woken_at_port-later alive unended k destinations (Some o) e = woken_by-later alive unended k destinations o e o.body refl

  woken_from-later : (s : State) → process.state ≡ s → IsLater w (woken_from w p process s)
  woken_from-later (Blocked (SignalOf k mask) destinations) e =
      elim (meets (active w k) mask) as (λ b. IsLater w (if b then made_ready w p process destinations (0 ∷ active w k ∷ []) else w)) [
        | true ↦ made_ready-later w p process destinations _ there (ap lives e) (ap has_ended e)
        | false ↦ IsLater-same w
      ]
  woken_from-later (Blocked (PacketAt k) destinations) e = woken_at_port-later (ap lives e) (ap has_ended e) k destinations (get w.objects k) refl
  woken_from-later _ e = IsLater-same w

woken_if_there-later : (w : World) (p : ℕ) (o : Option Process) → get w.processes p ≡ o → IsLater w (woken_if_there w p o)
woken_if_there-later w p None e = IsLater-same w
woken_if_there-later w p (Some process) e = woken_from-later w p process e process.state refl

pub woken-later : (w : World) (p : ℕ) → IsLater w (woken w p)
unfolding woken
woken-later w p = woken_if_there-later w p (get w.processes p) refl

pub turns-later : (w : World) (ps : List ℕ) → IsLater w (fold woken w ps)
turns-later w [] = IsLater-same w
turns-later w (p ∷ ps) = IsLater-after w (woken w p) _ (woken-later w p) (turns-later (woken w p) ps)

-- ---- a process that is still blocked after its turn would not wake later either

-- p has its turn in u, and v is later
module _ (u v : World) (p : ℕ) (later : IsLater u v) where
  woken_by-stays : (process : Process) (k : ℕ) (destinations : List ℕ) (o : Object) → (IsTrue (has_no_packet o.body) → get v.objects k ≡ Some o)
      → (b : Body) → o.body ≡ b
      → IsTrue (among (woken_by u p process k destinations o b).blocked p) → woken_at_port v p process k destinations (get v.objects k) ≡ v
  unfolding made_ready
  woken_by-stays process k destinations o same (PortBody (x ∷ rest)) e h = absurd (false≢true (sym (gone u.blocked p) ∙ h))
  woken_by-stays process k destinations o same _ e h = rw (same (rw e refl), e) refl

  woken_at_port-stays : (process : Process) (k : ℕ) (destinations : List ℕ) (o : Option Object) → (IsTrue (offers_nothing o) → get v.objects k ≡ o)
      → IsTrue (among (woken_at_port u p process k destinations o).blocked p) → woken_at_port v p process k destinations (get v.objects k) ≡ v
  woken_at_port-stays process k destinations None same h = rw (same refl) refl
  woken_at_port-stays process k destinations (Some o) same h = woken_by-stays process k destinations o same o.body refl h

  woken_from-stays : (process : Process) (s : State) → IsTrue (among (woken_from u p process s).blocked p) → woken_from v p process s ≡ v
  unfolding made_ready
  woken_from-stays process (Blocked (SignalOf k mask) destinations) h = rw (later.signals k) (by_test (meets (active u k) mask) (0 ∷ active u k ∷ []) h)
    where
      by_test : (b : Bool) (values : List ℕ) → IsTrue (among (if b then made_ready u p process destinations values else u).blocked p)
          → (if b then made_ready v p process destinations values else v) ≡ v
      by_test true values stays = absurd (false≢true (sym (gone u.blocked p) ∙ stays))
      by_test false values stays = refl
  woken_from-stays process (Blocked (PacketAt k) destinations) h = woken_at_port-stays process k destinations (get u.objects k) (later.objects k) h
  woken_from-stays process _ h = refl

  woken_if_there-stays : (o : Option Process) → IsTrue (among (woken_if_there u p o).blocked p) → woken_if_there v p o ≡ v
  woken_if_there-stays None h = refl
  woken_if_there-stays (Some process) h = woken_from-stays process process.state h

pub woken-stays : (u v : World) (p : ℕ) → IsLater (woken u p) v → IsTrue (among v.blocked p) → woken v p ≡ v
unfolding woken
woken-stays u v p later h =
    let since = IsLater-after u (woken u p) v (woken-later u p) later in
    rw (since.processes p h) (woken_if_there-stays u v p since (get u.processes p) (later.blocked p h))

-- another turn of a process that had one and is still blocked at the end changes nothing
turns-stay : (u : World) (ps : List ℕ) (q : ℕ) → IsTrue (among ps q) → IsTrue (among (fold woken u ps).blocked q) → woken (fold woken u ps) q ≡ fold woken u ps
turns-stay u [] q h blocked = absurd (false≢true h)
turns-stay u (p ∷ ps) q h blocked = elim (or_cases (p == q) (among ps q) h) as (λ _. woken (fold woken (woken u p) ps) q ≡ fold woken (woken u p) ps) [
  | inl same ↦ woken-stays u (fold woken (woken u p) ps) q
      (subst (λ x. IsLater (woken u x) (fold woken (woken u p) ps)) (eqb-true p q same) (turns-later (woken u p) ps)) blocked
  | inr later ↦ turns-stay (woken u p) ps q later blocked
]

no_turn : (w : World) (ps : List ℕ) → ((q : ℕ) → IsTrue (among ps q) → woken w q ≡ w) → fold woken w ps ≡ w
no_turn w [] stays = refl
no_turn w (p ∷ ps) stays = rw (stays p (or_left (p == p) _ (eq-eqb p p refl))) (no_turn w ps (λ q h. stays q (or_right (p == q) _ h)))

-- ---- one round suffices

wakes-later : (w : World) → IsLater (fired w) (wakes w)
unfolding wakes
wakes-later w = turns-later (fired w) w.blocked

-- waking changes no signal
pub wakes-active : (w : World) (k : ℕ) → active (wakes w) k ≡ active w k
wakes-active w k = (wakes-later w).signals k ∙ fired-active w k

holds-same : (w : World) → holds (wakes w) ≡ holds w
unfolding holds
holds-same w = λ i. λ x. meets (wakes-active w x.object i) x.mask

none_left_holds : (w : World) → list_any (holds w) (fired w).waits ≡ false
unfolding fired
none_left_holds w = none_left (holds w) w.waits

-- no wait that is still registered holds
pub none_holds : (w : World) → list_any (holds (wakes w)) (wakes w).waits ≡ false
none_holds w = (λ i. list_any (holds-same w i) ((wakes-later w).waits i)) ∙ none_left_holds w

no_packets : (b : Body) → body_with_packets [] b ≡ b
no_packets (PortBody packets) = ap PortBody (append-nil packets)
no_packets _ = refl

-- where no wait holds, none gives a packet and none goes
pub fired-same : (w : World) → list_any (holds w) w.waits ≡ false → fired w ≡ w
unfolding fired
fired-same w none = λ i. record w { objects = each_same _ unchanged w.objects i; waits = filter_all (holds w) w.waits none i }
  where
    unchanged : (k : ℕ) (o : Object) → record o { body = body_with_packets (packets_for w k) o.body } ≡ o
    unchanged k o = λ i. record o {
      body =
          (ap (λ xs. body_with_packets (map (packet_of w) xs) o.body) (filter_none _ w.waits (list_any-and (holds w) (λ x. x.port == k) w.waits none))
          ∙ no_packets o.body) i;
    }

-- where no wait holds, waking is the turns of the blocked processes, one after another
pub wakes_turns : (w : World) → list_any (holds w) w.waits ≡ false → wakes w ≡ fold woken w w.blocked
unfolding wakes
wakes_turns w none = ap (λ v. fold woken v w.blocked) (fired-same w none)

pub wakes-again : (w : World) → wakes (wakes w) ≡ wakes w
unfolding wakes fired
wakes-again w =
    ap (λ v. fold woken v (wakes w).blocked) (fired-same (wakes w) (none_holds w))
    ∙ no_turn (wakes w) (wakes w).blocked (λ q h. turns-stay (fired w) w.blocked q ((wakes-later w).blocked q h) h)
