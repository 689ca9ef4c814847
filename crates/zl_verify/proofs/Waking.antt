-- What each turn of waking keeps, waking keeps. A turn changes nothing, or the process that waits gets its answer.
use Rattle.zl_verify.proofs.Common.{Awaited, Blocked, Body, Bool, Life, List, None, Object, Option, Packet, PacketAt, PortBody, Process, SignalOf, Some, World}
use Rattle.zl_verify.proofs.Common.{[], active, false, fired, fold, get, if◌then◌else◌, made_ready, meets, packet_values, refl, true, wakes, with_body, woken}
use Rattle.zl_verify.proofs.Common.{woken_at_port, woken_by, woken_by_first, woken_from, woken_if_there, ℕ, ◌∷◌, ◌≡◌}

module _ (Q : World → Type 0) where
  -- ---- one turn

  module _ (u : World) (m : ℕ) (nothing : Q u) where
    module _ (by_signal : (y : Process) → get u.processes m ≡ Some y → (k mask : ℕ) (ds : List ℕ) → y.state ≡ Blocked (SignalOf k mask) ds
        → Q (made_ready u m y ds (0 ∷ active u k ∷ [])))
        (by_packet : (y : Process) → get u.processes m ≡ Some y → (k : ℕ) (ds : List ℕ) → y.state ≡ Blocked (PacketAt k) ds
        → (o : Object) → get u.objects k ≡ Some o → (x : Packet) (rest : List Packet) → o.body ≡ PortBody (x ∷ rest)
        → Q (made_ready (with_body u k o (PortBody rest)) m y ds (0 ∷ packet_values x))) where
      module _ (y : Process) (at : get u.processes m ≡ Some y) where
        by_test : (k mask : ℕ) (ds : List ℕ) → y.state ≡ Blocked (SignalOf k mask) ds → (b : Bool)
            → Q (if b then made_ready u m y ds (0 ∷ active u k ∷ []) else u)
        by_test k mask ds blocked true = by_signal y at k mask ds blocked
        by_test k mask ds blocked false = nothing

        by_packets : (k : ℕ) (ds : List ℕ) → y.state ≡ Blocked (PacketAt k) ds → (o : Object) → get u.objects k ≡ Some o → (packets : List Packet)
            → o.body ≡ PortBody packets → Q (woken_by_first u m y k ds o packets)
        by_packets k ds blocked o there [] port = nothing
        by_packets k ds blocked o there (x ∷ rest) port = by_packet y at k ds blocked o there x rest port

        by_body : (k : ℕ) (ds : List ℕ) → y.state ≡ Blocked (PacketAt k) ds → (o : Object) → get u.objects k ≡ Some o → (b : Body) → o.body ≡ b
            → Q (woken_by u m y k ds o b)
        by_body k ds blocked o there (PortBody packets) port = by_packets k ds blocked o there packets port
        by_body k ds blocked o there _ port = nothing

        by_object : (k : ℕ) (ds : List ℕ) → y.state ≡ Blocked (PacketAt k) ds → (o : Option Object) → get u.objects k ≡ o → Q (woken_at_port u m y k ds o)
        by_object k ds blocked None there = nothing
        by_object k ds blocked (Some o) there = by_body k ds blocked o there o.body refl

        by_state : (l : Life) → y.state ≡ l → Q (woken_from u m y l)
        by_state (Blocked (SignalOf k mask) ds) is = by_test k mask ds is (meets (active u k) mask)
        by_state (Blocked (PacketAt k) ds) is = by_object k ds is (get u.objects k) refl
        by_state _ is = nothing

      pub turn_by : Q (woken u m)
      unfolding woken
      turn_by = by (get u.processes m) refl
        where
          by : (o : Option Process) → get u.processes m ≡ o → Q (woken_if_there u m o)
          by None is = nothing
          by (Some y) is = by_state y is y.state refl

    -- where it makes no difference what the process waited for
    pub turn_by_answer : ((v : World) → v.processes ≡ u.processes → (y : Process) → get u.processes m ≡ Some y → (awaited : Awaited) (ds vs : List ℕ)
        → y.state ≡ Blocked awaited ds → Q (made_ready v m y ds vs)) → Q (woken u m)
    turn_by_answer readied =
        turn_by (λ y at k mask ds blocked. readied u refl y at (SignalOf k mask) ds (0 ∷ active u k ∷ []) blocked) (λ y at k ds blocked o there x rest port.
        readied (with_body u k o (PortBody rest)) refl y at (PacketAt k) ds (0 ∷ packet_values x) blocked)

  -- ---- all turns

  module _ (turn : (u : World) (m : ℕ) → Q u → Q (woken u m)) where
    turns : (u : World) (ms : List ℕ) → Q u → Q (fold woken u ms)
    turns u [] h = h
    turns u (m ∷ ms) h = turns (woken u m) ms (turn u m h)

    pub wakes_by : (w : World) → Q (fired w) → Q (wakes w)
    unfolding wakes
    wakes_by w h = turns (fired w) w.blocked h
