-- Turns, one after another: what was walked, and what follows it.
use Rattle.zl_sched.proofs.Common.{Adds, End, EndsBy, Follows, IsTrue, Library, List, RunsHere, StopsBefore, System, TraceItem, Walks, World, [], and_parts, ap}
use Rattle.zl_sched.proofs.Common.{append-nil, append_assoc, arith, drop, false, flat_map-append, get_or, goes, halts, is_process, is_ready, is_ready_in}
use Rattle.zl_sched.proofs.Common.{length, length-append, may_step, refl, replicate, replicate-append-replicate, replicate_more, room_of, skips, subst, suc}
use Rattle.zl_sched.proofs.Common.{sym, take, take-append-drop, take_more, turns_of, zero, ℕ, ◌++◌, ◌+◌, ◌-◌, ◌<◌, ◌∙◌, ◌∷◌, ◌≡◌, ◌≤◌}
use Rattle.zl_code.specs.OwnHistory.{OwnHistory}
use Rattle.zl_calls.specs.World.{own_here}
use Rattle.zl_sched.specs.declared.system.End.TheVariants as end
use Rattle.zl_sched.proofs.Legal.{own_ran, own_then}
use Rattle.std.proofs.Math.Bool.{and-true}

-- ---- what follows a schedule

pub follows_then : (lib : Library) (w mid w2 : World) (ts us : List ℕ) (xs ys : List TraceItem) → Follows lib w ts xs mid → Follows lib mid us ys w2
    → Follows lib w (ts ++ us) (xs ++ ys) w2
follows_then lib _ _ w2 _ us _ ys (halts w) rest = rest
follows_then lib _ _ w2 _ us _ ys (skips w mid p turns items not_ready first) rest = skips w w2 p (turns ++ us) (items ++ ys) not_ready
    (follows_then lib w mid w2 turns us items ys first rest)
follows_then lib _ _ w2 _ us _ ys (goes w next mid p x turns items ready step first) rest = goes w next w2 p x (turns ++ us) (items ++ ys) ready step
    (follows_then lib next mid w2 turns us items ys first rest)

follows_skipping : (lib : Library) (w : World) (p n : ℕ) → is_process w is_ready p ≡ false → Follows lib w (replicate n p) [] w
follows_skipping lib w p zero not_ready = halts w
follows_skipping lib w p (suc n) not_ready = skips w w p (replicate n p) [] not_ready (follows_skipping lib w p n not_ready)

-- ---- walks

-- where nobody is out, who is ready may step
pub none_out : (s : System) (p : ℕ) → s.out ≡ [] → may_step s p ≡ is_ready_in s.machine p
none_out s p none = rw none (and-true (is_ready_in s.machine p))

adds_nothing : (s : System) → Adds s [] s
adds_nothing s = record { programs = refl; items = sym (append-nil s.items); statements = refl; limit = refl; out = refl }

adds_both : (s mid s2 : System) (xs ys : List TraceItem) → Adds s xs mid → Adds mid ys s2 → Adds s (xs ++ ys) s2
adds_both s mid s2 xs ys first second = record {
  programs = second.programs ∙ first.programs;
  items = second.items ∙ (ap (λ (zs : List TraceItem). zs ++ ys) first.items ∙ append_assoc s.items xs ys);
  statements = second.statements ∙ first.statements;
  limit = second.limit ∙ first.limit;
  out = second.out ∙ first.out;
}

pub walks_nowhere : (s : System) → Walks s [] end.Schedule s
walks_nowhere s = record { more = []; adds = adds_nothing s; own = refl; room = omega arith; ends = halts s.machine.world }

pub ran_walks : (s : System) (p : ℕ) (s2 : System) → RunsHere s p s2 → Walks s (p ∷ []) end.Schedule s2
ran_walks s p s2 runs = record {
  more = runs.item ∷ [];
  adds = runs.adds;
  own = (own_here s2.machine, own_ran s p s2 runs, refl);
  room = omega (arith, runs.room);
  ends = goes s.machine.world s2.machine.world s2.machine.world p runs.item [] [] (and_parts (is_ready_in s.machine p) _ runs.ready).0 runs.step
      (halts s2.machine.world);
}

pub skipped_walks : (s : System) (p n : ℕ) → is_ready_in s.machine p ≡ false → Walks s (replicate n p) end.Schedule s
skipped_walks s p n not_ready = record {
  more = [];
  adds = adds_nothing s;
  own = refl;
  room = omega arith;
  ends = follows_skipping s.machine.programs s.machine.world p n not_ready;
}

stops_here : (s : System) (p : ℕ) (us : List ℕ) → IsTrue (is_ready_in s.machine p) → StopsBefore s.machine.programs s.machine.world (p ∷ us) [] s.machine.world
stops_here s p us ready = record { taken = []; next = p; left = us; are_all = refl; follows = halts s.machine.world; is_ready = ready }

pub limited_walks : (s : System) (p : ℕ) (us : List ℕ) → IsTrue (is_ready_in s.machine p) → s.limit ≤ length s.items → Walks s (p ∷ us) end.Limit s
limited_walks s p us ready full =
    record { more = []; adds = adds_nothing s; own = refl; room = omega arith; ends = (stops_here s p us ready, omega (arith, full)) }

pub wanting_walks : (s : System) (p : ℕ) (us : List ℕ) → IsTrue (is_ready_in s.machine p) → length s.items < s.limit → Walks s (p ∷ us) end.Memory s
wanting_walks s p us ready room =
    record { more = []; adds = adds_nothing s; own = refl; room = omega arith; ends = (stops_here s p us ready, omega (arith, room)) }

-- ---- one walk after another

module _ (s mid s2 : System) (ts us : List ℕ) (first : Walks s ts end.Schedule mid) where
  stops_then : (ys : List TraceItem) (w2 : World) → StopsBefore mid.machine.programs mid.machine.world us ys w2
      → StopsBefore s.machine.programs s.machine.world (ts ++ us) (first.more ++ ys) w2
  stops_then ys w2 stops = record {
    taken = ts ++ stops.taken;
    next = stops.next;
    left = stops.left;
    are_all = ap (λ (rest : List ℕ). ts ++ rest) stops.are_all ∙ sym (append_assoc ts stops.taken (stops.next ∷ stops.left));
    follows = follows_then s.machine.programs s.machine.world mid.machine.world w2 ts stops.taken first.more ys first.ends
        (subst (λ (lib : Library). Follows lib mid.machine.world stops.taken ys w2) first.adds.programs stops.follows);
    is_ready = stops.is_ready;
  }

  counts : length mid.items ≡ length s.items + length first.more
  counts = ap length first.adds.items ∙ length-append s.items first.more

  ends_then : (e : End) (ys : List TraceItem) (w2 : World) → EndsBy mid.machine.programs mid.machine.world us (room_of mid) ys w2 e
      → EndsBy s.machine.programs s.machine.world (ts ++ us) (room_of s) (first.more ++ ys) w2 e
  ends_then end.Schedule ys w2 follows = follows_then s.machine.programs s.machine.world mid.machine.world w2 ts us first.more ys first.ends
      (subst (λ (lib : Library). Follows lib mid.machine.world us ys w2) first.adds.programs follows)
  ends_then end.Limit ys w2 stops = (stops_then ys w2 stops.0, omega (arith, stops.1, counts, first.adds.limit, first.room, length-append first.more ys))
  ends_then end.Memory ys w2 stops = (stops_then ys w2 stops.0, omega (arith, stops.1, counts, first.adds.limit, first.room, length-append first.more ys))
  ends_then end.Quiet ys w2 never = absurd never

  pub walks_then : (e : End) → Walks mid us e s2 → Walks s (ts ++ us) e s2
  walks_then e second = record {
    more = first.more ++ second.more;
    adds = adds_both s mid s2 first.more second.more first.adds second.adds;
    own = own_then s.machine.programs (own_here s.machine) (own_here mid.machine) (own_here s2.machine) first.more second.more first.own
        (subst (λ (lib : Library). OwnHistory lib (own_here mid.machine) second.more (own_here s2.machine)) first.adds.programs second.own);
    room = omega (arith, first.room, second.room, counts, first.adds.limit, length-append first.more second.more);
    ends = ends_then e second.more s2.machine.world second.ends;
  }

-- ---- turns of one process

module _ (s mid s2 : System) (p n count : ℕ) (first : Walks s (replicate n p) end.Schedule mid) where
  pub once_more : RunsHere mid p s2 → Walks s (replicate (n + 1) p) end.Schedule s2
  once_more runs = subst (λ (turns : List ℕ). Walks s turns end.Schedule s2) (replicate_more n p)
      (walks_then s mid s2 (replicate n p) (p ∷ []) first end.Schedule (ran_walks mid p s2 runs))

  turns_left : n < count → replicate n p ++ (p ∷ replicate (count - (n + 1)) p) ≡ replicate count p
  turns_left some = replicate-append-replicate n (suc (count - (n + 1))) p ∙ ap (λ (k : ℕ). replicate k p) (omega (arith, some))

  pub no_more : n < count → (mid ≡ s2) → is_ready_in mid.machine p ≡ false → Walks s (replicate count p) end.Schedule s2
  no_more some same busy = subst (λ (x : System). Walks s (replicate count p) end.Schedule x) same
      (subst (λ (turns : List ℕ). Walks s turns end.Schedule mid) (turns_left some)
      (walks_then s mid mid (replicate n p) (p ∷ replicate (count - (n + 1)) p) first end.Schedule (skipped_walks mid p (suc (count - (n + 1))) busy)))

  pub no_room : n < count → (mid ≡ s2) → IsTrue (is_ready_in mid.machine p) → mid.limit ≤ length mid.items → Walks s (replicate count p) end.Limit s2
  no_room some same ready full = subst (λ (x : System). Walks s (replicate count p) end.Limit x) same
      (subst (λ (turns : List ℕ). Walks s turns end.Limit mid) (turns_left some)
      (walks_then s mid mid (replicate n p) (p ∷ replicate (count - (n + 1)) p) first end.Limit
      (limited_walks mid p (replicate (count - (n + 1)) p) ready full)))

  pub no_memory : n < count → (mid ≡ s2) → IsTrue (is_ready_in mid.machine p) → length mid.items < mid.limit → Walks s (replicate count p) end.Memory s2
  no_memory some same ready room = subst (λ (x : System). Walks s (replicate count p) end.Memory x) same
      (subst (λ (turns : List ℕ). Walks s turns end.Memory mid) (turns_left some)
      (walks_then s mid mid (replicate n p) (p ∷ replicate (count - (n + 1)) p) first end.Memory
      (wanting_walks mid p (replicate (count - (n + 1)) p) ready room)))

-- ---- the pairs of a schedule

module _ (s mid s2 : System) (schedule : List (ℕ × ℕ)) (n : ℕ) (default : ℕ × ℕ) (some : n < length schedule)
    (first : Walks s (turns_of (take n schedule)) end.Schedule mid) where
  abbrev pair : ℕ × ℕ
  pair = get_or schedule n default

  abbrev of_pair : ℕ × ℕ → List ℕ
  of_pair x = replicate x.1 x.0

  joined : turns_of (take n schedule) ++ replicate pair.1 pair.0 ≡ turns_of (take (n + 1) schedule)
  joined = sym (ap turns_of (take_more schedule n default some)
      ∙ (flat_map-append of_pair (take n schedule) (pair ∷ []) ∙ ap (λ (x : List ℕ). turns_of (take n schedule) ++ x) (append-nil (of_pair pair))))

  pub pair_walked : Walks mid (replicate pair.1 pair.0) end.Schedule s2 → Walks s (turns_of (take (n + 1) schedule)) end.Schedule s2
  pair_walked next = subst (λ (turns : List ℕ). Walks s turns end.Schedule s2) joined
      (walks_then s mid s2 (turns_of (take n schedule)) (replicate pair.1 pair.0) first end.Schedule next)

  -- an end before all turns were taken
  stops_more : (lib : Library) (w w2 : World) (ts us : List ℕ) (xs : List TraceItem) → StopsBefore lib w ts xs w2 → StopsBefore lib w (ts ++ us) xs w2
  stops_more lib w w2 ts us xs stops = record {
    taken = stops.taken;
    next = stops.next;
    left = stops.left ++ us;
    are_all = ap (λ (rest : List ℕ). rest ++ us) stops.are_all ∙ append_assoc stops.taken (stops.next ∷ stops.left) us;
    follows = stops.follows;
    is_ready = stops.is_ready;
  }

  pub pair_stopped : (e : End) → (e ≡ end.Schedule → ⊥) → Walks mid (replicate pair.1 pair.0) e s2 → Walks s (turns_of schedule) e s2
  pair_stopped e early next =
      let so_far : Walks s (turns_of (take n schedule) ++ replicate pair.1 pair.0) e s2 = walks_then s mid s2 (turns_of (take n schedule))
      (replicate pair.1 pair.0) first e next in
      let whole : (turns_of (take n schedule) ++ replicate pair.1 pair.0) ++ turns_of (drop (n + 1) schedule) ≡ turns_of schedule
      = ap (λ (x : List ℕ). x ++ turns_of (drop (n + 1) schedule)) joined
      ∙ (sym (flat_map-append of_pair (take (n + 1) schedule) (drop (n + 1) schedule)) ∙ ap turns_of (take-append-drop (n + 1) schedule)) in
      record {
        more = so_far.more;
        adds = so_far.adds;
        own = so_far.own;
        room = so_far.room;
        ends = subst (λ (turns : List ℕ). EndsBy s.machine.programs s.machine.world turns (room_of s) so_far.more s2.machine.world e) whole
            (by_end e early (turns_of (take n schedule) ++ replicate pair.1 pair.0) (turns_of (drop (n + 1) schedule)) so_far.more
            s2.machine.world so_far.ends);
      }
    where
      by_end : (e : End) → (e ≡ end.Schedule → ⊥) → (ts us : List ℕ) (xs : List TraceItem) (w2 : World)
          → EndsBy s.machine.programs s.machine.world ts (room_of s) xs w2 e → EndsBy s.machine.programs s.machine.world (ts ++ us) (room_of s) xs w2 e
      by_end end.Schedule early ts us xs w2 stops = absurd (early refl)
      by_end end.Limit early ts us xs w2 stops = (stops_more s.machine.programs s.machine.world w2 ts us xs stops.0, stops.1)
      by_end end.Memory early ts us xs w2 stops = (stops_more s.machine.programs s.machine.world w2 ts us xs stops.0, stops.1)
      by_end end.Quiet early ts us xs w2 never = absurd never
