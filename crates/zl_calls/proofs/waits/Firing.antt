-- One registered wait that holds gives its packet before the others do: the world at the end is the same.
use Rattle.zl_calls.proofs.Common.{BodyValue, Bool, IsTrue, List, Map, None, ObjectValue, Option, Packet, PortBody, Some, Wait, World, [], active, active_of}
use Rattle.zl_calls.proofs.Common.{active_of-same, ap, append_assoc, bit_or, body_packed, body_with_packets, cases_Bool, cond, each, eqb-true, false, filter}
use Rattle.zl_calls.proofs.Common.{filter-append, fired, get, get-each, get-update, has_child_job, has_child_process, has_key-update, holds, if◌then◌else◌}
use Rattle.zl_calls.proofs.Common.{implied, inl, inr, is_job_below, is_process, is_process_of, is_sorted, is_sorted-update, list_any, list_any-and, lives, map}
use Rattle.zl_calls.proofs.Common.{meets, nat_cmp, not, option_map, packet_of, packets_for, passes, refl, repacked, same_map, sym, true, update, ℕ, ◌&&◌, ◌++◌}
use Rattle.zl_calls.proofs.Common.{◌==◌, ◌||◌, ◌∙◌, ◌∷◌, ◌≡◌}
use Rattle.zl_rights.proofs.MapTests.{filter_none}
use Rattle.zl_rights.proofs.SameSignals.{IsAlike}
use Rattle.zl_code.proofs.MapKept.{in_order-each}

-- ---- changes of a map

any_updated : {X : Type 0} (test : ℕ × X → Bool) (f : X → X) → ((j : ℕ) (x : X) → test (j, f x) ≡ test (j, x)) → (m : Map X) (k : ℕ)
    → list_any test (update m k f) ≡ list_any test m
unfolding update
any_updated test f same [] k = refl
any_updated test f same (e ∷ m) k = elim (cases_Bool (e.0 == k)) as (λ _. list_any test (update (e ∷ m) k f) ≡ list_any test (e ∷ m)) [
  | inl here ↦ rw here (ap (λ b. b || list_any test m) (ap (λ j. test (j, f e.1)) (sym (eqb-true e.0 k here)) ∙ same e.0 e.1))
  | inr apart ↦ rw apart (ap (λ b. test e || b) (any_updated test f same m k))
]

-- ---- packets at one object

module _ (f : List Packet → List Packet) where
  implied_packed : (w : World) (k : ℕ) (b : BodyValue) → implied w k (body_packed f b) ≡ implied w k b
  implied_packed w k (PortBody packets) = refl
  implied_packed w k _ = refl

  job_packed : (job : ℕ) (b : BodyValue) → is_job_below job (body_packed f b) ≡ is_job_below job b
  job_packed job (PortBody packets) = refl
  job_packed job _ = refl

  process_packed : (job : ℕ) (b : BodyValue) → is_process_of job (body_packed f b) ≡ is_process_of job b
  process_packed job (PortBody packets) = refl
  process_packed job _ = refl

-- the first packet goes behind those that are there, and then the rest
body_split : (all rest : List Packet) (p : Packet) → all ≡ p ∷ rest → (b : BodyValue)
    → body_with_packets all b ≡ body_with_packets rest (body_packed (λ ps. ps ++ p ∷ []) b)
body_split all rest p split (PortBody ps) = ap PortBody (ap (λ more. ps ++ more) split ∙ sym (append_assoc ps (p ∷ []) rest))
body_split all rest p split _ = refl

-- ---- the wait x holds, and none before it

module _ (w : World) (xs ys : List Wait) (x : Wait) where
  abbrev with_one : ObjectValue → ObjectValue
  with_one = repacked (λ (ps : List Packet). ps ++ packet_of w x ∷ [])

  -- the world in which it has given its packet and is gone
  abbrev pub after_one : World
  after_one = record w { objects = update w.objects x.port with_one; waits = xs ++ ys }

  one_alike : IsAlike w after_one
  unfolding has_child_job has_child_process is_process
  one_alike = record {
    keys = has_key-update w.objects x.port with_one;
    jobs = λ k. any_updated (λ e. is_job_below k e.1.body) with_one (λ j o. job_packed (λ ps. ps ++ packet_of w x ∷ []) k o.body) w.objects x.port;
    processes = λ k. any_updated (λ e. is_process_of k e.1.body && is_process w lives e.0) with_one
        (λ j o. ap (λ b. b && is_process w lives j) (process_packed (λ ps. ps ++ packet_of w x ∷ []) k o.body)) w.objects x.port;
    ended = λ k. refl;
  }

  -- a packet changes no signal
  one_active : (k : ℕ) → active after_one k ≡ active w k
  unfolding active
  one_active k = ap (active_of after_one k) (get-update w.objects x.port with_one k) ∙ by_key (x.port == k) (get w.objects k)
    where
      by_object : (o : Option ObjectValue) → active_of after_one k (option_map with_one o) ≡ active_of w k o
      by_object None = refl
      by_object (Some o) =
          ap (bit_or o.raised) (implied_packed (λ ps. ps ++ packet_of w x ∷ []) after_one k o.body) ∙ active_of-same w after_one one_alike k (Some o)

      by_key : (b : Bool) (o : Option ObjectValue) → active_of after_one k (if b then option_map with_one o else o) ≡ active_of w k o
      by_key true o = by_object o
      by_key false o = active_of-same w after_one one_alike k o

  pub one_holds : holds after_one ≡ holds w
  unfolding holds
  one_holds = λ i. λ y. meets (one_active y.object i) y.mask

  one_packet : packet_of after_one ≡ packet_of w
  one_packet = λ i. λ y. record {
    kind = 1;
    key = y.key;
    trigger = y.mask;
    observed = one_active y.object i;
    source = Some (record { pid = y.pid; value = y.value; object = y.object });
  }

  module _ (list : w.waits ≡ xs ++ x ∷ ys) (before : list_any (holds w) xs ≡ false) (now : holds w x ≡ true) where
    abbrev given_at : ℕ → List Wait → List Wait
    given_at k = filter (λ y. y.port == k && holds w y)

    none_given : (k : ℕ) (zs : List Wait) → given_at k (xs ++ zs) ≡ given_at k zs
    none_given k zs = filter-append (λ y. y.port == k && holds w y) xs zs
        ∙ ap (λ (first : List Wait). first ++ given_at k zs)
        (filter_none (λ y. y.port == k && holds w y) xs (list_any-and (holds w) (λ y. y.port == k) xs before))

    -- at its port its packet is the first of those to come
    packets_split : (k : ℕ) → packets_for w k ≡ (if x.port == k then packet_of w x ∷ [] else []) ++ packets_for after_one k
    packets_split k = ap (λ (zs : List Wait). map (packet_of w) (given_at k zs)) list
        ∙ (ap (map (packet_of w)) (none_given k (x ∷ ys))
        ∙ (by_tests (x.port == k) (holds w x) now
        ∙ ap (λ (rest : List Packet). (if x.port == k then packet_of w x ∷ [] else []) ++ rest) (sym same_rest)))
      where
        by_tests : (a b : Bool) → b ≡ true → map (packet_of w) (cond (a && b) (x ∷ given_at k ys) (given_at k ys))
            ≡ (if a then packet_of w x ∷ [] else []) ++ map (packet_of w) (given_at k ys)
        by_tests true b h = rw h refl
        by_tests false b h = refl

        same_rest : packets_for after_one k ≡ map (packet_of w) (given_at k ys)
        same_rest = (λ i. map (one_packet i) (filter (λ y. y.port == k && one_holds i y) (xs ++ ys))) ∙ ap (map (packet_of w)) (none_given k ys)

    waits_split : filter (λ y. not (holds after_one y)) (xs ++ ys) ≡ filter (λ y. not (holds w y)) w.waits
    waits_split = (λ i. filter (λ y. not (one_holds i y)) (xs ++ ys))
        ∙ (filter-append (λ y. not (holds w y)) xs ys
        ∙ (ap (λ (rest : List Wait). filter (λ y. not (holds w y)) xs ++ rest) gone
        ∙ (sym (filter-append (λ y. not (holds w y)) xs (x ∷ ys))
        ∙ ap (filter (λ y. not (holds w y))) (sym list))))
      where
        gone : filter (λ y. not (holds w y)) ys ≡ filter (λ y. not (holds w y)) (x ∷ ys)
        gone = rw now refl

    objects_split : IsTrue (is_sorted nat_cmp w.objects)
        → each (λ k o. record o { body = body_with_packets (packets_for after_one k) o.body }) after_one.objects
        ≡ each (λ k o. record o { body = body_with_packets (packets_for w k) o.body }) w.objects
    objects_split sorted = same_map _ _
        (passes _ (in_order-each (update w.objects x.port with_one) later ∙ (is_sorted-update w.objects x.port with_one ∙ sorted)))
        (passes _ (in_order-each w.objects all ∙ sorted))
        (λ k. get-each (update w.objects x.port with_one) later k
        ∙ (ap (option_map (later k)) (get-update w.objects x.port with_one k)
        ∙ (by_key k (x.port == k) (packets_split k) (get w.objects k)
        ∙ sym (get-each w.objects all k))))
      where
        later : ℕ → ObjectValue → ObjectValue
        later k o = record o { body = body_with_packets (packets_for after_one k) o.body }

        all : ℕ → ObjectValue → ObjectValue
        all k o = record o { body = body_with_packets (packets_for w k) o.body }

        by_key : (k : ℕ) (b : Bool) → packets_for w k ≡ (if b then packet_of w x ∷ [] else []) ++ packets_for after_one k
            → (o : Option ObjectValue) → option_map (later k) (if b then option_map with_one o else o) ≡ option_map (all k) o
        by_key k true split None = refl
        by_key k true split (Some o) =
            λ i. Some (record o { body = sym (body_split (packets_for w k) (packets_for after_one k) (packet_of w x) split o.body) i })
        by_key k false split None = refl
        by_key k false split (Some o) = λ i. Some (record o { body = body_with_packets (sym split i) o.body })

    pub fired_one : IsTrue (is_sorted nat_cmp w.objects) → fired after_one ≡ fired w
    unfolding fired
    fired_one sorted = λ i. record w { objects = objects_split sorted i; waits = waits_split i }
