-- What notes an object takes one place, and one object that handles name is fewer.
use Rattle.zl_objects.proofs.Common.{AreKeptBut, AreSameButWaits, Entry, IsTrue, LetsGo, List, Map, Message, None, Object, Option, Some, Thins, ap}
use Rattle.zl_objects.proofs.Common.{append_assoc, arith, budget, cases_Bool, cond, count_by, drop, ending_waits, eq-eqb, eqb-true, false, false≢true, filter}
use Rattle.zl_objects.proofs.Common.{flat_map-cons, get, get_or, goes, has_key, held_once_less, if◌then◌else◌, inl, inr, is_child, is_kept, is_koid, is_last}
use Rattle.zl_objects.proofs.Common.{is_named, is_some, is_sorted-update, is_unkept, keeper_of, koids_in, left_at, length, length-append, let_go, list_any}
use Rattle.zl_objects.proofs.Common.{map-append, named_in, nat_lt, nat_tests, none-some, option_to_list, or_cases, or_left, or_parts, or_right, queue_held}
use Rattle.zl_objects.proofs.Common.{refl, same_Some, slice_get, sorted_without, stays_alone, sym, take, take_more, true, unkept_at, update, waits_end, without}
use Rattle.zl_objects.proofs.Common.{ℕ, ◌++◌, ◌+◌, ◌<◌, ◌==◌, ◌||◌, ◌∙◌, ◌∷◌, ◌≡◌, ◌≤◌, ◌⊎◌, []}
use Rattle.zl_objects.proofs.Bare.{has_same, length_same, named_same, still_kept}
use Rattle.zl_objects.proofs.Ending.{ending_bare, ending_gone, ending_places, ending_thins}
use Rattle.zl_objects.proofs.Places.{places_updated}
use Rattle.zl_objects.proofs.Sums.{count_but_one, length_out, sum_fewer, sum_no_more, sum_left}
use Rattle.zl_objects.proofs.Bodies.{Changed, changed, alone_updated, alone_left, found_left}

-- ---- lists of what was noted

pub noted_left : (k : ℕ) (xs ys : List ℕ) → IsTrue (list_any (λ x. x == k) xs) → IsTrue (list_any (λ x. x == k) (xs ++ ys))
noted_left k [] ys h = absurd (false≢true h)
noted_left k (x ∷ xs) ys h = elim (or_cases (x == k) _ h) as (λ _. IsTrue (list_any (λ y. y == k) (x ∷ xs ++ ys))) [
  | inl here ↦ or_left (x == k) _ here
  | inr later ↦ or_right (x == k) _ (noted_left k xs ys later)
]

pub noted_last : (k : ℕ) (xs : List ℕ) → IsTrue (list_any (λ x. x == k) (xs ++ k ∷ []))
noted_last k [] = or_left (k == k) _ (eq-eqb k k refl)
noted_last k (x ∷ xs) = or_right (x == k) _ (noted_last k xs)

noted_before : (k j : ℕ) (xs : List ℕ) → (j == k) ≡ false → IsTrue (list_any (λ x. x == k) (xs ++ j ∷ [])) → IsTrue (list_any (λ x. x == k) xs)
noted_before k j [] apart h = absurd (false≢true (elim (or_cases (j == k) false h) as (λ _. IsTrue false) [ inl a ↦ sym apart ∙ a | inr b ↦ b ]))
noted_before k j (x ∷ xs) apart h = elim (or_cases (x == k) _ h) as (λ _. IsTrue (list_any (λ y. y == k) (x ∷ xs))) [
  | inl here ↦ or_left (x == k) _ here
  | inr later ↦ or_right (x == k) _ (noted_before k j xs apart later)
]

noted_right : (k : ℕ) (xs ys : List ℕ) → IsTrue (list_any (λ x. x == k) ys) → IsTrue (list_any (λ x. x == k) (xs ++ ys))
noted_right k [] ys h = h
noted_right k (x ∷ xs) ys h = or_right (x == k) _ (noted_right k xs ys h)

-- the job that was found is noted
keeper_noted : (k : ℕ) (o : Option ℕ) → IsTrue (is_koid k o) → IsTrue (list_any (λ x. x == k) (option_to_list o))
keeper_noted k None h = absurd (false≢true h)
keeper_noted k (Some j) h = or_left (j == k) _ h

few_keepers : (o : Option ℕ) → length (option_to_list o) ≤ 1
few_keepers None = omega arith
few_keepers (Some j) = omega arith

-- ---- one handle less

pub less_named : (k : ℕ) (o : Object) → cond (is_named (k, held_once_less o)) 1 0 ≤ cond (is_named (k, o)) 1 0
less_named k o = grind (arith, nat_tests)

fewer_named : (m : Map Object) (k : ℕ) → IsTrue (is_last (get m k)) → count_by is_named m ≡ count_by is_named (update m k held_once_less) + 1
fewer_named m k last = by_object (get m k) refl last
  where
    by_object : (o : Option Object) → get m k ≡ o → IsTrue (is_last o) → count_by is_named m ≡ count_by is_named (update m k held_once_less) + 1
    by_object None is h = absurd (false≢true h)
    by_object (Some o) is h =
        let drop : ◌≡◌ {A = ℕ} (cond (is_named (k, o)) 1 0) (cond (is_named (k, held_once_less o)) 1 0 + 1) = grind (arith, nat_tests, h) in
        sum_fewer (λ e. cond (is_named e) 1 0) m k 1 o held_once_less is drop

pub has_room : (m : Map Object) (dying : List ℕ) (k cap : ℕ) → budget m dying ≤ cap → IsTrue (is_last (get m k)) → length dying < cap
unfolding budget
has_room m dying k cap fits last = omega (arith, fits, fewer_named m k last)

-- an object that isn't k is kept as it was
kept_still : (m : Map Object) (k j : ℕ) (q before : Object) → q ≡ before → is_kept (update m k held_once_less) j q ≡ false → is_kept m j before ≡ false
kept_still m k j q before same unkept = rw (← same, ← alone_updated held_once_less (λ x. refl) m k j q.body) unkept

less_thins : (m : Map Object) (k j : ℕ) (o : Object) → get (update m k held_once_less) j ≡ Some o → Thins m (update m k held_once_less) j o
less_thins m k j o at =
    let c : Changed held_once_less m k j o = changed held_once_less m k j o at in
    record {
      before = c.before;
      there = c.there;
      waits = λ test left. ap (λ s. filter test s.waits) (signals_same c);
      fewer = λ test none. ap (λ s. list_any test s.waits) (signals_same c) ∙ none;
      asleep = asleep_same c;
    }
  where
    asleep_same : (c : Changed held_once_less m k j o) → o.asleep ≡ c.before.asleep
    asleep_same c =
        ap (λ (x : Object). x.asleep) c.is
        ∙ elim (k == j) as (λ b. (if b then held_once_less c.before else c.before).asleep ≡ c.before.asleep) [ true ↦ refl | false ↦ refl ]

    signals_same : (c : Changed held_once_less m k j o) → o.signals ≡ c.before.signals
    signals_same c =
        ap (λ (x : Object). x.signals) c.is
        ∙ elim (k == j) as (λ b. (if b then held_once_less c.before else c.before).signals ≡ c.before.signals) [ true ↦ refl | false ↦ refl ]

pub last_went : (m : Map Object) (dying : List ℕ) (k : ℕ) → IsTrue (is_last (get m k)) → LetsGo (k ∷ []) m dying (update m k held_once_less) (dying ++ k ∷ [])
unfolding budget
last_went m dying k last = record {
  cheap = omega (arith, fewer_named m k last, length-append dying (k ∷ []));
  notes = λ others old. record {
    in_order = rw (is_sorted-update m k held_once_less) old.in_order;
    noted = λ j q at unkept. rw (← append_assoc others dying (k ∷ [])) (by_key others old j q (changed held_once_less m k j q at) unkept (cases_Bool (k == j)));
  };
  leads = λ rest m3 tail. let_go k rest m m3 tail;
  places = places_updated held_once_less (λ j o. refl) (λ o. refl) None m k;
  thins = λ j o at. less_thins m k j o at;
}
  where
    by_key : (others : List ℕ) → AreKeptBut (others ++ dying) m → (j : ℕ) (q : Object) → Changed held_once_less m k j q
        → is_kept (update m k held_once_less) j q ≡ false → IsTrue (k == j) ⊎ ((k == j) ≡ false) → IsTrue (list_any (λ x. x == j) ((others ++ dying) ++ k ∷ []))
    by_key others old j q c unkept (inl here) = rw (eqb-true k j here) (noted_last j (others ++ dying))
    by_key others old j q c unkept (inr apart) =
        let same : q ≡ c.before = c.is ∙ rw apart refl in
        noted_left j (others ++ dying) (k ∷ []) (old.noted j c.before c.there (kept_still m k j q c.before same unkept))

pub other_went : (m : Map Object) (dying : List ℕ) (k : ℕ) → is_last (get m k) ≡ false → LetsGo (k ∷ []) m dying (update m k held_once_less) dying
unfolding budget
other_went m dying k other = record {
  cheap = omega (arith, sum_no_more (λ e. cond (is_named e) 1 0) m k held_once_less (less_named k));
  notes = λ others old. record {
    in_order = rw (is_sorted-update m k held_once_less) old.in_order;
    noted = λ j q at unkept. by_key others old j q (changed held_once_less m k j q at) unkept (cases_Bool (k == j));
  };
  leads = λ rest m3 tail. let_go k rest m m3 tail;
  places = places_updated held_once_less (λ j o. refl) (λ o. refl) None m k;
  thins = λ j o at. less_thins m k j o at;
}
  where
    by_key : (others : List ℕ) → AreKeptBut (others ++ dying) m → (j : ℕ) (q : Object) → Changed held_once_less m k j q
        → is_kept (update m k held_once_less) j q ≡ false → IsTrue (k == j) ⊎ ((k == j) ≡ false) → IsTrue (list_any (λ x. x == j) (others ++ dying))
    by_key others old j q c unkept (inl here) =
        let same : q ≡ held_once_less c.before = c.is ∙ rw here refl in
        let not_last : is_last (Some c.before) ≡ false = ap is_last (sym c.there ∙ ap (get m) (sym (eqb-true k j here))) ∙ other in
        let both = or_parts (nat_lt 0 (held_once_less c.before).handles) (stays_alone m j c.before.body)
        (rw (same, alone_updated held_once_less (λ x. refl) m k j c.before.body) at unkept) in
        old.noted j c.before c.there (rw both.1 (no_handle c.before both.0 not_last))
      where
        no_handle : (o : Object) → nat_lt 0 (held_once_less o).handles ≡ false → is_last (Some o) ≡ false → (nat_lt 0 o.handles || false) ≡ false
        no_handle o after not_last = grind (arith, nat_tests, after, not_last)
    by_key others old j q c unkept (inr apart) =
        let same : q ≡ c.before = c.is ∙ rw apart refl in
        old.noted j c.before c.there (kept_still m k j q c.before same unkept)

-- ---- one after another

thin_refl : (m : Map Object) (k : ℕ) (o : Object) → get m k ≡ Some o → Thins m m k o
thin_refl m k o at = record { before = o; there = at; waits = λ test left. refl; fewer = λ test none. none; asleep = refl }

-- what thins, and then thins again
pub thin_then : (m m2 m3 : Map Object) → ((k : ℕ) (o : Object) → get m2 k ≡ Some o → Thins m m2 k o)
    → ((k : ℕ) (o : Object) → get m3 k ≡ Some o → Thins m2 m3 k o) → (k : ℕ) (o : Object) → get m3 k ≡ Some o → Thins m m3 k o
thin_then m m2 m3 first later k o at =
    let new : Thins m2 m3 k o = later k o at in
    let old : Thins m m2 k new.before = first k new.before new.there in
    record {
      before = old.before;
      there = old.there;
      waits = λ test left. new.waits test left ∙ old.waits test (λ x takes. there_before x.port (get m3 x.port) refl (left x takes));
      fewer = λ test none. new.fewer test (old.fewer test none);
      asleep = new.asleep ∙ old.asleep;
    }
  where
    there_before : (p : ℕ) (q : Option Object) → get m3 p ≡ q → IsTrue (is_some q) → IsTrue (has_key m2 p)
    there_before p None is h = absurd (false≢true h)
    there_before p (Some q) is h = rw ((later p q is).there) refl

pub none_went : (m : Map Object) (dying : List ℕ) → LetsGo [] m dying m dying
none_went m dying =
    record { cheap = omega arith; notes = λ others old. old; leads = λ rest m3 tail. tail; places = λ have. have; thins = λ k o at. thin_refl m k o at }

pub both_went : (ks ls : List ℕ) (m m2 m3 : Map Object) (d d2 d3 : List ℕ) → LetsGo ks m d m2 d2 → LetsGo ls m2 d2 m3 d3 → LetsGo (ks ++ ls) m d m3 d3
both_went ks ls m m2 m3 d d2 d3 a b = record {
  cheap = omega (arith, a.cheap, b.cheap);
  notes = λ others old. b.notes others (a.notes others old);
  leads = λ rest m4 tail. rw (append_assoc ks ls rest) (a.leads (ls ++ rest) m4 (b.leads rest m4 tail));
  places = λ have. b.places (a.places have);
  thins = thin_then m m2 m3 a.thins b.thins;
}

-- ---- the object that was noted last

module _ (m : Map Object) (d : List ℕ) (k : ℕ) where
  longer : length d ≤ length (d ++ k ∷ [])
  longer = omega (arith, length-append d (k ∷ []))

  -- something keeps it
  pub kept_went : ((o : Object) → get m k ≡ Some o → IsTrue (is_kept m k o)) → LetsGo [] m (d ++ k ∷ []) m d
  unfolding budget
  kept_went kept = record {
    cheap = omega (arith, longer);
    notes = λ others old. record {
      in_order = old.in_order;
      noted = λ j q at unkept. elim (cases_Bool (k == j)) as (λ _. IsTrue (list_any (λ x. x == j) (others ++ d))) [
        | inl here ↦
            let key : k ≡ j = eqb-true k j here in
            absurd (false≢true (sym unkept ∙ (ap (λ (i : ℕ). is_kept m i q) (sym key) ∙ kept q (ap (get m) key ∙ at))))
        | inr apart ↦ noted_before j k (others ++ d) apart (rw (append_assoc others d (k ∷ [])) (old.noted j q at unkept))
      ];
    };
    leads = λ rest m3 tail. tail;
    places = λ have. have;
    thins = λ j o at. thin_refl m j o at;
  }

  -- nothing keeps it, the waits that end with it have ended, and the job was noted of which it was a living child
  pub unkept_went : (o : Object) (m2 : Map Object) (d2 : List ℕ) → get m k ≡ Some o → is_kept m k o ≡ false → length (without m k) + 1 ≡ length m
      → LetsGo (named_in (queue_held o.body)) (ending_waits k o (without m k)) (d ++ option_to_list (keeper_of o.body)) m2 d2 → LetsGo [] m (d ++ k ∷ []) m2 d2
  unfolding budget
  unkept_went o m2 d2 there unkept once queue = record {
    cheap = omega (
      arith,
      queue.cheap,
      length-append d (k ∷ []),
      length-append d keeper,
      few_keepers (keeper_of o.body),
      sum_left (λ e. cond (is_named e) 1 0) m k,
      named_same (without m k) mid same,
    );
    notes = λ others old. queue.notes others (still_kept (without m k) mid same (others ++ (d ++ keeper)) (record {
      in_order = sorted_without m k old.in_order;
      noted = λ j q at loose. by_child others old j q (found_left m k j q at) loose (cases_Bool (is_child j o.body));
    }));
    leads =
        λ rest m3 tail. goes k o rest m m3 there unkept (waits_end (named_in (queue_held o.body) ++ rest) (without m k) mid m3 same (queue.leads rest m3 tail));
    places = λ have. queue.places (ending_places m k o there once have);
    thins = thin_then m mid m2 (λ j q at. ending_thins m k o j q (ending_gone m k o (λ n is. has_same (without m k) n is k)) at) queue.thins;
  }
    where
      mid : Map Object
      mid = ending_waits k o (without m k)

      keeper : List ℕ
      keeper = option_to_list (keeper_of o.body)

      same : AreSameButWaits (without m k) mid
      same = ending_bare k o (without m k)

      by_child : (others : List ℕ) → AreKeptBut (others ++ (d ++ k ∷ [])) m → (j : ℕ) (q : Object)
          → ((k == j) ≡ false) × (get m j ≡ Some q) → is_kept (without m k) j q ≡ false → IsTrue (is_child j o.body) ⊎ (is_child j o.body ≡ false)
          → IsTrue (list_any (λ x. x == j) (others ++ (d ++ keeper)))
      by_child others old j q was loose (inl child) = noted_right j others (d ++ keeper) (noted_right j d keeper (keeper_noted j (keeper_of o.body) child))
      by_child others old j q was loose (inr apart) = rw (← append_assoc others d keeper) (noted_left j (others ++ d) keeper
          (noted_before j k (others ++ d) was.0
          (rw (append_assoc others d (k ∷ [])) (old.noted j q was.1 (rw (← alone_left m old.in_order k o there j apart q.body) loose)))))

  -- what it takes is no more
  pub less_ending : (o : Object) → budget (ending_waits k o (without m k)) (d ++ option_to_list (keeper_of o.body)) ≤ budget m (d ++ k ∷ [])
  unfolding budget
  less_ending o = omega (
    arith,
    length-append d (k ∷ []),
    length-append d (option_to_list (keeper_of o.body)),
    few_keepers (keeper_of o.body),
    sum_left (λ e. cond (is_named e) 1 0) m k,
    named_same (without m k) (ending_waits k o (without m k)) (ending_bare k o (without m k)),
  )

  -- and there is one object less
  pub fewer_ending : (o : Object) → get m k ≡ Some o → length (ending_waits k o (without m k)) < length m
  fewer_ending o there = omega (arith, length_out m k o there, length_same (without m k) (ending_waits k o (without m k)) (ending_bare k o (without m k)))

  -- where nothing goes, the noted one is fewer
  pub less_noted : budget m d + length m < budget m (d ++ k ∷ []) + length m
  unfolding budget
  less_noted = omega (arith, length-append d (k ∷ []))

  -- there is room for what is noted in its place
  pub room_noted : (cap : ℕ) → budget m (d ++ k ∷ []) ≤ cap → length d < cap
  unfolding budget
  room_noted cap fits = omega (arith, fits, length-append d (k ∷ []))

-- what nothing keeps can be noted, where there is room for each object
pub unkept_fits : (m : Map Object) (k : ℕ) (o : Object) → get m k ≡ Some o → is_kept m k o ≡ false → budget m (k ∷ []) ≤ length m
unfolding budget
unkept_fits m k o there unkept = omega (arith, count_but_one is_named m k o there (or_parts (nat_lt 0 o.handles) (stays_alone m k o.body) unkept).0)

pub test_fits : (m : Map Object) (k : ℕ) → IsTrue (is_unkept m k (get m k)) → budget m (k ∷ []) ≤ length m
test_fits m k unkept = by_object (get m k) refl unkept
  where
    by_object : (q : Option Object) → get m k ≡ q → IsTrue (is_unkept m k q) → budget m (k ∷ []) ≤ length m
    by_object None is h = absurd (false≢true h)
    by_object (Some o) is h = elim (cases_Bool (is_kept m k o)) as (λ _. budget m (k ∷ []) ≤ length m) [
      | inl kept ↦ absurd (false≢true (rw kept at h))
      | inr loose ↦ unkept_fits m k o is loose
    ]

-- what something keeps stays
pub test_kept : (m : Map Object) (k : ℕ) → is_unkept m k (get m k) ≡ false → LetsGo [] m (k ∷ []) m []
test_kept m k out = kept_went m [] k (λ o at. by_test o (cases_Bool (is_kept m k o)) (rw at at out))
  where
    by_test : (o : Object) → IsTrue (is_kept m k o) ⊎ (is_kept m k o ≡ false) → is_unkept m k (Some o) ≡ false → IsTrue (is_kept m k o)
    by_test o (inl kept) h = kept
    by_test o (inr loose) h = absurd (false≢true (sym h ∙ rw loose refl))

-- one place is taken where there is room for each object
pub none_noted : (m : Map Object) (k cap : ℕ) (d : List ℕ) → IsTrue (is_unkept m k (get m k)) → d ≡ [] → length m ≤ cap → length d < cap
unfolding budget
none_noted m k cap d unkept empty room = rw empty (omega (arith, test_fits m k unkept, room))

-- ---- what was taken out

module _ (m : Map Object) (k : ℕ) where
  pub none_left_at : unkept_at m k ≡ None → left_at m k ≡ m
  none_left_at none = by_test (get m k) (is_unkept m k (get m k)) refl none
    where
      by_test : (o : Option Object) (b : _) → is_unkept m k o ≡ b → (if b then o else None) ≡ None → (if b then without m k else m) ≡ m
      by_test None true is h = absurd (false≢true is)
      by_test (Some o) true is h = absurd (none-some o (sym h))
      by_test o false is h = refl

  pub none_taken : unkept_at m k ≡ None → (o : Object) → get m k ≡ Some o → IsTrue (is_kept m k o)
  none_taken none o at = elim (cases_Bool (is_kept m k o)) as (λ _. IsTrue (is_kept m k o)) [
    | inl kept ↦ kept
    | inr unkept ↦ absurd (none-some o (sym (rw (at, unkept) at none)))
  ]

  -- what was there, that nothing kept it, and that it is gone
  pub record IsTaken (o : Object) : Type 0 where
    pub there : get m k ≡ Some o
    pub unkept : is_kept m k o ≡ false
    pub left : left_at m k ≡ without m k

  -- and that it alone is gone
  pub one_taken : (n : Map Object) (q : Option Object) (o : Object) → n ≡ left_at m k → IsTaken o → q ≡ Some o
      → length n + (if is_some q then 1 else 0) ≡ length m → length (without m k) + 1 ≡ length m
  one_taken n q o left was some count = rw (left ∙ was.left, some) at count

  pub taken : (o : Object) → unkept_at m k ≡ Some o → IsTaken o
  taken o some = by_object (get m k) refl
    where
      by_object : (q : Option Object) → get m k ≡ q → IsTaken o
      by_object None is = absurd (none-some o (rw is at some))
      by_object (Some p) is = elim (cases_Bool (is_kept m k p)) as (λ _. IsTaken o) [
        | inl kept ↦ absurd (none-some o (rw (is, kept) at some))
        | inr unkept ↦
            let same : p ≡ o = same_Some p o (rw (is, unkept) at some) in
            record { there = is ∙ ap (λ (x : Object). Some x) same; unkept = ap (is_kept m k) (sym same) ∙ unkept; left = rw (is, unkept) refl }
      ]

-- ---- handles one after another

pub handle_went : (es : List Entry) (i : ℕ) (e : Entry) → i < length es → (m m2 m3 : Map Object) (d d2 d3 : List ℕ) → LetsGo (koids_in (take i es)) m d m2 d2
    → LetsGo ((get_or es i e).koid ∷ []) m2 d2 m3 d3 → LetsGo (koids_in (take (i + 1) es)) m d m3 d3
handle_went es i e within m m2 m3 d d2 d3 before last =
    rw (take_more es i e within, map-append (λ (x : Entry). x.koid) (take i es) (get_or es i e ∷ []))
    (both_went (koids_in (take i es)) ((get_or es i e).koid ∷ []) m m2 m3 d d2 d3 before last)

-- the first message of a queue, and then the others
pub message_went : (q q2 : List Message) (first : Message) (es : List Entry) → slice_get q 0 ≡ Some first → q2 ≡ drop 1 q → es ≡ first.handles
    → (m m2 m3 : Map Object) (d d2 d3 : List ℕ) → LetsGo (koids_in es) m d m2 d2 → LetsGo (named_in q2) m2 d2 m3 d3 → LetsGo (named_in q) m d m3 d3
message_went [] q2 first es there rest handles m m2 m3 d d2 d3 front behind = absurd (none-some first there)
message_went (x ∷ q) q2 first es there rest handles m m2 m3 d d2 d3 front behind =
    let same : x ≡ first = same_Some x first there in
    let is : es ≡ x.handles = handles ∙ ap (λ (y : Message). y.handles) (sym same) in
    let left : q2 ≡ q = rest in
    rw (flat_map-cons (λ (y : Message). koids_in y.handles) x q, ← is, ← left) (both_went (koids_in es) (named_in q2) m m2 m3 d d2 d3 front behind)
