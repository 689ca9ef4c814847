-- The indexes of the waits: what an insertion that was taken back leaves, what stands first under a key, and what follows where a wait comes or goes.
use Rattle.zl_rights.proofs.Common.{◌≡◌, ℕ, ◌≤◌, ◌<◌, Bool, true, false, ◌==◌, ◌&&◌, cond, Err, List, [], ◌∷◌, Ok, OnOk, Option, Some, None, Result}
use Rattle.zl_rights.proofs.Common.{ap, arith, cases_Bool, eqb-true, false≢true, IfSome, inl, inr, nat_cmp, nat_tests, none-some}
use Rattle.zl_rights.proofs.Common.{option_map, refl, same_Some, subst, sym, ◌∙◌}
use Rattle.std.proofs.lemmas.Bool.{ltb-true}
use Rattle.std.specs.Bool.{then_some}
use Rattle.std.specs.Prelude.{OnErr}
use Rattle.std.specs.BTreeMap.{is_at}
use Rattle.std.specs.BTreeMap.Range.{IsInRange}
use Rattle.std.specs.BTreeSet.{BTreeSet, IsKeyRangeOf, IsUnchanged, Updates, contains, contains_by}
use Rattle.std.specs.Cmp.{IsTotalOrder, both_tied, tied_back, tied_itself, unsigned_tied, unsigned_ties}
use Rattle.std.specs.Ordering.{is_gt, ordering_reverse, ordering_then}
use Rattle.std.specs.declared.cmp.Ordering.{Ordering}
use Rattle.std.specs.declared.cmp.Ordering.TheVariants.{Equal, Greater, Less}
use Rattle.std.specs.declared.ops.Bound.TheVariants.{Included}
use Rattle.zl_signals.specs.Indexed.{AreIndexed, AreSet, IsFirstUnder, IsIndex, IsSet, entry_cmp, handle_cmp, handle_of, is_found_under}
use Rattle.zl_signals.specs.Indexed.{keyed_cmp, keyed_of, port_of}
use Rattle.zl_signals.specs.Numbered.{AreBelow, IsFirst, NO_WAIT, Numbered, wait_by}
use Rattle.zl_signals.specs.Waits.{is_by_handle_here, is_keyed_here}
use Rattle.zl_signals.specs.declared.indexes.Indexes.{Indexes}
use Rattle.zl_signals.proofs.Numbered.{absent}
use Rattle.zl_signals.specs.declared.watch.Watch.{Watch}

module _ {K : Type 0} (cmp : K → K → Ordering) where
  module _ (s s2 s3 : BTreeSet (K × ℕ)) (e : K × ℕ) where
    -- an entry that was taken out again isn't there
    pub set_back : IsSet cmp s s2 e true → IsSet cmp s2 s3 e false → IsSet cmp s s3 e false
    set_back there gone q =
        gone q ∙ ap (cond (is_at (entry_cmp cmp e) q) false) (there q) ∙ elim (is_at (entry_cmp cmp e) q)
        as (λ b. cond b false (cond b true (contains (entry_cmp cmp) s q)) ≡ cond b false (contains (entry_cmp cmp) s q)) [ true ↦ refl | false ↦ refl ]

    -- nor if there was no memory for it
    pub taken_back : {E : Type 0} (r : Result Bool E) → OnOk r (Updates (entry_cmp cmp) s s2 e true) → OnErr r (IsUnchanged s s2)
        → IsSet cmp s2 s3 e false → IsSet cmp s s3 e false
    taken_back (Ok b) there same gone q = set_back there.0 gone q
    taken_back (Err f) there same gone q = rw same at (gone q)

-- ---- the first under a key

between : (r r2 a b : Ordering) → r2 ≡ ordering_reverse r → is_gt (ordering_then r a) ≡ false → is_gt (ordering_then r2 b) ≡ false → r ≡ Equal
between Less r2 a b turned low high = absurd (false≢true (sym high ∙ ap (λ r. is_gt (ordering_then r b)) turned))
between Equal r2 a b turned low high = refl
between Greater r2 a b turned low high = absurd (false≢true (sym low))

module _ {K : Type 0} (cmp : K → K → Ordering) (total : IsTotalOrder cmp) (s : BTreeSet (K × ℕ)) (k : K) (r : List (K × ℕ))
    (part : IsKeyRangeOf (entry_cmp cmp) (Included (k, 0)) (Included (k, NO_WAIT)) s r) where
  within : (n : ℕ) → n < NO_WAIT → IsInRange (entry_cmp cmp) (Included (k, 0)) (Included (k, NO_WAIT)) (k, n)
  within n low = rw (tied_itself total k) (grind (arith, nat_tests), grind (arith, nat_tests, low))

  pub none_under : r ≡ [] → IsFirstUnder cmp s k None
  none_under is = (λ n low before. part.5 is (k, n) (within n low), λ n none. absurd (none-some n none))

  module _ (x : K × ℕ) (t : List (K × ℕ)) (is : r ≡ x ∷ t) where
    own : cmp k x.0 ≡ Equal
    own =
        let inside = ((rw is at part).1).0 in
        between (cmp k x.0) (cmp x.0 k) (nat_cmp 0 x.1) (nat_cmp x.1 NO_WAIT) (total.antisymm x.0 k) inside.0 inside.1

    there : contains (entry_cmp cmp) s (k, x.1) ≡ true
    there = (λ i. contains_by (λ q. ordering_then (total.congr k x.0 q.0 own i) (nat_cmp x.1 q.1)) s) ∙ ((rw is at part).1).1

    behind : (n : ℕ) → n < NO_WAIT → contains (entry_cmp cmp) s (k, n) ≡ true → x.1 ≤ n
    behind n low has =
        let least : is_gt (nat_cmp x.1 n) ≡ false = rw (tied_back total k x.0 own) at ((rw is at part).2 (k, n) (within n low) has) in
        grind (arith, nat_tests, least)

    pub first_under : IsFirstUnder cmp s k (Some x.1)
    first_under = (
      λ n low before. elim (cases_Bool (contains (entry_cmp cmp) s (k, n))) [
        | inl has ↦ absurd (omega (arith, ltb-true n x.1 before, behind n low has))
        | inr lacks ↦ lacks
      ],
      λ n same. ap (λ m. contains (entry_cmp cmp) s (k, m)) (sym (same_Some x.1 n same)) ∙ there,
    )

-- ---- the indexes of the waits

and_true : (c b d : Bool) → cond (c && true) b d ≡ cond c b d
and_true true b d = refl
and_true false b d = refl

and_false : (c b d : Bool) → cond (c && false) b d ≡ d
and_false true b d = refl
and_false false b d = refl

module _ {K : Type 0} (cmp : K → K → Ordering) (key : Watch → K) where
  -- where what stands at one number changes, and the index in the same way
  module _ (s s2 : BTreeSet (K × ℕ)) (w w2 : ℕ → Option Watch) (x : Watch) (number : ℕ) (b : Bool) (is_set : IsSet cmp s s2 (key x, number) b)
      (others : (q : ℕ) → (number == q) ≡ false → w2 q ≡ w q) (before : IfSome (w number) (λ y. y ≡ x)) (after : w2 number ≡ then_some b x) where
    -- it is found under its own key just if it stands there
    stands : (d : Bool) (o : Option Watch) → IfSome o (λ y. y ≡ x) → (k : K)
        → is_found_under cmp key k (then_some d x) ≡ cond (is_at (cmp (key x)) k) d (is_found_under cmp key k o)
    stands true None is k = elim (is_at (cmp (key x)) k) as (λ c. c ≡ cond c true false) [ true ↦ refl | false ↦ refl ]
    stands true (Some y) is k = rw is (elim (is_at (cmp (key x)) k) as (λ c. c ≡ cond c true c) [ true ↦ refl | false ↦ refl ])
    stands false None is k = elim (is_at (cmp (key x)) k) as (λ c. false ≡ cond c false false) [ true ↦ refl | false ↦ refl ]
    stands false (Some y) is k = rw is (elim (is_at (cmp (key x)) k) as (λ c. false ≡ cond c false c) [ true ↦ refl | false ↦ refl ])

    at_entry : (k : K) (q : ℕ) → is_at (entry_cmp cmp (key x, number)) (k, q) ≡ (is_at (cmp (key x)) k && (number == q))
    at_entry k q = sym (both_tied (is_at (cmp (key x)) k) (number == q) (cmp (key x) k) (nat_cmp number q) refl (unsigned_ties number q))

    pub follows : IsIndex cmp key s w → IsIndex cmp key s2 w2
    follows index k q = is_set (k, q) ∙ ap (λ c. cond c b (contains (entry_cmp cmp) s (k, q))) (at_entry k q) ∙ by_test (number == q) refl
      where
        by_test : (d : Bool) → (number == q) ≡ d → cond (is_at (cmp (key x)) k && d) b (contains (entry_cmp cmp) s (k, q)) ≡ is_found_under cmp key k (w2 q)
        by_test true here =
            let at : is_found_under cmp key k (w2 q) ≡ cond (is_at (cmp (key x)) k) b (is_found_under cmp key k (w q)) =
            subst (λ n. is_found_under cmp key k (w2 n) ≡ cond (is_at (cmp (key x)) k) b (is_found_under cmp key k (w n))) (eqb-true number q here)
            (ap (is_found_under cmp key k) after ∙ stands b (w number) before k) in
            rw (index k q, at) (and_true (is_at (cmp (key x)) k) b (is_found_under cmp key k (w q)))
        by_test false apart = rw (index k q, others q apart) (and_false (is_at (cmp (key x)) k) b (is_found_under cmp key k (w q)))

  -- the first that stands under a key is the first that passes the test for it
  module _ (p : Watch → Bool) (k : K) (test : (x : Watch) → is_at (cmp (key x)) k ≡ p x) (s : BTreeSet (K × ℕ)) (m : Numbered) where
    passes : (o : Option Watch) → is_found_under cmp key k o ≡ true → option_map p o ≡ Some true
    passes None found = absurd (false≢true found)
    passes (Some x) found = ap Some (sym (test x) ∙ found)

    pub first_is : IsIndex cmp key s (wait_by m) → AreBelow NO_WAIT m → (o : Option ℕ) → IsFirstUnder cmp s k o → IsFirst p m o
    first_is index below o first = (
      λ n x at high before. sym (test x) ∙ (ap (is_found_under cmp key k) (sym at) ∙ (sym (index k n) ∙ first.0 n (below n x at) before)),
      λ n is. (omega arith, passes (wait_by m n) (sym (index k n) ∙ first.1 n is)),
    )

  pub none_indexed : (s : BTreeSet (K × ℕ)) (w : ℕ → Option Watch) → s.keys ≡ [] → ((n : ℕ) → w n ≡ None) → IsIndex cmp key s w
  none_indexed s w empty none k n = rw (empty, none n) refl

-- where what stands at one number changes, and the indexes in the same way
pub indexes_follow : (s s2 : Indexes) (w w2 : ℕ → Option Watch) (x : Watch) (number : ℕ) (b : Bool) → AreSet s s2 x number b
    → ((q : ℕ) → (number == q) ≡ false → w2 q ≡ w q) → IfSome (w number) (λ y. y ≡ x) → w2 number ≡ then_some b x → AreIndexed s w → AreIndexed s2 w2
indexes_follow s s2 w w2 x number b are_set others before after are = (
  follows handle_cmp handle_of s.by_handle s2.by_handle w w2 x number b are_set.0 others before after are.0,
  follows keyed_cmp keyed_of s.by_key s2.by_key w w2 x number b are_set.1 others before after are.1,
  follows nat_cmp port_of s.by_port s2.by_port w w2 x number b are_set.2 others before after are.2,
)

-- a wait that was taken back leaves them as they were
pub still_indexed : (m : Numbered) (number : ℕ) → AreBelow number m → (s s2 : Indexes) (x : Watch) → AreSet s s2 x number false → AreIndexed s (wait_by m)
    → AreIndexed s2 (wait_by m)
still_indexed m number below s s2 x are_set are =
    let none : wait_by m number ≡ None = absent m number below in
    indexes_follow s s2 (wait_by m) (wait_by m) x number false are_set (λ q apart. refl) (rw none tt) none are

pub sets_back : (s s2 s3 : Indexes) (x : Watch) (number : ℕ) → AreSet s s2 x number true → AreSet s2 s3 x number false → AreSet s s3 x number false
sets_back s s2 s3 x number there gone = (
  set_back handle_cmp s.by_handle s2.by_handle s3.by_handle (handle_of x, number) there.0 gone.0,
  set_back keyed_cmp s.by_key s2.by_key s3.by_key (keyed_of x, number) there.1 gone.1,
  set_back nat_cmp s.by_port s2.by_port s3.by_port (x.port, number) there.2 gone.2,
)

pub by_handle : (pid value : ℕ) (x : Watch) → is_at (handle_cmp (handle_of x)) (pid, value) ≡ is_by_handle_here pid value x
by_handle pid value x = grind (arith, nat_tests, unsigned_tied x.pid pid, unsigned_tied x.value value)

pub by_key : (pid value port key : ℕ) (x : Watch) → is_at (keyed_cmp (keyed_of x)) (pid, value, port, key) ≡ is_keyed_here pid value port key x
by_key pid value port key x = grind (arith, nat_tests, unsigned_tied x.pid pid, unsigned_tied x.value value, unsigned_tied x.port port, unsigned_tied x.key key)
