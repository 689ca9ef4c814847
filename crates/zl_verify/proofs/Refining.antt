-- A register is known better, and what the edges of a test know.
use Rattle.zl_verify.proofs.Common.{ANY, AbsVal, Bool, Cause, Describes, Entry, Err, Has, Holds, IsAs, IsHandle, IsState, KNOWN_RIGHTS, Kind, KindOf, List}
use Rattle.zl_verify.proofs.Common.{None, Ok, Option, Result, Rights, RightsOf, SlotArray, Some, State, Table, Word, [], all_kinds, ap, arith, becomes}
use Rattle.zl_verify.proofs.Common.{below_ways, bit_or, bits, can_be_named, capped, cases_eq, eq-eqb, eqb-true, equal_ways, false, has_ways, if◌then◌else◌, inl}
use Rattle.zl_verify.proofs.Common.{inr, is_has, is_some, keepers, kind_among, kind_in, kind_number, kind_numbered, kind_ways, known_kind, known_other}
use Rattle.zl_verify.proofs.Common.{known_rights, known_there, known_zero, length, nat_lt, nat_tests, none-some, not, one_if, owners, owns, refined, refl}
use Rattle.zl_verify.proofs.Common.{rights_in, rights_of, same_Some, same_kind, same_kind_refl, slice_index, slice_set, smaller, subst, suc, sym, true, unless}
use Rattle.zl_verify.proofs.Common.{value_at, within, within_trans, zero, zero_ways, ℕ, ◌&&◌, ◌+◌, ◌-◌, ◌<◌, ◌==◌, ◌∙◌, ◌∷◌, ◌≡◌, ◌≢◌, ◌≤◌, ◌⊎◌}
use Rattle.std.proofs.lemmas.List.{length-set}
use Rattle.zl_abs.specs.Outcome.{Outcome}
use Rattle.zl_rights.specs.declared.kind.Kind.TheVariants as kind
use Rattle.zl_verify.proofs.Owners.{owns_free, owns_0, owners-set, set_same, set_apart, has_inside}
use Rattle.zl_verify.proofs.Writing.{nothing_at_0, live_apart}
use Rattle.zl_verify.proofs.RightsGained.{within_both, rights_none}

-- ---- one register

set_itself : (l : List ℕ) (k : ℕ) → slice_set l k (slice_index l k) ≡ l
set_itself [] k = refl
set_itself (x ∷ l) zero = refl
set_itself (x ∷ l) (suc k) = ap (λ m. x ∷ m) (set_itself l k)

-- the number stays, and the same places are owned
pub refine : {f : Table} {s : State} {xs : List ℕ} {arrays : List SlotArray} {slots : List (List ℕ)} → Holds f s xs arrays slots → (r : ℕ) → r < length s
    → (a : AbsVal) → Describes f xs a (slice_index xs r)
    → ((v : ℕ) → one_if (owns v a (slice_index xs r)) ≡ one_if (owns v (value_at s r) (slice_index xs r))) → Holds f (refined s r a) xs arrays slots
refine {f} {s} {xs} {arrays} {slots} h r lt a new same = record {
  width = h.width ∙ sym (length-set s r a);
  small = h.small;
  described = λ q. by q (cases_eq q r);
  lengths = h.lengths;
  narrow = h.narrow;
  stored = h.stored;
  once = once_at;
}
  where
    by : (q : ℕ) → (q ≡ r) ⊎ (q ≢ r) → Describes f xs (value_at (refined s r a) q) (slice_index xs q)
    by q (inl e) = rw (e, set_same s r a lt) new
    by q (inr apart) = rw (set_apart s r q a apart) (h.described q)

    once_at : (v : ℕ) → owners v (refined s r a) xs + keepers v slots ≡ one_if (is_some (f v))
    once_at v =
        let set = owners-set v r s xs a (slice_index xs r) h.width lt in
        let itself = ap (owners v (slice_set s r a)) (set_itself xs r) in
        let alike = same v in
        let before = h.once v in
        omega arith

-- ---- kinds

numbered_again : (k : Kind) → kind_numbered (kind_number k) ≡ Some k
numbered_again kind.Process = refl
numbered_again _ = refl

among_is : (ks : List Kind) (n : ℕ) (k : Kind) → kind_among ks n ≡ Some k → kind_number k ≡ n
among_is [] n k e = cc
among_is (x ∷ ks) n k e = by (kind_number x == n) refl e (λ g. among_is ks n k g)
  where
    by : (t : Bool) → (kind_number x == n) ≡ t → (if t then Some x else kind_among ks n) ≡ Some k → (kind_among ks n ≡ Some k → kind_number k ≡ n)
        → kind_number k ≡ n
    by true is e more = ap kind_number (sym (same_Some x k e)) ∙ eqb-true (kind_number x) n is
    by false is e more = more e

numbered_is : (n : ℕ) (k : Kind) → kind_numbered n ≡ Some k → kind_number k ≡ n
numbered_is n k e = among_is all_kinds n k e

some_kind : (k : Kind) → kind_number k ≢ 0
some_kind kind.Process e = cc
some_kind _ e = cc

none_numbered : (o : Option Entry) → kind_in o ≡ 0 → o ≡ None
none_numbered None e = refl
none_numbered (Some x) e = absurd (some_kind x.kind e)

-- ---- what is known on an edge

-- the edge is followed, and its state holds
abbrev pub Known : Table → List ℕ → List SlotArray → List (List ℕ) → Option State → Type 0
Known f xs arrays slots None = ⊥
Known f xs arrays slots (Some s) = Holds f s xs arrays slots

-- the edge of the test's outcome is followed, and its state holds
abbrev pub Splits : (Option State → Type 0) → Bool → Result Outcome Cause → Type 0
Splits K test (Err c) = Unit {0}
Splits K test (Ok w) = (test ≡ true → K w.jumped) × (test ≡ false → K w.passed)

pub unless_splits : (K : Option State → Type 0) (test : Bool) (w : Result Outcome Cause) → Splits K test w → Splits K (not test) (unless w)
unless_splits K test (Err c) p = tt
unless_splits K true (Ok w) p = (λ e. cc, λ e. p.0 refl)
unless_splits K false (Ok w) p = (λ e. p.1 refl, λ e. cc)

module _ {f : Table} {s : State} {xs : List ℕ} {arrays : List SlotArray} {slots : List (List ℕ)} (h : Holds f s xs arrays slots) (states : IsState s) where
  -- the state holds, and says of register a what s says
  abbrev KnownBeside : ℕ → Option State → Type 0
  KnownBeside a None = ⊥
  KnownBeside a (Some t) = Holds f t xs arrays slots × (length t ≡ length s) × (value_at t a ≡ value_at s a)

  without : (a : ℕ) (o : Option State) → KnownBeside a o → Known f xs arrays slots o
  without a None k = k
  without a (Some t) k = k.0

  -- a word or a tag in register a is this number
  turned_out : (t : State) → Holds f t xs arrays slots → (a n : ℕ) → a < length t → is_has (value_at t a) ≡ false → slice_index xs a ≤ n
      → Holds f (refined t a (Word n)) xs arrays slots
  turned_out t k a n lt free le =
      refine k a lt (Word n) le (λ v. owns_free v (Word n) (slice_index xs a) refl ∙ sym (owns_free v (value_at t a) (slice_index xs a) free))

  becomes_known : (a imm : ℕ) → a < length s → is_has (value_at s a) ≡ false → slice_index xs a ≡ imm → (o : Option State) → KnownBeside a o
      → Known f xs arrays slots (becomes a imm o)
  becomes_known a imm lt free e None k = k
  becomes_known a imm lt free e (Some t) k =
      turned_out t k.0 a (capped imm) (subst (λ n. a < n) (sym k.1) lt) (ap is_has k.2 ∙ free) (let few = h.small a in omega arith)

  here : (a : ℕ) → KnownBeside a (Some s)
  here a = (h, refl, refl)

  better : (a r : ℕ) → a ≢ r → (v : AbsVal) → r < length s → Describes f xs v (slice_index xs r)
      → ((y : ℕ) → one_if (owns y v (slice_index xs r)) ≡ one_if (owns y (value_at s r) (slice_index xs r))) → KnownBeside a (Some (refined s r v))
  better a r apart v lt new same = (refine h r lt v new same, length-set s r v, set_apart s r a v apart)

  owned_alike : (y : ℕ) (maybe other : Bool) (k j : Option Kind) (q p : Rights) (x : ℕ) → one_if (owns y (Has maybe k q) x) ≡ one_if (owns y (Has other j p) x)
  unfolding owns
  owned_alike y maybe other k j q p x = refl

  has_there : (r : ℕ) (maybe : Bool) (k : Option Kind) (q : Rights) → value_at s r ≡ Has maybe k q → r < length s
  has_there r maybe k q is = has_inside s r (ap is_has is)

  pub zero_known : (a r : ℕ) → a ≢ r → slice_index xs r ≡ 0 → (v : AbsVal) → value_at s r ≡ v → KnownBeside a (known_zero s r v)
  zero_known a r apart z (Has maybe k q) is = by (rw is at (h.described r))
    where
      by : IsHandle f maybe k q (slice_index xs r) → KnownBeside a (if maybe then Some (refined s r (Word 0)) else None)
      by (inl (m, _)) = rw m (better a r apart (Word 0) (has_there r maybe k q is) (omega arith)
          (λ y. rw z (owns_0 y (Word 0) ∙ sym (owns_0 y (value_at s r)))))
      by (inr l) = absurd (live_apart f (nothing_at_0 h) k q (slice_index xs r) l z)
  zero_known a r apart z _ is = here a

  pub there_known : (a r : ℕ) → a ≢ r → slice_index xs r ≢ 0 → (v : AbsVal) → value_at s r ≡ v → KnownBeside a (known_there s r v)
  there_known a r apart some (Word m) is =
      let le : slice_index xs r ≤ m = rw is at (h.described r) in let not_0 : (m == 0) ≡ false = test m le in rw not_0 (here a)
    where
      test : (m : ℕ) → slice_index xs r ≤ m → (m == 0) ≡ false
      test zero le = absurd (some (omega arith))
      test (suc m) le = grind (arith, nat_tests)
  there_known a r apart some (Has maybe k q) is = by (rw is at (h.described r))
    where
      by : IsHandle f maybe k q (slice_index xs r) → KnownBeside a (Some (refined s r (Has false k q)))
      by (inl (m, z)) = absurd (some z)
      by (inr l) = better a r apart (Has false k q) (has_there r maybe k q is) (inr l) (λ y. rw is (owned_alike y false maybe k k q q (slice_index xs r)))
  there_known a r apart some _ is = here a

  -- a register that can be named, and whose number is that of a handle, has one
  named_has : (r : ℕ) (e : Entry) → f (slice_index xs r) ≡ Some e → (m : ℕ) → value_at s r ≡ Word m → can_be_named (Word m) ≡ true → ⊥
  named_has r e there m is fine =
      let le : slice_index xs r ≤ m = rw is at (h.described r) in
      let z : slice_index xs r ≡ 0 = grind (arith, nat_tests) in
      absurd (none-some e (sym (nothing_at_0 h) ∙ (ap f (sym z) ∙ there)))

  as_there : (r : ℕ) (e : Entry) → f (slice_index xs r) ≡ Some e → (maybe : Bool) (k : Option Kind) (q : Rights) → value_at s r ≡ Has maybe k q
      → IsAs k q (Some e)
  as_there r e there maybe k q is = by (rw is at (h.described r))
    where
      by : IsHandle f maybe k q (slice_index xs r) → IsAs k q (Some e)
      by (inl (m, z)) = absurd (none-some e (sym (nothing_at_0 h) ∙ (ap f (sym z) ∙ there)))
      by (inr l) = subst (IsAs k q) there l

  pub kind_known : (a r : ℕ) → a ≢ r → (e : Entry) → f (slice_index xs r) ≡ Some e → (v : AbsVal) → value_at s r ≡ v → can_be_named v ≡ true
      → KnownBeside a (known_kind s r (Some e.kind) v)
  kind_known a r apart e there (Word m) is fine = absurd (named_has r e there m is fine)
  kind_known a r apart e there (Has maybe j q) is fine =
      let l = as_there r e there maybe j q is in
      rw l.0 (better a r apart (Has false (Some e.kind) q) (has_there r maybe j q is)
      (inr (subst (IsAs (Some e.kind) q) (sym there) (same_kind_refl e.kind, l.1)))
      (λ y. rw is (owned_alike y false maybe (Some e.kind) j q q (slice_index xs r))))
  kind_known a r apart e there _ is fine = cc

  -- a handle of another kind
  other_by : (r : ℕ) (k : Kind) → (kind_in (f (slice_index xs r)) ≡ kind_number k → ⊥) → (v : AbsVal) → value_at s r ≡ v
      → Known f xs arrays slots (known_other s (Some k) v)
  other_by r k apart (Has maybe None q) is = h
  other_by r k apart (Has true (Some j) q) is = h
  other_by r k apart (Has false (Some j) q) is = by (same_kind k j) refl
    where
      of_kind : (o : Option Entry) → IsAs (Some j) q o → kind_in o ≡ kind_number j
      of_kind None l = absurd l
      of_kind (Some e) l = eqb-true (kind_number e.kind) (kind_number j) l.0

      live : IsHandle f false (Some j) q (slice_index xs r) → kind_in (f (slice_index xs r)) ≡ kind_number j
      live (inl (m, z)) = cc
      live (inr l) = of_kind (f (slice_index xs r)) l

      by : (t : Bool) → same_kind k j ≡ t → Known f xs arrays slots (if t then None else Some s)
      by true e = apart (live (rw is at (h.described r)) ∙ sym (eqb-true (kind_number k) (kind_number j) e))
      by false e = h
  other_by r k apart _ is = h

  pub other_known : (r imm : ℕ) → (kind_in (f (slice_index xs r)) ≡ imm → ⊥) → (o : Option Kind) → kind_numbered imm ≡ o
      → Known f xs arrays slots (known_other s o (value_at s r))
  other_known r imm apart None is = h
  other_known r imm apart (Some k) is = other_by r k (λ e. apart (e ∙ numbered_is imm k is)) (value_at s r) refl

  pub rights_known : (r imm : ℕ) (e : Entry) → f (slice_index xs r) ≡ Some e → within imm (bits e.rights) ≡ true → within imm KNOWN_RIGHTS ≡ true → (v : AbsVal)
      → value_at s r ≡ v → can_be_named v ≡ true → Known f xs arrays slots (known_rights s r imm v)
  rights_known r imm e there has known (Word m) is fine = absurd (named_has r e there m is fine)
  rights_known r imm e there has known (Has maybe k q) is fine =
      let l = as_there r e there maybe k q is in
      rw known (refine h r (has_there r maybe k q is) (Has false k (rights_of (bit_or (bits q) imm)))
      (inr (subst (IsAs k (rights_of (bit_or (bits q) imm))) (sym there) (l.0, within_both (bits q) imm (bits e.rights) l.1 has)))
      (λ y. rw is (owned_alike y false maybe k k (rights_of (bit_or (bits q) imm)) q (slice_index xs r))))
  rights_known r imm e there has known _ is fine = cc

  -- ---- the tests

  test_apart : (x n : ℕ) → (x == n) ≡ false → x ≢ n
  test_apart x n e is = let t : (x == n) ≡ true = eq-eqb x n is in cc

  kind_splits : (a imm r : ℕ) → a < length s → value_at s a ≡ KindOf r → Splits (Known f xs arrays slots) (slice_index xs a == imm) (Ok (kind_ways s a imm r))
  kind_splits a imm r lt is = by (imm == 0) refl
    where
      named : can_be_named (value_at s r) ≡ true
      named = rw is at (states.tags a)

      tells : slice_index xs a ≡ kind_in (f (slice_index xs r))
      tells = rw is at (h.described a)

      apart : a ≢ r
      apart e = let bad : can_be_named (KindOf r) ≡ true = ap can_be_named (sym is) ∙ (ap (λ q. can_be_named (value_at s q)) e ∙ named) in cc

      free : is_has (value_at s a) ≡ false
      free = ap is_has is

      zero_then : slice_index xs a ≡ 0 → slice_index xs r ≡ 0
      zero_then z = gone (f (slice_index xs r)) refl (value_at s r) refl named
        where
          none : f (slice_index xs r) ≡ None
          none = none_numbered (f (slice_index xs r)) (sym tells ∙ z)

          gone : (o : Option Entry) → f (slice_index xs r) ≡ o → (v : AbsVal) → value_at s r ≡ v → can_be_named v ≡ true → slice_index xs r ≡ 0
          gone o e (Word m) here fine = let le : slice_index xs r ≤ m = rw here at (h.described r) in grind (arith, nat_tests)
          gone o e (Has maybe k q) here fine = out (rw here at (h.described r))
            where
              out : IsHandle f maybe k q (slice_index xs r) → slice_index xs r ≡ 0
              out (inl (m, z)) = z
              out (inr l) = absurd (subst (IsAs k q) none l)
          gone o e _ here fine = cc

      some_then : slice_index xs a ≢ 0 → slice_index xs r ≢ 0
      some_then some z = some (tells ∙ (ap kind_in (ap f z ∙ nothing_at_0 h)))

      kind_then : slice_index xs a ≡ imm → imm ≢ 0 → (o : Option Entry) → f (slice_index xs r) ≡ o
          → KnownBeside a (known_kind s r (kind_numbered imm) (value_at s r))
      kind_then e some None there = absurd (some (sym e ∙ (tells ∙ ap kind_in there)))
      kind_then e some (Some x) there =
          let number : kind_numbered imm ≡ Some x.kind = ap kind_numbered (sym e ∙ (tells ∙ ap kind_in there)) ∙ numbered_again x.kind in
          rw number (kind_known a r apart x there (value_at s r) refl named)

      by : (t : Bool) → (imm == 0) ≡ t → Splits (Known f xs arrays slots) (slice_index xs a == imm) (Ok (if t
          then record { jumped = becomes a 0 (known_zero s r (value_at s r)); passed = known_there s r (value_at s r) }
          else
          record { jumped = becomes a imm (known_kind s r (kind_numbered imm) (value_at s r)); passed = known_other s (kind_numbered imm) (value_at s r) }))
      by true z = (
        (λ e. let at_0 : slice_index xs a ≡ 0 = eqb-true (slice_index xs a) imm e ∙ eqb-true imm 0 z in
            becomes_known a 0 lt free at_0 _ (zero_known a r apart (zero_then at_0) (value_at s r) refl)),
        (λ e.
            without a _ (there_known a r apart (some_then (λ at_0. test_apart (slice_index xs a) imm e (at_0 ∙ sym (eqb-true imm 0 z)))) (value_at s r) refl)),
      )
      by false z = (
        (λ e. let at_imm : slice_index xs a ≡ imm = eqb-true (slice_index xs a) imm e in
            becomes_known a imm lt free at_imm _ (kind_then at_imm (test_apart imm 0 z) (f (slice_index xs r)) refl)),
        (λ e. other_known r imm (λ k. test_apart (slice_index xs a) imm e (tells ∙ k)) (kind_numbered imm) refl),
      )

  pub equal_splits : (a imm : ℕ) → a < length s → (v : AbsVal) → value_at s a ≡ v
      → Splits (Known f xs arrays slots) (slice_index xs a == imm) (equal_ways s a imm v)
  equal_splits a imm lt (Has maybe k r) is = tt
  equal_splits a imm lt (KindOf r) is = kind_splits a imm r lt is
  equal_splits a imm lt (RightsOf r) is = ((λ e. becomes_known a imm lt (ap is_has is) (eqb-true (slice_index xs a) imm e) (Some s) (here a)), (λ e. h))
  equal_splits a imm lt (Word m) is = ((λ e. jump (eqb-true (slice_index xs a) imm e)), (λ e. pass (test_apart (slice_index xs a) imm e)))
    where
      le : slice_index xs a ≤ m
      le = rw is at (h.described a)

      jump : slice_index xs a ≡ imm → Known f xs arrays slots (if nat_lt m (capped imm) then None else becomes a imm (Some s))
      jump e = let in_it : nat_lt m (capped imm) ≡ false = grind (arith, nat_tests) in rw in_it (becomes_known a imm lt (ap is_has is) e (Some s) (here a))

      both_0 : (x m n : ℕ) → x ≤ m → x ≢ n → ((m == 0) && (n == 0)) ≡ false
      both_0 x zero zero le apart = absurd (apart (omega arith))
      both_0 x zero (suc n) le apart = grind (arith, nat_tests)
      both_0 x (suc m) n le apart = grind (arith, nat_tests)

      pass : slice_index xs a ≢ imm → Known f xs arrays slots (if (m == 0) && (imm == 0) then None else Some s)
      pass e = rw (both_0 (slice_index xs a) m imm le e) h

  pub zero_splits : (a : ℕ) → a < length s → (v : AbsVal) → value_at s a ≡ v → Splits (Known f xs arrays slots) (slice_index xs a == 0) (zero_ways s a v)
  zero_splits a lt (Has maybe k q) is = (
    (λ e. without (suc a) (known_zero s a (Has maybe k q)) (zero_known (suc a) a above (eqb-true (slice_index xs a) 0 e) (Has maybe k q) is)),
    (λ e. without (suc a) (known_there s a (Has maybe k q)) (there_known (suc a) a above (test_apart (slice_index xs a) 0 e) (Has maybe k q) is)),
  )
    where
      above : suc a ≢ a
      above e = omega arith
  zero_splits a lt v is = equal_splits a 0 lt v is

  bound_splits : (a imm m : ℕ) → a < length s → is_has (value_at s a) ≡ false → slice_index xs a ≤ m
      → Splits (Known f xs arrays slots) (nat_lt (slice_index xs a) imm) (Ok (record {
        jumped = if imm == 0 then None else Some (refined s a (Word (smaller m (imm - 1))));
        passed = if nat_lt m imm then None else Some s;
      }))
  bound_splits a imm m lt free le = (jump, pass)
    where
      jump : nat_lt (slice_index xs a) imm ≡ true → Known f xs arrays slots (if imm == 0 then None else Some (refined s a (Word (smaller m (imm - 1)))))
      jump e =
          let some : (imm == 0) ≡ false = grind (arith, nat_tests) in
          rw some (turned_out s h a (smaller m (imm - 1)) lt free (fits (slice_index xs a) m imm le e))
        where
          fits : (x m n : ℕ) → x ≤ m → nat_lt x n ≡ true → x ≤ smaller m (n - 1)
          fits x m n le e = grind (arith, nat_tests)

      pass : nat_lt (slice_index xs a) imm ≡ false → Known f xs arrays slots (if nat_lt m imm then None else Some s)
      pass e = let out : nat_lt m imm ≡ false = grind (arith, nat_tests) in rw out h

  pub below_splits : (a imm : ℕ) → a < length s → Splits (Known f xs arrays slots) (nat_lt (slice_index xs a) imm) (below_ways s a imm)
  below_splits a imm lt = by (value_at s a) refl
    where
      by : (v : AbsVal) → value_at s a ≡ v → Splits (Known f xs arrays slots) (nat_lt (slice_index xs a) imm) (below_ways s a imm)
      by (Word m) is = rw is (bound_splits a imm m lt (ap is_has is) (rw is at (h.described a)))
      by (Has maybe k r) is = rw is tt
      by _ is = rw is (bound_splits a imm ANY lt (ap is_has is) (h.small a))

  -- the rights of handles are known ones
  module _ (known : (v : ℕ) (e : Entry) → f v ≡ Some e → within (bits e.rights) KNOWN_RIGHTS ≡ true) where
    rights_by : (a imm r : ℕ) → value_at s a ≡ RightsOf r → within imm (slice_index xs a) ≡ true → (imm == 0) ≡ false → (o : Option Entry)
        → f (slice_index xs r) ≡ o → Known f xs arrays slots (known_rights s r imm (value_at s r))
    rights_by a imm r is has some None there = absurd (rights_none imm (slice_index xs a) (rw (is, there) at (h.described a)) has some)
    rights_by a imm r is has some (Some e) there =
        let tells : slice_index xs a ≡ rights_in (f (slice_index xs r)) = rw is at (h.described a) in
        let inside : within imm (bits e.rights) ≡ true = subst (λ n. within imm n ≡ true) (tells ∙ ap rights_in there) has in
        rights_known r imm e there inside (within_trans KNOWN_RIGHTS (bits e.rights) imm (known (slice_index xs r) e there) inside) (value_at s r) refl
        (rw is at (states.tags a))

    pub has_splits : (a imm : ℕ) (v : AbsVal) → value_at s a ≡ v → Splits (Known f xs arrays slots) (within imm (slice_index xs a)) (has_ways s imm v)
    has_splits a imm (Word m) is = ((λ e. h), (λ e. h))
    has_splits a imm (KindOf r) is = ((λ e. h), (λ e. h))
    has_splits a imm (Has maybe k r) is = tt
    has_splits a imm (RightsOf r) is = ((λ e. by e (imm == 0) refl), (λ e. h))
      where
        by : within imm (slice_index xs a) ≡ true → (t : Bool) → (imm == 0) ≡ t
            → Known f xs arrays slots (if t then Some s else known_rights s r imm (value_at s r))
        by e true z = h
        by e false z = rights_by a imm r is e z (f (slice_index xs r)) refl
