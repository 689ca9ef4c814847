-- What a use of an argument leaves in its row: a value, and a number where its parser wants one.
use Rattle.zl_command.proofs.Common.{Bool, Err, ErrorKind, HasNumber, HasValue, IsSome, List, MayHaveNumber, None, Ok, Option, ParsesUnsigned, Result, Some}
use Rattle.zl_command.proofs.Common.{Text, [], ap, arith, bytes_eq, cond, false, filled, find, inl, inr, is_some, needed, number, number_of, numbered}
use Rattle.zl_command.proofs.Common.{option_and_then, option_map, option_map_or, refl, slice_get, subst, sym, true, true≢false, unwrap_or, with_index, ℕ}
use Rattle.zl_command.proofs.Common.{repeated, single, ◌++◌, ◌∙◌, ◌∷◌, ◌≡◌, ◌⊎◌}
use Rattle.std.proofs.Common.{◌≤◌, ◌<◌, ◌^◌, leb-true, ltb-true}
use Rattle.std.specs.Prelude.{IsSomeAnd, nat_lt}
use Rattle.std.specs.List.{list_all}
use Rattle.std.specs.Char.{digit_value}
use Rattle.std.specs.Str.Parse.{AllDigits, IsNumeral, digits_value, without_leading_plus}
use Rattle.clap.specs.Facts.{explicit_source, unwrap_or_range}
use Rattle.clap.specs.Faults.{action_fault, set_fault, values_fault}
use Rattle.clap.specs.Kinds.{range_kinds}
use Rattle.clap.specs.Takes.{is_given}
use Rattle.clap.specs.Values.{read_as}
use Rattle.clap.specs.ValueTests.{is_numeral, is_unsigned_in}
use Rattle.clap.specs.Walk.{Row, Rule, action_of, at_row, more_values, most_values, one_of, reading_by, row_text, rows_of, stronger, used_as, without}
use Rattle.clap.specs.Words.{ReadsOne, one_text}
use Rattle.clap.proofs.WalkLemmas.{both, one_text-rows}
use Rattle.clap.specs.declared.builder.action.ArgAction.{ArgAction}
use Rattle.clap.specs.declared.builder.action.ArgAction.TheVariants.{Append, Set}
use Rattle.clap.specs.declared.error.kind.ErrorKind.TheVariants.{ValueValidation}
use Rattle.clap.specs.declared.parser.matches.Found.{Found}
use Rattle.clap.specs.declared.parser.matches.ValueSource.TheVariants.{CommandLine}
use Rattle.zl_command.proofs.WalkKeeps.{Each, KeepsRows, found_has, none_of}

-- ---- a use of an argument that takes a value

-- the row with more values behind its own
abbrev grown : List Text → Row → Row
grown more r = record r { values = r.values ++ more; source = Some (stronger r.source CommandLine) }

-- the row of a first use
abbrev fresh : Rule → List Text → Row
fresh a values = record { id = a.id; values = values; count = None; source = Some CommandLine; reading = reading_by a }

-- a fact of rows that stays as a row grows
module _ (R : Row → Type 0) (grows : (more : List Text) (r : Row) → R r → R (grown more r)) where
  each_append : (xs ys : List Row) → Each R xs → Each R ys → Each R (xs ++ ys)
  each_append [] ys xs_are ys_are = ys_are
  each_append (x ∷ xs) ys xs_are ys_are = (xs_are.0, each_append xs ys xs_are.1 ys_are)

  at_row_keeps : (id : Text) (change : Row → List Row) (missing rows : List Row) → ((r : Row) → R r → Each R (change r)) → Each R missing
      → Each R rows → Each R (at_row id change missing rows)
  at_row_keeps id change missing [] changed last each = last
  at_row_keeps id change missing (r ∷ rs) changed last each = go (bytes_eq r.id id) (at_row_keeps id change missing rs changed last each.1)
    where
      go : (b : Bool) → Each R (at_row id change missing rs) → Each R (cond b (change r ++ rs) (r ∷ at_row id change missing rs))
      go true later = each_append (change r) rs (changed r each.0) each.1
      go false later = (each.0, later)

  one_grows : (more : List Text) (r : Row) → R r → Each R (grown more r ∷ [])
  one_grows more r h = (grows more r h, tt)

  pub use_keeps : (rules : List Rule) (again : Bool) (a : Rule) → action_of a ≡ Set → (unwrap_or_range a.range).start_inclusive ≡ 1
      → ((v : Text) (vs : List Text) → values_fault a (v ∷ vs) ≡ [] → R (fresh a (v ∷ vs))) → KeepsRows rules again R a
  use_keeps rules again a is_set is_one first [] rows e each =
      let wanted : range_kinds 1 (most_values a) 0 ≡ [] = subst (λ (n : ℕ). range_kinds n (most_values a) 0 ≡ []) is_one (none_of _ _ e).0 in
      cc
  use_keeps rules again a is_set is_one first (v ∷ vs) rows e each =
      let uses : set_fault again a (v ∷ vs) rows ≡ [] = subst (λ (x : ArgAction). action_fault x again a (v ∷ vs) rows ≡ []) is_set (none_of _ _ e).1 in
      let kept = at_row_keeps a.id (λ _. []) [] rows (λ r h. tt) tt each in
      subst (λ (x : ArgAction). Each R (used_as x a.id (reading_by a) (v ∷ vs) rows)) (sym is_set)
      (at_row_keeps a.id (more_values CommandLine (v ∷ vs)) (fresh a (v ∷ vs) ∷ []) (without a.id rows) (one_grows (v ∷ vs))
      (first v vs (none_of _ _ uses).1, tt) kept)

  -- a use that adds its values to those of the uses before it
  pub more_keeps : (rules : List Rule) (again : Bool) (a : Rule) → action_of a ≡ Append → (unwrap_or_range a.range).start_inclusive ≡ 1
      → ((v : Text) (vs : List Text) → values_fault a (v ∷ vs) ≡ [] → R (fresh a (v ∷ vs))) → KeepsRows rules again R a
  more_keeps rules again a is_append is_one first [] rows e each =
      let wanted : range_kinds 1 (most_values a) 0 ≡ [] = subst (λ (n : ℕ). range_kinds n (most_values a) 0 ≡ []) is_one (none_of _ _ e).0 in
      cc
  more_keeps rules again a is_append is_one first (v ∷ vs) rows e each =
      let passes : values_fault a (v ∷ vs) ≡ [] = subst (λ (x : ArgAction). action_fault x again a (v ∷ vs) rows ≡ []) is_append (none_of _ _ e).1 in
      subst (λ (x : ArgAction). Each R (used_as x a.id (reading_by a) (v ∷ vs) rows)) (sym is_append)
      (at_row_keeps a.id (more_values CommandLine (v ∷ vs)) (fresh a (v ∷ vs) ∷ []) rows (one_grows (v ∷ vs)) (first v vs passes, tt) each)

-- ---- rows with a value

abbrev HasAny : List Text → Type 0
HasAny [] = ⊥
HasAny (value ∷ more) = Unit {0}

abbrev pub IsFilled : Row → Type 0
IsFilled row = HasAny row.values

filled_grows : (more : List Text) (r : Row) → IsFilled r → IsFilled (grown more r)
filled_grows more r h = go r.values h
  where
    go : (values : List Text) → HasAny values → HasAny (values ++ more)
    go [] h = absurd h
    go (v ∷ vs) h = tt

-- a word and an option that must be there
pub needed_keeps : (rules : List Rule) (again : Bool) (name : Text) (place : ℕ) → KeepsRows rules again IsFilled (with_index place (filled (needed name)))
needed_keeps rules again name place = use_keeps IsFilled filled_grows rules again (with_index place (filled (needed name))) refl refl (λ v vs e. tt)

pub option_keeps : (rules : List Rule) (again : Bool) (name : Text) (least most place : ℕ) (required : Bool)
    → KeepsRows rules again IsFilled (with_index place (filled (record (numbered name least most) { required = required })))
option_keeps rules again name least most place required =
    use_keeps IsFilled filled_grows rules again (with_index place (filled (record (numbered name least most) { required = required }))) refl refl (λ v vs e. tt)

pub repeated_keeps : (rules : List Rule) (again : Bool) (name : Text) (place : ℕ)
    → KeepsRows rules again IsFilled (with_index place (filled (repeated name)))
repeated_keeps rules again name place =
    more_keeps IsFilled filled_grows rules again (with_index place (filled (repeated name))) refl refl (λ v vs e. tt)

pub single_keeps : (rules : List Rule) (again : Bool) (name : Text) (place : ℕ) → KeepsRows rules again IsFilled (with_index place (filled (single name)))
single_keeps rules again name place = use_keeps IsFilled filled_grows rules again (with_index place (filled (single name))) refl refl (λ v vs e. tt)

-- what was given has a value
pub given_first : (name : Text) (rows : List Row) → Each IsFilled rows → is_given name rows ≡ true → HasValue rows name
given_first name rows filled_rows given = go (find (λ r. bytes_eq r.id name) rows) (λ row is. found_has IsFilled _ rows row filled_rows is) given
  where
    first : (values : List Text) → HasAny values → IsSome (slice_get values 0)
    first [] h = absurd h
    first (v ∷ vs) h = refl

    go : (found : Option Row) → ((row : Row) → found ≡ Some row → IsFilled row) → option_map_or (λ r. explicit_source r.source) found false ≡ true
        → IsSome (option_and_then (λ r. slice_get r.values 0) found)
    go None filled_row e = absurd (true≢false (sym e))
    go (Some row) filled_row e = first row.values (filled_row row refl)

-- ---- rows with a number

abbrev IsWithin : ℕ → ℕ → Option ℕ → Type 0
IsWithin least most found = IsSomeAnd found (λ n. (least ≤ n) × (n ≤ most))

-- a row of this name reads as a number from least to most
abbrev pub IsNumberRow : Text → ℕ → ℕ → Row → Type 0
IsNumberRow name least most row = bytes_eq row.id name ≡ true → IsWithin least most (option_and_then number (row_text row))

number_grows : (name : Text) (least most : ℕ) (more : List Text) (r : Row) → IsNumberRow name least most r → IsNumberRow name least most (grown more r)
number_grows name least most more r h same = go r.values (h same)
  where
    go : (values : List Text) → IsWithin least most (option_and_then number (option_map (read_as r.reading) (slice_get values 0)))
        → IsWithin least most (option_and_then number (option_map (read_as r.reading) (slice_get (values ++ more) 0)))
    go [] h = absurd h
    go (v ∷ vs) h = h

passed : (b : Bool) (kind : ErrorKind) → cond b [] (kind ∷ []) ≡ [] → b ≡ true
passed true kind e = refl
passed false kind e = cc

is_within : (least most : ℕ) (text : Text) → is_unsigned_in least most text ≡ true → IsWithin least most (number text)
is_within least most text passes =
    let digits = both _ _ passes in
    let fits = both _ _ digits.1 in
    let bounds = both _ _ fits.1 in
    subst (λ (b : Bool). IsWithin least most (cond b (Some (digits_value 10 (without_leading_plus text))) None)) (sym digits.0)
    (leb-true _ _ bounds.0, leb-true _ _ bounds.1)

-- the option of that name, and any other argument
pub number_keeps : (rules : List Rule) (again : Bool) (name : Text) (least most place : ℕ) (required : Bool)
    → KeepsRows rules again (IsNumberRow name least most) (with_index place (filled (record (numbered name least most) { required = required })))
number_keeps rules again name least most place required =
    let rule = with_index place (filled (record (numbered name least most) { required = required })) in
    use_keeps (IsNumberRow name least most) (number_grows name least most) rules again rule refl refl
    (λ v vs e same. is_within least most v (passed (is_unsigned_in least most v) ValueValidation (none_of _ _ e).0))

pub other_keeps : (rules : List Rule) (again : Bool) (name : Text) (least most : ℕ) (a : Rule) → action_of a ≡ Set
    → (unwrap_or_range a.range).start_inclusive ≡ 1 → bytes_eq a.id name ≡ false → KeepsRows rules again (IsNumberRow name least most) a
other_keeps rules again name least most a is_set is_one apart =
    use_keeps (IsNumberRow name least most) (number_grows name least most) rules again a is_set is_one (λ v vs e same. absurd (true≢false (sym same ∙ apart)))

pub other_more_keeps : (rules : List Rule) (again : Bool) (name : Text) (least most : ℕ) (a : Rule) → action_of a ≡ Append
    → (unwrap_or_range a.range).start_inclusive ≡ 1 → bytes_eq a.id name ≡ false → KeepsRows rules again (IsNumberRow name least most) a
other_more_keeps rules again name least most a is_append is_one apart =
    more_keeps (IsNumberRow name least most) (number_grows name least most) rules again a is_append is_one
    (λ v vs e same. absurd (true≢false (sym same ∙ apart)))

found_passes : {X : Type 0} (p : X → Bool) (xs : List X) (x : X) → find p xs ≡ Some x → p x ≡ true
found_passes p [] x found = cc
found_passes p (y ∷ ys) x found = go (p y) refl found (λ later. found_passes p ys x later)
  where
    go : (b : Bool) → p y ≡ b → cond b (Some y) (find p ys) ≡ Some x → (find p ys ≡ Some x → p x ≡ true) → p x ≡ true
    go true is found later =
        let same : y ≡ x = cc in
        subst (λ z. p z ≡ true) same is
    go false is found later = later found

-- what was given has a number
pub given_number : (name : Text) (least most : ℕ) (rows : List Row) → Each (IsNumberRow name least most) rows → is_given name rows ≡ true
    → HasNumber rows name least most
given_number name least most rows each given =
    go (find (λ r. bytes_eq r.id name) rows) (λ row is. found_has (IsNumberRow name least most) _ rows row each is (found_passes _ rows row is)) given
  where
    go : (found : Option Row) → ((row : Row) → found ≡ Some row → IsWithin least most (option_and_then number (row_text row)))
        → option_map_or (λ r. explicit_source r.source) found false ≡ true → IsWithin least most (option_and_then number (option_and_then row_text found))
    go None is_number e = absurd (true≢false (sym e))
    go (Some row) is_number e = is_number row refl

-- what may be given has a number, if it was
pub may_have_number : (name : Text) (least most : ℕ) (rows : List Row) → Each (IsNumberRow name least most) rows → MayHaveNumber rows name least most
may_have_number name least most rows each =
    go (find (λ r. bytes_eq r.id name) rows) (λ row is. found_has (IsNumberRow name least most) _ rows row each is (found_passes _ rows row is))
  where
    go : (found : Option Row) → ((row : Row) → found ≡ Some row → IsWithin least most (option_and_then number (row_text row)))
        → (option_and_then row_text found ≡ None) ⊎ IsWithin least most (option_and_then number (option_and_then row_text found))
    go None is_number = inl refl
    go (Some row) is_number = inr (is_number row refl)

-- ---- what is read of such a row

digits_from : (ds : List ℕ) → list_all (λ d. nat_lt (digit_value d) 10) ds ≡ true → AllDigits 10 ds
digits_from [] e = tt
digits_from (d ∷ ds) e =
    let parts = both _ _ e in
    (ltb-true _ _ parts.0, digits_from ds parts.1)

numeral_from : (ds : List ℕ) → is_numeral ds ≡ true → IsNumeral 10 ds
numeral_from ds e =
    let parts = both _ _ e in
    (ltb-true _ _ parts.0, digits_from ds parts.1)

-- what `get_one` gives at an unsigned type that has room for the most
module _ (E : Type 0) (G : Text → Result ℕ E → Type 0) (bits least most : ℕ) (parses : (t : Text) (x : Result ℕ E) → G t x → ParsesUnsigned bits 10 t x)
    (room : most < 2 ^ bits) (found : Found) (name : Text) (r : Option ℕ) (reads : (t : Text) → one_text found name ≡ Some t → ReadsOne G t r) where
  abbrev IsRead : ℕ → Type 0
  IsRead n = (number_of name (rows_of found) ≡ Some n) × (least ≤ n) × (n ≤ most)

  by_text : (t : Text) (x : Option ℕ) → ReadsOne G t x → (b : Bool) → is_numeral (without_leading_plus t) ≡ b
      → IsWithin least most (cond b (Some (digits_value 10 (without_leading_plus t))) None)
      → IsSomeAnd x (λ n. (cond b (Some (digits_value 10 (without_leading_plus t))) None ≡ Some n) × (least ≤ n) × (n ≤ most))
  by_text t (Some v) read true is bounds =
      let same : v ≡ digits_value 10 (without_leading_plus t) = (parses t (Ok v) read).1 in
      rw same (refl, bounds.0, bounds.1)
  by_text t None read true is bounds =
      let small : digits_value 10 (without_leading_plus t) < 2 ^ bits = omega (arith, room, bounds.1) in
      absurd (parses t (Err read.0) read.1 (numeral_from _ is, small))
  by_text t x read false is bounds = absurd bounds

  abbrev Has : Type 0
  Has = HasNumber (rows_of found) name least most

  is_read : Has → IsSomeAnd r IsRead
  is_read has = go (one_of name (rows_of found)) (one_text-rows found name) has
    where
      go : (o : Option Text) → one_text found name ≡ o → IsWithin least most (option_and_then number o)
          → IsSomeAnd r (λ n. (option_and_then number o ≡ Some n) × (least ≤ n) × (n ≤ most))
      go None is bounds = absurd bounds
      go (Some t) is bounds = by_text t r (reads t is) (is_numeral (without_leading_plus t)) refl bounds

  -- something, which is the number that the rows have
  pub reads_some : Has → is_some r ≡ true
  reads_some has = some_and r (is_read has)
    where
      some_and : (o : Option ℕ) → IsSomeAnd o IsRead → is_some o ≡ true
      some_and None h = absurd h
      some_and (Some n) h = refl

  pub reads_number : Has → (n : ℕ) → r ≡ Some n → IsRead n
  reads_number has n is = subst (λ (o : Option ℕ). IsSomeAnd o IsRead) is (is_read has)

  -- the number that the rows have, or else this one
  abbrev IsReadOr : ℕ → Option ℕ → Type 0
  IsReadOr other o = (unwrap_or o other ≡ unwrap_or (number_of name (rows_of found)) other) × (least ≤ unwrap_or o other) × (unwrap_or o other ≤ most)

  pub reads_or : (one_text found name ≡ None → r ≡ None) → MayHaveNumber (rows_of found) name least most → (other : ℕ) → least ≤ other → other ≤ most
      → IsReadOr other r
  reads_or none (inl nothing) other over under =
      let no_number = ap (λ o. unwrap_or (option_and_then number o) other) nothing in
      subst (IsReadOr other) (sym (none (one_text-rows found name ∙ nothing))) (sym no_number, over, under)
  reads_or none (inr has) other over under = go r (is_read has)
    where
      go : (o : Option ℕ) → IsSomeAnd o IsRead → IsReadOr other o
      go None h = absurd h
      go (Some n) h = (sym (ap (λ x. unwrap_or x other) h.0), h.1, h.2)
