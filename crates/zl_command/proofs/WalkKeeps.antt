-- What a parse with no fault keeps, word by word: a fact of each row, and one of the subcommand's name.
use Rattle.zl_command.proofs.Common.{Bool, IfSome, List, None, Option, Shape, Some, Text, [], ap, bytes_eq, cond, drop, encode_utf8, false, find, fold, is_some}
use Rattle.zl_command.proofs.Common.{length, option_map_or, refl, slice_get, subst, suc, sym, true, zero, ℕ, ◌&&◌, ◌∙◌, ◌∷◌, ◌≡◌}
use Rattle.std.specs.Str.{chars}
use Rattle.clap.specs.Lexer.{long_of, short_of}
use Rattle.clap.specs.Walk.{Held, Names, Outcome, Row, Rule, Step, Waiting, Walk, after_flag, after_step, arg_by_id, arg_by_index, arg_by_long, arg_by_short}
use Rattle.clap.specs.Walk.{attached_value, flag_met, bundle_met, bundle_step, done, has_row, default_rows, reading_by, nothing_held, rows_after, stop_after}
use Rattle.clap.specs.Walk.{walk_from, is_pending, long_met, next, option_met, plain, plain_word, option_word, positional_held, reacted, refused, settled}
use Rattle.clap.specs.Walk.{settled_rows, short_met, subcommand, subcommand_met, subcommand_or_other, takes_several, takes_values, to_positional, trailing}
use Rattle.clap.specs.Walk.{used, used_by_id, value, waits, walk, walked, walked_from, with_default, word_met, long_or_other, short_or_plain, idle, option}
use Rattle.clap.specs.Walk.{positional}
use Rattle.clap.specs.Kinds.{Kinds, or_else}
use Rattle.clap.specs.declared.error.kind.ErrorKind.TheVariants.{TooManyValues}
use Rattle.clap.specs.Faults.{bundle_step_fault, check_fault, level_fault, stray_fault, flags_fault, long_fault, option_fault, other_fault, positional_fault}
use Rattle.clap.specs.Faults.{react_fault, settle_fault, short_fault, step_fault, turn_fault, use_fault, walk_fault, word_fault, flag_word_fault}

-- each item has the fact
abbrev pub Each : {X : Type 0} → (X → Type 0) → List X → Type 0
Each P [] = Unit {0}
Each P (x ∷ xs) = P x × Each P xs

pub found_has : {X : Type 0} (P : X → Type 0) (p : X → Bool) (xs : List X) (x : X) → Each P xs → find p xs ≡ Some x → P x
found_has P p [] x each found = cc
found_has P p (y ∷ ys) x each found = go (p y) found (λ later. found_has P p ys x each.1 later)
  where
    go : (b : Bool) → cond b (Some y) (find p ys) ≡ Some x → (find p ys ≡ Some x → P x) → P x
    go true is later = let same : y ≡ x = cc in subst P same each.0
    go false is later = later is

pub none_of : (a b : Kinds) → or_else a b ≡ [] → (a ≡ []) × (b ≡ [])
none_of [] b e = (refl, e)
none_of (k ∷ ks) b e = cc

-- arguments with no default add no row
pub no_defaults : (rules : List Rule) (rows : List Row) → Each (λ a. a.defaults ≡ []) rules → fold with_default rows rules ≡ rows
no_defaults [] rows bare = refl
no_defaults (a ∷ rest) rows bare = ap (λ r. fold with_default r rest) (same (has_row a.id rows) a.defaults bare.0) ∙ no_defaults rest rows bare.1
  where
    same : (b : Bool) (defaults : List Text) → defaults ≡ [] → cond b rows (default_rows a.id (reading_by a) defaults rows) ≡ rows
    same true defaults none = refl
    same false defaults none = ap (λ d. default_rows a.id (reading_by a) d rows) none

module _ (c : List Rule) (again : Bool) (R : Row → Type 0) where
  -- a use of the argument that passes keeps the fact of each row
  abbrev pub KeepsRows : Rule → Type 0
  KeepsRows a = (values : List Text) (rows : List Row) → use_fault again a values rows ≡ [] → Each R rows → Each R (used a values rows)

  -- the argument that was looked up, if any
  abbrev Keeping : Option Rule → Type 0
  Keeping found = (a : Rule) → found ≡ Some a → KeepsRows a

  keeping : (p : Rule → Bool) → Each KeepsRows c → Keeping (find p c)
  keeping p each a is = found_has KeepsRows p c a each is

  used_by : (found : Option Rule) → Keeping found → (values : List Text) (rows : List Row) → option_map_or (λ a. use_fault again a values rows) found [] ≡ []
      → Each R rows → Each R (used_by_id found values rows)
  used_by None keep values rows e r = r
  used_by (Some a) keep values rows e r = keep a refl values rows e r

  module _ (each : Each KeepsRows c) where
    settled_by : (pending : Option (Text × List Text)) (rows : List Row)
        → option_map_or (λ p. option_map_or (λ a. use_fault again a p.1 rows) (arg_by_id c p.0) []) pending [] ≡ []
        → Each R rows → Each R (settled_rows c pending rows)
    settled_by None rows e r = r
    settled_by (Some p) rows e r = used_by (arg_by_id c p.0) (keeping _ each) p.1 rows e r

    pub settled_keeps : (h : Held) → settle_fault c again h ≡ [] → Each R h.rows → Each R (settled c h).rows
    settled_keeps h e r = settled_by h.pending h.rows e r

    reacted_keeps : (a : Rule) → KeepsRows a → (values : List Text) (h : Held) → react_fault c again a values h ≡ []
        → Each R h.rows → Each R (reacted c a values h).rows
    reacted_keeps a keep values h e r =
        let both = none_of _ _ e in
        keep values (settled c h).rows both.1 (settled_keeps h both.0 r)

    option_keeps : (a : Rule) → KeepsRows a → (v : Option Text) (h : Held) → option_fault c again a v h ≡ []
        → Each R h.rows → Each R (option_met c a v h).0.rows
    option_keeps a keep (Some v) h e r = reacted_keeps a keep (v ∷ []) h e r
    option_keeps a keep None h e r = settled_keeps h e r

    long_keeps : (found : Option Rule) → Keeping found → (v : Option Text) (h : Held) → long_fault c again found v h ≡ []
        → Each R h.rows → Each R (long_met c found v h).0.rows
    long_keeps None keep v h e r = cc
    long_keeps (Some a) keep (Some v) h e r = go (takes_values a) e
      where
        go : (b : Bool) → cond b (option_fault c again a (Some v) h) (TooManyValues ∷ []) ≡ [] → Each R (cond b (option_met c a (Some v) h) (h, refused)).0.rows
        go true e = option_keeps a (keep a refl) (Some v) h e r
        go false e = cc
    long_keeps (Some a) keep None h e r = go (takes_values a) e
      where
        go : (b : Bool) → cond b (option_fault c again a None h) (react_fault c again a [] h) ≡ []
            → Each R (cond b (option_met c a None h) (flag_met c a None h)).0.rows
        go true e = option_keeps a (keep a refl) None h e r
        go false e = reacted_keeps a (keep a refl) [] h e r

    -- the flags after the first of a bundle
    abbrev Goes : (Held → Kinds) → (Held → Held × Outcome) → Type 0
    Goes fault met = (h : Held) → fault h ≡ [] → Each R h.rows → Each R (met h).0.rows

    short_keeps : (found : Option Rule) → Keeping found → (rest : Text) (h : Held) (fault : Held → Kinds) (met : Held → Held × Outcome) → Goes fault met
        → short_fault c again found rest h fault ≡ [] → Each R h.rows → Each R (short_met c found rest h met).0.rows
    short_keeps None keep rest h fault met goes e r = cc
    short_keeps (Some a) keep rest h fault met goes e r = go (takes_values a) e
      where
        go : (b : Bool) → cond b (option_fault c again a (attached_value rest) h) (or_else (react_fault c again a [] h) (fault (reacted c a [] h))) ≡ []
            → Each R (cond b (option_met c a (attached_value rest) h) (met (reacted c a [] h))).0.rows
        go true e = option_keeps a (keep a refl) (attached_value rest) h e r
        go false e =
            let both = none_of _ _ e in
            goes (reacted c a [] h) both.1 (reacted_keeps a (keep a refl) [] h both.0 r)

    step_keeps : (first : Option ℕ) (flags : Text) (skip : ℕ) (so_far : Outcome) (h : Held) (fault : Text → ℕ → Held → Kinds)
        (met : Text → ℕ → Outcome → Held → Held × Outcome) → ((rest : Text) (skip : ℕ) (so_far : Outcome) → Goes (fault rest skip) (met rest skip so_far))
        → bundle_step_fault c again first flags skip h fault ≡ [] → Each R h.rows → Each R (bundle_step c first flags skip so_far h met).0.rows
    step_keeps None flags skip so_far h fault met goes e r = r
    step_keeps (Some x) flags zero so_far h fault met goes e r =
        let rest = drop (length (encode_utf8 x)) flags in
        short_keeps (arg_by_short c x) (keeping _ each) rest h (fault rest 0) (met rest 0 done) (goes rest 0 done) e r
    step_keeps (Some x) flags (suc skip) so_far h fault met goes e r = goes (drop (length (encode_utf8 x)) flags) skip so_far h e r

    bundle_keeps : (k : ℕ) (flags : Text) (skip : ℕ) (so_far : Outcome) → Goes (flags_fault c again k flags skip) (bundle_met c k flags skip so_far)
    unfolding flags_fault bundle_met
    bundle_keeps zero flags skip so_far h e r = r
    bundle_keeps (suc k) flags skip so_far h e r =
        step_keeps (slice_get (chars flags) 0) flags skip so_far h (flags_fault c again k) (bundle_met c k)
        (λ rest skip so_far. bundle_keeps k rest skip so_far) e r

    -- ---- one word

    plain_keeps : (waiting : Waiting) (word : Text) (h : Held) → Each R h.rows → Each R (plain_word c waiting word h).0.rows
    plain_keeps idle word h r = r
    plain_keeps positional word h r = r
    plain_keeps (option id) word h r = go (arg_by_id c id)
      where
        go : (found : Option Rule) → Each R (option_word found id word h).0.rows
        go None = r
        go (Some a) = r

    after_keeps : (waiting : Waiting) (word : Text) (h : Held) (o : Outcome) → Each R h.rows → Each R (after_flag c waiting word h o).0.rows
    after_keeps waiting word h done r = r
    after_keeps waiting word h (waits id) r = r
    after_keeps waiting word h plain r = plain_keeps waiting word h r
    after_keeps waiting word h refused r = plain_keeps waiting word h r

    flag_keeps : (waiting : Waiting) (word : Text) (h : Held) (long : Option (Text × Option Text)) → flag_word_fault c again long word h ≡ [] → Each R h.rows
        → Each R (long_or_other c waiting word long h).0.rows
    flag_keeps waiting word h (Some p) e r = after_keeps waiting word _ _ (long_keeps (arg_by_long c p.0) (keeping _ each) p.1 h e r)
    flag_keeps waiting word h None e r = go (short_of word) e
      where
        go : (short : Option Text) → option_map_or (λ flags. flags_fault c again (length flags) flags h.skip (record h { skip = 0 })) short [] ≡ []
            → Each R (short_or_plain c waiting word short h).0.rows
        go None e = plain_keeps waiting word h r
        go (Some flags) e = after_keeps waiting word _ _ (bundle_keeps (length flags) flags h.skip plain (record h { skip = 0 }) e r)

-- ---- the words of a command with the shape s, whose subcommand's name has the fact Q
module _ (s : Shape) (names : Names) (R : Row → Type 0) (each : Each (KeepsRows s.rules s.args_override_self R) s.rules) (Q : Text → Type 0)
    (named : (name word : Text) (h : Held) → other_fault s (Some name) word h ≡ [] → Q name) where
  abbrev Named : Step → Type 0
  Named (subcommand name) = Q name
  Named _ = Unit {0}

  plain_named : (waiting : Waiting) (word : Text) (h : Held) → Named (plain_word s.rules waiting word h).1
  plain_named idle word h = tt
  plain_named positional word h = tt
  plain_named (option id) word h = tt

  after_named : (waiting : Waiting) (word : Text) (h : Held) (o : Outcome) → Named (after_flag s.rules waiting word h o).1
  after_named waiting word h done = tt
  after_named waiting word h (waits id) = tt
  after_named waiting word h plain = plain_named waiting word h
  after_named waiting word h refused = plain_named waiting word h

  flag_named : (waiting : Waiting) (word : Text) (h : Held) (long : Option (Text × Option Text)) → Named (long_or_other s.rules waiting word long h).1
  flag_named waiting word h (Some p) = after_named waiting word _ _
  flag_named waiting word h None = go (short_of word)
    where
      go : (short : Option Text) → Named (short_or_plain s.rules waiting word short h).1
      go None = plain_named waiting word h
      go (Some flags) = after_named waiting word _ _

  word_keeps : (is_trailing : Bool) (waiting : Waiting) (position : ℕ) (word : Text) (h : Held) → word_fault s names is_trailing waiting word h ≡ []
      → Each R h.rows
      → Each R (word_met s.rules names is_trailing waiting position word h).0.rows × Named (word_met s.rules names is_trailing waiting position word h).1
  word_keeps true waiting position word h e r = (r, tt)
  word_keeps false waiting position word h e r = go (subcommand_met names waiting word) e
    where
      other : (b : Bool) → cond b [] (flag_word_fault s.rules s.args_override_self (long_of word) word h) ≡ []
          → Each R (cond b (h, trailing position) (long_or_other s.rules waiting word (long_of word) h)).0.rows
          × Named (cond b (h, trailing position) (long_or_other s.rules waiting word (long_of word) h)).1
      other true e = (r, tt)
      other false e = (flag_keeps s.rules s.args_override_self R each waiting word h (long_of word) e r, flag_named waiting word h (long_of word))

      go : (met : Option Text) → other_fault s met word h ≡ []
          → Each R (subcommand_or_other s.rules met waiting position word h).0.rows × Named (subcommand_or_other s.rules met waiting position word h).1
      go (Some name) e = (r, named name word h e)
      go None e = other (bytes_eq word (45 ∷ 45 ∷ [])) e

  positional_keeps : (a : Rule) (word : Text) (h : Held) → positional_fault s.rules s.args_override_self a h ≡ []
      → Each R h.rows → Each R (positional_held s.rules a word h).rows
  positional_keeps a word h e r = go (is_pending a h.pending && takes_several a) e
    where
      go : (b : Bool) → cond b [] (settle_fault s.rules s.args_override_self h) ≡ [] → Each R (cond b h (settled s.rules h)).rows
      go true e = r
      go false e = settled_keeps s.rules s.args_override_self R each h e r

  -- where a walk stands
  abbrev Fits : Walk → Type 0
  Fits w = Each R w.held.rows × IfSome w.stopped (λ p. Q p.0)

  step_fits : (w : Walk) (word : Text) (h : Held) (step : Step) → step_fault s w.position h step ≡ [] → IfSome w.stopped (λ p. Q p.0)
      → Each R h.rows → Named step → Fits (after_step s.rules word w h step)
  step_fits w word h (next waiting) e q r n = (r, q)
  step_fits w word h (trailing position) e q r n = (r, q)
  step_fits w word h (subcommand name) e q r n = (r, n)
  step_fits w word h value e q r n = go (arg_by_index s.rules w.position) e
    where
      go : (found : Option Rule) → option_map_or (λ a. positional_fault s.rules s.args_override_self a h) found (stray_fault s) ≡ []
          → Fits (to_positional s.rules found word w h)
      go None e = (r, q)
      go (Some a) e = (positional_keeps a word h e r, tt)

  abbrev met_by : Walk → Text → Held × Step
  met_by w word = word_met s.rules names w.is_trailing w.waiting w.position word w.held

  turn_fits : (w : Walk) (word : Text) → turn_fault s names w word ≡ [] → Fits w → Fits (walked s.rules names w word)
  unfolding walked
  turn_fits w word e fits = go w.stopped e fits.1
    where
      go : (stopped : Option (Text × List Text)) → cond (is_some stopped) [] (or_else (word_fault s names w.is_trailing w.waiting word w.held)
          (step_fault s w.position (met_by w word).0 (met_by w word).1)) ≡ [] → IfSome stopped (λ p. Q p.0) → Fits (walked_from s.rules names stopped w word)
      go (Some p) e q = (fits.0, q)
      go None e q =
          let both = none_of _ _ e in
          let kept = word_keeps w.is_trailing w.waiting w.position word w.held both.0 fits.0 in
          step_fits w word (met_by w word).0 (met_by w word).1 both.1 fits.1 kept.0 kept.1

  pub walk_fits : (words : List Text) (w : Walk) → walk_fault s names w words ≡ [] → Fits w → Fits (fold (walked s.rules names) w words)
  unfolding walk_fault
  walk_fits [] w e fits = fits
  walk_fits (word ∷ rest) w e fits =
      let both = none_of _ _ e in
      walk_fits rest (walked s.rules names w word) both.1 (turn_fits w word both.0 fits)

  -- what a level with no fault has at its end
  pub level_fits : (words : List Text) (has : Bool) (below : Kinds) → Each (λ a. a.defaults ≡ []) s.rules
      → level_fault s names nothing_held words has below ≡ []
      → Each R (rows_after s.rules names words) × IfSome (stop_after s.rules names words) (λ p. Q p.0) × (below ≡ [])
      × (check_fault s (rows_after s.rules names words) has ≡ [])
  level_fits words has below bare e =
      let first = none_of _ _ e in
      let second = none_of below _ first.1 in
      let third = none_of _ _ second.1 in
      let fourth = none_of _ _ third.1 in
      let fits = walk_fits words (walk_from nothing_held) first.0 (tt, tt) in
      let end = (walk s.rules names nothing_held words).held in
      let settled_rows_keep = settled_keeps s.rules s.args_override_self R each end third.0 fits.0 in
      (subst (Each R) (sym (no_defaults s.rules (settled s.rules end).rows bare)) settled_rows_keep, fits.1, second.0, fourth.1)
