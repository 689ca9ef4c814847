-- Reading a trace text line by line.
use Rattle.zl_trace.proofs.Common.{AreLinesOf, IsFirstWrong, List, Tells, TellsNothing, TraceItem, ap, append-nil, append_assoc, arith, ends_items, false}
use Rattle.zl_trace.proofs.Common.{length, length-append, lines_of, refl, says_nothing, sym, true, words_of, ℕ, ◌++◌, ◌+◌, ◌∙◌, ◌∷◌, ◌≡◌, []}
unfoldable use Rattle.zl_trace.specs.Reading.{item_lines_from}

-- so many lines were read, and gave these items
pub record ReadOn (done : List (List ℕ)) (items : List TraceItem) : Type 0 where
  pub found : List (ℕ × List ℕ)
  pub goes_on : (rest : List (List ℕ)) → item_lines_from 1 (done ++ rest) ≡ found ++ item_lines_from (length done + 1) rest
  pub are_lines : AreLinesOf found items

-- ---- one line

over : (n : ℕ) → item_lines_from n [] ≡ []
unfolding item_lines_from
over n = refl

pub ending : (n : ℕ) (line : List ℕ) (lines : List (List ℕ)) → ends_items line ≡ true → item_lines_from n (line ∷ lines) ≡ []
unfolding item_lines_from
ending n line lines ends = rw ends refl

passing : (n : ℕ) (line : List ℕ) (lines : List (List ℕ)) → ends_items line ≡ false → says_nothing line ≡ true
    → item_lines_from n (line ∷ lines) ≡ item_lines_from (n + 1) lines
unfolding item_lines_from
passing n line lines goes nothing = rw (goes, nothing) refl

pub coming : (n : ℕ) (line : List ℕ) (lines : List (List ℕ)) → ends_items line ≡ false → says_nothing line ≡ false
    → item_lines_from n (line ∷ lines) ≡ (n, line) ∷ item_lines_from (n + 1) lines
unfolding item_lines_from
coming n line lines goes some = rw (goes, some) refl

-- ---- the next line

module _ (done : List (List ℕ)) (items : List TraceItem) (so_far : ReadOn done items) (line : List ℕ) where
  one_longer : length (done ++ (line ∷ [])) + 1 ≡ length done + 1 + 1
  one_longer = omega (arith, length-append done (line ∷ []))

  moved : (rest : List (List ℕ)) → (done ++ (line ∷ [])) ++ rest ≡ done ++ (line ∷ rest)
  moved rest = append_assoc done (line ∷ []) rest

  pub passed : ends_items line ≡ false → says_nothing line ≡ true → ReadOn (done ++ (line ∷ [])) items
  passed goes nothing = record {
    found = so_far.found;
    goes_on = λ rest. rw (moved rest, so_far.goes_on (line ∷ rest), passing (length done + 1) line rest goes nothing, one_longer) refl;
    are_lines = so_far.are_lines;
  }

  one_line_more : (found : List (ℕ × List ℕ)) (items : List TraceItem) (n : ℕ) (x : TraceItem) → AreLinesOf found items → Tells (words_of line) x
      → AreLinesOf (found ++ ((n, line) ∷ [])) (items ++ (x ∷ []))
  one_line_more [] [] n x are tells = (tells, tt)
  one_line_more (l ∷ found) (y ∷ items) n x are tells = (are.0, one_line_more found items n x are.1 tells)
  one_line_more [] (y ∷ items) n x are tells = absurd are
  one_line_more (l ∷ found) [] n x are tells = absurd are

  pub taken : (x : TraceItem) → ends_items line ≡ false → says_nothing line ≡ false → Tells (words_of line) x → ReadOn (done ++ (line ∷ [])) (items ++ (x ∷ []))
  taken x goes some tells = record {
    found = so_far.found ++ ((length done + 1, line) ∷ []);
    goes_on = λ rest. rw (moved rest, so_far.goes_on (line ∷ rest), coming (length done + 1) line rest goes some, one_longer)
        (sym (append_assoc so_far.found ((length done + 1, line) ∷ []) (item_lines_from (length done + 1 + 1) rest)));
    are_lines = one_line_more so_far.found items (length done + 1) x so_far.are_lines tells;
  }

  -- it ends the items, whatever follows
  pub ended : (rest : List (List ℕ)) → ends_items line ≡ true → AreLinesOf (item_lines_from 1 (done ++ (line ∷ rest))) items
  ended rest ends = rw (so_far.goes_on (line ∷ rest), ending (length done + 1) line rest ends, append-nil so_far.found) so_far.are_lines

-- no line is left
pub all_read : (done : List (List ℕ)) (items : List TraceItem) → ReadOn done items → AreLinesOf (item_lines_from 1 done) items
all_read done items so_far =
    let same : item_lines_from 1 done ≡ so_far.found =
    ap (item_lines_from 1) (sym (append-nil done)) ∙ so_far.goes_on [] ∙ ap (λ (l : List (ℕ × List ℕ)). so_far.found ++ l) (over (length done + 1))
    ∙ append-nil so_far.found in
    rw same so_far.are_lines

-- the line is none of an item
pub wrong : (text : List ℕ) (done rest : List (List ℕ)) (items : List TraceItem) (line : List ℕ) → ReadOn done items → lines_of text ≡ done ++ (line ∷ rest)
    → ends_items line ≡ false → says_nothing line ≡ false → TellsNothing (words_of line) → IsFirstWrong text (length done + 1)
wrong text done rest items line so_far lines goes some none = record {
  before = so_far.found;
  line = line;
  after = item_lines_from (length done + 1 + 1) rest;
  are_all = ap (item_lines_from 1) lines ∙ so_far.goes_on (line ∷ rest)
      ∙ ap (λ (l : List (ℕ × List ℕ)). so_far.found ++ l) (coming (length done + 1) line rest goes some);
  items = items;
  are_items = so_far.are_lines;
  is_none = none;
}
