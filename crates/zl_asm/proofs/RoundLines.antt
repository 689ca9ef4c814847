-- Lines of printed bytes, each ended by a line feed, are found again in the text.
use Rattle.zl_asm.proofs.Common.{Bool, Line, List, Listing, None, Option, Some, Version, [], all_of, and_from, and_parts, ap, append_assoc, arith, codes, false}
use Rattle.zl_asm.proofs.Common.{flat_map, gives_version, is_ascii, joined, line_of, lines_from, lines_of, list_all, list_all-append, listing_from}
use Rattle.zl_asm.proofs.Common.{listing_of, lt-ltb, ltb-true, nat_lt}
use Rattle.zl_asm.proofs.Common.{ne_eqb, not, not-true, onto_all, refl, sym, true, words_of, ℕ, ◌&&◌, ◌++◌, ◌<◌, ◌==◌, ◌∙◌, ◌∷◌, ◌≡◌}
use Rattle.std.proofs.lemmas.List.Splits.{slice_split-cons_yes, slice_split-cons_no}
use Rattle.zl_asm.proofs.RoundWords.{is_plain, is_plain_word, plain_all}
use Rattle.zl_asm.proofs.RoundNumbers.{all_of_kind}
use Rattle.zl_asm.proofs.ListingRefused.{onto_all-some}
use Rattle.zl_code.specs.declared.image.Version.TheVariants as version

-- an ASCII character with a mark, or a space
abbrev pub is_printed : ℕ → Bool
is_printed b = nat_lt 31 b && nat_lt b 127

plain_printed : (b : ℕ) → is_plain b ≡ true → is_printed b ≡ true
plain_printed b h =
    let p = and_parts (not (b == 59)) _ h in
    let q = and_parts (not (b == 32)) _ p.1 in
    let r = and_parts (not (b == 44)) _ q.1 in
    let s = and_parts (nat_lt 32 b) (nat_lt b 127) r.1 in
    let low : 32 < b = ltb-true 32 b s.0 in
    and_from (nat_lt 31 b) (nat_lt b 127) (lt-ltb 31 b (omega arith)) s.1

pub printed-plain : (word : List ℕ) → is_plain_word word ≡ true → list_all is_printed word ≡ true
printed-plain word h = all_of_kind is_plain is_printed plain_printed word (plain_all word h)

pub printed-append : (xs ys : List ℕ) → list_all is_printed xs ≡ true → list_all is_printed ys ≡ true → list_all is_printed (xs ++ ys) ≡ true
printed-append xs ys h k = list_all-append is_printed xs ys ∙ and_from _ _ h k

pub printed-joined : (words : List (List ℕ)) → list_all is_plain_word words ≡ true → list_all is_printed (joined (codes ", ") words) ≡ true
unfolding joined
printed-joined [] h = refl
printed-joined (word ∷ []) h = printed-plain word (and_parts (is_plain_word word) true h).0
printed-joined (word ∷ next ∷ words) h =
    let p = and_parts (is_plain_word word) (list_all is_plain_word (next ∷ words)) h in
    printed-append word (codes ", " ++ joined (codes ", ") (next ∷ words)) (printed-plain word p.0) (printed-joined (next ∷ words) p.1)

-- ---- what lines say

-- lines of printed bytes, and what each says in a text of the version
pub record Say (v : Version) (lines : List (List ℕ)) (said : List Line) : Type 0 where
  pub printed : list_all (λ line. list_all is_printed line) lines ≡ true
  pub says : all_of (λ line. line_of v (words_of line)) lines ≡ Some said

pub says_nothing : (v : Version) → Say v [] []
unfolding all_of
says_nothing v = record { printed = refl; says = refl }

pub says_line : (v : Version) (line : List ℕ) (lines : List (List ℕ)) (said : Line) (more : List Line) → list_all is_printed line ≡ true
    → line_of v (words_of line) ≡ Some said
    → Say v lines more → Say v (line ∷ lines) (said ∷ more)
unfolding all_of
says_line v line lines said more printed says rest = record { printed = and_from _ _ printed rest.printed; says = λ i. onto_all (says i) (rest.says i) }

-- the values of both, where all are there
both_all : {X : Type 0} → Option (List X) → Option (List X) → Option (List X)
both_all (Some xs) (Some ys) = Some (xs ++ ys)
both_all _ _ = None

first_none : {X : Type 0} (ys : Option (List X)) → ys ≡ both_all (Some []) ys
unfolding both_all
first_none None = refl
first_none (Some ys) = refl

onto_both : {X : Type 0} (x : Option X) (xs ys : Option (List X)) → onto_all x (both_all xs ys) ≡ both_all (onto_all x xs) ys
unfolding both_all
onto_both None None ys = refl
onto_both None (Some xs) ys = refl
onto_both (Some x) None ys = refl
onto_both (Some x) (Some xs) None = refl
onto_both (Some x) (Some xs) (Some ys) = refl

all_of-append : {X Y : Type 0} (f : X → Option Y) (xs ys : List X) → all_of f (xs ++ ys) ≡ both_all (all_of f xs) (all_of f ys)
unfolding all_of
all_of-append f [] ys = first_none (all_of f ys)
all_of-append f (x ∷ xs) ys = ap (onto_all (f x)) (all_of-append f xs ys) ∙ onto_both (f x) (all_of f xs) (all_of f ys)

pub says_both : (v : Version) (lines others : List (List ℕ)) (said more : List Line) → Say v lines said → Say v others more
    → Say v (lines ++ others) (said ++ more)
unfolding both_all
says_both v lines others said more h k = record {
  printed = list_all-append (λ line. list_all is_printed line) lines others ∙ and_from _ _ h.printed k.printed;
  says = all_of-append (λ line. line_of v (words_of line)) lines others ∙ (λ i. both_all (h.says i) (k.says i));
}

-- ---- lines in a text

no_feed : (b : ℕ) → is_printed b ≡ true → (b == 10) ≡ false
no_feed b h = let low : 31 < b = ltb-true 31 b (and_parts (nat_lt 31 b) (nat_lt b 127) h).0 in ne_eqb b 10 (λ e. omega arith)

line_found : (line rest : List ℕ) → list_all is_printed line ≡ true → lines_of (line ++ (10 ∷ rest)) ≡ line ∷ lines_of rest
line_found [] rest h = slice_split-cons_yes (λ byte. byte == 10) 10 rest refl
line_found (b ∷ line) rest h =
    let p = and_parts (is_printed b) (list_all is_printed line) h in
    slice_split-cons_no (λ byte. byte == 10) b (line ++ (10 ∷ rest)) (no_feed b p.0) ∙ rw (line_found line rest p.1) refl

abbrev pub text_by : List (List ℕ) → List ℕ
text_by lines = flat_map (λ line. line ++ codes "\n") lines

lines_found : (lines : List (List ℕ)) → list_all (λ line. list_all is_printed line) lines ≡ true → lines_of (text_by lines) ≡ lines ++ ([] ∷ [])
lines_found [] h = refl
lines_found (line ∷ lines) h =
    let p = and_parts (list_all is_printed line) (list_all (λ l. list_all is_printed l) lines) h in
    ap lines_of (append_assoc line (codes "\n") (text_by lines)) ∙ line_found line (text_by lines) p.0
    ∙ ap (λ (ls : List (List ℕ)). line ∷ ls) (lines_found lines p.1)

ascii_line : (line rest : List ℕ) → list_all is_printed line ≡ true → is_ascii rest ≡ true → is_ascii (line ++ rest) ≡ true
ascii_line [] rest h k = k
ascii_line (b ∷ line) rest h k =
    let p = and_parts (is_printed b) (list_all is_printed line) h in
    let high : b < 127 = ltb-true b 127 (and_parts (nat_lt 31 b) (nat_lt b 127) p.0).1 in
    and_from _ _ (lt-ltb b 128 (omega arith)) (ascii_line line rest p.1 k)

ascii_lines : (lines : List (List ℕ)) → list_all (λ line. list_all is_printed line) lines ≡ true → is_ascii (text_by lines) ≡ true
ascii_lines [] h = refl
ascii_lines (line ∷ lines) h =
    let p = and_parts (list_all is_printed line) (list_all (λ l. list_all is_printed l) lines) h in
    ap is_ascii (append_assoc line (codes "\n") (text_by lines)) ∙ ascii_line line (codes "\n" ++ text_by lines) p.0 (ascii_lines lines p.1)

-- lines that say nothing of the version are read in it one by one
pub read_on : (v : Version) (lines : List (List ℕ)) (said : List Line) → all_of (λ line. line_of v (words_of line)) lines ≡ Some said
    → list_all (λ l. not (gives_version l)) said ≡ true → lines_from v lines ≡ Some said
unfolding all_of lines_from
read_on v [] said e none = e
read_on v (line ∷ lines) said e none =
    let made = onto_all-some (line_of v (words_of line)) (all_of (λ line. line_of v (words_of line)) lines) said e in
    let p = and_parts (not (gives_version made.0)) (list_all (λ l. not (gives_version l)) made.1) (sym (ap (list_all (λ l. not
    (gives_version l))) made.4) ∙ none) in
    rw (made.2, not-true (gives_version made.0) p.0, read_on v lines made.1 made.3 p.1) (ap Some (sym made.4))

-- the text of lines gives what they say
pub listing_of-lines : (lines : List (List ℕ)) (said : List Line) (o : Option Listing) → list_all (λ line. list_all is_printed line) lines ≡ true
    → lines_from version.One (lines ++ ([] ∷ [])) ≡ Some said → listing_from said ≡ o → listing_of (text_by lines) ≡ o
unfolding listing_of
listing_of-lines lines said o printed says from = rw (ascii_lines lines printed, lines_found lines printed, says) from
