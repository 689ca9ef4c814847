-- The operands between the commas, and their registers, one word after the other.
use Rattle.zl_asm.proofs.Common.{Ending, List, None, Option, Some, Tail, [], all_of, ap, append-nil, append_assoc, arith, at_drop_all, at_drop_more, comma}
use Rattle.zl_asm.proofs.Common.{drop, drop-map, drop-replicate, eqb, false, get_or, is_word, leb, length, length-drop, length-map, length-take, nat_tests}
use Rattle.zl_asm.proofs.Common.{onto_all, operands_after, operands_of, option_map, places_of, refl, register_of, registers_of, replicate, set, seven}
use Rattle.zl_asm.proofs.Common.{source_with, suc, sym, tail_of, take, take-append-drop, take-map, take-suc-set, take_all, texts, then_with, true, ℕ, ◌++◌, ◌+◌}
use Rattle.zl_asm.proofs.Common.{◌-◌, ◌<◌, ◌∙◌, ◌∷◌, ◌≡◌, ◌≤◌}
use Rattle.std.proofs.Common.{Bor}
use Rattle.zl_code.specs.declared.layout.Ending.TheVariants as ending
use Rattle.zl_code.proofs.ImageCells.{seven_places}

abbrev pub Text : Type 0
Text = Bor (List ℕ)

-- ---- the words between commas

pub no_words : (words : List Text) → length words ≡ 0 → operands_of (texts words) ≡ Some []
unfolding operands_of
no_words [] e = refl
no_words (x ∷ words) e = absurd (omega arith)

itself : (o : Option (List (List ℕ))) → o ≡ option_map (λ more. [] ++ more) o
itself None = refl
itself (Some x) = refl

pub at_first : (words : List Text) → 0 < length words → operands_of (texts words) ≡ option_map (λ more. [] ++ more) (operands_after (texts words))
unfolding operands_of
at_first [] e = absurd (omega arith)
at_first (x ∷ words) e = itself (operands_after (texts (x ∷ words)))

-- what the operands of the words are, where said are those before the rest
abbrev pub SoFar : Option (List (List ℕ)) → List (List ℕ) → List Text → Type 0
SoFar whole said rest = whole ≡ option_map (λ more. said ++ more) (operands_after (texts rest))

joined : (said : List (List ℕ)) (word : List ℕ) (o : Option (List (List ℕ)))
    → option_map (λ more. said ++ more) (option_map (λ more. word ∷ more) o) ≡ option_map (λ more. (said ++ word ∷ []) ++ more) o
joined said word None = refl
joined said word (Some more) = ap Some (sym (append_assoc said (word ∷ []) more))

by_two : (rest : List Text) (d : Text) → 2 ≤ length rest → is_word (get_or rest 0 d).now comma ≡ false → is_word (get_or rest 1 d).now comma ≡ true
    → operands_after (texts rest) ≡ option_map (λ more. (get_or rest 0 d).now ∷ more) (operands_after (texts (drop 2 rest)))
unfolding operands_after
by_two (w ∷ n ∷ rest) d two p q = rw (p, q) refl
by_two _ d two p q = absurd (omega arith)

-- a word with a comma behind it is one more operand
pub one_more : (whole : Option (List (List ℕ))) (said : List (List ℕ)) (rest : List Text) (d : Text) → 2 ≤ length rest
    → is_word (get_or rest 0 d).now comma ≡ false → is_word (get_or rest 1 d).now comma ≡ true → SoFar whole said rest
    → SoFar whole (said ++ (get_or rest 0 d).now ∷ []) (take (length rest - 2) (drop 2 rest))
one_more whole said rest d two p q so_far =
    let all : take (length rest - 2) (drop 2 rest) ≡ drop 2 rest = take_all (length rest - 2) (drop 2 rest) (omega (arith, length-drop 2 rest)) in
    so_far
    ∙ ap (λ (o : Option (List (List ℕ))). option_map (λ more. said ++ more) o) (by_two rest d two p q)
    ∙ joined said (get_or rest 0 d).now (operands_after (texts (drop 2 rest)))
    ∙ ap (λ (x : List Text). option_map (λ more. (said ++ (get_or rest 0 d).now ∷ []) ++ more) (operands_after (texts x))) (sym all)

refused : (whole : Option (List (List ℕ))) (said : List (List ℕ)) (rest : List Text) → SoFar whole said rest → operands_after (texts rest) ≡ None → whole ≡ None
refused whole said rest so_far e = so_far ∙ ap (λ (o : Option (List (List ℕ))). option_map (λ more. said ++ more) o) e

none_at_comma : (rest : List Text) (d : Text) → 2 ≤ length rest → is_word (get_or rest 0 d).now comma ≡ true → operands_after (texts rest) ≡ None
unfolding operands_after
none_at_comma (w ∷ n ∷ rest) d two p = rw p refl
none_at_comma _ d two p = absurd (omega arith)

none_at_words : (rest : List Text) (d : Text) → 2 ≤ length rest → is_word (get_or rest 0 d).now comma ≡ false → is_word (get_or rest 1 d).now comma ≡ false
    → operands_after (texts rest) ≡ None
unfolding operands_after
none_at_words (w ∷ n ∷ rest) d two p q = rw (p, q) refl
none_at_words _ d two p q = absurd (omega arith)

-- a comma stands in the place of a word
pub at_comma : (whole : Option (List (List ℕ))) (said : List (List ℕ)) (rest : List Text) (d : Text) → 2 ≤ length rest
    → is_word (get_or rest 0 d).now comma ≡ true → SoFar whole said rest → whole ≡ None
at_comma whole said rest d two p so_far = refused whole said rest so_far (none_at_comma rest d two p)

-- no comma stands between two words
pub at_words : (whole : Option (List (List ℕ))) (said : List (List ℕ)) (rest : List Text) (d : Text) → 2 ≤ length rest
    → is_word (get_or rest 0 d).now comma ≡ false → is_word (get_or rest 1 d).now comma ≡ false → SoFar whole said rest → whole ≡ None
at_words whole said rest d two p q so_far = refused whole said rest so_far (none_at_words rest d two p q)

last_one : (rest : List Text) (d : Text) → 1 ≤ length rest → length rest < 2 → is_word (get_or rest 0 d).now comma ≡ false
    → operands_after (texts rest) ≡ Some ((get_or rest 0 d).now ∷ [])
unfolding operands_after
last_one (w ∷ []) d some below p = rw p refl
last_one _ d some below p = absurd (omega arith)

-- the last word
pub at_last : (whole : Option (List (List ℕ))) (said : List (List ℕ)) (rest : List Text) (d : Text) → 1 ≤ length rest → length rest < 2
    → is_word (get_or rest 0 d).now comma ≡ false → SoFar whole said rest → whole ≡ Some (said ++ (get_or rest 0 d).now ∷ [])
at_last whole said rest d some below p so_far = so_far ∙ ap (λ (o : Option (List (List ℕ))). option_map (λ more. said ++ more) o) (last_one rest d some below p)

none_after_comma : (rest : List Text) (d : Text) → 1 ≤ length rest → length rest < 2 → is_word (get_or rest 0 d).now comma ≡ true
    → operands_after (texts rest) ≡ None
unfolding operands_after
none_after_comma (w ∷ []) d some below p = rw p refl
none_after_comma _ d some below p = absurd (omega arith)

-- the last word is a comma
pub at_last_comma : (whole : Option (List (List ℕ))) (said : List (List ℕ)) (rest : List Text) (d : Text) → 1 ≤ length rest → length rest < 2
    → is_word (get_or rest 0 d).now comma ≡ true → SoFar whole said rest → whole ≡ None
at_last_comma whole said rest d some below p so_far = refused whole said rest so_far (none_after_comma rest d some below p)

none_after : (rest : List Text) → length rest < 1 → operands_after (texts rest) ≡ None
unfolding operands_after
none_after [] below = refl
none_after (w ∷ rest) below = absurd (omega arith)

-- no word is left
pub at_end : (whole : Option (List (List ℕ))) (said : List (List ℕ)) (rest : List Text) → length rest < 1 → SoFar whole said rest → whole ≡ None
at_end whole said rest below so_far = refused whole said rest so_far (none_after rest below)

-- ---- their registers

abbrev pub all_registers : List Text → Option (List ℕ)
all_registers words = all_of register_of (texts words)

-- what the registers of the words are, where those before place i stand in the places
abbrev pub InPlaces : List Text → ℕ → List ℕ → Type 0
InPlaces words i places = all_registers words ≡ option_map (λ more. take i places ++ more) (all_registers (drop i words))

at_word : (words : List Text) (i : ℕ) (d : Text) → i < length words
    → all_registers (drop i words) ≡ onto_all (register_of (get_or words i d).now) (all_registers (drop (i + 1) words))
unfolding all_of
at_word words i d within = at_drop_more all_registers words i d within

onto_none : (o : Option (List ℕ)) → onto_all None o ≡ None
onto_none None = refl
onto_none (Some x) = refl

onto_front : (front : List ℕ) (r : ℕ) (o : Option (List ℕ))
    → option_map (λ more. front ++ more) (onto_all (Some r) o) ≡ option_map (λ more. (front ++ r ∷ []) ++ more) o
onto_front front r None = refl
onto_front front r (Some more) = ap Some (sym (append_assoc front (r ∷ []) more))

pub next_register : (words : List Text) (i : ℕ) (d : Text) (places : List ℕ) (r : ℕ) → i < length words → i < length places
    → Some r ≡ register_of (get_or words i d).now → InPlaces words i places → InPlaces words (i + 1) (set places i r)
next_register words i d places r within inside e so_far =
    let next : suc i ≡ i + 1 = omega arith in
    let front : take i places ++ r ∷ [] ≡ take (i + 1) (set places i r) = sym (take-suc-set places i r inside) ∙ ap (λ (n : ℕ). take n (set places i r)) next in
    so_far
    ∙ ap (λ (o : Option (List ℕ)). option_map (λ more. take i places ++ more) o)
    (at_word words i d within ∙ ap (λ (o : Option ℕ). onto_all o (all_registers (drop (i + 1) words))) (sym e))
    ∙ onto_front (take i places) r (all_registers (drop (i + 1) words))
    ∙ ap (λ (x : List ℕ). option_map (λ more. x ++ more) (all_registers (drop (i + 1) words))) front

pub no_register : (words : List Text) (i : ℕ) (d : Text) (places : List ℕ) → i < length words → None ≡ register_of (get_or words i d).now
    → InPlaces words i places → all_registers words ≡ None
no_register words i d places within e so_far =
    so_far ∙ ap (λ (o : Option (List ℕ)). option_map (λ more. take i places ++ more) o)
    (at_word words i d within ∙ ap (λ (o : Option ℕ). onto_all o (all_registers (drop (i + 1) words))) (sym e) ∙ onto_none (all_registers (drop (i + 1) words)))

pub last_register : (words : List Text) (i : ℕ) (places start : List ℕ) → length words ≤ i → i ≤ length places → drop i places ≡ drop i start
    → InPlaces words i places → Some places ≡ option_map (λ registers. registers ++ drop (length registers) start) (all_registers words)
unfolding all_of
last_register words i places start all inside untouched so_far =
    let front : take i places ++ [] ≡ take i places = append-nil (take i places) in
    let count : length (take i places) ≡ i = omega (arith, length-take i places) in
    let whole : all_registers words ≡ Some (take i places) =
    so_far ∙ ap (λ (o : Option (List ℕ)). option_map (λ more. take i places ++ more) o) (at_drop_all all_registers words i all) ∙ ap Some front in
    ap Some (sym (take-append-drop i places) ∙ ap (λ (x : List ℕ). take i places ++ x) untouched ∙ ap (λ (n : ℕ). take i places ++ drop n start) (sym count))
    ∙ ap (λ (o : Option (List ℕ)). option_map (λ registers. registers ++ drop (length registers) start) o) (sym whole)

-- ---- the bytes of a list of handles

counted : (o : Option ℕ) (p : Option (List ℕ)) (registers : List ℕ) (n : ℕ) → onto_all o p ≡ Some registers
    → ((more : List ℕ) → p ≡ Some more → length more ≡ n) → length registers ≡ suc n
counted (Some r) (Some more) registers n e h =
    let same : r ∷ more ≡ registers = cc in
    let inner : length more ≡ n = h more refl in
    let whole : suc (length more) ≡ length registers = ap (λ (x : List ℕ). length x) same in
    omega arith
counted _ _ registers n e h = absurd (cc)

-- there is a register for each word
pub count_of : (words : List Text) (registers : List ℕ) → all_registers words ≡ Some registers → length registers ≡ length words
unfolding all_of
count_of [] registers e = let same : [] ≡ registers = cc in ap (λ (x : List ℕ). length x) (sym same)
count_of (w ∷ words) registers e = counted (register_of w.now) (all_registers words) registers (length words) e (λ more h. count_of words more h)

abbrev handles_tail : Option (List ℕ) → Option Tail
handles_tail registers = option_map (λ places. record { bytes = places; label = None }) (then_with registers places_of)

no_places : (o : Option (List ℕ)) → ((registers : List ℕ) → o ≡ Some registers → 8 < length registers) → None ≡ handles_tail o
no_places None h = refl
no_places (Some registers) h =
    let many : 8 < length registers = h registers refl in
    let test : leb (length registers) 8 ≡ false = grind (arith, nat_tests) in
    rw test refl

pub too_many : (words : List Text) → 8 < length words → None ≡ tail_of ending.Handles (texts words)
unfolding tail_of
too_many words many = no_places (all_registers words) (λ registers e. let n : length registers ≡ length words = count_of words registers e in omega arith)

none_before : {Y : Type 0} (f : List ℕ → Y) (o : Option (List ℕ)) → None ≡ option_map f o → None ≡ handles_tail o
none_before f None e = refl
none_before f (Some x) e = absurd (cc)

pub no_handles : {Y : Type 0} (words : List Text) (f : List ℕ → Y) → None ≡ option_map f (all_registers words) → None ≡ tail_of ending.Handles (texts words)
unfolding tail_of
no_handles words f e = none_before f (all_registers words) e

placed : (o : Option (List ℕ)) (places : List ℕ) → ((registers : List ℕ) → o ≡ Some registers → length registers ≤ 8)
    → Some places ≡ option_map (λ registers. registers ++ drop (length registers) (replicate 8 255)) o
    → Some (record { bytes = places; label = None }) ≡ handles_tail o
placed None places h e = absurd (cc)
placed (Some registers) places h e =
    let few : length registers ≤ 8 = h registers refl in
    let test : leb (length registers) 8 ≡ true = grind (arith, nat_tests) in
    let same : places ≡ registers ++ drop (length registers) (replicate 8 255) = cc in
    let whole : places ≡ registers ++ replicate (8 - length registers) 255 =
    same ∙ ap (λ (x : List ℕ). registers ++ x) (drop-replicate (length registers) 8 255) in
    rw (test, whole) refl

pub handles_placed : (words : List Text) (places : List ℕ) → length words ≤ 8
    → Some places ≡ option_map (λ registers. registers ++ drop (length registers) (replicate 8 255)) (all_registers words)
    → Some (record { bytes = places; label = None }) ≡ tail_of ending.Handles (texts words)
unfolding tail_of
handles_placed words places few e =
    placed (all_registers words) places (λ registers q. let n : length registers ≡ length words = count_of words registers q in omega arith) e

-- ---- the whole instruction

registered : (o : Option (List ℕ)) (places : List ℕ) → ((registers : List ℕ) → o ≡ Some registers → length registers ≤ 7)
    → Some places ≡ option_map (λ registers. registers ++ drop (length registers) (replicate 7 0)) o → Some places ≡ option_map seven o
registered None places few e = absurd (cc)
registered (Some registers) places few e = e ∙ ap Some (seven_places registers (few registers refl))

with_both : (opcode : ℕ) (o : Option (List ℕ)) (p : Option Tail) (places : List ℕ) (t : Tail) → Some places ≡ option_map seven o → Some t ≡ p
    → Some (record { bytes = opcode ∷ (places ++ t.bytes); label = t.label }) ≡ source_with opcode o p
with_both opcode None p places t e q = absurd (cc)
with_both opcode (Some registers) p places t e q =
    let same : places ≡ seven registers = cc in
    rw (← q) (ap (λ (x : List ℕ). Some (record { bytes = opcode ∷ (x ++ t.bytes); label = t.label })) same)

pub assembled : (opcode count : ℕ) (kind : Ending) (operands front back : List Text) (places : List ℕ) (t : Tail) (bytes : List ℕ)
    → front ≡ take count operands → back ≡ drop count operands → length front ≡ count → count ≤ 7
    → Some places ≡ option_map (λ registers. registers ++ drop (length registers) (replicate 7 0)) (all_registers front) → Some t ≡ tail_of kind (texts back)
    → bytes ≡ opcode ∷ (places ++ t.bytes) → Some (record { bytes = bytes; label = t.label })
    ≡ source_with opcode (registers_of count (take count (texts operands))) (tail_of kind (drop count (texts operands)))
assembled opcode count kind operands front back places t bytes f b len few p q whole =
    let first : take count (texts operands) ≡ texts front = take-map _ count operands ∙ ap texts (sym f) in
    let rest : drop count (texts operands) ≡ texts back = drop-map _ count operands ∙ ap texts (sym b) in
    let n : length (texts front) ≡ count = length-map front _ ∙ len in
    let test : eqb (length (texts front)) count ≡ true = grind (arith, nat_tests) in
    let counted_front : registers_of count (texts front) ≡ all_registers front = rw test refl in
    let placed_front : Some places ≡ option_map seven (all_registers front) =
    registered (all_registers front) places (λ registers e. let m : length registers ≡ length front = count_of front registers e in omega arith) p in
    ap (λ (x : List ℕ). Some (record { bytes = x; label = t.label })) whole
    ∙ with_both opcode (all_registers front) (tail_of kind (texts back)) places t placed_front q
    ∙ ap (λ (o : Option (List ℕ)). source_with opcode o (tail_of kind (texts back))) (sym counted_front)
    ∙ (λ i. source_with opcode (registers_of count (sym first i)) (tail_of kind (sym rest i)))
