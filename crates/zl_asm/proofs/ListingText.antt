-- The lines of a whole text.
use Rattle.zl_asm.proofs.Common.{Bool, Denotes, Err, Gives, GivesNone, Held, IfErr, IfOk, Image, IsHeldOf, IsTrue, Line, List, Listing, MatchResult, None, Ok}
use Rattle.zl_asm.proofs.Common.{Option, Reads, ReadsAll, Refuses, Result, Some, Stops, Version, [], and_from, and_parts, ap, arith, at_drop_more, cond, drop}
use Rattle.zl_asm.proofs.Common.{enumerate_from, eqb, eqb-true, false, fields_of, get_or, gives_version, if◌then◌else◌, inl, inr, is_ascii, is_in_range, length}
use Rattle.zl_asm.proofs.Common.{line_of, line_said, lines_from, lines_of, lines_said, list_all, list_all-append, listing_from, listing_of, ltb, not}
use Rattle.zl_asm.proofs.Common.{onto_first}
use Rattle.zl_asm.proofs.Common.{option_map, refl, subst, sym, take, take-append-drop, then_with, true, version_behind, words_of, ℕ, ◌&&◌, ◌++◌, ◌+◌, ◌<◌}
use Rattle.zl_asm.proofs.Common.{◌∙◌, ◌∷◌, ◌≡◌, ◌⊎◌}
use Rattle.std.proofs.lemmas.List.FromFn.{length-enumerate_from, get_or-enumerate_from}
use Rattle.zl_asm.specs.declared.fault.AsmFault.{AsmFault}
use Rattle.zl_asm.specs.declared.fault.AsmCause.TheVariants.{NoMemory}
use Rattle.zl_asm.proofs.OneImage.{one_image}
use Rattle.zl_code.proofs.Common.{same_Some}
use Rattle.zl_code.specs.declared.image.Version.TheVariants as version
use Rattle.std.proofs.Math.Bool.{and-true}

-- ---- ASCII, line by line

and_assoc : (a b c : Bool) → ((a && b) && c) ≡ (a && (b && c))
and_assoc true b c = refl
and_assoc false b c = refl

first_ascii : (x : ℕ) (ls : List (List ℕ)) → list_all is_ascii (onto_first x ls) ≡ (ltb x 128 && list_all is_ascii ls)
first_ascii x [] = and-true (ltb x 128 && true)
first_ascii x (l ∷ ls) = and_assoc (ltb x 128) (is_ascii l) (list_all is_ascii ls)

-- each line has ASCII characters just if the text has
lines_ascii : (text : List ℕ) → list_all is_ascii (lines_of text) ≡ is_ascii text
lines_ascii [] = refl
lines_ascii (x ∷ xs) = by (eqb x 10) refl (lines_ascii xs)
  where
    by : (b : Bool) → eqb x 10 ≡ b → list_all is_ascii (lines_of xs) ≡ is_ascii xs
        → list_all is_ascii (cond b ([] ∷ lines_of xs) (onto_first x (lines_of xs))) ≡ (ltb x 128 && is_ascii xs)
    by true e rest = rest ∙ sym (ap (λ (n : ℕ). ltb n 128 && is_ascii xs) (eqb-true x 10 e))
    by false e rest = first_ascii x (lines_of xs) ∙ ap (λ (b : Bool). ltb x 128 && b) rest

-- what each line of the text says, in the version that stands before it
pub text_said : (text : List ℕ) → is_ascii text ≡ true → lines_said text ≡ lines_from version.One (lines_of text)
text_said text e = rw e refl

-- ---- the next line

-- the version behind lines
abbrev reached : Version → List Line → Version
reached v said = if list_all (λ l. not (gives_version l)) said then v else version.Two

reached_on : (v : Version) (l : Line) (said : List Line) → reached (version_behind v l) said ≡ reached v (l ∷ said)
reached_on v l said = by (gives_version l) (list_all (λ l. not (gives_version l)) said)
  where
    by : (b c : Bool) → (if c then (if b then version.Two else v) else version.Two) ≡ (if not b && c then v else version.Two)
    by true true = refl
    by true false = refl
    by false c = refl

abbrev IsSplit : List (List ℕ) → List (List ℕ) → Type 0
IsSplit xs ys = (w : Version) (m : List Line) → lines_from w xs ≡ Some m
    → lines_from w (xs ++ ys) ≡ option_map (λ more. m ++ more) (lines_from (reached w m) ys)

-- behind lines that were read the others are read in the version that was reached
lines_from-split : (v : Version) (xs ys : List (List ℕ)) (said : List Line) → lines_from v xs ≡ Some said
    → lines_from v (xs ++ ys) ≡ option_map (λ more. said ++ more) (lines_from (reached v said) ys)
unfolding lines_from
lines_from-split v [] ys said e = let none : [] ≡ said = same_Some [] said e in rw (← none) (unmapped (lines_from v ys))
  where
    unmapped : (o : Option (List Line)) → o ≡ option_map (λ more. more) o
    unmapped None = refl
    unmapped (Some x) = refl
lines_from-split v (x ∷ xs) ys said e = by (line_of v (words_of x)) (λ w m q. lines_from-split w xs ys m q) e
  where
    mapped : (l : Line) (o p : Option (List Line)) (m : List Line) → o ≡ option_map (λ more. m ++ more) p
        → option_map (λ more. l ∷ more) o ≡ option_map (λ more. (l ∷ m) ++ more) p
    mapped l o None m q = rw q refl
    mapped l o (Some p) m q = rw q refl

    next : (l : Line) → IsSplit xs ys → (o : Option (List Line)) → lines_from (version_behind v l) xs ≡ o → option_map (λ more. l ∷ more) o ≡ Some said
        → option_map (λ more. l ∷ more) (lines_from (version_behind v l) (xs ++ ys)) ≡ option_map (λ more. said ++ more) (lines_from (reached v said) ys)
    next l rest None q h = cc
    next l rest (Some m) q h =
        let whole : l ∷ m ≡ said = same_Some (l ∷ m) said h in
        mapped l _ _ m (rest (version_behind v l) m q)
        ∙ ap (λ (w : Version). option_map (λ more. (l ∷ m) ++ more) (lines_from w ys)) (reached_on v l m)
        ∙ ap (λ (s : List Line). option_map (λ more. s ++ more) (lines_from (reached v s) ys)) whole

    by : (o : Option Line) → IsSplit xs ys → then_with o (λ l. option_map (λ more. l ∷ more) (lines_from (version_behind v l) xs)) ≡ Some said
        → then_with o (λ l. option_map (λ more. l ∷ more) (lines_from (version_behind v l) (xs ++ ys)))
        ≡ option_map (λ more. said ++ more) (lines_from (reached v said) ys)
    by None rest h = cc
    by (Some l) rest h = next l rest (lines_from (version_behind v l) xs) refl h

-- what the lines so far say, and what is held of it
abbrev pub SoFar : List (List ℕ) → Held → Type 0
SoFar lines h = (said : List Line) × (list_all is_ascii lines ≡ true) × (lines_from version.One lines ≡ Some said) × IsHeldOf said h

pub so_far-none : (h : Held) → IsHeldOf [] h → SoFar [] h
unfolding lines_from
so_far-none h k = ([], refl, refl, k)

-- what a line says that was read
line_read : (v : Version) (line : List ℕ) (l : Line) → line_said v line ≡ Some l → (is_ascii line ≡ true) × (line_of v (words_of line) ≡ Some l)
line_read v line l e = by (is_ascii line) refl e
  where
    by : (b : Bool) → is_ascii line ≡ b → cond b (line_of v (words_of line)) None ≡ Some l → (is_ascii line ≡ true) × (line_of v (words_of line) ≡ Some l)
    by true a h = (a, h)
    by false a h = cc

-- the version of the lines that were read is the draft's
behind_all : (lines ys : List (List ℕ)) (h : Held) (s : SoFar lines h)
    → lines_from version.One (lines ++ ys) ≡ option_map (λ more. s.0 ++ more) (lines_from h.image.version ys)
behind_all lines ys h s =
    lines_from-split version.One lines ys s.0 s.2 ∙ ap (λ (v : Version). option_map (λ more. s.0 ++ more) (lines_from v ys)) (sym s.3.version)

pub so_far-more : (lines : List (List ℕ)) (line : List ℕ) (old new : Held) → SoFar lines old → Reads old line new → SoFar (lines ++ line ∷ []) new
unfolding lines_from
so_far-more lines line old new s r =
    let read = line_read old.image.version line r.0 r.1 in (
      s.0 ++ r.0 ∷ [],
      list_all-append is_ascii lines (line ∷ []) ∙ and_from _ _ s.1 (and_from _ _ read.0 refl),
      behind_all lines (line ∷ []) old s ∙ rw read.1 refl,
      r.2 s.0 s.3,
    )

pub so_far-all : (text : List ℕ) (h : Held) → SoFar (lines_of text) h → ReadsAll text h
so_far-all text h s = (s.0, text_said text (sym (lines_ascii text) ∙ s.1) ∙ s.2, s.3)

-- the text denotes no image, where the line behind these says nothing that can stand there
pub stops_at : (text : List ℕ) (before rest : List (List ℕ)) (line : List ℕ) (h : Held) → lines_of text ≡ before ++ line ∷ rest → SoFar before h → Stops h line
    → listing_of text ≡ None
unfolding listing_of lines_from
stops_at text before rest line h cut s stops = by (is_ascii text) refl
  where
    listed : Option (List Line) → Option Listing
    listed o = then_with (option_map (λ more. s.0 ++ more) o) listing_from

    -- by what the line says
    line_by : (o : Option Line) → ((l : Line) → o ≡ Some l → Refuses h l)
        → listed (then_with o (λ l. option_map (λ more. l ∷ more) (lines_from (version_behind h.image.version l) rest))) ≡ None
    line_by None refused = refl
    line_by (Some l) refused = more_by (lines_from (version_behind h.image.version l) rest)
      where
        more_by : (o : Option (List Line)) → listed (option_map (λ more. l ∷ more) o) ≡ None
        more_by None = refl
        more_by (Some more) = refused l refl s.0 s.3 more

    refuses : is_ascii line ≡ true → (l : Line) → line_of h.image.version (words_of line) ≡ Some l → Refuses h l
    refuses a l e = elim stops [
      | inl none ↦ let some : line_said h.image.version line ≡ Some l = rw a e in absurd (none_some (sym none ∙ some))
      | inr r ↦ let some : line_said h.image.version line ≡ Some l = rw a e in
          subst (λ (x : Line). Refuses h x) (same_Some r.0 l (sym r.1 ∙ some)) r.2
    ]
      where
        none_some : None ≡ Some l → ⊥
        none_some e = cc

    by : (b : Bool) → is_ascii text ≡ b → then_with (cond b (lines_from version.One (lines_of text)) None) listing_from ≡ None
    by false e = refl
    by true e =
        let all : list_all is_ascii (before ++ line ∷ rest) ≡ true = ap (list_all is_ascii) (sym cut) ∙ lines_ascii text ∙ e in
        let a = (and_parts (is_ascii line) _ (and_parts _ _ (sym (list_all-append is_ascii before (line ∷ rest)) ∙ all)).1).0 in
        ap (λ (o : Option (List Line)). then_with o listing_from) (ap (lines_from version.One) cut ∙ behind_all before (line ∷ rest) h s)
        ∙ line_by (line_of h.image.version (words_of line)) (refuses a)

-- ---- the lines that were numbered

-- the lines before the one that is yielded next, and behind it
pub cut_at : (lines : List (List ℕ)) (n index : ℕ) (line : List ℕ) → n < length (enumerate_from 0 lines)
    → ◌≡◌ {A = ℕ × List ℕ} (index, line) (get_or (enumerate_from 0 lines) n (index, line)) → lines ≡ take n lines ++ line ∷ drop (n + 1) lines
cut_at lines n index line below e =
    let within : n < length lines = omega (arith, length-enumerate_from 0 lines) in
    let same : line ≡ get_or lines n line = ap (λ (p : ℕ × List ℕ). p.1) (e ∙ get_or-enumerate_from 0 lines n (index, line) within) in
    sym (take-append-drop n lines) ∙ at_drop_more (λ (l : List (List ℕ)). take n lines ++ l) lines n line within
    ∙ ap (λ (l : List ℕ). take n lines ++ l ∷ drop (n + 1) lines) (sym same)

-- ---- the whole text

pub text_denotes : (text : List ℕ) (h : Held) (i : Image) → ReadsAll text h → Gives h i → is_in_range i ≡ true → Denotes text i
unfolding listing_of
text_denotes text h i s gives in_range = record { fields = ap (λ (o : Option (List Line)). then_with o listing_from) s.1 ∙ gives s.0 s.2; in_range = in_range }

pub text_denotes_none : (text : List ℕ) (h : Held) → ReadsAll text h → GivesNone h → listing_of text ≡ None
unfolding listing_of
text_denotes_none text h s none = ap (λ (o : Option (List Line)). then_with o listing_from) s.1 ∙ none s.0 s.2

-- ---- the answer

pub found_by : {E : Type 0} (r : Result Image E) (text : List ℕ) (h : Held) → ReadsAll text h → IfOk r (λ i. Gives h i) → IfOk r (λ i. IsTrue (is_in_range i))
    → IfOk r (λ i. Denotes text i)
found_by (Ok i) text h read gives in_range = text_denotes text h i read gives in_range
found_by (Err e) text h read gives in_range = tt

pub none_by : {A : Type 0} (r : Result A AsmFault) (text : List ℕ) (h : Held) → ReadsAll text h → IfErr r (λ fault. (fault.cause ≡ NoMemory) ⊎ GivesNone h)
    → IfErr r (λ fault. (fault.cause ≡ NoMemory) ⊎ (listing_of text ≡ None))
none_by (Ok x) text h read none = tt
none_by (Err fault) text h read (inl starved) = inl starved
none_by (Err fault) text h read (inr none) = inr (text_denotes_none text h read none)

-- an image that the text denotes is the one that was found
pub only_by : (r : Result Image AsmFault) (text : List ℕ) → IfOk r (λ i. Denotes text i)
    → IfErr r (λ fault. (fault.cause ≡ NoMemory) ⊎ (listing_of text ≡ None)) → (i : Image) → Denotes text i
    → MatchResult r (λ image. image ≡ i) (λ fault. fault.cause ≡ NoMemory)
only_by (Ok image) text found none i d = one_image text image i found d
only_by (Err fault) text found (inl starved) i d = starved
only_by (Err fault) text found (inr none) i d = absurd (nothing (sym none ∙ d.fields))
  where
    nothing : None ≡ Some (fields_of i) → ⊥
    nothing e = cc
