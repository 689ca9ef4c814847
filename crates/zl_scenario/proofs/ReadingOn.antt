-- Reading a text line by line.
use Rattle.zl_scenario.proofs.Common.{◌≡◌, ℕ, ◌+◌, ◌<◌, List, [], ◌∷◌, ◌++◌, length, map, take, drop, get_or, Ok, Err, refl, sym, ap, ◌∙◌, arith, append_assoc}
use Rattle.zl_scenario.proofs.Common.{length-append, append-nil, take-append-drop, map-append, at_drop_more, Place, refused_at, told_line, line_said}
use Rattle.zl_scenario.proofs.Common.{reading_from, fault_at_end, Some, subst, inl, inr, ◌⊎◌, Reading, Reads, at_end, line_taken, line_faulty, program_refused}
use Rattle.zl_scenario.proofs.Common.{IsPassed, whole_at, TextsAreReadAsSaid, start, lines_of}
use Rattle.std.specs.List.{enumerate_from}
use Rattle.std.proofs.lemmas.List.FromFn.{length-enumerate_from, get_or-enumerate_from}
use Rattle.zl_scenario.specs.declared.cause.Cause.{Cause}
use Rattle.zl_scenario.specs.declared.cause.Cause.TheVariants as cause

-- ---- one line

pub taken : (n : ℕ) (now new : Place) (line : List ℕ) (rest : List (List ℕ)) → line_said n now line ≡ Ok new
    → reading_from n now (line ∷ rest) ≡ reading_from (n + 1) new rest
unfolding reading_from
taken n now new line rest said = rw (said, reading_from) refl

pub stopped : (n : ℕ) (now : Place) (line : List ℕ) (rest : List (List ℕ)) (c : Cause) → line_said n now line ≡ Err c
    → reading_from n now (line ∷ rest) ≡ refused_at now.said (told_line n now.part) c
unfolding reading_from
stopped n now line rest c said = rw (said, reading_from) refl

over : (n : ℕ) (now : Place) → reading_from n now [] ≡ record { said = now.said; fault = fault_at_end now.part }
unfolding reading_from
over n now = refl

-- ---- the lines that were numbered

-- the line that is yielded next, with its number
pub record IsTurn (lines : List (List ℕ)) (n index : ℕ) (line : List ℕ) : Type 0 where
  pub number : index ≡ n
  pub within : n < length lines
  pub same : line ≡ get_or lines n line

pub turn_by : (lines : List (List ℕ)) (n index : ℕ) (line : List ℕ) → n < length (enumerate_from 0 lines)
    → ◌≡◌ {A = ℕ × List ℕ} (index, line) (get_or (enumerate_from 0 lines) n (index, line)) → IsTurn lines n index line
turn_by lines n index line below e =
    let within : n < length lines = omega (arith, length-enumerate_from 0 lines) in
    let both = e ∙ get_or-enumerate_from 0 lines n (index, line) within in
    let number : index ≡ 0 + n = ap (λ (p : ℕ × List ℕ). p.0) both in
    record { number = omega arith; within = within; same = ap (λ (p : ℕ × List ℕ). p.1) both }

-- ---- all lines

-- where these lines were read up to a place, whatever follows is read on from there
abbrev pub ReadsOn : Place → List (List ℕ) → ℕ → Place → Type 0
ReadsOn s done n now = (rest : List (List ℕ)) (reading : Reading) → Reads n now rest reading → Reads 1 s (done ++ rest) reading

-- one line more was read
pub one_more : {A : Type 0} (v : A → List ℕ) (s now new : Place) (ys : List (ℕ × A)) (x : ℕ × A) (number : ℕ)
    → ReadsOn s (map (λ p. v p.1) ys) (length ys + 1) now → number ≡ length ys + 1 → line_said number now (v x.1) ≡ Ok new → IsPassed (whole_at now (v x.1))
    → ReadsOn s (map (λ p. v p.1) (ys ++ x ∷ [])) (length (ys ++ x ∷ []) + 1) new
one_more v s now new ys x number so_far is said passed rest reading read =
    let lines : map (λ p. v p.1) (ys ++ x ∷ []) ++ rest ≡ map (λ p. v p.1) ys ++ (v x.1 ∷ rest) =
    ap (λ (l : List (List ℕ)). l ++ rest) (map-append (λ p. v p.1) ys (x ∷ [])) ∙ append_assoc (map (λ p. v p.1) ys) (v x.1 ∷ []) rest in
    let count : length (ys ++ x ∷ []) + 1 ≡ number + 1 = omega (arith, length-append ys (x ∷ [])) in
    let later : Reads (number + 1) new rest reading = subst (λ (n : ℕ). Reads n new rest reading) count read in
    let here : Reads (length ys + 1) now (v x.1 ∷ rest) reading =
    subst (λ (n : ℕ). Reads n now (v x.1 ∷ rest) reading) is (line_taken number now new (v x.1) rest reading said passed later) in
    subst (λ (l : List (List ℕ)). Reads 1 s l reading) (sym lines) (so_far (v x.1 ∷ rest) reading here)

-- reading ends at the next line, whatever follows it
pub at_fault : (done lines : List (List ℕ)) (s now : Place) (n index : ℕ) (line : List ℕ) (reading : Reading)
    → ReadsOn s done (n + 1) now → done ≡ take n lines → IsTurn lines n index line → ((rest : List (List ℕ)) → Reads (index + 1) now (line ∷ rest) reading)
    → Reads 1 s lines reading
at_fault done lines s now n index line reading so_far front turn stops =
    let next : drop n lines ≡ line ∷ drop (n + 1) lines =
    at_drop_more (λ (l : List (List ℕ)). l) lines n line turn.within ∙ ap (λ (l : List ℕ). l ∷ drop (n + 1) lines) (sym turn.same) in
    let cut : done ++ drop n lines ≡ lines = ap (λ (l : List (List ℕ)). l ++ drop n lines) front ∙ take-append-drop n lines in
    let here : Reads (n + 1) now (line ∷ drop (n + 1) lines) reading =
    subst (λ (k : ℕ). Reads (k + 1) now (line ∷ drop (n + 1) lines) reading) turn.number (stops (drop (n + 1) lines)) in
    subst (λ (l : List (List ℕ)). Reads 1 s l reading) cut
    (so_far (drop n lines) reading (subst (λ (l : List (List ℕ)). Reads (n + 1) now l reading) (sym next) here))

-- no line is left
pub at_last : (done lines : List (List ℕ)) (s now : Place) (n : ℕ) → ReadsOn s done (n + 1) now → done ≡ lines
    → Reads 1 s lines (record { said = now.said; fault = fault_at_end now.part })
at_last done lines s now n so_far all =
    let reading : Reading = record { said = now.said; fault = fault_at_end now.part } in
    subst (λ (l : List (List ℕ)). Reads 1 s l reading) (append-nil done ∙ all) (so_far [] reading (at_end (n + 1) now))

-- ---- laws

-- it is read as its lines say, but where a checked program is refused
reads_as_said : (n : ℕ) (place : Place) (lines : List (List ℕ)) (reading : Reading) → Reads n place lines reading
    → (reading ≡ reading_from n place lines) ⊎ ((line : ℕ) × (reading.fault ≡ Some (record { line = line; cause = cause.Check })))
reads_as_said _ _ _ _ (at_end n place) = inl (sym (over n place))
reads_as_said _ _ _ _ (line_taken n place next line lines reading said passed more) = elim (reads_as_said (n + 1) next lines reading more) [
  | inl same ↦ inl (same ∙ sym (taken n place next line lines said))
  | inr check ↦ inr check
]
reads_as_said _ _ _ _ (line_faulty n place line lines c said passed) = inl (sym (stopped n place line lines c said))
reads_as_said _ _ _ _ (program_refused n place line lines refused) = inr (told_line n place.part, refl)

pub as_said : TextsAreReadAsSaid
as_said text reading read = reads_as_said 1 start (lines_of text) reading read
