-- The handles of a line, one word after the other.
use Rattle.zl_scenario.proofs.Common.{◌≡◌, false, true≢false, Result, Ok, Err, OnOk, ℕ, ◌+◌, ◌<◌, ◌≤◌, List, [], ◌∷◌, ◌++◌, length, drop, get_or, Option, Some}
use Rattle.zl_scenario.proofs.Common.{None, refl, sym, ap, ◌∙◌, append_assoc, append-nil, at_drop_more, at_drop_all, all_of, handle_of}
use Rattle.std.specs.Prelude.{⊤}
use Rattle.std.specs.Result.{is_err}
use Rattle.std.specs.Option.{option_map}
use Rattle.zl_code.specs.declared.boot.Grant.{Grant}
use Rattle.zl_asm.specs.Lines.{onto_all}
use Rattle.zl_asm.specs.Values.{texts}
use Rattle.std.proofs.Common.{Bor}

abbrev pub Text : Type 0
Text = Bor (List ℕ)

abbrev handles_in : List Text → Option (List Grant)
handles_in words = all_of handle_of (texts words)

-- what holds where no memory was refused
pub added : {E : Type 0} (r : Result ⊤ E) (P : Type 0) → false ≡ is_err r → OnOk r P → P
added (Ok x) P fine h = h
added (Err e) P fine h = absurd (true≢false (sym fine))

-- what the handles of all words are, where these are those before word i
abbrev pub SoFar : List Text → ℕ → List Grant → Type 0
SoFar words i handles = handles_in words ≡ option_map (λ more. handles ++ more) (handles_in (drop i words))

-- before the first word
pub at_first : (words : List Text) → SoFar words 0 []
at_first words = itself (handles_in words)
  where
    itself : (o : Option (List Grant)) → o ≡ option_map (λ more. [] ++ more) o
    itself None = refl
    itself (Some handles) = refl

at_word : (words : List Text) (i : ℕ) (d : Text) → i < length words
    → handles_in (drop i words) ≡ onto_all (handle_of (get_or words i d).now) (handles_in (drop (i + 1) words))
unfolding all_of
at_word words i d within = at_drop_more handles_in words i d within

-- a word is one handle more
pub one_more : (words : List Text) (i : ℕ) (d : Text) (handles : List Grant) (handle : Grant) → i < length words
    → Some handle ≡ handle_of (get_or words i d).now → SoFar words i handles → SoFar words (i + 1) (handles ++ handle ∷ [])
one_more words i d handles handle within named so_far =
    so_far
    ∙ ap (option_map (λ more. handles ++ more)) (at_word words i d within ∙ ap (λ (o : Option Grant). onto_all o (handles_in (drop (i + 1) words))) (sym named))
    ∙ joined (handles_in (drop (i + 1) words))
  where
    joined : (o : Option (List Grant))
        → option_map (λ more. handles ++ more) (onto_all (Some handle) o) ≡ option_map (λ more. (handles ++ handle ∷ []) ++ more) o
    joined None = refl
    joined (Some more) = ap Some (sym (append_assoc handles (handle ∷ []) more))

-- a word names no handle
pub at_other : (words : List Text) (i : ℕ) (d : Text) (handles : List Grant) → i < length words → None ≡ handle_of (get_or words i d).now
    → SoFar words i handles → None ≡ handles_in words
at_other words i d handles within named so_far =
    sym (so_far
    ∙ ap (option_map (λ more. handles ++ more)) (at_word words i d within ∙ ap (λ (o : Option Grant). onto_all o (handles_in (drop (i + 1) words))) (sym named))
    ∙ none (handles_in (drop (i + 1) words)))
  where
    none : (o : Option (List Grant)) → option_map (λ more. handles ++ more) (onto_all None o) ≡ None
    none None = refl
    none (Some more) = refl

-- no word is left
pub at_last : (words : List Text) (i : ℕ) (handles : List Grant) → length words ≤ i → SoFar words i handles → Some handles ≡ handles_in words
unfolding all_of
at_last words i handles all so_far =
    sym (so_far ∙ ap (option_map (λ more. handles ++ more)) (at_drop_all handles_in words i all) ∙ ap Some (append-nil handles))
