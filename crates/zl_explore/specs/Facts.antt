-- The words of facts, and what is taken in of words.
use Rattle.std.specs.Prelude.{◌≡◌, Bool, true, false, map, List, ℕ, [], ◌∷◌, ◌++◌, codes}
use Rattle.std.specs.Fmt.{decimal}
use Rattle.std.specs.List.{flat_map}
use Rattle.zl_rights.specs.Names.{kind_name}
use Rattle.zl_rights.specs.Numbers.{bits}
use Rattle.zl_explore.specs.Bad.{right_words, words_of}
use Rattle.zl_explore.specs.declared.bad.Bad.{Bad}
use Rattle.zl_explore.specs.declared.fact.Fact.{Fact}
use Rattle.zl_explore.specs.declared.fact.Seen.{Seen}
use Rattle.zl_explore.specs.declared.fact.Seen.TheVariants as seen
use Rattle.zl_explore.specs.declared.never.Never.{Never}

-- the words of what may be seen
abbrev pub seen_words : Seen → List ℕ
seen_words (seen.Process b) = words_of b
seen_words (seen.Queued koid rights) = codes "message has " ++ (decimal koid ++ right_words (bits rights))
seen_words (seen.Object kind koid) = kind_name kind ++ (codes " " ++ decimal koid)

-- what stands before them, where it isn't so
abbrev pub not_words : Bool → List ℕ
not_words true = []
not_words false = codes "not "

-- the words of a fact
abbrev pub fact_words : Fact → List ℕ
fact_words f = not_words f.is_so ++ seen_words f.seen

-- those of one more
abbrev pub further_words : Fact → List ℕ
further_words f = codes " and " ++ fact_words f

-- the words of what may not be so at once
abbrev pub together_words : List Fact → List ℕ
together_words [] = []
together_words (f ∷ more) = fact_words f ++ flat_map further_words more

-- the words say what was taken in: one pattern, or facts that may not be so at once
pub data TakesIn (words : List ℕ) (old new : Never) : Type 0 where
  one : (b : Bad) → words ≡ words_of b → new.bad.items ≡ old.bad.items ++ (b ∷ []) → new.together ≡ old.together → TakesIn words old new
  at_once : (together : List Fact) → words ≡ together_words together
      → map (λ one. one.items) new.together.items ≡ map (λ one. one.items) old.together.items ++ (together ∷ []) → new.bad ≡ old.bad → TakesIn words old new
