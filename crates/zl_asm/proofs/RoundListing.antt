-- The fields that lines give, where directives stand before labels and instructions.
use Rattle.zl_asm.proofs.Common.{Blank, Bool, Code, Declares, Directive, Label, Line, List, Listing, None, Some, Source, Version, [], all_of, and_from}
use Rattle.zl_asm.proofs.Common.{and_parts, ap}
use Rattle.zl_asm.proofs.Common.{are_in_order, budget_in, declares, false, flat_map, given, if_fits, if◌then◌else◌, is_body, is_listing, is_target, label_text}
use Rattle.zl_asm.proofs.Common.{labels_from, length, list_all, listing_from, listing_with, map, mark_in, memory_in, names_once, need_in, needs_named, nested}
use Rattle.zl_asm.proofs.Common.{none_behind, not, refl, resolved, slots_in, source_in, start_in, suc, then_with, true, version_in, ℕ, ◌&&◌, ◌++◌, ◌∙◌, ◌∷◌}
use Rattle.zl_asm.proofs.Common.{◌≡◌}
use Rattle.zl_asm.proofs.RoundInstr.{source_said}
use Rattle.zl_asm.proofs.RoundLabels.{code_said_from}
use Rattle.std.proofs.lemmas.Bool.{cond_both}

-- ---- the whole of it

-- the parts that lines give, one by one
pub record Give (lines : List Line) (l : Listing) : Type 0 where
  pub order : are_in_order lines ≡ true
  pub once : names_once (labels_from 0 lines) ≡ true
  pub version : version_in lines ≡ l.version
  pub raw : given (flat_map mark_in lines) false ≡ Some l.raw
  pub memory : given (flat_map memory_in lines) 0 ≡ Some l.memory
  pub budget : given (flat_map budget_in lines) 1 ≡ Some l.budget
  pub needs : needs_named (flat_map need_in lines) ≡ l.needs
  pub starts : flat_map start_in lines ≡ l.starts
  pub slots : flat_map slots_in lines ≡ l.slots
  pub code : all_of (resolved (labels_from 0 lines)) (flat_map source_in lines) ≡ Some l.code
  pub in_range : is_listing l ≡ true

pub listing_by : (lines : List Line) (l : Listing) → Give lines l → listing_from lines ≡ nested l
unfolding listing_from
listing_by lines l g =
    let values : listing_with lines (given (flat_map mark_in lines) false) (given (flat_map memory_in lines) 0) (given (flat_map budget_in lines) 1)
    (all_of (resolved (labels_from 0 lines)) (flat_map source_in lines)) ≡ Some l =
    (λ i. listing_with lines (g.raw i) (g.memory i) (g.budget i) (g.code i))
    ∙ (λ i. Some (record l { version = g.version i; needs = g.needs i; starts = g.starts i; slots = g.slots i })) in
    (λ i. if g.order i && g.once i then then_with (if_fits is_listing (values i)) nested else None) ∙ rw g.in_range refl

-- ---- directives before others

declared_first : (directives rest : List Line) → list_all declares directives ≡ true
    → none_behind is_body declares (directives ++ rest) ≡ none_behind is_body declares rest
unfolding none_behind
declared_first [] rest h = refl
declared_first (Declares d ∷ directives) rest h = declared_first directives rest h
declared_first _ rest h = absurd cc

no_labels : (n : ℕ) (directives rest : List Line) → list_all declares directives ≡ true → labels_from n (directives ++ rest) ≡ labels_from n rest
unfolding labels_from
no_labels n [] rest h = refl
no_labels n (Declares d ∷ directives) rest h = no_labels n directives rest h
no_labels n _ rest h = absurd cc

-- lines of which none passes the second test
pub none_later : (first later : Line → Bool) (lines : List Line) → list_all (λ l. not (later l)) lines ≡ true → none_behind first later lines ≡ true
unfolding none_behind
none_later first later [] h = refl
none_later first later (line ∷ lines) h =
    let more = (and_parts _ _ h).1 in cond_both (first line) _ _ (λ b. b ≡ true) (λ _. more) (λ _. none_later first later lines more)

-- a test that labels, instructions and blank lines pass
pub body_passes : (v : Version) (test : Line → Bool) → ((name : List ℕ) → test (Label name) ≡ true) → ((s : Source) → test (Code s) ≡ true) → test Blank ≡ true
    → (code : List (List ℕ)) (n : ℕ) (rest : List (List ℕ)) → list_all test (code_said_from v code n rest ++ (Blank ∷ [])) ≡ true
unfolding code_said_from
body_passes v test label source blank code n [] = and_from _ _ blank refl
body_passes v test label source blank code n (bytes ∷ rest) =
    let h = and_from _ _ (source (source_said v (length code) bytes)) (body_passes v test label source blank code (suc n) rest) in
    let more = Code (source_said v (length code) bytes) ∷ code_said_from v code (suc n) rest in
    cond_both (is_target v code n) (Label (label_text n) ∷ []) [] (λ ls. list_all test ((ls ++ more) ++ (Blank ∷ [])) ≡ true)
    (λ _. and_from _ _ (label (label_text n)) h) (λ _. h)

pub declared_in_order : (v : Version) (directives : List Line) (code : List (List ℕ)) → list_all declares directives ≡ true
    → none_behind is_body declares (directives ++ (code_said_from v code 0 code ++ (Blank ∷ []))) ≡ true
declared_in_order v directives code h =
    declared_first directives _ h
    ∙ none_later is_body declares _ (body_passes v (λ l. not (declares l)) (λ name. refl) (λ s. refl) refl code 0 code)

pub labels_behind : (directives rest : List Line) → list_all declares directives ≡ true → labels_from 0 (directives ++ rest) ≡ labels_from 0 rest
labels_behind directives rest h = no_labels 0 directives rest h

pub all_pass : {X : Type 0} (test : Line → Bool) (f : X → Directive) → ((x : X) → test (Declares (f x)) ≡ true) → (xs : List X)
    → list_all test (map (λ x. Declares (f x)) xs) ≡ true
all_pass test f pass [] = refl
all_pass test f pass (x ∷ xs) = and_from _ _ (pass x) (all_pass test f pass xs)

-- ---- what stands in which lines

-- of directives of one kind, none
pub skipped : {X A : Type 0} (f : Line → List A) (g : X → Directive) → ((x : X) → f (Declares (g x)) ≡ []) → (xs : List X)
    → flat_map f (map (λ x. Declares (g x)) xs) ≡ []
skipped f g none [] = refl
skipped f g none (x ∷ xs) = λ i. none x i ++ skipped f g none xs i

-- of directives of one kind, each
pub kept : {X : Type 0} (f : Line → List X) (g : X → Directive) → ((x : X) → f (Declares (g x)) ≡ x ∷ []) → (xs : List X)
    → flat_map f (map (λ x. Declares (g x)) xs) ≡ xs
kept f g one [] = refl
kept f g one (x ∷ xs) = λ i. one x i ++ kept f g one xs i

-- of labels and instructions, none
pub none_in_body : {A : Type 0} (v : Version) (f : Line → List A) → ((name : List ℕ) → f (Label name) ≡ []) → ((s : Source) → f (Code s) ≡ [])
    → (code : List (List ℕ)) (n : ℕ) (rest : List (List ℕ)) → flat_map f (code_said_from v code n rest) ≡ []
unfolding code_said_from
none_in_body v f label source code n [] = refl
none_in_body v f label source code n (bytes ∷ rest) =
    let h = none_in_body v f label source code (suc n) rest in
    let more = Code (source_said v (length code) bytes) ∷ code_said_from v code (suc n) rest in
    cond_both (is_target v code n) (Label (label_text n) ∷ []) [] (λ ls. flat_map f (ls ++ more) ≡ [])
    (λ _ i. label (label_text n) i ++ (source (source_said v (length code) bytes) i ++ h i)) (λ _ i. source (source_said v (length code) bytes) i ++ h i)

-- the instructions
pub sources_in_body : (v : Version) (code : List (List ℕ)) (n : ℕ) (rest : List (List ℕ))
    → flat_map source_in (code_said_from v code n rest) ≡ map (source_said v (length code)) rest
unfolding code_said_from
sources_in_body v code n [] = refl
sources_in_body v code n (bytes ∷ rest) =
    let h = ap (λ (ss : List Source). source_said v (length code) bytes ∷ ss) (sources_in_body v code (suc n) rest) in
    let more = Code (source_said v (length code) bytes) ∷ code_said_from v code (suc n) rest in
    cond_both (is_target v code n) (Label (label_text n) ∷ []) [] (λ ls. flat_map source_in (ls ++ more) ≡ map (source_said v (length code)) (bytes ∷ rest))
    (λ _. h) (λ _. h)
