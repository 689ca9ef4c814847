-- Lines that give no fields of an image, whatever lines follow.
use Rattle.zl_asm.proofs.Common.{Blank, Bool, Code, Declares, Directive, Label, Line, List, Listing, None, Option, Some, Source, Version, [], all_of, ap}
use Rattle.zl_asm.proofs.Common.{append-nil}
use Rattle.zl_asm.proofs.Common.{are_in_order, arith, budget_in, cond, declares, false, fits, flat_map, flat_map-append, given, gives_version, if_fits}
use Rattle.zl_asm.proofs.Common.{if◌then◌else◌}
use Rattle.zl_asm.proofs.Common.{instr_fault, is_body, is_fine, is_listing, is_some, labels_from, length, length-append, list_all, list_all-append, list_any}
use Rattle.zl_asm.proofs.Common.{listing_from, listing_with, lt-leb, mark_in, memory_in, names_once, need_in, needs_named, nested, none_behind, not, onto_all}
use Rattle.zl_asm.proofs.Common.{position_of, refl, resolved, says, slots_in, source_in, start_in, sym, then_with, true, true≢false, version_in, ℕ, ◌&&◌}
use Rattle.zl_asm.proofs.Common.{◌++◌, ◌+◌, ◌<◌}
use Rattle.zl_asm.proofs.Common.{◌||◌, ◌∙◌, ◌∷◌, ◌≡◌, ◌≤◌}
use Rattle.zl_asm.specs.declared.directive.Directive.TheVariants as directive
use Rattle.zl_asm.proofs.Labels.{labels_from-append, not-once}
use Rattle.std.proofs.lemmas.Bool.{and_right, and_parts, not_from_true}
use Rattle.std.proofs.Math.Bool.{and-false, and-true}
use Rattle.zl_code.specs.declared.image.Version.TheVariants as version

-- ---- a value for each

pub all_of-none : {X Y : Type 0} (f : X → Option Y) (xs ys : List X) (x : X) → f x ≡ None → all_of f (xs ++ x ∷ ys) ≡ None
unfolding all_of
all_of-none f [] ys x e = rw e refl
all_of-none f (w ∷ xs) ys x e = rw (all_of-none f xs ys x e) (by (f w))
  where
    by : {Z : Type 0} (o : Option Z) → onto_all o None ≡ None
    by None = refl
    by (Some z) = refl

-- what onto_all made
pub onto_all-some : {Y : Type 0} (o : Option Y) (os : Option (List Y)) (zs : List Y) → onto_all o os ≡ Some zs
    → (y : Y) × (ys : List Y) × (o ≡ Some y) × (os ≡ Some ys) × (zs ≡ y ∷ ys)
onto_all-some (Some y) (Some ys) zs e = (y, ys, refl, refl, cc)
onto_all-some (Some y) None zs e = cc
onto_all-some None os zs e = cc

pub all_of-length : {X Y : Type 0} (f : X → Option Y) (xs : List X) (zs : List Y) → all_of f xs ≡ Some zs → length zs ≡ length xs
unfolding all_of
all_of-length f [] zs e = let none : zs ≡ [] = cc in rw none refl
all_of-length f (x ∷ xs) zs e =
    let made = onto_all-some (f x) (all_of f xs) zs e in
    let rest = all_of-length f xs made.1 made.3 in
    let whole = ap length made.4 in
    omega arith

pub all_of-more : {X Y : Type 0} (f : X → Option Y) (xs : List X) (zs : List Y) (x : X) (z : Y) → all_of f xs ≡ Some zs → f x ≡ Some z
    → all_of f (xs ++ x ∷ []) ≡ Some (zs ++ z ∷ [])
unfolding all_of
all_of-more f [] zs x z e here = let none : zs ≡ [] = cc in rw (here, none) refl
all_of-more f (w ∷ xs) zs x z e here =
    let made = onto_all-some (f w) (all_of f xs) zs e in
    ap (λ (o : Option _). onto_all o (all_of f (xs ++ x ∷ []))) made.2
    ∙ ap (onto_all (Some made.0)) (all_of-more f xs made.1 x z made.3 here)
    ∙ ap (λ (l : List _). Some (l ++ z ∷ [])) (sym made.4)

-- a value that doesn't pass is among the values
pub all_of-fault : {X Y : Type 0} (f : X → Option Y) (test : Y → Bool) (xs ys : List X) (zs : List Y) (x : X) → all_of f (xs ++ x ∷ ys) ≡ Some zs
    → fits test (f x) ≡ false → list_all test zs ≡ false
unfolding all_of
all_of-fault f test [] ys zs x e fails =
    let made = onto_all-some (f x) (all_of f ys) zs e in
    let here : test made.0 ≡ false = ap (fits test) (sym made.2) ∙ fails in
    rw (made.4, here) refl
all_of-fault f test (w ∷ xs) ys zs x e fails =
    let made = onto_all-some (f w) (all_of f (xs ++ x ∷ ys)) zs e in
    rw (made.4, all_of-fault f test xs ys made.1 x made.3 fails) (and_right _ _ refl)

-- ---- no fields

unless : {X : Type 0} (b : Bool) (o : Option X) → o ≡ None → cond b o None ≡ None
unless true o e = e
unless false o e = refl

pub none_by_order : (lines : List Line) → are_in_order lines ≡ false → listing_from lines ≡ None
unfolding listing_from
none_by_order lines e = rw e refl

pub none_by_names : (lines : List Line) → names_once (labels_from 0 lines) ≡ false → listing_from lines ≡ None
unfolding listing_from
none_by_names lines e = rw (e, and_right (are_in_order lines) false refl) refl

abbrev pub listing_of_fields : List Line → Bool → ℕ → ℕ → List (List ℕ) → Listing
listing_of_fields lines raw memory budget code = record {
  version = version_in lines;
  raw = raw;
  memory = memory;
  budget = budget;
  needs = needs_named (flat_map need_in lines);
  starts = flat_map start_in lines;
  slots = flat_map slots_in lines;
  code = code;
}

-- where no fields that the lines give are in their ranges
pub none_by_fields : (lines : List Line) → ((raw : Bool) (memory budget : ℕ) (code : List (List ℕ)) → given (flat_map mark_in lines) false ≡ Some raw
    → given (flat_map memory_in lines) 0 ≡ Some memory → given (flat_map budget_in lines) 1 ≡ Some budget
    → all_of (resolved (labels_from 0 lines)) (flat_map source_in lines) ≡ Some code → is_listing (listing_of_fields lines raw memory budget code) ≡ false)
    → listing_from lines ≡ None
unfolding listing_from
none_by_fields lines fails =
    unless (are_in_order lines && names_once (labels_from 0 lines)) _
    (ap (λ (o : Option Listing). then_with o nested) (by (given (flat_map mark_in lines) false) (given (flat_map memory_in lines) 0)
    (given (flat_map budget_in lines) 1) (all_of (resolved (labels_from 0 lines)) (flat_map source_in lines)) fails))
  where
    by : (m : Option Bool) (n b : Option ℕ) (c : Option (List (List ℕ)))
        → ((raw : Bool) (memory budget : ℕ) (code : List (List ℕ)) → m ≡ Some raw → n ≡ Some memory → b ≡ Some budget → c ≡ Some code
        → is_listing (listing_of_fields lines raw memory budget code) ≡ false) → if_fits is_listing (listing_with lines m n b c) ≡ None
    by (Some raw) (Some memory) (Some budget) (Some code) h = rw (h raw memory budget code refl refl refl refl) refl
    by (Some raw) (Some memory) (Some budget) None h = refl
    by (Some raw) (Some memory) None c h = refl
    by (Some raw) None b c h = refl
    by None n b c h = refl

-- ---- directives behind others

-- a second value of a field that is given once
pub given-twice : {X : Type 0} (f : Line → List X) (said rest : List Line) (line : Line) (x y usual : X) → flat_map f said ≡ x ∷ [] → f line ≡ y ∷ []
    → given (flat_map f (said ++ line ∷ rest)) usual ≡ None
given-twice f said rest line x y usual one two = rw (flat_map-append f said (line ∷ rest), one, two) refl

out_of_order : (first later : Line → Bool) (said rest : List Line) (x : Line) → later x ≡ true → list_any first said ≡ true
    → none_behind first later (said ++ x ∷ rest) ≡ false
unfolding none_behind
out_of_order first later [] rest x t e = absurd (true≢false (sym e))
out_of_order first later (line ∷ said) rest x t e = by (first line) (out_of_order first later said rest x t) e
  where
    by : (b : Bool) → (list_any first said ≡ true → none_behind first later (said ++ x ∷ rest) ≡ false) → (b || list_any first said) ≡ true
        → cond b (list_all (λ l. not (later l)) (said ++ x ∷ rest)) (none_behind first later (said ++ x ∷ rest)) ≡ false
    by true more h =
        list_all-append (λ l. not (later l)) said (x ∷ rest)
        ∙ (λ i. list_all (λ l. not (later l)) said && (not (t i) && list_all (λ l. not (later l)) rest)) ∙ and-false _
    by false more h = more h

pub refused_version : (said rest : List Line) → list_any says said ≡ true → listing_from (said ++ Declares directive.VersionTwo ∷ rest) ≡ None
refused_version said rest e = none_by_order _ (rw (out_of_order says gives_version said rest (Declares directive.VersionTwo) refl e) refl)

pub refused_behind : (said rest : List Line) (d : Directive) → list_any is_body said ≡ true → listing_from (said ++ Declares d ∷ rest) ≡ None
refused_behind said rest d e = none_by_order _ (and_right _ _ (out_of_order is_body declares said rest (Declares d) refl e))

pub refused_mark : (said rest : List Line) → flat_map mark_in said ≡ true ∷ [] → listing_from (said ++ Declares directive.Raw ∷ rest) ≡ None
refused_mark said rest e =
    none_by_fields _ (λ raw memory budget code m n b c. let none = given-twice mark_in said rest (Declares directive.Raw) true true false e refl in cc)

pub refused_memory : (said rest : List Line) (old new : ℕ) → flat_map memory_in said ≡ old ∷ []
    → listing_from (said ++ Declares (directive.Memory new) ∷ rest) ≡ None
refused_memory said rest old new e =
    none_by_fields _ (λ raw memory budget code m n b c. let none = given-twice memory_in said rest (Declares (directive.Memory new)) old new 0 e refl in cc)

pub refused_budget : (said rest : List Line) (old new : ℕ) → flat_map budget_in said ≡ old ∷ []
    → listing_from (said ++ Declares (directive.Budget new) ∷ rest) ≡ None
refused_budget said rest old new e =
    none_by_fields _ (λ raw memory budget code m n b c. let none = given-twice budget_in said rest (Declares (directive.Budget new)) old new 1 e refl in cc)

-- ---- a label twice

labels_with : (said rest : List Line) (name : List ℕ) → labels_from 0 (said ++ Label name ∷ rest)
    ≡ labels_from 0 said ++ (name, 0 + length (flat_map source_in said)) ∷ labels_from (0 + length (flat_map source_in said)) rest
unfolding labels_from
labels_with said rest name = labels_from-append 0 said (Label name ∷ rest)

pub refused_label : (said rest : List Line) (name : List ℕ) → is_some (position_of (labels_from 0 said) name) ≡ true
    → listing_from (said ++ Label name ∷ rest) ≡ None
refused_label said rest name e =
    none_by_names _ (ap names_once (labels_with said rest name)
    ∙ not-once (labels_from 0 said) (labels_from (0 + length (flat_map source_in said)) rest) (name, 0 + length (flat_map source_in said)) e)

-- ---- more than an image holds

length-more : {X : Type 0} (f : Line → List X) (said rest : List Line) (line : Line) (x : X) → f line ≡ x ∷ []
    → length (flat_map f said) < length (flat_map f (said ++ line ∷ rest))
length-more f said rest line x e =
    let both = ap length (flat_map-append f said (line ∷ rest) ∙ ap (λ (l : List _). flat_map f said ++ (l ++ flat_map f rest)) e) in
    let sum = length-append (flat_map f said) (x ∷ flat_map f rest) in
    omega arith

pub refused_start : (said rest : List Line) (s : _) → 7 ≤ length (flat_map start_in said) → listing_from (said ++ Declares (directive.Start s) ∷ rest) ≡ None
refused_start said rest s many = none_by_fields _ (λ raw memory budget code m n b c.
    let more = length-more start_in said rest (Declares (directive.Start s)) s refl in
    let above : 7 < length (flat_map start_in (said ++ Declares (directive.Start s) ∷ rest)) = omega arith in
    rw (lt-leb _ 7 above) refl)

pub refused_slots : (said rest : List Line) (s : _) → 8 ≤ length (flat_map slots_in said) → listing_from (said ++ Declares (directive.Slots s) ∷ rest) ≡ None
refused_slots said rest s many = none_by_fields _ (λ raw memory budget code m n b c.
    let more = length-more slots_in said rest (Declares (directive.Slots s)) s refl in
    let above : 8 < length (flat_map slots_in (said ++ Declares (directive.Slots s) ∷ rest)) = omega arith in
    rw (lt-leb _ 8 above, and-false) refl)

pub refused_count : (said rest : List Line) (s : Source) → 4096 ≤ length (flat_map source_in said) → listing_from (said ++ Code s ∷ rest) ≡ None
refused_count said rest s many = none_by_fields _ (λ raw memory budget code m n b c.
    let more = length-more source_in said rest (Code s) s refl in
    let same = all_of-length (resolved (labels_from 0 (said ++ Code s ∷ rest))) _ code c in
    let above : 4096 < length code = omega arith in
    rw (lt-leb _ 4096 above, and-false, and-false) refl)

-- ---- an instruction with a fault

pub not_listing : (f : Source → Option (List ℕ)) (xs ys : List Source) (s : Source) (lines : List Line) (raw : Bool) (memory budget : ℕ)
    (code : List (List ℕ)) → all_of f (xs ++ s ∷ ys) ≡ Some code → is_fine (version_in lines) raw (f s) ≡ false
    → is_listing (listing_of_fields lines raw memory budget code) ≡ false
not_listing f xs ys s lines raw memory budget code e fails =
    rw (all_of-fault f (λ bytes. not (is_some (instr_fault (version_in lines) raw bytes))) xs ys code s e fails, and-false, and-false, and-false) refl

no_marks : (rest : List Line) → list_all (λ l. not (declares l)) rest ≡ true → flat_map mark_in rest ≡ []
no_marks [] e = refl
no_marks (Blank ∷ rest) e = no_marks rest e
no_marks (Declares d ∷ rest) e = absurd (true≢false (sym e))
no_marks (Label name ∷ rest) e = no_marks rest e
no_marks (Code s ∷ rest) e = no_marks rest e

-- no directive stands behind a body
behind_code : (said rest : List Line) (s : Source) → none_behind is_body declares (said ++ Code s ∷ rest) ≡ true → list_all (λ l. not (declares l)) rest ≡ true
unfolding none_behind
behind_code [] rest s e = e
behind_code (line ∷ said) rest s e = by (is_body line) (behind_code said rest s) e
  where
    by : (b : Bool) → (none_behind is_body declares (said ++ Code s ∷ rest) ≡ true → list_all (λ l. not (declares l)) rest ≡ true)
        → cond b (list_all (λ l. not (declares l)) (said ++ Code s ∷ rest)) (none_behind is_body declares (said ++ Code s ∷ rest)) ≡ true
        → list_all (λ l. not (declares l)) rest ≡ true
    by true more h = (and_parts _ _ (sym (list_all-append (λ l. not (declares l)) said (Code s ∷ rest)) ∙ h)).1
    by false more h = more h

-- the marks stay
same_marks : (said rest : List Line) (s : Source) → are_in_order (said ++ Code s ∷ rest) ≡ true
    → flat_map mark_in (said ++ Code s ∷ rest) ≡ flat_map mark_in said
same_marks said rest s e =
    flat_map-append mark_in said (Code s ∷ rest)
    ∙ ap (λ (l : List Bool). flat_map mark_in said ++ l) (no_marks rest (behind_code said rest s (and_parts _ _ e).1)) ∙ append-nil _

-- so does the version
same_version : (said rest : List Line) (s : Source) → are_in_order (said ++ Code s ∷ rest) ≡ true → version_in (said ++ Code s ∷ rest) ≡ version_in said
same_version said rest s e =
    ap (λ (b : Bool). if b then version.One else version.Two)
    (list_all-append (λ l. not (gives_version l)) said (Code s ∷ rest)
    ∙ ap (λ (b : Bool). list_all (λ l. not (gives_version l)) said && b) (none_give rest (behind_code said rest s (and_parts _ _ e).1)) ∙ and-true _)
  where
    none_give : (rest : List Line) → list_all (λ l. not (declares l)) rest ≡ true → list_all (λ l. not (gives_version l)) rest ≡ true
    none_give [] e = refl
    none_give (Blank ∷ rest) e = none_give rest e
    none_give (Declares d ∷ rest) e = absurd (true≢false (sym e))
    none_give (Label name ∷ rest) e = none_give rest e
    none_give (Code s ∷ rest) e = none_give rest e

-- an instruction without a label, with a fault
pub refused_fault : (said rest : List Line) (s : Source) (raw : Bool) → s.label ≡ None → given (flat_map mark_in said) false ≡ Some raw
    → is_some (instr_fault (version_in said) raw s.bytes) ≡ true → listing_from (said ++ Code s ∷ rest) ≡ None
refused_fault said rest s raw label mark fault = by (are_in_order (said ++ Code s ∷ rest)) refl
  where
    by : (b : Bool) → are_in_order (said ++ Code s ∷ rest) ≡ b → listing_from (said ++ Code s ∷ rest) ≡ None
    by false e = none_by_order _ e
    by true e = none_by_fields _ (λ r memory budget code m n b c.
        let marks : given (flat_map mark_in (said ++ Code s ∷ rest)) false ≡ given (flat_map mark_in said) false =
        ap (λ (l : List Bool). given l false) (same_marks said rest s e) in
        let same : r ≡ raw = cc in
        let bad : is_fine (version_in (said ++ Code s ∷ rest)) r (resolved (labels_from 0 (said ++ Code s ∷ rest)) s) ≡ false =
        ap (λ (v : Version). is_fine v r (resolved (labels_from 0 (said ++ Code s ∷ rest)) s)) (same_version said rest s e)
        ∙ rw (label, same) (not_from_true _ fault) in
        let split = flat_map-append source_in said (Code s ∷ rest) in
        not_listing (resolved (labels_from 0 (said ++ Code s ∷ rest))) (flat_map source_in said) (flat_map source_in rest) s (said ++ Code s ∷ rest)
        r memory budget code (ap (all_of (resolved (labels_from 0 (said ++ Code s ∷ rest)))) (sym split) ∙ c) bad)
