-- What a line says beside what a draft holds.
use Rattle.zl_asm.proofs.Common.{Bool, Code, Declares, Directive, Err, Held, Holds, Kind, Line, List, None, Ok, OnOk, Option, Reads, Result, SlotArray, Some}
use Rattle.zl_asm.proofs.Common.{Source, Start, Version, [], alone, ap, codes, cond, directive_of, false, if_fits, instruction_of, is_ascii}
use Rattle.zl_asm.proofs.Common.{is_directive_in_range}
use Rattle.zl_asm.proofs.Common.{is_slot_in_range, is_start_in_range, is_word, kind_of, label_of, line_of, line_said, nat_eq, need_of, number_of, number_within}
use Rattle.zl_asm.proofs.Common.{option_map, point_line, refl, rights_of, slot_array_with, start_with, starts_with, subst, sym, true, unknown_of, version_with}
use Rattle.zl_asm.proofs.Common.{words_of, ℕ, ◌==◌, ◌∙◌, ◌∷◌, ◌≡◌}
use Rattle.zl_asm.specs.declared.directive.Directive.TheVariants as directive
use Rattle.std.proofs.lemmas.Bool.{cond_both, and_parts}

-- ---- reading on

pub said_by : (v : Version) (line : List ℕ) (words : List (List ℕ)) (said : Line) → is_ascii line ≡ true → words ≡ words_of line → line_of v words ≡ Some said
    → line_said v line ≡ Some said
said_by v line words said plain cut e = rw (plain, sym cut) e

pub read_by : {A E : Type 0} (r : Result A E) (old new : Held) (line : List ℕ) (words : List (List ℕ)) (said : Line) → is_ascii line ≡ true
    → words ≡ words_of line → line_of old.image.version words ≡ Some said → OnOk r (Holds old said new) → OnOk r (Reads old line new)
read_by (Ok x) old new line words said plain cut e h = (said, said_by old.image.version line words said plain cut e, h)
read_by (Err fault) old new line words said plain cut e h = tt

-- ---- the ranges of directives

passes : {X : Type 0} (test : X → Bool) (o : Option X) (x : X) → if_fits test o ≡ Some x → test x ≡ true
passes test None x e = cc
passes test (Some y) x e =
    cond_both (test y) (Some y) None (λ o. o ≡ Some x → test x ≡ true) (λ f e. let same : y ≡ x = cc in sym (ap test same) ∙ f) (λ _ e. cc) e

-- a directive that is made of a value in its range
made_of : {X : Type 0} (make : X → Directive) (o : Option X) (d : Directive) → ((x : X) → o ≡ Some x → is_directive_in_range (make x) ≡ true)
    → option_map make o ≡ Some d → is_directive_in_range d ≡ true
made_of make None d fine e = cc
made_of make (Some x) d fine e = let same : make x ≡ d = cc in subst (λ (y : Directive). is_directive_in_range y ≡ true) same (fine x refl)

start-fits : (k : Option (Option Kind)) (r : Option ℕ) (s : Start) → start_with k r ≡ Some s → is_start_in_range s ≡ true
start-fits (Some k) (Some r) s e = passes is_start_in_range (Some (record { kind = k; rights = rights_of r })) s e
start-fits _ _ s e = cc

slots-fit : (k : Option (Option Kind)) (l r : Option ℕ) (s : SlotArray) → slot_array_with k l r ≡ Some s → is_slot_in_range s ≡ true
slots-fit (Some k) (Some l) (Some r) s e = passes is_slot_in_range (Some (record { kind = k; length = l; rights = rights_of r })) s e
slots-fit _ _ _ s e = cc

either : (b : Bool) (x y : Option Directive) (d : Directive) → (x ≡ Some d → is_directive_in_range d ≡ true) → (y ≡ Some d → is_directive_in_range d ≡ true)
    → cond b x y ≡ Some d → is_directive_in_range d ≡ true
either true x y d f g e = f e
either false x y d f g e = g e

nothing : (d : Directive) → None ≡ Some d → is_directive_in_range d ≡ true
nothing d e = cc

raw-fits : (d : Directive) → Some directive.Raw ≡ Some d → is_directive_in_range d ≡ true
raw-fits d e = let same : directive.Raw ≡ d = cc in subst (λ (y : Directive). is_directive_in_range y ≡ true) same refl

directive-fits : (name : List ℕ) (operands : List (List ℕ)) (d : Directive) → directive_of name operands ≡ Some d → is_directive_in_range d ≡ true
unfolding directive_of
directive-fits name [] d e = either (is_word name (codes ".raw")) (Some directive.Raw) None d (raw-fits d) (nothing d) e
directive-fits name (operand ∷ []) d e =
    either (is_word name (codes ".version")) (version_with operand) _ d
    (made_of (λ n. directive.VersionTwo) (if_fits (λ n. n == 2) (number_of operand)) d (λ n f. refl))
    (either (is_word name (codes ".memory")) (option_map directive.Memory (number_within 0 65536 operand)) _ d
    (made_of directive.Memory (number_within 0 65536 operand) d (λ n f. (and_parts _ _ (passes _ (number_of operand) n f)).1))
    (either (is_word name (codes ".budget")) (option_map directive.Budget (number_within 1 1000000 operand)) _ d
    (made_of directive.Budget (number_within 1 1000000 operand) d (λ n f. passes _ (number_of operand) n f))
    (either (is_word name (codes ".need")) (option_map directive.Need (need_of operand)) None d
    (made_of directive.Need (need_of operand) d (λ n f. refl)) (nothing d)))) e
directive-fits name (kind ∷ rights ∷ []) d e =
    either (is_word name (codes ".start")) (option_map directive.Start (start_with (kind_of kind) (number_of rights))) None d
    (made_of directive.Start (start_with (kind_of kind) (number_of rights)) d (λ s f. start-fits (kind_of kind) (number_of rights) s f)) (nothing d) e
directive-fits name (kind ∷ len ∷ rights ∷ []) d e =
    either (is_word name (codes ".slots")) (option_map directive.Slots (slot_array_with (kind_of kind) (number_within 1 256 len) (number_of rights))) None d
    (made_of directive.Slots (slot_array_with (kind_of kind) (number_within 1 256 len) (number_of rights)) d
    (λ s f. slots-fit (kind_of kind) (number_within 1 256 len) (number_of rights) s f)) (nothing d) e
directive-fits name (a ∷ b ∷ c ∷ e ∷ more) d f = cc

-- ---- the directive of a line

not_code : (o : Option Source) (d : Directive) → option_map Code o ≡ Some (Declares d) → ⊥
not_code None d e = cc
not_code (Some s) d e = cc

declared : (o : Option Directive) (d : Directive) → option_map Declares o ≡ Some (Declares d) → o ≡ Some d
declared None d e = cc
declared (Some x) d e = cc

point-fits : (v : Version) (name : List ℕ) (words : List (List ℕ)) (d : Directive) → point_line v name words ≡ Some (Declares d)
    → is_directive_in_range d ≡ true
point-fits v name words d e =
    cond_both (is_word name (codes ".bytes")) _ _ (λ o. o ≡ Some (Declares d) → is_directive_in_range d ≡ true)
    (λ _ e. absurd (not_code (unknown_of v words) d e)) (λ _ e. directive-fits name words d (declared (directive_of name words) d e)) e

alone-not : (v : Version) (word : List ℕ) (o : Option (List ℕ)) (d : Directive) → alone v word o ≡ Some (Declares d) → ⊥
alone-not v word (Some name) d e = cc
alone-not v word None d e = not_code (instruction_of v word []) d e

chosen : (b : Bool) (x y : Option Line) (d : Directive) → (x ≡ Some (Declares d) → is_directive_in_range d ≡ true) → (y ≡ Some (Declares d) → ⊥)
    → cond b x y ≡ Some (Declares d) → is_directive_in_range d ≡ true
chosen true x y d f g e = f e
chosen false x y d f g e = absurd (g e)

-- each field of a directive that was read is in its range
pub said_in_range : (v : Version) (words : List (List ℕ)) (d : Directive) → line_of v words ≡ Some (Declares d) → is_directive_in_range d ≡ true
unfolding line_of
said_in_range v [] d e = cc
said_in_range v (word ∷ []) d e =
    chosen (starts_with nat_eq word (codes ".")) (point_line v word []) (alone v word (label_of word)) d (point-fits v word [] d) (alone-not v word
    (label_of word) d) e
said_in_range v (word ∷ next ∷ words) d e =
    chosen (starts_with nat_eq word (codes ".")) (point_line v word (next ∷ words)) (option_map Code (instruction_of v word (next ∷ words))) d
    (point-fits v word (next ∷ words) d) (not_code (instruction_of v word (next ∷ words)) d) e
