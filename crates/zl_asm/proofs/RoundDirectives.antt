-- The lines of the directives of an image are read as its fields.
use Rattle.zl_asm.proofs.Common.{Bool, Condition, Declares, Kind, List, None, Option, SlotArray, Some, Start, Version, [], and_parts, ap, are_needs, arith}
use Rattle.zl_asm.proofs.Common.{bit_and}
use Rattle.zl_asm.proofs.Common.{bits, codes, condition_name, decimal, digit_of, directive_of, eqb-true, false, is_slot_in_range, is_start_in_range, is_word}
use Rattle.zl_asm.proofs.Common.{kind_of, kind_text, le-leb, leb-true, line_of, list_all, ltb-true, map, nat_le, nat_lt, need_if, needs_byte, needs_fit}
use Rattle.zl_asm.proofs.Common.{number_of, refl, rights_allowed, subst, true, within, words_from, words_of, ℕ, ◌%◌, ◌&&◌, ◌++◌, ◌/◌, ◌<◌, ◌==◌, ◌^◌, ◌∙◌, ◌∷◌}
use Rattle.zl_asm.proofs.Common.{◌≡◌, ◌≤◌}
use Rattle.std.proofs.lemmas.Nat.{and_le_l}
use Rattle.zl_rights.specs.declared.kind.Kind.TheVariants as kind
use Rattle.zl_rights.specs.declared.policy.Condition.TheVariants as condition
use Rattle.zl_rights.specs.Names.{kind_named, condition_named}
use Rattle.zl_code.proofs.ImageNeeds.{needs_at}
use Rattle.zl_asm.specs.declared.directive.Directive.TheVariants as directive
use Rattle.zl_asm.proofs.RoundWords.{is_plain_word, words_of-space, words_of-alone}
use Rattle.zl_asm.proofs.RoundNumbers.{number_of-decimal, plain-decimal}
use Rattle.zl_asm.proofs.RoundLines.{is_printed, printed-plain, printed-append, Say, says_nothing, says_line}

-- two, three and four words
two_words : (a b : List ℕ) → is_plain_word a ≡ true → is_plain_word b ≡ true → words_of (a ++ (codes " " ++ b)) ≡ a ∷ b ∷ []
two_words a b p q = words_of-space a b p ∙ ap (λ (ws : List (List ℕ)). a ∷ ws) (words_of-alone b q)

three_words : (a b c : List ℕ) → is_plain_word a ≡ true → is_plain_word b ≡ true → is_plain_word c ≡ true
    → words_of (a ++ (codes " " ++ (b ++ (codes " " ++ c)))) ≡ a ∷ b ∷ c ∷ []
three_words a b c p q r = words_of-space a (b ++ (codes " " ++ c)) p ∙ ap (λ (ws : List (List ℕ)). a ∷ ws) (two_words b c q r)

four_words : (a b c d : List ℕ) → is_plain_word a ≡ true → is_plain_word b ≡ true → is_plain_word c ≡ true → is_plain_word d ≡ true
    → words_of (a ++ (codes " " ++ (b ++ (codes " " ++ (c ++ (codes " " ++ d)))))) ≡ a ∷ b ∷ c ∷ d ∷ []
four_words a b c d p q r s = words_of-space a (b ++ (codes " " ++ (c ++ (codes " " ++ d)))) p ∙ ap (λ (ws : List (List ℕ)). a ∷ ws) (three_words b c d q r s)

-- ---- numbers

pub version_said : (v : Version) → line_of v (words_of (codes ".version 2")) ≡ Some (Declares directive.VersionTwo)
unfolding words_from line_of directive_of is_word number_of digit_of
version_said v = refl

pub mark_said : (v : Version) → line_of v (words_of (codes ".raw")) ≡ Some (Declares directive.Raw)
unfolding words_from line_of directive_of is_word
mark_said v = refl

pub memory_said : (v : Version) (n : ℕ) → n ≤ 65536 → line_of v (words_of (codes ".memory " ++ decimal n)) ≡ Some (Declares (directive.Memory n))
unfolding line_of directive_of is_word
memory_said v n le =
    let small : n < 2 ^ 32 = omega arith in
    let least : nat_le 0 n ≡ true = le-leb 0 n (omega arith) in
    let most : nat_le n 65536 ≡ true = le-leb n 65536 le in
    ap (line_of v) (two_words (codes ".memory") (decimal n) refl (plain-decimal n small)) ∙ rw (number_of-decimal n small, least, most) refl

pub budget_said : (v : Version) (n : ℕ) → 0 < n → n ≤ 1000000 → line_of v (words_of (codes ".budget " ++ decimal n)) ≡ Some (Declares (directive.Budget n))
unfolding line_of directive_of is_word
budget_said v n lt le =
    let small : n < 2 ^ 32 = omega arith in
    let least : nat_le 1 n ≡ true = le-leb 1 n (omega arith) in
    let most : nat_le n 1000000 ≡ true = le-leb n 1000000 le in
    ap (line_of v) (two_words (codes ".budget") (decimal n) refl (plain-decimal n small)) ∙ rw (number_of-decimal n small, least, most) refl

-- a number behind a directive's name is printed
pub printed-decimal : (n : ℕ) → n < 2 ^ 32 → list_all is_printed (decimal n) ≡ true
printed-decimal n lt = printed-plain (decimal n) (plain-decimal n lt)

-- ---- needs

-- what holds of a condition that an image can need
record IsSaid (v : Version) (c : Condition) : Type 0 where
  printed : list_all is_printed (codes ".need " ++ condition_name c) ≡ true
  said : line_of v (words_of (codes ".need " ++ condition_name c)) ≡ Some (Declares (directive.Need c))

abbrev AllSaid : Version → List Condition → Type 0
AllSaid v [] = Unit {0}
AllSaid v (c ∷ cs) = IsSaid v c × AllSaid v cs

each_said : (v : Version) → IsSaid v condition.NewChannel × IsSaid v condition.NewEvent × IsSaid v condition.NewEventpair × IsSaid v condition.NewPort
    × IsSaid v condition.NewProcess
unfolding words_from line_of directive_of is_word condition_named
each_said v = (
  record { printed = refl; said = refl },
  record { printed = refl; said = refl },
  record { printed = refl; said = refl },
  record { printed = refl; said = refl },
  record { printed = refl; said = refl },
)

said_if : (v : Version) (t : Bool) (c : Condition) (cs : List Condition) → IsSaid v c → AllSaid v cs → AllSaid v (need_if t c cs)
said_if v true c cs h more = (h, more)
said_if v false c cs h more = more

byte_said : (v : Version) (b : ℕ) → AllSaid v (needs_at b)
byte_said v b =
    let e = each_said v in
    said_if v (b % 2 == 1) _ _ e.0 (said_if v (b / 2 % 2 == 1) _ _ e.1 (said_if v (b / 4 % 2 == 1) _ _ e.2
    (said_if v (b / 8 % 2 == 1) _ _ e.3 (said_if v (b / 16 % 2 == 1) _ _ e.4 tt))))

abbrev need_line : Condition → List ℕ
need_line c = codes ".need " ++ condition_name c

needs_say : (v : Version) (needs : List Condition) → AllSaid v needs → Say v (map need_line needs) (map (λ c. Declares (directive.Need c)) needs)
needs_say v [] h = says_nothing v
needs_say v (c ∷ cs) h =
    says_line v (need_line c) (map need_line cs) (Declares (directive.Need c)) (map (λ c. Declares (directive.Need c)) cs) h.0.printed h.0.said
    (needs_say v cs h.1)

pub needs_said : (v : Version) (needs : List Condition) → are_needs needs ≡ true
    → Say v (map (λ c. codes ".need " ++ condition_name c) needs) (map (λ c. Declares (directive.Need c)) needs)
needs_said v needs h = needs_say v needs (subst (AllSaid v) (needs_fit needs h).again (byte_said v (needs_byte needs)))

-- ---- kinds and rights

kind_again : (k : Option Kind) → kind_of (kind_text k) ≡ Some k
unfolding kind_of is_word kind_named
kind_again None = refl
kind_again (Some kind.Process) = refl
kind_again (Some _) = refl

plain_kind : (k : Option Kind) → is_plain_word (kind_text k) ≡ true
plain_kind None = refl
plain_kind (Some kind.Process) = refl
plain_kind (Some _) = refl

allowed_small : (k : Option Kind) → rights_allowed k < 2 ^ 32
allowed_small None = omega arith
allowed_small (Some kind.Process) = omega arith
allowed_small (Some _) = omega arith

within_small : (part whole : ℕ) → within part whole ≡ true → whole < 2 ^ 32 → part < 2 ^ 32
within_small part whole h small =
    let same : bit_and whole part ≡ part = eqb-true _ part h in
    let le : bit_and whole part ≤ whole = and_le_l whole part in
    omega arith

-- ---- start handles

abbrev start_line : Start → List ℕ
start_line s = codes ".start " ++ (kind_text s.kind ++ (codes " " ++ decimal (bits s.rights)))

start_said : (v : Version) (s : Start) → is_start_in_range s ≡ true → line_of v (words_of (start_line s)) ≡ Some (Declares (directive.Start s))
unfolding line_of directive_of is_word
start_said v s h =
    let small = within_small (bits s.rights) (rights_allowed s.kind) h (allowed_small s.kind) in
    ap (line_of v) (three_words (codes ".start") (kind_text s.kind) (decimal (bits s.rights)) refl (plain_kind s.kind) (plain-decimal (bits s.rights) small))
    ∙ rw (kind_again s.kind, number_of-decimal (bits s.rights) small, h) refl

printed_rights : (k : Option Kind) (rest : List ℕ) → list_all is_printed rest ≡ true → list_all is_printed (kind_text k ++ (codes " " ++ rest)) ≡ true
printed_rights k rest h = printed-append (kind_text k) (codes " " ++ rest) (printed-plain (kind_text k) (plain_kind k)) h

pub starts_said : (v : Version) (starts : List Start) → list_all is_start_in_range starts ≡ true
    → Say v (map (λ s. codes ".start " ++ (kind_text s.kind ++ (codes " " ++ decimal (bits s.rights)))) starts) (map (λ s. Declares (directive.Start s)) starts)
starts_said v [] h = says_nothing v
starts_said v (s ∷ starts) h =
    let p = and_parts (is_start_in_range s) (list_all is_start_in_range starts) h in
    let small = within_small (bits s.rights) (rights_allowed s.kind) p.0 (allowed_small s.kind) in
    says_line v (start_line s) (map start_line starts) (Declares (directive.Start s)) (map (λ s. Declares (directive.Start s)) starts)
    (printed_rights s.kind (decimal (bits s.rights)) (printed-decimal (bits s.rights) small)) (start_said v s p.0) (starts_said v starts p.1)

-- ---- slot arrays

abbrev slot_array_line : SlotArray → List ℕ
slot_array_line s = codes ".slots " ++ (kind_text s.kind ++ (codes " " ++ (decimal s.length ++ (codes " " ++ decimal (bits s.rights)))))

-- the ranges of a slot array
record SlotRanges (s : SlotArray) : Type 0 where
  least : nat_le 1 s.length ≡ true
  most : nat_le s.length 256 ≡ true
  length_small : s.length < 2 ^ 32
  rights_small : bits s.rights < 2 ^ 32

slot_ranges : (s : SlotArray) → is_slot_in_range s ≡ true → SlotRanges s
slot_ranges s h =
    let p = and_parts (nat_lt 0 s.length) (nat_le s.length 256 && within (bits s.rights) (rights_allowed s.kind)) h in
    let q = and_parts (nat_le s.length 256) (within (bits s.rights) (rights_allowed s.kind)) p.1 in
    let least : 0 < s.length = ltb-true 0 s.length p.0 in
    let most : s.length ≤ 256 = leb-true s.length 256 q.0 in
    record {
      least = le-leb 1 s.length (omega arith);
      most = q.0;
      length_small = omega arith;
      rights_small = within_small (bits s.rights) (rights_allowed s.kind) q.1 (allowed_small s.kind);
    }

slot_array_line_said : (v : Version) (s : SlotArray) → is_slot_in_range s ≡ true
    → line_of v (words_of (slot_array_line s)) ≡ Some (Declares (directive.Slots s))
unfolding line_of directive_of is_word
slot_array_line_said v s h =
    let r = slot_ranges s h in
    ap (line_of v)
    (four_words (codes ".slots") (kind_text s.kind) (decimal s.length) (decimal (bits s.rights)) refl (plain_kind s.kind)
    (plain-decimal s.length r.length_small) (plain-decimal (bits s.rights) r.rights_small))
    ∙ rw (kind_again s.kind, number_of-decimal s.length r.length_small, r.least, r.most, number_of-decimal (bits s.rights) r.rights_small, h) refl

pub slots_said : (v : Version) (slots : List SlotArray) → list_all is_slot_in_range slots ≡ true
    → Say v (map (λ s. codes ".slots " ++ (kind_text s.kind ++ (codes " " ++ (decimal s.length ++ (codes " " ++ decimal (bits s.rights)))))) slots)
    (map (λ s. Declares (directive.Slots s)) slots)
slots_said v [] h = says_nothing v
slots_said v (s ∷ slots) h =
    let p = and_parts (is_slot_in_range s) (list_all is_slot_in_range slots) h in
    let r = slot_ranges s p.0 in
    says_line v (slot_array_line s) (map slot_array_line slots) (Declares (directive.Slots s)) (map (λ s. Declares (directive.Slots s)) slots)
    (printed_rights s.kind (decimal s.length ++ (codes " " ++ decimal (bits s.rights)))
    (printed-append (decimal s.length) (codes " " ++ decimal (bits s.rights)) (printed-decimal s.length r.length_small)
    (printed-decimal (bits s.rights) r.rights_small)))
    (slot_array_line_said v s p.0) (slots_said v slots p.1)
