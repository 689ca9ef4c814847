-- The text of an image, piece by piece.
use Rattle.zl_asm.proofs.Common.{Bool, Condition, Image, IsTrue, List, SlotArray, Start, TargetsAre, Version, [], aims_at, ap, append-nil, append_assoc, arith}
use Rattle.zl_asm.proofs.Common.{at_drop_more, bits, can_be_needed, code_lines, code_lines_from, codes, cond, condition_name, decimal, directive_lines}
use Rattle.zl_asm.proofs.Common.{directives_text, drop, ended, false, fields_text, filter, flat_map, flat_map-append, get_or, instr_bytes, instr_text, is_among}
use Rattle.zl_asm.proofs.Common.{is_in_range, is_target, kind_text, label_lines, label_text, length, line_text, list_any, map, need_text, needs_named}
use Rattle.zl_asm.proofs.Common.{needs_named-needs, needs_text, ranges, refl, slot_array_text, start_text, suc, sym, take, take_more, text_of, true}
use Rattle.zl_asm.proofs.Common.{version_lines, ℕ, ◌++◌, ◌+◌, ◌<◌, ◌||◌, ◌∙◌, ◌∷◌, ◌≡◌}
use Rattle.zl_rights.specs.declared.policy.Condition.TheVariants as condition
use Rattle.zl_asm.specs.Pieces.{need_if_among}
use Rattle.std.proofs.Math.Bool.{or-false}
use Rattle.std.proofs.lemmas.List.Folds.{list_any-append}

-- ---- instructions

label_ended : (n : ℕ) (is_target : Bool) → ended (cond is_target ((label_text n ++ codes ":") ∷ []) []) ≡ cond is_target (label_text n ++ codes ":\n") []
label_ended n true = append-nil ((label_text n ++ codes ":") ++ codes "\n") ∙ append_assoc (label_text n) (codes ":") (codes "\n")
label_ended n false = refl

-- the next instruction, and the others
next_line : (v : Version) (code : List (List ℕ)) (n : ℕ) (bytes : List ℕ) (rest : List (List ℕ))
    → ended (code_lines_from v code n (bytes ∷ rest)) ≡ line_text v (length code) n (is_target v code n) bytes ++ ended (code_lines_from v code (suc n) rest)
unfolding code_lines_from
next_line v code n bytes rest =
    let line = instr_text v (length code) bytes in
    let others = ended (code_lines_from v code (suc n) rest) in
    flat_map-append (λ l. l ++ codes "\n") (label_lines v code n) (line ∷ code_lines_from v code (suc n) rest)
    ∙ ap (λ (x : List ℕ). x ++ ((line ++ codes "\n") ++ others)) (label_ended n (is_target v code n))
    ∙ sym (append_assoc (cond (is_target v code n) (label_text n ++ codes ":\n") []) (line ++ codes "\n") others)

module _ (v : Version) (code : List (List ℕ)) (i : ℕ) (d : List ℕ) (within : i < length code) where
  -- one more line was written
  pub line_written : (start text new : List ℕ) → text ++ ended (code_lines_from v code i (drop i code)) ≡ start
      → new ≡ text ++ line_text v (length code) i (is_target v code i) (get_or code i d)
      → new ++ ended (code_lines_from v code (i + 1) (drop (i + 1) code)) ≡ start
  line_written start text new before written =
      let here : code_lines_from v code i (drop i code) ≡ code_lines_from v code i (get_or code i d ∷ drop (i + 1) code) =
      at_drop_more (code_lines_from v code i) code i d within in
      let step : i + 1 ≡ suc i = omega arith in
      ap (λ (x : List ℕ). x ++ ended (code_lines_from v code (i + 1) (drop (i + 1) code))) written
      ∙ append_assoc text (line_text v (length code) i (is_target v code i) (get_or code i d)) (ended (code_lines_from v code (i + 1) (drop (i + 1) code)))
      ∙ (λ k. text ++ (line_text v (length code) i (is_target v code i) (get_or code i d) ++ ended (code_lines_from v code (step k) (drop (i + 1) code))))
      ∙ ap (λ (x : List ℕ). text ++ x) (sym (next_line v code i (get_or code i d) (drop (i + 1) code)) ∙ ap ended (sym here))
      ∙ before

-- ---- targets

any_more : (p : List ℕ → Bool) (xs : List (List ℕ)) (x : List ℕ) → list_any p (xs ++ (x ∷ [])) ≡ (list_any p xs || p x)
any_more p xs x = list_any-append p xs (x ∷ []) ∙ ap (λ (b : Bool). list_any p xs || b) (or-false (p x))

-- one more instruction was looked at
pub targets_more : (v : Version) (old new : List Bool) (code : List (List ℕ)) (count i : ℕ) (d : List ℕ) → i < length code
    → TargetsAre v old (take i code) count
    → length new ≡ length old
    → ((n : ℕ) → n < length old → get_or new n false ≡ (get_or old n false || aims_at v n (get_or code i d))) → TargetsAre v new (take (i + 1) code) count
targets_more v old new code count i d within before len each = record {
  len = len ∙ before.len;
  each = λ n below.
      each n (omega (arith, before.len)) ∙ ap (λ (b : Bool). b || aims_at v n (get_or code i d)) (before.each n below)
      ∙ sym (ap (λ (xs : List (List ℕ)). is_target v xs n) (take_more code i d within) ∙ any_more (aims_at v n) (take i code) (get_or code i d));
}

-- ---- directives

mapped_ended : {X : Type 0} (line text : X → List ℕ) → ((x : X) → line x ++ codes "\n" ≡ text x) → (xs : List X) → ended (map line xs) ≡ flat_map text xs
mapped_ended line text same [] = refl
mapped_ended line text same (x ∷ xs) = λ k. same x k ++ mapped_ended line text same xs k

need_ended : (c : Condition) → (codes ".need " ++ condition_name c) ++ codes "\n" ≡ need_text c
need_ended c = append_assoc (codes ".need ") (condition_name c) (codes "\n")

start_ended : (s : Start) → (codes ".start " ++ (kind_text s.kind ++ (codes " " ++ decimal (bits s.rights)))) ++ codes "\n" ≡ start_text s
start_ended s =
    append_assoc (codes ".start ") (kind_text s.kind ++ (codes " " ++ decimal (bits s.rights))) (codes "\n")
    ∙ ap (λ (x : List ℕ). codes ".start " ++ x) (append_assoc (kind_text s.kind) (codes " " ++ decimal (bits s.rights)) (codes "\n")
    ∙ ap (λ (x : List ℕ). kind_text s.kind ++ x) (append_assoc (codes " ") (decimal (bits s.rights)) (codes "\n")))

slot_array_ended : (s : SlotArray)
    → (codes ".slots " ++ (kind_text s.kind ++ (codes " " ++ (decimal s.length ++ (codes " " ++ decimal (bits s.rights)))))) ++ codes "\n" ≡ slot_array_text s
slot_array_ended s =
    let rights = decimal (bits s.rights) in
    append_assoc (codes ".slots ") (kind_text s.kind ++ (codes " " ++ (decimal s.length ++ (codes " " ++ rights)))) (codes "\n")
    ∙ ap (λ (x : List ℕ). codes ".slots " ++ x) (append_assoc (kind_text s.kind) (codes " " ++ (decimal s.length ++ (codes " " ++ rights))) (codes "\n")
    ∙ ap (λ (x : List ℕ). kind_text s.kind ++ x) (append_assoc (codes " ") (decimal s.length ++ (codes " " ++ rights)) (codes "\n")
    ∙ ap (λ (x : List ℕ). codes " " ++ x) (append_assoc (decimal s.length) (codes " " ++ rights) (codes "\n")
    ∙ ap (λ (x : List ℕ). decimal s.length ++ x) (append_assoc (codes " ") rights (codes "\n")))))

-- the lines of the needs that are among some
filtered_needs : (needs cs : List Condition) → flat_map need_text (filter (λ c. is_among needs c) cs) ≡ flat_map (need_if_among needs) cs
filtered_needs needs [] = refl
filtered_needs needs (c ∷ cs) = by (is_among needs c) (filtered_needs needs cs)
  where
    by : (b : Bool) → flat_map need_text (filter (λ x. is_among needs x) cs) ≡ flat_map (need_if_among needs) cs
        → flat_map need_text (cond b (c ∷ filter (λ x. is_among needs x) cs) (filter (λ x. is_among needs x) cs))
        ≡ cond b (need_text c) [] ++ flat_map (need_if_among needs) cs
    by true rest = ap (λ (x : List ℕ). need_text c ++ x) rest
    by false rest = rest

needs_ended : (needs : List Condition) → needs_named needs ≡ needs → ended (map (λ c. codes ".need " ++ condition_name c) needs) ≡ needs_text needs
needs_ended needs same =
    mapped_ended (λ c. codes ".need " ++ condition_name c) need_text need_ended needs ∙ ap (flat_map need_text) (sym same) ∙ filtered_needs needs can_be_needed
    ∙ (λ i. need_if_among needs condition.NewChannel ++ (need_if_among needs condition.NewEvent ++ (need_if_among needs condition.NewEventpair
    ++ (need_if_among needs condition.NewPort ++ append-nil (need_if_among needs condition.NewProcess) i))))

both_ended : (front back : List (List ℕ)) → ended (front ++ back) ≡ ended front ++ ended back
both_ended front back = flat_map-append (λ line. line ++ codes "\n") front back

numbers_ended : (memory budget rest : List ℕ) → ((codes ".memory " ++ memory) ++ codes "\n") ++ (((codes ".budget " ++ budget) ++ codes "\n") ++ rest)
    ≡ (codes ".memory " ++ (memory ++ (codes "\n.budget " ++ (budget ++ codes "\n")))) ++ rest
numbers_ended memory budget rest =
    append_assoc (codes ".memory " ++ memory) (codes "\n") (((codes ".budget " ++ budget) ++ codes "\n") ++ rest)
    ∙ append_assoc (codes ".memory ") memory (codes "\n" ++ (((codes ".budget " ++ budget) ++ codes "\n") ++ rest))
    ∙ ap (λ (x : List ℕ). codes ".memory " ++ (memory ++ (codes "\n" ++ x))) (append_assoc (codes ".budget " ++ budget) (codes "\n") rest
    ∙ append_assoc (codes ".budget ") budget (codes "\n" ++ rest) ∙ ap (λ (x : List ℕ). codes ".budget " ++ x) (sym (append_assoc budget (codes "\n") rest)))
    ∙ sym (ap (λ (x : List ℕ). codes ".memory " ++ x) (append_assoc memory (codes "\n.budget " ++ (budget ++ codes "\n")) rest))

fields_ended : (raw : Bool) (memory budget rest : List ℕ)
    → ended (cond raw (codes ".raw" ∷ []) []) ++ (((codes ".memory " ++ memory) ++ codes "\n") ++ (((codes ".budget " ++ budget) ++ codes "\n") ++ rest))
    ≡ (cond raw (codes ".raw\n") [] ++ (codes ".memory " ++ (memory ++ (codes "\n.budget " ++ (budget ++ codes "\n"))))) ++ rest
fields_ended true memory budget rest = ap (λ (x : List ℕ). codes ".raw\n" ++ x) (numbers_ended memory budget rest)
fields_ended false memory budget rest = numbers_ended memory budget rest

pub directives_ended : (i : Image) → needs_named i.needs ≡ i.needs → ended (directive_lines i) ≡ directives_text i
directives_ended i same =
    let needs = map (λ c. codes ".need " ++ condition_name c) i.needs in
    let starts = map (λ s. codes ".start " ++ (kind_text s.kind ++ (codes " " ++ decimal (bits s.rights)))) i.starts in
    let slots = map (λ s. codes ".slots " ++ (kind_text s.kind ++ (codes " " ++ (decimal s.length ++ (codes " " ++ decimal (bits s.rights)))))) i.slots in
    let lists : ended (needs ++ (starts ++ slots)) ≡ needs_text i.needs ++ (flat_map start_text i.starts ++ flat_map slot_array_text i.slots) =
    both_ended needs (starts ++ slots)
    ∙ (λ k. needs_ended i.needs same k ++ both_ended starts slots k)
    ∙ (λ k. needs_text i.needs
    ++ (mapped_ended {X = Start} (λ s. codes ".start " ++ (kind_text s.kind ++ (codes " " ++ decimal (bits s.rights)))) start_text start_ended i.starts k
    ++ mapped_ended {X = SlotArray} (λ s. codes ".slots " ++ (kind_text s.kind ++ (codes " " ++ (decimal s.length ++ (codes " " ++ decimal (bits s.rights))))))
    slot_array_text slot_array_ended i.slots k)) in
    let numbers = (codes ".memory " ++ decimal i.memory) ∷ (codes ".budget " ++ decimal i.budget) ∷ (needs ++ (starts ++ slots)) in
    both_ended (version_lines i.version) (cond i.raw (codes ".raw" ∷ []) [] ++ numbers)
    ∙ ap (λ (x : List ℕ). ended (version_lines i.version) ++ x) (both_ended (cond i.raw (codes ".raw" ∷ []) []) numbers
    ∙ fields_ended i.raw (decimal i.memory) (decimal i.budget) (ended (needs ++ (starts ++ slots)))
    ∙ ap (λ (x : List ℕ). fields_text i.raw i.memory i.budget ++ x) lists)

-- the whole text
pub text_written : (i : Image) (first last : List ℕ) → needs_named i.needs ≡ i.needs → first ≡ [] ++ directives_text i
    → last ≡ first ++ ended (code_lines i.version (map instr_bytes i.code)) → last ≡ text_of i
unfolding text_of
text_written i first last same a b =
    b ∙ ap (λ (x : List ℕ). x ++ ended (code_lines i.version (map instr_bytes i.code))) (a ∙ sym (directives_ended i same))
    ∙ sym (both_ended (directive_lines i) (code_lines i.version (map instr_bytes i.code)))

-- the needs of an image in range are in their order
pub needs_in_range : (i : Image) → IsTrue (is_in_range i) → needs_named i.needs ≡ i.needs
needs_in_range i h = needs_named-needs i.needs (ranges i h).needs
