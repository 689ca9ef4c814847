-- Which lines a draft refuses.
use Rattle.zl_asm.proofs.Common.{Bool, Code, Declares, Directive, Held, Label, List, None, Refuses, SlotArray, Source, Start, Version, [], ap, false}
use Rattle.zl_asm.proofs.Common.{instr_fault}
use Rattle.zl_asm.proofs.Common.{is_some, length, position_of, subst, sym, true, ℕ, ◌∙◌, ◌∷◌, ◌≡◌, ◌≤◌}
use Rattle.zl_asm.specs.declared.directive.Directive.TheVariants as directive
use Rattle.zl_asm.proofs.DraftHolds.{one_given, given_is}
use Rattle.zl_asm.proofs.ListingRefused.{refused_behind, refused_version, refused_mark, refused_memory, refused_budget, refused_start}
use Rattle.zl_asm.proofs.ListingRefused.{refused_slots, refused_label, refused_count, refused_fault}

-- a directive behind a label or an instruction
pub behind_refused : (d : Held) (x : Directive) → d.has_body ≡ true → Refuses d (Declares x)
behind_refused d x e = λ said h rest. refused_behind said rest x (sym h.body ∙ e)

-- the version behind a line that says something
pub version_refused : (d : Held) → d.has_begun ≡ true → Refuses d (Declares directive.VersionTwo)
version_refused d e = λ said h rest. refused_version said rest (sym h.some ∙ e)

pub mark_refused : (d : Held) → d.image.raw ≡ true → Refuses d (Declares directive.Raw)
mark_refused d e = λ said h rest. refused_mark said rest (one_given d.image.raw d.image.raw false _ e h.mark ∙ ap (λ (b : Bool). b ∷ []) e)

pub memory_refused : (d : Held) (n : ℕ) → d.has_memory ≡ true → Refuses d (Declares (directive.Memory n))
memory_refused d n e = λ said h rest. refused_memory said rest d.image.memory n (one_given d.has_memory d.image.memory 0 _ e h.memory)

pub budget_refused : (d : Held) (n : ℕ) → d.has_budget ≡ true → Refuses d (Declares (directive.Budget n))
budget_refused d n e = λ said h rest. refused_budget said rest d.image.budget n (one_given d.has_budget d.image.budget 1 _ e h.budget)

pub start_refused : (d : Held) (s : Start) → 7 ≤ length d.image.starts → Refuses d (Declares (directive.Start s))
start_refused d s many = λ said h rest. refused_start said rest s (subst (λ (l : List Start). 7 ≤ length l) h.starts many)

pub slot_array_refused : (d : Held) (s : SlotArray) → 8 ≤ length d.image.slots → Refuses d (Declares (directive.Slots s))
slot_array_refused d s many = λ said h rest. refused_slots said rest s (subst (λ (l : List SlotArray). 8 ≤ length l) h.slots many)

pub label_refused : (d : Held) (name : List ℕ) → is_some (position_of d.labels name) ≡ true → Refuses d (Label name)
label_refused d name there = λ said h rest. refused_label said rest name (subst (λ (l : List (List ℕ × ℕ)). is_some (position_of l name) ≡ true) h.labels there)

pub count_refused : (d : Held) (s : Source) → 4096 ≤ length d.sources → Refuses d (Code s)
count_refused d s many = λ said h rest. refused_count said rest s (subst (λ (l : List Source). 4096 ≤ length l) h.sources many)

pub fault_refused : (d : Held) (s : Source) → s.label ≡ None → is_some (instr_fault d.image.version d.image.raw s.bytes) ≡ true
    → Refuses d (Code s)
fault_refused d s alone fault = λ said h rest.
    refused_fault said rest s d.image.raw alone (given_is d.image.raw d.image.raw false _ h.mark)
    (subst (λ (v : Version). is_some (instr_fault v d.image.raw s.bytes) ≡ true) h.version fault)
