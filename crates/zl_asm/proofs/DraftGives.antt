-- From what a draft holds to the fields of an image.
use Rattle.zl_asm.proofs.Common.{Bool, Gives, GivesNone, Held, Image, Instr, IsBytes, IsCodeOf, IsHeldOf, Line, List, Listing, None, Option, Pushes, Resolves}
use Rattle.zl_asm.proofs.Common.{Some, Source, SourceLine, [], all_of, and_from, ap, append_assoc, are_in_order, arith, at_drop_more, budget_in, bytes_of}
use Rattle.zl_asm.proofs.Common.{bytes_of-number_at, cond, drop, false, fields_of, flat_map, get_or, get_or-map, given, if_fits, instr_bytes, is_fine}
use Rattle.zl_asm.proofs.Common.{is_in_range, is_instr_in_range, is_listing, keep_blocks, kept_value, labels_from, labels_shown, le-leb, length, length-append}
use Rattle.zl_asm.proofs.Common.{length-map, length-take, list_all, list_all-append, listing_from, listing_with, lookup, map, map-append, mark_in, memory_in}
use Rattle.zl_asm.proofs.Common.{names_once}
use Rattle.zl_asm.proofs.Common.{nested, number_at, option_map, ranges, refl, registers_at, resolved, slice_index, source_in, sources_shown, sym, take}
use Rattle.zl_asm.proofs.Common.{take-add}
use Rattle.zl_asm.proofs.Common.{take_all, take_more, then_with, true, with_target, ℕ, ◌&&◌, ◌++◌, ◌+◌, ◌<◌, ◌∙◌, ◌∷◌, ◌≡◌, ◌≤◌}
use denote.Ref.{Bor}
use Rattle.std.proofs.lemmas.Bool.{cond_both}
use Rattle.std.proofs.lemmas.List.{take-append-drop}
use Rattle.zl_code.proofs.BlockBytes.{blocks_again}
use Rattle.zl_code.specs.Blocks.{are_blocks, marks_of}
use Rattle.zl_code.specs.Jumps.{jump_of}
use Rattle.zl_asm.specs.Paired.{joined_code}
use Rattle.zl_asm.proofs.PairedCode.{joined_in_range, paired_bytes}
use Rattle.zl_asm.proofs.RoundWhole.{all_instr, no_faults}
use Rattle.zl_asm.proofs.Labels.{same, lookup_is}
use Rattle.zl_asm.proofs.DraftHolds.{given_is}
use Rattle.zl_asm.proofs.ListingRefused.{all_of-length, all_of-more, none_by_fields, not_listing}

-- ---- the target of a source

pub resolved_by : (labels : List (Bor (List ℕ) × ℕ)) (bytes : List ℕ) (name : Bor (List ℕ)) (o : Option ℕ) → lookup (λ k. same name.now k.now) labels ≡ o
    → resolved (labels_shown labels) (record { bytes = bytes; label = Some name.now }) ≡ option_map (with_target bytes) o
resolved_by labels bytes name o found = rw (sym (lookup_is labels name.now), found) refl

-- the parts with another target are the bytes with that target
pub retargeted : (bytes : List ℕ) (target : ℕ) → length bytes ≡ 16 → IsBytes bytes
    → slice_index bytes 0 ∷ (registers_at bytes ++ (bytes_of 4 (number_at bytes 8 4) ++ bytes_of 4 target)) ≡ with_target bytes target
retargeted [] target len h = absurd (omega arith)
retargeted (b ∷ bs) target len h =
    let imm : bytes_of 4 (number_at (b ∷ bs) 8 4) ≡ take 4 (drop 7 bs) = bytes_of-number_at (b ∷ bs) 8 4 (omega arith) h in
    (λ i. b ∷ (take 7 bs ++ (imm i ++ bytes_of 4 target)))
    ∙ ap (λ (x : List ℕ). b ∷ x)
    (sym (append_assoc (take 7 bs) (take 4 (drop 7 bs)) (bytes_of 4 target)) ∙ ap (λ (x : List ℕ). x ++ bytes_of 4 target) (sym (take-add 7 4 bs)))

-- ---- the instructions so far

pub resolves_none : (h : Held) → Resolves h []
unfolding all_of
resolves_none h = record { bytes = refl; in_range = refl }

pub resolves_one : (h : Held) (code new : List Instr) (s : Source) → Resolves h code → length code < length h.sources → s ≡ get_or h.sources (length code) s
    → Pushes h.image.version h.image.raw code (resolved h.labels s) new → Resolves h new
resolves_one h code new s r below at p =
    let count : length new ≡ length code + 1 = omega (arith, ap length p.3, length-append code (p.0 ∷ [])) in
    let shown : map instr_bytes new ≡ map instr_bytes code ++ instr_bytes p.0 ∷ [] =
    ap (map instr_bytes) p.3 ∙ map-append instr_bytes code (p.0 ∷ []) in
    let front : take (length new) h.sources ≡ take (length code) h.sources ++ s ∷ [] =
    ap (λ (n : ℕ). take n h.sources) count ∙ take_more h.sources (length code) s below
    ∙ ap (λ (x : Source). take (length code) h.sources ++ x ∷ []) (sym at) in
    record {
      bytes = ap (all_of (resolved h.labels)) front
          ∙ all_of-more (resolved h.labels) (take (length code) h.sources) (map instr_bytes code) s (instr_bytes p.0) r.bytes p.1 ∙ ap Some (sym shown);
      in_range = ap (list_all (is_instr_in_range h.image.version h.image.raw)) p.3
          ∙ list_all-append (is_instr_in_range h.image.version h.image.raw) code (p.0 ∷ []) ∙ and_from _ _ r.in_range (and_from _ _ p.2 refl);
    }

pub resolves_few : (h : Held) (code : List Instr) → Resolves h code → length code ≤ length h.sources
resolves_few h code r =
    let made = all_of-length (resolved h.labels) (take (length code) h.sources) (map instr_bytes code) r.bytes in
    omega (arith, length-map code instr_bytes, length-take (length code) h.sources)

pub resolves_all : (h : Held) (code : List Instr) → Resolves h code → length h.sources ≤ length code → IsCodeOf h code
resolves_all h code r all = record {
  bytes = ap (all_of (resolved h.labels)) (sym (take_all (length code) h.sources all)) ∙ r.bytes;
  in_range = r.in_range;
}

-- ---- sources that stop

-- the sources before this one, and behind it
pub split_at : (xs : List Source) (n : ℕ) (s : Source) → n < length xs → s ≡ get_or xs n s → xs ≡ take n xs ++ s ∷ drop (n + 1) xs
split_at xs n s below at =
    sym (take-append-drop n xs) ∙ at_drop_more (λ (l : List Source). take n xs ++ l) xs n s below
    ∙ ap (λ (x : Source). take n xs ++ x ∷ drop (n + 1) xs) (sym at)

pub none_unfit : (h : Held) (front rest : List Source) (s : Source) → h.sources ≡ front ++ s ∷ rest
    → is_fine h.image.version h.image.raw (resolved h.labels s) ≡ false
    → GivesNone h
none_unfit h front rest s split unfit = λ said k. none_by_fields said (λ raw memory budget code m n b c.
    let mark : given (flat_map mark_in said) false ≡ Some h.image.raw = given_is h.image.raw h.image.raw false _ k.mark in
    let same : raw ≡ h.image.raw = cc in
    let whole : all_of (resolved h.labels) (front ++ s ∷ rest) ≡ Some code =
    ap (all_of (resolved h.labels)) (sym split) ∙ (λ j. all_of (resolved (k.labels j)) (k.sources j)) ∙ c in
    not_listing (resolved h.labels) front rest s said raw memory budget code whole (rw (same, ← k.version) unfit))

-- ---- the image

-- the fields of a draft with this code
abbrev draft_fields : Held → List Instr → Listing
draft_fields h code = record (fields_of h.image) { code = map instr_bytes code }

-- what the lines give, before the blocks of their code are paired
given_fields : (h : Held) (code : List Instr) (said : List Line) → IsCodeOf h code → IsHeldOf said h
    → listing_with said (given (flat_map mark_in said) false) (given (flat_map memory_in said) 0) (given (flat_map budget_in said) 1)
    (all_of (resolved (labels_from 0 said)) (flat_map source_in said)) ≡ Some (draft_fields h code)
given_fields h code said r k =
    let mark : given (flat_map mark_in said) false ≡ Some h.image.raw = given_is h.image.raw h.image.raw false _ k.mark in
    let memory : given (flat_map memory_in said) 0 ≡ Some h.image.memory = given_is h.has_memory h.image.memory 0 _ k.memory in
    let budget : given (flat_map budget_in said) 1 ≡ Some h.image.budget = given_is h.has_budget h.image.budget 1 _ k.budget in
    let whole : all_of (resolved (labels_from 0 said)) (flat_map source_in said) ≡ Some (map instr_bytes code) =
    (λ j. all_of (resolved (sym k.labels j)) (sym k.sources j)) ∙ r.bytes in
    (λ j. listing_with said (mark j) (memory j) (budget j) (whole j))
    ∙ (λ j. Some (record (draft_fields h code) { version = sym k.version j; needs = sym k.needs j; starts = sym k.starts j; slots = sym k.slots j }))

-- and with its blocks
nested_is : (h : Held) (code : List Instr) → IsCodeOf h code → length code ≤ 4096 → nested (draft_fields h code)
    ≡ cond (are_blocks (marks_of (joined_code code)) (map jump_of (joined_code code))) (Some (draft_fields h (joined_code code))) None
nested_is h code r few =
    let v = h.image.version in
    let bytes = paired_bytes v h.image.raw code r.in_range in
    ap (λ (c : List (List ℕ)). if_fits (λ m. keep_blocks m.version m.code) (Some (record (draft_fields h code) { code = c }))) bytes
    ∙ ap (λ (b : Bool). cond b (Some (draft_fields h (joined_code code))) None) (blocks_again v h.image.raw (joined_code code)
    (joined_in_range v h.image.raw code few r.in_range))

pub gives_none : (h : Held) (code : List Instr) → IsCodeOf h code → length code ≤ 4096
    → are_blocks (marks_of (joined_code code)) (map jump_of (joined_code code)) ≡ false → GivesNone h
unfolding listing_from
gives_none h code r few broken = λ said k.
    let none : nested (draft_fields h code) ≡ None = nested_is h code r few ∙ rw broken refl in
    rw (given_fields h code said r k)
    (cond_both (are_in_order said && names_once (labels_from 0 said)) _ None (λ o. o ≡ None)
    (λ _. cond_both (is_listing (draft_fields h code)) (Some (draft_fields h code)) None (λ o. then_with o nested ≡ None) (λ _. none) (λ _. refl)) (λ _. refl))

pub gives_image : (h : Held) (code : List Instr) (i : Image) → IsCodeOf h code → length code ≤ 4096
    → are_blocks (marks_of (joined_code code)) (map jump_of (joined_code code)) ≡ true → i ≡ record h.image { code = joined_code code }
    → is_in_range i ≡ true → Gives h i
unfolding listing_from
gives_image h code i r few keeps same in_range = λ said k.
    let v = h.image.version in
    let range = ranges (record h.image { code = joined_code code }) (sym (ap is_in_range same) ∙ in_range) in
    let count : length (map instr_bytes code) ≤ 4096 = omega (arith, length-map code instr_bytes) in
    let fine = no_faults v h.image.raw (map instr_bytes code) (all_instr v h.image.raw code r.in_range) in
    let sound : is_listing (draft_fields h code) ≡ true =
    and_from _ _ (le-leb _ 7 range.starts_count) (and_from _ _ (le-leb _ 8 range.slots_count) (and_from _ _ (le-leb _ 4096 count) fine)) in
    rw (k.order, k.once, given_fields h code said r k, sound) (nested_is h code r few ∙ rw keeps (ap (λ (x : Image). Some (fields_of x)) (sym same)))

-- ---- the source of a number

record IsAt (h : Held) (n : ℕ) (s : Source) : Type 0 where
  below : n < length h.sources
  same : s ≡ get_or h.sources n s

is_at : (h : Held) (ss : List SourceLine) (n : ℕ) (e : SourceLine) → h.sources ≡ sources_shown ss → n < length ss → e ≡ get_or ss n e
    → IsAt h n (kept_value e.kept)
is_at h ss n e shown below same = record {
  below = omega (arith, ap length shown, length-map ss (λ (s : SourceLine). kept_value s.kept));
  same = ap (λ (x : SourceLine). kept_value x.kept) same ∙ sym (get_or-map (λ (s : SourceLine). kept_value s.kept) ss n e (kept_value e.kept) below)
      ∙ ap (λ (l : List Source). get_or l n (kept_value e.kept)) (sym shown);
}

pub unfit_at : (h : Held) (ss : List SourceLine) (n : ℕ) (e : SourceLine) → h.sources ≡ sources_shown ss → n < length ss → e ≡ get_or ss n e
    → is_fine h.image.version h.image.raw (resolved h.labels (kept_value e.kept)) ≡ false → GivesNone h
unfit_at h ss n e shown below same unfit =
    let at = is_at h ss n e shown below same in
    none_unfit h _ _ (kept_value e.kept) (split_at h.sources n (kept_value e.kept) at.below at.same) unfit

pub resolves_at : (h : Held) (ss : List SourceLine) (n : ℕ) (e : SourceLine) (code new : List Instr) → h.sources ≡ sources_shown ss → n < length ss
    → e ≡ get_or ss n e → n ≡ length code → Resolves h code
    → Pushes h.image.version h.image.raw code (resolved h.labels (kept_value e.kept)) new → Resolves h new
resolves_at h ss n e code new shown below same count r p =
    let at = is_at h ss n e shown below same in
    let under : length code < length h.sources = omega (arith, at.below) in
    resolves_one h code new (kept_value e.kept) r under (at.same ∙ ap (λ (k : ℕ). get_or h.sources k (kept_value e.kept)) count) p
