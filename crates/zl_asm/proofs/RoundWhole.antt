-- The text of an image denotes it.
use Rattle.zl_asm.proofs.Common.{bits, condition_name, if_fits, keep_blocks, kind_text, line_of, lines_from, nested, option_map, subst, sym, words_from}
use Rattle.zl_asm.proofs.Common.{Blank, Bool, Declares, Directive, EachTextDenotes, Image, Instr, Line, List, Ranges, Some, Version, [], all_of, and_from}
use Rattle.zl_asm.proofs.Common.{and_parts, ap, append-nil, append_assoc, arith, budget_in, code_lines, codes, decimal, declares, directive_lines, false}
use Rattle.zl_asm.proofs.Common.{fields_of, flat_map, flat_map-append, given, gives_version, if◌then◌else◌, instr_bytes, instr_fault, is_instr_in_range}
use Rattle.zl_asm.proofs.Common.{is_some, labels_from, le-leb, length, length-map, list_all, list_all-append, listing_of, map, mark_in, memory_in}
use Rattle.zl_asm.proofs.Common.{names_once, need_in, needs_named, needs_named-needs, none_behind, not, ranges, refl, resolved, says, slots_in, source_in}
use Rattle.zl_asm.proofs.Common.{start_in, text_of, true, version_in, version_lines, ℕ, ◌++◌, ◌∙◌, ◌∷◌, ◌≡◌, ◌≤◌}
use Rattle.zl_code.proofs.InstrFacts.{instr_bytes-no_fault, length-instr_bytes, IsBytes-instr_bytes}
use Rattle.zl_asm.specs.declared.directive.Directive.TheVariants as directive
use Rattle.zl_code.specs.declared.image.Version.TheVariants as version
use Rattle.zl_asm.proofs.RoundLines.{Say, is_printed, says_nothing, says_line, says_both, listing_of-lines, read_on}
use Rattle.zl_asm.proofs.RoundDirectives.{version_said, mark_said, memory_said, budget_said, printed-decimal, needs_said, starts_said, slots_said}
use Rattle.zl_asm.proofs.RoundInstr.{source_said}
use Rattle.zl_asm.proofs.RoundLabels.{AllInstr, code_said_from, labels_of, labels_from-code, once, code_resolved}
use Rattle.zl_asm.proofs.RoundBody.{code_says}
use Rattle.zl_code.proofs.BlockBytes.{blocks_again}
use Rattle.zl_code.proofs.Nested.{all_nested}
use Rattle.zl_asm.proofs.PairedCode.{paired_bytes}
use Rattle.zl_asm.proofs.RoundPaired.{all_erased, erased_again, erased_instr, untargeted_code}
use Rattle.zl_asm.proofs.RoundListing.{Give, listing_by, declared_in_order, none_later, labels_behind, all_pass, body_passes}
use Rattle.zl_asm.proofs.RoundListing.{skipped, kept, none_in_body, sources_in_body}

-- what the directives of an image say
abbrev versions : Version → List Line
versions version.One = []
versions version.Two = Declares directive.VersionTwo ∷ []

abbrev marks : Bool → List Line
marks raw = if raw then Declares directive.Raw ∷ [] else []

abbrev others_said : Image → List Line
others_said i =
    marks i.raw ++ ((Declares (directive.Memory i.memory) ∷ []) ++ ((Declares (directive.Budget i.budget) ∷ [])
    ++ (map (λ c. Declares (directive.Need c)) i.needs
    ++ (map (λ s. Declares (directive.Start s)) i.starts ++ map (λ s. Declares (directive.Slots s)) i.slots))))

abbrev directives_said : Image → List Line
directives_said i = versions i.version ++ others_said i

-- the lines of the other directives
abbrev other_lines : Image → List (List ℕ)
other_lines i =
    (if i.raw then codes ".raw" ∷ [] else [])
    ++ (((codes ".memory " ++ decimal i.memory) ∷ [])
    ++ (((codes ".budget " ++ decimal i.budget) ∷ [])
    ++ (map (λ c. codes ".need " ++ condition_name c) i.needs
    ++ (map (λ s. codes ".start " ++ (kind_text s.kind ++ (codes " " ++ decimal (bits s.rights)))) i.starts
    ++ map (λ s. codes ".slots " ++ (kind_text s.kind ++ (codes " " ++ (decimal s.length ++ (codes " " ++ decimal (bits s.rights)))))) i.slots))))

others_say : (v : Version) (i : Image) → Ranges i → Say v (other_lines i) (others_said i)
others_say v i r =
    let lt = r.least in
    let le = r.most in
    let few = r.memory in
    let one_memory = says_line v (codes ".memory " ++ decimal i.memory) [] (Declares (directive.Memory i.memory)) [] (printed-decimal i.memory (omega arith))
    (memory_said v i.memory r.memory) (says_nothing v) in
    let one_budget = says_line v (codes ".budget " ++ decimal i.budget) [] (Declares (directive.Budget i.budget)) [] (printed-decimal i.budget (omega arith))
    (budget_said v i.budget r.least r.most) (says_nothing v) in
    says_both v _ _ _ _ (by i.raw)
    (says_both v _ _ _ _ one_memory
    (says_both v _ _ _ _ one_budget
    (says_both v _ _ _ _ (needs_said v i.needs r.needs) (says_both v _ _ _ _ (starts_said v i.starts r.starts) (slots_said v i.slots r.slots)))))
  where
    by : (raw : Bool) → Say v (if raw then codes ".raw" ∷ [] else []) (marks raw)
    by true = says_line v (codes ".raw") [] (Declares directive.Raw) [] refl (mark_said v) (says_nothing v)
    by false = says_nothing v

-- a test that all other directives pass than the version
others_pass : (test : Line → Bool) → ((d : Directive) → gives_version (Declares d) ≡ false → test (Declares d) ≡ true) → (i : Image)
    → list_all test (others_said i) ≡ true
others_pass test pass i =
    list_all-append test (marks i.raw) _ ∙ and_from _ _ (mark_passes i.raw) (and_from _ _ (pass (directive.Memory i.memory) refl)
    (and_from _ _ (pass (directive.Budget i.budget) refl) (list_all-append test (map (λ c. Declares (directive.Need c)) i.needs) _
    ∙ and_from _ _ (all_pass test (λ c. directive.Need c) (λ c. pass (directive.Need c) refl) i.needs)
    (list_all-append test (map (λ s. Declares (directive.Start s)) i.starts) _
    ∙ and_from _ _ (all_pass test (λ s. directive.Start s) (λ s. pass (directive.Start s) refl) i.starts)
    (all_pass test (λ s. directive.Slots s) (λ s. pass (directive.Slots s) refl) i.slots)))))
  where
    mark_passes : (raw : Bool) → list_all test (marks raw) ≡ true
    mark_passes true = and_from _ _ (pass directive.Raw refl) refl
    mark_passes false = refl

directives_declared : (i : Image) → list_all declares (directives_said i) ≡ true
directives_declared i = by i.version (others_pass declares (λ d e. refl) i)
  where
    by : (v : Version) → list_all declares (others_said i) ≡ true → list_all declares (versions v ++ others_said i) ≡ true
    by version.One h = h
    by version.Two h = h

-- ---- what stands in the lines

-- the lines of an image with this code, and the empty one behind the last line feed
abbrev lines_said_of : Image → List (List ℕ) → List Line
lines_said_of i code = directives_said i ++ (code_said_from i.version code 0 code ++ (Blank ∷ []))

-- the version is what the first line says, if it does
versioned : (v : Version) (others body : List Line) → list_all (λ l. not (gives_version l)) (others ++ body) ≡ true
    → (none_behind says gives_version ((versions v ++ others) ++ body) ≡ true) × (version_in ((versions v ++ others) ++ body) ≡ v)
unfolding none_behind
versioned version.One others body h = (none_later says gives_version (others ++ body) h, rw h refl)
versioned version.Two others body h = (h, refl)

-- none of the other lines does
none_gives : (i : Image) (code : List (List ℕ))
    → list_all (λ l. not (gives_version l)) (others_said i ++ (code_said_from i.version code 0 code ++ (Blank ∷ []))) ≡ true
none_gives i code =
    list_all-append _ (others_said i) _ ∙ and_from _ _ (others_pass (λ l. not (gives_version l)) (λ d e. rw e refl) i)
    (body_passes i.version (λ l. not (gives_version l)) (λ n. refl) (λ s. refl) refl code 0 code)

version_given : (i : Image) (code : List (List ℕ)) → (none_behind says gives_version (lines_said_of i code) ≡ true)
    × (version_in (lines_said_of i code) ≡ i.version)
version_given i code = versioned i.version (others_said i) _ (none_gives i code)

-- what stands in them, part by part
gathered : {A : Type 0} (f : Line → List A) (i : Image) (code : List (List ℕ)) (a d e g h : List A) → f (Declares directive.VersionTwo) ≡ []
    → flat_map f (marks i.raw) ≡ a
    → flat_map f (map (λ c. Declares (directive.Need c)) i.needs) ≡ d
    → flat_map f (map (λ s. Declares (directive.Start s)) i.starts) ≡ e → flat_map f (map (λ s. Declares (directive.Slots s)) i.slots) ≡ g
    → flat_map f (code_said_from i.version code 0 code) ≡ h → f Blank ≡ [] → flat_map f (lines_said_of i code)
    ≡ a ++ (f (Declares (directive.Memory i.memory)) ++ (f (Declares (directive.Budget i.budget)) ++ (d ++ (e ++ (g ++ h)))))
gathered f i code a d e g h unversioned mark needs starts slots body blank =
    let ns = map (λ c. Declares (directive.Need c)) i.needs in
    let ss = map (λ s. Declares (directive.Start s)) i.starts in
    let ls = map (λ s. Declares (directive.Slots s)) i.slots in
    let behind = code_said_from i.version code 0 code ++ (Blank ∷ []) in
    let at_body : flat_map f behind ≡ h = flat_map-append f (code_said_from i.version code 0 code) (Blank ∷ []) ∙ (λ k. body k ++ (blank k ++ []))
    ∙ append-nil h in
    let at_slots : flat_map f (ls ++ behind) ≡ g ++ h = flat_map-append f ls behind ∙ (λ k. slots k ++ at_body k) in
    let at_starts : flat_map f (ss ++ (ls ++ behind)) ≡ e ++ (g ++ h) = flat_map-append f ss (ls ++ behind) ∙ (λ k. starts k ++ at_slots k) in
    let at_needs : flat_map f (ns ++ (ss ++ (ls ++ behind))) ≡ d ++ (e ++ (g ++ h)) =
    flat_map-append f ns (ss ++ (ls ++ behind)) ∙ (λ k. needs k ++ at_starts k) in
    let m = Declares (directive.Memory i.memory) in
    let b = Declares (directive.Budget i.budget) in
    let regrouped : others_said i ++ behind ≡ marks i.raw ++ (m ∷ b ∷ (ns ++ (ss ++ (ls ++ behind)))) =
    append_assoc (marks i.raw) (m ∷ b ∷ (ns ++ (ss ++ ls))) behind
    ∙ ap (λ (xs : List Line). marks i.raw ++ (m ∷ b ∷ xs))
    (append_assoc ns (ss ++ ls) behind ∙ ap (λ (xs : List Line). ns ++ xs) (append_assoc ss ls behind)) in
    from i.version (others_said i) behind ∙ ap (flat_map f) regrouped ∙ flat_map-append f (marks i.raw) (m ∷ b ∷ (ns ++ (ss ++ (ls ++ behind))))
    ∙ (λ k. mark k ++ (f m ++ (f b ++ at_needs k)))
  where
    from : (v : Version) (others behind : List Line) → flat_map f ((versions v ++ others) ++ behind) ≡ flat_map f (others ++ behind)
    from version.One others behind = refl
    from version.Two others behind = ap (λ (xs : List _). xs ++ flat_map f (others ++ behind)) unversioned

no_mark : {A : Type 0} (f : Line → List A) → f (Declares directive.Raw) ≡ [] → (raw : Bool) → flat_map f (marks raw) ≡ []
no_mark f none true = ap (λ xs. xs ++ []) none
no_mark f none false = refl

raw_given : (i : Image) (code : List (List ℕ)) → given (flat_map mark_in (lines_said_of i code)) false ≡ Some i.raw
raw_given i code =
    ap (λ (xs : List Bool). given xs false)
    (gathered mark_in i code (flat_map mark_in (marks i.raw)) [] [] [] [] refl refl (skipped mark_in (λ c. directive.Need c) (λ c. refl) i.needs)
    (skipped mark_in (λ s. directive.Start s) (λ s. refl) i.starts) (skipped mark_in (λ s. directive.Slots s) (λ s. refl) i.slots)
    (none_in_body i.version mark_in (λ n. refl) (λ s. refl) code 0 code) refl)
    ∙ by i.raw
  where
    by : (raw : Bool) → given (flat_map mark_in (marks raw) ++ []) false ≡ Some raw
    by true = refl
    by false = refl

memory_given : (i : Image) (code : List (List ℕ)) → given (flat_map memory_in (lines_said_of i code)) 0 ≡ Some i.memory
memory_given i code =
    ap (λ (xs : List ℕ). given xs 0)
    (gathered memory_in i code [] [] [] [] [] refl (no_mark memory_in refl i.raw) (skipped memory_in (λ c. directive.Need c) (λ c. refl) i.needs)
    (skipped memory_in (λ s. directive.Start s) (λ s. refl) i.starts) (skipped memory_in (λ s. directive.Slots s) (λ s. refl) i.slots)
    (none_in_body i.version memory_in (λ n. refl) (λ s. refl) code 0 code) refl)

budget_given : (i : Image) (code : List (List ℕ)) → given (flat_map budget_in (lines_said_of i code)) 1 ≡ Some i.budget
budget_given i code =
    ap (λ (xs : List ℕ). given xs 1)
    (gathered budget_in i code [] [] [] [] [] refl (no_mark budget_in refl i.raw) (skipped budget_in (λ c. directive.Need c) (λ c. refl) i.needs)
    (skipped budget_in (λ s. directive.Start s) (λ s. refl) i.starts) (skipped budget_in (λ s. directive.Slots s) (λ s. refl) i.slots)
    (none_in_body i.version budget_in (λ n. refl) (λ s. refl) code 0 code) refl)

needs_given : (i : Image) (code : List (List ℕ)) → flat_map need_in (lines_said_of i code) ≡ i.needs
needs_given i code =
    gathered need_in i code [] i.needs [] [] [] refl (no_mark need_in refl i.raw) (kept need_in (λ c. directive.Need c) (λ c. refl) i.needs)
    (skipped need_in (λ s. directive.Start s) (λ s. refl) i.starts) (skipped need_in (λ s. directive.Slots s) (λ s. refl) i.slots)
    (none_in_body i.version need_in (λ n. refl) (λ s. refl) code 0 code) refl ∙ append-nil i.needs

starts_given : (i : Image) (code : List (List ℕ)) → flat_map start_in (lines_said_of i code) ≡ i.starts
starts_given i code =
    gathered start_in i code [] [] i.starts [] [] refl (no_mark start_in refl i.raw) (skipped start_in (λ c. directive.Need c) (λ c. refl) i.needs)
    (kept start_in (λ s. directive.Start s) (λ s. refl) i.starts) (skipped start_in (λ s. directive.Slots s) (λ s. refl) i.slots)
    (none_in_body i.version start_in (λ n. refl) (λ s. refl) code 0 code) refl ∙ append-nil i.starts

slots_given : (i : Image) (code : List (List ℕ)) → flat_map slots_in (lines_said_of i code) ≡ i.slots
slots_given i code =
    gathered slots_in i code [] [] [] i.slots [] refl (no_mark slots_in refl i.raw) (skipped slots_in (λ c. directive.Need c) (λ c. refl) i.needs)
    (skipped slots_in (λ s. directive.Start s) (λ s. refl) i.starts) (kept slots_in (λ s. directive.Slots s) (λ s. refl) i.slots)
    (none_in_body i.version slots_in (λ n. refl) (λ s. refl) code 0 code) refl ∙ append-nil i.slots

sources_given : (i : Image) (code : List (List ℕ)) → flat_map source_in (lines_said_of i code) ≡ map (source_said i.version (length code)) code
sources_given i code =
    gathered source_in i code [] [] [] [] (map (source_said i.version (length code)) code) refl (no_mark source_in refl i.raw)
    (skipped source_in (λ c. directive.Need c) (λ c. refl) i.needs) (skipped source_in (λ s. directive.Start s) (λ s. refl) i.starts)
    (skipped source_in (λ s. directive.Slots s) (λ s. refl) i.slots) (sources_in_body i.version code 0 code) refl

-- ---- the whole

pub all_instr : (v : Version) (raw : Bool) (code : List Instr) → list_all (is_instr_in_range v raw) code ≡ true → AllInstr v raw (map instr_bytes code)
all_instr v raw [] h = tt
all_instr v raw (x ∷ code) h =
    let p = and_parts (is_instr_in_range v raw x) (list_all (is_instr_in_range v raw) code) h in (
      record { len = length-instr_bytes v raw x p.0; fits = IsBytes-instr_bytes v raw x p.0; fault = instr_bytes-no_fault v raw x p.0 },
      all_instr v raw code p.1,
    )

pub no_faults : (v : Version) (raw : Bool) (code : List (List ℕ)) → AllInstr v raw code
    → list_all (λ bytes. not (is_some (instr_fault v raw bytes))) code ≡ true
no_faults v raw [] all = refl
no_faults v raw (bytes ∷ code) all = let none = all.0.fault in and_from _ _ (rw none refl) (no_faults v raw code all.1)

module _ (i : Image) (r : Ranges i) where
  all : AllInstr i.version i.raw (map instr_bytes i.code)
  all = all_instr i.version i.raw i.code r.code

  few : length (map instr_bytes i.code) ≤ 4096
  few = let len = length-map i.code instr_bytes in let le = r.count in omega arith

  labels_are : labels_from 0 (lines_said_of i (map instr_bytes i.code)) ≡ labels_of i.version (map instr_bytes i.code) 0 (map instr_bytes i.code)
  labels_are = labels_behind (directives_said i) _ (directives_declared i) ∙ labels_from-code i.version (map instr_bytes i.code) 0 (map instr_bytes i.code)

  -- the code as the text has it
  abbrev bare : List (List ℕ)
  bare = map instr_bytes (map erased_instr i.code)

  bare_fits : list_all (is_instr_in_range i.version i.raw) (map erased_instr i.code) ≡ true
  bare_fits = all_erased i.version i.raw i.code r.code

  fields_given : Give (lines_said_of i (map instr_bytes i.code)) (record (fields_of i) { code = bare })
  fields_given =
      let c = map instr_bytes i.code in
      let le = few in
      let count : length bare ≤ 4096 = omega (arith, r.count, length-map (map erased_instr i.code) instr_bytes, length-map i.code erased_instr) in
      record {
        order = and_from _ _ (version_given i c).0 (declared_in_order i.version (directives_said i) c (directives_declared i));
        once = ap names_once (labels_are) ∙ once i.version c 0 c (omega arith);
        version = (version_given i c).1;
        raw = raw_given i c;
        memory = memory_given i c;
        budget = budget_given i c;
        needs = ap needs_named (needs_given i c) ∙ needs_named-needs i.needs r.needs;
        starts = starts_given i c;
        slots = slots_given i c;
        code = (λ k. all_of (resolved (labels_are k)) (sources_given i c k)) ∙ code_resolved i.version i.raw c (omega arith) (all)
            ∙ ap (λ (xs : List (List ℕ)). Some xs) (untargeted_code i.version i.raw i.code r.code);
        in_range =
            and_from _ _ (le-leb _ 7 r.starts_count) (and_from _ _ (le-leb _ 8 r.slots_count) (and_from _ _ (le-leb _ 4096 count)
            (no_faults i.version i.raw bare (all_instr i.version i.raw (map erased_instr i.code) bare_fits))));
      }

  -- its blocks give it again
  nested_again : nested (record (fields_of i) { code = bare }) ≡ Some (fields_of i)
  nested_again =
      let bytes = paired_bytes i.version i.raw (map erased_instr i.code) bare_fits ∙ ap (map instr_bytes) (erased_again i.code (all_nested _ _ r.blocks)) in
      let keeps : keep_blocks i.version (map instr_bytes i.code) ≡ true = blocks_again i.version i.raw i.code r.code ∙ r.blocks in
      ap (λ (c : List (List ℕ)). if_fits (λ m. keep_blocks m.version m.code) (Some (record (fields_of i) { code = c }))) bytes ∙ rw keeps refl

  -- what the lines behind the version say
  body_say : Say i.version (other_lines i ++ code_lines i.version (map instr_bytes i.code)) (others_said i ++ code_said_from i.version
      (map instr_bytes i.code) 0 (map instr_bytes i.code))
  body_say =
      let c = map instr_bytes i.code in
      let le = few in
      says_both i.version _ _ _ _ (others_say i.version i r) (code_says i.version i.raw c 0 c (omega arith) (all))

  abbrev body_lines : List (List ℕ)
  body_lines = other_lines i ++ code_lines i.version (map instr_bytes i.code)

  abbrev body_said : List Line
  body_said = others_said i ++ (code_said_from i.version (map instr_bytes i.code) 0 (map instr_bytes i.code) ++ (Blank ∷ []))

  body_read : lines_from i.version (body_lines ++ ([] ∷ [])) ≡ Some body_said
  unfolding all_of line_of words_from
  body_read =
      let c = map instr_bytes i.code in
      read_on i.version _ _ ((says_both i.version _ ([] ∷ []) _ (Blank ∷ []) body_say (record { printed = refl; says = refl })).says
      ∙ ap (λ (xs : List Line). Some xs) (append_assoc (others_said i) (code_said_from i.version c 0 c) (Blank ∷ []))) (none_gives i c)

  whole_read : (v : Version) → i.version ≡ v → lines_from version.One ((version_lines v ++ body_lines) ++ ([] ∷ []))
      ≡ Some (versions v ++ body_said)
  unfolding lines_from
  whole_read version.One e = subst (λ (w : Version). lines_from w (body_lines ++ ([] ∷ [])) ≡ Some body_said) e body_read
  whole_read version.Two e =
      rw (version_said version.One) (ap (option_map (λ more. Declares directive.VersionTwo ∷ more))
      (subst (λ (w : Version). lines_from w (body_lines ++ ([] ∷ [])) ≡ Some body_said) e body_read))

  listing_again : listing_of (text_of i) ≡ Some (fields_of i)
  unfolding text_of
  listing_again =
      let c = map instr_bytes i.code in
      listing_of-lines (directive_lines i ++ code_lines i.version c) (lines_said_of i c) (Some (fields_of i)) (printed i.version)
      (ap (λ (ls : List (List ℕ)). lines_from version.One (ls ++ ([] ∷ []))) (append_assoc (version_lines i.version) (other_lines i) (code_lines i.version c))
      ∙ whole_read i.version refl ∙ ap (λ (ls : List Line). Some ls) (sym (append_assoc (versions i.version) (others_said i) _)))
      (listing_by (lines_said_of i c) _ fields_given ∙ nested_again)
    where
      printed : (v : Version) → list_all (λ line. list_all is_printed line) ((version_lines v ++ other_lines i) ++ code_lines i.version
          (map instr_bytes i.code)) ≡ true
      printed version.One = body_say.printed
      printed version.Two = body_say.printed

pub each_text_denotes : EachTextDenotes
each_text_denotes i h = record { fields = listing_again i (ranges i h); in_range = h }
