-- What a draft holds after one line more.
use Rattle.zl_asm.proofs.Common.{Blank, Bool, Code, Condition, Declares, Directive, Held, Holds, Image, IsGiven, IsHeldOf, Label, Line, List, None, SlotArray}
use Rattle.zl_asm.proofs.Common.{Some, Source, Start, Version, [], and_from, and_parts, ap, append-nil, arith, budget_in, can_be_needed, cond, condition_number}
use Rattle.zl_asm.proofs.Common.{declares, eq-eqb, eqb-true, false, filter, flat_map, flat_map-append, given, gives_version, if◌then◌else◌, is_among, is_body}
use Rattle.zl_asm.proofs.Common.{labels_from, length, list_all, list_all-append, list_any, list_any-append, mark_in, memory_in, names_once, need_in}
use Rattle.zl_asm.proofs.Common.{needs_named, none_behind, not, or_left, or_right, position_of, refl, says, slots_in, source_in, start_in, subst, sym, true}
use Rattle.zl_asm.proofs.Common.{true≢false, version_in, ℕ, ◌&&◌, ◌++◌, ◌+◌, ◌==◌, ◌||◌, ◌∙◌, ◌∷◌, ◌≡◌}
use Rattle.zl_asm.specs.declared.directive.Directive.TheVariants as directive
use Rattle.zl_asm.proofs.Labels.{labels_from-append, once-more}
use Rattle.std.proofs.lemmas.Bool.{cond_both, and_right}
use Rattle.zl_code.specs.Image.{blank_image}
use Rattle.zl_code.specs.declared.image.Version.TheVariants as version
use Rattle.std.proofs.Math.Bool.{or-false, and-false, and-true, or_comm}

-- ---- what one line more gives

kept : {X : Type 0} (f : Line → List X) (said : List Line) (line : Line) → f line ≡ [] → flat_map f (said ++ line ∷ []) ≡ flat_map f said
kept f said line e = flat_map-append f said (line ∷ []) ∙ ap (λ (xs : List _). flat_map f said ++ (xs ++ [])) e ∙ append-nil _

added : {X : Type 0} (f : Line → List X) (said : List Line) (line : Line) (x : X) → f line ≡ x ∷ [] → flat_map f (said ++ line ∷ []) ≡ flat_map f said ++ x ∷ []
added f said line x e = flat_map-append f said (line ∷ []) ∙ ap (λ (xs : List _). flat_map f said ++ (xs ++ [])) e

-- ---- the order of lines

abbrev version_if : Bool → Version
version_if b = if b then version.One else version.Two

chosen : (b : Bool) (x y v w : Bool) → (x ≡ true → v ≡ true) → (y ≡ true → w ≡ true) → cond b x y ≡ true → cond b v w ≡ true
chosen true x y v w f g e = f e
chosen false x y v w f g e = g e

-- a line that doesn't pass the second test can stand anywhere
order-more : (first later : Line → Bool) (said : List Line) (line : Line) → later line ≡ false → none_behind first later said ≡ true
    → none_behind first later (said ++ line ∷ []) ≡ true
unfolding none_behind
order-more first later [] line e h = cond_both (first line) true true (λ b. b ≡ true) (λ _. refl) (λ _. refl)
order-more first later (x ∷ said) line e h =
    chosen (first x) (list_all (λ l. not (later l)) said) (none_behind first later said) _ _
    (λ k. list_all-append (λ l. not (later l)) said (line ∷ []) ∙ (λ i. k i && (not (e i) && true)))
    (order-more first later said line e) h

-- and any line where none passes the first
order-first : (first later : Line → Bool) (said : List Line) (line : Line) → list_any first said ≡ false → none_behind first later (said ++ line ∷ []) ≡ true
unfolding none_behind
order-first first later [] line e = cond_both (first line) true true (λ b. b ≡ true) (λ _. refl) (λ _. refl)
order-first first later (x ∷ said) line e = by (first x) (order-first first later said line) e
  where
    by : (b : Bool) → (list_any first said ≡ false → none_behind first later (said ++ line ∷ []) ≡ true) → (b || list_any first said) ≡ false
        → cond b (list_all (λ l. not (later l)) (said ++ line ∷ [])) (none_behind first later (said ++ line ∷ [])) ≡ true
    by true more h = absurd (true≢false h)
    by false more h = more h

none-more : (test : Line → Bool) (said : List Line) (line : Line) → test line ≡ false → list_any test (said ++ line ∷ []) ≡ list_any test said
none-more test said line e = list_any-append test said (line ∷ []) ∙ (λ i. list_any test said || (e i || false)) ∙ or-false _

one-more : (test : Line → Bool) (said : List Line) (line : Line) → test line ≡ true → list_any test (said ++ line ∷ []) ≡ true
one-more test said line e = list_any-append test said (line ∷ []) ∙ or_right _ _ (or_left _ _ e)

-- the version is that of the lines, of which only the first that says something gives it
abbrev IsVersioned : Version → List Line → Type 0
IsVersioned v lines = (none_behind says gives_version lines ≡ true) × (v ≡ version_in lines)

unversioned : (d : Held) (said : List Line) (line : Line) → gives_version line ≡ false → IsHeldOf said d → IsVersioned d.image.version (said ++ line ∷ [])
unversioned d said line e h = (
  order-more says gives_version said line e (and_parts _ _ h.order).0,
  h.version ∙ ap version_if (sym (list_all-append _ said (line ∷ []) ∙ (λ i. list_all (λ l. not (gives_version l)) said && (not (e i) && true)) ∙ and-true _)),
)

-- ---- labels

no_label : (said : List Line) (line : Line) → ((n : ℕ) → labels_from n (line ∷ []) ≡ []) → labels_from 0 (said ++ line ∷ []) ≡ labels_from 0 said
no_label said line e = labels_from-append 0 said (line ∷ []) ∙ ap (λ (l : List (List ℕ × ℕ)). labels_from 0 said ++ l) (e _) ∙ append-nil _

none_declared : (said : List Line) (d : Directive) → labels_from 0 (said ++ Declares d ∷ []) ≡ labels_from 0 said
unfolding labels_from
none_declared said d = no_label said (Declares d) (λ n. refl)

none_in_code : (said : List Line) (s : Source) → labels_from 0 (said ++ Code s ∷ []) ≡ labels_from 0 said
unfolding labels_from
none_in_code said s = no_label said (Code s) (λ n. refl)

none_in_blank : (said : List Line) → labels_from 0 (said ++ Blank ∷ []) ≡ labels_from 0 said
unfolding labels_from
none_in_blank said = no_label said Blank (λ n. refl)

one_label : (said : List Line) (name : List ℕ)
    → labels_from 0 (said ++ Label name ∷ []) ≡ labels_from 0 said ++ (name, 0 + length (flat_map source_in said)) ∷ []
unfolding labels_from
one_label said name = labels_from-append 0 said (Label name ∷ [])

-- ---- needs

same_number : (named : List Condition) (x k : Condition) → (condition_number x == condition_number k) ≡ true → is_among named x ≡ is_among named k
same_number named x k e = ap (λ (n : ℕ). list_any (λ y. condition_number y == n) named) (eqb-true _ _ e)

-- those among others that are named
among-filter : (named xs : List Condition) (k : Condition) → is_among (filter (λ c. is_among named c) xs) k ≡ (is_among named k && is_among xs k)
among-filter named [] k = sym (and_right (is_among named k) false refl)
among-filter named (x ∷ xs) k = by (is_among named x) refl (condition_number x == condition_number k) refl (among-filter named xs k)
  where
    by : (p : Bool) → is_among named x ≡ p → (q : Bool) → (condition_number x == condition_number k) ≡ q
        → is_among (filter (λ c. is_among named c) xs) k ≡ (is_among named k && is_among xs k)
        → is_among (cond p (x ∷ filter (λ c. is_among named c) xs) (filter (λ c. is_among named c) xs)) k ≡ (is_among named k && (q || is_among xs k))
    by true e true f rest = rw (f, sym (same_number named x k f) ∙ e) refl
    by true e false f rest = rw (f, rest) refl
    by false e true f rest = let none : is_among named k ≡ false = sym (same_number named x k f) ∙ e in rw (rest, none) refl
    by false e false f rest = rest

-- a filter goes by what its test says of the elements
same_filter : (p q : Condition → Bool) (cs : List Condition) → ((c : Condition) → is_among cs c ≡ true → p c ≡ q c) → filter p cs ≡ filter q cs
same_filter p q [] same = refl
same_filter p q (c ∷ cs) same =
    let rest : filter p cs ≡ filter q cs = same_filter p q cs (λ x among. same x (or_right (condition_number c == condition_number x) _ among)) in
    λ i. cond (same c (or_left _ (is_among cs c) (eq-eqb (condition_number c) (condition_number c) refl)) i) (c ∷ rest i) (rest i)

-- one need more
needs-more : (xs : List Condition) (c : Condition) → needs_named (c ∷ needs_named xs) ≡ needs_named (xs ++ c ∷ [])
needs-more xs c = same_filter (is_among (c ∷ needs_named xs)) (is_among (xs ++ c ∷ [])) can_be_needed at
  where
    at : (k : Condition) → is_among can_be_needed k ≡ true → is_among (c ∷ needs_named xs) k ≡ is_among (xs ++ c ∷ []) k
    at k can =
        ap (λ (b : Bool). (condition_number c == condition_number k) || b)
        (among-filter xs can_be_needed k ∙ ap (λ (b : Bool). is_among xs k && b) can ∙ and-true (is_among xs k))
        ∙ or_comm (condition_number c == condition_number k) (is_among xs k)
        ∙ ap (λ (b : Bool). is_among xs k || b) (sym (or-false (condition_number c == condition_number k)))
        ∙ sym (list_any-append (λ x. condition_number x == condition_number k) xs (c ∷ []))

-- ---- what was given

none_given : {X : Type 0} (has : Bool) (value usual : X) (xs : List X) → has ≡ false → IsGiven has value usual xs → xs ≡ []
none_given true value usual xs e h = absurd (true≢false e)
none_given false value usual xs e h = h.0

pub one_given : {X : Type 0} (has : Bool) (value usual : X) (xs : List X) → has ≡ true → IsGiven has value usual xs → xs ≡ value ∷ []
one_given true value usual xs e h = h
one_given false value usual xs e h = absurd (true≢false (sym e))

pub given_is : {X : Type 0} (has : Bool) (value usual : X) (xs : List X) → IsGiven has value usual xs → given xs usual ≡ Some value
given_is true value usual xs h = rw h refl
given_is false value usual xs h = rw (h.0, h.1) refl

-- the first value
first_given : {X : Type 0} (f : Line → List X) (said : List Line) (line : Line) (x : X) → flat_map f said ≡ [] → f line ≡ x ∷ []
    → flat_map f (said ++ line ∷ []) ≡ x ∷ []
first_given f said line x none e = added f said line x e ∙ ap (λ (l : List _). l ++ x ∷ []) none

-- ---- all that is held

-- the fields of an image that the lines give, but for the version
abbrev AreGiven : Held → List Line → Type 0
AreGiven d lines = IsGiven d.image.raw d.image.raw false (flat_map mark_in lines) × IsGiven d.has_memory d.image.memory 0 (flat_map memory_in lines)
    × IsGiven d.has_budget d.image.budget 1 (flat_map budget_in lines) × (d.image.needs ≡ needs_named (flat_map need_in lines))
    × (d.image.starts ≡ flat_map start_in lines) × (d.image.slots ≡ flat_map slots_in lines)

held : (lines : List Line) (d : Held) → IsVersioned d.image.version lines → none_behind is_body declares lines ≡ true
    → d.has_begun ≡ list_any says lines → d.has_body ≡ list_any is_body lines → AreGiven d lines → d.labels ≡ labels_from 0 lines
    → names_once (labels_from 0 lines) ≡ true → d.sources ≡ flat_map source_in lines → IsHeldOf lines d
held lines d (first, v) o n b (m, y, t, e, a, i) l u s =
    let o = and_from _ _ first o in
    record { order = o; some = n; body = b; version = v; mark = m; memory = y; budget = t; needs = e; starts = a; slots = i; labels = l; once = u; sources = s }

-- what is given stays behind a line that doesn't give it
still : {X : Type 0} (f : Line → List X) (said : List Line) (line : Line) (has : Bool) (value usual : X) → f line ≡ []
    → IsGiven has value usual (flat_map f said) → IsGiven has value usual (flat_map f (said ++ line ∷ []))
still f said line has value usual e h = subst (IsGiven has value usual) (sym (kept f said line e)) h

listed : {X : Type 0} {xs : List X} (f : Line → List X) (said : List Line) (line : Line) → f line ≡ [] → xs ≡ flat_map f said
    → xs ≡ flat_map f (said ++ line ∷ [])
listed f said line e h = h ∙ sym (kept f said line e)

needed : (said : List Line) (line : Line) {xs : List Condition} → need_in line ≡ [] → xs ≡ needs_named (flat_map need_in said)
    → xs ≡ needs_named (flat_map need_in (said ++ line ∷ []))
needed said line e h = h ∙ ap needs_named (sym (kept need_in said line e))

-- a line that gives none of them
unsaid : (d : Held) (said : List Line) (line : Line) → mark_in line ≡ [] → memory_in line ≡ [] → budget_in line ≡ [] → need_in line ≡ []
    → start_in line ≡ [] → slots_in line ≡ [] → IsHeldOf said d → AreGiven d (said ++ line ∷ [])
unsaid d said line no_mark no_memory no_budget no_need no_start no_slots h = (
  still mark_in said line _ _ _ no_mark h.mark,
  still memory_in said line _ _ _ no_memory h.memory,
  still budget_in said line _ _ _ no_budget h.budget,
  needed said line no_need h.needs,
  listed start_in said line no_start h.starts,
  listed slots_in said line no_slots h.slots,
)

-- a directive leaves all but the fields of the image
declared : (d : Held) (x : Directive) (image : Image) (memory budget : Bool) (said : List Line) → IsHeldOf said d → d.has_body ≡ false
    → IsVersioned image.version (said ++ Declares x ∷ [])
    → AreGiven (record d { image = image; has_memory = memory; has_budget = budget }) (said ++ Declares x ∷ [])
    → IsHeldOf (said ++ Declares x ∷ []) (record d { image = image; has_memory = memory; has_budget = budget; has_begun = true })
declared d x image memory budget said h first v g =
    held _ _ v (order-first is_body declares said (Declares x) (sym h.body ∙ first)) (sym (one-more says said (Declares x) refl))
    (h.body ∙ sym (none-more is_body said (Declares x) refl)) g (h.labels ∙ sym (none_declared said x)) (ap names_once (none_declared said x) ∙ h.once)
    (listed source_in said (Declares x) refl h.sources)

-- ---- one directive more

pub version_held : (d : Held) (image : Image) → image ≡ record d.image { version = version.Two } → d.has_body ≡ false → d.has_begun ≡ false
    → Holds d (Declares directive.VersionTwo) (record d { image = image; has_begun = true })
version_held d image e first none =
    subst (λ (im : Image). Holds d (Declares directive.VersionTwo) (record d { image = im; has_begun = true })) (sym e) (λ said h.
    let x = Declares directive.VersionTwo in
    let two : version.Two ≡ version_in (said ++ x ∷ []) = ap version_if (sym (list_all-append _ said (x ∷ []) ∙ and-false _)) in
    declared d directive.VersionTwo _ _ _ said h first (order-first says gives_version said x (sym h.some ∙ none), two)
    (unsaid d said x refl refl refl refl refl refl h))

pub mark_held : (d : Held) (image : Image) → image ≡ record d.image { raw = true } → d.has_body ≡ false → d.image.raw ≡ false
    → Holds d (Declares directive.Raw) (record d { image = image; has_begun = true })
mark_held d image e first none = subst (λ (im : Image). Holds d (Declares directive.Raw) (record d { image = im; has_begun = true })) (sym e) (λ said h.
    let x = Declares directive.Raw in declared d directive.Raw _ _ _ said h first (unversioned d said x refl h) (
      first_given mark_in said x true (none_given d.image.raw d.image.raw false _ none h.mark) refl,
      still memory_in said x _ _ _ refl h.memory,
      still budget_in said x _ _ _ refl h.budget,
      needed said x refl h.needs,
      listed start_in said x refl h.starts,
      listed slots_in said x refl h.slots,
    ))

pub memory_held : (d : Held) (image : Image) (n : ℕ) → image ≡ record d.image { memory = n } → d.has_body ≡ false → d.has_memory ≡ false
    → Holds d (Declares (directive.Memory n)) (record d { image = image; has_memory = true; has_begun = true })
memory_held d image n e first none =
    subst (λ (im : Image). Holds d (Declares (directive.Memory n)) (record d { image = im; has_memory = true; has_begun = true })) (sym e) (λ said h.
    let x = Declares (directive.Memory n) in declared d (directive.Memory n) _ _ _ said h first (unversioned d said x refl h) (
      still mark_in said x _ _ _ refl h.mark,
      first_given memory_in said x n (none_given d.has_memory d.image.memory 0 _ none h.memory) refl,
      still budget_in said x _ _ _ refl h.budget,
      needed said x refl h.needs,
      listed start_in said x refl h.starts,
      listed slots_in said x refl h.slots,
    ))

pub budget_held : (d : Held) (image : Image) (n : ℕ) → image ≡ record d.image { budget = n } → d.has_body ≡ false → d.has_budget ≡ false
    → Holds d (Declares (directive.Budget n)) (record d { image = image; has_budget = true; has_begun = true })
budget_held d image n e first none =
    subst (λ (im : Image). Holds d (Declares (directive.Budget n)) (record d { image = im; has_budget = true; has_begun = true })) (sym e) (λ said h.
    let x = Declares (directive.Budget n) in declared d (directive.Budget n) _ _ _ said h first (unversioned d said x refl h) (
      still mark_in said x _ _ _ refl h.mark,
      still memory_in said x _ _ _ refl h.memory,
      first_given budget_in said x n (none_given d.has_budget d.image.budget 1 _ none h.budget) refl,
      needed said x refl h.needs,
      listed start_in said x refl h.starts,
      listed slots_in said x refl h.slots,
    ))

pub need_held : (d : Held) (image : Image) (c : Condition) → image ≡ record d.image { needs = needs_named (c ∷ d.image.needs) } → d.has_body ≡ false
    → Holds d (Declares (directive.Need c)) (record d { image = image; has_begun = true })
need_held d image c e first = subst (λ (im : Image). Holds d (Declares (directive.Need c)) (record d { image = im; has_begun = true })) (sym e) (λ said h.
    let x = Declares (directive.Need c) in declared d (directive.Need c) _ _ _ said h first (unversioned d said x refl h) (
      still mark_in said x _ _ _ refl h.mark,
      still memory_in said x _ _ _ refl h.memory,
      still budget_in said x _ _ _ refl h.budget,
      ap (λ (l : List Condition). needs_named (c ∷ l)) h.needs ∙ needs-more (flat_map need_in said) c ∙ ap needs_named (sym (added need_in said x c refl)),
      listed start_in said x refl h.starts,
      listed slots_in said x refl h.slots,
    ))

pub starts_held : (d : Held) (image : Image) (s : Start) → image ≡ record d.image { starts = d.image.starts ++ (s ∷ []) } → d.has_body ≡ false
    → Holds d (Declares (directive.Start s)) (record d { image = image; has_begun = true })
starts_held d image s e first = subst (λ (im : Image). Holds d (Declares (directive.Start s)) (record d { image = im; has_begun = true })) (sym e) (λ said h.
    let x = Declares (directive.Start s) in declared d (directive.Start s) _ _ _ said h first (unversioned d said x refl h) (
      still mark_in said x _ _ _ refl h.mark,
      still memory_in said x _ _ _ refl h.memory,
      still budget_in said x _ _ _ refl h.budget,
      needed said x refl h.needs,
      ap (λ (l : List Start). l ++ s ∷ []) h.starts ∙ sym (added start_in said x s refl),
      listed slots_in said x refl h.slots,
    ))

pub slot_array_held : (d : Held) (image : Image) (s : SlotArray) → image ≡ record d.image { slots = d.image.slots ++ (s ∷ []) } → d.has_body ≡ false
    → Holds d (Declares (directive.Slots s)) (record d { image = image; has_begun = true })
slot_array_held d image s e first =
    subst (λ (im : Image). Holds d (Declares (directive.Slots s)) (record d { image = im; has_begun = true })) (sym e) (λ said h.
    let x = Declares (directive.Slots s) in declared d (directive.Slots s) _ _ _ said h first (unversioned d said x refl h) (
      still mark_in said x _ _ _ refl h.mark,
      still memory_in said x _ _ _ refl h.memory,
      still budget_in said x _ _ _ refl h.budget,
      needed said x refl h.needs,
      listed start_in said x refl h.starts,
      ap (λ (l : List SlotArray). l ++ s ∷ []) h.slots ∙ sym (added slots_in said x s refl),
    ))

-- ---- one line more behind

pub blank_held : (d : Held) → Holds d Blank d
blank_held d = λ said h.
    held _ _ (unversioned d said Blank refl h) (order-more is_body declares said Blank refl (and_parts _ _ h.order).1)
    (h.some ∙ sym (none-more says said Blank refl)) (h.body ∙ sym (none-more is_body said Blank refl)) (unsaid d said Blank refl refl refl refl refl refl h)
    (h.labels ∙ sym (none_in_blank said)) (ap names_once (none_in_blank said) ∙ h.once) (listed source_in said Blank refl h.sources)

counted : {xs ys : List Source} → xs ≡ ys → length xs ≡ 0 + length ys
counted e = omega (arith, ap length e)

pub label_held : (d : Held) (name : List ℕ) → position_of d.labels name ≡ None
    → Holds d (Label name) (record d { has_begun = true; has_body = true; labels = d.labels ++ (name, length d.sources) ∷ [] })
label_held d name free = λ said h.
    held _ _ (unversioned d said (Label name) refl h) (order-more is_body declares said (Label name) refl (and_parts _ _ h.order).1)
    (sym (one-more says said (Label name) refl)) (sym (one-more is_body said (Label name) refl)) (unsaid d said (Label name) refl refl refl refl refl refl h)
    (ap (λ (l : List (List ℕ × ℕ)). l ++ (name, length d.sources) ∷ []) h.labels
    ∙ ap (λ (k : ℕ). labels_from 0 said ++ (name, k) ∷ []) (counted h.sources) ∙ sym (one_label said name))
    (ap names_once (one_label said name) ∙ once-more (labels_from 0 said) (name, 0 + length (flat_map source_in said)) h.once
    (ap (λ (l : List (List ℕ × ℕ)). position_of l name) (sym h.labels) ∙ free)) (listed source_in said (Label name) refl h.sources)

pub code_held : (d : Held) (s : Source) → Holds d (Code s) (record d { has_begun = true; has_body = true; sources = d.sources ++ s ∷ [] })
code_held d s = λ said h.
    held _ _ (unversioned d said (Code s) refl h) (order-more is_body declares said (Code s) refl (and_parts _ _ h.order).1)
    (sym (one-more says said (Code s) refl)) (sym (one-more is_body said (Code s) refl)) (unsaid d said (Code s) refl refl refl refl refl refl h)
    (h.labels ∙ sym (none_in_code said s)) (ap names_once (none_in_code said s) ∙ h.once)
    (ap (λ (l : List Source). l ++ s ∷ []) h.sources ∙ sym (added source_in said (Code s) s refl))

-- ---- before the first line

pub nothing_held : (labels : List (List ℕ × ℕ)) (sources : List Source) → labels ≡ [] → sources ≡ []
    → IsHeldOf [] (record {
      image = blank_image;
      has_memory = false;
      has_budget = false;
      has_begun = false;
      has_body = false;
      labels = labels;
      sources = sources;
    })
unfolding none_behind labels_from names_once
nothing_held labels sources none empty = held _ _ (refl, refl) refl refl refl ((refl, refl), (refl, refl), (refl, refl), refl, refl, refl) none refl empty
