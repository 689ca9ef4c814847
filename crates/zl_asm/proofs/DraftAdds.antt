-- One more label or instruction in the map and the vector of a draft.
use Rattle.std.specs.Prelude.{All}
use Rattle.zl_asm.proofs.Common.{Bool, arith, ne_eqb, ◌||◌, ◌==◌}
use Rattle.zl_asm.proofs.Common.{Code, Held, Holds, Label, List, None, Option, Some, Source, SourceLine, [], ap, false, is_some, kept_value, labels_shown}
use Rattle.zl_asm.proofs.Common.{length, map-append, position_of, refl, sources_shown, subst, sym, true, true≢false, ℕ, ◌++◌, ◌∙◌, ◌∷◌, ◌≡◌}
use denote.Ref.{Bor}
use Rattle.zl_asm.proofs.DraftHolds.{label_held, code_held}

pub label_added : (d : Held) (es new : List (Bor (List ℕ) × ℕ)) (name : Bor (List ℕ)) (n : ℕ) → new ≡ es ++ (name, n) ∷ [] → d.labels ≡ labels_shown es
    → n ≡ length d.sources → position_of d.labels name.now ≡ None
    → Holds d (Label name.now) (record d { has_begun = true; has_body = true; labels = labels_shown new })
label_added d es new name n entries old count free =
    let shown : d.labels ++ (name.now, length d.sources) ∷ [] ≡ labels_shown new =
    (λ i. old i ++ (name.now, sym count i) ∷ []) ∙ sym (map-append (λ l. (l.0.now, l.1)) es ((name, n) ∷ [])) ∙ ap labels_shown (sym entries) in
    subst (λ (l : List (List ℕ × ℕ)). Holds d (Label name.now) (record d { has_begun = true; has_body = true; labels = l })) shown (label_held d name.now free)

pub source_added : (d : Held) (ss new : List SourceLine) (s : SourceLine) (value : Source) → new ≡ ss ++ s ∷ [] → d.sources ≡ sources_shown ss
    → kept_value s.kept ≡ value → Holds d (Code value) (record d { has_begun = true; has_body = true; sources = sources_shown new })
source_added d ss new s value items old same =
    let shown : d.sources ++ value ∷ [] ≡ sources_shown new =
    (λ i. old i ++ sym same i ∷ []) ∙ sym (map-append (λ s. kept_value s.kept) ss (s ∷ [])) ∙ ap sources_shown (sym items) in
    subst (λ (l : List Source). Holds d (Code value) (record d { has_begun = true; has_body = true; sources = l })) shown (code_held d value)

pub none_by : {X : Type 0} (o : Option X) → false ≡ is_some o → o ≡ None
none_by None e = refl
none_by (Some x) e = absurd (true≢false (sym e))

-- where nothing was read, what holds of each instruction holds
pub none_kept : (P : SourceLine → Type 0) (ss : List SourceLine) (begun : Bool) → (begun || (length ss == 0)) ≡ true → begun ≡ false → All P ss
none_kept P [] begun some none = λ k d l. absurd (omega arith)
none_kept P (s ∷ ss) true some none = absurd (true≢false none)
none_kept P (s ∷ ss) false some none = (let no = ne_eqb (length (s ∷ ss)) 0 (λ e. omega arith) in absurd (true≢false (sym some ∙ no)))
