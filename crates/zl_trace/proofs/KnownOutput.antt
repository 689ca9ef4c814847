-- What has been written so far, to a writer that may tell its bytes.
use Rattle.zl_trace.proofs.Common.{Appends, Appends-trans, AppendsBeginning, Err, Gathers, List, Ok, OnErr, OnOk, Option, Result, [], ap}
use Rattle.zl_trace.proofs.Common.{append-nil, append_assoc, at_drop_more, drop, flat_map, flat_map-append, get_or, length, subst, sym, take}
use Rattle.zl_trace.proofs.Common.{take-append-drop, take_more, take_rest, ℕ, ◌++◌, ◌+◌, ◌-◌, ◌<◌, ◌∙◌, ◌∷◌, ◌≡◌}
use Rattle.std.proofs.Math.Seq.{take-add}

-- after the first n bytes, the writer took m of the rest
pub appended_more : (a b c : Option (List ℕ)) (bytes : List ℕ) (n m : ℕ) → Appends a b (take n bytes)
    → Appends b c (take m (take (length bytes - n) (drop n bytes))) → Appends a c (take (n + m) bytes)
appended_more a b c bytes n m first second =
    let rest = drop n bytes in
    let joined : take (n + m) bytes ≡ take n bytes ++ take m (take (length bytes - n) rest) =
    take-add n m bytes ∙ ap (λ (x : List ℕ). take n bytes ++ take m x) (sym (take_rest bytes n)) in
    subst (Appends a c) (sym joined) (Appends-trans a b c _ _ first second)

-- the first n bytes are a beginning
pub begun_by_front : (a b : Option (List ℕ)) (bytes : List ℕ) (n : ℕ) → Appends a b (take n bytes) → AppendsBeginning a b bytes
begun_by_front a b bytes n appended = record { written = take n bytes; rest = drop n bytes; appended = appended; beginning = take-append-drop n bytes }

-- one after the other
pub gathers_both : (a c e : Option (List ℕ)) (b d f first second : List ℕ) → Gathers a b c d first → Gathers c d e f second → Gathers a b e f (first ++ second)
gathers_both a c e b d f first second g h = record {
  written = g.written ++ h.written;
  appended = Appends-trans a c e g.written h.written g.appended h.appended;
  gathered = sym (append_assoc b first second) ∙ ap (λ (x : List ℕ). x ++ second) g.gathered ∙ append_assoc g.written d second
      ∙ ap (λ (x : List ℕ). g.written ++ x) h.gathered ∙ sym (append_assoc g.written h.written f);
}

-- what came before, a beginning of the next, and what never came
pub begun_after : (a c e : Option (List ℕ)) (b d first second third : List ℕ) → Gathers a b c d first → AppendsBeginning c e (d ++ second)
    → AppendsBeginning a e (b ++ (first ++ (second ++ third)))
begun_after a c e b d first second third g h = record {
  written = g.written ++ h.written;
  rest = h.rest ++ third;
  appended = Appends-trans a c e g.written h.written g.appended h.appended;
  beginning =
      let left : (g.written ++ h.written) ++ (h.rest ++ third) ≡ g.written ++ ((h.written ++ h.rest) ++ third) =
      append_assoc g.written h.written (h.rest ++ third) ∙ ap (λ (x : List ℕ). g.written ++ x) (sym (append_assoc h.written h.rest third)) in
      let middle : g.written ++ ((h.written ++ h.rest) ++ third) ≡ g.written ++ ((d ++ second) ++ third) =
      ap (λ (x : List ℕ). g.written ++ (x ++ third)) h.beginning in
      let right : g.written ++ ((d ++ second) ++ third) ≡ (b ++ first) ++ (second ++ third) =
      ap (λ (x : List ℕ). g.written ++ x) (append_assoc d second third) ∙ sym (append_assoc g.written d (second ++ third))
      ∙ ap (λ (x : List ℕ). x ++ (second ++ third)) (sym g.gathered) in
      left ∙ middle ∙ right ∙ append_assoc b first (second ++ third);
}

-- a list of lines, cut at one of them
pub lines_cut : {X : Type 0} (f : X → List ℕ) (xs : List X) (i : ℕ) (d : X) → i < length xs
    → flat_map f xs ≡ flat_map f (take i xs) ++ (f (get_or xs i d) ++ flat_map f (drop (i + 1) xs))
lines_cut f xs i d within =
    ap (flat_map f) (sym (take-append-drop i xs)) ∙ flat_map-append f (take i xs) (drop i xs)
    ∙ ap (λ (x : List ℕ). flat_map f (take i xs) ++ x) (at_drop_more (flat_map f) xs i d within)

-- what holds anyway holds on an error
pub on_err : {T E P : Type 0} (r : Result T E) → P → OnErr r P
on_err (Ok x) p = tt
on_err (Err e) p = p

-- what follows where all is done
pub when_both : {T E P Q R : Type 0} (r : Result T E) → OnOk r P → OnOk r Q → (P → Q → R) → OnOk r R
when_both (Ok x) p q gives = gives p q
when_both (Err e) p q gives = tt

-- what follows on an error
pub when_err : {T E P Q : Type 0} (r : Result T E) → OnErr r P → (P → Q) → OnErr r Q
when_err (Ok x) p gives = tt
when_err (Err e) p gives = gives p

-- one line more
pub gathers_line : {X : Type 0} (f : X → List ℕ) (xs : List X) (i : ℕ) (default : X) (a c e : Option (List ℕ)) (b d after : List ℕ) → i < length xs
    → Gathers a b c d (flat_map f (take i xs)) → Gathers c d e after (f (get_or xs i default)) → Gathers a b e after (flat_map f (take (i + 1) xs))
gathers_line f xs i default a c e b d after within g h =
    let more : flat_map f (take (i + 1) xs) ≡ flat_map f (take i xs) ++ f (get_or xs i default) =
    ap (flat_map f) (take_more xs i default within) ∙ flat_map-append f (take i xs) (get_or xs i default ∷ [])
    ∙ ap (λ (x : List ℕ). flat_map f (take i xs) ++ x) (append-nil (f (get_or xs i default))) in
    subst (Gathers a b e after) (sym more) (gathers_both a c e b d after (flat_map f (take i xs)) (f (get_or xs i default)) g h)

-- a beginning of one line more
pub begun_line : {X : Type 0} (f : X → List ℕ) (xs : List X) (i : ℕ) (default : X) (a c e : Option (List ℕ)) (b d : List ℕ) → i < length xs
    → Gathers a b c d (flat_map f (take i xs)) → AppendsBeginning c e (d ++ f (get_or xs i default)) → AppendsBeginning a e (b ++ flat_map f xs)
begun_line f xs i default a c e b d within g h =
    subst (λ (x : List ℕ). AppendsBeginning a e (b ++ x)) (sym (lines_cut f xs i default within))
    (begun_after a c e b d (flat_map f (take i xs)) (f (get_or xs i default)) (flat_map f (drop (i + 1) xs)) g h)
