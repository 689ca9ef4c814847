-- What is written where lines are gathered in a page: all of it, or a beginning.
use Rattle.zl_trace.proofs.Common.{Appends, Appends-trans, AppendsBeginning, Err, Gathers, List, Ok, OnErr, OnOk, Option, Result, [], ap, append-nil}
use Rattle.zl_trace.proofs.Common.{append_assoc, arith, length, length-take-le, refl, subst, sym, take, ℕ, ◌++◌, ◌+◌, ◌∙◌, ◌≡◌, ◌≤◌}
use Rattle.std.proofs.Math.Seq.{take-add}
use Rattle.std.proofs.lemmas.List.{drop_at, take-take, take_at}
use Rattle.std.proofs.lemmas.Slice.{take-put_mid}
use borrow.Rule.Slice.PartMut.{put_mid}

-- bytes were copied to place a, of which the first n are the text
pub copied : (a k n : ℕ) (room bytes text : List ℕ) → a ≤ length room → n ≤ length bytes → take n bytes ≡ text
    → take (a + n) (put_mid a k room bytes) ≡ take a room ++ text
copied a k n room bytes text within fits is =
    let front = length-take-le a room within in
    let whole = a + length bytes in
    sym (take-take (a + n) whole (put_mid a k room bytes) (omega (arith, fits))) ∙ ap (take (a + n)) (take-put_mid a k room bytes whole refl within)
    ∙ take-add a n (take a room ++ bytes) ∙ (λ i. take_at (take a room) bytes a front i ++ take n (drop_at (take a room) bytes a front i))
    ∙ ap (λ (x : List ℕ). take a room ++ x) is

pub begins_longer : (a e : Option (List ℕ)) (bytes more : List ℕ) → AppendsBeginning a e bytes → AppendsBeginning a e (bytes ++ more)
begins_longer a e bytes more b = record {
  written = b.written;
  rest = b.rest ++ more;
  appended = b.appended;
  beginning = sym (append_assoc b.written b.rest more) ∙ ap (λ (x : List ℕ). x ++ more) b.beginning;
}

-- a beginning of what comes behind what was written
pub begun_behind : (a c e : Option (List ℕ)) (first second : List ℕ) → Appends a c first → AppendsBeginning c e second → AppendsBeginning a e (first ++ second)
begun_behind a c e first second appended h = record {
  written = first ++ h.written;
  rest = h.rest;
  appended = Appends-trans a c e first h.written appended h.appended;
  beginning = append_assoc first h.written h.rest ∙ ap (λ (x : List ℕ). first ++ x) h.beginning;
}

-- one behind the other, and nothing is left
pub both_written : {T E : Type 0} (r : Result T E) (a c e : Option (List ℕ)) (first second now : List ℕ) → Appends a c first → now ≡ []
    → OnOk r (Appends c e second) → OnOk r (Gathers a first e now second)
both_written (Ok x) a c e first second now appended empty next = record {
  written = first ++ second;
  appended = Appends-trans a c e first second appended next;
  gathered = sym (append-nil (first ++ second)) ∙ ap (λ (x : List ℕ). (first ++ second) ++ x) (sym empty);
}
both_written (Err x) a c e first second now appended empty next = tt

pub begun_both : {T E : Type 0} (r : Result T E) (a c e : Option (List ℕ)) (first second : List ℕ) → Appends a c first
    → OnErr r (AppendsBeginning c e second) → OnErr r (AppendsBeginning a e (first ++ second))
begun_both (Ok x) a c e first second appended next = tt
begun_both (Err x) a c e first second appended next = begun_behind a c e first second appended next

-- ---- a block that is written, and lines behind it by an empty page

pub lines_begun : (a c e : Option (List ℕ)) (block page lines : List ℕ) → Appends a c block → page ≡ [] → AppendsBeginning c e (page ++ lines)
    → AppendsBeginning a e (block ++ lines)
lines_begun a c e block page lines appended empty begun =
    begun_behind a c e block lines appended (subst (λ (x : List ℕ). AppendsBeginning c e (x ++ lines)) empty begun)

-- with the last page all is written
all_out : (a c e z : Option (List ℕ)) (block page lines last : List ℕ) → Appends a c block → page ≡ [] → Gathers c page e last lines → Appends e z last
    → Appends a z (block ++ lines)
all_out a c e z block page lines last appended empty g next =
    let more : lines ≡ g.written ++ last = ap (λ (x : List ℕ). x ++ lines) (sym empty) ∙ g.gathered in
    subst (λ (x : List ℕ). Appends a z (block ++ x)) (sym more)
    (Appends-trans a c z block (g.written ++ last) appended (Appends-trans c e z g.written last g.appended next))

pub lines_written : {T E : Type 0} (r : Result T E) (a c e z : Option (List ℕ)) (block page lines last now : List ℕ) → Appends a c block → page ≡ []
    → Gathers c page e last lines → now ≡ [] → OnOk r (Appends e z last) → OnOk r (Gathers a block z now lines)
lines_written (Ok x) a c e z block page lines last now appended empty g left next = record {
  written = block ++ lines;
  appended = all_out a c e z block page lines last appended empty g next;
  gathered = sym (append-nil (block ++ lines)) ∙ ap (λ (x : List ℕ). (block ++ lines) ++ x) (sym left);
}
lines_written (Err x) a c e z block page lines last now appended empty g left next = tt

pub last_begun : {T E : Type 0} (r : Result T E) (a c e z : Option (List ℕ)) (block page lines last : List ℕ) → Appends a c block → page ≡ []
    → Gathers c page e last lines → OnErr r (AppendsBeginning e z last) → OnErr r (AppendsBeginning a z (block ++ lines))
last_begun (Ok x) a c e z block page lines last appended empty g next = tt
last_begun (Err x) a c e z block page lines last appended empty g next =
    let more : lines ≡ g.written ++ last = ap (λ (x : List ℕ). x ++ lines) (sym empty) ∙ g.gathered in
    subst (λ (x : List ℕ). AppendsBeginning a z (block ++ x)) (sym more)
    (begun_behind a c z block (g.written ++ last) appended (begun_behind c e z g.written last g.appended next))
