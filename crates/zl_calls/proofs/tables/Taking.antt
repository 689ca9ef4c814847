-- Handles that a call takes: they leave the table one after another, and close where the call is refused.
use Rattle.zl_calls.proofs.Common.{AreKeptBut, Closes, ClosesEach, DoesTaking, Entry, Err, Handles, Inserts, KeepsListed, List, Map, None, Objects, Option}
use Rattle.zl_calls.proofs.Common.{Releases, Replaces, Some, [], ap, append-nil, append_assoc, arith, get, get_or, koids_in, length, map-append, none_left}
use Rattle.zl_calls.proofs.Common.{option_map, option_to_list, refl, releases_then, replace_refusal, subst, sym, take, take_more, taken_from, wants_nothing}
use Rattle.zl_calls.proofs.Common.{without_handle, without_handles, ℕ, ◌++◌, ◌+◌, ◌-◌, ◌<◌, ◌∙◌, ◌∷◌, ◌≡◌, ◌≤◌}
use Rattle.zl_code.proofs.Common.{length-append}
use Rattle.zl_rights.specs.declared.status.Status.TheVariants as status
use Rattle.zl_code.proofs.Entering.{length_put}
use Rattle.zl_calls.proofs.waits.WaitsLost.{listed_same, listed_then}

-- an empty table has no handle
pub none_in : (m : Map Entry) (v : ℕ) → length m ≡ 0 → get m v ≡ None
unfolding get
none_in [] v empty = refl
none_in (e ∷ m) v empty = absurd (omega (arith, empty))

-- a handle more
pub one_longer : (t : Handles) (e : Entry) (v : ℕ) (t2 : Handles) → Inserts t e v t2 → length t2.entries ≤ length t.entries + 1
one_longer t e v t2 inserts = let longer = length_put t.entries v e in rw inserts.entries (omega (arith, longer))

-- where no handle goes, no object does
pub none_goes : (r : Objects) → Releases [] [] r r
none_goes r = record { cascades = none_left r.objects; keeps = λ others kept. subst (λ ls. AreKeptBut ls r.objects) (append-nil others) kept; koids = refl }

-- ---- one value more

pub without_more : (t : Handles) (hs : List ℕ) (h : ℕ) → without_handles t (hs ++ h ∷ []) ≡ without_handle (without_handles t hs) h
without_more t [] h = refl
without_more t (x ∷ hs) h = without_more (without_handle t x) hs h

pub taken_more : (t : Handles) (hs : List ℕ) (h : ℕ) → taken_from t (hs ++ h ∷ []) ≡ taken_from t hs ++ option_to_list (get (without_handles t hs).entries h)
taken_more t [] h = append-nil (option_to_list (get t.entries h))
taken_more t (x ∷ hs) h =
    ap (λ (es : List Entry). option_to_list (get t.entries x) ++ es) (taken_more (without_handle t x) hs h)
    ∙ sym (append_assoc (option_to_list (get t.entries x)) (taken_from (without_handle t x) hs) _)

-- no more handles leave than are named
pub few_taken : (t : Handles) (hs : List ℕ) → length (taken_from t hs) ≤ length hs
few_taken t [] = omega arith
few_taken t (h ∷ hs) = by (get t.entries h) (few_taken (without_handle t h) hs)
  where
    by : (o : Option Entry) → length (taken_from (without_handle t h) hs) ≤ length hs
        → length (option_to_list o ++ taken_from (without_handle t h) hs) ≤ length (h ∷ hs)
    by None few = omega (arith, few)
    by (Some e) few = omega (arith, few)

-- ---- a loop over values

pub released_more : (es : List Entry) (i : ℕ) (e : Entry) → i < length es → (r r2 r3 : Objects) → Releases (koids_in (take i es)) [] r r2
    → Releases ((get_or es i e).koid ∷ []) [] r2 r3 → Releases (koids_in (take (i + 1) es)) [] r r3
released_more es i e within r r2 r3 before last =
    rw (take_more es i e within, map-append (λ (x : Entry). x.koid) (take i es) (get_or es i e ∷ []))
    (releases_then (koids_in (take i es)) ((get_or es i e).koid ∷ []) [] r r2 r3 before last)

-- the table after one value more, and what left it
pub table_more : (hs : List ℕ) (i d : ℕ) → i < length hs → (t t2 t3 : Handles) → t2 ≡ without_handles t (take i hs) → t3 ≡ without_handle t2 (get_or hs i d)
    → t3 ≡ without_handles t (take (i + 1) hs)
table_more hs i d within t t2 t3 so_far last =
    rw (take_more hs i d within, without_more t (take i hs) (get_or hs i d)) (last ∙ ap (λ x. without_handle x (get_or hs i d)) so_far)

pub taken_then : (hs : List ℕ) (i d : ℕ) → i < length hs → (t t2 : Handles) (before es es2 : List Entry) → t2 ≡ without_handles t (take i hs)
    → es ≡ before ++ taken_from t (take i hs) → es2 ≡ es ++ option_to_list (get t2.entries (get_or hs i d)) → es2 ≡ before ++ taken_from t (take (i + 1) hs)
taken_then hs i d within t t2 before es es2 so_far taken last =
    rw (take_more hs i d within, taken_more t (take i hs) (get_or hs i d)) (last ∙ rw (taken, so_far) (append_assoc before (taken_from t (take i hs)) _))

-- room for each value that is left is room for those behind the next
pub room_left : (o : Option Entry) (es es2 : List Entry) (n i room room2 : ℕ) → i < n → length es + (n - i) ≤ room → es2 ≡ es ++ option_to_list o → room2 ≡ room
    → length es2 + (n - (i + 1)) ≤ room2
room_left None es es2 n i room room2 within so_far is same = rw (is, same, append-nil es) (omega (arith, within, so_far))
room_left (Some e) es es2 n i room room2 within so_far is same = rw (is, same, length-append es (e ∷ [])) (omega (arith, within, so_far))

closes_then : (t : Handles) (hs : List ℕ) (o : Option Entry) (r r2 r3 : Objects) → Releases (koids_in (taken_from t hs)) [] r r2 → Closes o r2 r3
    → Releases (koids_in (taken_from t hs ++ option_to_list o)) [] r r3
closes_then t hs None r r2 r3 before last = rw (last, append-nil (taken_from t hs)) before
closes_then t hs (Some e) r r2 r3 before last =
    rw (map-append (λ (x : Entry). x.koid) (taken_from t hs) (e ∷ [])) (releases_then (koids_in (taken_from t hs)) (e.koid ∷ []) [] r r2 r3 before last)

pub closes_more : (hs : List ℕ) (i d : ℕ) → i < length hs → (t t2 t3 : Handles) (r r2 r3 : Objects) → ClosesEach (take i hs) t r t2 r2
    → t3 ≡ without_handle t2 (get_or hs i d) → Closes (get t2.entries (get_or hs i d)) r2 r3 → KeepsListed r2 r3 → ClosesEach (take (i + 1) hs) t r t3 r3
closes_more hs i d within t t2 t3 r r2 r3 before table objects listed = record {
  table = table_more hs i d within t t2 t3 before.table table;
  objects = rw (take_more hs i d within, taken_more t (take i hs) (get_or hs i d))
      (closes_then t (take i hs) (get (without_handles t (take i hs)).entries (get_or hs i d)) r r2 r3 before.objects (rw (before.table) at objects));
  listed = listed_then r r2 r3 before.listed listed;
}

-- a value that isn't live closes nothing
pub none_closes : (v : ℕ) (t : Handles) (r : Objects) → get t.entries v ≡ None → ClosesEach (v ∷ []) t r t r
none_closes v t r gone = record { table = rw gone refl; objects = rw gone (none_goes r); listed = listed_same r }

no_value_of : {A B : Type 0} (f : A → B) (o : Option A) → option_map f o ≡ None → o ≡ None
no_value_of f None e = refl
no_value_of f (Some x) e = cc

-- a value that isn't live can't be replaced
pub not_live_refused : (pid : ℕ) (t : Handles) (r : Objects) (v asked : ℕ)
    → ◌≡◌ {A = Option (ℕ × Entry)} None (option_map (λ (e : Entry). (v, e)) (get t.entries v))
    → DoesTaking (Replaces pid t r v asked) wants_nothing (replace_refusal t.entries v asked) (v ∷ []) t r (Err status.BadHandle) t r
not_live_refused pid t r v asked e =
    let gone : get t.entries v ≡ None = no_value_of {B = ℕ × Entry} (λ (x : Entry). (v, x)) (get t.entries v) (sym e) in
    record { ok = tt; err = rw gone refl; closed = none_closes v t r gone }
