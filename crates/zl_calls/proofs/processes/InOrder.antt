-- The list of processes stays in order where none changes its koid, and where a newer one comes behind the others.
use Rattle.zl_calls.proofs.Common.{ClosesEnded, IsTrue, List, Objects, Process, ProcessValue, Some, [], ap, get_or, has_key, has_key-update, is_over, is_sorted}
use Rattle.zl_calls.proofs.Common.{is_sorted-update, lives_on, map, map-append, nat_cmp, process_entry, process_value, put, put_last, refl, set, slice_get}
use Rattle.zl_calls.proofs.Common.{sorted_put, suc, sym, update, zero, ℕ, ◌++◌, ◌<◌, ◌∙◌, ◌∷◌, ◌≡◌}
use Rattle.zl_calls.proofs.lists.Updates.{seen_entry, sorted_seen}
use Rattle.zl_calls.proofs.parts.StartCalls.{writes_at}

abbrev koids_of : List Process → List ℕ
koids_of ps = map (λ (p : Process). p.pid) ps

-- by their koids alone
abbrev by_koid : List ℕ → List (ℕ × ℕ)
by_koid ks = map (λ (k : ℕ). (k, 0)) ks

abbrev unseen : ProcessValue → ℕ
unseen q = 0

pairs : (ps : List Process) → map (seen_entry unseen) (map process_entry ps) ≡ by_koid (koids_of ps)
pairs [] = refl
pairs (p ∷ ps) = ap (λ (m : List (ℕ × ℕ)). (p.pid, 0) ∷ m) (pairs ps)

told : (ps : List Process) → is_sorted nat_cmp (map process_entry ps) ≡ is_sorted nat_cmp (by_koid (koids_of ps))
told ps = sym (sorted_seen unseen (map process_entry ps)) ∙ ap (λ (m : List (ℕ × ℕ)). is_sorted nat_cmp m) (pairs ps)

same_order : (ps qs : List Process) → koids_of qs ≡ koids_of ps → IsTrue (is_sorted nat_cmp (map process_entry ps))
    → IsTrue (is_sorted nat_cmp (map process_entry qs))
same_order ps qs same sorted = told qs ∙ (ap (λ (ks : List ℕ). is_sorted nat_cmp (by_koid ks)) same ∙ (sym (told ps) ∙ sorted))

-- what was read at the place is written there
pub set_in_order : (p p2 : Process) → p2.pid ≡ p.pid → (ps : List Process) (n : ℕ) → p ≡ get_or ps n p → IsTrue (is_sorted nat_cmp (map process_entry ps))
    → IsTrue (is_sorted nat_cmp (map process_entry (set ps n p2)))
set_in_order p p2 same ps n read = same_order ps (set ps n p2) (koids ps n read)
  where
    koids : (ps : List Process) (n : ℕ) → p ≡ get_or ps n p → koids_of (set ps n p2) ≡ koids_of ps
    koids [] n read = refl
    koids (x ∷ ps) zero read = λ i. (same ∙ ap (λ (q : Process). q.pid) read) i ∷ koids_of ps
    koids (x ∷ ps) (suc n) read = ap (λ (ks : List ℕ). x.pid ∷ ks) (koids ps n read)

-- each of them changes
pub all_in_order : (f : Process → Process) → ((p : Process) → (f p).pid ≡ p.pid) → (ps : List Process) → IsTrue (is_sorted nat_cmp (map process_entry ps))
    → IsTrue (is_sorted nat_cmp (map process_entry (map f ps)))
all_in_order f same ps = same_order ps (map f ps) (koids ps)
  where
    koids : (ps : List Process) → koids_of (map f ps) ≡ koids_of ps
    koids [] = refl
    koids (p ∷ ps) = λ i. same p i ∷ koids ps i

-- those that are over close their handles
pub closed_pid : (p p2 : Process) (r r2 : Objects) → ClosesEnded p r p2 r2 → p2.pid ≡ p.pid
closed_pid _ _ _ _ (lives_on p r lives) = refl
closed_pid _ _ _ _ (is_over p p2 r r2 over same none no_last drains ends) = ap (λ (q : Process). q.pid) same

-- p, at the place, has become p2, and the new one has a koid that wasn't given before
pub pushed_in_order : (ps : List Process) (place : ℕ) (p p2 new : Process) → slice_get ps place ≡ Some p → p2.pid ≡ p.pid
    → IsTrue (is_sorted nat_cmp (map process_entry ps)) → ((k : ℕ) → IsTrue (has_key (map process_entry ps) k) → k < new.pid)
    → IsTrue (is_sorted nat_cmp (map process_entry (set ps place p2 ++ new ∷ [])))
pushed_in_order ps place p p2 new at same sorted given =
    let mid : List Process = set ps place p2 in
    let mid_is : map process_entry mid ≡ update (map process_entry ps) p.pid (λ _. process_value p2) =
    (writes_at ps place p p2 sorted at same).writes (λ _. process_value p2) refl in
    let in_order : IsTrue (is_sorted nat_cmp (map process_entry mid)) =
    rw (mid_is, is_sorted-update (map process_entry ps) p.pid (λ _. process_value p2)) sorted in
    let given_too : (k : ℕ) → IsTrue (has_key (map process_entry mid) k) → k < new.pid =
    λ k there. given k (sym (has_key-update (map process_entry ps) p.pid (λ _. process_value p2) k) ∙ (rw mid_is at there)) in
    let list_is : map process_entry (mid ++ new ∷ []) ≡ put (map process_entry mid) new.pid (process_value new) =
    map-append process_entry mid (new ∷ []) ∙ sym (put_last (map process_entry mid) new.pid (process_value new) given_too) in
    rw list_is (sorted_put (map process_entry mid) new.pid (process_value new) in_order)
