-- The pieces of an image, one after the other.
use Rattle.zl_code.proofs.Common.{Bool, DecodeFault, List, None, Option, Some, [], and_from, ap, arith, first_some, get_or, length, list_all, list_all-append}
use Rattle.zl_code.proofs.Common.{map, map-append, map_more, refl, suc, sym, take, take_more, true, zero, ℕ, ◌++◌, ◌+◌, ◌<◌, ◌∙◌, ◌∷◌, ◌≡◌}

first_of-none : (fault : Option DecodeFault) (rest : List (Option DecodeFault)) → first_some (fault ∷ rest) ≡ None → (fault ≡ None) × (first_some rest ≡ None)
first_of-none None rest h = (refl, h)
first_of-none (Some f) rest h = absurd cc

first_of-append : (xs ys : List (Option DecodeFault)) → first_some xs ≡ None → first_some (xs ++ ys) ≡ first_some ys
first_of-append [] ys h = refl
first_of-append (None ∷ xs) ys h = first_of-append xs ys h
first_of-append (Some f ∷ xs) ys h = absurd cc

-- the first fault is that of the first piece with one
pub first_fault_at : (f : List ℕ → Option DecodeFault) (pieces : List (List ℕ)) (i : ℕ) (d : List ℕ) (fault : DecodeFault) → i < length pieces
    → first_some (map f (take i pieces)) ≡ None → f (get_or pieces i d) ≡ Some fault → first_some (map f pieces) ≡ Some fault
first_fault_at f [] i d fault lt h here = absurd (omega arith)
first_fault_at f (x ∷ xs) zero d fault lt h here = rw here refl
first_fault_at f (x ∷ xs) (suc i) d fault lt h here =
    let parts = first_of-none (f x) (map f (take i xs)) h in
    rw parts.0 (first_fault_at f xs i d fault (omega arith) parts.1 here)

-- one more piece without a fault
pub no_fault_more : (f : List ℕ → Option DecodeFault) (pieces : List (List ℕ)) (i : ℕ) (d : List ℕ) → i < length pieces
    → first_some (map f (take i pieces)) ≡ None → f (get_or pieces i d) ≡ None → first_some (map f (take (i + 1) pieces)) ≡ None
no_fault_more f pieces i d lt h here =
    ap first_some (map_more f pieces i d lt) ∙ first_of-append (map f (take i pieces)) (f (get_or pieces i d) ∷ []) h ∙ rw here refl

-- one more that has the bytes of its piece
pub bytes_more : {X : Type 0} (spell : X → List ℕ) (xs : List X) (x : X) (pieces : List (List ℕ)) (i : ℕ) (d : List ℕ) → i < length pieces
    → map spell xs ≡ take i pieces → spell x ≡ get_or pieces i d → map spell (xs ++ x ∷ []) ≡ take (i + 1) pieces
bytes_more spell xs x pieces i d lt h here = map-append spell xs (x ∷ []) ∙ (λ k. h k ++ here k ∷ []) ∙ sym (take_more pieces i d lt)

pub list_all_push : {X : Type 0} (p : X → Bool) (xs : List X) (x : X) → list_all p xs ≡ true → p x ≡ true → list_all p (xs ++ x ∷ []) ≡ true
list_all_push p xs x h here = list_all-append p xs (x ∷ []) ∙ and_from (list_all p xs) (list_all p (x ∷ [])) h (and_from (p x) true here refl)
