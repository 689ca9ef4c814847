-- The values that insertions get one after another: the freed ones, and then those above all that were made. They tell tables apart.
use Rattle.zl_rights.proofs.Common.{◌≡◌, ◌≢◌, ℕ, zero, suc, ◌+◌, List, [], ◌∷◌, ◌++◌, length, refl, sym, ap, arith}
use Rattle.zl_rights.specs.Values.{Free, IsNormal, offered, taken, coming, deepest}

-- so many values above one
unfoldable pub fresh : ℕ → ℕ → List ℕ
fresh zero made = []
fresh (suc n) made = (made + 1) ∷ fresh n (made + 1)

abbrev pub free_of : List ℕ → ℕ → Free
free_of vs made = record { freed = vs; made = made }

coming_fresh : (n made : ℕ) → coming n (free_of [] made) ≡ fresh n made
unfolding coming fresh
coming_fresh zero made = refl
coming_fresh (suc n) made = ap (λ vs. (made + 1) ∷ vs) (coming_fresh n (made + 1))

pub coming_is : (vs : List ℕ) (made n : ℕ) → coming (length vs + n) (free_of vs made) ≡ vs ++ fresh n made
unfolding coming
coming_is [] made n = let none : length {A = ℕ} [] + n ≡ n = omega arith in rw none (coming_fresh n made)
coming_is (v ∷ vs) made n =
    let shift : length (v ∷ vs) + n ≡ suc (length vs + n) = omega arith in
    rw shift (ap (λ us. v ∷ us) (coming_is vs made n))

-- ---- tables that go on alike are equal

abbrev first : List ℕ → ℕ
first [] = 0
first (v ∷ vs) = v

abbrev rest : List ℕ → List ℕ
rest [] = []
rest (v ∷ vs) = vs

abbrev GoAlike : Free → Free → Type 0
GoAlike f g = (n : ℕ) → coming n f ≡ coming n g

same_offered : (f g : Free) → GoAlike f g → offered f ≡ offered g
unfolding coming
same_offered f g alike = ap first (alike 1)

alike_taken : (f g : Free) → GoAlike f g → GoAlike (taken f) (taken g)
unfolding coming
alike_taken f g alike n = ap rest (alike (suc n))

-- where no value is freed, none comes as where some is
fresh_differs : (w : ℕ) (ws : List ℕ) (made other : ℕ) → deepest w ws ≢ other → GoAlike (free_of [] made) (free_of (w ∷ ws) other) → ⊥
unfolding deepest
fresh_differs w [] made other normal alike =
    let now = same_offered _ _ alike in
    let next = same_offered _ _ (alike_taken _ _ alike) in
    normal (omega (arith, now, next))
fresh_differs w (u ∷ us) made other normal alike = fresh_differs u us (made + 1) other normal (alike_taken _ _ alike)

go_alike : (vs ws : List ℕ) (made other : ℕ) → IsNormal (free_of vs made) → IsNormal (free_of ws other) → GoAlike (free_of vs made) (free_of ws other)
    → free_of vs made ≡ free_of ws other
unfolding deepest
go_alike [] [] made other n m alike = let now = same_offered _ _ alike in ap (free_of []) (omega (arith, now))
go_alike [] (w ∷ ws) made other n m alike = absurd (fresh_differs w ws made other m alike)
go_alike (v ∷ vs) [] made other n m alike = absurd (fresh_differs v vs other made n (λ k. sym (alike k)))
go_alike (v ∷ vs) (w ∷ ws) made other n m alike =
    let now : v ≡ w = same_offered _ _ alike in
    let later = go_alike vs ws made other (loosened v vs made n) (loosened w ws other m) (alike_taken _ _ alike) in
    rw now (ap (λ (f : Free). free_of (w ∷ f.freed) f.made) later)
  where
    loosened : (u : ℕ) (us : List ℕ) (most : ℕ) → deepest u us ≢ most → IsNormal (free_of us most)
    loosened u [] most normal = λ same. omega (arith, same)
    loosened u (t ∷ ts) most normal = normal

pub same_free : (f g : Free) → IsNormal f → IsNormal g → GoAlike f g → f ≡ g
same_free f g n m alike = go_alike f.freed g.freed f.made g.made n m alike
