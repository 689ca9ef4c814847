-- The order of states, and that their join is the least above both.
use Rattle.zl_abs.proofs.Common.{AbsVal, AllAboveJoin, IsAboveJoin, IsTrue, JoinIsAbove, JoinIsAllAbove, List, None, Option, Some, [], all_below}
use Rattle.zl_abs.proofs.Common.{all_joined, and_parts, below, cons_if, joined, refl, ◌∷◌}
use Rattle.zl_abs.proofs.Order.{below_refl, below_trans, joined_left, joined_right, joined_least}
use Rattle.std.proofs.lemmas.Bool.{and_from}

pub all_below_refl : (s : List AbsVal) → IsTrue (all_below s s)
unfolding all_below
all_below_refl [] = refl
all_below_refl (a ∷ s) = and_from _ _ (below_refl a) (all_below_refl s)

pub all_below_trans : (s t u : List AbsVal) → IsTrue (all_below s t) → IsTrue (all_below t u) → IsTrue (all_below s u)
unfolding all_below
all_below_trans [] [] u h k = k
all_below_trans (a ∷ s) (b ∷ t) (c ∷ u) h k =
    let p = and_parts (below a b) (all_below s t) h in
    let q = and_parts (below b c) (all_below t u) k in
    and_from _ _ (below_trans a b c p.0 q.0) (all_below_trans s t u p.1 q.1)
all_below_trans _ _ _ h k = cc

pub all_joined_left : (s t : List AbsVal) → JoinIsAllAbove s (all_joined s t)
unfolding all_below all_joined
all_joined_left [] [] = refl
all_joined_left [] (b ∷ t) = tt
all_joined_left (a ∷ s) [] = tt
all_joined_left (a ∷ s) (b ∷ t) = by (joined a b) (all_joined s t) (joined_left a b) (all_joined_left s t)
  where
    by : (o : Option AbsVal) (p : Option (List AbsVal)) → JoinIsAbove a o → JoinIsAllAbove s p → JoinIsAllAbove (a ∷ s) (cons_if o p)
    by None _ h k = tt
    by (Some v) None h k = tt
    by (Some v) (Some u) h k = and_from _ _ h k

pub all_joined_right : (s t : List AbsVal) → JoinIsAllAbove t (all_joined s t)
unfolding all_below all_joined
all_joined_right [] [] = refl
all_joined_right [] (b ∷ t) = tt
all_joined_right (a ∷ s) [] = tt
all_joined_right (a ∷ s) (b ∷ t) = by (joined a b) (all_joined s t) (joined_right a b) (all_joined_right s t)
  where
    by : (o : Option AbsVal) (p : Option (List AbsVal)) → JoinIsAbove b o → JoinIsAllAbove t p → JoinIsAllAbove (b ∷ t) (cons_if o p)
    by None _ h k = tt
    by (Some v) None h k = tt
    by (Some v) (Some u) h k = and_from _ _ h k

pub all_joined_least : (s t d : List AbsVal) → IsTrue (all_below s d) → IsTrue (all_below t d) → AllAboveJoin d (all_joined s t)
unfolding all_below all_joined
all_joined_least [] [] d h k = h
all_joined_least [] (b ∷ t) [] h k = cc
all_joined_least [] (b ∷ t) (c ∷ d) h k = cc
all_joined_least (a ∷ s) [] [] h k = cc
all_joined_least (a ∷ s) [] (c ∷ d) h k = cc
all_joined_least (a ∷ s) (b ∷ t) [] h k = cc
all_joined_least (a ∷ s) (b ∷ t) (c ∷ d) h k =
    let p = and_parts (below a c) (all_below s d) h in
    let q = and_parts (below b c) (all_below t d) k in
    by (joined a b) (all_joined s t) (joined_least a b c p.0 q.0) (all_joined_least s t d p.1 q.1)
  where
    by : (o : Option AbsVal) (p : Option (List AbsVal)) → IsAboveJoin c o → AllAboveJoin d p → AllAboveJoin (c ∷ d) (cons_if o p)
    by None _ h k = absurd h
    by (Some v) None h k = absurd k
    by (Some v) (Some u) h k = and_from _ _ h k
