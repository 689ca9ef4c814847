-- The rule of an instruction at a state and at one below it, with its edges.
use Rattle.zl_abs.proofs.Common.{AreAmong, Cause, Edge, Err, Image, Instr, IsAmong, IsTrue, List, None, Ok, Option, Result, RuleBelow, Some, State, Ways}
use Rattle.zl_abs.proofs.Common.{[], all_below, call_rule, edge_to, edges, inl, inr, instr_at, length, local_rule, ltb, refl, rule_by}
use Rattle.zl_abs.proofs.Common.{rule_with, target_of, ℕ, ◌++◌, ◌+◌, ◌∷◌}
use Rattle.zl_code.specs.declared.instr.Instr.TheVariants as instr
use Rattle.zl_abs.specs.declared.cause.Cause.TheVariants as cause
use Rattle.zl_abs.proofs.Lowering.{both_by, Lowers, WayBelow, WaysBelow, lowers_then}
use Rattle.zl_abs.proofs.LocalLowering.{local_below}
use Rattle.zl_abs.proofs.CallLowering.{call_below}
use Rattle.std.proofs.lemmas.Bool.{cond_both}

abbrev EdgesBelow : List Edge → List Edge → Type 0
EdgesBelow es fs = AreAmong fs es

among_left : (fs gs : List Edge) (e : Edge) → IsAmong fs e → IsAmong (fs ++ gs) e
among_left [] gs e h = absurd h
among_left (f ∷ fs) gs e (inl h) = inl h
among_left (f ∷ fs) gs e (inr h) = inr (among_left fs gs e h)

among_right : (fs gs : List Edge) (e : Edge) → IsAmong gs e → IsAmong (fs ++ gs) e
among_right [] gs e h = h
among_right (f ∷ fs) gs e h = inr (among_right fs gs e h)

both_among : (fs gs es ds : List Edge) → AreAmong fs es → AreAmong gs ds → AreAmong (fs ++ gs) (es ++ ds)
both_among fs gs [] [] h k = tt
both_among fs gs [] (d ∷ ds) h k = (among_right fs gs d (k.0), both_among fs gs [] ds h (k.1))
both_among fs gs (e ∷ es) ds h k = (among_left fs gs e (h.0), both_among fs gs es ds (h.1) k)

edge_below : (size : ℕ) (c : Cause) (n : ℕ) (o p : Option State) → WayBelow o p → Lowers EdgesBelow (edge_to size c n o) (edge_to size c n p)
edge_below size c n None None h = tt
edge_below size c n None (Some t) h = cond_both (ltb n size) (Ok ((n, t) ∷ [])) (Err c) (λ r. Lowers EdgesBelow (Ok []) r) (λ _. tt) (λ _. tt)
edge_below size c n (Some s) None h = absurd h
edge_below size c n (Some s) (Some t) h =
    both_by (Lowers EdgesBelow) (ltb n size) (Ok ((n, s) ∷ [])) (Err c) (Ok ((n, t) ∷ [])) (Err c) (inl (refl, h), tt) tt

edges_below : (size place target : ℕ) (v w : Ways) → WaysBelow v w → Lowers EdgesBelow (edges size place target v) (edges size place target w)
edges_below size place target v w h =
    lowers_then EdgesBelow EdgesBelow _ _ _ _ (edge_below size cause.BadJump target v.jumped w.jumped h.0)
    (λ es fs p. lowers_then EdgesBelow EdgesBelow _ _ _ _ (edge_below size cause.FallsOff (place + 1) v.passed w.passed h.1)
    (λ ds gs q. both_among fs gs es ds p q))

-- what Lowers says is what the law says
told : (x y : Result (List Edge) Cause) → Lowers EdgesBelow x y → RuleBelow x y
told x (Err c) h = tt
told (Err c) (Ok fs) h = h
told (Ok es) (Ok fs) h = h

pub rule_below : (bounds : List ℕ) (i : Image) (n : ℕ) (s t : State) → IsTrue (all_below s t) → RuleBelow (rule_with bounds i n s) (rule_with bounds i n t)
unfolding rule_with
rule_below bounds i n s t h = told _ _ (by (instr_at i n))
  where
    by : (o : Option Instr) → Lowers EdgesBelow (rule_by bounds i n s o) (rule_by bounds i n t o)
    by None = tt
    by (Some (instr.Local x)) =
        lowers_then WaysBelow EdgesBelow (local_rule bounds i x s) (local_rule bounds i x t) _ _ (local_below bounds i x s t h)
        (λ v w k. edges_below (length i.code) n (target_of x) v w k)
    by (Some (instr.Call x)) =
        lowers_then WaysBelow EdgesBelow (call_rule bounds i x s) (call_rule bounds i x t) _ _ (call_below bounds i x s t h)
        (λ v w k. edges_below (length i.code) n 0 v w k)
    by (Some (instr.Unknown bytes)) = tt
