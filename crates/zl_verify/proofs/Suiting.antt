-- The edges that are followed suit the blocks of an image in range, and the counters behind them are right.
use Rattle.zl_verify.proofs.Common.{AllByRecursion, AreCounters, AreCountersAt, AreTargets, Bool, Cause, Edge, Err, Image, Instr, IsNested, IsTrue, List, Mark}
use Rattle.zl_verify.proofs.Common.{None, Ok, OneOf, Option, Result, Some, Spot, State, Targets, [], and_then, arith, at, blocks_at, bounds_of, call_at}
use Rattle.zl_verify.proofs.Common.{edge_to, end_of, ends_by, false, if◌then◌else◌, imm_of, inl, inr, instr_at, is_in_range, is_pause, leads, leads_by, length}
use Rattle.zl_verify.proofs.Common.{local_in, local_rule, mark_of, marks_of, nat_le, nat_lt, onward, option_map, option_to_list, refl, rule, rule_by, rule_with}
use Rattle.zl_verify.proofs.Common.{slice_get, slice_get-map, spots, spots_to, subst, sym, targets_of, then_some, true, ℕ, ◌++◌, ◌+◌, ◌∙◌, ◌∷◌, ◌≡◌, ◌≢◌, ◌⊎◌}
use Rattle.zl_code.specs.declared.blocks.Mark.TheVariants as mark
use Rattle.zl_code.specs.declared.instr.Instr.TheVariants as instr
use Rattle.zl_code.specs.declared.instr.LocalInstr.TheVariants as local
use Rattle.zl_code.proofs.Nested.{begins, blocks}
use Rattle.zl_abs.specs.declared.cause.Cause.TheVariants as cause
use Rattle.zl_abs.specs.LocalRules.{goes_round_again}
use Rattle.zl_verify.specs.Longest.{past}
use Rattle.zl_verify.proofs.Blocked.{LeadSo, back_or_not, nest, nested, nowhere_so, onward_leads}
use Rattle.zl_verify.proofs.LookingAhead.{rule_ahead}
use Rattle.zl_verify.proofs.Walking.{AllCounted, Block, block_by, end_spots, in_blocks, past_counted}

-- ---- where they lead

module _ (i : Image) (range : IsTrue (is_in_range i)) where
  abbrev marks : List Mark
  marks = marks_of i.code

  module _ (n : ℕ) (s : State) where
    by_rule : (o : Option Instr) → LeadSo marks (option_map mark_of o) n (onward i n (local_in o))
        → LeadSo marks (option_map mark_of o) n (targets_of (rule_by (bounds_of i.code) i n s o))
    unfolding local_rule
    by_rule (Some (instr.Local (local.Rep imm e))) h = by (nat_lt (n + 1) (length i.code))
      where
        by : (b : Bool) → LeadSo marks (Some (mark.Rep imm e)) n (targets_of (and_then {A = List Edge} (if b then Ok ((n + 1, s) ∷ []) else Err cause.FallsOff)
            (λ ys. Ok ys)))
        by true = inr refl
        by false = inl refl
    by_rule (Some (instr.Local (local.EndRep r))) h = by (nat_lt (n + 1) (length i.code)) (goes_round_again i.code r)
      where
        Ends : Bool → Result (List Edge) Cause → Type 0
        Ends again x = (targets_of x ≡ []) ⊎ (targets_of x ≡ option_to_list (then_some again (r + 1)) ++ ((n + 1) ∷ []))

        back : (on b : Bool) → Ends true (and_then {A = List Edge} (if b then Ok ((r + 1, s) ∷ []) else Err cause.BadJump)
            (λ xs. and_then {A = List Edge} (if on then Ok ((n + 1, s) ∷ []) else Err cause.FallsOff) (λ ys. Ok (xs ++ ys))))
        back true true = inr refl
        back false true = inl refl
        back on false = inl refl

        by : (on again : Bool) → Ends again (and_then (edge_to (length i.code) cause.BadJump (r + 1) (then_some again s))
            (λ xs. and_then {A = List Edge} (if on then Ok ((n + 1, s) ∷ []) else Err cause.FallsOff) (λ ys. Ok (xs ++ ys))))
        by on true = back on (nat_lt (r + 1) (length i.code))
        by true false = inr refl
        by false false = inl refl
    by_rule (Some (instr.Local x)) h = rule_ahead (λ m. blocks_at marks m ≡ blocks_at marks n) i n s (Some (instr.Local x)) h
    by_rule o h = rule_ahead (λ m. blocks_at marks m ≡ blocks_at marks n) i n s o h

    pub rule_leads : LeadSo (marks_of i.code) (slice_get (marks_of i.code) n) n (targets_of (rule i n s))
    unfolding rule_with
    rule_leads = rw (slice_get-map mark_of i.code n) (by_rule (instr_at i n) (rw (slice_get-map mark_of i.code n) at (onward_leads i range n)))

  pub typed_leads : (n : ℕ) (o : Option State) → LeadSo (marks_of i.code) (slice_get (marks_of i.code) n) n (leads_by i n o)
  typed_leads n None = nowhere_so marks (slice_get marks n) n
  typed_leads n (Some s) = by (is_pause (call_at i n))
    where
      by : (b : Bool) → LeadSo marks (slice_get marks n) n (if b then [] else targets_of (rule i n s))
      by true = nowhere_so marks (slice_get marks n) n
      by false = rule_leads n s

  pub ends_lead : (n : ℕ) (o : Option State) → LeadSo (marks_of i.code) (slice_get (marks_of i.code) n) n (ends_by i n o)
  ends_lead n None = nowhere_so marks (slice_get marks n) n
  ends_lead n (Some s) = rule_leads n s

  pub typed_nested : (states : List (Option State)) (targets : List Targets) → AreTargets i states targets → length states ≡ length i.code
      → IsNested (marks_of i.code) targets
  typed_nested states targets are long =
      nested i range targets (leads i (at states)) (are.long ∙ long) (λ n l. are.same n) (λ n l. are.packed n) (λ n. typed_leads n (at states n))

  -- ---- the counters behind them

  -- the block that an endrep ends
  ended : (n r : ℕ) → slice_get marks n ≡ Some (mark.EndRep r) → Block marks [] r (imm_of marks r) n
  ended n r q =
      let rep = begins marks (nest i range) n r q in block_by marks [] r (imm_of marks r) n rep (blocks marks (nest i range) r (imm_of marks r) n rep)

  -- the block that a rep begins
  begun : (n imm e : ℕ) → slice_get marks n ≡ Some (mark.Rep imm e) → Block marks [] n imm e
  begun n imm e q = block_by marks [] n imm e q (blocks marks (nest i range) n imm e q)

  pub ends_here : (n r : ℕ) → slice_get (marks_of i.code) n ≡ Some (mark.EndRep r) → end_of (marks_of i.code) r ≡ n
  ends_here n r q = (ended n r q).end_is

  pub in_ended : (n r : ℕ) (cs : List ℕ) → slice_get (marks_of i.code) n ≡ Some (mark.EndRep r) → AreCountersAt i n cs
      → AreCounters (marks_of i.code) (r ∷ blocks_at (marks_of i.code) r) cs
  in_ended n r cs q c = rw (ended n r q).last at c

  -- an endrep leads to one spot
  pub past_end : (n r : ℕ) (cs : List ℕ) → slice_get (marks_of i.code) n ≡ Some (mark.EndRep r) → AreCountersAt i n cs
      → spots (Some (mark.EndRep r)) n cs (option_to_list (then_some (nat_le 2 (imm_of (marks_of i.code) r)) (r + 1)) ++ ((n + 1) ∷ []))
      ≡ past (marks_of i.code) (r ∷ blocks_at (marks_of i.code) r) cs ∷ []
  past_end n r cs q c =
      end_spots marks [] n r (imm_of marks r) (ended n r q) (then_some (nat_le 2 (imm_of marks r)) (r + 1)) (back_or_not (imm_of marks r) r) cs
      (in_ended n r cs q c)

  along : (n : ℕ) (cs ms : List ℕ) (k : Option Mark) → slice_get marks n ≡ k → LeadSo marks k n ms → AreCountersAt i n cs → AllCounted marks (spots k n cs ms)
  along n cs ms None q so c = in_blocks marks [] n cs ms c so
  along n cs ms (Some mark.Plain) q so c = in_blocks marks [] n cs ms c so
  along n cs ms (Some (mark.Rep imm e)) q so c = elim so [
    | inl h ↦ rw h tt
    | inr h ↦ (let b = begun n imm e q in rw h (rw b.first (b.counted, omega (arith, b.imm_is), c), tt))
  ]
  along n cs ms (Some (mark.EndRep r)) q so c = elim so [
    | inl h ↦ rw h tt
    | inr h ↦ rw (h, past_end n r cs q c) (past_counted marks [] n r (imm_of marks r) cs (ended n r q) (in_ended n r cs q c))
  ]

  end_leads_some : (n r : ℕ) (cs ms : List ℕ) → slice_get marks n ≡ Some (mark.EndRep r) → LeadSo marks (Some (mark.EndRep r)) n ms → AreCountersAt i n cs
      → ms ≢ [] → spots (Some (mark.EndRep r)) n cs ms ≢ []
  end_leads_some n r cs ms q so c some = elim so [ inl h ↦ absurd (some h) | inr h ↦ rw (h, past_end n r cs q c) (λ z. cc) ]

  -- what leads on leads on with each counters
  leads_some : (n : ℕ) (cs ms : List ℕ) (k : Option Mark) → slice_get marks n ≡ k → LeadSo marks k n ms → AreCountersAt i n cs → ms ≢ []
      → spots k n cs ms ≢ []
  leads_some n cs [] k q so c some = absurd (some refl)
  leads_some n cs (m ∷ ms) None q so c some = λ z. cc
  leads_some n cs (m ∷ ms) (Some mark.Plain) q so c some = λ z. cc
  leads_some n cs (m ∷ ms) (Some (mark.Rep imm e)) q so c some = λ z. cc
  leads_some n cs (m ∷ ms) (Some (mark.EndRep r)) q so c some = end_leads_some n r cs (m ∷ ms) q so c some

  pub goes_somewhere : (p : Spot) (ms : List ℕ) → LeadSo (marks_of i.code) (slice_get (marks_of i.code) p.0) p.0 ms → AreCountersAt i p.0 p.1 → ms ≢ []
      → spots_to i p ms ≢ []
  goes_somewhere p ms so c some = leads_some p.0 p.1 ms (slice_get marks p.0) refl so c some

  one_of_all : (P : Spot → Type 0) (q : Spot) (ps : List Spot) → AllByRecursion P ps → OneOf (λ p. q ≡ p) ps → P q
  one_of_all P q [] a h = absurd h
  one_of_all P q (p ∷ ps) a (inl e) = subst P (sym e) a.0
  one_of_all P q (p ∷ ps) a (inr h) = one_of_all P q ps a.1 h

  -- counters that are right before an edge are so behind it
  pub counted_there : (n : ℕ) (cs ms : List ℕ) (q : Spot) → LeadSo (marks_of i.code) (slice_get (marks_of i.code) n) n ms → AreCountersAt i n cs
      → OneOf (λ p. q ≡ p) (spots_to i (n, cs) ms) → AreCountersAt i q.0 q.1
  counted_there n cs ms q so c h =
      one_of_all (λ p. AreCountersAt i p.0 p.1) q (spots_to i (n, cs) ms) (along n cs ms (slice_get marks n) refl so c) h
