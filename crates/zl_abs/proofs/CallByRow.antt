-- The rule of a call by its row.
use Rattle.zl_abs.proofs.Common.{AbsVal, CallInstr, Cause, Err, Image, List, None, Ok, Result, Row, Some, State, Uses, [], and_then, ap, array_fault}
use Rattle.zl_abs.proofs.Common.{array_in, call_row, call_rule, call_rule_by, examined_all, finished, goes_on, if◌then◌else◌, is_written, passes, received_in}
use Rattle.zl_abs.proofs.Common.{refl, state_after, stops, subst, sym, those, uses_by, uses_of, values_of, zip, ℕ, ◌++◌, ◌∙◌, ◌∷◌, ◌≡◌}
use Rattle.zl_abs.specs.declared.value.AbsVal.TheVariants.{Word}

-- what a call of the row uses, where its destinations among the registers get these values
abbrev used_at : CallInstr → List AbsVal → Row → Uses
used_at i values r = record (uses_by r i []) { results = zip (those is_written r.fields 0 i.registers) values ++ received_in r.ending i }

-- these values serve for those that the rule gives
abbrev Serve : List ℕ → State → CallInstr → List AbsVal → Row → Type 0
Serve bounds s i values r =
    zip (those is_written r.fields 0 i.registers) values ≡ zip (those is_written r.fields 0 i.registers) (Word 30 ∷ values_of bounds s i)

module _ (bounds : List ℕ) (image : Image) (s : State) (i : CallInstr) (r : Row) (here : r ≡ call_row i.name) where
  rule_by_row : call_rule bounds image i s
      ≡ and_then (state_after image s (uses_by r i (values_of bounds s i))) (λ t. Ok (if goes_on i.name then passes t else stops))
  unfolding call_rule uses_of
  rule_by_row = ap (λ q. call_rule_by image s (goes_on i.name) (uses_by q i (values_of bounds s i))) (sym here)

  -- an operand is refused
  pub stopped : (c : Cause) → Err c ≡ examined_all s (used_at i [] r).operands → Err c ≡ call_rule bounds image i s
  stopped c e = sym (rule_by_row ∙ rw (sym e) refl)

  -- all are taken
  module _ (t : State) (e : Ok t ≡ examined_all s (used_at i [] r).operands) where
    -- the slot array is refused
    pub array_stopped : (c : Cause) → Some c ≡ array_fault image (array_in r.ending i) → Err c ≡ call_rule bounds image i s
    array_stopped c f = sym (rule_by_row ∙ rw (sym e, sym f) refl)

    pub ended : None ≡ array_fault image (array_in r.ending i) → (values : List AbsVal) → Serve bounds s i values (call_row i.name)
        → (x : Result State Cause) → x ≡ finished image s t (used_at i values r)
        → and_then x (λ u. Ok (if goes_on i.name then passes u else stops)) ≡ call_rule bounds image i s
    ended none values serve x f = sym (rule_by_row ∙ rw (sym e, sym none, f, subst (Serve bounds s i values) (sym here) serve) refl)
