-- What is known of the operands of a call by its name.
use Rattle.zl_calls.proofs.Common.{Bool, CallInstr, CallName, Cpu, Entry, IsFaultless, IsSome, Map, None, [], ap, call_row, false, handle_operands}
use Rattle.zl_calls.proofs.Common.{has_its_memory, operands_fault, site_at, site_in, site_named, site_of, subst, then_some, true, ◌∙◌, ◌≡◌}

-- no operand of the call has a fault, where its memory is there
pub faultless_at : (i : CallInstr) (c : Cpu) (n : CallName) (entries : Map Entry) → i.name ≡ n → IsSome (site_of i c) → IsFaultless entries (site_of i c)
    → operands_fault entries [] (handle_operands (site_at n i c).request) ≡ None
faultless_at i c n entries is there passes =
    let same : site_of i c ≡ site_in n i c = site_named i c ∙ ap (λ m. site_in m i c) is in
    by (has_its_memory (call_row n).ending i c) (subst (λ o. IsSome o) same there) (subst (IsFaultless entries) same passes)
  where
    by : (t : Bool) → IsSome (then_some t (site_at n i c)) → IsFaultless entries (then_some t (site_at n i c))
        → operands_fault entries [] (handle_operands (site_at n i c).request) ≡ None
    by true there passes = passes
    by false there passes = absurd cc
