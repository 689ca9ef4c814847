use Rattle.std.proofs.Common.{List, Some, [], ap, arith, length, length-append, refl, slice_get, subst, sym, ℕ, ◌++◌, ◌∷◌, ◌-◌, ◌≡◌}
use mathlib.Core.Logic.{inr}
use Rattle.zl_explore.proofs.Lists.{get_last}
use Rattle.zl_explore.proofs.search.place_of.Goals as goal

pub returns-clause-some : goal.returns-clause-some
returns-clause-some g c =
    let old = c.args.nodes.now.items in
    let is : c.push-2.new.self.items ≡ old ++ (c.args.node ∷ []) = (c.in_ok-push-2.ensures {u = tt}).ok in
    let last : length old ≡ c.len-2.result - 1 = omega (arith, c.len-2.ensures, ap length is, length-append old (c.args.node ∷ [])) in record {
      is = inr is;
      stands = record {
        node = c.args.node;
        there = subst (λ (k : ℕ). slice_get c.push-2.new.self.items k ≡ Some c.args.node) last
            (subst (λ (x : List _). slice_get x (length old) ≡ Some c.args.node) (sym is) (get_last old c.args.node));
        is = refl;
      };
    }
