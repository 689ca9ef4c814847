use Rattle.zl_objects.proofs.Common.{Listed, ap, arith, is_entry_due, list_any, option_map, suc, sym, take, ℕ, ◌+◌, ◌∙◌, ◌≡◌}
use Rattle.std.proofs.lemmas.Option.{slice_get_within}
use Rattle.zl_objects.proofs.Lists.{found_at, none_found, none_next}
use Rattle.zl_objects.proofs.listing.first_holding.Goals as goal

pub loop-listed-init : goal.loop-listed-init
loop-listed-init c = c.requires.before

pub returns-then-is_holding-clause-object : goal.returns-then-is_holding-clause-object
returns-then-is_holding-clause-object c =
    sym (ap (option_map (λ (x : Listed). x.wait.object)) (found_at (is_entry_due c.args.by_koid.now.entries) c.args.waits.now.entries.items c.loop-listed.place
    c.in-Some.listed (sym (c.in-Some.ensures {u = tt}).entry) c.loop-listed.invariant (sym (c.if-is_holding.ensures {u = tt}))))

pub returns-then-is_holding-clause-before : goal.returns-then-is_holding-clause-before
returns-then-is_holding-clause-before c = c.loop-listed.invariant

pub loop-listed-smaller : goal.loop-listed-smaller
loop-listed-smaller c =
    omega (arith, slice_get_within c.args.waits.now.entries.items c.loop-listed.place c.in-Some.listed (sym (c.in-Some.ensures {u = tt}).entry))

pub loop-listed-preserved : goal.loop-listed-preserved
loop-listed-preserved c =
    let test = is_entry_due c.args.by_koid.now.entries in
    let next : c.loop-listed.place + 1 ≡ suc c.loop-listed.place = omega arith in
    ap (λ (n : ℕ). list_any test (take n c.args.waits.now.entries.items)) next
    ∙ none_next test c.args.waits.now.entries.items c.loop-listed.place c.in-Some.listed (sym (c.in-Some.ensures {u = tt}).entry) c.loop-listed.invariant
    (sym c.is_holding.ensures ∙ c.if-is_holding.false)

pub returns-clause-object : goal.returns-clause-object
returns-clause-object c =
    sym (ap (option_map (λ (x : Listed). x.wait.object)) (none_found (is_entry_due c.args.by_koid.now.entries) c.args.waits.now.entries.items
    c.loop-listed.place (sym (c.in_default.ensures {u = tt}).entry) c.loop-listed.invariant))
