use Rattle.zl_code.proofs.Common.{None, Some, ap, false≢true, refl, subst, sym, ◌+◌, ◌∙◌}
use Rattle.std.proofs.lemmas.Option.{slice_get_within}
use Rattle.zl_explore.specs.Kept.{Goes, moved_on, told_of}
use Rattle.zl_explore.specs.Paths.{IsIn}
use Rattle.zl_explore.specs.declared.ends.End.{End}
use Rattle.zl_explore.specs.declared.ends.Next.TheVariants as next
use Rattle.zl_explore.specs.declared.kept.Kept.{Kept}
use Rattle.zl_explore.proofs.Keeping.{end_states, end_told, memory_goes, whole_ended}
use Rattle.zl_explore.proofs.kept.Kept.end_here.Goals as goal

pub turns_to-requires-clause-within : goal.turns_to-requires-clause-within
turns_to-requires-clause-within c =
    slice_get_within c.args.self.now.nodes.items c.args.self.now.widened c.requires.end.node c.requires.end.there

pub returns-in_default-found : goal.returns-in_default-found
returns-in_default-found c =
    let old = c.args.self.now in
    let other = end_states old.nodes.items old.widened c.requires.end None (rw c.in_default-found.is at (c.in-Ok.ensures {u = tt})) in
    subst (λ new. Goes old None new) (sym c.move_on.ensures) (record {
      whole = whole_ended _ _ c.requires.whole refl refl refl refl refl refl c.requires.end c.requires.whole.told
          (λ of. absurd (false≢true (sym other ∙ of))) c.requires.clear;
      root = refl;
      part = refl;
      told = refl;
      leads = tt;
      moves = refl;
      most = refl;
      cut = tt;
      never = refl;
    })

pub returns-then-is_told : goal.returns-then-is_told
returns-then-is_told c =
    let old = c.args.self.now in
    let is = end_states old.nodes.items old.widened c.requires.end (Some c.in-Some.states.items)
    (rw c.in-Some.is at (c.in-Ok.ensures {u = tt})) in
    let inside : IsIn (told_of old) c.in-Some.states.items =
    rw (c.deref-2.ensures.value, c.deref-3.ensures.value) at (c.is_told.ensures c.if-is_told.true) in
    subst (λ new. Goes old None new) (sym c.move_on-then-is_told.ensures) (record {
      whole = whole_ended _ _ c.requires.whole refl refl refl refl refl refl c.requires.end c.requires.whole.told
          (λ of. subst (IsIn (told_of old)) is.1 inside) c.requires.clear;
      root = refl;
      part = refl;
      told = refl;
      leads = tt;
      moves = refl;
      most = refl;
      cut = tt;
      never = refl;
    })

pub returns-in_default-keep_told : goal.returns-in_default-keep_told
returns-in_default-keep_told c =
    memory_goes c.args.self.now _ c.requires.whole c.keep_told.ensures.root c.keep_told.ensures.part c.keep_told.ensures.never c.keep_told.ensures.nodes
    c.keep_told.ensures.course c.keep_told.ensures.widened c.keep_told.ensures.most (c.in_default-keep_told.ensures {u = tt}).err

pub returns : goal.returns
returns c =
    let old = c.args.self.now in
    let is = end_states old.nodes.items old.widened c.requires.end (Some c.in-Some.states.items)
    (rw c.in-Some.is at (c.in-Ok.ensures {u = tt})) in
    let end : End = record { states = c.in-Some.states; turns = c.in-Ok-taken_by.turns } in
    subst (λ (new : Kept). Goes old (Some (next.End end)) new) (sym c.move_on-2.ensures)
    (end_told old (moved_on c.keep_told.new.self) c.requires.whole c.requires.end end c.in-Ok-turns_to.turns.items
    is (c.in-Ok-turns_to.ensures {u = tt}) (rw c.deref-4.ensures.value at (c.in-Ok-taken_by.ensures {u = tt}))
    c.keep_told.ensures.root c.keep_told.ensures.part c.keep_told.ensures.never c.requires.clear c.keep_told.ensures.nodes
    c.keep_told.ensures.course (ap (λ n. n + 1)
    c.keep_told.ensures.widened) c.keep_told.ensures.most
    (rw c.deref-5.ensures.value at (c.in-Ok-keep_told.ensures {u = tt}).ok))
