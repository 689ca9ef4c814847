use Rattle.zl_code.proofs.Common.{List, length, subst, sym, ℕ, ◌≡◌}
use Rattle.zl_explore.specs.Kept.{search_of}
use Rattle.zl_explore.specs.Marks.{AreWithin}
use Rattle.zl_explore.specs.Telling.{TellsAll, TellsClear, TellsEndless, TellsNone, TellsPart}
use Rattle.zl_explore.specs.declared.ends.Next.TheVariants as next
use Rattle.zl_explore.proofs.Keeping.{all_here, all_within, clear_here, endless_here, known_here, none_here}
use Rattle.zl_explore.proofs.kept.Kept.all.Goals as goal

pub endless_place-requires : goal.endless_place-requires
endless_place-requires c =
    subst (λ (edges : List (ℕ × ℕ)). AreWithin edges c.len.result) (sym c.deref.ensures.value)
    (subst (AreWithin c.args.self.now.course.edges.items) (sym c.len.ensures) (all_within c.args.self.now
    c.requires.whole c.requires.enough))

pub returns-in-Ok-clause-known : goal.returns-in-Ok-clause-known
returns-in-Ok-clause-known c =
    let told = c.in-Ok.ensures {u = tt} in
    let count : c.len.result ≡ length c.args.self.now.nodes.items = c.len.ensures in
    subst (λ is. TellsPart (next.All is) (search_of c.args.self.now)) (sym c.is_some.ensures)
    (known_here c.args.self.now c.requires.whole c.requires.enough c.in-Ok.place (rw (c.deref.ensures.value, count) at told.some)
    (rw (c.deref.ensures.value, count) at told.none))

pub returns-in-Ok-clause-all : goal.returns-in-Ok-clause-all
returns-in-Ok-clause-all c =
    let told = c.in-Ok.ensures {u = tt} in
    let count : c.len.result ≡ length c.args.self.now.nodes.items = c.len.ensures in
    subst (λ is. TellsAll (next.All is) (search_of c.args.self.now)) (sym c.is_some.ensures)
    (all_here c.args.self.now c.requires.whole c.requires.enough c.in-Ok.place (rw (c.deref.ensures.value, count) at told.some)
    (rw (c.deref.ensures.value, count) at told.none))

pub returns-in-Ok-clause-none : goal.returns-in-Ok-clause-none
returns-in-Ok-clause-none c =
    let told = c.in-Ok.ensures {u = tt} in
    let count : c.len.result ≡ length c.args.self.now.nodes.items = c.len.ensures in
    subst (λ is. TellsNone (next.All is) (search_of c.args.self.now)) (sym c.is_some.ensures)
    (none_here c.args.self.now c.requires.whole c.requires.enough c.in-Ok.place (rw (c.deref.ensures.value, count) at told.some)
    (rw (c.deref.ensures.value, count) at told.none))

pub returns-in-Ok-clause-clear : goal.returns-in-Ok-clause-clear
returns-in-Ok-clause-clear c =
    let told = c.in-Ok.ensures {u = tt} in
    let count : c.len.result ≡ length c.args.self.now.nodes.items = c.len.ensures in
    subst (λ is. TellsClear (next.All is) (search_of c.args.self.now)) (sym c.is_some.ensures)
    (clear_here c.args.self.now c.requires.whole c.requires.enough c.in-Ok.place (rw (c.deref.ensures.value, count) at told.some)
    (rw (c.deref.ensures.value, count) at told.none))

pub returns-in-Ok-clause-endless : goal.returns-in-Ok-clause-endless
returns-in-Ok-clause-endless c =
    let told = c.in-Ok.ensures {u = tt} in
    let count : c.len.result ≡ length c.args.self.now.nodes.items = c.len.ensures in
    subst (λ is. TellsEndless (next.All is) (search_of c.args.self.now)) (sym c.is_some.ensures)
    (endless_here c.args.self.now c.requires.whole c.requires.enough c.in-Ok.place (rw (c.deref.ensures.value, count) at told.some)
    (rw (c.deref.ensures.value, count) at told.none))
