use Rattle.std.proofs.Common.{rules}
use Rattle.zl_calls.proofs.Common.{ap, false≢true, map, refl, sym, ◌∙◌, ◌≡◌}
use Rattle.zl_calls.specs.Rested.{own_rested}
use Rattle.zl_calls.specs.Same.{counted}
use Rattle.zl_calls.specs.World.{own_here}
use Rattle.zl_calls.proofs.Counted.{same_for_rest, same_of_rest}
use Rattle.zl_calls.proofs.world.World.is_same.Goals as goal

pub returns-then-not-are_same_processes : goal.returns-then-not-are_same_processes
returns-then-not-are_same_processes c = (
  λ no. absurd (false≢true no),
  λ same.
      let is = same_of_rest c.self.inside.parts.processes.list.items c.other.inside.parts.processes.list.items c.self.inside.parts.objects
      c.other.inside.parts.objects c.self.inside.parts.blocked.items c.other.inside.parts.blocked.items c.self.invariant.sound c.other.invariant.sound
      (ap (λ m. own_rested (own_here m)) c.self.view_is ∙ (same ∙ sym (ap (λ m. own_rested (own_here m)) c.other.view_is))) in
      (c.if-not-are_same_processes.ensures {u = tt}).1
      (ap (map counted) c.deref.ensures.value ∙ (is.processes ∙ sym (ap (map counted) c.deref-2.ensures.value))),
)

pub returns : goal.returns
returns c = (
  λ yes.
      let blocked : c.self.inside.parts.blocked.items ≡ c.other.inside.parts.blocked.items = search rules in
      sym (ap (λ m. own_rested (own_here m)) c.self.view_is)
      ∙ (same_for_rest c.self.inside.parts.processes.list.items c.other.inside.parts.processes.list.items c.self.inside.parts.objects
      c.other.inside.parts.objects c.self.inside.parts.blocked.items c.other.inside.parts.blocked.items c.self.invariant.sound c.other.invariant.sound
      (sym (ap (map counted) c.deref.ensures.value)
      ∙ ((c.if-not-are_same_processes.ensures {u = tt}).0 refl ∙ ap (map counted) c.deref-2.ensures.value)) (c.is_same.ensures.0 yes) blocked
      ∙ ap (λ m. own_rested (own_here m)) c.other.view_is),
  λ same.
      let is = same_of_rest c.self.inside.parts.processes.list.items c.other.inside.parts.processes.list.items c.self.inside.parts.objects
      c.other.inside.parts.objects c.self.inside.parts.blocked.items c.other.inside.parts.blocked.items c.self.invariant.sound c.other.invariant.sound
      (ap (λ m. own_rested (own_here m)) c.self.view_is ∙ (same ∙ sym (ap (λ m. own_rested (own_here m)) c.other.view_is))) in
      c.is_same.ensures.1 is.looks,
)
