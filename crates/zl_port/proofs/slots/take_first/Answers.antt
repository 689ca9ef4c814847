use Rattle.zl_rights.proofs.Common.{ap, length, rules, subst, sym, ◌∙◌}
use Rattle.zl_port.specs.Chains.{LinkedIn, packets_in}
use Rattle.zl_port.proofs.InSlots.{none_first}
use Rattle.zl_port.proofs.Linking.{linked_behind}
use Rattle.zl_port.proofs.slots.take_first.Goals as goal

pub returns-then-slot-clause-linked : goal.returns-then-slot-clause-linked
returns-then-slot-clause-linked c = λ last are.
    linked_behind c.in-Some.slot c.pop_front.new.self.items
    (subst (λ slots. LinkedIn (length last) slots c.loop-slot.front last) c.in-Some.ensures.items (c.loop-slot.invariant.linked last are))

pub loop-slot-preserved : goal.loop-slot-preserved
loop-slot-preserved c = record {
  packets =
      sym (ap packets_in c.in-Some.ensures.items ∙ none_first c.in-Some.slot c.pop_front.new.self.items c.if-slot.false)
      ∙ c.loop-slot.invariant.packets;
  linked = λ last are.
      linked_behind c.in-Some.slot c.pop_front.new.self.items
      (subst (λ slots. LinkedIn (length last) slots c.loop-slot.front last) c.in-Some.ensures.items (c.loop-slot.invariant.linked last are));
  numbers = search rules;
  capacity = search rules;
}
