use Rattle.zl_rights.proofs.Common.{ap, arith, cond, length, not, refl, rules, sym, ◌∙◌, ◌-◌}
use Rattle.std.proofs.lemmas.List.{length-set}
use Rattle.std.proofs.lemmas.List.Filters.{length-filter_both}
use Rattle.zl_port.proofs.InSlots.{all_stay, few_packets, one_less, past_count, past_rest}
use Rattle.zl_port.proofs.Walking.{last_long, long_above, read_here, walk_begins, walk_empties, walk_ends, walk_stays}
use Rattle.zl_port.specs.Packets.{is_from}
use Rattle.zl_port.specs.Chains.{emptied, is_other, packets_in}
use Rattle.zl_port.proofs.slots.take_from.Goals as goal

pub loop-next-init : goal.loop-next-init
loop-next-init c = record {
  walks = walk_begins c.requires.own c.requires.within _ _ _ c.requires.linked c.requires.within c.index-next.ensures;
  rest = search rules;
  count = search rules;
  long = search rules;
  buckets = search rules;
  capacity = search rules;
}

pub loop-next-preserved-then-stays : goal.loop-next-preserved-then-stays
loop-next-preserved-then-stays c =
    let was = c.loop-next.invariant in
    let read = read_here c.requires.own c.requires.within was.walks c.loop-next-test.true in
    record {
      walks =
          walk_stays c.requires.own c.requires.within was.walks c.loop-next-test.true c.index.result.now.before (ap (λ s. s.before) (read _ c.index.ensures))
          (sym (ap (is_other c.args.source c.args.key) (read _ c.index-in-loop-next.ensures)) ∙ sym (c.if-stays.ensures {u = tt}));
      rest = was.rest;
      count = was.count;
      long = was.long;
      buckets = was.buckets;
      capacity = was.capacity;
    }

-- no more are taken than there were
pub overflow_add-taken : goal.overflow_add-taken
overflow_add-taken c =
    let was = c.loop-next.invariant in
    let read = read_here c.requires.own c.requires.within was.walks c.loop-next-test.true in
    let place = c.loop-next.next - 1 - c.args.front in
    let other = sym (ap (is_other c.args.source c.args.key) (read _ c.index-in-loop-next.ensures)) ∙ sym (c.if-stays.ensures {u = tt}) in
    let count = c.empty-taken.ensures.count ∙ ap (λ s. cond s.there 1 0) (read _ c.index_mut.ensures.value) in
    let packets = packets_in c.args.slots.now.items in
    omega (
      arith,
      was.count,
      count,
      c.requires.numbers,
      few_packets c.args.slots.now.items,
      one_less c.args.source c.args.key c.loop-next.slots.items place other,
      length-filter_both (is_from c.args.source c.args.key) (λ x. not (is_from c.args.source c.args.key x)) (λ x. refl) packets,
    )

pub loop-next-preserved : goal.loop-next-preserved
loop-next-preserved c =
    let was = c.loop-next.invariant in
    let slots = c.loop-next.slots.items in
    let place = c.loop-next.next - 1 - c.args.front in
    let on = c.index.result.now.before in
    let y = c.empty-taken.new.slot in
    let read = read_here c.requires.own c.requires.within was.walks c.loop-next-test.true in
    let other = sym (ap (is_other c.args.source c.args.key) (read _ c.index-in-loop-next.ensures)) ∙ sym (c.if-stays.ensures {u = tt}) in
    let is = c.empty-taken.ensures.slot ∙ ap emptied (read _ c.index_mut.ensures.value) in
    let count = c.empty-taken.ensures.count ∙ ap (λ s. cond s.there 1 0) (read _ c.index_mut.ensures.value) in
    let led = c.lead_to.ensures in
    record {
      walks =
          walk_empties c.requires.own c.requires.within was.walks c.loop-next-test.true y _ _ on was.buckets is
          (ap (λ s. s.before) (read _ c.index.ensures)) led.slots led.last;
      rest = past_rest c.args.source c.args.key slots _ place on c.loop-next.above y is led.slots other ∙ was.rest;
      count = omega (arith, was.count, count, past_count c.args.source c.args.key slots _ place on c.loop-next.above y is led.slots other);
      long = ap length led.slots ∙ long_above c.loop-next.above _ on ∙ length-set slots place y ∙ was.long;
      buckets = ap length led.last ∙ last_long c.loop-next.above c.loop-next.last.items c.args.own on ∙ was.buckets;
      capacity = led.capacity ∙ was.capacity;
    }

pub returns-clause-rest : goal.returns-clause-rest
returns-clause-rest c =
    let none = walk_ends c.requires.own c.requires.within c.loop-next.invariant.walks (search rules) in
    sym (all_stay (is_from c.args.source c.args.key) _ none) ∙ c.loop-next.invariant.rest

pub returns-clause-count : goal.returns-clause-count
returns-clause-count c =
    omega (arith, c.loop-next.invariant.count, walk_ends c.requires.own c.requires.within c.loop-next.invariant.walks (search rules))
