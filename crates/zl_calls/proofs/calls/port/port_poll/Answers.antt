use Rattle.zl_calls.proofs.Common.{sym, ◌∙◌}
use Rattle.zl_calls.proofs.calls.Polled.{nothing_polled, packet_polled}
use Rattle.zl_calls.proofs.calls.port.port_poll.Goals as goal

pub returns-in-Some : goal.returns-in-Some
returns-in-Some g c =
    packet_polled c.args.table.now c.args.objects.now c.pop.new.self c.args.port c.in_ok-entry.entry
    (sym c.look_up.ensures ∙ c.in_ok-entry.was {u = tt}) c.pop.ensures.rest c.in-Some.packet (sym c.pop.ensures.first ∙ c.in-Some.is)

pub returns-in-None : goal.returns-in-None
returns-in-None g c =
    nothing_polled c.args.table.now c.args.objects.now c.pop.new.self c.args.port c.in_ok-entry.entry
    (sym c.look_up.ensures ∙ c.in_ok-entry.was {u = tt}) c.pop.ensures.rest (sym c.pop.ensures.first ∙ c.in-None.is)
