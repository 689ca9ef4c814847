use Rattle.zl_code.specs.declared.history.CallName.TheVariants as name
use Rattle.zl_calls.proofs.Common.{[], arith, common_steps, handle_operands, map, operands_fault, refl, reg, slice_index, take, used, ◌∙◌, ◌≡◌}
use Rattle.zl_calls.proofs.policy.Faultless.{faultless_at}
use Rattle.zl_calls.proofs.policy.Examining.{list_fault}
use Rattle.zl_calls.proofs.tables.Granted.{behind, finds}
use Rattle.zl_calls.proofs.calls.channel.writing.write.Goals as goal

pub chan_write-answer-requires-clause-channel : goal.chan_write-answer-requires-clause-channel
unfolding handle_operands operands_fault
chan_write-answer-requires-clause-channel g c =
    let value : c.register-channel.result ≡ reg c.args.process.now.cpu (slice_index c.args.call.now.registers 1) = grind (arith, common_steps) in
    λ no. rw value
    (finds _ _ (faultless_at c.args.call.now c.args.process.now.cpu name.ChanWrite c.args.process.now.table.entries c.requires.name
    c.requires.there (c.requires.sure no)))

pub chan_write-answer-requires-clause-list : goal.chan_write-answer-requires-clause-list
unfolding handle_operands operands_fault
chan_write-answer-requires-clause-list g c =
    let values : take c.listed-count.result.1 c.listed-count.result.0 ≡ map (reg c.args.process.now.cpu) (used c.args.call.now.last) =
    grind (arith, common_steps) in
    λ no. rw values
    (list_fault c.args.process.now.table.entries [] [] (map (reg c.args.process.now.cpu) (used c.args.call.now.last)) (λ v. refl)
    ∙ behind _ _ (faultless_at c.args.call.now c.args.process.now.cpu name.ChanWrite c.args.process.now.table.entries c.requires.name
    c.requires.there (c.requires.sure no)))
