use Rattle.zl_calls.proofs.Common.{None, SignalOf, ap, arith, common_steps, handle_operands, inr, operands_fault, refl, reg, site_of, slice_index, sym, ◌∙◌}
use Rattle.zl_calls.proofs.Common.{◌≡◌}
use Rattle.zl_code.specs.declared.history.CallName.TheVariants as name
use Rattle.zl_calls.proofs.policy.Faultless.{faultless_at}
use Rattle.zl_calls.proofs.tables.Granted.{finds}
use Rattle.zl_calls.proofs.calls.wait.wait_one.Goals as goal

pub returns : goal.returns
unfolding site_of
returns g c =
    let value : c.register-value.result ≡ reg c.args.process.now.cpu (slice_index c.args.call.now.registers 1) = grind (arith, common_steps) in
    let mask : c.register-mask.result ≡ reg c.args.process.now.cpu (slice_index c.args.call.now.registers 2) = grind (arith, common_steps) in
    rw c.requires.name (inr (record {
      awaited = SignalOf c.in-Ok.watched.koid c.register-mask.result;
      awaits = record {
        watched = c.in-Ok.watched;
        seen = rw (value, mask) at (sym c.watch.ensures ∙ c.in-Ok.is);
        inactive = sym (c.intersects.ensures tt) ∙ c.if-intersects.false;
        is_awaited = ap (SignalOf c.in-Ok.watched.koid) mask;
      };
      ends = refl;
      process = refl;
      state = grind (arith, common_steps);
      counter = c.requires.counter;
      objects = refl;
    }))

pub watch-requires : goal.watch-requires
unfolding site_of handle_operands operands_fault
watch-requires g c =
    let value : c.register-value.result ≡ reg c.args.process.now.cpu (slice_index c.args.call.now.registers 1) = grind (arith, common_steps) in
    record {
      sure = λ no. rw value
          (finds _ None (faultless_at c.args.call.now c.args.process.now.cpu name.WaitOne c.args.process.now.table.entries c.requires.name
          (rw c.requires.name refl) (c.requires.sure no)));
    }
