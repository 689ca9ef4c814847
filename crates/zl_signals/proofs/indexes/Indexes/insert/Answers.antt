use Rattle.zl_rights.proofs.Common.{false, nat_cmp}
use Rattle.zl_signals.specs.Indexed.{AreSet, handle_cmp, handle_of, IsSet, keyed_cmp, keyed_of}
use Rattle.zl_signals.proofs.Indexed.{taken_back}
use Rattle.zl_signals.proofs.indexes.Indexes.insert.Goals as goal
use Rattle.zl_signals.proofs.indexes.Indexes.insert.Goals.{After-remove, then-is_err-via-else-is_err+else-is_err-2+then-is_err-3}
use Rattle.zl_signals.proofs.indexes.Indexes.insert.Goals.{then-is_err-via-else-is_err+then-is_err-2, then-is_err-via-then-is_err}

-- the first was inserted, or there was no memory for it
handle_back : (c : After-remove) → IsSet handle_cmp c.insert.new.self c.remove.new.self.by_handle (handle_of c.args.wait.now, c.args.number) false
    → IsSet handle_cmp c.args.self.now.by_handle c.remove.new.self.by_handle (handle_of c.args.wait.now, c.args.number) false
handle_back c =
    taken_back handle_cmp c.args.self.now.by_handle c.insert.new.self c.remove.new.self.by_handle (handle_of c.args.wait.now, c.args.number)
    c.insert.result c.insert.ensures.updates c.insert.ensures.err

pub returns-then-is_err-clause-taken_back : goal.returns-then-is_err-clause-taken_back
returns-then-is_err-clause-taken_back c =
    elim c.then-is_err.branch as (λ _. AreSet c.args.self.now c.remove.new.self c.args.wait.now c.args.number false) [
      | then-is_err-via-then-is_err w ↦ let gone = rw w.self-is at c.remove.ensures in (handle_back c gone.0, gone.1, gone.2)
      | then-is_err-via-else-is_err+then-is_err-2 w ↦
          let gone = rw w.self-is at c.remove.ensures in (
            handle_back c gone.0,
            taken_back keyed_cmp c.args.self.now.by_key w.insert-else-is_err.new.self c.remove.new.self.by_key (keyed_of c.args.wait.now, c.args.number)
                w.insert-else-is_err.result w.insert-else-is_err.ensures.updates w.insert-else-is_err.ensures.err gone.1,
            gone.2,
          )
      | then-is_err-via-else-is_err+else-is_err-2+then-is_err-3 w ↦
          let gone = rw w.self-is at c.remove.ensures in (
            handle_back c gone.0,
            taken_back keyed_cmp c.args.self.now.by_key w.insert-else-is_err.new.self c.remove.new.self.by_key (keyed_of c.args.wait.now, c.args.number)
                w.insert-else-is_err.result w.insert-else-is_err.ensures.updates w.insert-else-is_err.ensures.err gone.1,
            taken_back nat_cmp c.args.self.now.by_port w.insert-else-is_err-2.new.self c.remove.new.self.by_port (c.args.wait.now.port, c.args.number)
                w.insert-else-is_err-2.result w.insert-else-is_err-2.ensures.updates w.insert-else-is_err-2.ensures.err gone.2,
          )
    ]
