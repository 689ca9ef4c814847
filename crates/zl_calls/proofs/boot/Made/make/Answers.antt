use Rattle.zl_calls.proofs.Common.{boot_effect, boot_fault, new_port, refl, runs}
use Rattle.zl_code.specs.declared.boot.Statement.TheVariants as statement
use Rattle.zl_objects.specs.declared.object.Body.TheVariants as body
use Rattle.zl_calls.proofs.boot.BootObjects.{object_makes}
use Rattle.zl_calls.proofs.boot.Made.make.Goals as goal

pub returns-in-Event-clause-ok : goal.returns-in-Event-clause-ok
unfolding boot_fault boot_effect
returns-in-Event-clause-ok c = rw c.in-Event.is (object_makes c.args.library.now c.args.self.now c.requires statement.Event body.Event refl refl refl refl refl
    (λ not. not runs) refl refl
    c.make_object.result c.make_object.new.self c.make_object.ensures.left c.make_object.ensures.made)

pub returns-in-Event-clause-err : goal.returns-in-Event-clause-err
unfolding boot_fault
returns-in-Event-clause-err c = rw c.in-Event.is c.make_object.ensures.err

pub returns-in-Port-clause-ok : goal.returns-in-Port-clause-ok
unfolding boot_fault boot_effect
returns-in-Port-clause-ok c = rw c.in-Port.is (object_makes c.args.library.now c.args.self.now c.requires statement.Port new_port refl refl refl refl refl
    (λ not. not runs) refl refl
    c.make_object-in-Port.result c.make_object-in-Port.new.self c.make_object-in-Port.ensures.left
    (rw c.new_port-port.ensures at c.make_object-in-Port.ensures.made))

pub returns-in-Port-clause-err : goal.returns-in-Port-clause-err
unfolding boot_fault
returns-in-Port-clause-err c = rw c.in-Port.is c.make_object-in-Port.ensures.err
