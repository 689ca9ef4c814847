use Rattle.zl_command.proofs.Common.{AsksFor, HasValues, ap, commands, false, fault_of, inl, inr, is_simple, is_simple_and_free, is_within, map, refl}
use Rattle.zl_command.proofs.Common.{subcommand_of, subst, sym, takes, ◌∙◌, ◌≡◌}
use Rattle.std.proofs.lemmas.Result.{err_from_is_err_and}
use Rattle.clap.specs.Kinds.{HasKind}
use Rattle.zl_command.specs.declared.command.WordFault.TheVariants.{Usage}
use Rattle.zl_command.proofs.CommandLine.{found_values, gives_text, has_fault, may_ask, no_task, none_found, not_taken, not_within, passed_on}
use Rattle.zl_command.proofs.command.parse.Goals as goal

pub task_of-requires : goal.task_of-requires
task_of-requires g c =
    let app = c.in_ok-command.ensures in
    let texts = map g.S.AsStr.text c.args.words.now in
    let found = (c.in-Ok.ensures.matches (ap is_simple app)).1 ∙ ap (λ a. subcommand_of a texts) app in
    subst HasValues (sym found) (found_values texts (none_found _ texts app c.in-Ok.ensures.kinds))

pub returns-in_ok-task_of-in-Ok-clause-task : goal.returns-in_ok-task_of-in-Ok-clause-task
returns-in_ok-task_of-in-Ok-clause-task g c =
    let app = c.in_ok-command.ensures in
    let texts = map g.S.AsStr.text c.args.words.now in
    let found = (c.in-Ok.ensures.matches (ap is_simple app)).1 ∙ ap (λ a. subcommand_of a texts) app in
    subst (λ rows. AsksFor rows c.in_ok-task_of-in-Ok.field-0) found c.in_ok-task_of-in-Ok.ensures.task

pub returns-in_ok-task_of-in-Ok-clause-taken : goal.returns-in_ok-task_of-in-Ok-clause-taken
returns-in_ok-task_of-in-Ok-clause-taken g c =
    none_found _ (map g.S.AsStr.text c.args.words.now) c.in_ok-command.ensures c.in-Ok.ensures.kinds

pub returns-in_ok-task_of-in-Ok-clause-help : goal.returns-in_ok-task_of-in-Ok-clause-help
returns-in_ok-task_of-in-Ok-clause-help g c asked =
    let none = none_found _ (map g.S.AsStr.text c.args.words.now) c.in_ok-command.ensures c.in-Ok.ensures.kinds in
    cc

pub returns-in_ok-task_of-in-Ok-clause-version : goal.returns-in_ok-task_of-in-Ok-clause-version
returns-in_ok-task_of-in-Ok-clause-version g c asked =
    let none = none_found _ (map g.S.AsStr.text c.args.words.now) c.in_ok-command.ensures c.in-Ok.ensures.kinds in
    cc

pub returns-in_err-task_of-in-Ok-clause-help : goal.returns-in_err-task_of-in-Ok-clause-help
returns-in_err-task_of-in-Ok-clause-help g c asked =
    let none = none_found _ (map g.S.AsStr.text c.args.words.now) c.in_ok-command.ensures c.in-Ok.ensures.kinds in
    cc

pub returns-in_err-task_of-in-Ok-clause-version : goal.returns-in_err-task_of-in-Ok-clause-version
returns-in_err-task_of-in-Ok-clause-version g c asked =
    let none = none_found _ (map g.S.AsStr.text c.args.words.now) c.in_ok-command.ensures c.in-Ok.ensures.kinds in
    cc

pub returns-in_err-task_of-in-Ok-clause-faulty : goal.returns-in_err-task_of-in-Ok-clause-faulty
returns-in_err-task_of-in-Ok-clause-faulty g c =
    let app = c.in_ok-command.ensures in
    let texts = map g.S.AsStr.text c.args.words.now in
    let found = (c.in-Ok.ensures.matches (ap is_simple app)).1 ∙ ap (λ a. subcommand_of a texts) app in
    let told = err_from_is_err_and c.from_residual-in_err-task_of-in-Ok.result c.from_residual-in_err-task_of-in-Ok.ensures.1 in
    let same = told.2 in
    passed_on c.from_residual-in_err-task_of-in-Ok.result told.0 _ told.1
    (λ usage. let own : c.in_err-task_of-in-Ok.field-0.0 ≡ Usage = cc in
    let many = subst (λ rows. is_within rows ≡ false) found ((c.in_err-task_of-in-Ok.ensures {u = tt}).usage own) in inr many)

pub returns-in_err-task_of-in-Ok-clause-usage : goal.returns-in_err-task_of-in-Ok-clause-usage
returns-in_err-task_of-in-Ok-clause-usage g c =
    let app = c.in_ok-command.ensures in
    let texts = map g.S.AsStr.text c.args.words.now in
    let found = (c.in-Ok.ensures.matches (ap is_simple app)).1 ∙ ap (λ a. subcommand_of a texts) app in
    let told = err_from_is_err_and c.from_residual-in_err-task_of-in-Ok.result c.from_residual-in_err-task_of-in-Ok.ensures.1 in
    let same = told.2 in
    passed_on c.from_residual-in_err-task_of-in-Ok.result told.0 _ told.1
    (λ usage. let own : c.in_err-task_of-in-Ok.field-0.0 ≡ Usage = cc in
    let many = subst (λ rows. is_within rows ≡ false) found ((c.in_err-task_of-in-Ok.ensures {u = tt}).usage own) in not_within (takes commands texts) _ many)

pub returns-in-Err : goal.returns-in-Err
returns-in-Err g c =
    let app = c.in_ok-command.ensures in
    let texts = map g.S.AsStr.text c.args.words.now in
    let has = subst (λ kinds. HasKind kinds c.in-Err.error) (ap (λ a. fault_of a texts) app) (c.in-Err.ensures.kinds (ap is_simple_and_free app)) in
    let is = c.text_of.ensures in
    record {
      task = no_task _ _ _ is;
      taken = no_task _ _ _ is;
      help = gives_text _ _ has _ is _ (inl refl);
      version = gives_text _ _ has _ is _ (inr refl);
      other = may_ask _ _ has _ is;
      faulty = has_fault _ _ has _ _ is;
      usage = not_taken (takes commands texts) _ _ _ (λ taken. c.in-Err.ensures.passes (ap (λ a. takes a texts) app ∙ taken)) is;
    }
