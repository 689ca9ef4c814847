use Rattle.zl_verify.proofs.Common.{CpusAreSized, QueuesAreSized}
use Rattle.zl_verify.proofs.SizedWorlds.{queues_sized}
use Rattle.zl_verify.proofs.SizedRuns.{runs_keep, histories_keep}
use Rattle.zl_verify.proofs.laws.runs_keep_queues_sized.Goals as goal

pub returns-clause-queues : goal.returns-clause-queues
returns-clause-queues c = λ lib statements boot after items b run. runs_keep QueuesAreSized queues_sized lib statements boot after b items run

pub returns-clause-cpus : goal.returns-clause-cpus
returns-clause-cpus c = λ lib statements boot after items b run. runs_keep CpusAreSized (λ w s. s.cpus) lib statements boot after b items run

pub returns-clause-histories : goal.returns-clause-histories
returns-clause-histories c = λ lib statements boot after history b legal. histories_keep QueuesAreSized queues_sized lib statements boot after b history legal
