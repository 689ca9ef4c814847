use Rattle.zl_verify.proofs.Turning.{goes_on, refused, turn_goes, turn_none}
use Rattle.zl_verify.proofs.search.Search.advance.Goals as goal

pub returns-then-not-is_waiting-clause-goes : goal.returns-then-not-is_waiting-clause-goes
returns-then-not-is_waiting-clause-goes c =
    (goes_on _ _ _ _ c.requires.goes _ c.place-stretch.ensures c.requires.more (rw c.if-not-is_waiting.true at c.is_waiting.ensures) c.go_on.ensures).goes

pub returns-then-not-is_waiting-clause-less : goal.returns-then-not-is_waiting-clause-less
returns-then-not-is_waiting-clause-less c =
    (goes_on _ _ _ _ c.requires.goes _ c.place-stretch.ensures c.requires.more (rw c.if-not-is_waiting.true at c.is_waiting.ensures) c.go_on.ensures).less

pub returns-in-Ok-clause-goes : goal.returns-in-Ok-clause-goes
returns-in-Ok-clause-goes c =
    (turn_goes _ _ _ _ c.requires.goes _ (rw c.if-not-is_waiting.false at c.is_waiting.ensures) (rw c.in-Ok.is at c.turn.ensures.turned)).goes

pub returns-in-Ok-clause-less : goal.returns-in-Ok-clause-less
returns-in-Ok-clause-less c =
    (turn_goes _ _ _ _ c.requires.goes _ (rw c.if-not-is_waiting.false at c.is_waiting.ensures) (rw c.in-Ok.is at c.turn.ensures.turned)).less

pub returns-in-Err-clause-exact : goal.returns-in-Err-clause-exact
returns-in-Err-clause-exact c =
    refused _ _ _ (turn_none _ _ _ c.requires.goes _ (rw c.if-not-is_waiting.false at c.is_waiting.ensures) (rw c.in-Err.is at c.turn.ensures.turned))
    (rw c.in-Err.is at c.turn.ensures.cause)
