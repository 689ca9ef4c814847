use Rattle.zl_verify.proofs.Counting.{over_counted}
use Rattle.zl_verify.proofs.LeadingOn.{leads_on}
use Rattle.zl_verify.proofs.laws.over_is_by_count.Goals as goal

pub returns-clause-leads_on : goal.returns-clause-leads_on
returns-clause-leads_on c = λ i n s es goes holds. leads_on i n s es goes holds

pub returns-clause-same : goal.returns-clause-same
returns-clause-same c = λ i t n range typing. over_counted i range t n typing
