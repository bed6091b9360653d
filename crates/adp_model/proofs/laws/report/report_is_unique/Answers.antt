use Rattle.adp_model.proofs.Reports.{IsReport_unique, IsBigReport_unique}
use Rattle.adp_model.proofs.laws.report.report_is_unique.Goals as goal

pub returns-clause-word : goal.returns-clause-word
returns-clause-word c = IsReport_unique

pub returns-clause-made : goal.returns-clause-made
returns-clause-made c = IsBigReport_unique
