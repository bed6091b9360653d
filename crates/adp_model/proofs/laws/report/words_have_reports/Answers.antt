use Rattle.adp_model.proofs.ReportExists.{report_exists}
use Rattle.adp_model.proofs.laws.report.words_have_reports.Goals as goal

pub returns : goal.returns
returns c = report_exists
