use Rattle.std.proofs.Common.{subst}
use Rattle.first_trees.specs.ListReport.{IsListReport}
use Rattle.verdicts.specs.declared.command.Mode.TheVariants.{Best, KBest}
use Rattle.verdicts.specs.Verdict.{IsReportWith}
use Rattle.verdicts.proofs.laws.one_first_candidate_is_the_answer.Goals as goal

pub returns : goal.returns
returns c p least greatest ranks checked hidden hides answering listing answers lists one number report listed told first =
    let nested = c.nested_reports_are_the_plain_ones.ensures p least greatest ranks checked hidden hides in
    c.one_first_tree_is_the_answer.ensures number p checked.well_formed report listed
    ((nested Best answering number told.0 report).1
    (subst (λ mode. IsReportWith mode answering hidden number p told.0 report) answers told.2))
    (subst (λ k. IsListReport number p k listed) one
    ((nested KBest listing number first.0 listed).1
    (subst (λ mode. IsReportWith mode listing hidden number p first.0 listed) lists first.2)))
