use Rattle.std.proofs.Common.{IfOk, sym, subst, ◌∙◌}
use Rattle.adp_model.specs.PosedProblem.{PosedProblem}
use Rattle.evaluators.specs.Runs.{IsFinished}
use Rattle.verdicts.specs.Certificates.{IsBlockReport}
use Rattle.adp_main.proofs.slot.certified_report.Goals as goal

pub block_report-requires : goal.block_report-requires
block_report-requires c = (
  c.requires.0,
  subst (λ (p : PosedProblem). IsFinished p c.requires.0 c.args.finished.now)
      (sym (c.layout-layout.ensures ∙ c.in_ok-prepared.ensures)) c.requires.1,
)

pub returns : goal.returns
returns c =
    subst (λ (p : PosedProblem). IfOk c.block_report.result (λ report. IsBlockReport c.args.number p report.items))
    (c.layout-layout.ensures ∙ c.in_ok-prepared.ensures) c.block_report.ensures
