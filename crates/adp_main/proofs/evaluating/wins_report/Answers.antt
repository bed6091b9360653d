use Rattle.std.proofs.Common.{◌∙◌, ◌++◌, List, ℕ, ap}
use Rattle.std.proofs.lemmas.Result.{IfOk-weaker}
use Rattle.adp_model.specs.Report.{wins_line}
use Rattle.adp_main.proofs.evaluating.wins_report.Goals as goal

pub returns : goal.returns
returns c =
    IfOk-weaker c.with_wins.result _ _ (λ whole lines. (
      c.in_ok-report.report.items,
      c.in_ok-report.ensures,
      c.requires.1.wins_sum,
      lines ∙ ap (λ (wins : List ℕ). c.in_ok-report.report.items ++ wins_line wins) c.deref.ensures.value,
    )) c.with_wins.ensures
