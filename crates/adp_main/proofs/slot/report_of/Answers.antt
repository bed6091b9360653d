use Rattle.std.proofs.Common.{Option, None, sym, ap, subst, ◌∙◌}
use Rattle.std.specs.Option.{option_copied}
use Rattle.std.proofs.lemmas.Result.{IfOk-weaker}
use Rattle.adp_model.specs.PosedProblem.{PosedProblem}
use Rattle.evaluators.specs.Runs.{IsFinished}
use Rattle.verdicts.specs.declared.command.Mode.{Mode}
use Rattle.verdicts.specs.Verdict.{IsReportWith}
use Rattle.adp_main.specs.declared.lex.Compiled.{Compiled}
use Rattle.adp_main.specs.Groups.{IsSolvedFor}
use Rattle.adp_main.proofs.slot.report_of.Goals as goal

pub report_of_both-requires-clause-compiled : goal.report_of_both-requires-clause-compiled
report_of_both-requires-clause-compiled c =
    let is = subst
    (λ (made : Option Compiled). IsSolvedFor c.args.command.now made c.requires.asked.0 c.args.sharing.now)
    (ap option_copied c.in-Some.is) c.requires.asked.1 in
    (c.args.command.now.second, c.requires.asked.0, is.1, c.problem.ensures ∙ is.2)

pub report_of_both-requires-clause-finished : goal.report_of_both-requires-clause-finished
report_of_both-requires-clause-finished c = (
  c.args.command.now.seed,
  subst (λ (p : PosedProblem). IsFinished p c.args.command.now.seed c.args.finished.now)
      (sym c.problem.ensures) c.requires.run.is_finished,
)

pub own_report-requires-clause-single : goal.own_report-requires-clause-single
own_report-requires-clause-single c =
    (subst (λ (made : Option Compiled). IsSolvedFor c.args.command.now made c.requires.asked.0 c.args.sharing.now)
    (ap option_copied c.in-None.is) c.requires.asked.1).0

pub returns-in-Some : goal.returns-in-Some
returns-in-Some c =
    let command = c.args.command.now in
    let problem = c.args.sharing.now in
    IfOk-weaker c.report_of_both.result _ _ (λ report all (asked : PosedProblem)
    (solved : IsSolvedFor command (option_copied c.args.made) asked problem).
    let is = subst (λ (made : Option Compiled). IsSolvedFor command made asked problem) (ap option_copied c.in-Some.is)
    solved in
    subst (λ (mode : Mode). IsReportWith mode command None c.args.number asked c.args.finished.now.wins.items report.items)
    (sym is.0) (is.1.second, is.1.named, all command.second asked is.1 (c.problem.ensures ∙ is.2))) c.report_of_both.ensures

pub returns-in-None : goal.returns-in-None
returns-in-None c =
    let command = c.args.command.now in
    let problem = c.args.sharing.now in
    IfOk-weaker c.own_report.result _ _ (λ report is (asked : PosedProblem)
    (solved : IsSolvedFor command (option_copied c.args.made) asked problem).
    let its = subst (λ (made : Option Compiled). IsSolvedFor command made asked problem) (ap option_copied c.in-None.is)
    solved in
    subst (λ (p : PosedProblem). IsReportWith command.mode command None c.args.number p c.args.finished.now.wins.items
    report.items) its.1 is) c.own_report.ensures
