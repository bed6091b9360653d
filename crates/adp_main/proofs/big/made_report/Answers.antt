use Rattle.std.proofs.Common.{FitsSigned, w64, ◌∙◌, ap, rules, subst}
use Rattle.std.proofs.lemmas.Int.{to_z-of_z}
use Rattle.std.proofs.lemmas.Result.{IfOk-weaker}
use Rattle.adp_model.specs.Answers.{IsAnswer}
use Rattle.adp_model.specs.BigReport.{made_problem, big_lines}
use Rattle.adp_model.specs.PosedProblem.{PosedProblem, axiom_cell}
use Rattle.adp_model.specs.Scores.{score_of}
use Rattle.verdicts.specs.Command.{Command}
use Rattle.evaluators.specs.Runs.{IsFinished}
use Rattle.adp_main.proofs.MadeWords.{has_candidate}
use Rattle.adp_main.proofs.big.made_report.Goals as goal

pub returns : goal.returns
returns c =
    let command = c.args.command.now in
    let made = made_problem command.seed command.size in
    let run = subst (λ (p : PosedProblem). IsFinished p command.seed c.args.finished.now) c.requires.made
    c.requires.finished.is_finished in
    let (tree, preferred, score, _) = subst (IsAnswer made (axiom_cell made)) c.in-Best.is run.answer in
    let fits : FitsSigned w64 c.in-Best.score = search rules in
    let cells = c.demanded_cells.result in
    IfOk-weaker c.big_report.result _ _ (λ report lines. (
      tree,
      cells,
      preferred,
      c.demanded_cells.ensures made command.seed run,
      lines
          ∙ ap (λ it. big_lines c.command.inside.size it cells) (to_z-of_z w64 c.in-Best.score fits ∙ score)
          ∙ ap (λ (it : Command). big_lines it.size (score_of made tree) cells) c.command.view_is,
    )) c.big_report.ensures

pub unreachable-requires : goal.unreachable-requires
unreachable-requires c =
    has_candidate c.args.problem.now c.args.command.now.seed c.args.command.now.size c.requires.made
    (c.made_words_have_trees.ensures c.args.command.now.seed c.args.command.now.size) c.args.finished.now.answer
    c.requires.finished.is_finished.answer c.in-NoCandidate.is
