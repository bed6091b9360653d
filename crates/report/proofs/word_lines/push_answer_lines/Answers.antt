use Rattle.std.proofs.Common.{◌≡◌, ◌++◌, codes, FitsSigned, w64, rules, ap, ◌∙◌}
use Rattle.std.proofs.lemmas.Int.{to_z-of_z}
use Rattle.std.specs.Fmt.{signed_decimal}
use Rattle.adp_model.specs.PosedProblem.{PosedProblem, axiom_cell}
use Rattle.adp_model.specs.Report.{line}
use Rattle.report.proofs.Answering.{best_lines, appended_lines}
use Rattle.report.proofs.word_lines.push_answer_lines.Goals as goal

pub returns-in_ok-push-in-Best : goal.returns-in_ok-push-in-Best
returns-in_ok-push-in-Best c =
    let p : PosedProblem = c.args.problem.now in
    let text = c.in_ok-push_tree-in-Best.ensures in
    let formed = c.admissible.ensures.checked.well_formed in
    let fits : FitsSigned w64 c.in-Best.score = search rules in
    let score_is : c.push_signed.new.out.items ≡ c.extend_from_slice-in-Best.new.self.items ++ signed_decimal c.in-Best.score =
    c.in_ok-push_signed-in-Best.ensures.appended ∙ ap (λ score. c.extend_from_slice-in-Best.new.self.items ++ signed_decimal score) (to_z-of_z w64 c.in-Best.score fits) in (
      line (codes "score " ++ signed_decimal c.in-Best.score) ++ line (codes "tree " ++ text.0),
      best_lines p c.args.outcome.now.answer c.in-Best.score c.in-Best.choice text.0 c.in-Best.is (λ t u. c.preferred_tree_is_unique.ensures p (axiom_cell p) t u formed) c.requires.answer text.1,
      appended_lines c.args.out.now.items (codes "score ") (signed_decimal c.in-Best.score) (codes "tree ") text.0 _ _ _ _ _ c.in_ok-extend_from_slice-in-Best.ensures.items score_is
          c.in_ok-extend_from_slice-in-Best-2.ensures.items text.2 c.in_ok-push-in-Best.ensures.items,
    )
