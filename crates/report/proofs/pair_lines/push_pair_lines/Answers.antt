use Rattle.std.proofs.Common.{◌≡◌, ℤ, ◌++◌, codes, FitsSigned, w64, rules, refl, sym, ap₂, subst, ◌∙◌}
use Rattle.std.proofs.lemmas.Int.{to_z-of_z}
use Rattle.adp_model.specs.Report.{line}
use Rattle.report.specs.PairOutcomes.{IsPairText, scores_line}
use Rattle.report.proofs.PairAnswering.{appended_pair}
use Rattle.report.proofs.pair_lines.push_pair_lines.Goals as goal

pub returns-in_ok-push-in-Some : goal.returns-in_ok-push-in-Some
returns-in_ok-push-in-Some c =
    let text = c.in_ok-push_tree-in-Some.ensures in
    let first : ℤ = c.in-Some.first in
    let second : ℤ = c.in-Some.second in
    let first_fits : FitsSigned w64 first = search rules in
    let second_fits : FitsSigned w64 second = search rules in
    let scores_are : c.push_scores.new.out.items ≡ c.args.out.now.items ++ scores_line (first, second) =
    c.in_ok-push_scores-in-Some.ensures
    ∙ ap₂ (λ a b. c.args.out.now.items ++ scores_line (a, b)) (to_z-of_z w64 first first_fits) (to_z-of_z w64 second second_fits) in
    let lines = scores_line (first, second) ++ line (codes "tree " ++ text.0) in (
      lines,
      subst (λ scores. IsPairText c.args.problem.now scores lines) (sym c.in-Some.is) (text.0, text.1, refl),
      appended_pair c.args.out.now.items (scores_line (first, second)) (codes "tree ") text.0 _ _ _ _ scores_are
          c.in_ok-extend_from_slice-in-Some.ensures.items text.2 c.in_ok-push-in-Some.ensures.items,
    )
