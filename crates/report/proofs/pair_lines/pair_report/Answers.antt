use Rattle.std.proofs.Common.{ℕ, ℤ, ◌≡◌, IsTrue, Option, subst, append_assoc}
use Rattle.adp_model.specs.PosedProblem.{PosedProblem, axiom_cell}
use Rattle.adp_model.specs.WellFormed.{is_well_formed}
use Rattle.adp_model.specs.Demand.{IsDemandedCount}
use Rattle.lex_product.specs.CompiledGrammar.{compiled_problem, multiplier_of}
use Rattle.report.specs.PairOutcomes.{AreScoresOf, IsPairText}
use Rattle.report.proofs.PairAnswering.{Keeps, pair_text}
use Rattle.report.proofs.pair_lines.pair_report.Goals as goal

pub returns : goal.returns
returns c p second outcome =
    let text = c.in_ok-push_pair_lines.ensures in
    let scores : Option (ℤ × ℤ) = c.args.outcome.now.scores in
    let multiplier : ℕ = multiplier_of outcome.bound in
    let compiled : PosedProblem = compiled_problem p second multiplier in
    let same : c.args.problem.now ≡ compiled = outcome.same in
    let formed : IsTrue (is_well_formed compiled.grammar) =
    subst (λ (q : PosedProblem). IsTrue (is_well_formed q.grammar)) same c.admissible.ensures.checked.well_formed in
    let keeps : Keeps p second multiplier = record {
      trees = c.compiled_algebras_change_scores_alone.ensures.trees p second multiplier;
      texts = c.compiled_algebras_change_scores_alone.ensures.texts p second multiplier;
      preferred = c.compiled_scores_order_trees_as_pairs_do.ensures.preferred p second outcome.bound outcome.compilable;
      one = λ t u. c.preferred_tree_is_unique.ensures compiled (axiom_cell p) t u formed;
    } in
    let count : IsDemandedCount compiled c.args.outcome.now.cells =
    subst (λ (q : PosedProblem). IsDemandedCount q c.args.outcome.now.cells) same c.requires.cells in (
      text.0,
      c.args.outcome.now.cells,
      pair_text p second multiplier keeps scores text.0
          (subst (λ (q : PosedProblem). AreScoresOf p second q scores) same outcome.scores_are)
          (subst (λ (q : PosedProblem). IsPairText q scores text.0) same text.1),
      (c.compiled_algebras_change_scores_alone.ensures.demanded p second multiplier c.args.outcome.now.cells).1 count,
      rw (c.in_ok-push_number_line-2.ensures, text.2, c.in_ok-push_number_line.ensures, c.new-out.ensures.items, c.from.ensures) (simp append_assoc),
    )
