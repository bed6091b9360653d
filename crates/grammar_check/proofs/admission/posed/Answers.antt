use Rattle.std.proofs.Common.{length, sym, subst}
use Rattle.adp_model.specs.Cells.{IsCellBound}
use Rattle.adp_model.specs.Bounds.{IsScoreBound}
use Rattle.adp_model.specs.LimitFaults.{HasFewNodes}
use Rattle.grammar_check.specs.CheckedGrammar.{CheckedGrammar}
use Rattle.grammar_check.proofs.admission.posed.Goals as goal

pub invariant_of-result : goal.invariant_of-result
invariant_of-result c =
    let len = length c.args.word.now in
    let same = sym c.checked.view_is in
    record {
      checked = c.checked.invariant.found;
      left = c.checked.invariant.anchored.left;
      right = c.checked.invariant.anchored.right;
      letters = c.requires.cells.letters;
      cells = subst (λ (g : CheckedGrammar). IsCellBound g.grammar len c.args.cells) same c.requires.cells.bound;
      few_cells = c.requires.cells.few;
      nodes = subst (λ (g : CheckedGrammar). HasFewNodes g.grammar len) same c.requires.nodes;
      scores = subst (λ (g : CheckedGrammar). IsScoreBound g.grammar g.algebra len c.args.score_bound) same c.requires.scores;
      low_scores = c.requires.low;
    }
