use Rattle.std.proofs.Common.{subst, sym}
use Rattle.adp_model.specs.PosedProblem.{PosedProblem}
use Rattle.nested_trees.specs.HiddenRules.{AreNestedAlternatives}
use Rattle.verdicts.proofs.NestedScores.{nested_scores}
use Rattle.verdicts.proofs.laws.nested_scores_are_the_plain_ones.Goals as goal

pub returns : goal.returns
returns c p least greatest ranks checked hidden nested number report =
    nested_scores p hidden number report (c.alternatives_have_one_pattern.ensures.checked p least greatest ranks checked hidden nested)
    (λ q same hides.
    let alone = subst (λ (x : PosedProblem). AreNestedAlternatives x.grammar hidden) (sym same) nested in
    record {
      derived = c.erasing_is_one_to_one_and_onto.ensures.derived q hidden alone hides;
      onto = c.erasing_is_one_to_one_and_onto.ensures.onto q hidden alone hides;
      scores = c.erasing_keeps_scores.ensures q hidden alone hides;
    })
