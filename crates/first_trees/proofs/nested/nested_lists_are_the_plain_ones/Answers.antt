use Rattle.std.proofs.Common.{ℕ}
use Rattle.adp_model.specs.PosedProblem.{PosedProblem}
use Rattle.nested_trees.specs.HiddenRules.{AreNestedAlternatives}
use Rattle.nested_trees.specs.Patterns.{HidesRules, Patterns}
use Rattle.first_trees.proofs.Erased.{ErasingLaws, list_erased, list_restored}
use Rattle.first_trees.proofs.nested.nested_lists_are_the_plain_ones.Goals as goal

laws : (c : goal.After-alternatives_have_one_pattern) (p : PosedProblem) (hidden : ℕ)
    → AreNestedAlternatives p.grammar hidden → (patterns : ℕ → ℕ → Patterns)
    → HidesRules (record { plain = p; patterns = patterns }) hidden
    → ErasingLaws (record { plain = p; patterns = patterns }) hidden
laws c p hidden alone patterns hides = record {
  derived = c.erasing_is_one_to_one_and_onto.ensures.derived (record { plain = p; patterns = patterns }) hidden alone hides;
  one = c.erasing_is_one_to_one_and_onto.ensures.one p hidden alone;
  onto = c.erasing_is_one_to_one_and_onto.ensures.onto (record { plain = p; patterns = patterns }) hidden alone hides;
  order = c.erasing_keeps_the_order.ensures (record { plain = p; patterns = patterns }) hidden alone hides;
  score = c.erasing_keeps_scores.ensures (record { plain = p; patterns = patterns }) hidden alone hides;
  text = c.erasing_keeps_texts.ensures p hidden;
}

pub returns : goal.returns
returns c number p least greatest ranks checked hidden alone k report =
    let found = c.alternatives_have_one_pattern.ensures.checked p least greatest ranks checked hidden alone in (
      list_erased p hidden found.0 found.1 (laws c p hidden alone found.0 found.1) number k report,
      list_restored p hidden (laws c p hidden alone) number k report,
    )
