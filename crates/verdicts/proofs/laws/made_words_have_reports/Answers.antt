use Rattle.verdicts.proofs.Made.{made_reported}
use Rattle.verdicts.proofs.laws.made_words_have_reports.Goals as goal

pub returns : goal.returns
returns c = made_reported (record {
  checked = c.faultless_grammars_have_sizes_and_ranks.ensures;
  listed = c.cells_have_first_trees.ensures;
  first = c.first_tree_is_the_preferred_tree.ensures.first;
  none = c.first_tree_is_the_preferred_tree.ensures.none;
  demanded = c.demanded_cells_have_a_number.ensures;
})
