use Rattle.suffix_cells.proofs.Straights.{ends_with_word}
use Rattle.suffix_cells.proofs.laws.demanded_cells_end_with_the_word.Goals as goal

pub returns : goal.returns
returns c = ends_with_word
