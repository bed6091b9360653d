-- What the fields stand for that words of one grammar share.
use Rattle.cell_layouts.specs.Layout.{IsLaidOut}
use Rattle.split_lines.specs.declared.shared.Shared.TheInside.{Inside}
use Rattle.split_lines.specs.KeptRules.{AreKeptFor}

-- what is kept is of the grammar and the algebra, and the blocks are laid out for words of the length
pub record AreShared (fields : Inside) : Type 0 where
  pub kept_are : AreKeptFor fields.grammar.now fields.algebra fields.kept
  pub laid_out : IsLaidOut fields.grammar.now fields.length fields.laid
