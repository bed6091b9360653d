-- What the fields of a problem's lines stand for.
use Rattle.std.specs.Prelude.{◌≤◌, length}
use Rattle.adp_model.specs.ProblemFields.{most_letters}
use Rattle.split_lines.specs.declared.lines.Lines.TheInside.{Inside}
use Rattle.split_lines.specs.Found.{AreFound}
use Rattle.split_lines.specs.KeptRules.{AreKeptFor, kept_of}

-- what is kept of all alternatives, and where the middles of their lines match in the word
pub record AreLines (fields : Inside) : Type 0 where
  pub short : length fields.tables.word ≤ most_letters
  pub kept_are : AreKeptFor fields.tables.grammar fields.tables.algebra (kept_of fields.kept)
  pub found_are : AreFound fields.tables (kept_of fields.kept).middles.items
      (length (kept_of fields.kept).middles.items) fields.found
