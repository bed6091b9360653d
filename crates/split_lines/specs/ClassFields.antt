-- What the fields of the tables of a problem's classes stand for.
use Rattle.std.specs.Prelude.{◌≡◌, ℕ, ◌<◌, List, length, slice_index_or}
use Rattle.adp_model.specs.PosedProblem.{PosedProblem}
use Rattle.adp_model.specs.Parts.{letters_of}
use Rattle.split_lines.specs.declared.classes.ClassTable.{ClassTable}
use Rattle.split_lines.specs.declared.classes.ClassTables.TheInside.{Inside}
use Rattle.split_lines.specs.Classes.{IsTable}

-- the tables of the first so many classes
pub record AreTables (p : PosedProblem) (count : ℕ) (tables : List ClassTable) : Type 0 where
  pub each : length tables ≡ count
  pub are : (class : ℕ) (d : ClassTable) → class < count
      → IsTable (letters_of p.grammar class) p.word (slice_index_or tables class d)

-- there is a table for each class
abbrev pub AreAllTables : Inside → Type 0
AreAllTables fields = AreTables fields.problem.now (length fields.problem.now.grammar.classes) fields.tables.items
