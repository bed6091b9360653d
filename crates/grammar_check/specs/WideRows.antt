-- What the rows of a wide alternative have: a row by spare letters for the term, and one for each side of each of its
-- nodes.
use Rattle.std.specs.Prelude.{◌≡◌, ℕ, ◌+◌, ◌<◌, List}
use Rattle.adp_model.specs.WideForm as wide
use Rattle.adp_model.specs.WideForm.{Number, Value, Sum, Difference, Product, Greater, Lesser}
use Rattle.adp_model.specs.LimitFaults.{told}
use Rattle.grammar_check.specs.declared.part.Part.{Part}
use Rattle.grammar_check.specs.declared.table.Table.{Table}
use Rattle.grammar_check.specs.Tables.{entry}
use Rattle.grammar_check.specs.Plans.{IsReadable, ReadsRight, part_at}
use Rattle.grammar_check.specs.TermSpreads.{term_spread}

-- the rows that the nodes of a term have: those of the left side, those of the right side, and one for each side
abbrev pub rows_of : wide.WideForm → ℕ
rows_of (Number number) = 0
rows_of (Value place) = 0
rows_of (Sum left right) = rows_of left + rows_of right + 2
rows_of (Difference left right) = rows_of left + rows_of right + 2
rows_of (Product left right) = rows_of left + rows_of right + 2
rows_of (Greater left right) = rows_of left + rows_of right + 2
rows_of (Lesser left right) = rows_of left + rows_of right + 2

-- the row has what the term can come to with less than so many spare letters, cut
abbrev pub HasRow : (ℕ → ℕ → ℕ) → List Part → Table → wide.WideForm → ℕ → ℕ → Type 0
HasRow bound parts table term row count =
    (column : ℕ) → column < count → entry table row column ≡ told (term_spread bound parts term column)

-- the same of both sides of a node, whose own rows begin here
abbrev pub HaveRows : (ℕ → ℕ → ℕ) → List Part → Table → wide.WideForm → wide.WideForm → ℕ → ℕ → Type 0
HaveRows bound parts table left right row count =
    HasRow bound parts table left row count × HasRow bound parts table right (row + 1) count

-- the same of all nodes of a term, whose rows begin here
abbrev pub AreTermRows : (ℕ → ℕ → ℕ) → List Part → Table → wide.WideForm → ℕ → ℕ → Type 0
AreTermRows bound parts table (Number number) first count = Unit {0}
AreTermRows bound parts table (Value place) first count = Unit {0}
AreTermRows bound parts table (Sum left right) first count =
    AreTermRows bound parts table left first count × AreTermRows bound parts table right (first + rows_of left) count
    × HaveRows bound parts table left right (first + rows_of left + rows_of right) count
AreTermRows bound parts table (Difference left right) first count =
    AreTermRows bound parts table left first count × AreTermRows bound parts table right (first + rows_of left) count
    × HaveRows bound parts table left right (first + rows_of left + rows_of right) count
AreTermRows bound parts table (Product left right) first count =
    AreTermRows bound parts table left first count × AreTermRows bound parts table right (first + rows_of left) count
    × HaveRows bound parts table left right (first + rows_of left + rows_of right) count
AreTermRows bound parts table (Greater left right) first count =
    AreTermRows bound parts table left first count × AreTermRows bound parts table right (first + rows_of left) count
    × HaveRows bound parts table left right (first + rows_of left + rows_of right) count
AreTermRows bound parts table (Lesser left right) first count =
    AreTermRows bound parts table left first count × AreTermRows bound parts table right (first + rows_of left) count
    × HaveRows bound parts table left right (first + rows_of left + rows_of right) count

-- the parts name rules of so many
abbrev pub AreAllReadable : ℕ → List Part → Type 0
AreAllReadable rules parts = (place : ℕ) → IsReadable rules (part_at parts place).worth

-- the table has what each part needs that all spare letters are given to
abbrev pub AreReadAt : (ℕ → ℕ → ℕ) → Table → List Part → ℕ → Type 0
AreReadAt bound table parts spare =
    (place : ℕ) → ReadsRight bound table (part_at parts place).worth ((part_at parts place).low + spare)
