-- What is kept of what lines say of cells.
use Rattle.std.specs.Prelude.{◌≡◌, ℕ, ◌+◌, ◌*◌, ◌^◌, ◌<◌, ℤ, Option, Some, List, unwrap_or}
use Rattle.std.specs.BTreeMap.{get}
use Rattle.std.specs.Ordering.{nat_cmp}
use Rattle.adp_model.specs.declared.cell.Cell.{Cell}
use Rattle.cell_tables.specs.Spans.{value_at}
use Rattle.table_certificate.specs.declared.claims.Claims.{Claims}
use Rattle.table_certificate.specs.CertificateLines.{LineForm}
use Rattle.table_certificate.specs.LocalCertificate.{said_of}

-- the number that stands for a cell
abbrev pub key_of : Cell → ℕ
key_of cell = (cell.rule * 65536 + cell.from) * 65536 + cell.to

-- what is kept of a cell: in its row, where it has a place there, else by its number
abbrev pub claimed : Claims → Cell → Option (Option ℤ)
claimed claims cell =
    unwrap_or (value_at claims.rows cell.rule cell.from cell.to) (get nat_cmp claims.others (key_of cell))

-- the positions of the cell are short numbers, as those of each cell in a word are
pub record IsShort (cell : Cell) : Type 0 where
  pub begins : cell.from < 2 ^ 16
  pub ends : cell.to < 2 ^ 16

-- of each such cell it is kept what the lines say of it
abbrev pub Tell : Claims → List LineForm → Type 0
Tell claims lines = (cell : Cell) → IsShort cell → claimed claims cell ≡ said_of lines cell

-- this is kept of the cell too, and of each other one what was
pub record IsKeptToo (old new : Claims) (cell : Cell) (score : Option ℤ) : Type 0 where
  pub there : claimed new cell ≡ Some score
  pub others : (other : Cell) → IsShort other → (other ≡ cell → ⊥) → claimed new other ≡ claimed old other
