-- The blocks of rows and of columns: which far ends the counted cells of a rule and a near end have, and where what is
-- kept of them stands.
use Rattle.std.specs.Prelude.{◌≡◌, ◌↔◌, ℕ, ◌+◌, ◌-◌, ◌*◌, ◌/◌, ◌<◌, ◌≤◌, List, length, take, sum_by, slice_index_or}
use Rattle.std.specs.Arc.{arc_value}
use Rattle.adp_model.specs.declared.grammar.Grammar.{Grammar}
use Rattle.adp_model.specs.declared.cell.Cell.{Cell}
use Rattle.adp_model.specs.Cells.{IsCounted, IsPlaceOf}
use Rattle.cell_layouts.specs.declared.cells.RuleBounds.{RuleBounds}
use Rattle.cell_layouts.specs.declared.laid_out.LaidOut.{LaidOut}
use Rattle.cell_layouts.specs.declared.layout.Block.{Block}
use Rattle.cell_layouts.specs.declared.layout.Laid.{Laid}
use Rattle.cell_layouts.specs.declared.layout.Side.{Side}
use Rattle.cell_layouts.specs.declared.layout.Side.TheVariants.{Rows, Columns}
use Rattle.cell_layouts.specs.CountedCells.{LeavesSpan}

-- the cell of a rule with this near end and this far end: cells begin at the near end in rows, and end there in columns
abbrev pub cell_at : Side → ℕ → ℕ → ℕ → Cell
cell_at Rows rule near far = record { rule = rule; from = near; to = far }
cell_at Columns rule near far = record { rule = rule; from = far; to = near }

-- the bounds leave the rule the spans of its counted cells
abbrev pub AreBoundsOf : Grammar → ℕ → ℕ → RuleBounds → Type 0
AreBoundsOf grammar len rule bounds = (from to : ℕ)
    → IsCounted grammar len (record { rule = rule; from = from; to = to }) ↔ LeavesSpan bounds len from to

-- the counted cells of a rule at a near end are those whose far ends lie in this range: from `first` on, before `past`
abbrev pub AreCountedFars : Grammar → ℕ → Side → ℕ → ℕ → ℕ → ℕ → Type 0
AreCountedFars grammar len side rule near first past =
    (far : ℕ) → IsCounted grammar len (cell_at side rule near far) ↔ ((first ≤ far) × (far < past))

-- how much a block holds
abbrev pub size_of : Block → ℕ
size_of block = block.past - block.first

-- the blocks lie one behind the other, and hold so much together
pub record AreLaid (blocks : List Block) (count : ℕ) : Type 0 where
  pub placed : (number : ℕ) (d : Block) → number < length blocks
      → (slice_index_or blocks number d).place ≡ sum_by size_of (take number blocks)
  pub all : count ≡ sum_by size_of blocks

-- the block of a rule and a near end, where each rule has one more than the word has letters
abbrev pub block_in : List Block → ℕ → ℕ → ℕ → Block
block_in blocks len rule near =
    slice_index_or blocks (rule * (len + 1) + near) (record { place = 0; first = 0; past = 0 })

-- the block of the rule and the near end is that of the counted cells there
pub record IsCountedBlock (grammar : Grammar) (len : ℕ) (side : Side) (rule near : ℕ) (block : Block) : Type 0 where
  pub fars : AreCountedFars grammar len side rule near block.first block.past
  pub in_order : block.first ≤ block.past

-- the blocks of so many first rules and near ends, which hold so much together
pub record AreFirstBlocks (grammar : Grammar) (len : ℕ) (side : Side) (number count : ℕ) (blocks : List Block)
    : Type 0 where
  pub each : length blocks ≡ number
  pub laid : AreLaid blocks count
  pub are : (rule near : ℕ) → near ≤ len → rule * (len + 1) + near < number
      → IsCountedBlock grammar len side rule near (block_in blocks len rule near)

-- the blocks of all rules and near ends
abbrev pub AreCountedBlocks : Grammar → ℕ → Side → ℕ → List Block → Type 0
AreCountedBlocks grammar len side count blocks =
    AreFirstBlocks grammar len side (length grammar.rules * (len + 1)) count blocks

-- the block of each rule and start stands at the place of the first of the rule's counted cells that begin there or,
-- where there is none, of the next counted cell
abbrev pub ArePlaced : Grammar → ℕ → List Block → Type 0
ArePlaced grammar len blocks = (rule from : ℕ) → rule < length grammar.rules → from ≤ len
    → IsPlaceOf grammar len (record { rule = rule; from = from; to = 0 }) (block_in blocks len rule from).place

-- the second block has a number for each 64 far ends among which one of the first block lies
pub record IsWordBlock (fars words : Block) : Type 0 where
  pub there : (far : ℕ) → fars.first ≤ far → far < fars.past → (words.first ≤ far / 64) × (far / 64 < words.past)
  pub in_order : words.first ≤ words.past
  pub few : words.past ≤ 1024

-- the blocks of numbers, so many together, for blocks of far ends
pub record AreWordBlocks (fars : List Block) (count : ℕ) (words : List Block) : Type 0 where
  pub as_many : length words ≡ length fars
  pub laid : AreLaid words count
  pub each : (number : ℕ) (d : Block) → number < length fars
      → IsWordBlock (slice_index_or fars number d) (slice_index_or words number d)

-- the blocks of all rules and near ends have a number for each 64 far ends among which that of a counted cell lies
pub record AreCountedWords (grammar : Grammar) (len : ℕ) (side : Side) (count : ℕ) (words : List Block) : Type 0 where
  pub each : length words ≡ length grammar.rules * (len + 1)
  pub laid : AreLaid words count
  pub there : (rule near far : ℕ) → IsCounted grammar len (cell_at side rule near far)
      → ((block_in words len rule near).first ≤ far / 64) × (far / 64 < (block_in words len rule near).past)

-- the blocks are those of the counted cells of words of this length
abbrev pub AreLaidBlocks : Grammar → ℕ → Side → Laid → Type 0
AreLaidBlocks grammar len side laid = AreCountedBlocks grammar len side laid.count laid.blocks.items

-- the blocks of numbers hold a bit for each counted cell of words of this length
abbrev pub AreLaidWords : Grammar → ℕ → Side → Laid → Type 0
AreLaidWords grammar len side laid = AreCountedWords grammar len side laid.count laid.blocks.items

-- what is laid out is that of the counted cells of words of this length
pub record IsLaidOut (grammar : Grammar) (len : ℕ) (laid : LaidOut) : Type 0 where
  pub rows : AreLaidBlocks grammar len Rows (arc_value laid.rows)
  pub columns : AreLaidBlocks grammar len Columns (arc_value laid.columns)
  pub row_words : AreLaidWords grammar len Rows (arc_value laid.row_words)
  pub column_words : AreLaidWords grammar len Columns (arc_value laid.column_words)
