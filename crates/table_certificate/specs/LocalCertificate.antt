-- Certificates that are locally right: each line is right by its neighbours alone, and no line is missing. Lines are
-- given by their forms and told by their places, from 0 on. Those of one word are a block: its head, a line `word k cells
-- m`, and the lines behind it up to before the next such line.
use Rattle.std.specs.Prelude.{◌≡◌, ℕ, zero, suc, ◌-◌, ◌<◌, ◌≤◌, ◌⊎◌, ◌==◌, ℤ, Bool, true, false, ◌&&◌, nat_abs, if◌then◌else◌, Option, Some, None, IsSome, IfSome, List, [], ◌∷◌, length, map, take, slice_get, slice_index_or}
use Rattle.adp_model.specs.declared.cell.Cell.{Cell}
use Rattle.adp_model.specs.declared.cell.Choice.{Choice}
use Rattle.adp_model.specs.PosedProblem.{PosedProblem, IsSpan, axiom_cell}
use Rattle.adp_model.specs.Parts.{algebra_of, term_of}
use Rattle.adp_model.specs.Terms.{magnitude}
use Rattle.adp_model.specs.Scores.{IsBetter}
use Rattle.adp_model.specs.Sizes.{IsWithinSizes}
use Rattle.adp_model.specs.Cells.{CellPrecedes}
use Rattle.adp_model.specs.Splits.{placed, IsViable}
use Rattle.adp_model.specs.Demand.{IsDemandedChild}
use Rattle.adp_model.specs.FirstSplit.{AreArgumentValues, IsScoredSplit}
use Rattle.adp_model.specs.ProblemFields.{greatest_score}
use Rattle.table_certificate.specs.CertificateLines.{LineForm, CertLine, WordLine, CellLine}

-- ---- blocks

-- the line begins a block
abbrev pub is_word_line : LineForm → Bool
is_word_line (WordLine number cells) = true
is_word_line form = false

-- the lines before the next one that begins a block
abbrev pub up_to_word_line : List LineForm → List LineForm
up_to_word_line [] = []
up_to_word_line (form ∷ forms) = if is_word_line form then [] else form ∷ up_to_word_line forms

-- the lines of each block behind its head
abbrev pub blocks_of : List LineForm → List (List LineForm)
blocks_of [] = []
blocks_of (form ∷ forms) = if is_word_line form then up_to_word_line forms ∷ blocks_of forms else blocks_of forms

-- how many lines begin a block
abbrev pub head_count : List LineForm → ℕ
head_count [] = 0
head_count (form ∷ forms) = if is_word_line form then suc (head_count forms) else head_count forms

-- the number of the block that the line at this place stands in, from 1 on; 0 where it stands before all blocks
abbrev pub block_number : List LineForm → ℕ → ℕ
block_number forms place = head_count (take (suc place) forms)

-- the lines behind the head of the block with this number, from 1 on
abbrev pub block_lines : List LineForm → ℕ → List LineForm
block_lines forms number = slice_index_or (blocks_of forms) (number - 1) []

-- the problem of the block with this number: block 1 belongs to the first one
abbrev pub problem_of : List PosedProblem → ℕ → Option PosedProblem
problem_of problems zero = None
problem_of problems (suc number) = slice_get problems number

-- of lines in order, the cell of the last one of a cell behind the last head of a block, or behind an earlier cell
abbrev pub last_cell : Option Cell → List LineForm → Option Cell
last_cell earlier [] = earlier
last_cell earlier (WordLine number cells ∷ forms) = last_cell None forms
last_cell earlier (CellLine cell score ∷ forms) = last_cell (Some cell) forms
last_cell earlier (form ∷ forms) = last_cell earlier forms

-- ---- what the lines of a block say of its cells

abbrev pub same_cell : Cell → Cell → Bool
same_cell a b = (a.rule == b.rule) && (a.from == b.from) && (a.to == b.to)

-- what is said of the cell, by its earliest line; nothing where it has no line
abbrev pub said_of : List LineForm → Cell → Option (Option ℤ)
said_of [] cell = None
said_of (CellLine other score ∷ lines) cell = if same_cell other cell then Some score else said_of lines cell
said_of (form ∷ lines) cell = said_of lines cell

-- the cell has a line
abbrev pub HasLine : List LineForm → Cell → Type 0
HasLine lines cell = IsSome (said_of lines cell)

-- the cell is said to have this score
abbrev pub SaysScore : List LineForm → Cell → ℤ → Type 0
SaysScore lines cell score = said_of lines cell ≡ Some (Some score)

-- ---- a line that is right

-- the best score of the cell's splits, at the scores that the lines say; none where no split has scores
abbrev pub IsBestSaid : PosedProblem → List LineForm → Cell → Option ℤ → Type 0
IsBestSaid p lines cell None =
    (score : ℤ) (choice : Choice) → IsScoredSplit p (SaysScore lines) cell score choice → ⊥
IsBestSaid p lines cell (Some score) =
    ((choice : Choice) × IsScoredSplit p (SaysScore lines) cell score choice)
    × ((other : ℤ) (choice : Choice) → IsScoredSplit p (SaysScore lines) cell other choice
    → IsBetter (algebra_of p).goal other score → ⊥)

-- a split's term has a magnitude in range at the scores that the lines say
abbrev pub AreLowSplits : PosedProblem → List LineForm → Cell → Type 0
AreLowSplits p lines cell =
    (choice : Choice) (values : List ℤ) → IsViable p cell choice.alt choice.cuts
    → AreArgumentValues p (SaysScore lines) (placed p cell choice.alt choice.cuts) values
    → magnitude (term_of p cell.rule choice.alt) (map nat_abs values) ≤ greatest_score

-- a line of a cell among the lines of its block: the cell lies in the word, and its length in its rule's sizes; it is
-- greater than that of the nearest earlier line of a cell; each demanded child has a line; the score is the best over the
-- viable splits whose rule arguments all have scores, and `none` where there is no such split; and none of these splits
-- has a term whose magnitude is out of range
pub record IsRightCellLine (p : PosedProblem) (lines : List LineForm) (earlier : Option Cell) (cell : Cell)
    (score : Option ℤ) : Type 0 where
  pub in_word : IsSpan p.word cell.from cell.to
  pub in_sizes : IsWithinSizes p.grammar cell.rule (cell.to - cell.from)
  pub in_order : IfSome earlier (λ before. CellPrecedes before cell)
  pub children : (child : Cell) → IsDemandedChild p cell child → HasLine lines child
  pub best : IsBestSaid p lines cell score
  pub low : AreLowSplits p lines cell

-- the head of a block: its number is the block's, it counts the block's further lines, those without form included, and
-- where the word's length lies in the axiom's sizes the axiom's cell has a line
pub record IsRightWordLine (p : PosedProblem) (lines : List LineForm) (block number cells : ℕ) : Type 0 where
  pub numbered : number ≡ block
  pub counted : cells ≡ length lines
  pub axiom_line : IsWithinSizes p.grammar p.grammar.axiom (length p.word) → HasLine lines (axiom_cell p)

-- the line in this block of a problem, behind an earlier cell
abbrev pub IsRightInBlock : PosedProblem → List LineForm → ℕ → Option Cell → LineForm → Type 0
IsRightInBlock p lines block earlier (WordLine number cells) = IsRightWordLine p lines block number cells
IsRightInBlock p lines block earlier (CellLine cell score) = IsRightCellLine p lines earlier cell score
IsRightInBlock p lines block earlier form = ⊥

-- line 1 is `cert`, and each further line stands in a problem's block and is right there
abbrev pub IsRight : List PosedProblem → List LineForm → ℕ → Type 0
IsRight problems forms zero = slice_get forms 0 ≡ Some CertLine
IsRight problems forms (suc place) =
    (p : PosedProblem) × (form : LineForm) × (problem_of problems (block_number forms (suc place)) ≡ Some p)
    × (slice_get forms (suc place) ≡ Some form)
    × IsRightInBlock p (block_lines forms (block_number forms (suc place))) (block_number forms (suc place))
    (last_cell None (take (suc place) forms)) form

-- ---- the certificate

-- there is a line 1, and each problem has its block
pub record IsWhole (problems : List PosedProblem) (forms : List LineForm) : Type 0 where
  pub begins : 0 < length forms
  pub blocks : length problems ≤ head_count forms

-- no line is false, and none is missing
pub record IsLocallyRight (problems : List PosedProblem) (forms : List LineForm) : Type 0 where
  pub right : (place : ℕ) → place < length forms → IsRight problems forms place
  pub whole : IsWhole problems forms

-- the line at this place is the first that is false; a missing one stands behind all lines
pub record IsFirstFalse (problems : List PosedProblem) (forms : List LineForm) (place : ℕ) : Type 0 where
  pub right : (earlier : ℕ) → earlier < place → IsRight problems forms earlier
  pub wrong : ((place < length forms) × (IsRight problems forms place → ⊥))
      ⊎ ((place ≡ length forms) × (IsWhole problems forms → ⊥))

-- ---- what a certificate tells

-- the score in the line of the axiom's cell; nothing where that says `none`, or where the word's length lies outside
-- the axiom's sizes
pub record IsTold (p : PosedProblem) (lines : List LineForm) (value : Option ℤ) : Type 0 where
  pub said : IsWithinSizes p.grammar p.grammar.axiom (length p.word) → said_of lines (axiom_cell p) ≡ Some value
  pub outside : (IsWithinSizes p.grammar p.grammar.axiom (length p.word) → ⊥) → value ≡ None

-- one value for each problem, told by its block
abbrev pub AreTold : List PosedProblem → List (List LineForm) → List (Option ℤ) → Type 0
AreTold [] blocks values = values ≡ []
AreTold (p ∷ problems) [] values = ⊥
AreTold (p ∷ problems) (lines ∷ blocks) [] = ⊥
AreTold (p ∷ problems) (lines ∷ blocks) (value ∷ values) = IsTold p lines value × AreTold problems blocks values
