-- The lines of one block, as a text goes on.
use Rattle.std.specs.Prelude.{◌≡◌, ℕ, ◌-◌, ◌+◌, ◌<◌, ◌≤◌, ◌⊎◌, ◌↔◌, ℤ, Bool, IsTrue, Option, Some, None, List, [], ◌∷◌, ◌++◌, length, take, slice_get}
use Rattle.adp_model.specs.declared.cell.Cell.{Cell}
use Rattle.adp_model.specs.declared.grammar.Grammar.{Grammar}
use Rattle.adp_model.specs.PosedProblem.{PosedProblem, IsSpan}
use Rattle.adp_model.specs.Sizes.{IsWithinSizes}
use Rattle.table_certificate.specs.declared.forms.Form.{Form}
use Rattle.table_certificate.specs.declared.forms.Form.TheVariants as forms
use Rattle.table_certificate.specs.declared.blocks.Block.{Block}
use Rattle.table_certificate.specs.declared.blocks.Outcome.{Outcome}
use Rattle.table_certificate.specs.declared.blocks.Outcome.TheVariants.{FirstFalse, Right}
use Rattle.table_certificate.specs.CertificateLines.{LineForm, WordLine, CellLine, forms_of}
use Rattle.table_certificate.specs.LocalCertificate.{up_to_word_line, last_cell, IsRightInBlock, IsRightWordLine, IsTold}
use Rattle.table_certificate.specs.Claims.{Tell}
use Rattle.table_certificate.specs.SplitVerdicts.{HasSplitVerdict, IsJudged}
use Rattle.adp_model.specs.Parts.{algebra_of}

-- the cell lies in the word, and its length in its rule's sizes
pub record IsInWord (p : PosedProblem) (cell : Cell) : Type 0 where
  pub span : IsSpan p.word cell.from cell.to
  pub sizes : IsWithinSizes p.grammar cell.rule (cell.to - cell.from)

-- the same of a cell by its numbers
abbrev pub LiesInWord : PosedProblem → ℕ → ℕ → ℕ → Type 0
LiesInWord p rule from to =
    (from ≤ to) × (to ≤ length p.word) × IsWithinSizes p.grammar rule (to - from)

-- it is told whether no split of the cell is wrong and this is the best of their scores
pub record IsBestOrNot (p : PosedProblem) (said : Cell → Option (Option ℤ)) (cell : Cell) (score : Option ℤ) (told : Bool)
    : Type 0 where
  pub verdict : Option (Option ℤ)
  pub judged : IsJudged (algebra_of p).goal (HasSplitVerdict p said cell) verdict
  pub told_is : IsTrue told ↔ (verdict ≡ Some score)

-- a line of a cell has one of the grammar's rules
abbrev pub IsKnownLine : Grammar → LineForm → Type 0
IsKnownLine grammar (CellLine cell score) = cell.rule < length grammar.rules
IsKnownLine grammar form = Unit {0}

-- the same by its kept form
abbrev pub IsKnownForm : Grammar → Form → Type 0
IsKnownForm grammar (forms.Cell rule from to score) = rule < length grammar.rules
IsKnownForm grammar form = Unit {0}

-- the lines of a text before the next head of a block
abbrev pub lines_ahead : Grammar → List ℕ → List LineForm
lines_ahead grammar text = up_to_word_line (forms_of grammar text)

-- no line stands before the next head
abbrev pub IsAtHead : Grammar → List ℕ → Type 0
IsAtHead grammar text = lines_ahead grammar text ≡ []

-- what is kept of the lines before the next head: how many they are, what they say of cells, and what stands behind them
pub record IsBlock (grammar : Grammar) (text : List ℕ) (block : Block) : Type 0 where
  pub parts : forms_of grammar text ≡ lines_ahead grammar text ++ forms_of grammar block.behind.now
  pub ends : IsAtHead grammar block.behind.now
  pub counted : block.count ≡ length (lines_ahead grammar text)
  pub told : Tell block.claims (lines_ahead grammar text)
  pub fewer : block.count + length block.behind.now ≤ length text

-- the further line at this place of a block is right
abbrev pub IsRightFurther : PosedProblem → List LineForm → ℕ → Type 0
IsRightFurther p lines place =
    (form : LineForm) × (slice_get lines place ≡ Some form)
    × ((number : ℕ) → IsRightInBlock p lines number (last_cell None (take place lines)) form)

-- it is the first of the further lines that is not right
pub record IsFirstWrong (p : PosedProblem) (lines : List LineForm) (place : ℕ) : Type 0 where
  pub inside : place < length lines
  pub right : (earlier : ℕ) → earlier < place → IsRightFurther p lines earlier
  pub wrong : (form : LineForm) (number : ℕ) → slice_get lines place ≡ Some form
      → IsRightInBlock p lines number (last_cell None (take place lines)) form → ⊥

-- all further lines are right
abbrev pub AreRightFurther : PosedProblem → List LineForm → Type 0
AreRightFurther p lines = (place : ℕ) → place < length lines → IsRightFurther p lines place

-- the forms begin with the head of a block
pub record BeginsBlock (p : PosedProblem) (text : List ℕ) (lines : List LineForm) (number cells : ℕ) (behind : List LineForm)
    : Type 0 where
  pub forms : forms_of p.grammar text ≡ WordLine number cells ∷ (lines ++ behind)
  pub headless : up_to_word_line (lines ++ behind) ≡ lines
  pub ends : up_to_word_line behind ≡ []

-- the lines of a text begin with a block that is right, and tells this value
pub record IsRightBlock (p : PosedProblem) (block : ℕ) (text : List ℕ) (value : Option ℤ) (count : ℕ) (behind : List ℕ)
    : Type 0 where
  pub lines : List LineForm
  pub number : ℕ
  pub cells : ℕ
  pub begins : BeginsBlock p text lines number cells (forms_of p.grammar behind)
  pub head : IsRightWordLine p lines block number cells
  pub further : AreRightFurther p lines
  pub told : IsTold p lines value
  pub counted : count ≡ length lines + 1
  pub fewer : count + length behind ≤ length text

-- the first line that is false, with so many right ones before it: the head of the block is missing, or it is not right,
-- or it is right and a further line is the first wrong one
abbrev pub IsFirstFalseAhead : PosedProblem → ℕ → List ℕ → ℕ → Type 0
IsFirstFalseAhead p block text count =
    ((forms_of p.grammar text ≡ []) × (count ≡ 0))
    ⊎ ((lines behind : List LineForm) × (number : ℕ) × (cells : ℕ) × BeginsBlock p text lines number cells behind
    × (((IsRightWordLine p lines block number cells → ⊥) × (count ≡ 0))
    ⊎ (IsRightWordLine p lines block number cells × (place : ℕ) × IsFirstWrong p lines place × (count ≡ place + 1))))

-- what came of the block of this number
abbrev pub IsOutcome : PosedProblem → ℕ → List ℕ → Outcome → Type 0
IsOutcome p block text (FirstFalse count) = IsFirstFalseAhead p block text count
IsOutcome p block text (Right value count behind) = IsRightBlock p block text value count behind.now

-- the lines before the first false one are no more than the bytes
abbrev pub IsWithin : List ℕ → Outcome → Type 0
IsWithin text (FirstFalse count) = count ≤ length text
IsWithin text (Right value count behind) = Unit {0}
