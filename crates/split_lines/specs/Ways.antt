-- How an alternative opens on a cell, and how the arguments behind its tokens in front are laid.
use Rattle.std.specs.Prelude.{◌≡◌, ℕ, ◌+◌, ◌-◌, ◌≤◌, IfSome, List, [], ◌∷◌, drop, length}
use Rattle.adp_model.specs.declared.cell.Cell.{Cell}
use Rattle.adp_model.specs.declared.grammar.Arg.{Arg}
use Rattle.adp_model.specs.PosedProblem.{PosedProblem}
use Rattle.adp_model.specs.Lengths.{AllowsLength}
use Rattle.adp_model.specs.Parts.{alternative_at}
use Rattle.adp_model.specs.Splits.{IsViable}
use Rattle.viable_splits.specs.Placing.{Cover}
use Rattle.split_lines.specs.declared.kept.KeptAlternative.{KeptAlternative}
use Rattle.split_lines.specs.declared.ways.Way.{Way}
use Rattle.split_lines.specs.declared.ways.Way.TheVariants.{Front, Last, Several}
use Rattle.split_lines.specs.Kept.{IsAmong, IsAlternative}
use Rattle.split_lines.specs.Lines.{IsLine}

-- tokens in front that are all arguments have as many letters as lie between the two positions
abbrev pub MayFill : KeptAlternative → ℕ → ℕ → Type 0
MayFill kept from to = length kept.others.now ≡ 0 → to ≡ from + kept.letters

-- the alternative may have as many letters, as far as lengths alone tell
abbrev pub MaySpan : KeptAlternative → ℕ → ℕ → Type 0
MaySpan kept from to = IsAmong kept.lengths (to - from) × MayFill kept from to

-- the cell has no viable split by an alternative of which this is kept
abbrev pub IsClosed : PosedProblem → KeptAlternative → Cell → Type 0
IsClosed p kept cell =
    (alternative : ℕ) (cuts : List ℕ) → IsAlternative p cell.rule alternative kept
    → IsViable p cell alternative cuts → ⊥

-- the alternative allows the cell's length, and the tokens in front have the first letters of the cell, up to this end
-- and no other, and all of them where no argument stands behind
pub record IsOpening (p : PosedProblem) (kept : KeptAlternative) (cell : Cell) (end : ℕ) : Type 0 where
  pub allowed : (alternative : ℕ) → IsAlternative p cell.rule alternative kept
      → AllowsLength (alternative_at p.grammar cell.rule alternative) (cell.to - cell.from)
  pub within : end ≤ cell.to
  pub covers : Cover p kept.front.now cell.from end
  pub only : (other : ℕ) → Cover p kept.front.now cell.from other → other ≡ end
  pub whole : length kept.others.now ≡ 0 → end ≡ cell.to

-- the arguments behind the tokens in front are laid in this way
abbrev pub IsWay : PosedProblem → List Arg → Way → Type 0
IsWay p others Front = others ≡ []
IsWay p others (Last argument) = others ≡ argument.now ∷ []
IsWay p others (Several line) = IfSome line (λ line. IsLine p (drop line.first others) line)
