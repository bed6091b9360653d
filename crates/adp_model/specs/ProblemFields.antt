-- Problems that were admitted, and what their fields stand for.
use Rattle.std.specs.Prelude.{◌≡◌, ℕ, ◌-◌, ◌^◌, ◌<◌, ◌≤◌, Bool, false, MatchBool, Option, List, length, slice_index_or}
use Rattle.adp_model.specs.declared.grammar.Grammar.{Grammar}
use Rattle.adp_model.specs.declared.problem.Problem.TheInside.{Inside}
use Rattle.adp_model.specs.PosedProblem.{PosedProblem}
use Rattle.adp_model.specs.Checks.{IsChecked}
use Rattle.adp_model.specs.Anchors.{IsLeftAnchored, IsLeftFree, IsRightAnchored, IsRightFree}
use Rattle.adp_model.specs.Cells.{IsCellBound}
use Rattle.adp_model.specs.Bounds.{IsScoreBound, IsNodeBound}

-- the limits of a word: letters, cells, nodes of a tree, and scores in absolute value
abbrev pub most_letters : ℕ
most_letters = 4000

abbrev pub most_cells : ℕ
most_cells = 2097152

abbrev pub most_nodes : ℕ
most_nodes = 1048576

abbrev pub greatest_score : ℕ
greatest_score = 2 ^ 62 - 1

-- a length keeps the four limits
pub record KeepsLimits (grammar : Grammar) (algebra len : ℕ) : Type 0 where
  pub letters : len ≤ most_letters
  pub cells : (count : ℕ) × IsCellBound grammar len count × (count ≤ most_cells)
  pub nodes : (number : ℕ) × IsNodeBound grammar len number × (number ≤ most_nodes)
  pub scores : (number : ℕ) × IsScoreBound grammar algebra len number × (number ≤ greatest_score)

-- the grammar passes its checks, and the word keeps the limits
pub record IsAdmissible (p : PosedProblem) : Type 0 where
  pub least : List ℕ
  pub greatest : List (Option ℕ)
  pub ranks : List ℕ
  pub checked : IsChecked p.grammar p.algebra least greatest ranks
  pub limits : KeepsLimits p.grammar p.algebra (length p.word)

-- the flags tell which rules are left-anchored
pub record AreLeftAnchors (grammar : Grammar) (flags : List Bool) : Type 0 where
  pub each : length flags ≡ length grammar.rules
  pub told : (rule : ℕ) → rule < length grammar.rules
      → MatchBool (slice_index_or flags rule false) (IsLeftAnchored grammar rule) (IsLeftFree grammar rule)

-- the flags tell which rules are right-anchored
pub record AreRightAnchors (grammar : Grammar) (flags : List Bool) : Type 0 where
  pub each : length flags ≡ length grammar.rules
  pub told : (rule : ℕ) → rule < length grammar.rules
      → MatchBool (slice_index_or flags rule false) (IsRightAnchored grammar rule) (IsRightFree grammar rule)

-- the grammar, the algebra and the word
abbrev pub posed_problem : Inside → PosedProblem
posed_problem fields = record { grammar = fields.grammar.now; algebra = fields.algebra; word = fields.word.now }

-- the fields are what the checks and the limits find
pub record IsAdmitted (fields : Inside) : Type 0 where
  pub checked : IsChecked fields.grammar.now fields.algebra fields.least.now fields.greatest.now fields.ranks.now
  pub left : AreLeftAnchors fields.grammar.now fields.left.now
  pub right : AreRightAnchors fields.grammar.now fields.right.now
  pub letters : length fields.word.now ≤ most_letters
  pub cells : IsCellBound fields.grammar.now (length fields.word.now) fields.cells
  pub few_cells : fields.cells ≤ most_cells
  pub nodes : (number : ℕ) × IsNodeBound fields.grammar.now (length fields.word.now) number × (number ≤ most_nodes)
  pub scores : IsScoreBound fields.grammar.now fields.algebra (length fields.word.now) fields.score_bound
  pub low_scores : fields.score_bound ≤ greatest_score
