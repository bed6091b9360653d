-- Where tokens of fixed length match.
use Rattle.std.specs.Prelude.{◌≡◌, ◌↔◌, ℕ, ◌+◌, ◌<◌, ◌≤◌, ℤ, Some, List, length, slice_get, slice_index}
use Rattle.std.specs.List.{AllAdjacentBelow, Contains}
use Rattle.adp_model.specs.declared.grammar.Arg.{Arg}
use Rattle.adp_model.specs.declared.grammar.Arg.TheVariants.{Rule, Literal, Letter, Run}
use Rattle.adp_model.specs.PosedProblem.{PosedProblem}
use Rattle.viable_splits.specs.Placing.{Cover}
use Rattle.split_lines.specs.Flags.{AreBits}
use Rattle.score_numbers.specs.Limits.{no_limit, AreLimits}
use Rattle.split_lines.specs.declared.matches.Matches.{Matches}

-- how many letters a token of fixed length has
abbrev pub fixed_length : Arg → ℕ
fixed_length (Rule rule) = 0
fixed_length (Literal text) = length text
fixed_length (Letter class) = 1
fixed_length (Run class low high) = 0

-- wherever the tokens match, they have so many letters
abbrev pub HaveLetters : PosedProblem → List Arg → ℕ → Type 0
HaveLetters p tokens letters = (from to : ℕ) → Cover p tokens from to → to ≡ from + letters

-- nowhere in the word do the tokens match
abbrev pub MatchNowhere : PosedProblem → List Arg → Type 0
MatchNowhere p tokens = (from to : ℕ) → Cover p tokens from to → ⊥

-- the positions of the word before `past` at which the tokens match, in order
pub record AreMatchPositions (p : PosedProblem) (tokens : List Arg) (letters past : ℕ) (positions : List ℕ)
    : Type 0 where
  pub exact : (position : ℕ) → Contains positions position
      ↔ ((position < past) × Cover p tokens position (position + letters))
  pub rising : AllAdjacentBelow (λ (a b : ℕ). a < b) positions (length positions)

-- how many of the positions come before 0, before 1 and so on
pub record AreCounts (positions before : List ℕ) : Type 0 where
  pub few : (position : ℕ) → position < length before → slice_index before position ≤ length positions
  pub told : (position number : ℕ) → position < length before → number < length positions
      → (slice_index positions number < position) ↔ (number < slice_index before position)

-- there is a limit for each position of the word: none where that is one of these, else the mark
pub record AreLimitsOf (count : ℕ) (positions : List ℕ) (limits : List ℤ) : Type 0 where
  pub each : length limits ≡ count
  pub proper : AreLimits limits
  pub told : (position : ℕ) → Contains positions position ↔ (slice_get limits position ≡ Some no_limit)

-- how many letters the tokens have, where they match, how many of these positions come before each position, the limit
-- of sums at each position, and bits of these positions and of those behind the letters
pub record AreMatches (p : PosedProblem) (tokens : List Arg) (matches : Matches) : Type 0 where
  pub letters : HaveLetters p tokens matches.letters
  pub positions : AreMatchPositions p tokens matches.letters (length p.word + 1) matches.positions.items
  pub each : length matches.before.items ≡ length p.word + 2
  pub before : AreCounts matches.positions.items matches.before.items
  pub limits : AreLimitsOf (length p.word + 1) matches.positions.items matches.limits.items
  pub here : AreBits matches.positions.items 0 matches.here.items
  pub behind : AreBits matches.positions.items matches.letters matches.behind.items
