-- Lists that say where tokens match, and the number of each middle's list.
use Rattle.std.specs.Prelude.{◌≡◌, ℕ, ◌<◌, List, length, slice_index, slice_index_or}
use Rattle.adp_model.specs.declared.grammar.Arg.{Arg}
use Rattle.adp_model.specs.PosedProblem.{PosedProblem}
use Rattle.split_lines.specs.declared.found.Found.{Found}
use Rattle.split_lines.specs.declared.kept_rules.Middle.{Middle}
use Rattle.split_lines.specs.declared.matches.Matches.{Matches}
use Rattle.split_lines.specs.Matching.{AreMatches, MatchNowhere}

-- the list of this number is that of these tokens
pub record IsListOf (p : PosedProblem) (lists : List Matches) (tokens : List Arg) (number : ℕ) : Type 0 where
  pub within : number < length lists
  pub are : (d : Matches) → AreMatches p tokens (slice_index_or lists number d)

-- the first list is that of all tokens that match nowhere
abbrev pub HasNowhere : PosedProblem → List Matches → Type 0
HasNowhere p lists = (tokens : List Arg) → MatchNowhere p tokens → IsListOf p lists tokens 0

-- the first so many of the middles have their lists
pub record AreFoundIn (p : PosedProblem) (middles : List Middle) (count : ℕ) (lists : List Matches) (numbers : List ℕ)
    : Type 0 where
  pub each : length numbers ≡ count
  pub are : (number : ℕ) (d : Middle) → number < count
      → IsListOf p lists (slice_index_or middles number d).tokens.now (slice_index numbers number)

abbrev pub AreFound : PosedProblem → List Middle → ℕ → Found → Type 0
AreFound p middles count found = AreFoundIn p middles count found.lists.items found.numbers.items
