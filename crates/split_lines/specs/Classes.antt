-- What the letters of a word tell of a class.
use Rattle.std.specs.Prelude.{◌≡◌, ◌↔◌, ℕ, ◌+◌, ◌*◌, ◌^◌, ◌<◌, ◌≤◌, ℤ, pos, ◌-ℤ◌, nat_abs, Option, None, List, length, slice_index, slice_index_or}
use Rattle.std.specs.List.{AllByRecursion}
use Rattle.adp_model.specs.declared.grammar.Grammar.{Grammar}
use Rattle.adp_model.specs.PosedProblem.{IsSpan}
use Rattle.adp_model.specs.Parts.{letters_of}
use Rattle.adp_model.specs.Tokens.{letters_between, IsIn, total_weight, weight_of}
use Rattle.split_lines.specs.declared.classes.ClassTable.{ClassTable}

-- for each letter its weight in the class
abbrev pub AreLetterWeights : List (ℕ × ℤ) → List (Option ℤ) → Type 0
AreLetterWeights class weights = (letter : ℕ) → letter < 256 → slice_index_or weights letter None ≡ weight_of class letter

-- the same for each class of the grammar
pub record AreClassWeights (grammar : Grammar) (weights : List (List (Option ℤ))) : Type 0 where
  pub each : length weights ≡ length grammar.classes
  pub are : (class : ℕ) (d : List (Option ℤ)) → class < length grammar.classes
      → AreLetterWeights (letters_of grammar class) (slice_index_or weights class d)

-- for each position of the word the last one up to which all letters are in the class, or one behind the word
pub record IsAhead (class : List (ℕ × ℤ)) (word ahead : List ℕ) : Type 0 where
  pub each : length ahead ≡ length word + 1
  pub told : (from to : ℕ) → IsSpan word from to
      → AllByRecursion (IsIn class) (letters_between word from to) ↔ (to ≤ slice_index ahead from)

-- for each position of the word the first one from which on all letters up to there are in the class
pub record IsBehind (class : List (ℕ × ℤ)) (word behind : List ℕ) : Type 0 where
  pub each : length behind ≡ length word + 1
  pub told : (from to : ℕ) → IsSpan word from to
      → AllByRecursion (IsIn class) (letters_between word from to) ↔ (slice_index behind to ≤ from)

-- for each position of the word what the letters before it weigh
pub record AreSums (class : List (ℕ × ℤ)) (word : List ℕ) (sums : List ℤ) : Type 0 where
  pub each : length sums ≡ length word + 1
  pub told : (from to : ℕ) → IsSpan word from to
      → total_weight class (letters_between word from to)
      ≡ (slice_index_or sums to (pos 0) -ℤ slice_index_or sums from (pos 0))
  pub low : (position : ℕ) → position ≤ length word → nat_abs (slice_index_or sums position (pos 0)) ≤ 2 ^ 63 * position

-- the table of a class for a word
pub record IsTable (class : List (ℕ × ℤ)) (word : List ℕ) (table : ClassTable) : Type 0 where
  pub ahead : IsAhead class word table.ahead.items
  pub behind : IsBehind class word table.behind.items
  pub sums : AreSums class word table.sums.items
