-- What is kept of alternatives, lines and rules.
use Rattle.std.specs.Prelude.{◌≡◌, ℕ, ◌<◌, Option, MatchOption, List, length, drop, slice_index_or}
use Rattle.std.specs.List.{AllByRecursion}
use Rattle.adp_model.specs.declared.grammar.Arg.{Arg}
use Rattle.adp_model.specs.declared.grammar.Grammar.{Grammar}
use Rattle.adp_model.specs.PosedProblem.{PosedProblem}
use Rattle.adp_model.specs.Parts.{alternatives_of, arguments_of}
use Rattle.adp_model.specs.WellFormed.{IsKnown}
use Rattle.split_lines.specs.Classes.{AreClassWeights}
use Rattle.split_lines.specs.declared.kept.KeptAlternative.{KeptAlternative}
use Rattle.split_lines.specs.declared.kept_rules.Kept.{Kept}
use Rattle.split_lines.specs.declared.kept_rules.Kept.TheVariants.{Own, Shared}
use Rattle.split_lines.specs.declared.kept_rules.KeptLine.{KeptLine}
use Rattle.split_lines.specs.declared.kept_rules.KeptRule.{KeptRule}
use Rattle.split_lines.specs.declared.kept_rules.KeptRules.{KeptRules}
use Rattle.split_lines.specs.declared.kept_rules.Middle.{Middle}
use Rattle.split_lines.specs.Beginnings.{AreTold}
use Rattle.split_lines.specs.EachWord.{AtEachWord}
use Rattle.split_lines.specs.Extents.{IsExtent}
use Rattle.split_lines.specs.Kept.{IsAlternative}
use Rattle.split_lines.specs.Laid.{IsFixed}
use Rattle.split_lines.specs.Matching.{HaveLetters}
use Rattle.split_lines.specs.Lines.{parts_by, HasLine}

-- the tokens are known and have fixed length
pub record AreTokens (grammar : Grammar) (tokens : List Arg) : Type 0 where
  pub known : AllByRecursion (IsKnown grammar) tokens
  pub fixed : AllByRecursion IsFixed tokens

-- so do those of each of the middles
abbrev pub AreMiddles : Grammar → List Middle → Type 0
AreMiddles grammar middles =
    (number : ℕ) (d : Middle) → number < length middles
    → AreTokens grammar (slice_index_or middles number d).tokens.now

-- the later ones have the earlier ones under their numbers
pub record HasAllOf {X : Type 0} (earlier later : List X) : Type 0 where
  pub longer : (number : ℕ) → number < length earlier → number < length later
  pub same : (number : ℕ) (d : X) → number < length earlier
      → slice_index_or later number d ≡ slice_index_or earlier number d

-- the tokens are those of the middle of this number
pub record IsNumberOf (middles : List Middle) (tokens : List Arg) (number : ℕ) : Type 0 where
  pub within : number < length middles
  pub tokens_are : (d : Middle) → (slice_index_or middles number d).tokens.now ≡ tokens

-- the line of these arguments
pub record IsKept (p : PosedProblem) (middles : List Middle) (arguments : List Arg) (line : KeptLine) : Type 0 where
  pub has_line : HasLine (drop line.first arguments) line.between
  pub middle : IsNumberOf middles (parts_by (drop line.first arguments) line.between).middle line.middle
  pub tail : HaveLetters p (parts_by (drop line.first arguments) line.between).tail line.tail
  pub before : IsExtent p (parts_by (drop line.first arguments) line.between).first line.before
  pub behind : IsExtent p (parts_by (drop line.first arguments) line.between).second line.behind

-- where no line is kept, the arguments have none
abbrev pub IsKeptOrNone : PosedProblem → List Middle → List Arg → Option KeptLine → Type 0
IsKeptOrNone p middles arguments line =
    MatchOption line ((first between : ℕ) → HasLine (drop first arguments) between → ⊥) (IsKept p middles arguments)

-- what is kept of the alternative of this number
pub record IsKeptOf (p : PosedProblem) (middles : List Middle) (rule alternative : ℕ) (kept : KeptAlternative)
    : Type 0 where
  pub line : IsKeptOrNone p middles (arguments_of p.grammar rule alternative) kept.line
  pub parts : IsAlternative p rule alternative kept

-- what is kept of the first so many alternatives of a rule
pub record AreKept (p : PosedProblem) (middles : List Middle) (rule count : ℕ) (kept : List KeptAlternative)
    : Type 0 where
  pub each : length kept ≡ count
  pub are : (alternative : ℕ) (d : KeptAlternative) → alternative < count
      → IsKeptOf p middles rule alternative (slice_index_or kept alternative d)

-- what is kept of a rule
pub record IsKeptRule (p : PosedProblem) (middles : List Middle) (rule : ℕ) (it : KeptRule) : Type 0 where
  pub alternatives : AreKept p middles rule (length (alternatives_of p.grammar rule)) it.alternatives.items
  pub beginnings : AreTold (length (alternatives_of p.grammar rule)) it.alternatives.items it.beginnings

-- what is kept of the first so many rules
pub record AreKeptRules (p : PosedProblem) (middles : List Middle) (count : ℕ) (kept : List KeptRule) : Type 0 where
  pub each : length kept ≡ count
  pub are : (rule : ℕ) (d : KeptRule) → rule < count → IsKeptRule p middles rule (slice_index_or kept rule d)

abbrev pub kept_of : Kept → KeptRules
kept_of (Own kept) = kept
kept_of (Shared kept) = kept.now

-- what is kept of all classes and rules, for all words
pub record AreKeptFor (grammar : Grammar) (algebra : ℕ) (kept : KeptRules) : Type 0 where
  pub weights_are : AreClassWeights grammar kept.weights.items
  pub middles_are : AreMiddles grammar kept.middles.items
  pub rules_are : AtEachWord grammar algebra
      (λ p. AreKeptRules p kept.middles.items (length grammar.rules) kept.rules.items)
