-- What is kept of an alternative.
use Rattle.std.specs.Prelude.{◌≡◌, ◌↔◌, ℕ, ◌+◌, ◌≤◌, ◌++◌, true, false, IfSome, ℤ, ◌+ℤ◌, nat_abs, List, [], ◌∷◌, drop, length, take}
use Rattle.std.specs.List.{AllByRecursion}
use Rattle.adp_model.specs.declared.grammar.Alt.{Alt}
use Rattle.adp_model.specs.declared.grammar.Arg.{Arg}
use Rattle.adp_model.specs.declared.grammar.Arg.TheVariants.{Rule, Literal, Letter, Run}
use Rattle.adp_model.specs.PosedProblem.{PosedProblem}
use Rattle.adp_model.specs.Lengths.{AllowsLength}
use Rattle.adp_model.specs.Parts.{algebra_of, alternative_at, arguments_of, term_of}
use Rattle.adp_model.specs.ProblemFields.{most_letters}
use Rattle.adp_model.specs.Terms.{magnitude, term_value, weighted_sum, weighted_total}
use Rattle.adp_model.specs.WellFormed.{IsKnown}
use Rattle.split_lines.specs.declared.kept.KeptAlternative.{KeptAlternative}
use Rattle.split_lines.specs.declared.kept.Lengths.{Lengths}
use Rattle.split_lines.specs.declared.kept.Scoring.{Scoring}
use Rattle.split_lines.specs.declared.kept.Scoring.TheVariants.{Sum, Term}
use Rattle.split_lines.specs.declared.kept.WeightedSum.{WeightedSum}
use Rattle.score_numbers.specs.Worthless.{AreWorthless}
use Rattle.split_lines.specs.Laid.{IsFixed}
use Rattle.split_lines.specs.Matching.{HaveLetters}
use Rattle.score_numbers.specs.Turned.{turned}

-- the letters of the first token, where that is a literal
abbrev pub first_text : List Arg → List ℕ
first_text [] = []
first_text (Rule rule ∷ others) = []
first_text (Literal text ∷ others) = text
first_text (Letter class ∷ others) = []
first_text (Run class low high ∷ others) = []

-- the first of the tokens is a literal that begins with this letter
pub record BeginWith (tokens : List Arg) (letter : ℕ) : Type 0 where
  pub letters : List ℕ
  pub others : List Arg
  pub are : tokens ≡ Literal (letter ∷ letters) ∷ others

-- the tokens are a literal of one letter, and nothing more
pub record AreOneLetter (tokens : List Arg) : Type 0 where
  pub text : List ℕ
  pub are : tokens ≡ Literal text ∷ []
  pub one : length text ≡ 1

-- the tokens are a letter of this class, and nothing more
abbrev pub AreOneOfClass : List Arg → ℕ → Type 0
AreOneOfClass tokens class = tokens ≡ Letter class ∷ []

-- the tokens in front have fixed length, with so many letters and this first one
pub record AreInFront (p : PosedProblem) (kept : KeptAlternative) : Type 0 where
  pub known : AllByRecursion (IsKnown p.grammar) kept.front.now
  pub fixed : AllByRecursion IsFixed kept.front.now
  pub letters : HaveLetters p kept.front.now kept.letters
  pub first : IfSome kept.first (BeginWith kept.front.now)
  pub alone : kept.alone ≡ true → AreOneLetter kept.front.now
  pub class : IfSome kept.class (AreOneOfClass kept.front.now)

-- the factors of the tokens in front
abbrev pub factors_in_front : KeptAlternative → WeightedSum → List ℤ
factors_in_front kept sum = take (length kept.front.now) sum.factors

-- the factors of the arguments behind them
abbrev pub factors_behind : KeptAlternative → WeightedSum → List ℤ
factors_behind kept sum = take (length kept.others.now) (drop (length kept.front.now) sum.factors)

-- the score of a split by the alternative, turned, is the constant and each factor times the value of its argument,
-- added up, and no part of such a sum is greater in absolute value than the term can become
pub record IsScoredBy (p : PosedProblem) (rule alternative : ℕ) (constant : ℤ) (factors : List ℤ) : Type 0 where
  pub each : length factors ≡ length (arguments_of p.grammar rule alternative)
  pub value : (values : List ℤ) → length values ≡ length (arguments_of p.grammar rule alternative)
      → turned (algebra_of p).goal (term_value (term_of p rule alternative) values)
      ≡ (constant +ℤ weighted_sum factors values)
  pub low : (numbers : List ℕ) → length numbers ≡ length (arguments_of p.grammar rule alternative)
      → nat_abs constant + weighted_total factors numbers ≤ magnitude (term_of p rule alternative) numbers

-- the sum scores the alternative, and where it is kept that the tokens in front weigh nothing they add nothing
pub record IsSummed (p : PosedProblem) (rule alternative : ℕ) (kept : KeptAlternative) (sum : WeightedSum) : Type 0
  where
    pub scored : IsScoredBy p rule alternative sum.constant (factors_in_front kept sum ++ factors_behind kept sum)
    pub front_each : length (factors_in_front kept sum) ≡ length kept.front.now
    pub worthless : kept.weighs ≡ false → AreWorthless kept.front.now (factors_in_front kept sum)

-- the alternative is scored in this way: by a sum, or by its term
abbrev pub IsScored : PosedProblem → ℕ → ℕ → KeptAlternative → Scoring → Type 0
IsScored p rule alternative kept (Sum sum) = IsSummed p rule alternative kept sum
IsScored p rule alternative kept (Term term) = term.now ≡ term_of p rule alternative

-- the number of letters is one of these
abbrev pub IsAmong : Lengths → ℕ → Type 0
IsAmong lengths letters = (lengths.least ≤ letters) × (letters ≤ lengths.most)

-- these are the lengths that the alternative allows, as far as words go
abbrev pub HasLengths : Alt → Lengths → Type 0
HasLengths alternative lengths =
    (letters : ℕ) → letters ≤ most_letters → AllowsLength alternative letters ↔ IsAmong lengths letters

-- the parts are those of the alternative of this number, and it is scored as is kept
pub record IsAlternative (p : PosedProblem) (rule alternative : ℕ) (kept : KeptAlternative) : Type 0 where
  pub arguments : arguments_of p.grammar rule alternative ≡ kept.front.now ++ kept.others.now
  pub few : length kept.front.now + length kept.others.now ≤ 4
  pub in_front : AreInFront p kept
  pub others_known : AllByRecursion (IsKnown p.grammar) kept.others.now
  pub lengths : HasLengths (alternative_at p.grammar rule alternative) kept.lengths
  pub scored : IsScored p rule alternative kept kept.scoring
