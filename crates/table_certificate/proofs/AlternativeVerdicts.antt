-- What the splits by an alternative, and by all alternatives, come to.
use Rattle.std.proofs.Common.{◌≡◌, ℕ, suc, ◌-◌, ◌≤◌, ℤ, nat_abs, Option, Some, List, [], ◌∷◌, length, Contains, refl, arith}
use Rattle.adp_model.specs.declared.cell.Cell.{Cell}
use Rattle.adp_model.specs.declared.grammar.Arg.{Arg}
use Rattle.adp_model.specs.declared.grammar.Arg.TheVariants.{Rule, Literal, Letter, Run}
use Rattle.adp_model.specs.declared.grammar.Goal.{Goal}
use Rattle.adp_model.specs.PosedProblem.{PosedProblem, IsSpan}
use Rattle.adp_model.specs.Parts.{alternative_at, alternatives_of, arguments_of, term_of}
use Rattle.adp_model.specs.Lengths.{AllowsLength}
use Rattle.adp_model.specs.ProblemFields.{greatest_score, IsAdmissible, most_letters}
use Rattle.adp_model.specs.Bounds.{IsScoreBound}
use Rattle.adp_model.specs.Checks.{IsChecked}
use Rattle.adp_model.specs.Splits.{FitsSpan}
use Rattle.adp_model.specs.Tokens.{letters_between, Matches, token_value}
use Rattle.viable_splits.specs.Placing.{on_span}
use Rattle.table_certificate.specs.SplitVerdicts.{Values, AreLowTokens, HasSplitVerdict, HasVerdict, HasVerdictBy, IsJudged}
use Rattle.table_certificate.proofs.Judging.{HasAmong, judged_same}

-- what tokens are worth is bounded
abbrev pub AreBounded : PosedProblem → Type 0
AreBounded p =
    (least : List ℕ) (greatest : List (Option ℕ)) (ranks : List ℕ)
    → IsChecked p.grammar p.algebra least greatest ranks → length p.word ≤ most_letters
    → (number : ℕ) → IsScoreBound p.grammar p.algebra (length p.word) number
    → (rule alternative : ℕ) (token : Arg) (from to : ℕ) → Contains (arguments_of p.grammar rule alternative) token
    → IsSpan p.word from to → Matches p.grammar token (letters_between p.word from to)
    → nat_abs (token_value p.grammar token (letters_between p.word from to)) ≤ number

token_low : (p : PosedProblem) → IsAdmissible p → AreBounded p → (rule alternative : ℕ) (argument : Arg)
    → Contains (arguments_of p.grammar rule alternative) argument → (from to : ℕ) → FitsSpan p (on_span argument from to)
    → nat_abs (token_value p.grammar argument (letters_between p.word from to)) ≤ greatest_score
token_low p admissible bounded rule alternative (Rule other) found from to fits = omega arith
token_low p admissible bounded rule alternative (Literal text) found from to fits = omega arith
token_low p admissible bounded rule alternative (Letter class) found from to fits =
    let scores = admissible.limits.scores in
    let low = bounded admissible.least admissible.greatest admissible.ranks admissible.checked admissible.limits.letters scores.0 scores.1 rule alternative (Letter class) from to found fits.0 fits.1 in
    omega (arith, low, scores.2)
token_low p admissible bounded rule alternative (Run class least most) found from to fits =
    let scores = admissible.limits.scores in
    let low = bounded admissible.least admissible.greatest admissible.ranks admissible.checked admissible.limits.letters scores.0 scores.1 rule alternative (Run class least most) from to found fits.0 fits.1 in
    omega (arith, low, scores.2)

each_low : (p : PosedProblem) (arguments : List Arg) → ((argument : Arg) → Contains arguments argument → (from to : ℕ)
    → FitsSpan p (on_span argument from to) → nat_abs (token_value p.grammar argument (letters_between p.word from to)) ≤ greatest_score)
    → AreLowTokens p arguments
each_low p [] each = tt
each_low p (argument ∷ arguments) each = (
  each argument (0, omega arith, refl),
  each_low p arguments (λ other found. each other (suc found.0, omega (arith, found.1), found.2)),
)

pub low_tokens : (p : PosedProblem) → IsAdmissible p → AreBounded p → (rule alternative : ℕ)
    → AreLowTokens p (arguments_of p.grammar rule alternative)
low_tokens p admissible bounded rule alternative =
    each_low p (arguments_of p.grammar rule alternative) (token_low p admissible bounded rule alternative)

pub allowed_verdicts : (p : PosedProblem) (said : Cell → Option (Option ℤ)) (cell : Cell) (alternative : ℕ) (goal : Goal)
    → AllowsLength (alternative_at p.grammar cell.rule alternative) (cell.to - cell.from) → (result : Option (Option ℤ))
    → IsJudged goal (HasVerdict p said (term_of p cell.rule alternative) (Values []) (arguments_of p.grammar cell.rule alternative) cell.from cell.to) result
    → IsJudged goal (HasVerdictBy p said cell alternative) result
allowed_verdicts p said cell alternative goal allowed result judged =
    judged_same goal (HasVerdict p said (term_of p cell.rule alternative) (Values []) (arguments_of p.grammar cell.rule alternative) cell.from cell.to)
    (HasVerdictBy p said cell alternative) result judged (λ verdict has. (allowed, has)) (λ verdict has. has.1)

pub all_verdicts : (p : PosedProblem) (said : Cell → Option (Option ℤ)) (cell : Cell) (goal : Goal) (count : ℕ)
    → count ≡ length (alternatives_of p.grammar cell.rule) → (best : Option ℤ)
    → IsJudged goal (HasAmong (HasVerdictBy p said cell) 0 count) (Some best) → IsJudged goal (HasSplitVerdict p said cell) (Some best)
all_verdicts p said cell goal count is best judged =
    judged_same goal (HasAmong (HasVerdictBy p said cell) 0 count) (HasSplitVerdict p said cell) (Some best) judged
    (λ verdict has. (has.0, omega (arith, has.2, is), has.3)) (λ verdict has. (has.0, omega arith, omega (arith, has.1, is), has.2))
