-- The arguments of an alternative on a cell, as they are summed up.
use Rattle.std.proofs.Common.{◌≡◌, ℕ, ◌-◌, ◌<◌, ◌≤◌, ℤ, ◌+ℤ◌, nat_abs, Option, List, length, ap, arith}
use Rattle.std.specs.List.{AllByRecursion, Contains}
use Rattle.adp_model.specs.declared.grammar.Arg.{Arg}
use Rattle.adp_model.specs.declared.grammar.Arg.TheVariants.{Rule, Literal, Letter, Run}
use Rattle.adp_model.specs.declared.cell.Cell.{Cell}
use Rattle.adp_model.specs.PosedProblem.{PosedProblem, IsSpan}
use Rattle.adp_model.specs.Lengths.{AllowsLength}
use Rattle.adp_model.specs.Parts.{algebra_of, alternative_at, alternatives_of, arguments_of, term_of}
use Rattle.adp_model.specs.Tokens.{letters_between, Matches, token_value}
use Rattle.adp_model.specs.Terms.{weighted_sum, term_value}
use Rattle.adp_model.specs.WellFormed.{IsKnown}
use Rattle.adp_model.specs.ProblemFields.{most_letters, greatest_score, IsAdmissible}
use Rattle.adp_model.specs.Checks.{IsChecked}
use Rattle.adp_model.specs.Bounds.{IsScoreBound}
use Rattle.adp_model.specs.Splits.{FitsSpan}
use Rattle.adp_model.specs.Demand.{IsDemandedChild}
use Rattle.adp_model.specs.Bellman.{HasBestScore}
use Rattle.viable_splits.specs.Placing.{on_span}
use Rattle.cell_tables.specs.Tables.{Table}
use Rattle.split_lines.specs.Kept.{IsScoredBy}
use Rattle.cell_answers.specs.Entries.{HasEntry}
use Rattle.cell_answers.specs.Totals.{HasTotal, IsWithinBound, AreWeighted}
use Rattle.cell_answers.proofs.Splitting.{child_of_demands}
use Rattle.cell_answers.proofs.Totalling.{nat_abs-sum, values_kept, sum_low}
use Rattle.cell_answers.proofs.Bounding.{AreTermLaws, value_low, scored_low, alternative_low}
use Rattle.cell_answers.proofs.Scoring.{turned_low, HasScoreBefore}
use Rattle.cell_answers.proofs.FirstEnds.{AreLaid, AreSound}

-- best scores are within their bounds
abbrev pub AreWithin : PosedProblem → Type 0
AreWithin p = (cell : Cell) (score : ℤ) → HasBestScore p cell score → IsWithinBound p cell score

-- the tokens of each alternative keep the word's score bound
abbrev pub TokensKeepBound : PosedProblem → Type 0
TokensKeepBound p =
    (least : List ℕ) (greatest : List (Option ℕ)) (ranks : List ℕ) → IsChecked p.grammar p.algebra least greatest ranks → length p.word ≤ most_letters
    → (number : ℕ) → IsScoreBound p.grammar p.algebra (length p.word) number
    → (rule alternative : ℕ) (token : Arg) (from to : ℕ) → Contains (arguments_of p.grammar rule alternative) token
    → IsSpan p.word from to → Matches p.grammar token (letters_between p.word from to)
    → nat_abs (token_value p.grammar token (letters_between p.word from to)) ≤ number

module _ (p : PosedProblem) (admissible : IsAdmissible p) (bounded : TokensKeepBound p) (rule alternative : ℕ) where
  token_low : (token : Arg) (from to : ℕ) → Contains (arguments_of p.grammar rule alternative) token
      → IsSpan p.word from to → Matches p.grammar token (letters_between p.word from to)
      → nat_abs (token_value p.grammar token (letters_between p.word from to)) ≤ greatest_score
  token_low token from to stands span matches =
      let limits = admissible.limits in
      let low = bounded admissible.least admissible.greatest admissible.ranks admissible.checked limits.letters
      limits.scores.0 limits.scores.1 rule alternative token from to stands span matches in
      omega (arith, low, limits.scores.2)

  -- what tokens are worth keeps the greatest score
  pub tokens_low : (token : Arg) (from to : ℕ) → Contains (arguments_of p.grammar rule alternative) token
      → FitsSpan p (on_span token from to) → nat_abs (token_value p.grammar token (letters_between p.word from to))
      ≤ greatest_score
  tokens_low (Rule other) from to stands fits = omega arith
  tokens_low (Literal text) from to stands fits = token_low (Literal text) from to stands fits.0 fits.1
  tokens_low (Letter class) from to stands fits = token_low (Letter class) from to stands fits.0 fits.1
  tokens_low (Run class low high) from to stands fits = token_low (Run class low high) from to stands fits.0 fits.1

  pub weighted : (factors : List ℤ) → AllByRecursion (IsKnown p.grammar) (arguments_of p.grammar rule alternative)
      → length (arguments_of p.grammar rule alternative) ≤ 4
      → length factors ≡ length (arguments_of p.grammar rule alternative) → AreWeighted p (arguments_of p.grammar rule alternative) factors
  weighted factors known few each = record { known = known; few = few; factors_each = each; tokens_low = tokens_low }

module _ (laws : AreTermLaws) (p : PosedProblem) (admissible : IsAdmissible p) (cell : Cell) (alternative : ℕ)
    (constant : ℤ) (factors : List ℤ) (is : IsScoredBy p cell.rule alternative constant factors)
    (span : IsSpan p.word cell.from cell.to) (in_rules : cell.rule < length p.grammar.rules)
    (in_range : alternative < length (alternatives_of p.grammar cell.rule)) where
  -- the arguments of an alternative on a cell whose demanded children have entries
  pub alternative_laid : TokensKeepBound p → (table : Table ℤ) → AllByRecursion (IsKnown p.grammar) (arguments_of p.grammar cell.rule alternative)
      → length (arguments_of p.grammar cell.rule alternative) ≤ 4 → AllowsLength (alternative_at p.grammar cell.rule alternative) (cell.to - cell.from)
      → ((child : Cell) → IsDemandedChild p cell child → HasEntry table child)
      → AreLaid p table (arguments_of p.grammar cell.rule alternative) factors cell.from cell.to
  alternative_laid bounded table known few allowed scored = record {
    weighted = weighted p admissible bounded cell.rule alternative factors known few is.each;
    span = span;
    scored = λ child demands. scored child (child_of_demands p cell alternative child in_range allowed few demands);
    low = alternative_low laws p admissible cell alternative constant factors is span in_rules in_range;
  }

  -- the constant and a total are no greater than the greatest score, alone and together
  pub with_constant_low : AreSound p → (total : ℤ) → HasTotal p (HasBestScore p) (arguments_of p.grammar cell.rule alternative) factors cell.from cell.to total
      → nat_abs (constant +ℤ total) ≤ greatest_score
  with_constant_low sound total (values, have, sum_is) =
      let within = values_kept p (HasBestScore p) (IsWithinBound p) sound.within (arguments_of p.grammar cell.rule alternative) cell.from cell.to values have in
      let low = scored_low laws p admissible cell alternative constant factors is span in_rules in_range values within in
      let sum = sum_low factors values in
      let e : nat_abs total ≡ nat_abs (weighted_sum factors values) = ap nat_abs sum_is in
      let both = nat_abs-sum constant total in
      omega arith

-- the score of a split keeps the greatest score
pub score_low : AreTermLaws → (p : PosedProblem) → IsAdmissible p → AreWithin p → (cell : Cell) (count : ℕ) (number : ℤ)
    → IsSpan p.word cell.from cell.to → cell.rule < length p.grammar.rules
    → count ≤ length (alternatives_of p.grammar cell.rule)
    → HasScoreBefore p cell count number → nat_abs number ≤ greatest_score
score_low laws p admissible within cell count number span in_rules l (alternative, before, (allowed, (values, have, is))) =
    let low = value_low laws p admissible cell alternative values span in_rules (omega (arith, before, l))
    (values_kept p (HasBestScore p) (IsWithinBound p) within (arguments_of p.grammar cell.rule alternative) cell.from cell.to values have) in
    let same = ap nat_abs is in
    let value = turned_low (algebra_of p).goal (term_value (term_of p cell.rule alternative) values) in
    omega arith
