-- What splits of a cell come to, by what lines say of the cells of their rule arguments.
use Rattle.std.specs.Prelude.{◌≡◌, ℕ, ◌+◌, ◌-◌, ◌<◌, ◌≤◌, ◌⊎◌, ℤ, nat_abs, nat_le, if◌then◌else◌, Option, Some, None, List, [], ◌∷◌, ◌++◌, length, map, take}
use Rattle.std.specs.List.{AllByRecursion}
use Rattle.adp_model.specs.declared.cell.Cell.{Cell}
use Rattle.adp_model.specs.declared.grammar.Arg.{Arg}
use Rattle.adp_model.specs.declared.grammar.Arg.TheVariants.{Rule}
use Rattle.adp_model.specs.declared.grammar.Goal.{Goal}
use Rattle.adp_model.specs.declared.grammar.Term.{Term}
use Rattle.adp_model.specs.PosedProblem.{PosedProblem}
use Rattle.adp_model.specs.Parts.{alternative_at, alternatives_of, arguments_of, term_of}
use Rattle.adp_model.specs.Lengths.{AllowsLength}
use Rattle.adp_model.specs.Tokens.{letters_between, token_value}
use Rattle.adp_model.specs.Terms.{magnitude, term_value}
use Rattle.adp_model.specs.Scores.{IsBetter}
use Rattle.adp_model.specs.Splits.{Placed, place, FitsSpan}
use Rattle.adp_model.specs.ProblemFields.{greatest_score}
use Rattle.viable_splits.specs.Placing.{on_span}
use Rattle.term_values.specs.Values.{HasValues}
use Rattle.table_certificate.specs.declared.splits.Front.{Front}
use Rattle.table_certificate.specs.declared.splits.Front.TheVariants as fronts

-- what a split comes to: it is wrong, it has no score, or it has one
pub data Verdict : Type 0 where
  Wrong : Verdict
  Unscored : Verdict
  Scored : (score : ℤ) → Verdict

-- what arguments come to: the cell of one is not told of; that of one has no score; or all have values
pub data Worths : Type 0 where
  Untold : Worths
  Scoreless : Worths
  Values : (values : List ℤ) → Worths

-- what an argument is worth on its span, where this is said of cells: nothing is said of its cell; none; or a value
abbrev pub worth_of : PosedProblem → (Cell → Option (Option ℤ)) → Placed → Option (Option ℤ)
worth_of p said placed = worth placed.argument
  where
    worth : Arg → Option (Option ℤ)
    worth (Rule rule) = said (record { rule = rule; from = placed.from; to = placed.to })
    worth token = Some (Some (token_value p.grammar token (letters_between p.word placed.from placed.to)))

-- with one argument more
abbrev pub joined : Worths → Option (Option ℤ) → Worths
joined Untold worth = Untold
joined Scoreless None = Untold
joined Scoreless (Some worth) = Scoreless
joined (Values values) None = Untold
joined (Values values) (Some None) = Scoreless
joined (Values values) (Some (Some value)) = Values (values ++ value ∷ [])

-- with further arguments
abbrev pub all_joined : PosedProblem → (Cell → Option (Option ℤ)) → Worths → List Placed → Worths
all_joined p said front [] = front
all_joined p said front (placed ∷ others) = all_joined p said (joined front (worth_of p said placed)) others

-- what a split comes to by its term
abbrev pub verdict_of : Term → Worths → Verdict
verdict_of term Untold = Wrong
verdict_of term Scoreless = Unscored
verdict_of term (Values values) =
    if nat_le (magnitude term (map nat_abs values)) greatest_score then Scored (term_value term values) else Wrong

-- the arguments have the letters from `from` to `to`, each up to its own of the ends
abbrev pub AreLaid : PosedProblem → List Arg → ℕ → ℕ → List ℕ → Type 0
AreLaid p [] from to [] = from ≡ to
AreLaid p [] from to (end ∷ ends) = ⊥
AreLaid p (argument ∷ arguments) from to [] = ⊥
AreLaid p (argument ∷ arguments) from to (end ∷ ends) =
    FitsSpan p (on_span argument from end) × AreLaid p arguments end to ends

-- with some ends the arguments, behind others, come to this
abbrev pub HasVerdict : PosedProblem → (Cell → Option (Option ℤ)) → Term → Worths → List Arg → ℕ → ℕ → Verdict → Type 0
HasVerdict p said term front arguments from to verdict =
    (ends : List ℕ) × AreLaid p arguments from to ends
    × (verdict ≡ verdict_of term (all_joined p said front (place arguments from ends)))

-- a split of the cell by the alternative comes to this
abbrev pub HasVerdictBy : PosedProblem → (Cell → Option (Option ℤ)) → Cell → ℕ → Verdict → Type 0
HasVerdictBy p said cell alternative verdict =
    AllowsLength (alternative_at p.grammar cell.rule alternative) (cell.to - cell.from)
    × HasVerdict p said (term_of p cell.rule alternative) (Values []) (arguments_of p.grammar cell.rule alternative)
    cell.from cell.to verdict

-- a split of the cell comes to this
abbrev pub HasSplitVerdict : PosedProblem → (Cell → Option (Option ℤ)) → Cell → Verdict → Type 0
HasSplitVerdict p said cell verdict =
    (alternative : ℕ) × (alternative < length (alternatives_of p.grammar cell.rule))
    × HasVerdictBy p said cell alternative verdict

-- ---- several splits

-- the split is not wrong, and has no better score
abbrev pub IsNoBetter : Goal → ℤ → Verdict → Type 0
IsNoBetter goal score Wrong = ⊥
IsNoBetter goal score Unscored = Unit {0}
IsNoBetter goal score (Scored other) = IsBetter goal other score → ⊥

-- of the splits that come to these one is wrong; none has a score; or this is the best of their scores
abbrev pub IsJudged : Goal → (Verdict → Type 0) → Option (Option ℤ) → Type 0
IsJudged goal Has None = Has Wrong
IsJudged goal Has (Some None) = (verdict : Verdict) → Has verdict → verdict ≡ Unscored
IsJudged goal Has (Some (Some score)) =
    Has (Scored score) × ((verdict : Verdict) → Has verdict → IsNoBetter goal score verdict)

-- the better of two scores, where there are any; the first of equal ones
abbrev pub IsBetterOf : Goal → Option ℤ → Option ℤ → Option ℤ → Type 0
IsBetterOf goal None other best = best ≡ other
IsBetterOf goal (Some one) None best = best ≡ Some one
IsBetterOf goal (Some one) (Some other) best =
    ((best ≡ Some other) × IsBetter goal other one) ⊎ ((best ≡ Some one) × (IsBetter goal other one → ⊥))

-- ---- as the code holds them

-- a verdict as it is told
abbrev pub told_verdict : Verdict → Option (Option ℤ)
told_verdict Wrong = None
told_verdict Unscored = Some None
told_verdict (Scored score) = Some (Some score)

-- what the first arguments of a split come to
abbrev pub worths : Front → Worths
worths (fronts.Untold) = Untold
worths (fronts.Scoreless) = Scoreless
worths (fronts.Values values) = Values (take values.count values.values)

-- there is room for so many values more, and with them the term has all its values
abbrev pub HasRoom : Term → Front → ℕ → Type 0
HasRoom term (fronts.Untold) more = Unit {0}
HasRoom term (fronts.Scoreless) more = Unit {0}
HasRoom term (fronts.Values values) more = (values.count + more ≤ 4) × HasValues (values.count + more) term

-- there is room for one value more
abbrev pub HasSpace : Front → Type 0
HasSpace (fronts.Untold) = Unit {0}
HasSpace (fronts.Scoreless) = Unit {0}
HasSpace (fronts.Values values) = values.count < 4

-- what each token of the arguments is worth where it matches is in range
abbrev pub AreLowTokens : PosedProblem → List Arg → Type 0
AreLowTokens p arguments =
    AllByRecursion (λ argument. (from to : ℕ) → FitsSpan p (on_span argument from to)
    → nat_abs (token_value p.grammar argument (letters_between p.word from to)) ≤ greatest_score) arguments
