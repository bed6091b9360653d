-- Totals that go on by one argument more.
use Rattle.std.specs.Prelude.{◌≡◌, ℕ, ◌≤◌, ℤ, ◌+ℤ◌, ◌*ℤ◌, ◌≤ℤ◌, nat_abs, Some, List, slice_get}
use Rattle.adp_model.specs.declared.grammar.Arg.{Arg}
use Rattle.adp_model.specs.declared.grammar.Arg.TheVariants.{Rule}
use Rattle.adp_model.specs.PosedProblem.{PosedProblem}
use Rattle.adp_model.specs.Parts.{algebra_of}
use Rattle.adp_model.specs.ProblemFields.{greatest_score}
use Rattle.adp_model.specs.Splits.{FitsSpan}
use Rattle.adp_model.specs.Tokens.{letters_between, token_value}
use Rattle.viable_splits.specs.Placing.{on_span}
use Rattle.score_numbers.specs.Packing.{Width}
use Rattle.score_numbers.specs.Turned.{turned}
use Rattle.score_rows.specs.Numbers.{least}

-- numbers for ends, by a rule and a start
abbrev pub Rows : Type 1
Rows = ℕ → ℕ → ℕ → ℤ → Type 0

-- what letters that the argument matches are worth keeps the greatest score
abbrev pub IsLowToken : PosedProblem → Arg → Type 0
IsLowToken p token =
    (from to : ℕ) → FitsSpan p (on_span token from to)
    → nat_abs (token_value p.grammar token (letters_between p.word from to)) ≤ greatest_score

-- the argument may go on from one position to the other: there is a number for a rule, a token matches
abbrev pub GoesOn : PosedProblem → Rows → Arg → ℕ → ℕ → Type 0
GoesOn p InRow (Rule rule) position end = (number : ℤ) × InRow rule position end number
GoesOn p InRow token position end = FitsSpan p (on_span token position end)

-- and then it has this value: that of a rule's number, or what the letters are worth
abbrev pub HasValue : PosedProblem → Width → Rows → Arg → ℕ → ℕ → ℤ → Type 0
HasValue p width InRow (Rule rule) position end value =
    (number : ℤ) × InRow rule position end number × (number ≡ width.mark → ⊥)
    × (value ≡ turned (algebra_of p).goal number)
HasValue p width InRow token position end value =
    FitsSpan p (on_span token position end)
    × (value ≡ token_value p.grammar token (letters_between p.word position end))

-- the value times its factor, with the total before it, comes to this sum
abbrev pub HasStep : PosedProblem → Width → Rows → Arg → ℤ → ℕ → ℤ → ℕ → ℤ → Type 0
HasStep p width InRow argument factor position before end sum =
    (value : ℤ) × HasValue p width InRow argument position end value × (sum ≡ ((factor *ℤ value) +ℤ before))

-- where the argument goes on to the end, the total before it is within the limit, and so are the sums
abbrev pub AreLowSteps : PosedProblem → Width → Rows → Arg → ℤ → ℕ → ℤ → ℕ → Type 0
AreLowSteps p width InRow argument factor position before end =
    GoesOn p InRow argument position end
    → (nat_abs before ≤ width.limit)
    × ((sum : ℤ) → HasStep p width InRow argument factor position before end sum → nat_abs sum ≤ width.limit)

-- a number that stands for a score stands at some position, and the argument goes on from there
pub record HasStepFrom (p : PosedProblem) (width : Width) (InRow : Rows) (argument : Arg) (factor : ℤ)
    (numbers : List ℤ) (end : ℕ) (sum : ℤ) : Type 0 where
  pub position : ℕ
  pub before : ℤ
  pub there : slice_get numbers position ≡ Some before
  pub live : least width ≤ℤ before
  pub step : HasStep p width InRow argument factor position before end sum

abbrev pub AreLowStepsFrom : PosedProblem → Width → Rows → Arg → ℤ → List ℤ → ℕ → Type 0
AreLowStepsFrom p width InRow argument factor numbers end =
    (position : ℕ) (before : ℤ) → slice_get numbers position ≡ Some before → least width ≤ℤ before
    → AreLowSteps p width InRow argument factor position before end
