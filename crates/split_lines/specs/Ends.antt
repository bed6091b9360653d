-- Where tokens end, told where they end no later than a last position.
use Rattle.std.specs.Prelude.{◌≡◌, ◌↔◌, ℕ, ◌≤◌, Option, Some, List}
use Rattle.adp_model.specs.declared.grammar.Arg.{Arg}
use Rattle.adp_model.specs.PosedProblem.{PosedProblem}
use Rattle.adp_model.specs.Splits.{FitsSpan}
use Rattle.viable_splits.specs.Placing.{on_span, Cover}

-- the end of a token, no later than the last position, is told
abbrev pub IsEndTold : PosedProblem → Arg → ℕ → ℕ → Option ℕ → Type 0
IsEndTold p token from last found =
    (end : ℕ) → (found ≡ Some end) ↔ ((end ≤ last) × FitsSpan p (on_span token from end))

-- the end of the tokens, no later than the last position, is told
abbrev pub IsFrontTold : PosedProblem → List Arg → ℕ → ℕ → Option ℕ → Type 0
IsFrontTold p front from last found = (end : ℕ) → (found ≡ Some end) ↔ ((end ≤ last) × Cover p front from end)
