-- Numbers that a score may have in absolute value.
use Rattle.std.specs.Prelude.{◌≡◌, ℕ, ◌<◌, ◌≤◌, Option, MatchOption}
use Rattle.adp_model.specs.ProblemFields.{greatest_score}

-- the number is told where it is in range, and nothing where it is not
abbrev pub IsInRange : ℕ → Option ℕ → Type 0
IsInRange number told = MatchOption told (greatest_score < number) (λ n. (n ≡ number) × (n ≤ greatest_score))
