-- Windows of positions.
use Rattle.std.specs.Prelude.{ℕ, ◌<◌, ◌≤◌, ◌⊎◌}
use Rattle.score_rows.specs.declared.totals.Window.{Window}

-- the position is none of the window
abbrev pub IsOutside : Window → ℕ → Type 0
IsOutside window k = (k < window.first) ⊎ (window.past ≤ k)
