-- Alternatives whose one part is a rule that is counted once, as what is kept of them.
use Rattle.std.specs.Prelude.{◌≡◌, ℕ, ◌+◌, List, [], ◌∷◌, ◌++◌, map}
use mathlib.Core.Logic.{inl}
use Rattle.std.specs.List.{All}
use Rattle.adp_model.specs.LimitFaults.{told}
use Rattle.grammar_check.specs.declared.part.Worth.TheVariants.{OfRule}
use Rattle.grammar_check.specs.declared.singles.Shape.{Shape}
use Rattle.grammar_check.specs.declared.singles.Single.{Single}
use Rattle.grammar_check.specs.declared.singles.Singles.{Singles}
use Rattle.grammar_check.specs.declared.table.Table.{Table}
use Rattle.grammar_check.specs.Tables.{entry}
use Rattle.grammar_check.specs.RuleValues.{Kept}

-- an alternative of the shape
abbrev pub single_kept : Shape → Single → Kept
single_kept shape single =
    (inl single.constant, shape.fixed, record { worth = OfRule single.rule 1; low = shape.low; room = shape.room } ∷ [])

-- alternatives of one shape
abbrev pub singles_kept : Singles → List Kept
singles_kept singles = map (single_kept singles.shape) singles.each.items

-- all of them
abbrev pub all_singles : List Singles → List Kept
all_singles [] = []
all_singles (singles ∷ others) = singles_kept singles ++ all_singles others

-- what an alternative comes to, where its rule has this length
abbrev pub single_number : (ℕ → ℕ → ℕ) → ℕ → Single → ℕ
single_number bound len single = single.constant + bound single.rule len

-- the table has the bounds of their rules at this length, cut
abbrev pub AreSinglesRead : (ℕ → ℕ → ℕ) → Table → ℕ → List Single → Type 0
AreSinglesRead bound table len each =
    All (λ (single : Single). entry table single.rule len ≡ told (bound single.rule len)) each
