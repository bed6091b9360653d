-- Loops of a grammar as they are reported, and ranks.
use Rattle.std.specs.Prelude.{◌≡◌, ℕ, ◌<◌, Option, Some, None, List, length, slice_index}
use Rattle.adp_model.specs.declared.grammar.Grammar.{Grammar}
use Rattle.adp_model.specs.Loops.{IsEdge, IsOnLoop}

-- no rule is on a loop
abbrev pub IsLoopFree : Grammar → Type 0
IsLoopFree grammar = (rule : ℕ) → IsOnLoop grammar rule → ⊥

-- the first rule on a loop
pub record IsFirstOnLoop (grammar : Grammar) (rule : ℕ) : Type 0 where
  pub in_range : rule < length grammar.rules
  pub on_loop : IsOnLoop grammar rule
  pub first : (other : ℕ) → other < rule → IsOnLoop grammar other → ⊥

-- the first rule on a loop, or nothing where there is none
abbrev pub IsFirstLoop : Grammar → Option ℕ → Type 0
IsFirstLoop grammar None = IsLoopFree grammar
IsFirstLoop grammar (Some rule) = IsFirstOnLoop grammar rule

-- a rank for each rule, below the number of rules: each empty-context edge goes to a lesser rank
pub record AreRanks (grammar : Grammar) (ranks : List ℕ) : Type 0 where
  pub each : length ranks ≡ length grammar.rules
  pub fall : (rule other : ℕ) → IsEdge grammar rule other → slice_index ranks other < slice_index ranks rule
  pub fit : (rule : ℕ) → rule < length grammar.rules → slice_index ranks rule < length grammar.rules
