-- References between rules: an alternative of one names the other.
use Rattle.std.specs.Prelude.{ℕ}
use Rattle.adp_model.specs.declared.grammar.Grammar.{Grammar}
use Rattle.adp_model.specs.Sizes.{Names}

-- references lead from the rule to the other rule, in one step or more
pub data Reaches (grammar : Grammar) : ℕ → ℕ → Type 0 where
  AtOnce : (rule other : ℕ) → Names grammar rule other → Reaches grammar rule other
  Through : (rule between other : ℕ) → Names grammar rule between → Reaches grammar between other
      → Reaches grammar rule other
