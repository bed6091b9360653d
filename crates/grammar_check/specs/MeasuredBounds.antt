-- The table of bounds of what is measured: score bounds of an algebra, or node bounds.
use Rattle.std.specs.Prelude.{ℕ}
use Rattle.adp_model.specs.declared.grammar.Grammar.{Grammar}
use Rattle.adp_model.specs.Bounds.{AreScoreBounds, AreNodeBounds}
use Rattle.grammar_check.specs.declared.measure.Measure.{Measure}
use Rattle.grammar_check.specs.declared.measure.Measure.TheVariants.{Scores, Nodes}

abbrev pub AreBoundsOf : Grammar → Measure → (ℕ → ℕ → ℕ) → Type 0
AreBoundsOf grammar (Scores algebra) bound = AreScoreBounds grammar algebra bound
AreBoundsOf grammar Nodes bound = AreNodeBounds grammar bound
