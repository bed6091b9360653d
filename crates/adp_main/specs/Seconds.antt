-- A job's second algebra, where one is asked for: its checked grammar, and the bounds of words under it.
use Rattle.std.specs.Prelude.{◌≡◌, ℕ, Option, Some, None, List}
use Rattle.adp_model.specs.GrammarFaults.{IsNamed}
use Rattle.grammar_check.specs.CheckedGrammar.{CheckedGrammar}
use Rattle.grammar_check.specs.ToldRows.{AreRowsOf}
use Rattle.grammar_check.specs.declared.bounds.BoundRows.{BoundRows}
use Rattle.lex_product.specs.PairAnswers.{IsPair}
use Rattle.adp_main.specs.declared.limits.JobRows.{JobRows}

-- beside the first checked grammar there is one with the second algebra, of this name, where one is asked for; the two
-- are a pair
abbrev pub IsSecondOf : Option (List ℕ) → CheckedGrammar → Option CheckedGrammar → Type 0
IsSecondOf None first second = second ≡ None
IsSecondOf (Some name) first None = ⊥
IsSecondOf (Some name) first (Some second) = IsNamed first.grammar name second.algebra × IsPair first second

-- the rows tell the bounds under the second algebra, where there is one, as far as this
abbrev pub AreSecondRows : Option CheckedGrammar → ℕ → Option BoundRows → Type 0
AreSecondRows None longest rows = rows ≡ None
AreSecondRows (Some second) longest None = ⊥
AreSecondRows (Some second) longest (Some rows) = AreRowsOf second rows × (rows.longest ≡ longest)

-- the rows tell the bounds of words of a job as far as this, under its algebra and under the second one
pub record AreJobRows (first : CheckedGrammar) (second : Option CheckedGrammar) (rows : JobRows) : Type 0 where
  pub of_first : AreRowsOf first rows.first
  pub of_second : AreSecondRows second rows.first.longest rows.second
