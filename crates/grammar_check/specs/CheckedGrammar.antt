-- Checked grammars: what passed the checks, with what the checks found.
use Rattle.std.specs.Prelude.{ℕ, List}
use Rattle.adp_model.specs.declared.grammar.Grammar.{Grammar}
use Rattle.adp_model.specs.Checks.{IsChecked}
use Rattle.yield_sizes.specs.declared.rule_sizes.Sizes.{Sizes}
use Rattle.yield_sizes.specs.declared.rule_anchors.Anchors.{Anchors}
use Rattle.yield_sizes.specs.GrammarSizes.{AreAnchors}
use Rattle.grammar_check.specs.declared.checked.Checked.TheInside.{Inside}

-- a grammar, the number of an algebra, and what the checks found of the rules
pub record CheckedGrammar : Type 0 where
  pub grammar : Grammar
  pub algebra : ℕ
  pub sizes : Sizes
  pub anchors : Anchors
  pub ranks : List ℕ

abbrev pub checked_grammar : Inside → CheckedGrammar
checked_grammar fields = record {
  grammar = fields.grammar;
  algebra = fields.algebra;
  sizes = fields.sizes;
  anchors = fields.anchors;
  ranks = fields.ranks;
}

-- the checks passed, and sizes, anchors and ranks are the grammar's
pub record PassesChecks (checked : CheckedGrammar) : Type 0 where
  pub found : IsChecked checked.grammar checked.algebra checked.sizes.least checked.sizes.greatest checked.ranks
  pub anchored : AreAnchors checked.grammar checked.anchors
