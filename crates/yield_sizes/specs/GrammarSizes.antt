-- What the sizes and the anchors of a grammar are.
use Rattle.std.specs.Prelude.{ℕ, ◌<◌, length}
use Rattle.adp_model.specs.declared.grammar.Grammar.{Grammar}
use Rattle.adp_model.specs.Lengths.{IsProductive}
use Rattle.adp_model.specs.Sizes.{AreSizesOf}
use Rattle.adp_model.specs.ProblemFields.{AreLeftAnchors, AreRightAnchors}
use Rattle.yield_sizes.specs.declared.rule_sizes.Sizes.{Sizes}
use Rattle.yield_sizes.specs.declared.rule_anchors.Anchors.{Anchors}

-- every rule is productive
abbrev pub AreAllProductive : Grammar → Type 0
AreAllProductive grammar = (rule : ℕ) → rule < length grammar.rules → IsProductive grammar rule

-- the sizes are those of the grammar's rules
abbrev pub AreSizes : Grammar → Sizes → Type 0
AreSizes grammar sizes = AreSizesOf grammar sizes.least sizes.greatest

-- the anchors are the grammar's
pub record AreAnchors (grammar : Grammar) (anchors : Anchors) : Type 0 where
  pub left : AreLeftAnchors grammar anchors.left
  pub right : AreRightAnchors grammar anchors.right
