use Rattle.std.proofs.Common.{List, Bool, sym, subst, length}
use Rattle.adp_model.specs.ProblemFields.{AreLeftAnchors, AreRightAnchors}
use Rattle.yield_sizes.specs.References.{Reaches}
use Rattle.yield_sizes.specs.Relations.{IsTableOf}
use Rattle.yield_sizes.proofs.anchoring.anchors.Goals as goal

pub anchored_on-requires-clause-sizes : goal.anchored_on-requires-clause-sizes
anchored_on-requires-clause-sizes c = c.requires.sizes

pub anchored_on-requires-2-clause-sizes : goal.anchored_on-requires-2-clause-sizes
anchored_on-requires-2-clause-sizes c = c.requires.sizes

pub anchored_on-requires-clause-paths : goal.anchored_on-requires-clause-paths
anchored_on-requires-clause-paths c =
    let P : List (List Bool) → Type 0 = IsTableOf (length c.args.grammar.now.rules) (Reaches c.args.grammar.now) in
    subst P (sym c.deref.ensures.value) c.in_ok-paths.ensures

pub anchored_on-requires-2-clause-paths : goal.anchored_on-requires-2-clause-paths
anchored_on-requires-2-clause-paths c =
    let P : List (List Bool) → Type 0 = IsTableOf (length c.args.grammar.now.rules) (Reaches c.args.grammar.now) in
    subst P (sym c.deref-2.ensures.value) c.in_ok-paths.ensures

pub returns : goal.returns
returns c =
    let L : List Bool → Type 0 = AreLeftAnchors c.args.grammar.now in
    let R : List Bool → Type 0 = AreRightAnchors c.args.grammar.now in
    record {
      left = subst L (sym c.new.ensures) c.in_ok-left.ensures;
      right = subst R (sym c.new-2.ensures) c.in_ok-right.ensures;
    }
