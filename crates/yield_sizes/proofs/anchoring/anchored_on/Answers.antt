use Rattle.std.proofs.Common.{◌≡◌, not, map, length, ◌∙◌}
use Rattle.std.specs.List.{range_with_len}
use Rattle.yield_sizes.specs.AnchorTests.{is_free, AreSideAnchors}
use Rattle.yield_sizes.proofs.Searching.{if_ok_weaker}
use Rattle.yield_sizes.proofs.AnchorFacts.{side_computed}
use Rattle.yield_sizes.proofs.anchoring.anchored_on.Goals as goal

pub returns : goal.returns
returns c =
    let grammar = c.args.grammar.now in
    let sizes = c.args.sizes.now in
    let paths = c.args.paths.now in
    let starts = c.in_ok-starts.starts.items in
    let reached = c.deref.result.now in
    if_ok_weaker c.anchored.result (λ flags. flags.items ≡ map (λ rule. not (is_free paths c.deref-2.result.now rule)) (range_with_len 0 (length paths))) (λ flags. AreSideAnchors c.args.side grammar flags.items)
    (λ flags e. side_computed c.args.side grammar sizes paths c.as_slice-greatest.result.now c.as_slice-rules.result.now reached starts c.deref-2.result.now flags.items
    (c.numbers_fit_together.ensures.named_known grammar c.requires.well_formed) c.requires.sizes c.requires.paths
    c.as_slice-greatest.ensures c.as_slice-rules.ensures (c.deref.ensures.value ∙ c.in_ok-from_axiom.ensures) c.in_ok-starts.ensures c.deref-2.ensures.value e)
    c.anchored.ensures
