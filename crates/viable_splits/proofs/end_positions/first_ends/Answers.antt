use Rattle.std.proofs.Common.{◌≡◌, ◌-◌, get_or, ap, ◌∙◌, subst, arith}
use Rattle.viable_splits.specs.Placing.{AreEnds, AreLengths}
use Rattle.viable_splits.proofs.Dividing.{rest_of}
use Rattle.viable_splits.proofs.LengthSums.{positions_left}
use Rattle.viable_splits.proofs.end_positions.first_ends.Goals as goal

pub returns-clause-positions : goal.returns-clause-positions
returns-clause-positions g c = λ first later split.
    let p = g.M.Matcher.posed c.args.matcher.now in
    let from = c.args.from in
    let last = c.args.last in
    let found = c.index-arguments-0.result in
    let same : found ≡ first = c.index-arguments-0.is ∙ ap (λ xs. get_or xs 0 found) split in
    let ends = subst (λ a. AreEnds p a from last c.argument_ends-ends.result) same c.argument_ends-ends.ensures in
    let least = c.total_lengths-least.result.0 in
    let greatest = c.total_lengths-least.result.1 in
    let lengths = subst (λ xs. AreLengths p xs (last - from) least greatest) (rest_of c.args.arguments.now first later split) (rw c.problem.ensures at c.total_lengths-least.ensures) in
    positions_left p first later from last c.argument_ends-ends.result.start c.argument_ends-ends.result.end least greatest c.min.result c.min-2.result c.requires.span.in_order ends lengths (omega arith) (omega arith)
