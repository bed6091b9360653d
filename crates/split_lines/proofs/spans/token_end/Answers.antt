use Rattle.split_lines.proofs.OneEnds.{end_found, end_missed}
use Rattle.split_lines.proofs.spans.token_end.Goals as goal

pub returns-then-ends : goal.returns-then-ends
returns-then-ends c =
    end_found c.args.tables.now c.args.token.now c.args.from c.args.last c.argument_ends-ends.result.start c.argument_ends-ends.result.end c.argument_ends-ends.ensures c.requires.fixed c.if-ends.true

pub returns-else-ends : goal.returns-else-ends
returns-else-ends c =
    end_missed c.args.tables.now c.args.token.now c.args.from c.args.last c.argument_ends-ends.result.start c.argument_ends-ends.result.end c.argument_ends-ends.ensures c.if-ends.false
