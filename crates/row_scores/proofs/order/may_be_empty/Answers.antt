use Rattle.row_scores.proofs.RowOrders.{empty_rule}
use Rattle.row_scores.proofs.order.may_be_empty.Goals as goal

pub returns-in-Rule : goal.returns-in-Rule
returns-in-Rule c = empty_rule c.args.problem.now c.in-Rule.rule c.sizes.result.0 c.sizes.result.1 c.sizes.ensures c.args.argument.now c.in-Rule.is
