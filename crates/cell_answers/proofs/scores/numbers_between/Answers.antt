use Rattle.std.proofs.Common.{◌<◌, length, subst, arith}
use Rattle.std.proofs.lemmas.Grind.{common_steps}
use Rattle.cell_answers.proofs.Lists.{some_within}
use Rattle.cell_answers.proofs.scores.numbers_between.Goals as goal

pub between-requires-clause-first : goal.between-requires-clause-first
between-requires-clause-first g c = grind (arith, common_steps)

pub between-requires-clause-last : goal.between-requires-clause-last
between-requires-clause-last g c = grind (arith, common_steps)

pub returns-in-Rule-clause-values : goal.returns-in-Rule-clause-values
returns-in-Rule-clause-values g c = grind (arith, common_steps)

pub returns-in-Rule-clause-none_else : goal.returns-in-Rule-clause-none_else
returns-in-Rule-clause-none_else g c = λ position some.
    let inside : position < length c.between.result.now = some_within c.between.result.now position some in
    (c.in-Rule.rule, c.in-Rule.is, c.between.ensures.values position (subst (λ n. position < n) c.between.ensures.as_many inside))
