use Rattle.std.proofs.Common.{refl}
use Rattle.table_certificate.proofs.SplitLines.{not_both}
use Rattle.table_certificate.proofs.WordCells.{lies_not, lies_there}
use Rattle.table_certificate.proofs.blocks.cell_in_word.Goals as goal

pub returns-then-lies_in_word-clause-exact : goal.returns-then-lies_in_word-clause-exact
returns-then-lies_in_word-clause-exact c = λ exact rule from to.
    lies_there c.args.problem.now c.args.rule c.args.from c.args.to exact c.admissible.ensures.limits.letters rule from to (c.lies_in_word.ensures.0 c.if-lies_in_word.true)

pub returns-then-lies_in_word-clause-inside : goal.returns-then-lies_in_word-clause-inside
returns-then-lies_in_word-clause-inside c =
    let lies = c.lies_in_word.ensures.0 c.if-lies_in_word.true in
    (record { span = record { in_order = lies.0; in_word = lies.1 }; sizes = lies.2 }, refl)

pub returns-else-lies_in_word-clause-exact : goal.returns-else-lies_in_word-clause-exact
returns-else-lies_in_word-clause-exact c = λ exact rule from to.
    lies_not c.args.problem.now c.args.rule c.args.from c.args.to exact c.admissible.ensures.limits.letters rule from to
    (λ lies. not_both c.lies_in_word.result c.if-lies_in_word.false (c.lies_in_word.ensures.1 lies))
