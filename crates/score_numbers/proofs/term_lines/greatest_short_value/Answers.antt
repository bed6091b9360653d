use Rattle.std.proofs.Common.{rules}
use Rattle.score_numbers.specs.Greatest.{IsGreatestOf}
use Rattle.score_numbers.specs.Packing.{short}
use Rattle.score_numbers.specs.Sums.{HaveNumbers}
use Rattle.score_numbers.specs.TermLines.{AreLowValues, HasTermValueAt}
use Rattle.score_numbers.proofs.LargestSums.{as_values, from_values}
use Rattle.score_numbers.proofs.term_lines.greatest_short_value.Goals as goal

pub greatest_value-requires : goal.greatest_value-requires
greatest_value-requires c =
    let have = as_values (HaveNumbers c.args.positions) c.args.before.now c.args.behind.now c.requires.have in
    let low = as_values (AreLowValues short c.args.line.now c.args.positions) c.args.before.now c.args.behind.now c.requires.low in
    (search rules, (c.requires.two, (have, (c.requires.rising, low))))

pub returns : goal.returns
returns c =
    from_values (λ befores behinds. IsGreatestOf (HasTermValueAt short c.args.line.now c.args.positions befores behinds) c.greatest_value.result)
    c.args.before.now c.args.behind.now c.greatest_value.ensures
