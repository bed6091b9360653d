use Rattle.std.proofs.Common.{arith}
use Rattle.argument_search.proofs.skipping.both_noted.Goals as goal

pub returns-clause-noted : goal.returns-clause-noted
returns-clause-noted g c = λ position contains low high. record {
  first = c.first_noted-past.ensures.noted position contains low (omega (arith, high, c.second_noted.ensures.high));
  second = c.second_noted.ensures.noted position contains low high;
}
