use Rattle.std.proofs.Common.{ap, subst, arith}
use Rattle.score_numbers.specs.Packing.{short, medium, long}
use Rattle.cell_answers.specs.ArgumentEntries.{AreProperNumbers, told_numbers}
use Rattle.cell_answers.specs.PlainLines.{AreNumbersOn}
use Rattle.cell_answers.proofs.Spaced.{short_spaced, medium_spaced, long_spaced}
use Rattle.cell_answers.proofs.term_along.greatest_of_numbers.Goals as goal

pub greatest_short_value-greatest-requires-clause-have : goal.greatest_short_value-greatest-requires-clause-have
greatest_short_value-greatest-requires-clause-have c =
    let on : AreNumbersOn short c.args.line.now c.in-Short-Short.before.now c.in-Short-Short.behind.now = record {
      spaced = short_spaced;
      small = omega arith;
      firsts_proper = subst AreProperNumbers c.in-Short-Short.is-0 c.requires.row;
      seconds_proper = subst AreProperNumbers c.in-Short-Short.is-1 c.requires.column;
      firsts_told = ap (told_numbers c.args.line.now.row.goal) c.in-Short-Short.is-0;
      seconds_told = ap (told_numbers c.args.line.now.column.goal) c.in-Short-Short.is-1;
    } in
    (c.requires.fit short c.in-Short-Short.before.now c.in-Short-Short.behind.now on).0

pub greatest_short_value-greatest-requires-clause-low : goal.greatest_short_value-greatest-requires-clause-low
greatest_short_value-greatest-requires-clause-low c =
    let on : AreNumbersOn short c.args.line.now c.in-Short-Short.before.now c.in-Short-Short.behind.now = record {
      spaced = short_spaced;
      small = omega arith;
      firsts_proper = subst AreProperNumbers c.in-Short-Short.is-0 c.requires.row;
      seconds_proper = subst AreProperNumbers c.in-Short-Short.is-1 c.requires.column;
      firsts_told = ap (told_numbers c.args.line.now.row.goal) c.in-Short-Short.is-0;
      seconds_told = ap (told_numbers c.args.line.now.column.goal) c.in-Short-Short.is-1;
    } in
    (c.requires.fit short c.in-Short-Short.before.now c.in-Short-Short.behind.now on).1 (omega (arith, c.if-bound.true))

pub greatest_medium_value-greatest-requires-clause-have : goal.greatest_medium_value-greatest-requires-clause-have
greatest_medium_value-greatest-requires-clause-have c =
    let on : AreNumbersOn medium c.args.line.now c.in-Medium-Medium.before.now c.in-Medium-Medium.behind.now = record {
      spaced = medium_spaced;
      small = omega arith;
      firsts_proper = subst AreProperNumbers c.in-Medium-Medium.is-0 c.requires.row;
      seconds_proper = subst AreProperNumbers c.in-Medium-Medium.is-1 c.requires.column;
      firsts_told = ap (told_numbers c.args.line.now.row.goal) c.in-Medium-Medium.is-0;
      seconds_told = ap (told_numbers c.args.line.now.column.goal) c.in-Medium-Medium.is-1;
    } in
    (c.requires.fit medium c.in-Medium-Medium.before.now c.in-Medium-Medium.behind.now on).0

pub greatest_medium_value-greatest-requires-clause-low : goal.greatest_medium_value-greatest-requires-clause-low
greatest_medium_value-greatest-requires-clause-low c =
    let on : AreNumbersOn medium c.args.line.now c.in-Medium-Medium.before.now c.in-Medium-Medium.behind.now = record {
      spaced = medium_spaced;
      small = omega arith;
      firsts_proper = subst AreProperNumbers c.in-Medium-Medium.is-0 c.requires.row;
      seconds_proper = subst AreProperNumbers c.in-Medium-Medium.is-1 c.requires.column;
      firsts_told = ap (told_numbers c.args.line.now.row.goal) c.in-Medium-Medium.is-0;
      seconds_told = ap (told_numbers c.args.line.now.column.goal) c.in-Medium-Medium.is-1;
    } in
    (c.requires.fit medium c.in-Medium-Medium.before.now c.in-Medium-Medium.behind.now on).1 (omega (arith, c.if-bound-2.true))

pub greatest_long_value-greatest-requires-clause-have : goal.greatest_long_value-greatest-requires-clause-have
greatest_long_value-greatest-requires-clause-have c =
    let on : AreNumbersOn long c.args.line.now c.in-Long-Long.before.now c.in-Long-Long.behind.now = record {
      spaced = long_spaced;
      small = omega arith;
      firsts_proper = subst AreProperNumbers c.in-Long-Long.is-0 c.requires.row;
      seconds_proper = subst AreProperNumbers c.in-Long-Long.is-1 c.requires.column;
      firsts_told = ap (told_numbers c.args.line.now.row.goal) c.in-Long-Long.is-0;
      seconds_told = ap (told_numbers c.args.line.now.column.goal) c.in-Long-Long.is-1;
    } in
    (c.requires.fit long c.in-Long-Long.before.now c.in-Long-Long.behind.now on).0

pub greatest_long_value-greatest-requires-clause-low : goal.greatest_long_value-greatest-requires-clause-low
greatest_long_value-greatest-requires-clause-low c =
    let on : AreNumbersOn long c.args.line.now c.in-Long-Long.before.now c.in-Long-Long.behind.now = record {
      spaced = long_spaced;
      small = omega arith;
      firsts_proper = subst AreProperNumbers c.in-Long-Long.is-0 c.requires.row;
      seconds_proper = subst AreProperNumbers c.in-Long-Long.is-1 c.requires.column;
      firsts_told = ap (told_numbers c.args.line.now.row.goal) c.in-Long-Long.is-0;
      seconds_told = ap (told_numbers c.args.line.now.column.goal) c.in-Long-Long.is-1;
    } in
    (c.requires.fit long c.in-Long-Long.before.now c.in-Long-Long.behind.now on).1 (omega (arith, c.if-bound-3.true))

pub returns-in-Short-Short : goal.returns-in-Short-Short
returns-in-Short-Short c =
    let on : AreNumbersOn short c.args.line.now c.in-Short-Short.before.now c.in-Short-Short.behind.now = record {
      spaced = short_spaced;
      small = omega arith;
      firsts_proper = subst AreProperNumbers c.in-Short-Short.is-0 c.requires.row;
      seconds_proper = subst AreProperNumbers c.in-Short-Short.is-1 c.requires.column;
      firsts_told = ap (told_numbers c.args.line.now.row.goal) c.in-Short-Short.is-0;
      seconds_told = ap (told_numbers c.args.line.now.column.goal) c.in-Short-Short.is-1;
    } in
    record {
      width = short;
      firsts = c.in-Short-Short.before.now;
      seconds = c.in-Short-Short.behind.now;
      are = on;
      within = omega (arith, c.if-bound.true);
      is_greatest = c.greatest_short_value-greatest.ensures;
    }

pub returns-in-Medium-Medium : goal.returns-in-Medium-Medium
returns-in-Medium-Medium c =
    let on : AreNumbersOn medium c.args.line.now c.in-Medium-Medium.before.now c.in-Medium-Medium.behind.now = record {
      spaced = medium_spaced;
      small = omega arith;
      firsts_proper = subst AreProperNumbers c.in-Medium-Medium.is-0 c.requires.row;
      seconds_proper = subst AreProperNumbers c.in-Medium-Medium.is-1 c.requires.column;
      firsts_told = ap (told_numbers c.args.line.now.row.goal) c.in-Medium-Medium.is-0;
      seconds_told = ap (told_numbers c.args.line.now.column.goal) c.in-Medium-Medium.is-1;
    } in
    record {
      width = medium;
      firsts = c.in-Medium-Medium.before.now;
      seconds = c.in-Medium-Medium.behind.now;
      are = on;
      within = omega (arith, c.if-bound-2.true);
      is_greatest = c.greatest_medium_value-greatest.ensures;
    }

pub returns-in-Long-Long : goal.returns-in-Long-Long
returns-in-Long-Long c =
    let on : AreNumbersOn long c.args.line.now c.in-Long-Long.before.now c.in-Long-Long.behind.now = record {
      spaced = long_spaced;
      small = omega arith;
      firsts_proper = subst AreProperNumbers c.in-Long-Long.is-0 c.requires.row;
      seconds_proper = subst AreProperNumbers c.in-Long-Long.is-1 c.requires.column;
      firsts_told = ap (told_numbers c.args.line.now.row.goal) c.in-Long-Long.is-0;
      seconds_told = ap (told_numbers c.args.line.now.column.goal) c.in-Long-Long.is-1;
    } in
    record {
      width = long;
      firsts = c.in-Long-Long.before.now;
      seconds = c.in-Long-Long.behind.now;
      are = on;
      within = omega (arith, c.if-bound-3.true);
      is_greatest = c.greatest_long_value-greatest.ensures;
    }
