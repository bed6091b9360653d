use Rattle.std.proofs.Common.{◌<◌, Err, length, arith}
use Rattle.std.proofs.lemmas.List.Sorted.{searched}
use Rattle.argument_search.proofs.NotedPositions.{at_contained, never_falls, from_index}
use Rattle.argument_search.proofs.skipping.first_between.Goals as goal

pub returns-then-index-positions : goal.returns-then-index-positions
returns-then-index-positions c = λ position contains low high.
    let positions = c.args.positions.now in
    let told = searched positions c.args.begin (Err c.in-Err.index) c.in-Err.ensures.position
    (λ i j le l. never_falls positions c.requires.rising i j le l) in
    let it = from_index positions c.requires.rising c.args.begin c.in-Err.index told.1 position contains low in
    omega (arith, it.0, c.if-index-positions.true)

pub returns-then-position-past : goal.returns-then-position-past
returns-then-position-past c = λ position contains low high.
    let positions = c.args.positions.now in
    let told = searched positions c.args.begin (Err c.in-Err.index) c.in-Err.ensures.position
    (λ i j le l. never_falls positions c.requires.rising i j le l) in
    let it = from_index positions c.requires.rising c.args.begin c.in-Err.index told.1 position contains low in
    omega (arith, it.1, c.if-position-past.true, high)

pub returns : goal.returns
returns c =
    let positions = c.args.positions.now in
    let index = c.in-Err.index in
    let told = searched positions c.args.begin (Err index) c.in-Err.ensures.position
    (λ i j le l. never_falls positions c.requires.rising i j le l) in
    let inside : index < length positions = omega (arith, told.0, c.if-index-positions.false) in
    let above = told.2 index (omega arith) inside in
    record {
      stands = at_contained positions index inside;
      low = omega (arith, above);
      high = omega (arith, c.if-position-past.false);
      first = λ other contains low.
          (from_index positions c.requires.rising c.args.begin index told.1 other contains low).1;
    }
