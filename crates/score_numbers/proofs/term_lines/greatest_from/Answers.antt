use Rattle.std.proofs.Common.{map, rules}
use Rattle.score_numbers.proofs.TermChunks.{greatest_here, have_alone, have_behind, live_low}
use Rattle.score_numbers.proofs.term_lines.greatest_from.Goals as goal

pub numbers_from-before-requires : goal.numbers_from-before-requires
numbers_from-before-requires g c =
    let have = have_alone c.args.positions (map g.N.Number.value c.args.before.now) (map g.N.Number.value c.args.behind.now) c.requires.have in
    (search rules, (have, (c.requires.rising, c.requires.within)))

pub numbers_from-behind-requires : goal.numbers_from-behind-requires
numbers_from-behind-requires g c =
    let have = have_behind c.args.positions (map g.N.Number.value c.args.before.now) (map g.N.Number.value c.args.behind.now) c.requires.have in
    (search rules, (have, (c.requires.rising, c.requires.within)))

pub greatest_live-requires : goal.greatest_live-requires
greatest_live-requires g c =
    let value = g.N.Number.value in
    let low = live_low c.values_are_within_magnitudes.ensures g.N.Number.width c.args.line.now c.args.positions (map value c.args.before.now) (map value c.args.behind.now) c.requires.low c.args.begin
    (map value c.numbers_from-before.result) (map value c.numbers_from-behind.result) (map value c.fill.new.lane) (map value c.turn.new.lane) c.numbers_from-before.ensures c.numbers_from-behind.ensures c.fill.ensures c.turn.ensures in
    (search rules, low)

pub returns : goal.returns
returns g c =
    let value = g.N.Number.value in
    greatest_here c.values_are_within_magnitudes.ensures g.N.Number.width c.args.line.now c.args.positions (map value c.args.before.now) (map value c.args.behind.now) c.requires.low c.args.begin
    (map value c.numbers_from-before.result) (map value c.numbers_from-behind.result) (map value c.fill.new.lane) (map value c.turn.new.lane) c.numbers_from-before.ensures c.numbers_from-behind.ensures c.fill.ensures c.turn.ensures
    c.greatest_live.result c.greatest_live.ensures
