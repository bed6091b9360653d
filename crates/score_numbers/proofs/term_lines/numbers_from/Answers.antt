use Rattle.std.proofs.Common.{◌+◌, ◌<◌, get_or, length, map, refl, arith}
use Rattle.std.proofs.lemmas.List.{length-map}
use Rattle.std.proofs.lemmas.List.Elements.{Contains-get_or}
use Rattle.score_numbers.specs.Sums.{number_at}
use Rattle.score_numbers.proofs.LargestSums.{below_values, read_number, upto_values}
use Rattle.score_numbers.proofs.LiveNumbers.{all_aligned_loaded, loaded_more, none_loaded}
use Rattle.score_numbers.proofs.term_lines.numbers_from.Goals as goal

pub loop-k-init : goal.loop-k-init
loop-k-init g c =
    let value = g.N.Number.value in
    none_loaded value g.N.Number.width.mark (λ k. c.args.begin + k) (map value c.args.numbers.now) c.mark-lane.result c.mark-lane.ensures

pub loop-k-preserved : goal.loop-k-preserved
loop-k-preserved g c =
    let value = g.N.Number.value in
    let numbers = c.args.numbers.now in
    let k = c.loop-k.k in
    let begin = c.args.begin in
    let less : (k < 64) × (begin + k < length c.args.positions.at.now) = (omega (arith, c.loop-k-test.true, c.min-count.ensures), omega (arith, c.loop-k-test.true, c.min-count.ensures, c.requires.within)) in
    loaded_more value g.N.Number.width.mark (λ k. begin + k) (map value numbers) c.loop-k.lane k _ less.0
    (read_number value numbers (begin + k) c.index-numbers-begin.result (value c.index-numbers-begin.result) (omega (arith, less.1, length-map numbers value, c.if-numbers-positions.true)) c.index-numbers-begin.is refl) c.loop-k.invariant

pub returns-after-loop-k : goal.returns-after-loop-k
returns-after-loop-k g c =
    let value = g.N.Number.value in
    let numbers = c.args.numbers.now in
    let k = c.loop-k.k in
    let end = c.loop-k.auto.k-end in
    all_aligned_loaded g.N.Number.width.mark c.args.positions (map value numbers) (map value c.loop-k.lane) c.args.begin k
    (λ j l m. omega (arith, l, m, c.loop-k-test.false, c.min-count.ensures)) (omega (arith, end, c.min-count.ensures, c.requires.within))
    c.requires.have c.requires.rising (omega (arith, length-map numbers value, c.if-numbers-positions.true)) c.loop-k.invariant

pub loop-k-else-numbers-positions-init : goal.loop-k-else-numbers-positions-init
loop-k-else-numbers-positions-init g c =
    let value = g.N.Number.value in
    let positions = c.args.positions in
    none_loaded value g.N.Number.width.mark (λ k. number_at positions (get_or positions.at.now (c.args.begin + k) 0)) (map value c.args.numbers.now) c.mark-lane.result c.mark-lane.ensures

pub overflow_sub-lane : goal.overflow_sub-lane
overflow_sub-lane g c =
    let positions = c.args.positions in
    let k = c.loop-k-else-numbers-positions.k in
    let stands = Contains-get_or positions.at.now (c.args.begin + k) 0 (omega (arith, c.loop-k-else-numbers-positions-test.true, c.min-count.ensures, c.requires.within)) in
    c.requires.have.from_first (get_or positions.at.now (c.args.begin + k) 0) stands

pub offset_bounds-numbers-positions : goal.offset_bounds-numbers-positions
offset_bounds-numbers-positions g c =
    let positions = c.args.positions in
    let k = c.loop-k-else-numbers-positions.k in
    let position = get_or positions.at.now (c.args.begin + k) 0 in
    let stands = Contains-get_or positions.at.now (c.args.begin + k) 0 (omega (arith, c.loop-k-else-numbers-positions-test.true, c.min-count.ensures, c.requires.within)) in
    upto_values g.N.Number.value c.args.numbers.now (number_at positions position) (c.requires.have.before position stands)

pub bounds-numbers-positions : goal.bounds-numbers-positions
bounds-numbers-positions g c =
    let positions = c.args.positions in
    let k = c.loop-k-else-numbers-positions.k in
    let position = get_or positions.at.now (c.args.begin + k) 0 in
    let stands = Contains-get_or positions.at.now (c.args.begin + k) 0 (omega (arith, c.loop-k-else-numbers-positions-test.true, c.min-count.ensures, c.requires.within)) in
    below_values g.N.Number.value c.args.numbers.now (number_at positions position) (c.requires.have.before position stands)

pub loop-k-else-numbers-positions-preserved : goal.loop-k-else-numbers-positions-preserved
loop-k-else-numbers-positions-preserved g c =
    let value = g.N.Number.value in
    let positions = c.args.positions in
    let numbers = c.args.numbers.now in
    let k = c.loop-k-else-numbers-positions.k in
    let begin = c.args.begin in
    let less : (k < 64) × (begin + k < length positions.at.now) =
    (omega (arith, c.loop-k-else-numbers-positions-test.true, c.min-count.ensures), omega (arith, c.loop-k-else-numbers-positions-test.true, c.min-count.ensures, c.requires.within)) in
    let position = get_or positions.at.now (begin + k) 0 in
    let stands = Contains-get_or positions.at.now (begin + k) 0 less.1 in
    loaded_more value g.N.Number.width.mark (λ k. number_at positions (get_or positions.at.now (begin + k) 0)) (map value numbers) c.loop-k-else-numbers-positions.lane k _ less.0
    (read_number value numbers (number_at positions position) c.index-numbers-positions.result (value c.index-numbers-positions.result) (c.requires.have.before position stands) c.index-numbers-positions.is refl)
    c.loop-k-else-numbers-positions.invariant
