use Rattle.std.proofs.Common.{◌≡◌, length, map, w64, sym, subst, ◌∙◌, rules}
use Rattle.std.proofs.lemmas.Int.{to_z-of_z}
use Rattle.std.proofs.lemmas.List.{length-map}
use Rattle.score_numbers.specs.Sums.{AreLowSums}
use Rattle.score_numbers.proofs.LargestSums.{aligned_positions, plain_greatest}
use Rattle.score_numbers.proofs.sums.greatest_sum.Goals as goal

pub greatest_scaled-requires-clause-have : goal.greatest_scaled-requires-clause-have
greatest_scaled-requires-clause-have g c = c.requires.have

pub greatest_aligned-requires-clause-first : goal.greatest_aligned-requires-clause-first
greatest_aligned-requires-clause-first g c = c.requires.first

pub greatest_aligned-requires-clause-second : goal.greatest_aligned-requires-clause-second
greatest_aligned-requires-clause-second g c = c.requires.second

pub greatest_scattered-requires-clause-first : goal.greatest_scattered-requires-clause-first
greatest_scattered-requires-clause-first g c = c.requires.first

pub greatest_scattered-requires-clause-second : goal.greatest_scattered-requires-clause-second
greatest_scattered-requires-clause-second g c = c.requires.second

pub greatest_scattered-requires-clause-have : goal.greatest_scattered-requires-clause-have
greatest_scattered-requires-clause-have g c = c.requires.have

pub greatest_scaled-requires-clause-low : goal.greatest_scaled-requires-clause-low
greatest_scaled-requires-clause-low g c =
    let value = g.N.Number.value in
    let same : c.wide.result ≡ g.N.Number.width.mark = c.wide.ensures ∙ c.mark.ensures in
    subst (λ mark. AreLowSums mark c.args.scales c.args.positions (map value c.args.first.now) (map value c.args.second.now))
    (sym (to_z-of_z w64 c.wide.result (search rules) ∙ same)) c.requires.low

pub returns-then-second-positions : goal.returns-then-second-positions
returns-then-second-positions g c =
    let value = g.N.Number.value in
    let firsts = map value c.args.first.now in
    let seconds = map value c.args.second.now in
    let plain = c.are_plain.ensures.0 c.if-not-are_plain.false in
    let as_many : length firsts ≡ length c.args.positions.at.now =
    length-map c.args.first.now value ∙ c.if-first-positions.true in
    plain_greatest g.N.Number.width c.args.scales plain.0 plain.1 firsts seconds c.args.positions c.greatest_aligned.result
    (aligned_positions c.args.positions firsts seconds c.requires.have c.requires.rising as_many g.N.Number.width
    c.greatest_aligned.result c.greatest_aligned.ensures)

pub returns-else-first-positions : goal.returns-else-first-positions
returns-else-first-positions g c =
    let value = g.N.Number.value in
    let plain = c.are_plain.ensures.0 c.if-not-are_plain.false in
    plain_greatest g.N.Number.width c.args.scales plain.0 plain.1 (map value c.args.first.now) (map value c.args.second.now)
    c.args.positions c.greatest_scattered.result c.greatest_scattered.ensures
