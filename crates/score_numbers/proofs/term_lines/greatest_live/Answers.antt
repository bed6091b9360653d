use Rattle.std.proofs.Common.{get_or, length, map, ◌≡◌, ℕ, arith, rules}
use Rattle.std.proofs.lemmas.List.{length-map}
use Rattle.score_numbers.specs.Spaced.{least_sum}
use Rattle.score_numbers.specs.TermLines.{HasLive}
use Rattle.score_numbers.proofs.Combined.{value_of}
use Rattle.score_numbers.proofs.LargestSums.{largest_sum}
use Rattle.score_numbers.proofs.LiveNumbers.{all_live, live_more}
use Rattle.score_numbers.proofs.term_lines.greatest_live.Goals as goal

pub loop-k-preserved : goal.loop-k-preserved
loop-k-preserved g c =
    let value = g.N.Number.value in
    let k = c.loop-k.k in
    let lane = c.args.lane.now in
    let before = c.args.before.now in
    let behind = c.args.behind.now in
    live_more g.N.Number.width c.is_spaced.ensures (map value before) (map value behind) (map value lane) c.requires k (value c.loop-k.greatest) (value c.most-greatest.result) (value c.live.result)
    (value (get_or before k c.index-before-k.result)) (value (get_or behind k c.index-behind-k.result)) (value (get_or lane k c.index-lane-k.result)) c.most-greatest.ensures
    (value_of value before k c.index-before-k.result (omega (arith, c.type_inv.before, c.loop-k-test.true)))
    (value_of value behind k c.index-behind-k.result (omega (arith, c.type_inv.behind, c.loop-k-test.true)))
    (value_of value lane k c.index-lane-k.result (omega (arith, c.type_inv.lane, c.loop-k-test.true)))
    c.live.ensures.marked c.live.ensures.live c.loop-k.invariant

pub returns : goal.returns
returns g c =
    let value = g.N.Number.value in
    let as_many : length c.args.lane.now ≡ 64 = search rules in
    let lane = map value c.args.lane.now in
    let before = map value c.args.before.now in
    let behind = map value c.args.behind.now in
    largest_sum (least_sum g.N.Number.width) (λ number. (k : ℕ) × HasLive g.N.Number.width before behind lane k number) (value c.loop-k.greatest) c.sum_of.result c.sum_of.ensures
    (all_live g.N.Number.width before behind lane (least_sum g.N.Number.width) c.loop-k.k (value c.loop-k.greatest) (omega (arith, as_many, length-map c.args.lane.now value, c.loop-k-test.false)) c.loop-k.invariant)
