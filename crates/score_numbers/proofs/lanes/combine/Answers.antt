use Rattle.std.proofs.Common.{◌≡◌, get_or, length, map, arith, rules}
use Rattle.std.proofs.lemmas.List.{length-map}
use Rattle.score_numbers.proofs.Combined.{all_combined, combined_more, value_of}
use Rattle.score_numbers.proofs.lanes.combine.Goals as goal

pub loop-k-preserved : goal.loop-k-preserved
loop-k-preserved g c =
    let value = g.N.Number.value in
    let k = c.loop-k.k in
    let lane = c.loop-k.lane in
    let other = c.args.other.now in
    let as_many : length lane ≡ 64 = search rules in
    combined_more value g.N.Number.width.limit g.C.Combination.exact (map value c.args.lane.now) (map value other) lane k
    (value (get_or lane k c.index-lane-k.result)) (value (get_or other k c.index-other-k.result)) c.of.result
    (value_of value lane k c.index-lane-k.result (omega (arith, as_many, c.loop-k-test.true)))
    (value_of value other k c.index-other-k.result (omega (arith, c.type_inv.other, c.loop-k-test.true)))
    c.of.ensures c.loop-k.invariant

pub returns : goal.returns
returns g c =
    let value = g.N.Number.value in
    let as_many : length c.args.lane.now ≡ 64 = search rules in
    all_combined g.N.Number.width.limit g.C.Combination.exact (map value c.args.lane.now) (map value c.args.other.now) (map value c.loop-k.lane) c.loop-k.k
    (omega (arith, as_many, length-map c.args.lane.now value, c.loop-k-test.false)) c.loop-k.invariant
